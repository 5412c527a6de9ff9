-- The run of a module, by its nodes.
use Rattle.std.proofs.Common.{◌≡◌, ℕ, zero, suc, Bool, true, false, ◌&&◌, cond, nat_le, List, [], ◌∷◌, map, length, Some, None, refl, ap, ◌∙◌, sym, subst, arith}
use Rattle.std.specs.Prelude.{slice_get}
use Rattle.nu_run.specs.Runs.{Same}
use Rattle.nu_value.specs.declared.header.Header.{Header}
use Rattle.nu_value.specs.declared.value.Value.{Value}
use Rattle.nu_calls.specs.Calls.{of_kind}
use Rattle.op_forms.specs.Rules.{Rules}
use Rattle.py_ast.specs.declared.scoped.Scope.{Scope}
use Rattle.py_ast.specs.declared.scoped.Scoped.{Scoped}
use Rattle.node_tree.specs.declared.node.Node.{Node}
use Rattle.node_tree.specs.Nodes as nodes
use Rattle.node_tree.specs.Run as node_run
use Rattle.node_tree.specs.Tree as tree
use Rattle.py_meaning.specs.Frames as python
use Rattle.py_meaning.specs.Bodies as bodies
use Rattle.py_meaning.specs.Syntax as syntax
use Rattle.py_meaning.specs.Resolved as meaning
use Rattle.py_meaning.specs.Scopes.{local_names, own_names, free_names, parameter_of}
use Rattle.py_meaning.specs.Script.{py_run, all_codes}
use Rattle.carries_base.specs.Frames.{Homes, begun}
use Rattle.carries_base.specs.Carries.{Setting, BegunAs, Correspond, BodyEnds, CarriesBlock, CarriesCode, CarriesScript}
use Rattle.carries_base.proofs.Carry.{none_by}
use Rattle.carries_base.proofs.Codes.{plain_carried}
use Rattle.carries_base.proofs.Scripts.{script_same}
use Rattle.reform_all.specs.Expressions.{Is}
use Rattle.reform_all.specs.Module.{IsModule, module_code, module_script}
use Rattle.reform_all.specs.Scripts.{module_header}

-- The code of a module

abbrev pub python_code : syntax.Block → syntax.Code
python_code b = record { header = module_header; locals = 0; owns = []; frees = 0; body = syntax.Statements b }

abbrev made : Header → List (List ℕ) → List (List ℕ) → List (List ℕ) → syntax.Block → syntax.Code
made header locals owns frees b = record { header = header; locals = length locals; owns = map (parameter_of []) owns; frees = length frees; body = syntax.Statements b }

code_is : (scopes : List Scope) → IsModule scopes → (b : syntax.Block) → meaning.code (meaning.module_context scopes 0) [] (syntax.Statements b) ≡ python_code b
code_is scopes m b =
    ap (λ h. made h (local_names scopes 0 []) (own_names scopes 0) (free_names scopes 0) b) m.header
    ∙ ap (λ locals. made module_header locals (own_names scopes 0) (free_names scopes 0) b) m.locals
    ∙ ap (λ owns. made module_header [] owns (free_names scopes 0) b) m.owns
    ∙ ap (λ frees. made module_header [] [] frees b) m.frees

-- the statements of the script are this block
abbrev pub IsBody : Scoped → syntax.Block → Type 0
IsBody s b = Is (meaning.block (meaning.module_context s.scopes 0) (map meaning.stmt s.script.statements)) b

pub codes_are : (s : Scoped) → IsModule s.scopes → (b : syntax.Block) → IsBody s b → all_codes s None ≡ python_code b ∷ []
codes_are s m b i = ap (meaning.module_codes (meaning.module_context s.scopes 0)) (i 1) ∙ ap (λ c. c ∷ []) (code_is s.scopes m b)

pub headers_are : (s : Scoped) → IsModule s.scopes → (b : syntax.Block) → IsBody s b → (body : List Node) → map node_run.header (module_code body ∷ []) ≡ map (λ code. code.header) (all_codes s None)
headers_are s m b i body = sym (ap (map (λ code. code.header)) (codes_are s m b i))

-- The names of a module have no temporaries

abbrev pub no_homes : Homes
no_homes = record { params = 0; frees = 0; owns = 0; locals = 0; filled = 0; made = 0 }

-- no frames are those of a code that isn't there
abbrev absent : Homes
absent = record { params = 1; frees = 0; owns = 0; locals = 0; filled = 0; made = 0 }

abbrev homes : ℕ → Homes
homes zero = no_homes
homes (suc n) = absent

begun_alike : (here : Bool) (given cells : List Value) (f : python.Frame) (g : nodes.Frame) → f.code ≡ g.code → f.locals ≡ [] → f.owns ≡ []
    → BegunAs no_homes (cond here (Some f) None) (cond here (Some g) None)
begun_alike false given cells f g c l o = tt
begun_alike true given cells f g c l o = record {
  room = record { params = omega arith; filled = omega arith; made = omega arith };
  code = c;
  count = ap length l;
  made = ap length o;
  rest = λ place le. ap (λ vs. python.at vs place) l;
  locals = λ place lt. absurd (omega (arith, lt));
  owns = λ place lt. absurd (omega (arith, lt));
  frees = λ place lt. absurd (omega (arith, lt));
  facts = tt;
}

module _ (rules : Rules) (name : List ℕ) (b : syntax.Block) (body : List Node) where
  abbrev setting : Setting
  setting = record { rules = rules; codes = python_code b ∷ []; script = module_script name body; homes = homes }

  begins : (kind : Bool) (code : ℕ) (given cells : List Value)
      → BegunAs (homes code) (bodies.begun_frame kind code given cells (slice_get (python_code b ∷ []) code)) (node_run.begun_frame kind code given cells (slice_get (module_code body ∷ []) code))
  begins kind zero given cells = begun_alike (of_kind kind false && (nat_le 0 (length given) && nat_le 0 (length cells))) given cells _ _ refl refl refl
  begins kind (suc n) given cells = tt

  carried : (high : ℕ) → CarriesBlock no_homes 0 high None b (tree.block body) → (code : ℕ) → CarriesCode setting code
  carried high x zero = plain_carried setting 0 0 high (python_code b) b refl refl refl refl x
  carried high x (suc n) = none_by setting absent (λ tabs. Correspond setting (begun absent) tabs []) (BodyEnds setting) _ _ (λ tabs s t c. let room = c.frames.room.params in omega (arith, room))

  script_carried : (high : ℕ) → CarriesBlock no_homes 0 high None b (tree.block body) → CarriesScript setting
  script_carried high x = record { headers = refl; begins = begins; codes = carried high x }

  -- a module has the run of its nodes, where these carry its statements
  pub module_same : (s : Scoped) → IsModule s.scopes → IsBody s b → (high : ℕ) → CarriesBlock no_homes 0 high None b (tree.block body)
      → (input : List ℕ) → Same (py_run rules name s None input) (node_run.node_run rules (module_script name body) input)
  module_same s m i high x input =
      subst (λ n. Same (bodies.codes_run rules name n (all_codes s None) input) (node_run.node_run rules (module_script name body) input)) (sym m.one)
      (subst (λ cs. Same (bodies.codes_run rules name 1 cs input) (node_run.node_run rules (module_script name body) input)) (sym (codes_are s m b i))
      (script_same setting (script_carried high x) input))
