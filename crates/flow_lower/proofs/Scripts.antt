-- The flat code of a node tree does what the tree does.
use Rattle.std.proofs.Common.{◌≡◌, ℕ, zero, suc, List, [], ◌∷◌, ◌++◌, length, take, map, Option, Some, None, Bool, true, false, nat_le, slice_get, if◌then◌else◌, refl, sym, ap, ◌∙◌, subst}
use Rattle.std.specs.Prelude.{◌&&◌}
use Rattle.std.proofs.lemmas.Bool.{leb-true}
use Rattle.nu_run.specs.Runs.{IsDefined, Same}
use Rattle.nu_value.specs.declared.value.Value.{Value}
use Rattle.nu_calls.specs.Surroundings.{Surroundings}
use Rattle.nu_calls.specs.Calls.{of_kind}
use Rattle.op_forms.specs.Rules.{Rules}
use Rattle.node_tree.specs.declared.script.NodeCode.{NodeCode}
use Rattle.node_tree.specs.declared.script.NodeScript.{NodeScript}
use Rattle.node_tree.specs.Blocks as tree
use Rattle.node_tree.specs.Nodes as node
use Rattle.node_tree.specs.Run.{begun_frame, header as node_header, node_run}
use Rattle.node_tree.specs.Tree.{block, block_of, code_block}
use Rattle.flow_code.specs.declared.function.FlatFunction.{FlatFunction}
use Rattle.flow_code.specs.declared.function.FlatScript.{FlatScript}
use Rattle.flow_code.specs.declared.statement.Line.{Line}
use Rattle.flow_code.specs.declared.statement.Statement.TheVariants as flat
use Rattle.flow_code.specs.Machine as machine
use Rattle.flow_code.specs.Run.{find, is_there, lines_of, header as flat_header, with_lines, machine_run, flat_run}
use Rattle.flow_lower.specs.Lower.{body_lines, code_lines}
use Rattle.flow_lower.specs.Correct.{LowersCode, LowersEach, Lowers, DoesTheSame}
use Rattle.flow_lower.proofs.Labels.{skip_copies, Fails, body_fail}
use Rattle.flow_lower.proofs.Points.{top, Owns}
use Rattle.flow_lower.proofs.Ran.{Stack, Waiting, flat_frame, Code, mm, C}
use Rattle.flow_lower.proofs.Bodies.{Stands}
use Rattle.flow_lower.proofs.Opening.{opening}
use Rattle.flow_lower.proofs.Program.{program_same}

-- at each number there is a code and its function, or neither
abbrev AtBoth : Option NodeCode → Option FlatFunction → Type 0
AtBoth None None = Unit {0}
AtBoth (Some c) (Some f) = LowersCode c f
AtBoth None (Some f) = ⊥
AtBoth (Some c) None = ⊥

at_each : (cs : List NodeCode) (fs : List FlatFunction) → LowersEach cs fs → (n : ℕ) → AtBoth (slice_get cs n) (slice_get fs n)
at_each [] [] h n = tt
at_each [] (f ∷ fs) h n = absurd h
at_each (c ∷ cs) [] h n = absurd h
at_each (c ∷ cs) (f ∷ fs) h zero = h.0
at_each (c ∷ cs) (f ∷ fs) h (suc n) = at_each cs fs h.1 n

headers_same : (cs : List NodeCode) (fs : List FlatFunction) → LowersEach cs fs → map flat_header fs ≡ map node_header cs
headers_same [] [] h = refl
headers_same [] (f ∷ fs) h = absurd h
headers_same (c ∷ cs) [] h = absurd h
headers_same (c ∷ cs) (f ∷ fs) h =
    ap (λ x. x ∷ map flat_header fs) h.0.header ∙ ap (λ xs. node_header c ∷ xs) (headers_same cs fs h.1)

both_true : (x y : Bool) → (x && y) ≡ true → (x ≡ true) × (y ≡ true)
both_true true true e = (refl, refl)
both_true true false e = cc
both_true false y e = cc

abbrev some_there : Option FlatFunction → Bool
some_there (Some f) = true
some_there None = false

kind_there : (kind : Bool) (f : Option FlatFunction) → is_there kind f ≡ true → some_there f ≡ true
kind_there kind None e = e
kind_there kind (Some f) e = refl

kind_first : {A : Type 0} (b y : Bool) (x : A) (fr : A) → (if b && y then Some x else None) ≡ Some fr → b ≡ true
kind_first true y x fr e = refl
kind_first false y x fr e = cc

kind_rest : {A : Type 0} (b y : Bool) (x : A) (fr : A) → (if b && y then Some x else None) ≡ Some fr → (if y then Some x else None) ≡ Some fr
kind_rest true y x fr e = e
kind_rest false y x fr e = cc

module _ (rules : Rules) (script : NodeScript) (flat_script : FlatScript) (h : Lowers script flat_script) where
  abbrev code_at : ℕ → Option NodeCode
  code_at c = slice_get script.codes c

  abbrev function_at : ℕ → Option FlatFunction
  function_at c = slice_get flat_script.functions c

  abbrev q : Code
  q = record {
    rules = rules;
    scripts = script.scripts;
    file = script.name;
    headers = map node_header script.codes;
    has = λ kind c. is_there kind (function_at c);
    there = λ c. some_there (function_at c);
    lines = λ c. lines_of (function_at c);
    blocks = code_block script.codes;
    frames = λ kind c given cells. begun_frame kind c given cells (code_at c);
  }

  -- the labels of a function stand behind what copies what it was handed
  behind : (x : NodeCode) (f : FlatFunction) → LowersCode x f → (l : ℕ) → find l f.body ≡ find l (body_lines (block x.body))
  behind x f h l = ap (λ ls. find l ls) h.body ∙ skip_copies l flat.Parameter (length x.header.params) 0 0 _ ∙ skip_copies l flat.Free x.free (length x.header.params) 0 _

  fails_at : (x : Option NodeCode) (f : Option FlatFunction) → AtBoth x f → some_there f ≡ true → Fails (block_of x) (find 0 (lines_of f))
  fails_at None None b e = cc
  fails_at None (Some f) b e = absurd b
  fails_at (Some x) None b e = absurd b
  fails_at (Some x) (Some f) b e = subst (λ ls. Fails (block x.body) ls) (sym (behind x f b 0)) (body_fail (block x.body))

  owns_at : (x : Option NodeCode) (f : Option FlatFunction) → AtBoth x f → some_there f ≡ true → Owns (lines_of f) (block_of x) 1 (top (block_of x))
  owns_at None None b e = cc
  owns_at None (Some f) b e = absurd b
  owns_at (Some x) None b e = absurd b
  owns_at (Some x) (Some f) b e = record { by = λ l p r. behind x f b l }

  absent_at : (x : Option NodeCode) (f : Option FlatFunction) → AtBoth x f → some_there f ≡ false → block_of x ≡ tree.Stop
  absent_at None None b e = refl
  absent_at None (Some f) b e = absurd b
  absent_at (Some x) None b e = absurd b
  absent_at (Some x) (Some f) b e = cc

  there_at : (kind : Bool) (c : ℕ) (given cells : List Value) (fr : node.Frame) (x : Option NodeCode) (f : Option FlatFunction) → AtBoth x f → begun_frame kind c given cells x ≡ Some fr → is_there kind f ≡ true
  there_at kind c given cells fr None None b e = cc
  there_at kind c given cells fr None (Some f) b e = absurd b
  there_at kind c given cells fr (Some x) None b e = absurd b
  there_at kind c given cells fr (Some x) (Some f) b e = ap (λ d. of_kind kind d.generator) b.header ∙ kind_first (of_kind kind x.header.generator) _ _ fr e

  abbrev Opens : ℕ → List Value → List Value → node.Frame → tree.Block → List Line → Type 0
  Opens c given cells fr b ls = (stack : Stack) (a : Surroundings Waiting) (out : List ℕ) → C q (machine.at c ls (machine.fresh c given cells) None stack a out) (machine.at c (body_lines b) (flat_frame fr) None stack a out)

  opens_code : (c : ℕ) (given cells : List Value) (fr : node.Frame) (x : NodeCode) (y : Bool) → (nat_le (length x.header.params) (length given) && nat_le x.free (length cells)) ≡ y → (if y then Some (record { code = c; given = given; cells = cells; temps = slice_get (take (length x.header.params) given ++ take x.free cells) }) else None) ≡ Some fr → Opens c given cells fr (block x.body) (code_lines x)
  opens_code c given cells fr x false ey e stack a out = cc
  opens_code c given cells fr x true ey e stack a out =
      let t = both_true (nat_le (length x.header.params) (length given)) (nat_le x.free (length cells)) ey in
      let start : node.Frame = record { code = c; given = given; cells = cells; temps = slice_get (take (length x.header.params) given ++ take x.free cells) } in
      let e2 : Some start ≡ Some fr = e in
      let ef : start ≡ fr = cc in
      subst (λ z. C q (machine.at c (code_lines x) (machine.fresh c given cells) None stack a out) (machine.at c (body_lines (block x.body)) (flat_frame z) None stack a out)) ef
      (opening q c stack a out given cells (length x.header.params) x.free (body_lines (block x.body)) (leb-true _ _ t.0) (leb-true _ _ t.1))

  opens_at : (kind : Bool) (c : ℕ) (given cells : List Value) (fr : node.Frame) (x : Option NodeCode) (f : Option FlatFunction) → AtBoth x f → begun_frame kind c given cells x ≡ Some fr → Opens c given cells fr (block_of x) (lines_of f)
  opens_at kind c given cells fr None None b e = λ stack a out. cc
  opens_at kind c given cells fr None (Some f) b e = absurd b
  opens_at kind c given cells fr (Some x) None b e = absurd b
  opens_at kind c given cells fr (Some x) (Some f) b e =
      subst (λ ls. Opens c given cells fr (block x.body) ls) (sym b.body) (opens_code c given cells fr x _ refl (kind_rest (of_kind kind x.header.generator) _ _ fr e))

  stands : Stands q
  stands = record {
    owns = λ c e. owns_at (code_at c) (function_at c) (at_each script.codes flat_script.functions h.functions c) e;
    fails = λ c e. fails_at (code_at c) (function_at c) (at_each script.codes flat_script.functions h.functions c) e;
    absent = λ c e. absent_at (code_at c) (function_at c) (at_each script.codes flat_script.functions h.functions c) e;
    is_there = λ kind c given cells f e. there_at kind c given cells f (code_at c) (function_at c) (at_each script.codes flat_script.functions h.functions c) e;
    there = λ kind c e. kind_there kind (function_at c) e;
    opens = λ kind c given cells f e. opens_at kind c given cells f (code_at c) (function_at c) (at_each script.codes flat_script.functions h.functions c) e;
  }

  machine_is : (input : List ℕ) → machine_run (mm q) input ≡ flat_run rules flat_script input
  machine_is input =
      ap (λ n. machine_run (with_lines rules n script.name (map node_header script.codes) (λ kind c. is_there kind (function_at c)) (λ c. lines_of (function_at c))) input) (sym h.scripts)
      ∙ ap (λ n. machine_run (with_lines rules flat_script.scripts n (map node_header script.codes) (λ kind c. is_there kind (function_at c)) (λ c. lines_of (function_at c))) input) (sym h.name)
      ∙ ap (λ n. machine_run (with_lines rules flat_script.scripts flat_script.name n (λ kind c. is_there kind (function_at c)) (λ c. lines_of (function_at c))) input) (sym (headers_same script.codes flat_script.functions h.functions))

  script_same : (input : List ℕ) → IsDefined (node_run rules script input) → Same (node_run rules script input) (flat_run rules flat_script input)
  script_same input d = subst (λ r. Same (node_run rules script input) r) (machine_is input) (program_same q stands input d)

pub lowers_same : (script : NodeScript) (flat_script : FlatScript) → Lowers script flat_script → DoesTheSame script flat_script
lowers_same script flat_script h rules input d = script_same rules script flat_script h input d
