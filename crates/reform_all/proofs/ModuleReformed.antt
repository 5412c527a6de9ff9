-- A script whose statements are reformed is reformed.
use Rattle.std.proofs.Common.{◌≡◌, ℕ, List, [], ◌∷◌, Ok, None, refl, sym, subst, arith}
use Rattle.py_ast.specs.declared.scoped.Scoped.{Scoped}
use Rattle.py_scopes.specs.Resolve.{scopes_of}
use Rattle.py_scopes.specs.Survey.{surveyed}
use Rattle.node_tree.specs.declared.node.Node.{Node}
use Rattle.node_tree.specs.declared.script.NodeCode.{NodeCode}
use Rattle.py_meaning.specs.Resolved.{module_context}
use Rattle.reform_all.specs.Built.{bound_in}
use Rattle.reform_all.specs.Module.{module_code, module_script}
use Rattle.reform_all.specs.Scripts.{IsReformed}
use Rattle.reform_all.specs.Statements.{AllStated}
use Rattle.reform_all.proofs.Module.{module_is}
use Rattle.reform_all.proofs.ModuleRun.{no_homes, headers_are, module_same}

pub module_reformed : (name : List ℕ) (s : Scoped) → s.scopes ≡ scopes_of (surveyed s.script.statements) → (new : ℕ) (body : List Node)
    → AllStated (bound_in s.script.statements) s.script.statements 0 new (Ok body) → IsReformed name s (module_script name body)
module_reformed name s e new body b =
    let m = module_is s e b.built in
    let c = module_context s.scopes 0 in
    let block = b.means c (m.inside 0) in
    record {
      built = b.built;
      name = refl;
      scripts = sym m.one;
      headers = headers_are s m block (b.is c (m.inside 0)) body;
      single = m.one;
      «module» = refl;
      same = λ rules input. module_same rules name block body s m (b.is c (m.inside 0)) new (b.carries c (m.inside 0) no_homes 0 None (omega arith) (omega arith)) input;
      taken = (b.taken, tt);
      yields = (b.yields, tt);
    }

pub script_reformed : (file : List ℕ) (s : Scoped) → s.scopes ≡ scopes_of (surveyed s.script.statements) → (new : ℕ) (body : List Node) (name : List ℕ) (codes : List NodeCode)
    → name ≡ file → codes ≡ module_code body ∷ [] → AllStated (bound_in s.script.statements) s.script.statements 0 new (Ok body) → IsReformed file s (record { name = name; scripts = 1; codes = codes })
script_reformed file s e new body name codes n c b =
    subst (λ x. IsReformed file s (record { name = x; scripts = 1; codes = codes })) (sym n)
    (subst (λ cs. IsReformed file s (record { name = file; scripts = 1; codes = cs })) (sym c) (module_reformed file s e new body b))
