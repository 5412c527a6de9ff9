-- What a script becomes.
use Rattle.std.specs.Prelude.{◌≡◌, ℕ, List, [], ◌∷◌, map, length, codes, false, Some, None, Result, Ok, Err}
use Rattle.std.specs.List.{AllByRecursion}
use Rattle.nu_run.specs.Runs.{Same}
use Rattle.nu_value.specs.declared.header.Header.{Header}
use Rattle.op_forms.specs.Rules.{Rules}
use Rattle.py_ast.specs.declared.scoped.Scoped.{Scoped}
use Rattle.py_meaning.specs.Script.{py_run, all_codes}
use Rattle.node_tree.specs.declared.script.NodeScript.{NodeScript}
use Rattle.node_tree.specs.Contents.{yields}
use Rattle.node_tree.specs.Run.{node_run, header}
use Rattle.node_tree.specs.Tree.{block}
use Rattle.reform_all.specs.declared.ending.ReformEnd.{ReformEnd}
use Rattle.reform_all.specs.declared.ending.ReformEnd.TheVariants as end
use Rattle.reform_all.specs.Built.{first_unbuilt}
use Rattle.reform_all.specs.Taken.{refused}

-- what stands before the code of a module
abbrev pub module_header : Header
module_header = record { scope = codes "<module>"; params = []; generator = false; line = 1 }

-- the nodes have this file name and the codes of the script by their numbers, which is one yet, and do what the script does, under all
-- rules of operations and over every input. Each operation in them is there and takes what it is given, and no pause stands in them
pub record IsReformed (file : List ℕ) (s : Scoped) (nodes : NodeScript) : Type 0 where
  pub built : first_unbuilt s.script.statements ≡ None
  pub name : nodes.name ≡ file
  pub scripts : nodes.scripts ≡ length s.scopes
  pub headers : map header nodes.codes ≡ map (λ code. code.header) (all_codes s None)
  pub single : length s.scopes ≡ 1
  pub «module» : map header nodes.codes ≡ module_header ∷ []
  pub same : (rules : Rules) (input : List ℕ) → Same (py_run rules file s None input) (node_run rules nodes input)
  pub taken : AllByRecursion (λ code. refused (block code.body) ≡ 0) nodes.codes
  pub yields : AllByRecursion (λ code. yields (block code.body) ≡ 0) nodes.codes

abbrev pub Reformed : List ℕ → Scoped → Result NodeScript ReformEnd → Type 0
Reformed name s (Ok nodes) = IsReformed name s nodes
Reformed name s (Err (end.Unbuilt line)) = first_unbuilt s.script.statements ≡ Some line
Reformed name s (Err end.Memory) = Unit {0}
