-- The module of a script that is built: its one scope.
use Rattle.std.specs.Prelude.{◌≡◌, ℕ, false, List, [], ◌∷◌, length, codes, slice_get}
use Rattle.node_tree.specs.declared.node.Node.{Node}
use Rattle.node_tree.specs.declared.script.NodeCode.{NodeCode}
use Rattle.node_tree.specs.declared.script.NodeScript.{NodeScript}
use Rattle.py_ast.specs.declared.scoped.Scope.{Scope}
use Rattle.py_meaning.specs.Resolved.{header, module_context}
use Rattle.py_meaning.specs.Scopes.{local_names, own_names, free_names}
use Rattle.reform_all.specs.Expressions.{InModule}

-- there is no scope but the module's, which is no generator; each of its names lives there and is looked up
pub record IsModule (scopes : List Scope) : Type 0 where
  pub inside : (first : ℕ) → InModule (module_context scopes first)
  pub one : length scopes ≡ 1
  pub header : header (slice_get scopes 0) [] ≡ record { scope = codes "<module>"; params = []; generator = false; line = 1 }
  pub locals : local_names scopes 0 [] ≡ []
  pub owns : own_names scopes 0 ≡ []
  pub frees : free_names scopes 0 ≡ []

-- the code of the module with these nodes
abbrev pub module_code : List Node → NodeCode
module_code body = record { header = record { scope = codes "<module>"; params = []; generator = false; line = 1 }; free = 0; body = body }

-- that alone
abbrev pub module_script : List ℕ → List Node → NodeScript
module_script name body = record { name = name; scripts = 1; codes = module_code body ∷ [] }
