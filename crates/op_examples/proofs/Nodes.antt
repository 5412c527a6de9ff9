-- The run of a small tree, computed.
use Rattle.std.proofs.Common.{◌≡◌, ℕ, List, [], ◌∷◌, false, refl}
use Rattle.std.specs.Prelude.{codes}
use Rattle.nu_run.specs.declared.End.TheVariants as end
use Rattle.nu_run.specs.Runs.{Ended}
use Rattle.op_forms.specs.declared.constant.Const.TheVariants as const
use Rattle.op_forms.specs.declared.op.Op.TheVariants as op
use Rattle.op_rules.specs.TableRules.{table_rules}
use Rattle.code_forms.specs.declared.operand.Argument.TheVariants as argument
use Rattle.code_forms.specs.declared.operand.Operand.TheVariants as operand
use Rattle.node_tree.specs.declared.node.Node.{Node, Do, Call}
use Rattle.node_tree.specs.declared.script.NodeCode.{NodeCode}
use Rattle.node_tree.specs.declared.script.NodeScript.{NodeScript}
use Rattle.node_tree.specs.Run.{node_run}

abbrev module_of : List Node → NodeCode
module_of body = record { header = record { scope = codes "<module>"; params = []; generator = false; line = 1 }; free = 0; body = body }

abbrev script_of : List Node → NodeScript
script_of body = record { name = codes "a.py"; scripts = 1; codes = module_of body ∷ [] }

abbrev print_text : ℕ → List ℕ → List Node → List Node
print_text to text rest =
    Do to 1 op.Global (argument.Name (codes "print") ∷ []) ∷ Call to 1 (operand.Temp to) (operand.Const (const.Str text) ∷ []) ∷ rest

-- two lines are printed
abbrev prints : NodeScript
prints = script_of (print_text 0 (codes "a") (print_text 0 (codes "b") []))

prints_lines : node_run table_rules prints [] 0 ≡ Ended (codes "a\nb\n") end.Done
prints_lines = refl
