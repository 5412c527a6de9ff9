use Rattle.std.proofs.Common.{[], ◌∷◌, refl}
use Rattle.std.specs.Prelude.{pos}
use Rattle.op_forms.specs.declared.constant.Const.TheVariants as const
use Rattle.code_forms.specs.declared.operand.Argument.TheVariants as argument
use Rattle.code_forms.specs.declared.operand.Operand.TheVariants as operand
use Rattle.node_tree.specs.Blocks.{of_temp}
use Rattle.reform_functions.proofs.Defaults.{next_mapped}
use Rattle.reform_functions.proofs.functions.cells_from.Goals as goal

pub loop-cell-preserved : goal.loop-cell-preserved
loop-cell-preserved c =
    next_mapped of_temp (argument.Value (operand.Const (const.Int (pos c.args.code))) ∷ of_temp c.args.defaults ∷ of_temp c.args.keywords ∷ []) c.loop-cell.yielded c.in-Some.cell c.loop-cell.args _ _ c.loop-cell.invariant refl c.in_ok-push-4.ensures.ok
