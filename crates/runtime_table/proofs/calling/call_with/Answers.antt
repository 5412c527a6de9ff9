use Rattle.std.proofs.Common.{IfOk, subst, sym, ◌∙◌}
use Rattle.op_forms.specs.Doing.{DidIn}
use Rattle.runtime_table.proofs.Called.{call_operates}
use Rattle.runtime_table.proofs.calling.call_with.Goals as goal

-- src/calling.rt:110:1
pub returns-in-Operation : goal.returns-in-Operation
returns-in-Operation c =
    subst (λ d. IfOk c.row_of.result (λ e. DidIn d c.args.world.now c.row_of.new.world e))
    (sym (call_operates c.args.world.now c.args.function.now c.args.args.now c.in-Operation.op (sym c.value_route.ensures ∙ c.in-Operation.is))) c.row_of.ensures
