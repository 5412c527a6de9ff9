use Rattle.std.proofs.Common.{◌≡◌, IfOk, subst, sym, ◌∙◌}
use Rattle.op_forms.specs.Doing.{DidIn}
use Rattle.op_rules.specs.declared.callees.Route.TheVariants.{Operation}
use Rattle.op_rules.specs.Routes.{value_route}
use Rattle.runtime_table.proofs.Called.{callx_operates}
use Rattle.runtime_table.proofs.calling.callx_with.Goals as goal

-- src/calling.rt:131:1
pub returns-in-Operation : goal.returns-in-Operation
returns-in-Operation c =
    subst (λ d. IfOk c.row_of.result (λ e. DidIn d c.args.world.now c.row_of.new.world e))
    (sym (callx_operates c.args.world.now c.args.function.now c.args.list.now c.args.dict.now c.in-Operation.op c.as_slice-in-Operation.result.now c.is_empty_dict-plain.result (c.as_slice-in-Operation.ensures ∙ c.in_ok-args.ensures) (c.is_empty_dict-plain.ensures) (subst (λ xs. value_route c.args.world.now.heap c.args.function.now c.is_empty_dict-plain.result xs ≡ Operation c.in-Operation.op) (c.as_slice.ensures ∙ sym c.as_slice-in-Operation.ensures) (sym c.value_route.ensures ∙ c.in-Operation.is))))
    c.row_of.ensures
