use Rattle.std.specs.Prelude.{[], ◌∷◌, codes}
use Rattle.op_forms.specs.declared.end.After.TheVariants as behind
use Rattle.op_rules.specs.Access.{no_item_changes}
use Rattle.rt_class.proofs.Asked.{by_function, by_other}
use Rattle.rt_class.proofs.items.special_delindex.Goals as goal

pub returns-in_ok-items-in-Function : goal.returns-in_ok-items-in-Function
returns-in_ok-items-in-Function c =
    by_function c.args.heap.now c.args.value.now (codes "__delitem__") c.in-Function.function (c.args.value.now ∷ c.args.index.now ∷ []) c.in_ok-items-in-Function.items behind.Plain (no_item_changes c.args.heap.now c.args.value.now) c.asking.result
    c.in-Function.ensures c.in_ok-items-in-Function.ensures c.asking.ensures

pub returns-in-Other : goal.returns-in-Other
returns-in-Other c = by_other c.args.heap.now c.args.value.now (codes "__delitem__") (c.args.value.now ∷ c.args.index.now ∷ []) behind.Plain (no_item_changes c.args.heap.now c.args.value.now) c.in-Other.ensures
