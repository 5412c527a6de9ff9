use Rattle.std.proofs.Common.{arith, [], sym, ◌∙◌}
use Rattle.nu_value.specs.declared.header.ParamKind.TheVariants as kind
use Rattle.c_reader.proofs.Orders.{read_there, none_there, order_goes_on, order_ends}
use Rattle.c_reader.proofs.params.in_order.Goals as goal

pub unreachable-requires : goal.unreachable-requires
unreachable-requires c = none_there c.args.shape.now c.loop-place.place c.at.result c.at.ensures (omega (arith, c.loop-place-test.true, c.len-place-end.ensures)) (kind.Only, []) c.in_default.is

pub returns-then-rank-least : goal.returns-then-rank-least
returns-then-rank-least c =
    sym (order_ends c.args.shape.now c.loop-place.place c.loop-place.least (c.in-Some.kind, c.in-Some.field-0-1.now) (read_there c.args.shape.now c.loop-place.place c.at.result c.in-Some.kind c.in-Some.field-0-1 c.at.ensures c.in-Some.is)
    (omega (arith, c.if-rank-least.true, c.rank.ensures)))
    ∙ c.loop-place.invariant

pub loop-place-preserved : goal.loop-place-preserved
loop-place-preserved c =
    rw c.rank_behind-least.ensures (sym (order_goes_on c.args.shape.now c.loop-place.place c.loop-place.least (c.in-Some.kind, c.in-Some.field-0-1.now) (read_there c.args.shape.now c.loop-place.place c.at.result c.in-Some.kind c.in-Some.field-0-1 c.at.ensures c.in-Some.is)
    (omega (arith, c.if-rank-least.false, c.rank.ensures)))
    ∙ c.loop-place.invariant)
