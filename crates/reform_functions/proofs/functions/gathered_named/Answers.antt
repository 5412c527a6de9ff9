use Rattle.std.proofs.Common.{ap, arith}
use Rattle.node_tree.specs.Tree.{form, block}
use Rattle.reform_functions.proofs.Defaults.{first_named, next_named, next_puts, next_place}
use Rattle.reform_functions.proofs.functions.gathered_named.Goals as goal

pub loop-one-init : goal.loop-one-init
loop-one-init c = record {
  blocks = first_named (block c.args.first);
  values = ap block c.new-puts.ensures;
  place = omega arith;
}

pub loop-one-preserved : goal.loop-one-preserved
loop-one-preserved c = record {
  blocks = next_named c.loop-one.yielded c.in-Some.one (block c.args.first) (block c.loop-one.whole) (block c.in_ok-whole.whole) c.loop-one.invariant.blocks c.in_ok-whole.ensures;
  values =
      next_puts c.args.line c.args.dict c.args.from c.loop-one.next c.loop-one.yielded c.in-Some.one (block c.loop-one.puts) (block c.in_ok-puts.puts) (form c.in_ok-made.made) c.loop-one.invariant.values c.loop-one.invariant.place c.in_ok-made.ensures c.in_ok-puts.ensures;
  place = next_place c.args.from c.loop-one.next c.in-Some-checked_add.behind c.loop-one.yielded c.in-Some.one c.loop-one.invariant.place (omega (arith, c.in-Some-checked_add.ensures));
}
