use Rattle.std.proofs.Common.{arith, sym, subst, ◌∙◌, ◌++◌, ap}
use Rattle.std.specs.Prelude.{codes}
use Rattle.std.specs.List.{AllByRecursion, flat_map}
use Rattle.c_meaning.specs.Text.{line_text}
use Rattle.c_meaning.specs.Written.{IsBodyLine, Once}
use Rattle.c_reader.proofs.Bodies.{labels_of, Knows, no_line, label_twice, once_line, knows_line, next_spelled, not_true, not_false}
use Rattle.c_reader.proofs.Lists.{begins, begins_not}
use Rattle.c_reader.proofs.Sequences.{all_more}
use Rattle.c_reader.proofs.function.body.Goals as goal

pub returns-in_default-clause-not_c : goal.returns-in_default-clause-not_c
returns-in_default-clause-not_c c =
    no_line c.args.registers c.args.text.now c.loop-alloc.left.now c.loop-alloc.lines (omega (arith, c.ranges.registers.fits)) c.loop-alloc.invariant.spelled c.loop-alloc.invariant.each
    (begins_not c.loop-alloc.left.now (codes "}\n") c.after.result c.is_none.result c.is_none.ensures c.loop-alloc-test.true c.after.ensures.none) (rw c.in_default.is at c.in_ok-one.ensures.none)

pub returns-then-not-new-clause-not_c : goal.returns-then-not-new-clause-not_c
returns-then-not-new-clause-not_c c =
    label_twice c.args.registers c.args.text.now c.loop-alloc.left.now c.in-Some.behind.now c.loop-alloc.lines c.in-Some.one c.loop-alloc.labels (omega (arith, c.ranges.registers.fits)) c.loop-alloc.invariant.spelled c.loop-alloc.invariant.each
    (begins_not c.loop-alloc.left.now (codes "}\n") c.after.result c.is_none.result c.is_none.ensures c.loop-alloc-test.true c.after.ensures.none) (rw c.in-Some.is at c.in_ok-one.ensures.some) c.loop-alloc.invariant.knows
    (not_true _ c.in-Ok.new c.in-Ok.ensures.new (grind (arith, c.if-not-new.true)))

pub loop-alloc-preserved : goal.loop-alloc-preserved
loop-alloc-preserved c =
    let stands = rw c.in-Some.is at c.in_ok-one.ensures.some in
    let held = not_false _ c.in-Ok.new c.in-Ok.ensures.new (grind (arith, c.if-not-new.false)) in
    let more = c.in_ok-push.ensures.ok in
    record {
      spelled = next_spelled c.args.registers c.args.text.now c.loop-alloc.left.now c.in-Some.behind.now c.loop-alloc.lines c.push.new.self c.in-Some.one c.loop-alloc.invariant.spelled stands more;
      each = subst (AllByRecursion (IsBodyLine c.args.registers)) (sym more) (all_more (IsBodyLine c.args.registers) c.loop-alloc.lines c.in-Some.one c.loop-alloc.invariant.each stands.is);
      once = subst (λ l. Once (labels_of l)) (sym more) (once_line c.loop-alloc.lines c.in-Some.one c.loop-alloc.labels c.loop-alloc.invariant.once c.loop-alloc.invariant.knows held);
      knows = subst (Knows c.is_new.new.labels) (sym more) (knows_line c.loop-alloc.lines c.in-Some.one c.loop-alloc.labels c.is_new.new.labels c.loop-alloc.invariant.knows c.in-Ok.ensures.adds);
    }

pub returns-in_default-after-clause-not_c : goal.returns-in_default-after-clause-not_c
returns-in_default-after-clause-not_c c = λ lines rest s.
    let there = begins c.loop-alloc.left.now (codes "}\n") c.after.result c.is_none.result c.is_none.ensures c.loop-alloc-test.false c.after.ensures.some in
    c.in_default-after.ensures.none there.0 there.1

pub returns-clause-ok : goal.returns-clause-ok
returns-clause-ok c = record {
  each = c.loop-alloc.invariant.each;
  once = c.loop-alloc.invariant.once;
  spelled = c.loop-alloc.invariant.spelled ∙ ap (λ l. flat_map line_text c.loop-alloc.lines ++ l) c.in-Some-after.ensures.some;
}
