use Rattle.std.proofs.Common.{rules, arith}
use Rattle.std.proofs.lemmas.Grind.{common_steps}
use Rattle.py_statements.specs.Parse.{managers, managers_from}
use Rattle.py_expr.proofs.Turns.{one_more, no_more}
use Rattle.py_simple.proofs.parts.managers.Goals as goal

pub loop-turn-init : goal.loop-turn-init
unfolding managers
loop-turn-init c = first_of (search rules, grind (arith, common_steps))

pub returns-in_err-x : goal.returns-in_err-x
unfolding managers_from
returns-in_err-x c =
    let e = one_more (λ n. managers_from c.args.depth n c.loop-turn.list c.loop-turn.tokens) _ c.loop-turn._turn c.loop-turn-test.true c.loop-turn.invariant in
    first_of (search rules, grind (arith, common_steps))

pub returns-then-not-eat : goal.returns-then-not-eat
unfolding managers_from
returns-then-not-eat c =
    let e = one_more (λ n. managers_from c.args.depth n c.loop-turn.list c.loop-turn.tokens) _ c.loop-turn._turn c.loop-turn-test.true c.loop-turn.invariant in
    first_of (search rules, grind (arith, common_steps))

pub loop-turn-preserved : goal.loop-turn-preserved
unfolding managers_from
loop-turn-preserved c =
    let e = one_more (λ n. managers_from c.args.depth n c.loop-turn.list c.loop-turn.tokens) _ c.loop-turn._turn c.loop-turn-test.true c.loop-turn.invariant in
    first_of (search rules, grind (arith, common_steps))

pub returns : goal.returns
unfolding managers_from
returns c =
    let e = no_more (λ n. managers_from c.args.depth n c.loop-turn.list c.loop-turn.tokens) _ c.loop-turn._turn c.loop-turn-test.false c.loop-turn.invariant in
    first_of (search rules, grind (arith, common_steps))
