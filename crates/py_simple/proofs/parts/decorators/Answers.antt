use Rattle.std.proofs.Common.{rules, arith}
use Rattle.std.proofs.lemmas.Grind.{common_steps}
use Rattle.py_statements.specs.Parse.{decorators, decorators_from}
use Rattle.py_expr.proofs.Turns.{one_more, no_more}
use Rattle.py_simple.proofs.parts.decorators.Goals as goal

pub loop-turn-init : goal.loop-turn-init
unfolding decorators
loop-turn-init c = first_of (search rules, grind (arith, common_steps))

pub returns-then-not-sees : goal.returns-then-not-sees
unfolding decorators_from
returns-then-not-sees c =
    let e = one_more (λ n. decorators_from c.args.depth n c.loop-turn.list c.loop-turn.tokens) _ c.loop-turn._turn c.loop-turn-test.true c.loop-turn.invariant in
    first_of (search rules, grind (arith, common_steps))

pub returns-in_err-x : goal.returns-in_err-x
unfolding decorators_from
returns-in_err-x c =
    let e = one_more (λ n. decorators_from c.args.depth n c.loop-turn.list c.loop-turn.tokens) _ c.loop-turn._turn c.loop-turn-test.true c.loop-turn.invariant in
    first_of (search rules, grind (arith, common_steps))

pub returns-in_err-newline : goal.returns-in_err-newline
unfolding decorators_from
returns-in_err-newline c =
    let e = one_more (λ n. decorators_from c.args.depth n c.loop-turn.list c.loop-turn.tokens) _ c.loop-turn._turn c.loop-turn-test.true c.loop-turn.invariant in
    first_of (search rules, grind (arith, common_steps))

pub loop-turn-preserved : goal.loop-turn-preserved
unfolding decorators_from
loop-turn-preserved c =
    let e = one_more (λ n. decorators_from c.args.depth n c.loop-turn.list c.loop-turn.tokens) _ c.loop-turn._turn c.loop-turn-test.true c.loop-turn.invariant in
    first_of (search rules, grind (arith, common_steps))

pub returns : goal.returns
unfolding decorators_from
returns c =
    let e = no_more (λ n. decorators_from c.args.depth n c.loop-turn.list c.loop-turn.tokens) _ c.loop-turn._turn c.loop-turn-test.false c.loop-turn.invariant in
    first_of (search rules, grind (arith, common_steps))
