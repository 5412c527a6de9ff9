use Rattle.std.proofs.Common.{rules, arith}
use Rattle.std.proofs.lemmas.Grind.{common_steps}
use Rattle.py_statements.specs.Parse.{assigned_from}
use Rattle.py_expr.proofs.Turns.{one_more, no_more}
use Rattle.py_simple.proofs.simple.assigned_from.Goals as goal

pub returns-in_err-x : goal.returns-in_err-x
unfolding assigned_from
returns-in_err-x c =
    let e = one_more (λ n. assigned_from c.args.line c.args.depth n c.loop-turn.targets c.loop-turn.tokens) _ c.loop-turn._turn c.loop-turn-test.true c.loop-turn.invariant in
    first_of (search rules, grind (arith, common_steps))

pub returns-then-sees_word : goal.returns-then-sees_word
unfolding assigned_from
returns-then-sees_word c =
    let e = one_more (λ n. assigned_from c.args.line c.args.depth n c.loop-turn.targets c.loop-turn.tokens) _ c.loop-turn._turn c.loop-turn-test.true c.loop-turn.invariant in
    first_of (search rules, grind (arith, common_steps))

pub returns-in_err-x-2 : goal.returns-in_err-x-2
unfolding assigned_from
returns-in_err-x-2 c =
    let e = one_more (λ n. assigned_from c.args.line c.args.depth n c.loop-turn.targets c.loop-turn.tokens) _ c.loop-turn._turn c.loop-turn-test.true c.loop-turn.invariant in
    first_of (search rules, grind (arith, common_steps))

pub returns-then-not-sees : goal.returns-then-not-sees
unfolding assigned_from
returns-then-not-sees c =
    let e = one_more (λ n. assigned_from c.args.line c.args.depth n c.loop-turn.targets c.loop-turn.tokens) _ c.loop-turn._turn c.loop-turn-test.true c.loop-turn.invariant in
    first_of (search rules, grind (arith, common_steps))

pub loop-turn-preserved : goal.loop-turn-preserved
unfolding assigned_from
loop-turn-preserved c =
    let e = one_more (λ n. assigned_from c.args.line c.args.depth n c.loop-turn.targets c.loop-turn.tokens) _ c.loop-turn._turn c.loop-turn-test.true c.loop-turn.invariant in
    first_of (search rules, grind (arith, common_steps))

pub returns : goal.returns
unfolding assigned_from
returns c =
    let e = no_more (λ n. assigned_from c.args.line c.args.depth n c.loop-turn.targets c.loop-turn.tokens) _ c.loop-turn._turn c.loop-turn-test.false c.loop-turn.invariant in
    first_of (search rules, grind (arith, common_steps))
