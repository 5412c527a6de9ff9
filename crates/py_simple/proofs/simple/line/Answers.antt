use Rattle.std.proofs.Common.{rules, arith}
use Rattle.std.proofs.lemmas.Grind.{common_steps}
use Rattle.py_statements.specs.Parse.{line_from, one_line}
use Rattle.py_expr.proofs.Turns.{one_more, no_more}
use Rattle.py_simple.proofs.simple.line.Goals as goal

pub loop-turn-init : goal.loop-turn-init
unfolding one_line
loop-turn-init c = first_of (search rules, grind (arith, common_steps))

pub returns-in_err-x : goal.returns-in_err-x
unfolding line_from
returns-in_err-x c =
    let e = one_more (λ n. line_from c.args.depth n c.loop-turn.list c.loop-turn.tokens) _ c.loop-turn._turn c.loop-turn-test.true c.loop-turn.invariant in
    first_of (search rules, grind (arith, common_steps))

pub returns-then-is_newline : goal.returns-then-is_newline
unfolding line_from
returns-then-is_newline c =
    let e = one_more (λ n. line_from c.args.depth n c.loop-turn.list c.loop-turn.tokens) _ c.loop-turn._turn c.loop-turn-test.true c.loop-turn.invariant in
    first_of (search rules, grind (arith, common_steps))

pub returns-then-not-is_closed : goal.returns-then-not-is_closed
unfolding line_from
returns-then-not-is_closed c =
    let e = one_more (λ n. line_from c.args.depth n c.loop-turn.list c.loop-turn.tokens) _ c.loop-turn._turn c.loop-turn-test.true c.loop-turn.invariant in
    first_of (search rules, grind (arith, common_steps))

pub loop-turn-preserved : goal.loop-turn-preserved
unfolding line_from
loop-turn-preserved c =
    let e = one_more (λ n. line_from c.args.depth n c.loop-turn.list c.loop-turn.tokens) _ c.loop-turn._turn c.loop-turn-test.true c.loop-turn.invariant in
    first_of (search rules, grind (arith, common_steps))

pub returns : goal.returns
unfolding line_from
returns c =
    let e = no_more (λ n. line_from c.args.depth n c.loop-turn.list c.loop-turn.tokens) _ c.loop-turn._turn c.loop-turn-test.false c.loop-turn.invariant in
    first_of (search rules, grind (arith, common_steps))
