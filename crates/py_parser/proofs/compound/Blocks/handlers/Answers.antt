use Rattle.std.proofs.Common.{rules, arith}
use Rattle.std.proofs.lemmas.Grind.{common_steps}
use Rattle.py_statements.specs.Parse.{handlers_from, parse}
use Rattle.py_expr.proofs.Turns.{one_more, no_more}
use Rattle.py_parser.proofs.compound.Blocks.handlers.Goals as goal

pub returns-then-not-sees_word : goal.returns-then-not-sees_word
unfolding handlers_from
returns-then-not-sees_word g c =
    let e = one_more (λ n. handlers_from (parse c.args.self.now.fuel) c.args.depth n c.loop-turn.list c.loop-turn.tokens) _ c.loop-turn._turn c.loop-turn-test.true c.loop-turn.invariant in
    first_of (search rules, grind (arith, common_steps))

pub returns-in_err-x : goal.returns-in_err-x
unfolding handlers_from
returns-in_err-x g c =
    let e = one_more (λ n. handlers_from (parse c.args.self.now.fuel) c.args.depth n c.loop-turn.list c.loop-turn.tokens) _ c.loop-turn._turn c.loop-turn-test.true c.loop-turn.invariant in
    first_of (search rules, grind (arith, common_steps))

pub returns-then-sees : goal.returns-then-sees
unfolding handlers_from
returns-then-sees g c =
    let e = one_more (λ n. handlers_from (parse c.args.self.now.fuel) c.args.depth n c.loop-turn.list c.loop-turn.tokens) _ c.loop-turn._turn c.loop-turn-test.true c.loop-turn.invariant in
    first_of (search rules, grind (arith, common_steps))

pub returns-in_err-x-2 : goal.returns-in_err-x-2
unfolding handlers_from
returns-in_err-x-2 g c =
    let e = one_more (λ n. handlers_from (parse c.args.self.now.fuel) c.args.depth n c.loop-turn.list c.loop-turn.tokens) _ c.loop-turn._turn c.loop-turn-test.true c.loop-turn.invariant in
    first_of (search rules, grind (arith, common_steps))

pub loop-turn-preserved : goal.loop-turn-preserved
unfolding handlers_from
loop-turn-preserved g c =
    let e = one_more (λ n. handlers_from (parse c.args.self.now.fuel) c.args.depth n c.loop-turn.list c.loop-turn.tokens) _ c.loop-turn._turn c.loop-turn-test.true c.loop-turn.invariant in
    first_of (search rules, grind (arith, common_steps))

pub returns : goal.returns
unfolding handlers_from
returns g c =
    let e = no_more (λ n. handlers_from (parse c.args.self.now.fuel) c.args.depth n c.loop-turn.list c.loop-turn.tokens) _ c.loop-turn._turn c.loop-turn-test.false c.loop-turn.invariant in
    first_of (search rules, grind (arith, common_steps))
