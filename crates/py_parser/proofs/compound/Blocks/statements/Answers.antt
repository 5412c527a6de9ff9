use Rattle.std.proofs.Common.{rules, arith}
use Rattle.std.proofs.lemmas.Grind.{common_steps}
use Rattle.py_statements.specs.Parse.{parse, statements_from}
use Rattle.py_expr.proofs.Turns.{one_more, no_more}
use Rattle.py_parser.proofs.compound.Blocks.statements.Goals as goal

pub returns-then-closes : goal.returns-then-closes
unfolding statements_from
returns-then-closes g c =
    let e = one_more (λ n. statements_from (parse c.args.self.now.fuel) c.args.depth c.args.inner n c.loop-turn.list c.loop-turn.tokens) _ c.loop-turn._turn c.loop-turn-test.true c.loop-turn.invariant in
    first_of (search rules, grind (arith, common_steps))

pub returns-in_err-list : goal.returns-in_err-list
unfolding statements_from
returns-in_err-list g c =
    let e = one_more (λ n. statements_from (parse c.args.self.now.fuel) c.args.depth c.args.inner n c.loop-turn.list c.loop-turn.tokens) _ c.loop-turn._turn c.loop-turn-test.true c.loop-turn.invariant in
    first_of (search rules, grind (arith, common_steps))

pub loop-turn-preserved : goal.loop-turn-preserved
unfolding statements_from
loop-turn-preserved g c =
    let e = one_more (λ n. statements_from (parse c.args.self.now.fuel) c.args.depth c.args.inner n c.loop-turn.list c.loop-turn.tokens) _ c.loop-turn._turn c.loop-turn-test.true c.loop-turn.invariant in
    first_of (search rules, grind (arith, common_steps))

pub returns : goal.returns
unfolding statements_from
returns g c =
    let e = no_more (λ n. statements_from (parse c.args.self.now.fuel) c.args.depth c.args.inner n c.loop-turn.list c.loop-turn.tokens) _ c.loop-turn._turn c.loop-turn-test.false c.loop-turn.invariant in
    first_of (search rules, grind (arith, common_steps))
