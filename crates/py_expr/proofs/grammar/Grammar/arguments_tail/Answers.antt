use Rattle.std.proofs.Common.{rules, arith}
use Rattle.std.proofs.lemmas.Grind.{common_steps}
use Rattle.py_grammar.specs.Grammar.{Parts}
use Rattle.py_grammar.specs.Parse.{tail_from, parse, argument}
use Rattle.py_expr.proofs.Turns.{one_more, no_more}
use Rattle.py_expr.proofs.grammar.Grammar.arguments_tail.Goals as goal

pub returns-then-not-eat : goal.returns-then-not-eat
unfolding tail_from
returns-then-not-eat g c =
    let e = one_more (λ n. tail_from (parse c.args.self.now.nested.fuel) c.args.self.now.nested.fuel Parts.arguments (argument (parse c.args.self.now.nested.fuel) c.args.self.now.nested.fuel) c.args.depth n c.loop-turn.list c.loop-turn.tokens) _ c.loop-turn._turn c.loop-turn-test.true c.loop-turn.invariant in
    first_of (search rules, grind (arith, common_steps))

pub returns-then-not-begins_argument : goal.returns-then-not-begins_argument
unfolding tail_from
returns-then-not-begins_argument g c =
    let e = one_more (λ n. tail_from (parse c.args.self.now.nested.fuel) c.args.self.now.nested.fuel Parts.arguments (argument (parse c.args.self.now.nested.fuel) c.args.self.now.nested.fuel) c.args.depth n c.loop-turn.list c.loop-turn.tokens) _ c.loop-turn._turn c.loop-turn-test.true c.loop-turn.invariant in
    first_of (search rules, grind (arith, common_steps))

pub returns-in_err-part : goal.returns-in_err-part
unfolding tail_from
returns-in_err-part g c =
    let e = one_more (λ n. tail_from (parse c.args.self.now.nested.fuel) c.args.self.now.nested.fuel Parts.arguments (argument (parse c.args.self.now.nested.fuel) c.args.self.now.nested.fuel) c.args.depth n c.loop-turn.list c.loop-turn.tokens) _ c.loop-turn._turn c.loop-turn-test.true c.loop-turn.invariant in
    first_of (search rules, grind (arith, common_steps))

pub returns-in_err-list : goal.returns-in_err-list
unfolding tail_from
returns-in_err-list g c =
    let e = one_more (λ n. tail_from (parse c.args.self.now.nested.fuel) c.args.self.now.nested.fuel Parts.arguments (argument (parse c.args.self.now.nested.fuel) c.args.self.now.nested.fuel) c.args.depth n c.loop-turn.list c.loop-turn.tokens) _ c.loop-turn._turn c.loop-turn-test.true c.loop-turn.invariant in
    first_of (search rules, grind (arith, common_steps))

pub loop-turn-preserved : goal.loop-turn-preserved
unfolding tail_from
loop-turn-preserved g c =
    let e = one_more (λ n. tail_from (parse c.args.self.now.nested.fuel) c.args.self.now.nested.fuel Parts.arguments (argument (parse c.args.self.now.nested.fuel) c.args.self.now.nested.fuel) c.args.depth n c.loop-turn.list c.loop-turn.tokens) _ c.loop-turn._turn c.loop-turn-test.true c.loop-turn.invariant in
    first_of (search rules, grind (arith, common_steps))

pub returns : goal.returns
unfolding tail_from
returns g c =
    let e = no_more (λ n. tail_from (parse c.args.self.now.nested.fuel) c.args.self.now.nested.fuel Parts.arguments (argument (parse c.args.self.now.nested.fuel) c.args.self.now.nested.fuel) c.args.depth n c.loop-turn.list c.loop-turn.tokens) _ c.loop-turn._turn c.loop-turn-test.false c.loop-turn.invariant in
    first_of (search rules, grind (arith, common_steps))
