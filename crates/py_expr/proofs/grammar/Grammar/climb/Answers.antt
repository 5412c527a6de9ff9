use Rattle.std.proofs.Common.{rules, arith}
use Rattle.std.proofs.lemmas.Grind.{common_steps}
use Rattle.py_grammar.specs.Parse.{climb, parse}
use Rattle.py_expr.proofs.Turns.{one_more, no_more}
use Rattle.py_expr.proofs.grammar.Grammar.climb.Goals as goal

pub returns-then-makes-least : goal.returns-then-makes-least
unfolding climb
returns-then-makes-least g c =
    let e = one_more (λ n. climb (parse c.args.self.now.nested.fuel) c.args.self.now.nested.fuel c.args.least c.args.depth n c.args.line c.loop-turn.left c.loop-turn.tokens) _ c.loop-turn._turn c.loop-turn-test.true c.loop-turn.invariant in
    first_of (search rules, grind (arith, common_steps))

pub returns-in_err-left : goal.returns-in_err-left
unfolding climb
returns-in_err-left g c =
    let e = one_more (λ n. climb (parse c.args.self.now.nested.fuel) c.args.self.now.nested.fuel c.args.least c.args.depth n c.args.line c.loop-turn.left c.loop-turn.tokens) _ c.loop-turn._turn c.loop-turn-test.true c.loop-turn.invariant in
    first_of (search rules, grind (arith, common_steps))

pub loop-turn-preserved : goal.loop-turn-preserved
unfolding climb
loop-turn-preserved g c =
    let e = one_more (λ n. climb (parse c.args.self.now.nested.fuel) c.args.self.now.nested.fuel c.args.least c.args.depth n c.args.line c.loop-turn.left c.loop-turn.tokens) _ c.loop-turn._turn c.loop-turn-test.true c.loop-turn.invariant in
    first_of (search rules, grind (arith, common_steps))

pub returns-then-makes-least-2 : goal.returns-then-makes-least-2
unfolding climb
returns-then-makes-least-2 g c =
    let e = no_more (λ n. climb (parse c.args.self.now.nested.fuel) c.args.self.now.nested.fuel c.args.least c.args.depth n c.args.line c.loop-turn.left c.loop-turn.tokens) _ c.loop-turn._turn c.loop-turn-test.false c.loop-turn.invariant in
    first_of (search rules, grind (arith, common_steps))

pub returns : goal.returns
unfolding climb
returns g c =
    let e = no_more (λ n. climb (parse c.args.self.now.nested.fuel) c.args.self.now.nested.fuel c.args.least c.args.depth n c.args.line c.loop-turn.left c.loop-turn.tokens) _ c.loop-turn._turn c.loop-turn-test.false c.loop-turn.invariant in
    first_of (search rules, grind (arith, common_steps))
