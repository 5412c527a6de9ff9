use Rattle.std.proofs.Common.{rules, arith}
use Rattle.std.proofs.lemmas.Grind.{common_steps}
use Rattle.py_grammar.specs.Grammar.{Parts}
use Rattle.py_grammar.specs.Parse.{run_from, parse, link}
use Rattle.py_expr.proofs.Turns.{one_more, no_more}
use Rattle.py_expr.proofs.grammar.Grammar.links.Goals as goal

pub returns-then-not-is_comparison : goal.returns-then-not-is_comparison
unfolding run_from
returns-then-not-is_comparison g c =
    let e = one_more (λ n. run_from (parse c.args.self.now.nested.fuel) c.args.self.now.nested.fuel Parts.links (link (parse c.args.self.now.nested.fuel) c.args.self.now.nested.fuel) c.args.depth n c.loop-turn.list c.loop-turn.tokens) _ c.loop-turn._turn c.loop-turn-test.true c.loop-turn.invariant in
    first_of (search rules, grind (arith, common_steps))

pub returns-in_err-part : goal.returns-in_err-part
unfolding run_from
returns-in_err-part g c =
    let e = one_more (λ n. run_from (parse c.args.self.now.nested.fuel) c.args.self.now.nested.fuel Parts.links (link (parse c.args.self.now.nested.fuel) c.args.self.now.nested.fuel) c.args.depth n c.loop-turn.list c.loop-turn.tokens) _ c.loop-turn._turn c.loop-turn-test.true c.loop-turn.invariant in
    first_of (search rules, grind (arith, common_steps))

pub returns-in_err-list : goal.returns-in_err-list
unfolding run_from
returns-in_err-list g c =
    let e = one_more (λ n. run_from (parse c.args.self.now.nested.fuel) c.args.self.now.nested.fuel Parts.links (link (parse c.args.self.now.nested.fuel) c.args.self.now.nested.fuel) c.args.depth n c.loop-turn.list c.loop-turn.tokens) _ c.loop-turn._turn c.loop-turn-test.true c.loop-turn.invariant in
    first_of (search rules, grind (arith, common_steps))

pub loop-turn-preserved : goal.loop-turn-preserved
unfolding run_from
loop-turn-preserved g c =
    let e = one_more (λ n. run_from (parse c.args.self.now.nested.fuel) c.args.self.now.nested.fuel Parts.links (link (parse c.args.self.now.nested.fuel) c.args.self.now.nested.fuel) c.args.depth n c.loop-turn.list c.loop-turn.tokens) _ c.loop-turn._turn c.loop-turn-test.true c.loop-turn.invariant in
    first_of (search rules, grind (arith, common_steps))

pub returns : goal.returns
unfolding run_from
returns g c =
    let e = no_more (λ n. run_from (parse c.args.self.now.nested.fuel) c.args.self.now.nested.fuel Parts.links (link (parse c.args.self.now.nested.fuel) c.args.self.now.nested.fuel) c.args.depth n c.loop-turn.list c.loop-turn.tokens) _ c.loop-turn._turn c.loop-turn-test.false c.loop-turn.invariant in
    first_of (search rules, grind (arith, common_steps))
