use Rattle.std.proofs.Common.{◌∙◌, ap, rules}
use Rattle.node_tree.specs.Tree.{block}
use Rattle.reform_walk.specs.States.{state_of}
use Rattle.reform_walk.proofs.Around.{next_turn, last_turn}
use Rattle.reform_walk.proofs.state.Walk.around.Goals as goal

pub loop-turn-preserved : goal.loop-turn-preserved
loop-turn-preserved c =
    next_turn c.args.line (block c.loop-turn.whole) (block c.in_ok-whole.whole) c.loop-turn.left.items c.pop.new.self.items c.in-Some.turn (state_of c.loop-turn.self) _ c.in-Some.ensures.items c.in_ok-whole.ensures.is c.in_ok-whole.ensures.state ∙ c.loop-turn.invariant

pub returns-clause-is : goal.returns-clause-is
returns-clause-is c = ap (λ w. w.is) (last_turn c.args.line (block c.loop-turn.whole) c.loop-turn.left.items (state_of c.loop-turn.self) _ (search rules) c.loop-turn.invariant)

pub returns-clause-state : goal.returns-clause-state
returns-clause-state c = ap (λ w. w.state) (last_turn c.args.line (block c.loop-turn.whole) c.loop-turn.left.items (state_of c.loop-turn.self) _ (search rules) c.loop-turn.invariant)
