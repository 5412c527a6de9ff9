use Rattle.std.proofs.Common.{◌∙◌}
use Rattle.reform_try.proofs.Guarded.{first_guards, next_guards}
use Rattle.reform_try.proofs.clauses.guards.Goals as goal

pub loop-clause-init : goal.loop-clause-init
loop-clause-init c = first_guards _ c.args.clauses.items c.new-done.result.items c.new-done.ensures.items

pub loop-clause-preserved : goal.loop-clause-preserved
loop-clause-preserved c =
    next_guards _ _ c.loop-clause.left.items c.pop.new.self.items c.loop-clause.done.items c.push.new.self.items c.in-Some.clause c.in_ok-guard.guard c.in-Some.ensures.items c.in_ok-push.ensures.items c.in_ok-guard.ensures.is c.in_ok-guard.ensures.next
    ∙ c.loop-clause.invariant
