use Rattle.std.proofs.Common.{sym, ap, ◌∙◌}
use Rattle.carried_codes.specs.Clauses as clauses
use Rattle.reform_try.specs.Guards.{guard_of}
use Rattle.reform_try.proofs.Guarded.{next_handles}
use Rattle.reform_try.proofs.clauses.handles.Goals as goal

pub loop-guard-preserved : goal.loop-guard-preserved
loop-guard-preserved c =
    c.in_ok-rest-2.ensures ∙ ap (clauses.handle c.args.exception (guard_of c.in-Some.guard)) c.loop-guard.invariant ∙ sym (next_handles c.args.exception c.loop-guard.yielded c.in-Some.guard)
