use Rattle.std.proofs.Common.{sym}
use Rattle.reform_expr.proofs.Blocks.{behind_push, values_push}
use Rattle.reform_expr.proofs.operations.values.Goals as goal

pub loop-part-preserved : goal.loop-part-preserved
loop-part-preserved c =
    rw (c.in_ok-whole.ensures, c.in_ok-push.ensures.ok, c.loop-part.invariant.0, c.loop-part.invariant.1)
    (sym (behind_push c.args.first c.loop-part.yielded c.in-Some.part), sym (values_push c.loop-part.yielded c.in-Some.part))
