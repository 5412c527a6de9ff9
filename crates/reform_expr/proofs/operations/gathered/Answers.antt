use Rattle.std.proofs.Common.{sym}
use Rattle.op_forms.specs.Signature as signature
use Rattle.reform_expr.proofs.Blocks.{blocks_push, given_push, given_length}
use Rattle.reform_expr.proofs.operations.gathered.Goals as goal

pub loop-part-preserved : goal.loop-part-preserved
loop-part-preserved c =
    rw (c.in_ok-block.ensures, c.in_ok-push.ensures.ok, c.argument.ensures, c.takes_name-named.ensures, c.len.ensures, c.loop-part.invariant.0, c.loop-part.invariant.1, given_length (signature.arguments c.args.op) c.loop-part.yielded)
    (sym (blocks_push c.loop-part.yielded c.in-Some.part), sym (given_push (signature.arguments c.args.op) c.loop-part.yielded c.in-Some.part))
