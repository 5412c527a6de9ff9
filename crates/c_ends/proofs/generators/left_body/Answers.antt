use Rattle.std.proofs.Common.{sym}
use Rattle.std.specs.Prelude.{codes}
use Rattle.std.proofs.lemmas.Result.{IfOk-weaker}
use Rattle.nu_calls.specs.Ends as ends
use Rattle.c_ends.specs.Outcomes.{in_world}
use Rattle.c_ends.proofs.Ended.{ends_by, left_stopped}
use Rattle.c_ends.proofs.generators.left_body.Goals as goal

pub returns-then-is_kind : goal.returns-then-is_kind
returns-then-is_kind c =
    IfOk-weaker c.raises_text.result _ _
    (λ o h. ends_by (λ a. ends.raises_text a ends.runtime_error (codes "generator raised StopIteration")) (λ a. ends.left_body a c.args.closing c.args.exception) c.args.world.now c.raises_text.new.world o
    (λ input frames. left_stopped (in_world c.args.world.now input frames) c.args.closing c.args.exception (sym c.if-is_kind.ensures)) h)
    c.raises_text.ensures
