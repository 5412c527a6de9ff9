use Rattle.std.proofs.Common.{ap, sym, ◌∙◌, slice_get, false}
use Rattle.std.proofs.lemmas.Result.{IfOk-weaker}
use Rattle.nu_rows.specs.Rows.{Raised}
use Rattle.nu_calls.specs.Ends as ends
use Rattle.c_ends.specs.Outcomes.{in_world}
use Rattle.c_ends.proofs.Ended.{ends_after}
use Rattle.c_ends.proofs.generators.thrown_fresh.Goals as goal

pub returns : goal.returns
returns c =
    IfOk-weaker c.generator_ended.result _ _
    (λ o h. ends_after (λ a. ends.generator_ended a c.args.generator false (Raised c.args.exception)) (λ a. ends.at_line c.args.scripts a c.args.function (ends.first_line (slice_get a.world.codes c.args.function)) c.args.exception)
    c.args.world.now c.enlist.new.world c.generator_ended.new.world o
    (λ input frames. ap (λ l. ends.at_line c.args.scripts (in_world c.args.world.now input frames) c.args.function l c.args.exception) (sym c.first_line-line.ensures) ∙ c.in_ok-enlist.ensures input frames) h)
    c.generator_ended.ensures
