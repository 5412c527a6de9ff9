use Rattle.std.proofs.Common.{◌≡◌, slice_get, Some, ap, sym, ◌∙◌}
use Rattle.std.proofs.lemmas.Result.{IfOk-weaker}
use Rattle.nu_value.specs.declared.object.GenState.TheVariants as gen
use Rattle.nu_calls.specs.Ends as ends
use Rattle.c_ends.specs.Outcomes.{in_world, state_in}
use Rattle.c_ends.proofs.Resumes.{fresh_is, over_is, paused_is, running_is}
use Rattle.c_ends.proofs.generators.resumed.Goals as goal

pub returns-in_ok-resume_running-in-Some-Running : goal.returns-in_ok-resume_running-in-Some-Running
returns-in_ok-resume_running-in-Some-Running c = λ input frames full.
    let o = slice_get c.args.world.now.heap c.args.generator in
    let is : state_in o ≡ Some gen.Running = sym c.state_in.ensures ∙ c.in-Some-Running.is ∙ ap Some c.in-Some-Running.field-0-is in
    running_is c.args.scripts (in_world c.args.world.now input frames) c.args.generator o c.args.how is ∙ ap ends.over (c.in_ok-resume_running-in-Some-Running.ensures input frames)

pub returns-in-Some : goal.returns-in-Some
returns-in-Some c =
    let o = slice_get c.args.world.now.heap c.args.generator in
    let is : state_in o ≡ Some gen.Fresh = sym c.state_in.ensures ∙ c.in-Some-Fresh.is ∙ ap Some c.in-Some-Fresh.field-0-is in
    IfOk-weaker c.resume_fresh.result _ _
    (λ b h. λ input frames full. fresh_is c.args.scripts (in_world c.args.world.now input frames) c.args.generator o c.args.how c.in-Some.parts is (sym c.in-Some.is ∙ c.in_ok-parts-in-Some-Fresh.ensures) ∙ h input frames full)
    c.resume_fresh.ensures

pub returns-in-Some-Paused : goal.returns-in-Some-Paused
returns-in-Some-Paused c =
    let o = slice_get c.args.world.now.heap c.args.generator in
    let is : state_in o ≡ Some gen.Paused = sym c.state_in.ensures ∙ c.in-Some-Paused.is ∙ ap Some c.in-Some-Paused.field-0-is in
    IfOk-weaker c.resume_paused.result _ _ (λ b h. λ input frames full. paused_is c.args.scripts (in_world c.args.world.now input frames) c.args.generator o c.args.how is ∙ h input frames full) c.resume_paused.ensures

pub returns-in_ok-outcome-in-Some-Over : goal.returns-in_ok-outcome-in-Some-Over
returns-in_ok-outcome-in-Some-Over c = λ input frames full.
    let o = slice_get c.args.world.now.heap c.args.generator in
    let is : state_in o ≡ Some gen.Over = sym c.state_in.ensures ∙ c.in-Some-Over.is ∙ ap Some c.in-Some-Over.field-0-is in
    over_is c.args.scripts (in_world c.args.world.now input frames) c.args.generator o c.args.how is ∙ ap ends.over (c.in_ok-outcome-in-Some-Over.ensures input frames)
