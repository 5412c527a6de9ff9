use Rattle.std.proofs.Common.{◌≡◌, Some, ap, subst, ◌∙◌}
use Rattle.std.proofs.lemmas.Result.{IfOk-weaker}
use Rattle.nu_calls.specs.Ends.{generator_paused}
use Rattle.nu_calls.specs.Surroundings.{keep_at}
use Rattle.c_ends.specs.Outcomes.{EndsAs}
use Rattle.c_stack.specs.declared.execution.Execution.{Execution}
use Rattle.c_stack.specs.Frames.{GoesBack}
use Rattle.c_machine.specs.Effects.{kept_by}
use Rattle.c_machine.proofs.Frames.{paused_back}
use Rattle.c_machine.proofs.generators.pause_with.Goals as goal

pub returns : goal.returns
returns c =
    let x = c.args.run.now in
    let y = c.go_back.new.self in
    let new = c.generator_paused.new.world in
    let back : (c.in-Some.paused ≡ x.running) × GoesBack c.args.code.now x y = c.in-Some.ensures in
    let put : c.put_aside.new.run ≡ record y { kept = keep_at y.kept c.args.generator (Some (kept_by x.running c.args.number)) } =
    c.in_ok-put_aside.ensures ∙ ap (λ a. record y { kept = keep_at y.kept c.args.generator (Some (kept_by a c.args.number)) }) back.0 in
    let ends : EndsAs (λ a. generator_paused a c.args.generator c.args.closing c.args.value) y.world new c.in_ok-outcome.outcome =
    subst (λ (r : Execution). EndsAs (λ a. generator_paused a c.args.generator c.args.closing c.args.value) r.world new c.in_ok-outcome.outcome) put c.in_ok-outcome.ensures in
    IfOk-weaker c.go_on.result _ _
    (λ end go. λ w. paused_back c.args.code.now x y (record c.put_aside.new.run { world = new }) w c.args.number c.args.generator c.args.closing c.args.value c.in_ok-outcome.outcome _
    c.requires back.1 ends (ap (λ (r : Execution). record r { world = new }) put) (go w))
    c.go_on.ensures.settles
