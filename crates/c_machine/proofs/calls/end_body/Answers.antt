use Rattle.std.proofs.Common.{◌≡◌, ap, subst, sym}
use Rattle.std.proofs.lemmas.Result.{IfOk-weaker}
use Rattle.c_meaning.specs.declared.state.Activation.{Activation}
use Rattle.c_ends.specs.Outcomes.{EndsAs, end_of}
use Rattle.c_stack.specs.Frames.{GoesBack}
use Rattle.c_machine.specs.Effects.{ending_by}
use Rattle.c_machine.proofs.Frames.{body_back}
use Rattle.c_machine.proofs.calls.end_body.Goals as goal

pub returns-clause-ends : goal.returns-clause-ends
returns-clause-ends c =
    let x = c.args.run.now in
    let y = c.go_back.new.self in
    let new = c.body_outcome.new.world in
    let back : (c.in-Some.ended ≡ x.running) × GoesBack c.args.code.now x y = c.in-Some.ensures in
    let ends : EndsAs (λ a. ending_by x.running.purpose a (end_of c.args.end)) y.world new c.in_ok-outcome.outcome =
    subst (λ (r : Activation). EndsAs (λ a. ending_by r.purpose a (end_of c.args.end)) y.world new c.in_ok-outcome.outcome) back.0 c.in_ok-outcome.ensures.ends in
    IfOk-weaker c.go_on.result _ _
    (λ end go. λ w. body_back c.args.code.now x y (record y { below = c.reuse.new.self; world = new }) w (end_of c.args.end) c.in_ok-outcome.outcome _
    (sym c.if-is_module.ensures) back.1 ends (ap (λ l. record y { below = l; world = new }) c.reuse.ensures) (go w))
    c.go_on.ensures.settles
