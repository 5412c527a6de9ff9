use Rattle.std.proofs.Common.{◌≡◌, [], ◌∷◌, rules, subst}
use Rattle.std.proofs.lemmas.Result.{IfOk-weaker}
use Rattle.nu_value.specs.declared.value.Value.TheVariants as value
use Rattle.op_forms.specs.declared.end.After.TheVariants as after
use Rattle.op_forms.specs.Answers.{after as after_of}
use Rattle.op_forms.specs.Doing.{DidIn, answer}
use Rattle.op_rules.specs.Binding.{bind}
use Rattle.c_machine.proofs.Reports.{report_asked}
use Rattle.c_machine.proofs.report.ask_report.Goals as goal

pub returns : goal.returns
returns c =
    let x = c.args.run.now in
    let args : c.as_slice.result.now ≡ value.Obj c.args.uncaught.exception ∷ [] = search rules in
    let world : c.bind.new.world ≡ after_of x.world (answer x.world (bind x.world c.args.report c.as_slice.result.now [] after.Plain)) = search rules in
    let did : DidIn (bind x.world c.args.report (value.Obj c.args.uncaught.exception ∷ []) [] after.Plain) x.world c.bind.new.world c.in_ok-end.end =
    subst (λ l. DidIn (bind x.world c.args.report l [] after.Plain) x.world c.bind.new.world c.in_ok-end.end) args (c.in_ok-end.ensures.end, world) in
    IfOk-weaker c.begin_report.result _ _
    (λ e go. λ w. report_asked c.args.code.now x c.bind.new.world c.begun.new.world w c.args.uncaught c.args.report c.in_ok-end.end c.in_ok-begun.begun _ c.requires did c.in_ok-begun.ensures (go w))
    c.begin_report.ensures
