use Rattle.std.proofs.Common.{◌≡◌, Some, rules, ap, sym, subst, ◌∙◌}
use Rattle.nu_run.specs.Steps.{Halt}
use Rattle.nu_calls.specs.Ends.{call_ended, world_of}
use Rattle.op_rules.specs.TableRules.{table_rules}
use Rattle.c_meaning.specs.declared.state.Purpose.TheVariants as purpose
use Rattle.c_ends.specs.Outcomes.{EndsAs, end_of}
use Rattle.c_stack.specs.declared.execution.Execution.{Execution}
use Rattle.c_machine.proofs.Reports.{report_over_by}
use Rattle.c_machine.proofs.report.end_report.Goals as goal

pub returns : goal.returns
returns c = λ w.
    let x = c.args.run.now in
    let new = c.call_ended.new.world in
    let call : x.running.purpose ≡ purpose.Call c.in-Call.after = search rules in
    let some : x.uncaught ≡ Some c.in-Some.uncaught = search rules in
    let ends : EndsAs (λ s. call_ended table_rules c.in-Call.after s (end_of c.args.end)) (world_of table_rules c.args.code.now.scripts x.world c.in-Some.uncaught.function) new c.in_ok-outcome.outcome =
    subst (λ (r : Execution). EndsAs (λ s. call_ended table_rules c.in-Call.after s (end_of c.args.end)) r.world new c.in_ok-outcome.outcome) c.look_up_for.ensures c.in_ok-outcome.ensures.ends in
    report_over_by c.args.code.now x new w (end_of c.args.end) c.in-Call.after c.in-Some.uncaught c.in_ok-outcome.outcome c.requires.alone call some ends
    ∙ ap (λ e. Halt w.printed e) (sym (c.in_ok-end.ensures c.args.code.now))
