use Rattle.std.proofs.Common.{ap, sym, ◌∙◌}
use Rattle.nu_run.specs.Steps.{Halt}
use Rattle.c_ends.specs.Outcomes.{result_of}
use Rattle.c_stack.specs.Standing.{state_of}
use Rattle.c_machine.specs.Effects.{left_alone}
use Rattle.c_machine.proofs.Reports.{report_over}
use Rattle.c_machine.proofs.report.begin_report.Goals as goal

pub returns-in_ok-end-in-Over : goal.returns-in_ok-end-in-Over
returns-in_ok-end-in-Over c = λ w.
    rw c.in-Over.is
    (report_over c.args.code.now (left_alone (state_of c.args.run.now w) c.args.uncaught) c.args.uncaught (result_of c.in-Over.outcome)
    ∙ ap (λ e. Halt w.printed e) (sym (c.in_ok-end-in-Over.ensures c.args.code.now)))
