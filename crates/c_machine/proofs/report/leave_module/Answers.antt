use Rattle.std.proofs.Common.{◌≡◌, ℕ, List, [], ◌∷◌, ◌++◌, slice_get, rules, ap, subst, sym, ◌∙◌}
use Rattle.std.proofs.lemmas.Result.{IfOk-weaker}
use Rattle.nu_run.specs.declared.End.TheVariants as run_end
use Rattle.nu_run.specs.Steps.{Halt}
use Rattle.nu_calls.specs.Scripts.{report_function}
use Rattle.nu_calls.specs.Traceback.{head_text}
use Rattle.op_rules.specs.TableRules.{table_rules}
use Rattle.c_meaning.specs.Step as meaning
use Rattle.c_meaning.specs.declared.state.Uncaught.{Uncaught}
use Rattle.c_stack.specs.Standing.{state_of, follows}
use Rattle.c_machine.specs.Effects.{left_alone}
use Rattle.c_machine.proofs.Reports.{asks_none, asks_some}
use Rattle.c_machine.proofs.report.leave_module.Goals as goal

pub returns-in_ok-end-in-None : goal.returns-in_ok-end-in-None
returns-in_ok-end-in-None c = λ w.
    let x = c.args.run.now in
    let u = meaning.uncaught table_rules c.args.code.now (state_of x w) c.args.exception in
    let head : c.in_ok-head.head ≡ head_text c.args.code.now.file x.world.heap c.args.exception = search rules in
    asks_none c.args.code.now (left_alone (state_of x w) u) u (report_function x.world) (sym c.in-None.ensures)
    ∙ ap (λ e. Halt w.printed e) (sym (c.in_ok-end-in-None.ensures c.args.code.now ∙ ap (λ l. run_end.Uncaught (l ++ 10 ∷ [])) head))

pub returns-in-Some : goal.returns-in-Some
returns-in-Some c =
    let x = c.args.run.now in
    let code = c.args.code.now in
    let report = c.in-Some.report in
    let head : c.in_ok-head.head ≡ head_text code.file x.world.heap c.args.exception = search rules in
    let u : List ℕ → Uncaught = λ l. record { exception = c.args.exception; function = x.running.function; head = l } in
    IfOk-weaker c.ask_report.result _ _
    (λ e go. λ w.
    asks_some code (left_alone (state_of x w) (u (head_text code.file x.world.heap c.args.exception))) (u (head_text code.file x.world.heap c.args.exception)) (report_function x.world) report (sym c.in-Some.ensures)
    ∙ subst (λ l. meaning.asks_function table_rules code (left_alone (state_of x w) (u l)) (u l) report (slice_get x.world.heap report) ≡ follows e c.ask_report.new.run w) head (go w))
    c.ask_report.ensures
