use Rattle.c_reader.proofs.Statements.{sent_fail, sent_of}
use Rattle.c_reader.proofs.stored.sent.Goals as goal

pub returns-in_err-fail-clause-none : goal.returns-in_err-fail-clause-none
returns-in_err-fail-clause-none c =
    rw c.from_residual-in_err-fail.ensures (λ at fail rest s. c.in_err-fail.ensures.none fail rest (sent_fail c.args.registers c.args.text.now c.in_ok-line.rest.now c.in_ok-line.line at fail rest c.in_ok-line.ensures.some s))

pub returns-in_err-line-clause-none : goal.returns-in_err-line-clause-none
returns-in_err-line-clause-none c = rw c.from_residual.ensures (λ at fail rest s. c.in_err-line.ensures.none at _ (record { fits = s.is.0; spelled = s.spelled }))

pub returns-clause-some : goal.returns-clause-some
returns-clause-some c = sent_of c.args.registers c.args.text.now c.in_ok-line.rest.now c.in_ok-line.line c.in_ok-fail.fail c.in_ok-fail.rest.now c.in_ok-line.ensures.some c.in_ok-fail.ensures.some
