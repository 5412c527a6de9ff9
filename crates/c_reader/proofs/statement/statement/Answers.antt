use Rattle.c_reader.proofs.NoStatements.{no_statement}
use Rattle.c_reader.proofs.statement.statement.Goals as goal

pub returns-clause-none : goal.returns-clause-none
returns-clause-none c =
    no_statement c.args.registers c.args.text.now (rw c.in_default.is at c.in_ok-to.ensures.none) c.in_default-field.ensures.none (rw c.in_default-2.is at c.in_ok-test.ensures.none) (rw c.in_default-3.is at c.in_ok-exception.ensures.none)
    (rw c.in_default-4.is at c.in_ok-value.ensures.none) c.in_default-after.ensures.none c.in_default-after-2.ensures.none (rw c.in_default-5.is at c.in_ok-labels.ensures.none) (rw c.in_default-6.is at c.in_ok-slot.ensures.none)
    (rw c.in_default-7.is at c.in_ok-number.ensures.none)
