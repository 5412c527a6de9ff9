use Rattle.c_reader.proofs.NoStatements.{no_stored}
use Rattle.c_reader.proofs.stored.stored.Goals as goal

pub returns-clause-none : goal.returns-clause-none
returns-clause-none c =
    no_stored c.args.registers c.args.text.now (rw c.in_default.is at c.in_ok-value.ensures.none) (rw c.in_default-2.is at c.in_ok-found.ensures.none) c.in_default-after.ensures.none c.in_default-field.ensures.none c.in_default-field-2.ensures.none
    c.in_default-field-3.ensures.none c.in_default-after-2.ensures.none c.in_default-sent.ensures.none
