use Rattle.node_reader.proofs.Heads.{no_simple}
use Rattle.node_reader.proofs.line.simple.Goals as goal

pub returns-clause-none : goal.returns-clause-none
returns-clause-none c =
    no_simple c.args.text.now (rw c.in_default.is at c.in_ok-to.ensures.none) (rw c.in_default-2.is at c.in_ok-to-2.ensures.none) (rw c.in_default-3.is at c.in_ok-to-3.ensures.none) c.in_default-copy.ensures.none (rw c.in_default-4.is at c.in_ok-to-4.ensures.none)
    c.in_default-leave.ensures.none (rw c.in_default-5.is at c.in_ok-value.ensures.none) (rw c.in_default-6.is at c.in_ok-value-2.ensures.none) c.in_default-field.ensures.none
