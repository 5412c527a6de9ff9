use Rattle.node_reader.proofs.Heads.{no_copy_field, copy_from, copy_of}
use Rattle.node_reader.proofs.line.copy.Goals as goal

pub returns-in_err-to-clause-none : goal.returns-in_err-to-clause-none
returns-in_err-to-clause-none c = rw c.from_residual.ensures (no_copy_field c.args.text.now c.in_err-to.ensures.none)

pub returns-in_err-from-clause-none : goal.returns-in_err-from-clause-none
returns-in_err-from-clause-none c =
    rw c.from_residual-in_err-from.ensures (λ to from rest s.
    c.in_err-from.ensures.none from rest (copy_from c.args.text.now c.in_ok-to.behind.now c.in_ok-to.to to from rest c.in_ok-to.ensures.some s).1)

pub returns-clause-some : goal.returns-clause-some
returns-clause-some c = copy_of c.args.text.now c.in_ok-to.behind.now c.in_ok-to.to c.in_ok-from.from c.in_ok-from.rest.now c.in_ok-to.ensures.some c.in_ok-from.ensures.some
