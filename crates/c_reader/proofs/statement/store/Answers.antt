use Rattle.std.proofs.Common.{arith}
use Rattle.c_reader.proofs.Statements.{store_what, store_of}
use Rattle.c_reader.proofs.statement.store.Goals as goal

pub returns-in_default-2-clause-none : goal.returns-in_default-2-clause-none
returns-in_default-2-clause-none c = λ to what rest s.
    (rw c.in_default-2.is at c.in_ok-what.ensures.none) what rest (store_what c.args.registers c.args.text.now c.in-Some.behind.now c.in-Some.to to what rest (omega (arith, c.ranges.registers.fits)) (rw c.from.ensures at c.in-Some.ensures.some) s)

pub returns-clause-some : goal.returns-clause-some
returns-clause-some c = store_of c.args.registers c.args.text.now c.in-Some.behind.now c.in-Some.to c.in-Some-2.what c.in-Some-2.rest.now (rw c.from.ensures at c.in-Some.ensures.some) (rw c.in-Some-2.is at c.in_ok-what.ensures.some)
