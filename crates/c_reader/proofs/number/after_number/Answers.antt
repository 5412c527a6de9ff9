use Rattle.std.proofs.Common.{arith}
use Rattle.c_reader.proofs.Numbers.{closed_cut, closed_none}
use Rattle.c_reader.proofs.number.after_number.Goals as goal

pub returns-then-found-from-clause-none : goal.returns-then-found-from-clause-none
returns-then-found-from-clause-none c = λ rest e.
    let same = closed_cut _ _ rest _ c.args.value _ c.in_ok-found.ensures.some (omega (arith, c.ranges.value.fits)) c.requires e in
    omega (arith, same.0, c.if-found-from.true, c.from.ensures)

pub returns-clause-none : goal.returns-clause-none
returns-clause-none c =
    closed_none c.args.text.now c.args.closing.now c.in_ok-found.behind.now c.args.value c.in_ok-found.found c.after.result c.in_ok-found.ensures.some (omega (arith, c.ranges.value.fits)) c.requires c.after.ensures.none
