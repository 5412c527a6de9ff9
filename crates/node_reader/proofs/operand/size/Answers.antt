use Rattle.std.proofs.Common.{arith}
use Rattle.node_reader.proofs.Operands.{size_cut}
use Rattle.node_reader.proofs.operand.size.Goals as goal

pub returns-else-size-limit-clause-none : goal.returns-else-size-limit-clause-none
returns-else-size-limit-clause-none c = λ n rest s.
    let small = s.fits in
    let same = size_cut c.args.limit c.args.text.now c.in_ok-size.rest.now c.in_ok-size.size n rest (omega (arith, c.ranges.limit.fits)) c.in_ok-size.ensures.some s in
    omega (arith, small, same.0, c.if-size-limit.false)
