use Rattle.node_reader.proofs.Heads.{no_stamp, stamp_line, stamp_of}
use Rattle.node_reader.proofs.line.stamp.Goals as goal

pub returns-in_err-to-clause-none : goal.returns-in_err-to-clause-none
returns-in_err-to-clause-none c = rw c.from_residual.ensures (no_stamp c.args.word.now c.args.text.now c.in_err-to.ensures.none)

pub returns-in_err-line-clause-none : goal.returns-in_err-line-clause-none
returns-in_err-line-clause-none c =
    rw c.from_residual-in_err-line.ensures (λ to line rest s.
    c.in_err-line.ensures.none line rest (stamp_line c.args.word.now c.args.text.now c.in_ok-to.behind.now c.in_ok-to.to to line rest c.in_ok-to.ensures.some s).1)

pub returns-clause-some : goal.returns-clause-some
returns-clause-some c = stamp_of c.args.word.now c.args.text.now c.in_ok-to.behind.now c.in_ok-to.to c.in_ok-line.line c.in_ok-line.rest.now c.in_ok-to.ensures.some c.in_ok-line.ensures.some
