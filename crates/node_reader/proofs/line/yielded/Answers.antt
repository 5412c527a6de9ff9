use Rattle.node_reader.proofs.Heads.{no_yield_stamp, yield_value, yield_of}
use Rattle.node_reader.proofs.line.yielded.Goals as goal

pub returns-in_default-clause-none : goal.returns-in_default-clause-none
returns-in_default-clause-none c = no_yield_stamp c.args.text.now c.in_default.ensures.none

pub returns-in_default-2-clause-none : goal.returns-in_default-2-clause-none
returns-in_default-2-clause-none c = λ to line a rest s.
    (rw c.in_default-2.is at c.in_ok-value.ensures.none) a rest (yield_value c.args.text.now c.in-Some.behind.now c.in-Some.to c.in-Some.line to line a rest c.in-Some.ensures.some s).2

pub returns-clause-some : goal.returns-clause-some
returns-clause-some c = yield_of c.args.text.now c.in-Some.behind.now c.in-Some.to c.in-Some.line c.in-Some-2.value c.in-Some-2.rest.now c.in-Some.ensures.some (rw c.in-Some-2.is at c.in_ok-value.ensures.some)
