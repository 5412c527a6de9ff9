use Rattle.node_reader.proofs.Codes.{no_front, header_back, header_of}
use Rattle.node_reader.proofs.code.header.Goals as goal

pub returns-in_default-clause-none : goal.returns-in_default-clause-none
returns-in_default-clause-none c = no_front c.args.value c.args.text.now (rw c.in_default.is at c.in_ok-scope.ensures.none)

pub returns-in_default-back-clause-none : goal.returns-in_default-back-clause-none
returns-in_default-back-clause-none c = λ h free rest s.
    c.in_default-back.ensures.none h.generator free h.line rest (header_back c.args.value c.args.text.now c.in-Some.behind.now c.in-Some.scope c.in-Some.params h free rest (rw c.in-Some.is at c.in_ok-scope.ensures.some) s).2

pub returns-clause-some : goal.returns-clause-some
returns-clause-some c =
    header_of c.args.value c.args.text.now c.in-Some.behind.now c.in-Some.scope c.in-Some.params c.in-Some-back.generator c.in-Some-back.free c.in-Some-back.line c.in-Some-back.rest.now (rw c.in-Some.is at c.in_ok-scope.ensures.some) c.in-Some-back.ensures.some
