use Rattle.node_reader.proofs.Heads.{valued_there, valued_rest, valued_of}
use Rattle.node_reader.proofs.line.valued.Goals as goal

pub returns-in_default-2-clause-none : goal.returns-in_default-2-clause-none
returns-in_default-2-clause-none c = λ a rest s.
    (rw c.in_default-2.is at c.in_ok-value.ensures.none) a _ (valued_there c.args.word.now c.args.text.now c.in-Some.behind.now a rest c.in-Some.ensures.some s)

pub returns-in_default-after-clause-none : goal.returns-in_default-after-clause-none
returns-in_default-after-clause-none c = λ a rest s.
    c.in_default-after.ensures.none rest
    (valued_rest c.args.word.now c.args.text.now c.in-Some.behind.now c.in-Some-2.behind.now c.in-Some-2.value a rest c.in-Some.ensures.some (rw c.in-Some-2.is at c.in_ok-value.ensures.some) s).1

pub returns-clause-some : goal.returns-clause-some
returns-clause-some c =
    valued_of c.args.word.now c.args.text.now c.in-Some.behind.now c.in-Some-2.value c.in-Some-2.behind.now c.in-Some-after.rest.now c.in-Some.ensures.some (rw c.in-Some-2.is at c.in_ok-value.ensures.some) c.in-Some-after.ensures.some
