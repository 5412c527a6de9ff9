use Rattle.node_reader.proofs.Heads.{no_constant_field, constant_there, constant_rest, constant_of}
use Rattle.node_reader.proofs.line.constant_line.Goals as goal

pub returns-in_default-clause-none : goal.returns-in_default-clause-none
returns-in_default-clause-none c = no_constant_field c.args.text.now c.in_default.ensures.none

pub returns-in_default-2-clause-none : goal.returns-in_default-2-clause-none
returns-in_default-2-clause-none c = λ to d rest s.
    (rw c.in_default-2.is at c.in_ok-value.ensures.none) d _ (constant_there c.args.text.now c.in-Some.behind.now c.in-Some.to to d rest c.in-Some.ensures.some s).1

pub returns-in_default-after-clause-none : goal.returns-in_default-after-clause-none
returns-in_default-after-clause-none c = λ to d rest s.
    c.in_default-after.ensures.none rest
    (constant_rest c.args.text.now c.in-Some.behind.now c.in-Some-2.behind.now c.in-Some.to to c.in-Some-2.value d rest c.in-Some.ensures.some (rw c.in-Some-2.is at c.in_ok-value.ensures.some) s).2

pub returns-clause-some : goal.returns-clause-some
returns-clause-some c =
    constant_of c.args.text.now c.in-Some.behind.now c.in-Some-2.behind.now c.in-Some.to c.in-Some-2.value c.in-Some-after.rest.now c.in-Some.ensures.some (rw c.in-Some-2.is at c.in_ok-value.ensures.some) c.in-Some-after.ensures.some
