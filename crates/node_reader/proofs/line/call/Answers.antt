use Rattle.node_reader.proofs.Heads.{no_call_stamp, call_function, call_given, call_rest, call_of}
use Rattle.node_reader.proofs.line.call.Goals as goal

pub returns-in_default-clause-none : goal.returns-in_default-clause-none
returns-in_default-clause-none c = no_call_stamp c.args.text.now c.in_default.ensures.none

pub returns-in_default-2-clause-none : goal.returns-in_default-2-clause-none
returns-in_default-2-clause-none c = λ to line a given rest s.
    (rw c.in_default-2.is at c.in_ok-function.ensures.none) a _ (call_function c.args.text.now c.in-Some.behind.now c.in-Some.to c.in-Some.line to line a given rest c.in-Some.ensures.some s).2

pub returns-in_default-3-clause-none : goal.returns-in_default-3-clause-none
returns-in_default-3-clause-none c = λ to line a given rest s.
    (rw c.in_default-3.is at c.in_ok-args.ensures.none) given _
    (call_given c.args.text.now c.in-Some.behind.now c.in-Some-2.behind.now c.in-Some.to c.in-Some.line to line c.in-Some-2.function a given rest c.in-Some.ensures.some (rw c.in-Some-2.is at c.in_ok-function.ensures.some) s).3

pub returns-in_default-after-clause-none : goal.returns-in_default-after-clause-none
returns-in_default-after-clause-none c = λ to line a given rest s.
    c.in_default-after.ensures.none rest
    (call_rest c.args.text.now c.in-Some.behind.now c.in-Some-2.behind.now c.in-Some-3.behind.now c.in-Some.to c.in-Some.line to line c.in-Some-2.function a c.in-Some-3.args given rest c.in-Some.ensures.some
    (rw c.in-Some-2.is at c.in_ok-function.ensures.some) (rw c.in-Some-3.is at c.in_ok-args.ensures.some) s).4

pub returns-clause-some : goal.returns-clause-some
returns-clause-some c =
    call_of c.args.text.now c.in-Some.behind.now c.in-Some-2.behind.now c.in-Some-3.behind.now c.in-Some.to c.in-Some.line c.in-Some-2.function c.in-Some-3.args c.in-Some-after.rest.now c.in-Some.ensures.some
    (rw c.in-Some-2.is at c.in_ok-function.ensures.some) (rw c.in-Some-3.is at c.in_ok-args.ensures.some) c.in-Some-after.ensures.some
