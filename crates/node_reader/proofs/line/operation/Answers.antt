use Rattle.node_reader.proofs.Heads.{no_do_stamp, do_name, do_given, do_rest, do_of}
use Rattle.node_reader.proofs.line.operation.Goals as goal

pub returns-in_default-clause-none : goal.returns-in_default-clause-none
returns-in_default-clause-none c = no_do_stamp c.args.text.now c.in_default.ensures.none

pub returns-in_default-name-clause-none : goal.returns-in_default-name-clause-none
returns-in_default-name-clause-none c = λ to line o given rest s.
    c.in_default-name.ensures.none o _ (do_name c.args.text.now c.in-Some.behind.now c.in-Some.to c.in-Some.line to line o given rest c.in-Some.ensures.some s).2

pub returns-in_default-2-clause-none : goal.returns-in_default-2-clause-none
returns-in_default-2-clause-none c = λ to line o given rest s.
    (rw c.in_default-2.is at c.in_ok-args.ensures.none) given _
    (do_given c.args.text.now c.in-Some.behind.now c.in-Some-name.behind.now c.in-Some.to c.in-Some.line to line c.in-Some-name.op o given rest c.in-Some.ensures.some c.in-Some-name.ensures.some s).3

pub returns-in_default-after-clause-none : goal.returns-in_default-after-clause-none
returns-in_default-after-clause-none c = λ to line o given rest s.
    c.in_default-after.ensures.none rest
    (do_rest c.args.text.now c.in-Some.behind.now c.in-Some-name.behind.now c.in-Some-2.behind.now c.in-Some.to c.in-Some.line to line c.in-Some-name.op o c.in-Some-2.args given rest c.in-Some.ensures.some c.in-Some-name.ensures.some
    (rw c.in-Some-2.is at c.in_ok-args.ensures.some) s).4

pub returns-clause-some : goal.returns-clause-some
returns-clause-some c =
    do_of c.args.text.now c.in-Some.behind.now c.in-Some-name.behind.now c.in-Some-2.behind.now c.in-Some.to c.in-Some.line c.in-Some-name.op c.in-Some-2.args c.in-Some-after.rest.now c.in-Some.ensures.some c.in-Some-name.ensures.some
    (rw c.in-Some-2.is at c.in_ok-args.ensures.some) c.in-Some-after.ensures.some
