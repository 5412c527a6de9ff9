use Rattle.c_reader.proofs.Programs.{heading_second, heading_script, heading_of}
use Rattle.c_reader.proofs.reader.heading.Goals as goal

pub returns-in_default-clause-not_c : goal.returns-in_default-clause-not_c
returns-in_default-clause-not_c c = λ name scripts builtins rest s. c.in_default.ensures.none _ s.spelled

pub returns-in_default-after-clause-not_c : goal.returns-in_default-after-clause-not_c
returns-in_default-after-clause-not_c c = λ name scripts builtins rest s. c.in_default-after.ensures.none _ (heading_second c.args.text.now c.in-Some.second.now name scripts builtins rest c.in-Some.ensures.some s)

pub returns-in_default-2-clause-not_c : goal.returns-in_default-2-clause-not_c
returns-in_default-2-clause-not_c c = λ name scripts builtins rest s.
    (rw c.in_default-2.is at c.in_ok-name.ensures.none) name scripts builtins rest
    (heading_script c.args.text.now c.in-Some.second.now c.in-Some-after.third.now name scripts builtins rest c.in-Some.ensures.some c.in-Some-after.ensures.some s)

pub returns-clause-ok : goal.returns-clause-ok
returns-clause-ok c =
    heading_of c.args.text.now c.in-Some.second.now c.in-Some-after.third.now c.in-Some-2.name c.in-Some-2.scripts c.in-Some-2.builtins c.in-Some-2.rest.now c.in-Some.ensures.some c.in-Some-after.ensures.some (rw c.in-Some-2.is at c.in_ok-name.ensures.some)
