use Rattle.node_reader.proofs.Scripts.{script_name, script_space, script_counts, script_of}
use Rattle.node_reader.proofs.reader.script_line.Goals as goal

pub returns-in_default-2-clause-none : goal.returns-in_default-2-clause-none
returns-in_default-2-clause-none c = λ name scripts builtins rest s.
    (rw c.in_default-2.is at c.in_ok-name.ensures.none) name _ (script_name c.args.text.now c.in-Some.behind.now name scripts builtins rest c.in-Some.ensures.some s)

pub returns-in_default-after-clause-none : goal.returns-in_default-after-clause-none
returns-in_default-after-clause-none c = λ name scripts builtins rest s.
    c.in_default-after.ensures.none _
    (script_space c.args.text.now c.in-Some.behind.now c.in-Some-2.behind.now c.in-Some-2.name name scripts builtins rest c.in-Some.ensures.some (rw c.in-Some-2.is at c.in_ok-name.ensures.some) s).1

pub returns-in_default-counts-clause-none : goal.returns-in_default-counts-clause-none
returns-in_default-counts-clause-none c = λ name scripts builtins rest s.
    c.in_default-counts.ensures.none scripts builtins rest
    (script_counts c.args.text.now c.in-Some.behind.now c.in-Some-2.behind.now c.in-Some-after.behind.now c.in-Some-2.name name scripts builtins rest c.in-Some.ensures.some (rw c.in-Some-2.is at c.in_ok-name.ensures.some) c.in-Some-after.ensures.some s)

pub returns-clause-some : goal.returns-clause-some
returns-clause-some c =
    script_of c.args.text.now c.in-Some.behind.now c.in-Some-2.behind.now c.in-Some-after.behind.now c.in-Some-2.name c.in-Some-counts.scripts c.in-Some-counts.builtins c.in-Some-counts.rest.now c.in-Some.ensures.some
    (rw c.in-Some-2.is at c.in_ok-name.ensures.some) c.in-Some-after.ensures.some c.in-Some-counts.ensures.some
