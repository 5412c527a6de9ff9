use Rattle.node_reader.proofs.Scripts.{no_heading, heading_script, heading_of}
use Rattle.node_reader.proofs.reader.heading.Goals as goal

pub returns-in_default-clause-not_nodes : goal.returns-in_default-clause-not_nodes
returns-in_default-clause-not_nodes c = no_heading c.args.text.now c.in_default.ensures.none

pub returns-in_default-2-clause-not_nodes : goal.returns-in_default-2-clause-not_nodes
returns-in_default-2-clause-not_nodes c = λ name scripts builtins rest s.
    (rw c.in_default-2.is at c.in_ok-name.ensures.none) name scripts builtins rest (heading_script c.args.text.now c.in-Some.second.now name scripts builtins rest c.in-Some.ensures.some s)

pub returns-clause-ok : goal.returns-clause-ok
returns-clause-ok c =
    heading_of c.args.text.now c.in-Some.second.now c.in-Some-2.name c.in-Some-2.scripts c.in-Some-2.builtins c.in-Some-2.rest.now c.in-Some.ensures.some (rw c.in-Some-2.is at c.in_ok-name.ensures.some)
