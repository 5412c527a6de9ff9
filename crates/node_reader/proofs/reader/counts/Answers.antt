use Rattle.std.proofs.Common.{arith}
use Rattle.node_reader.proofs.Scripts.{no_scripts, counts_builtins, too_many, counts_of}
use Rattle.node_reader.proofs.reader.counts.Goals as goal

pub returns-in_err-scripts-clause-none : goal.returns-in_err-scripts-clause-none
returns-in_err-scripts-clause-none c = rw c.from_residual.ensures (no_scripts c.args.text.now c.in_err-scripts.ensures.none)

pub returns-in_err-builtins-clause-none : goal.returns-in_err-builtins-clause-none
returns-in_err-builtins-clause-none c =
    rw c.from_residual-in_err-builtins.ensures (λ scripts builtins rest s.
    c.in_err-builtins.ensures.none builtins rest (counts_builtins c.args.text.now c.in_ok-scripts.behind.now c.in_ok-scripts.scripts scripts builtins rest c.in_ok-scripts.ensures.some s).1)

pub returns-clause-some : goal.returns-clause-some
returns-clause-some c = counts_of c.args.text.now c.in_ok-scripts.behind.now c.in_ok-scripts.scripts c.in_ok-builtins.builtins c.in_ok-builtins.rest.now c.in_ok-scripts.ensures.some c.in_ok-builtins.ensures.some (omega (arith, c.if-scripts-builtins-gt-CODES.false))

pub returns-then-scripts-builtins-gt-CODES-clause-none : goal.returns-then-scripts-builtins-gt-CODES-clause-none
returns-then-scripts-builtins-gt-CODES-clause-none c =
    too_many c.args.text.now c.in_ok-scripts.behind.now c.in_ok-scripts.scripts c.in_ok-builtins.builtins c.in_ok-builtins.rest.now c.in_ok-scripts.ensures.some c.in_ok-builtins.ensures.some (omega (arith, c.if-scripts-builtins-gt-CODES.true))
