use Rattle.node_reader.proofs.Codes.{no_back, back_free, back_line, back_of}
use Rattle.node_reader.proofs.code.back.Goals as goal

pub returns-in_err-generator-clause-none : goal.returns-in_err-generator-clause-none
returns-in_err-generator-clause-none c = rw c.from_residual.ensures (no_back c.args.text.now c.in_err-generator.ensures.none)

pub returns-in_err-free-clause-none : goal.returns-in_err-free-clause-none
returns-in_err-free-clause-none c =
    rw c.from_residual-in_err-free.ensures (λ generator free line rest s.
    c.in_err-free.ensures.none free _ (back_free c.args.text.now c.in_ok-generator.behind.now c.in_ok-generator.generator generator free line rest c.in_ok-generator.ensures.some s).1)

pub returns-in_err-line-clause-none : goal.returns-in_err-line-clause-none
returns-in_err-line-clause-none c =
    rw c.from_residual-in_err-line.ensures (λ generator free line rest s.
    c.in_err-line.ensures.none line rest
    (back_line c.args.text.now c.in_ok-generator.behind.now c.in_ok-free.behind.now c.in_ok-generator.generator generator c.in_ok-free.free free line rest c.in_ok-generator.ensures.some c.in_ok-free.ensures.some s).2)

pub returns-clause-some : goal.returns-clause-some
returns-clause-some c =
    back_of c.args.text.now c.in_ok-generator.behind.now c.in_ok-free.behind.now c.in_ok-generator.generator c.in_ok-free.free c.in_ok-line.line c.in_ok-line.rest.now c.in_ok-generator.ensures.some c.in_ok-free.ensures.some c.in_ok-line.ensures.some
