use Rattle.c_reader.proofs.Heads.{back_kind, back_slots, back_line, no_line_zero}
use Rattle.c_reader.proofs.function.back.Goals as goal

pub returns-in_err-generator-clause-none : goal.returns-in_err-generator-clause-none
returns-in_err-generator-clause-none c =
    rw c.from_residual.ensures (λ generator slots at rest s. c.in_err-generator.ensures.none generator _ (back_kind c.args.text.now generator slots at rest s))

pub returns-in_err-slots-clause-none : goal.returns-in_err-slots-clause-none
returns-in_err-slots-clause-none c =
    rw c.from_residual-in_err-slots.ensures (λ generator slots at rest s. c.in_err-slots.ensures.none slots _ (back_slots c.args.text.now c.in_ok-generator.behind.now c.in_ok-generator.generator generator slots at rest c.in_ok-generator.ensures.some s).1)

pub returns-in_err-line-clause-none : goal.returns-in_err-line-clause-none
returns-in_err-line-clause-none c =
    rw c.from_residual-in_err-line.ensures (λ generator slots at rest s.
    c.in_err-line.ensures.none at rest (back_line c.args.text.now c.in_ok-generator.behind.now c.in_ok-slots.behind.now c.in_ok-generator.generator generator c.in_ok-slots.slots slots at rest c.in_ok-generator.ensures.some c.in_ok-slots.ensures.some s).2)

pub returns-then-line-eq0-clause-none : goal.returns-then-line-eq0-clause-none
returns-then-line-eq0-clause-none c =
    no_line_zero c.args.text.now c.in_ok-generator.behind.now c.in_ok-slots.behind.now c.in_ok-generator.generator c.in_ok-slots.slots c.in_ok-line.line c.in_ok-line.rest.now c.in_ok-generator.ensures.some c.in_ok-slots.ensures.some c.in_ok-line.ensures.some c.if-line-eq0.true
