use Rattle.std.proofs.Common.{sym, ◌∙◌}
use Rattle.c_reader.proofs.Declarations.{no_number, other_number, declared_first, declared_more, declared_all, declared_twice, no_end}
use Rattle.c_reader.proofs.declaration.declaration.Goals as goal

pub loop-next-init : goal.loop-next-init
loop-next-init c = declared_first c.args.text.now c.in-Some.rest.now c.in-Some.ensures.some

pub returns-in_err-register-clause-none : goal.returns-in_err-register-clause-none
returns-in_err-register-clause-none c = rw c.from_residual.ensures (no_number _ _ _ _ c.loop-next.invariant c.in-Some-after.ensures.some c.in_err-register.ensures.none)

pub returns-then-register-from-clause-none : goal.returns-then-register-from-clause-none
returns-then-register-from-clause-none c =
    other_number _ _ _ _ _ _ c.loop-next.invariant c.in-Some-after.ensures.some c.in_ok-register.ensures.some (λ e. c.if-register-from.true (e ∙ sym c.from.ensures))

pub loop-next-preserved : goal.loop-next-preserved
loop-next-preserved c =
    declared_more _ _ _ _ _ _ _ c.loop-next.invariant c.in-Some-after.ensures.some c.in_ok-register.ensures.some (c.if-register-from.false ∙ c.from.ensures) c.in_ok-registers.ensures.1 c.in_ok-registers.ensures.0

pub returns-in_err-rest-clause-none : goal.returns-in_err-rest-clause-none
returns-in_err-rest-clause-none c = rw c.from_residual-in_err-rest.ensures (no_end _ _ _ c.loop-next.invariant c.in_default-after.ensures.none c.in_err-rest.ensures.none)

pub returns-in-Some-after-2-clause-none : goal.returns-in-Some-after-2-clause-none
returns-in-Some-after-2-clause-none c = declared_twice _ _ _ _ _ c.loop-next.invariant c.in_ok-rest.ensures.some c.in-Some-after-2.ensures.some

pub returns-in-None-clause-some : goal.returns-in-None-clause-some
returns-in-None-clause-some c = declared_all _ _ _ _ c.loop-next.invariant c.in_ok-rest.ensures.some c.in-None.ensures.none
