use Rattle.std.proofs.Common.{◌≡◌, ap, subst, arith, length, Some, None}
use Rattle.nuit_lib.specs.Words.{steps_of}
use Rattle.nuit_lib.proofs.Steps.{empty, steps_some, steps_other, steps_more}
use Rattle.nuit_lib.proofs.words.decimal.Goals as goal

pub returns-in_default : goal.returns-in_default
returns-in_default c = subst (λ w. None ≡ steps_of w) c.as_bytes.ensures.value (steps_other c.as_bytes.result.now c.in_default.ensures.none)

pub returns-then-rest-gt0 : goal.returns-then-rest-gt0
returns-then-rest-gt0 c =
    subst (λ w. None ≡ steps_of w) c.as_bytes.ensures.value (steps_more _ _ _ c.in-Some.ensures.some (λ e m. let h = ap length e in omega (arith, h, c.if-rest-gt0.true)))

pub returns-then-value-gt-MOST_STEPS : goal.returns-then-value-gt-MOST_STEPS
returns-then-value-gt-MOST_STEPS c =
    subst (λ w. None ≡ steps_of w) c.as_bytes.ensures.value (steps_more _ _ _ c.in-Some.ensures.some (λ e m. omega (arith, m, c.if-value-gt-MOST_STEPS.true)))

pub returns : goal.returns
returns c =
    subst (λ w. Some c.in-Some.value ≡ steps_of w) c.as_bytes.ensures.value (steps_some _ _ _ c.in-Some.ensures.some (empty _ c.if-rest-gt0.false) (omega (arith, c.if-value-gt-MOST_STEPS.false)))
