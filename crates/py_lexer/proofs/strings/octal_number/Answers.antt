use Rattle.std.proofs.Common.{◌∙◌, ap, sym, arith}
use Rattle.py_lexer.specs.Strings.{number}
use Rattle.py_lexer.proofs.Octal.{octal_step, octal_below, octal_read, octal_front, octal_digits}
use Rattle.py_lexer.proofs.strings.octal_number.Goals as goal

pub overflow_mul-number : goal.overflow_mul-number
overflow_mul-number c =
    let i = c.digits.invariant in
    let step = octal_step c.digits.number c.in-Some.digit c.in-Some.after.now c.digits.rest.now c.in-Some.ensures in
    omega (arith, octal_below c.digits.length c.digits.number c.in-Some.digit (omega (arith, step.2, i.few)) i.below step.3)

pub overflow_add-number : goal.overflow_add-number
overflow_add-number c =
    let i = c.digits.invariant in
    let step = octal_step c.digits.number c.in-Some.digit c.in-Some.after.now c.digits.rest.now c.in-Some.ensures in
    omega (arith, step.3, octal_below c.digits.length c.digits.number c.in-Some.digit (omega (arith, step.2, i.few)) i.below step.3)

pub digits-preserved : goal.digits-preserved
digits-preserved c =
    let i = c.digits.invariant in
    let step = octal_step c.digits.number c.in-Some.digit c.in-Some.after.now c.digits.rest.now c.in-Some.ensures in
    record {
      counted = sym step.0 ∙ i.counted;
      measured = omega (arith, step.1, i.measured);
      few = omega (arith, step.2, i.few);
      within = omega (arith, step.2, i.within);
      below = (octal_below c.digits.length c.digits.number c.in-Some.digit (omega (arith, step.2, i.few)) i.below step.3).0;
    }

pub returns-clause-value : goal.returns-clause-value
returns-clause-value c = sym (octal_read c.digits.number c.digits.rest.now c.in_default.ensures) ∙ c.digits.invariant.counted ∙ ap (number 8 0) (octal_front 3 c.args.text.now)

pub returns-clause-digits : goal.returns-clause-digits
returns-clause-digits c = octal_digits 3 c.args.text.now
