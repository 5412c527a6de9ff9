use Rattle.std.proofs.Common.{arith, ◌≡◌, ◌∙◌, ap}
use Rattle.op_forms.specs.Signature.{arguments, further}
use Rattle.code_forms.specs.Taking.{all_taken}
use Rattle.c_reader.proofs.Operations.{operation_head, operation_given, operation_fail, not_taken, operation_of}
use Rattle.c_reader.proofs.operation.operation.Goals as goal

pub returns-in_default-clause-none : goal.returns-in_default-clause-none
returns-in_default-clause-none c = λ o at given fail rest s. c.in_default.ensures.none o at _ (operation_head c.args.registers c.args.text.now o at given fail rest s)

pub returns-in_default-2-clause-none : goal.returns-in_default-2-clause-none
returns-in_default-2-clause-none c = λ o at given fail rest s.
    (rw c.in_default-2.is at c.in_ok-arguments.ensures.none) given _ (operation_given c.args.registers c.args.text.now c.in-Some.behind.now o c.in-Some.op c.in-Some.line at given fail rest c.in-Some.ensures.some s)

pub returns-in_default-field-clause-none : goal.returns-in_default-field-clause-none
returns-in_default-field-clause-none c = λ o at given fail rest s.
    c.in_default-field.ensures.none fail rest
    (operation_fail c.args.registers c.args.text.now c.in-Some.behind.now c.in-Some-2.behind.now o c.in-Some.op c.in-Some.line at c.in-Some-2.arguments given fail rest (omega (arith, c.ranges.registers.fits)) c.in-Some.ensures.some
    (rw c.in-Some-2.is at c.in_ok-arguments.ensures.some) s)

pub returns-then-not-takes_all-clause-none : goal.returns-then-not-takes_all-clause-none
returns-then-not-takes_all-clause-none c =
    let given = c.in-Some-2.arguments in
    let e : c.takes_all.result ≡ all_taken (arguments c.in-Some.op) (further c.in-Some.op) given = c.takes_all.ensures ∙ ap (all_taken (arguments c.in-Some.op) (further c.in-Some.op)) c.as_slice.ensures in
    not_taken c.args.registers c.args.text.now c.in-Some.behind.now c.in-Some-2.behind.now c.in-Some.op c.in-Some.line given (omega (arith, c.ranges.registers.fits)) c.in-Some.ensures.some (rw c.in-Some-2.is at c.in_ok-arguments.ensures.some)
    (grind (arith, e, c.if-not-takes_all.true))

pub returns-clause-some : goal.returns-clause-some
returns-clause-some c =
    let given = c.in-Some-2.arguments in
    let e : c.takes_all.result ≡ all_taken (arguments c.in-Some.op) (further c.in-Some.op) given = c.takes_all.ensures ∙ ap (all_taken (arguments c.in-Some.op) (further c.in-Some.op)) c.as_slice.ensures in
    operation_of c.args.registers c.args.text.now c.in-Some.behind.now c.in-Some-2.behind.now c.in-Some.op c.in-Some.line given c.in-Some-field.fail c.in-Some-field.rest.now c.in-Some.ensures.some (rw c.in-Some-2.is at c.in_ok-arguments.ensures.some) c.in-Some-field.ensures.some
    (grind (arith, e, c.if-not-takes_all.false))
