use Rattle.std.proofs.Common.{arith, ◌<◌, length}
use Rattle.c_meaning.specs.Text.{params_text}
use Rattle.c_reader.proofs.Shapes.{params_quoted, no_params, no_order}
use Rattle.c_reader.proofs.params.params.Goals as goal

pub returns-in_default-clause-none : goal.returns-in_default-clause-none
returns-in_default-clause-none c = λ shape rest s. (rw c.in_default.is at c.in_ok-bytes.ensures.none) (params_text shape) rest (params_quoted c.args.text.now shape rest s)

pub returns-in_default-2-clause-none : goal.returns-in_default-2-clause-none
returns-in_default-2-clause-none c =
    let long : 0 < length c.in-Some.bytes.items = grind (arith, c.is_empty.ensures, c.if-is_empty.false, c.in-Some.bytes.ok.0) in
    no_params c.args.text.now c.in-Some.bytes.items c.in-Some.rest.now c.deref.result.now (rw c.in-Some.is at c.in_ok-bytes.ensures.some) long c.deref.ensures.value (rw c.in_default-2.is at c.in_ok-shape.ensures.none)

pub returns-then-not-in_order-clause-none : goal.returns-then-not-in_order-clause-none
returns-then-not-in_order-clause-none c =
    let long : 0 < length c.in-Some.bytes.items = grind (arith, c.is_empty.ensures, c.if-is_empty.false, c.in-Some.bytes.ok.0) in
    no_order c.args.text.now c.in-Some.bytes.items c.in-Some.rest.now c.deref.result.now c.in-Some-2.shape (rw c.in-Some.is at c.in_ok-bytes.ensures.some) long c.deref.ensures.value (rw c.in-Some-2.is at c.in_ok-shape.ensures.some)
    (grind (arith, c.in_order.ensures, c.if-not-in_order.true))
