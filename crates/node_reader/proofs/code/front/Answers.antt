use Rattle.node_reader.proofs.Codes.{no_word, no_number, opening_of, front_scope, front_space, front_params, front_last, front_of}
use Rattle.node_reader.proofs.code.front.Goals as goal

pub returns-in_default-clause-none : goal.returns-in_default-clause-none
returns-in_default-clause-none c = no_word c.args.value c.args.text.now c.in_default.ensures.none

pub returns-in_default-after_number-clause-none : goal.returns-in_default-after_number-clause-none
returns-in_default-after_number-clause-none c = no_number c.args.value c.args.text.now c.in-Some.behind.now c.in-Some.ensures.some c.in_default-after_number.ensures.none

pub returns-in_default-2-clause-none : goal.returns-in_default-2-clause-none
returns-in_default-2-clause-none c = λ scope shape rest s.
    let begun = opening_of c.args.value c.args.text.now c.in-Some.behind.now c.in-Some-after_number.behind.now c.in-Some.ensures.some c.in-Some-after_number.ensures.some in
    (rw c.in_default-2.is at c.in_ok-scope.ensures.none) scope _ (front_scope c.args.value c.args.text.now c.in-Some-after_number.behind.now scope shape rest begun s)

pub returns-in_default-after-clause-none : goal.returns-in_default-after-clause-none
returns-in_default-after-clause-none c = λ scope shape rest s.
    let begun = opening_of c.args.value c.args.text.now c.in-Some.behind.now c.in-Some-after_number.behind.now c.in-Some.ensures.some c.in-Some-after_number.ensures.some in
    c.in_default-after.ensures.none _
    (front_space c.args.value c.args.text.now c.in-Some-after_number.behind.now c.in-Some-2.behind.now c.in-Some-2.scope scope shape rest begun (rw c.in-Some-2.is at c.in_ok-scope.ensures.some) s).1

pub returns-in_default-3-clause-none : goal.returns-in_default-3-clause-none
returns-in_default-3-clause-none c = λ scope shape rest s.
    let begun = opening_of c.args.value c.args.text.now c.in-Some.behind.now c.in-Some-after_number.behind.now c.in-Some.ensures.some c.in-Some-after_number.ensures.some in
    (rw c.in_default-3.is at c.in_ok-shape.ensures.none) shape _
    (front_params c.args.value c.args.text.now c.in-Some-after_number.behind.now c.in-Some-2.behind.now c.in-Some-after.behind.now c.in-Some-2.scope scope shape rest begun (rw c.in-Some-2.is at c.in_ok-scope.ensures.some) c.in-Some-after.ensures.some s)

pub returns-in_default-after-2-clause-none : goal.returns-in_default-after-2-clause-none
returns-in_default-after-2-clause-none c = λ scope shape rest s.
    let begun = opening_of c.args.value c.args.text.now c.in-Some.behind.now c.in-Some-after_number.behind.now c.in-Some.ensures.some c.in-Some-after_number.ensures.some in
    c.in_default-after-2.ensures.none rest
    (front_last c.args.value c.args.text.now c.in-Some-after_number.behind.now c.in-Some-2.behind.now c.in-Some-after.behind.now c.in-Some-3.behind.now c.in-Some-2.scope scope c.in-Some-3.shape shape rest begun
    (rw c.in-Some-2.is at c.in_ok-scope.ensures.some) c.in-Some-after.ensures.some (rw c.in-Some-3.is at c.in_ok-shape.ensures.some) s).1

pub returns-clause-some : goal.returns-clause-some
returns-clause-some c =
    let begun = opening_of c.args.value c.args.text.now c.in-Some.behind.now c.in-Some-after_number.behind.now c.in-Some.ensures.some c.in-Some-after_number.ensures.some in
    front_of c.args.value c.args.text.now c.in-Some-after_number.behind.now c.in-Some-2.behind.now c.in-Some-after.behind.now c.in-Some-3.behind.now c.in-Some-2.scope c.in-Some-3.shape c.in-Some-after-2.rest.now begun
    (rw c.in-Some-2.is at c.in_ok-scope.ensures.some) c.in-Some-after.ensures.some (rw c.in-Some-3.is at c.in_ok-shape.ensures.some) c.in-Some-after-2.ensures.some
