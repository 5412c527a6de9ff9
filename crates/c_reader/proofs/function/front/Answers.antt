use Rattle.c_reader.proofs.Heads.{no_code, front_scope, front_comma, front_params, front_last, front_of}
use Rattle.c_reader.proofs.function.front.Goals as goal

pub returns-in_default-clause-none : goal.returns-in_default-clause-none
returns-in_default-clause-none c = no_code c.args.value c.args.text.now c.in_default.ensures.none

pub returns-in_default-2-clause-none : goal.returns-in_default-2-clause-none
returns-in_default-2-clause-none c = λ scope shape rest s.
    (rw c.in_default-2.is at c.in_ok-scope.ensures.none) scope _ (front_scope c.args.value c.args.text.now c.in-Some.behind.now scope shape rest c.in-Some.ensures.some s)

pub returns-in_default-after-clause-none : goal.returns-in_default-after-clause-none
returns-in_default-after-clause-none c = λ scope shape rest s.
    c.in_default-after.ensures.none _
    (front_comma c.args.value c.args.text.now c.in-Some.behind.now c.in-Some-2.behind.now c.in-Some-2.scope scope shape rest c.in-Some.ensures.some (rw c.in-Some-2.is at c.in_ok-scope.ensures.some) s).1

pub returns-in_default-3-clause-none : goal.returns-in_default-3-clause-none
returns-in_default-3-clause-none c = λ scope shape rest s.
    (rw c.in_default-3.is at c.in_ok-shape.ensures.none) shape _
    (front_params c.args.value c.args.text.now c.in-Some.behind.now c.in-Some-2.behind.now c.in-Some-after.behind.now c.in-Some-2.scope scope shape rest c.in-Some.ensures.some (rw c.in-Some-2.is at c.in_ok-scope.ensures.some) c.in-Some-after.ensures.some s)

pub returns-in_default-after-2-clause-none : goal.returns-in_default-after-2-clause-none
returns-in_default-after-2-clause-none c = λ scope shape rest s.
    c.in_default-after-2.ensures.none rest
    (front_last c.args.value c.args.text.now c.in-Some.behind.now c.in-Some-2.behind.now c.in-Some-after.behind.now c.in-Some-3.behind.now c.in-Some-2.scope scope c.in-Some-3.shape shape rest c.in-Some.ensures.some
    (rw c.in-Some-2.is at c.in_ok-scope.ensures.some) c.in-Some-after.ensures.some (rw c.in-Some-3.is at c.in_ok-shape.ensures.some) s).1

pub returns-clause-some : goal.returns-clause-some
returns-clause-some c =
    front_of c.args.value c.args.text.now c.in-Some.behind.now c.in-Some-2.behind.now c.in-Some-after.behind.now c.in-Some-3.behind.now c.in-Some-2.scope c.in-Some-3.shape c.in-Some-after-2.rest.now c.in-Some.ensures.some
    (rw c.in-Some-2.is at c.in_ok-scope.ensures.some) c.in-Some-after.ensures.some (rw c.in-Some-3.is at c.in_ok-shape.ensures.some) c.in-Some-after-2.ensures.some
