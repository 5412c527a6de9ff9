-- What is made of parts in which no scope stands.
use Rattle.std.proofs.Common.{◌++◌, ap, ◌∙◌}
use Rattle.py_meaning.specs.Resolved.{Made, Making, pure, and_then, made}
use Rattle.reform_all.specs.Expressions.{Is}

pub made_is : {A B : Type 0} (f : A → B) (m : Making A) (x : A) → Is m x → Is (made f m) (f x)
made_is {A} {B} f m x e next = ap (λ (a : Made A). record { is = f a.is; next = a.next; codes = a.codes }) (e next)

-- what comes of both
abbrev after : {A B : Type 0} → Made A → Made B → Made B
after a b = record { is = b.is; next = b.next; codes = a.codes ++ b.codes }

pub and_then_is : {A B : Type 0} (m : Making A) (f : A → Making B) (x : A) (y : B) → Is m x → Is (f x) y → Is (and_then m f) y
and_then_is {A} {B} m f x y e g next =
    ap (λ (a : Made A). after a (f a.is a.next)) (e next) ∙ ap (λ (b : Made B). after (pure x next) b) (g next)

pub two_is : {A B C : Type 0} (f : A → B → C) (m : Making A) (n : Making B) (x : A) (y : B) → Is m x → Is n y → Is (and_then m (λ a. made (f a) n)) (f x y)
two_is f m n x y e g = and_then_is m (λ a. made (f a) n) x (f x y) e (made_is (f x) n y g)

pub three_is : {A B C D : Type 0} (f : A → B → C → D) (m : Making A) (n : Making B) (k : Making C) (x : A) (y : B) (z : C) → Is m x → Is n y → Is k z → Is (and_then m (λ a. and_then n (λ b. made (f a b) k))) (f x y z)
three_is f m n k x y z e g h = and_then_is m (λ a. and_then n (λ b. made (f a b) k)) x (f x y z) e (two_is (f x) n k y z g h)
