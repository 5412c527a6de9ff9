-- What the order of two values comes to names no objects.
use Rattle.std.proofs.Common.{ℕ, zero, suc, List, [], ◌∷◌, Option, Some, lit<}
use Rattle.nu_value.specs.declared.object.Object.{Object}
use Rattle.nu_value.specs.declared.object.Object.TheVariants as object
use Rattle.nu_value.specs.declared.same.Sameness.{Sameness}
use Rattle.nu_value.specs.declared.same.Sameness.TheVariants as same
use Rattle.nu_value.specs.declared.value.Value.{Value}
use Rattle.nu_value.specs.Same.{eq_at, number_of, object_of}
use Rattle.op_forms.specs.declared.end.OpEnd.{OpEnd}
use Rattle.op_forms.specs.declared.op.Op.{Op}
use Rattle.op_forms.specs.Signs.{sign_of}
use Rattle.op_rules.specs.Kinds.{no_order}
use Rattle.op_rules.specs.Ordering.{decided_by, items_order, objects_order, order_by, inside_order, order_row}
use Rattle.op_rules.proofs.Plain.{IsPlain, numbers_plain, texts_plain}

decided_plain : (s : Sameness) (here more : OpEnd) → IsPlain here → IsPlain more → IsPlain (decided_by s here more)
decided_plain same.Equal here more p q = q
decided_plain same.Different here more p q = p
decided_plain same.Depth here more p q = tt
decided_plain same.Unbuilt here more p q = tt

items_plain : (o : Op) (equal : Value → Value → Sameness) (order : Value → Value → OpEnd) → ((x y : Value) → IsPlain (order x y)) → (xs ys : List Value) → IsPlain (items_order o equal order xs ys)
items_plain o equal order p [] ys = tt
items_plain o equal order p (x ∷ xs) [] = tt
items_plain o equal order p (x ∷ xs) (y ∷ ys) = decided_plain (equal x y) (order x y) (items_order o equal order xs ys) (p x y) (items_plain o equal order p xs ys)

objects_plain : (other : OpEnd) (inside : List Value → List Value → OpEnd) (x y : Option Object) → ((xs ys : List Value) → IsPlain (inside xs ys)) → IsPlain other → IsPlain (objects_order other inside x y)
objects_plain other inside (Some (object.List xs)) (Some (object.List ys)) p q = p xs ys
objects_plain other inside (Some (object.Tuple xs)) (Some (object.Tuple ys)) p q = p xs ys
objects_plain other inside (Some (object.View dict kind)) y p q = tt
objects_plain other inside x (Some (object.View dict kind)) p q = tt
objects_plain other inside x y p q = q

by_plain : (inside : List Value → List Value → OpEnd) (o : Op) (h : List Object) (a b : Value) → ((xs ys : List Value) → IsPlain (inside xs ys)) → IsPlain (order_by inside o h a b)
by_plain inside o h a b p =
    numbers_plain _ _ (number_of a) (number_of b) (λ x y. tt)
    (texts_plain _ _ a b (λ s t. tt) (objects_plain (no_order (sign_of o) h a b) inside (object_of h a) (object_of h b) p (lit< tt, tt)))

inside_plain : (room : ℕ) (o : Op) (h : List Object) (xs ys : List Value) → IsPlain (inside_order room o h xs ys)
unfolding inside_order
inside_plain zero o h xs ys = tt
inside_plain (suc room) o h xs ys =
    items_plain o (eq_at room h) (order_by (inside_order room o h) o h) (λ x y. by_plain (inside_order room o h) o h x y (inside_plain room o h)) xs ys

pub order_plain : (o : Op) (h : List Object) (a b : Value) → IsPlain (order_row o h a b)
order_plain o h a b = by_plain (inside_order 1000 o h) o h a b (inside_plain 1000 o h)
