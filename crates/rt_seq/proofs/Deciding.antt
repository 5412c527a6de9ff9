-- The order of two containers, one item after another.
use Rattle.std.proofs.Common.{◌≡◌, ◌≢◌, ℕ, zero, suc, ◌-◌, ◌<◌, List, length, Option, Some, None, drop, get_or, refl, ap, arith}
use Rattle.nu_run.specs.declared.StopKind.TheVariants as stop
use Rattle.nu_value.specs.declared.object.Object.{Object}
use Rattle.nu_value.specs.declared.object.Object.TheVariants as object
use Rattle.nu_value.specs.declared.same.Sameness.{Sameness}
use Rattle.nu_value.specs.declared.same.Sameness.TheVariants as same
use Rattle.nu_value.specs.declared.value.Value.{Value}
use Rattle.nu_value.specs.Same.{eq_at}
use Rattle.op_forms.specs.declared.end.OpEnd.{OpEnd}
use Rattle.op_forms.specs.declared.end.OpEnd.TheVariants as opend
use Rattle.op_forms.specs.declared.op.Op.{Op}
use Rattle.op_rules.specs.Ordering.{items_order, inside_order, objects_order, order_at}
use Rattle.rt_seq.specs.Alike.{insides, unordered}
use Rattle.rt_seq.proofs.Dropping.{there}

-- no room
pub inside_none : (room : ℕ) (o : Op) (h : List Object) (xs ys : List Value) → room ≡ 0 → inside_order room o h xs ys ≡ opend.Stop stop.Depth
unfolding inside_order
inside_none room o h xs ys e = rw e refl

-- room for one container more
pub inside_more : (room : ℕ) (o : Op) (h : List Object) (xs ys : List Value) → room ≢ 0 → inside_order room o h xs ys ≡ items_order o (eq_at (room - 1) h) (order_at (room - 1) o h) xs ys
unfolding inside_order
inside_more zero o h xs ys e = absurd (e refl)
inside_more (suc room) o h xs ys e = let back : suc room - 1 ≡ room = omega arith in rw back refl

-- two items that differ decide
pub items_differ : (o : Op) (eq : Value → Value → Sameness) (order : Value → Value → OpEnd) (xs ys : List Value) (i : ℕ) (x y : Value) → i < length xs → x ≡ get_or xs i x → i < length ys → y ≡ get_or ys i y → same.Different ≡ eq x y → items_order o eq order (drop i xs) (drop i ys) ≡ order x y
items_differ o eq order xs ys i x y l e m f is = rw (there xs i x l e, there ys i y m f, ← is) refl

-- ---- two objects

abbrev found : (List Value → List Value → OpEnd) → OpEnd → Option (List Value × List Value) → OpEnd
found inside other None = other
found inside other (Some p) = inside p.0 p.1

pub inside_is : (other : OpEnd) (inside : List Value → List Value → OpEnd) (x y : Option Object) (xs ys : List Value) → insides x y ≡ Some (xs, ys) → objects_order other inside x y ≡ inside xs ys
inside_is other inside (Some (object.List us)) (Some (object.List vs)) xs ys e = ap (found inside other) e
inside_is other inside (Some (object.Tuple us)) (Some (object.Tuple vs)) xs ys e = ap (found inside other) e
inside_is other inside x y xs ys e = absurd (cc)

pub apart_is : (other : OpEnd) (inside : List Value → List Value → OpEnd) (x y : Option Object) → insides x y ≡ None → objects_order other inside x y ≡ unordered other x y
apart_is other inside (Some (object.List us)) (Some (object.List vs)) e = absurd (cc)
apart_is other inside (Some (object.Tuple us)) (Some (object.Tuple vs)) e = absurd (cc)
apart_is other inside (Some (object.View dict kind)) y e = refl
apart_is other inside x (Some (object.View dict kind)) e = refl
apart_is other inside x y e = refl
