-- Places in order are numbers, in a new list.
use Rattle.std.proofs.Common.{ℕ, List, [], ◌∷◌, Option, Some, None, Bool, map, lit<}
use Rattle.nu_value.specs.declared.object.Object.{Object}
use Rattle.nu_value.specs.declared.object.Object.TheVariants as object
use Rattle.nu_value.specs.declared.value.Value.{Value}
use Rattle.nu_value.specs.declared.value.Value.TheVariants as value
use Rattle.nu_value.specs.Same.{object_of}
use Rattle.op_forms.specs.declared.end.OpEnd.{OpEnd}
use Rattle.op_forms.specs.declared.end.OpEnd.TheVariants as opend
use Rattle.op_forms.specs.declared.op.Op.TheVariants as op
use Rattle.op_forms.specs.declared.world.World.{World}
use Rattle.op_forms.specs.Parts.{AllOf}
use Rattle.op_forms.specs.Right.{Claim, Closed, Right}
use Rattle.op_rules.specs.Order.{disorder, first_end, disorder_with, disorder_in, order_of, number_value, order_or, order_on, order_native}
use Rattle.op_rules.specs.Ordering.{order_row}
use Rattle.op_rules.proofs.Items.{list_right}
use Rattle.op_rules.proofs.Plain.{IsPlain, plain_right}
use Rattle.op_rules.proofs.Usual.{idle}

abbrev PlainIf : Option OpEnd → Type 0
PlainIf None = Unit {0}
PlainIf (Some e) = IsPlain e

disorder_plain : (e : OpEnd) → PlainIf (disorder e)
disorder_plain (opend.Give v) = tt
disorder_plain (opend.Stop kind) = tt
disorder_plain e = (lit< tt, tt)

first_plain : (a b : Option OpEnd) → PlainIf a → PlainIf b → PlainIf (first_end a b)
first_plain None b p q = q
first_plain (Some e) b p q = p

with_plain : (h : List Object) (x : Value) (ys : List Value) → PlainIf (disorder_with h x ys)
with_plain h x [] = tt
with_plain h x (y ∷ ys) = first_plain (disorder (order_row op.Lt h x y)) (disorder_with h x ys) (disorder_plain (order_row op.Lt h x y)) (with_plain h x ys)

in_plain : (h : List Object) (items : List Value) → PlainIf (disorder_in h items)
in_plain h [] = tt
in_plain h (x ∷ xs) = first_plain (disorder_with h x xs) (disorder_in h xs) (with_plain h x xs) (in_plain h xs)

module _ (c : Claim) (w : World) (k : Closed c w) where
  numbers_of : (places : List ℕ) → AllOf c.of (map number_value places)
  numbers_of [] = tt
  numbers_of (x ∷ places) = (k.plain (number_value x) tt, numbers_of places)

  order_or_right : (items : List Value) (falling : Bool) (e : Option OpEnd) → PlainIf e → Right c w (order_or w.heap items falling e)
  order_or_right items falling None p = list_right c w k (map number_value (order_of w.heap items falling)) (numbers_of (order_of w.heap items falling))
  order_or_right items falling (Some e) p = plain_right c w k e p

  order_at : (o : Option Object) (r : Value) → Right c w (order_on w.heap o r)
  order_at (Some (object.List items)) (value.Bool falling) = order_or_right items falling (disorder_in w.heap items) (in_plain w.heap items)
  order_at o r = idle c w k

  pub order_right : (l r : Value) → Right c w (order_native w.heap l r)
  order_right l r = order_at (object_of w.heap l) r
