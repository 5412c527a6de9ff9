-- A slice's items are among those of what it is taken of.
use Rattle.std.proofs.Common.{ℕ, List, Option, Some, None, Bool, true, false, length, lit<}
use Rattle.std.specs.Prelude.{ℤ, pos, slice_get, if◌then◌else◌}
use Rattle.std.specs.Ordering.{int_eq}
use Rattle.nu_value.specs.declared.object.Object.{Object}
use Rattle.nu_value.specs.declared.object.Object.TheVariants as object
use Rattle.nu_value.specs.declared.value.Value.{Value}
use Rattle.nu_value.specs.declared.value.Value.TheVariants as value
use Rattle.nu_value.specs.Ranges.{range_count}
use Rattle.nu_value.specs.Same.{number_of}
use Rattle.op_forms.specs.declared.end.OpEnd.{OpEnd}
use Rattle.op_forms.specs.declared.world.World.{World}
use Rattle.op_forms.specs.Doing.{makes}
use Rattle.op_forms.specs.Parts.{AllOf}
use Rattle.op_forms.specs.Right.{Claim, Known, Closed, EndOf, Right}
use Rattle.op_rules.specs.Slices.{are_bounds, first_place, end_place, sliced, step_of, no_step, refused, slice_or, slice_of, slice_on, slice_row}
use Rattle.op_rules.proofs.AllItems.{picked_of}
use Rattle.op_rules.proofs.Items.{list_right, tuple_right}
use Rattle.op_rules.proofs.Usual.{ended, fails, failed, idle}

module _ (c : Claim) (w : World) (k : Closed c w) where
  sliced_of : (items : List Value) (start stop : Option ℤ) (step : ℤ) → AllOf c.of items → AllOf c.of (sliced items start stop step)
  sliced_of items start stop step p =
      picked_of c.of items (first_place (length items) step start) step (range_count (first_place (length items) step start) (end_place (length items) step stop) step) p

  abbrev EndIf : Option OpEnd → Type 0
  EndIf None = Unit {0}
  EndIf (Some e) = EndOf c w e

  if_refused : (b : Bool) (x y : Option OpEnd) → EndIf x → EndIf y → EndIf (if b then x else y)
  if_refused true x y p q = p
  if_refused false x y p q = q

  refused_end : (start stop step : Value) → EndIf (refused start stop step)
  refused_end start stop step =
      if_refused (are_bounds start stop step) _ _
      (if_refused (int_eq (step_of (number_of step)) (pos 0)) (Some no_step) None (fails c w k 36 _ (lit< tt)) tt)
      (fails c w k 35 _ (lit< tt))

  slice_or_right : (kind : List Value → Object) → ((items : List Value) → AllOf c.of items → Right c w (makes w.heap (kind items)))
      → (items : List Value) (start stop step : Value) (e : Option OpEnd) → AllOf c.of items → EndIf e → Right c w (slice_or w.heap kind items start stop step e)
  slice_or_right kind right items start stop step (Some e) p q = ended c w k e q
  slice_or_right kind right items start stop step None p q =
      right (sliced items (number_of start) (number_of stop) (step_of (number_of step))) (sliced_of items (number_of start) (number_of stop) (step_of (number_of step)) p)

  slice_of_right : (kind : List Value → Object) → ((items : List Value) → AllOf c.of items → Right c w (makes w.heap (kind items)))
      → (items : List Value) (start stop step : Value) → AllOf c.of items → Right c w (slice_of w.heap kind items start stop step)
  slice_of_right kind right items start stop step p = slice_or_right kind right items start stop step (refused start stop step) p (refused_end start stop step)

  slice_at : (x start stop step : Value) (n : ℕ) (o : Option Object) → Known c w n o → Right c w (slice_on w.heap x start stop step o)
  slice_at x start stop step n (Some (object.List items)) p = slice_of_right object.List (list_right c w k) items start stop step p.parts
  slice_at x start stop step n (Some (object.Tuple items)) p = slice_of_right object.Tuple (tuple_right c w k) items start stop step p.parts
  slice_at x start stop step n (Some (object.Range first end by)) p = idle c w k
  slice_at x start stop step n o p = failed c w k 35 _ (lit< tt)

  pub slice_right : (x start stop step : Value) → Right c w (slice_row w.heap x start stop step)
  slice_right (value.Obj n) start stop step = slice_at (value.Obj n) start stop step n (slice_get w.heap n) (k.objects n)
  slice_right x start stop step = failed c w k 35 _ (lit< tt)
