-- What holds of all items of lists holds of the items of lists that are made of them.
use Rattle.std.proofs.Common.{ℕ, zero, suc, List, [], ◌∷◌, ◌++◌, Option, Some, None, take, drop}
use mathlib.Core.List.{reverse_aux}
use Rattle.std.specs.Prelude.{ℤ, pos, negsuc, ◌+ℤ◌, slice_get, slice_set, reverse, remove, insert}
use Rattle.std.specs.Option.{option_to_list}
use Rattle.nu_value.specs.declared.value.Value.{Value}
use Rattle.op_forms.specs.Parts.{AllOf, ValueOf}
use Rattle.op_rules.specs.Items.{item_at}
use Rattle.op_rules.specs.SequenceOperators.{repeats}
use Rattle.op_rules.specs.Slices.{item_from, picked}

module _ (P : Value → Type 0) where
  pub get_of : (vs : List Value) (i : ℕ) → AllOf P vs → ValueOf P (slice_get vs i)
  get_of [] i p = tt
  get_of (v ∷ vs) zero p = p.0
  get_of (v ∷ vs) (suc i) p = get_of vs i p.1

  pub at_of : (vs : List Value) (i : Option ℕ) → AllOf P vs → ValueOf P (item_at vs i)
  at_of vs None p = tt
  at_of vs (Some i) p = get_of vs i p

  pub from_of : (vs : List Value) (i : ℤ) → AllOf P vs → ValueOf P (item_from vs i)
  from_of vs (pos i) p = get_of vs i p
  from_of vs (negsuc i) p = tt

  pub set_of : (vs : List Value) (i : ℕ) (v : Value) → AllOf P vs → P v → AllOf P (slice_set vs i v)
  set_of [] i v p q = tt
  set_of (x ∷ vs) zero v p q = (q, p.1)
  set_of (x ∷ vs) (suc i) v p q = (p.0, set_of vs i v p.1 q)

  pub append_of : (vs ws : List Value) → AllOf P vs → AllOf P ws → AllOf P (vs ++ ws)
  append_of [] ws p q = q
  append_of (x ∷ vs) ws p q = (p.0, append_of vs ws p.1 q)

  take_of : (i : ℕ) (vs : List Value) → AllOf P vs → AllOf P (take i vs)
  take_of zero vs p = tt
  take_of (suc i) [] p = tt
  take_of (suc i) (x ∷ vs) p = (p.0, take_of i vs p.1)

  drop_of : (i : ℕ) (vs : List Value) → AllOf P vs → AllOf P (drop i vs)
  drop_of zero vs p = p
  drop_of (suc i) [] p = tt
  drop_of (suc i) (x ∷ vs) p = drop_of i vs p.1

  pub insert_of : (vs : List Value) (i : ℕ) (v : Value) → AllOf P vs → P v → AllOf P (insert vs i v)
  insert_of vs i v p q = append_of (take i vs) (v ∷ drop i vs) (take_of i vs p) (q, drop_of i vs p)

  pub remove_of : (vs : List Value) (i : ℕ) → AllOf P vs → AllOf P (remove vs i)
  remove_of vs i p = append_of (take i vs) (drop (suc i) vs) (take_of i vs p) (drop_of (suc i) vs p)

  onto_of : (vs ws : List Value) → AllOf P vs → AllOf P ws → AllOf P (reverse_aux vs ws)
  onto_of [] ws p q = q
  onto_of (x ∷ vs) ws p q = onto_of vs (x ∷ ws) p.1 (p.0, q)

  pub reverse_of : (vs : List Value) → AllOf P vs → AllOf P (reverse vs)
  reverse_of vs p = onto_of vs [] p tt

  pub repeats_of : (n : ℕ) (vs : List Value) → AllOf P vs → AllOf P (repeats n vs)
  repeats_of zero vs p = tt
  repeats_of (suc n) vs p = append_of vs (repeats n vs) p (repeats_of n vs p)

  optional_of : (v : Option Value) → ValueOf P v → AllOf P (option_to_list v)
  optional_of None p = tt
  optional_of (Some v) p = (p, tt)

  pub picked_of : (vs : List Value) (place step : ℤ) (n : ℕ) → AllOf P vs → AllOf P (picked vs place step n)
  picked_of vs place step zero p = tt
  picked_of vs place step (suc n) p =
      append_of (option_to_list (item_from vs place)) (picked vs (place +ℤ step) step n)
      (optional_of (item_from vs place) (from_of vs place p)) (picked_of vs (place +ℤ step) step n p)
