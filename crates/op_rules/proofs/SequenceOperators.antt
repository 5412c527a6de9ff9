-- The operators on lists, tuples, ranges and iterators use only what they are given, what they find there and what they make.
use Rattle.std.proofs.Common.{ℕ, ◌+◌, ◌*◌, List, [], ◌∷◌, ◌++◌, Option, Some, None, Result, Ok, Err, Bool, true, false, length, lit<, inr}
use Rattle.std.specs.Prelude.{ℤ, ◌==◌, codes, nat_le, slice_get, if◌then◌else◌}
use Rattle.nu_run.specs.declared.StopKind.{StopKind}
use Rattle.nu_value.specs.declared.object.Object.{Object}
use Rattle.nu_value.specs.declared.object.Object.TheVariants as object
use Rattle.nu_value.specs.declared.value.Value.{Value}
use Rattle.nu_value.specs.declared.value.Value.TheVariants as value
use Rattle.nu_value.specs.Ranges.{range_count}
use Rattle.nu_value.specs.Same.{number_of, object_of}
use Rattle.op_forms.specs.declared.end.After.TheVariants as behind
use Rattle.op_forms.specs.declared.op.Op.{Op}
use Rattle.op_forms.specs.declared.op.Op.TheVariants as op
use Rattle.op_forms.specs.declared.world.World.{World}
use Rattle.op_forms.specs.Doing.{Fill, Doing, ends, changes_giving}
use Rattle.op_forms.specs.Parts.{AllOf}
use Rattle.op_forms.specs.Right.{Claim, Known, Closed, EndOf, Right}
use Rattle.op_rules.specs.SequenceOperators.{add_on, add_row, iadd_on, iadd_row, repeats, repeated, or_size, repeated_into, mul_on, mul_row, imul_on, imul_row, mod_row, in_end, place_of_value, other_in_range, in_range_of, in_on, in_row}
use Rattle.op_rules.specs.TextRows.{copy_count, size_limit}
use Rattle.op_rules.proofs.AllItems.{append_of, repeats_of}
use Rattle.op_rules.proofs.AskedValues.{two_right}
use Rattle.op_rules.proofs.Asks.{asks_right}
use Rattle.op_rules.proofs.Items.{limit_right, list_right, tuple_right}
use Rattle.op_rules.proofs.Usual.{ended, failed, idle, giving_right, if_end}

module _ (c : Claim) (w : World) (k : Closed c w) where
  abbrev number_at : Value → ℕ
  number_at (value.Obj n) = n
  number_at x = 0

  -- what is known of the object that a value is
  known_of : (x : Value) → Known c w (number_at x) (object_of w.heap x)
  known_of (value.Obj n) = k.objects n
  known_of x = tt

  -- ---- `+`

  add_at : (d : Doing) (m n : ℕ) (x y : Option Object) → Known c w m x → Known c w n y → Right c w d → Right c w (add_on w.heap d x y)
  add_at d m n (Some (object.List xs)) (Some (object.List ys)) p q r =
      limit_right c w k (length xs + length ys) _ (list_right c w k (xs ++ ys) (append_of c.of xs ys p.parts q.parts))
  add_at d m n (Some (object.Tuple xs)) (Some (object.Tuple ys)) p q r =
      limit_right c w k (length xs + length ys) _ (tuple_right c w k (xs ++ ys) (append_of c.of xs ys p.parts q.parts))
  add_at d m n x y p q r = r

  pub add_right : (o : Op) (a b : Value) → Right c w (add_row o w.heap a b)
  add_right o a b = add_at _ (number_at a) (number_at b) (object_of w.heap a) (object_of w.heap b) (known_of a) (known_of b) (failed c w k 35 _ (lit< tt))

  iadd_at : (a b : Value) (o : Option Object) → c.of a → c.of b → Right c w (iadd_on w.heap a b o)
  iadd_at a b (Some (object.List items)) p q = ended c w k _ (two_right c w k (codes "_nu_addto") a b p q)
  iadd_at a b o p q = add_right op.IAdd a b

  pub iadd_right : (a b : Value) → c.of a → c.of b → Right c w (iadd_row w.heap a b)
  iadd_right a b p q = iadd_at a b (object_of w.heap a) p q

  -- ---- `*`

  abbrev AllIf : Option (List Value) → Type 0
  AllIf None = Unit {0}
  AllIf (Some all) = AllOf c.of all

  all_if : (b : Bool) (all : List Value) → AllOf c.of all → AllIf (if b then Some all else None)
  all_if true all p = p
  all_if false all p = tt

  or_size_right : (into : List Value → Doing) → ((all : List Value) → AllOf c.of all → Right c w (into all)) → (all : Option (List Value)) → AllIf all → Right c w (or_size into all)
  or_size_right into right None p = ended c w k _ tt
  or_size_right into right (Some all) p = right all p

  repeated_right : (into : List Value → Doing) → ((all : List Value) → AllOf c.of all → Right c w (into all)) → (items : List Value) (n : ℕ) → AllOf c.of items → Right c w (repeated_into into items n)
  repeated_right into right items n p =
      or_size_right into right (repeated items n) (all_if (nat_le (length items * n) size_limit) (repeats n items) (repeats_of c.of n items p))

  mul_at : (d : Doing) (m : ℕ) (x : Option Object) (z : Option ℤ) → Known c w m x → Right c w d → Right c w (mul_on w.heap d x z)
  mul_at d m (Some (object.List items)) (Some z) p r = repeated_right _ (list_right c w k) items (copy_count z) p.parts
  mul_at d m (Some (object.Tuple items)) (Some z) p r = repeated_right _ (tuple_right c w k) items (copy_count z) p.parts
  mul_at d m x z p r = r

  pub mul_right : (o : Op) (a b : Value) → Right c w (mul_row o w.heap a b)
  mul_right o a b =
      mul_at _ (number_at a) (object_of w.heap a) (number_of b) (known_of a)
      (mul_at _ (number_at b) (object_of w.heap b) (number_of a) (known_of b) (failed c w k 35 _ (lit< tt)))

  filled_right : (n : ℕ) (items : List Value) → c.of (value.Obj n) → AllOf c.of items → Right c w (changes_giving n (Fill items) (value.Obj n))
  filled_right n items p q = giving_right c w k n (Fill items) (value.Obj n) (q, inr tt) p

  imul_at : (n : ℕ) (b : Value) (x : Option Object) (z : Option ℤ) → Known c w n x → c.of (value.Obj n) → Right c w (imul_on w.heap n b x z)
  imul_at n b (Some (object.List items)) (Some z) p q = repeated_right _ (λ all r. filled_right n all q r) items (copy_count z) p.parts
  imul_at n b x z p q = mul_right op.IMul (value.Obj n) b

  pub imul_right : (a b : Value) → c.of a → Right c w (imul_row w.heap a b)
  imul_right (value.Obj n) b p = imul_at n b (slice_get w.heap n) (number_of b) (k.objects n) p
  imul_right a b p = mul_right op.IMul a b

  pub mod_right : (a b : Value) → Right c w (mod_row w.heap a b)
  mod_right (value.Str text) b = idle c w k
  mod_right a b = failed c w k 35 _ (lit< tt)

  -- ---- `in`

  found_end : (r : Result (Option ℕ) StopKind) → EndOf c w (in_end r)
  found_end (Ok place) = k.plain _ tt
  found_end (Err kind) = tt

  other_end : (count : ℕ) (o : Option Object) → EndOf c w (other_in_range count o)
  other_end count (Some (object.View dict kind)) = if_end c w k (count == 0) _ _ (k.plain _ tt) tt
  other_end count o = k.plain _ tt

  range_end : (start stop step : ℤ) (v : Value) (z : Option ℤ) → EndOf c w (in_range_of w.heap start stop step v z)
  range_end start stop step v (Some z) = k.plain _ tt
  range_end start stop step v None = other_end (range_count start stop step) (object_of w.heap v)

  in_end_at : (v x : Value) (o : Option Object) → c.of v → c.of x → EndOf c w (in_on w.heap v x o)
  in_end_at v x (Some (object.List items)) p q = found_end (place_of_value w.heap v items)
  in_end_at v x (Some (object.Tuple items)) p q = found_end (place_of_value w.heap v items)
  in_end_at v x (Some (object.Range start stop step)) p q = range_end start stop step v (number_of v)
  in_end_at v x o p q = asks_right c w k (codes "_nu_in") (v ∷ x ∷ []) [] behind.Truth (p, (q, tt)) tt tt tt

  pub in_right : (v x : Value) → c.of v → c.of x → Right c w (ends (in_row w.heap v x))
  in_right v x p q = ended c w k _ (in_end_at v x (object_of w.heap x) p q)
