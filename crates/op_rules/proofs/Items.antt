-- The rows on items use only what they are given, what they find there and what they make.
use Rattle.std.proofs.Common.{ℕ, ◌+◌, List, [], ◌∷◌, ◌++◌, Option, Some, None, length, lit<, inr, ◌^◌}
use Rattle.std.specs.Prelude.{ℤ, codes, nat_le, nat_lt, slice_get, slice_set, remove}
use Rattle.nu_value.specs.declared.object.Object.{Object}
use Rattle.nu_value.specs.declared.object.Object.TheVariants as object
use Rattle.nu_value.specs.declared.value.Value.{Value}
use Rattle.nu_value.specs.declared.value.Value.TheVariants as value
use Rattle.nu_value.specs.Ranges.{range_count}
use Rattle.nu_value.specs.Same.{number_of}
use Rattle.op_forms.specs.declared.end.OpEnd.{OpEnd}
use Rattle.op_forms.specs.declared.world.World.{World}
use Rattle.op_forms.specs.Doing.{Fill, Doing, ends, makes}
use Rattle.op_forms.specs.Parts.{AllOf, ValueOf}
use Rattle.op_forms.specs.Right.{Claim, Known, Closed, EndOf, Right}
use Rattle.op_rules.specs.Items.{within_limit, tuple_row, list_row, pushed, push_on, push_row, place_in, item_at, item_of, number_or, range_item, index_on, index_row, item_set, list_set, setindex_on, setindex_row, item_deleted, list_delete, delindex_on, delindex_row, len_on, len_row}
use Rattle.op_rules.specs.NameRows.{value_or}
use Rattle.op_rules.specs.TextRows.{size_limit}
use Rattle.op_rules.proofs.AllItems.{at_of, set_of, append_of, remove_of}
use Rattle.op_rules.proofs.Usual.{ended, fails, failed, idle, change_right, made_right, if_right, if_end}

module _ (c : Claim) (w : World) (k : Closed c w) where
  pub limit_right : (count : ℕ) (d : Doing) → Right c w d → Right c w (within_limit count d)
  limit_right count d p = if_right c w k (nat_le count size_limit) d _ p (ended c w k _ tt)

  -- ---- displays

  pub tuple_right : (items : List Value) → AllOf c.of items → Right c w (makes w.heap (object.Tuple items))
  tuple_right items p = made_right c w k (object.Tuple items) (p, tt, tt)

  pub list_right : (items : List Value) → AllOf c.of items → Right c w (makes w.heap (object.List items))
  list_right items p = made_right c w k (object.List items) (p, tt, tt)

  pub tuple_row_right : (items : List Value) → AllOf c.of items → Right c w (tuple_row w.heap items)
  tuple_row_right items p = limit_right (length items) _ (tuple_right items p)

  pub list_row_right : (items : List Value) → AllOf c.of items → Right c w (list_row w.heap items)
  list_row_right items p = limit_right (length items) _ (list_right items p)

  pub pushed_right : (n : ℕ) (items : List Value) (v : Value) → AllOf c.of items → c.of v → Right c w (pushed n items v)
  pushed_right n items v p q =
      limit_right (length items + 1) _ (change_right c w k n (Fill (items ++ v ∷ [])) (append_of c.of items (v ∷ []) p (q, tt), inr tt))

  push_at : (n : ℕ) (v : Value) (o : Option Object) → Known c w n o → c.of v → Right c w (push_on n v o)
  push_at n v (Some (object.List items)) p q = pushed_right n items v p.parts q
  push_at n v o p q = idle c w k

  pub push_right : (l v : Value) → c.of v → Right c w (push_row w.heap l v)
  push_right (value.Obj n) v q = push_at n v (slice_get w.heap n) (k.objects n) q
  push_right l v q = idle c w k

  -- ---- reading

  value_right : (v : Option Value) (e : OpEnd) → ValueOf c.of v → EndOf c w e → EndOf c w (value_or v e)
  value_right None e p q = q
  value_right (Some v) e p q = p

  item_end : (kind : List ℕ) (items : List Value) (i : Option ℤ) → AllOf c.of items → EndOf c w (item_of kind items i)
  item_end kind items None p = fails c w k 35 _ (lit< tt)
  item_end kind items (Some i) p =
      value_right (item_at items (place_in (length items) i)) _ (at_of c.of items (place_in (length items) i) p) (fails c w k 28 _ (lit< tt))

  number_end : (start step : ℤ) (place : Option ℕ) → EndOf c w (number_or start step place)
  number_end start step None = fails c w k 28 _ (lit< tt)
  number_end start step (Some place) = k.plain _ tt

  range_end : (start stop step : ℤ) (i : Option ℤ) → EndOf c w (range_item start stop step i)
  range_end start stop step None = fails c w k 35 _ (lit< tt)
  range_end start stop step (Some i) = number_end start step (place_in (range_count start stop step) i)

  index_end : (x i : Value) (n : ℕ) (o : Option Object) → Known c w n o → EndOf c w (index_on w.heap x i o)
  index_end x i n (Some (object.List items)) p = item_end (codes "list") items (number_of i) p.parts
  index_end x i n (Some (object.Tuple items)) p = item_end (codes "tuple") items (number_of i) p.parts
  index_end x i n (Some (object.Range start stop step)) p = range_end start stop step (number_of i)
  index_end x i n o p = fails c w k 35 _ (lit< tt)

  pub index_right : (x i : Value) → Right c w (ends (index_row w.heap x i))
  index_right (value.Obj n) i = ended c w k _ (index_end (value.Obj n) i n (slice_get w.heap n) (k.objects n))
  index_right x i = failed c w k 35 _ (lit< tt)

  -- ---- writing

  item_set_right : (n : ℕ) (items : List Value) (v : Value) (i : Option ℕ) → AllOf c.of items → c.of v → Right c w (item_set n items v i)
  item_set_right n items v None p q = failed c w k 28 _ (lit< tt)
  item_set_right n items v (Some i) p q = change_right c w k n (Fill (slice_set items i v)) (set_of c.of items i v p q, inr tt)

  list_set_right : (n : ℕ) (items : List Value) (v : Value) (i : Option ℤ) → AllOf c.of items → c.of v → Right c w (list_set n items v i)
  list_set_right n items v None p q = failed c w k 35 _ (lit< tt)
  list_set_right n items v (Some i) p q = item_set_right n items v (place_in (length items) i) p q

  setindex_at : (n : ℕ) (i v : Value) (o : Option Object) → Known c w n o → c.of v → Right c w (setindex_on w.heap n i v o)
  setindex_at n i v (Some (object.List items)) p q = list_set_right n items v (number_of i) p.parts q
  setindex_at n i v o p q = failed c w k 35 _ (lit< tt)

  pub setindex_right : (x i v : Value) → c.of v → Right c w (setindex_row w.heap x i v)
  setindex_right (value.Obj n) i v q = setindex_at n i v (slice_get w.heap n) (k.objects n) q
  setindex_right x i v q = failed c w k 35 _ (lit< tt)

  deleted_right : (n : ℕ) (items : List Value) (i : Option ℕ) → AllOf c.of items → Right c w (item_deleted n items i)
  deleted_right n items None p = failed c w k 28 _ (lit< tt)
  deleted_right n items (Some i) p = change_right c w k n (Fill (remove items i)) (remove_of c.of items i p, inr tt)

  list_delete_right : (n : ℕ) (items : List Value) (i : Option ℤ) → AllOf c.of items → Right c w (list_delete n items i)
  list_delete_right n items None p = failed c w k 35 _ (lit< tt)
  list_delete_right n items (Some i) p = deleted_right n items (place_in (length items) i) p

  delindex_at : (n : ℕ) (i : Value) (o : Option Object) → Known c w n o → Right c w (delindex_on w.heap n i o)
  delindex_at n i (Some (object.List items)) p = list_delete_right n items (number_of i) p.parts
  delindex_at n i o p = failed c w k 35 _ (lit< tt)

  pub delindex_right : (x i : Value) → Right c w (delindex_row w.heap x i)
  delindex_right (value.Obj n) i = delindex_at n i (slice_get w.heap n) (k.objects n)
  delindex_right x i = failed c w k 35 _ (lit< tt)

  -- ---- `len`

  len_end : (x : Value) (o : Option Object) → EndOf c w (len_on w.heap x o)
  len_end x (Some (object.List items)) = k.plain _ tt
  len_end x (Some (object.Tuple items)) = k.plain _ tt
  len_end x (Some (object.Range start stop step)) = if_end c w k (nat_lt (range_count start stop step) (2 ^ 127)) _ _ (k.plain _ tt) tt
  len_end x o = fails c w k 35 _ (lit< tt)

  pub len_right : (x : Value) → Right c w (ends (len_row w.heap x))
  len_right (value.Obj n) = ended c w k _ (len_end (value.Obj n) (slice_get w.heap n))
  len_right x = failed c w k 35 _ (lit< tt)
