-- The methods of lists and tuples use only what they are given, what they find there and what they make.
use Rattle.std.proofs.Common.{ℕ, ◌+◌, List, [], ◌∷◌, Option, Some, None, Result, Ok, Err, length, lit<, inr}
use Rattle.std.specs.Prelude.{ℤ, negsuc, codes, slice_get, reverse, remove, insert}
use Rattle.std.specs.Str.{bytes_eq}
use Rattle.nu_run.specs.declared.StopKind.{StopKind}
use Rattle.nu_value.specs.declared.object.Object.{Object}
use Rattle.nu_value.specs.declared.object.Object.TheVariants as object
use Rattle.nu_value.specs.declared.same.Sameness.{Sameness}
use Rattle.nu_value.specs.declared.same.Sameness.TheVariants as same
use Rattle.nu_value.specs.declared.value.Value.{Value}
use Rattle.nu_value.specs.declared.value.Value.TheVariants as value
use Rattle.nu_value.specs.Names.{NameList}
use Rattle.nu_value.specs.Same.{eq, number_of}
use Rattle.op_forms.specs.declared.end.OpEnd.{OpEnd}
use Rattle.op_forms.specs.declared.world.World.{World}
use Rattle.op_forms.specs.Doing.{Fill, Doing}
use Rattle.op_forms.specs.Parts.{AllOf, NamesOf, ValueOf}
use Rattle.op_forms.specs.Right.{Claim, Known, Closed, EndOf, Right}
use Rattle.op_forms.specs.Sound.{AreNamesDistinct}
use Rattle.op_rules.specs.Items.{place_in}
use Rattle.op_rules.specs.SequenceMethods.{append_method, taken_at, taken, pop_error, pop_at, pop_method, insert_place, insert_at, insert_method, extend_method, sort_method, removed, remove_method, index_end, index_method, counted_by, count_from, count_method, reverse_method, clear_method, copy_method, plain_method, without_keywords, tuple_method, method_on}
use Rattle.op_rules.specs.SequenceOperators.{place_of_value}
use Rattle.op_rules.proofs.AllItems.{get_of, insert_of, remove_of, reverse_of}
use Rattle.op_rules.proofs.AskedValues.{two_right, all_right}
use Rattle.op_rules.proofs.Items.{limit_right, list_right, pushed_right}
use Rattle.op_rules.proofs.Usual.{ended, fails, failed, idle, change_right, giving_right, if_right}

module _ (c : Claim) (w : World) (k : Closed c w) where
  append_right : (n : ℕ) (items args : List Value) → AllOf c.of items → AllOf c.of args → Right c w (append_method n items args)
  append_right n items [] p q = idle c w k
  append_right n items (v ∷ []) p q = pushed_right c w k n items v p q.0
  append_right n items (v ∷ a ∷ args) p q = idle c w k

  -- ---- `pop`

  taken_at_right : (n : ℕ) (items : List Value) (e : OpEnd) (place : ℕ) (v : Option Value) → AllOf c.of items → EndOf c w e → ValueOf c.of v → Right c w (taken_at n items e place v)
  taken_at_right n items e place None p q r = ended c w k e q
  taken_at_right n items e place (Some v) p q r = giving_right c w k n (Fill (remove items place)) v (remove_of c.of items place p, inr tt) r

  taken_right : (n : ℕ) (items : List Value) (e : OpEnd) (place : Option ℕ) → AllOf c.of items → EndOf c w e → Right c w (taken n items e place)
  taken_right n items e None p q = ended c w k e q
  taken_right n items e (Some place) p q = taken_at_right n items e place (slice_get items place) p q (get_of c.of items place p)

  pop_fails : (items : List Value) → EndOf c w (pop_error items)
  pop_fails [] = fails c w k 28 _ (lit< tt)
  pop_fails (v ∷ vs) = fails c w k 28 _ (lit< tt)

  pop_at_right : (n : ℕ) (items : List Value) (i : Option ℤ) → AllOf c.of items → Right c w (pop_at n items i)
  pop_at_right n items None p = failed c w k 35 _ (lit< tt)
  pop_at_right n items (Some i) p = taken_right n items (pop_error items) (place_in (length items) i) p (pop_fails items)

  pop_right : (n : ℕ) (items args : List Value) → AllOf c.of items → Right c w (pop_method n items args)
  pop_right n items [] p = pop_at_right n items (Some (negsuc 0)) p
  pop_right n items (i ∷ []) p = pop_at_right n items (number_of i) p
  pop_right n items (i ∷ a ∷ args) p = idle c w k

  -- ---- `insert`

  insert_at_right : (n : ℕ) (items : List Value) (v : Value) (i : Option ℤ) → AllOf c.of items → c.of v → Right c w (insert_at n items v i)
  insert_at_right n items v None p q = failed c w k 35 _ (lit< tt)
  insert_at_right n items v (Some z) p q =
      limit_right c w k (length items + 1) _
      (change_right c w k n (Fill (insert items (insert_place (length items) z) v)) (insert_of c.of items (insert_place (length items) z) v p q, inr tt))

  insert_right : (n : ℕ) (items args : List Value) → AllOf c.of items → AllOf c.of args → Right c w (insert_method n items args)
  insert_right n items [] p q = idle c w k
  insert_right n items (i ∷ []) p q = idle c w k
  insert_right n items (i ∷ v ∷ []) p q = insert_at_right n items v (number_of i) p q.1.0
  insert_right n items (i ∷ v ∷ a ∷ args) p q = idle c w k

  -- ---- functions of the built-in text

  extend_right : (n : ℕ) (args : List Value) → c.of (value.Obj n) → AllOf c.of args → Right c w (extend_method w.heap n args)
  extend_right n [] p q = idle c w k
  extend_right n (x ∷ []) p q = ended c w k _ (two_right c w k (codes "_nu_extend") (value.Obj n) x p q.0)
  extend_right n (x ∷ a ∷ args) p q = idle c w k

  sort_right : (n : ℕ) (args : List Value) (names : NameList) → c.of (value.Obj n) → AllOf c.of args → NamesOf c.of names → AreNamesDistinct names → Right c w (sort_method w.heap n args names)
  sort_right n args names p q r d = ended c w k _ (all_right c w k (codes "_nu_listsort") (value.Obj n ∷ args) names (p, q) r d)

  -- ---- `remove`, `index` and `count`

  removed_right : (n : ℕ) (items : List Value) (r : Result (Option ℕ) StopKind) → AllOf c.of items → Right c w (removed n items r)
  removed_right n items (Ok None) p = failed c w k 36 _ (lit< tt)
  removed_right n items (Ok (Some place)) p = change_right c w k n (Fill (remove items place)) (remove_of c.of items place p, inr tt)
  removed_right n items (Err kind) p = ended c w k _ tt

  remove_right : (n : ℕ) (items args : List Value) → AllOf c.of items → Right c w (remove_method w.heap n items args)
  remove_right n items [] p = idle c w k
  remove_right n items (v ∷ []) p = removed_right n items (place_of_value w.heap v items) p
  remove_right n items (v ∷ a ∷ args) p = idle c w k

  index_ends : (r : Result (Option ℕ) StopKind) → EndOf c w (index_end r)
  index_ends (Ok None) = fails c w k 36 _ (lit< tt)
  index_ends (Ok (Some place)) = k.plain _ tt
  index_ends (Err kind) = tt

  index_right : (items args : List Value) → Right c w (index_method w.heap items args)
  index_right items [] = idle c w k
  index_right items (v ∷ []) = ended c w k _ (index_ends (place_of_value w.heap v items))
  index_right items (v ∷ a ∷ args) = idle c w k

  counted_end : (s : Sameness) (count : ℕ) (more : ℕ → OpEnd) → ((count : ℕ) → EndOf c w (more count)) → EndOf c w (counted_by s count more)
  counted_end same.Equal count more p = p (count + 1)
  counted_end same.Different count more p = p count
  counted_end same.Depth count more p = tt
  counted_end same.Unbuilt count more p = tt

  count_end : (v : Value) (items : List Value) (count : ℕ) → EndOf c w (count_from w.heap v items count)
  count_end v [] count = k.plain _ tt
  count_end v (x ∷ xs) count = counted_end (eq w.heap x v) count (count_from w.heap v xs) (count_end v xs)

  count_right : (items args : List Value) → Right c w (count_method w.heap items args)
  count_right items [] = idle c w k
  count_right items (v ∷ []) = ended c w k _ (count_end v items 0)
  count_right items (v ∷ a ∷ args) = idle c w k

  -- ---- `reverse`, `clear` and `copy`

  reverse_right : (n : ℕ) (items args : List Value) → AllOf c.of items → Right c w (reverse_method n items args)
  reverse_right n items [] p = change_right c w k n (Fill (reverse items)) (reverse_of c.of items p, inr tt)
  reverse_right n items (a ∷ args) p = idle c w k

  clear_right : (n : ℕ) (args : List Value) → Right c w (clear_method n args)
  clear_right n [] = change_right c w k n (Fill []) (tt, inr tt)
  clear_right n (a ∷ args) = idle c w k

  copy_right : (items args : List Value) → AllOf c.of items → Right c w (copy_method w.heap items args)
  copy_right items [] p = list_right c w k items p
  copy_right items (a ∷ args) p = idle c w k

  -- ---- by name

  plain_method_right : (name : List ℕ) (n : ℕ) (items args : List Value) → c.of (value.Obj n) → AllOf c.of items → AllOf c.of args → Right c w (plain_method name w.heap n items args)
  plain_method_right name n items args r p q =
      if_right c w k (bytes_eq name (codes "append")) _ _ (append_right n items args p q)
      (if_right c w k (bytes_eq name (codes "pop")) _ _ (pop_right n items args p)
      (if_right c w k (bytes_eq name (codes "insert")) _ _ (insert_right n items args p q)
      (if_right c w k (bytes_eq name (codes "extend")) _ _ (extend_right n args r q)
      (if_right c w k (bytes_eq name (codes "remove")) _ _ (remove_right n items args p)
      (if_right c w k (bytes_eq name (codes "index")) _ _ (index_right items args)
      (if_right c w k (bytes_eq name (codes "count")) _ _ (count_right items args)
      (if_right c w k (bytes_eq name (codes "reverse")) _ _ (reverse_right n items args p)
      (if_right c w k (bytes_eq name (codes "clear")) _ _ (clear_right n args)
      (if_right c w k (bytes_eq name (codes "copy")) _ _ (copy_right items args p) (idle c w k))))))))))

  pub without_right : (names : NameList) (d : Doing) → Right c w d → Right c w (without_keywords names d)
  without_right [] d p = p
  without_right (x ∷ names) d p = idle c w k

  tuple_method_right : (name : List ℕ) (items args : List Value) → Right c w (tuple_method name w.heap items args)
  tuple_method_right name items args =
      if_right c w k (bytes_eq name (codes "index")) _ _ (index_right items args)
      (if_right c w k (bytes_eq name (codes "count")) _ _ (count_right items args) (idle c w k))

  pub method_right : (name : List ℕ) (n : ℕ) (args : List Value) (names : NameList) (o : Option Object) → Known c w n o → c.of (value.Obj n) → AllOf c.of args → NamesOf c.of names → AreNamesDistinct names
      → Right c w (method_on name w.heap n args names o)
  method_right name n args names (Some (object.List items)) p r q s d =
      if_right c w k (bytes_eq name (codes "sort")) _ _ (sort_right n args names r q s d)
      (without_right names _ (plain_method_right name n items args r p.parts q))
  method_right name n args names (Some (object.Tuple items)) p r q s d = without_right names _ (tuple_method_right name items args)
  method_right name n args names o p r q s d = idle c w k
