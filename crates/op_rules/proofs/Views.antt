-- The rows on dicts and views that change nothing use only what they are given and what they find there.
use Rattle.std.proofs.Common.{◌≡◌, ℕ, zero, suc, [], ◌∷◌, Option, Some, None, Ok, Err, true, false, refl, sym, subst, length, lit<}
use Rattle.std.specs.Prelude.{pos, slice_get, option_map}
use Rattle.nu_value.specs.declared.object.Object.{Object}
use Rattle.nu_value.specs.declared.object.Object.TheVariants as object
use Rattle.nu_value.specs.declared.object.ViewKind.{ViewKind}
use Rattle.nu_value.specs.declared.object.ViewKind.TheVariants as view
use Rattle.nu_value.specs.declared.same.Sameness.{Sameness}
use Rattle.nu_value.specs.declared.same.Sameness.TheVariants as same
use Rattle.nu_value.specs.declared.value.Value.{Value}
use Rattle.nu_value.specs.declared.value.Value.TheVariants as value
use Rattle.nu_value.specs.Pairs.{PairList, key_place, mapped_value}
use Rattle.nu_value.specs.Same.{eq}
use Rattle.op_forms.specs.declared.end.OpEnd.{OpEnd}
use Rattle.op_forms.specs.declared.world.World.{World}
use Rattle.op_forms.specs.Parts.{PairsOf, ValueOf}
use Rattle.op_forms.specs.Right.{Claim, Known, Closed, EndOf, Right}
use Rattle.op_forms.specs.Sound.{sort_of, Iterates}
use Rattle.op_rules.specs.Comparisons.{same_end}
use Rattle.op_rules.specs.Keys.{KeyOr, key_or_end}
use Rattle.op_rules.specs.NameRows.{value_or}
use Rattle.op_rules.specs.Views.{pairs_in, size_on, value_keyed, index_on, index_row, key_within, among_values, in_view, in_on, in_row, iter_sized, iter_row, len_sized, len_row}
use Rattle.op_rules.proofs.Keys.{KeyOf, key_right, key_error_end}
use Rattle.op_rules.proofs.Usual.{fails, idle, made_right}

module _ (c : Claim) (w : World) (k : Closed c w) where
  pub value_end : (v : Option Value) (e : OpEnd) → ValueOf c.of v → EndOf c w e → EndOf c w (value_or v e)
  value_end None e p q = q
  value_end (Some v) e p q = p

  pub mapped_known : (ps : PairList) (i : ℕ) → PairsOf c.of ps → ValueOf c.of (option_map (λ p. p.2) (slice_get ps i))
  mapped_known [] i p = tt
  mapped_known (q ∷ ps) zero p = p.1
  mapped_known (q ∷ ps) (suc i) p = mapped_known ps i p.2

  -- ---- items

  value_keyed_end : (pairs : PairList) (i : Value) (r : KeyOr) → PairsOf c.of pairs → c.of i → KeyOf c w i r → EndOf c w (value_keyed pairs i r)
  value_keyed_end pairs i (Ok x) p q r = value_end (mapped_value pairs x) _ (mapped_known pairs (key_place pairs x) p) (key_error_end c w k i q)
  value_keyed_end pairs i (Err e) p q r = r

  index_at : (x i : Value) (n : ℕ) (o : Option Object) → Known c w n o → c.of i → EndOf c w (index_on w.heap x i o)
  index_at x i n (Some (object.Dict pairs)) p q = value_keyed_end pairs i (key_or_end w.heap i) p.parts q (key_right c w k i)
  index_at x i n o p q = fails c w k 35 _ (lit< tt)

  pub index_end : (x i : Value) → c.of i → EndOf c w (index_row w.heap x i)
  index_end (value.Obj n) i q = index_at (value.Obj n) i n (slice_get w.heap n) (k.objects n) q
  index_end x i q = fails c w k 35 _ (lit< tt)

  -- ---- `in`

  key_within_end : (pairs : PairList) (v : Value) (r : KeyOr) → KeyOf c w v r → EndOf c w (key_within pairs r)
  key_within_end pairs v (Ok x) r = k.plain (value.Bool _) tt
  key_within_end pairs v (Err e) r = r

  same_end_known : (s : Sameness) → EndOf c w (same_end (λ b. b) s)
  same_end_known same.Equal = k.plain (value.Bool true) tt
  same_end_known same.Different = k.plain (value.Bool false) tt
  same_end_known same.Depth = tt
  same_end_known same.Unbuilt = tt

  in_view_end : (v : Value) (kind : ViewKind) (pairs : PairList) → EndOf c w (in_view w.heap v kind pairs)
  in_view_end v view.Keys pairs = key_within_end pairs v (key_or_end w.heap v) (key_right c w k v)
  in_view_end v view.Values pairs = same_end_known (among_values (λ x. eq w.heap x v) pairs)
  in_view_end v view.Both pairs = tt

  in_on_end : (v : Value) (o : Option Object) → EndOf c w (in_on w.heap v o)
  in_on_end v (Some (object.Dict pairs)) = key_within_end pairs v (key_or_end w.heap v) (key_right c w k v)
  in_on_end v (Some (object.View dict kind)) = in_view_end v kind (pairs_in (slice_get w.heap dict))
  in_on_end v o = tt

  pub in_end : (v x : Value) → EndOf c w (in_row w.heap v x)
  in_end v (value.Obj n) = in_on_end v (slice_get w.heap n)
  in_end v x = tt

  -- ---- iterators and lengths

  iter_on : (n : ℕ) (o : Option Object) → slice_get w.heap n ≡ o → c.of (value.Obj n) → Right c w (iter_sized w.heap (value.Obj n) (size_on w.heap o))
  iter_on n (Some (object.Dict pairs)) e q =
      made_right c w k (object.Iterator (value.Obj n) (pos 0) (length pairs) false) (q, subst (λ o. Iterates (sort_of o)) (sym e) tt, tt)
  iter_on n (Some (object.View dict kind)) e q =
      made_right c w k (object.Iterator (value.Obj n) (pos 0) (length (pairs_in (slice_get w.heap dict))) false) (q, subst (λ o. Iterates (sort_of o)) (sym e) tt, tt)
  iter_on n o e q = idle c w k

  pub iter_right : (x : Value) → c.of x → Right c w (iter_row w.heap x)
  iter_right (value.Obj n) q = iter_on n (slice_get w.heap n) refl q
  iter_right x q = idle c w k

  len_sized_end : (size : Option ℕ) → EndOf c w (len_sized size)
  len_sized_end None = tt
  len_sized_end (Some size) = k.plain (value.Int (pos size)) tt

  pub len_end : (x : Value) → EndOf c w (len_row w.heap x)
  len_end (value.Obj n) = len_sized_end (size_on w.heap (slice_get w.heap n))
  len_end x = tt
