-- Iterators give what they go over.
use Rattle.std.proofs.Common.{ℕ, zero, suc, List, [], ◌∷◌, Option, Some, None, Bool, true, false, length, lit<, inl, inr, subst, sym}
use Rattle.std.specs.Prelude.{ℤ, pos, negsuc, nat_eq, nat_lt, slice_get, if◌then◌else◌, option_map, encode_utf8}
use Rattle.std.specs.Str.{chars}
use Rattle.nu_value.specs.declared.key.Atom.{Atom}
use Rattle.nu_value.specs.declared.object.Object.{Object}
use Rattle.nu_value.specs.declared.object.Object.TheVariants as object
use Rattle.nu_value.specs.declared.object.ViewKind.{ViewKind}
use Rattle.nu_value.specs.declared.object.ViewKind.TheVariants as view
use Rattle.nu_value.specs.declared.value.Value.{Value}
use Rattle.nu_value.specs.declared.value.Value.TheVariants as value
use Rattle.nu_value.specs.Pairs.{PairList}
use Rattle.nu_value.specs.Ranges.{range_count}
use Rattle.op_rules.specs.declared.arithmetic.Computed.{Computed}
use Rattle.op_rules.specs.declared.arithmetic.Computed.TheVariants as computed
use Rattle.op_forms.specs.declared.world.World.{World}
use Rattle.op_forms.specs.Doing.{Move, Doing}
use Rattle.op_forms.specs.Parts.{AllOf, PairsOf, ValueOf}
use Rattle.op_forms.specs.Right.{Claim, Known, Closed, EndOf, Right}
use Rattle.op_forms.specs.Sound.{Sort, ATuple, AList, ARange, IsA, Iterates}
use Rattle.op_rules.specs.Iteration.{iterates, iter_on, iter_row, number_within, pair_from, given_of, mapped_of, advanced, passes, advanced_making, passes_pair, while_sized, next_shown, next_viewed, next_in, next_over, next_on, next_row, stop_iteration}
use Rattle.op_rules.specs.Items.{number_at}
use Rattle.op_rules.specs.Numbers.{sum}
use Rattle.op_rules.specs.TextItems.{text_item}
use Rattle.op_rules.proofs.AllItems.{from_of}
use Rattle.op_rules.proofs.Usual.{ended, failed, idle, given_right, giving_right, made_right, if_right}

module _ (c : Claim) (w : World) (k : Closed c w) where
  -- ---- `iter`

  iterates_right : (n : ℕ) (s : Sort) → IsA w.heap n s → Iterates s → c.of (value.Obj n) → Right c w (iterates w.heap (value.Obj n))
  iterates_right n s p q r = made_right c w k (object.Iterator (value.Obj n) (pos 0) 0 false) (r, subst Iterates (sym p.sort) q, tt)

  iter_at : (n : ℕ) (o : Option Object) → Known c w n o → c.of (value.Obj n) → Right c w (iter_on w.heap (value.Obj n) o)
  iter_at n (Some (object.List items)) p r = iterates_right n AList p.sort tt r
  iter_at n (Some (object.Tuple items)) p r = iterates_right n ATuple p.sort tt r
  iter_at n (Some (object.Range start stop step)) p r = iterates_right n ARange p.sort tt r
  iter_at n (Some (object.Iterator over place size over_now)) p r = given_right c w k (value.Obj n) r
  iter_at n o p r = idle c w k

  pub iter_right : (x : Value) → c.of x → Right c w (iter_row w.heap x)
  iter_right (value.Obj n) r = iter_at n (slice_get w.heap n) (k.objects n) r
  iter_right x r = idle c w k

  -- ---- `next`

  stopped : EndOf c w stop_iteration
  stopped = (inl (k.natives 34 (lit< tt)), tt)

  advanced_right : (n size : ℕ) (v : Value) (x : Computed) → c.of v → Right c w (advanced n size v x)
  advanced_right n size v (computed.Int place) p = giving_right c w k n (Move place size) v (tt, inr tt) p
  advanced_right n size v x p = ended c w k _ tt

  passes_right : (n : ℕ) (place : ℤ) (size : ℕ) (v : Option Value) → ValueOf c.of v → Right c w (passes n place size v)
  passes_right n place size None p = λ news. record { end = stopped; set = (tt, inr tt); made = tt }
  passes_right n place size (Some v) p = advanced_right n size v (sum place (pos 1)) p

  -- a key and its value
  abbrev PairOf : Option (List Atom × Value × Value) → Type 0
  PairOf None = Unit {0}
  PairOf (Some p) = c.of p.1 × c.of p.2

  pair_of : (pairs : PairList) (i : ℕ) → PairsOf c.of pairs → PairOf (slice_get pairs i)
  pair_of [] i p = tt
  pair_of (x ∷ pairs) zero p = (p.0, p.1)
  pair_of (x ∷ pairs) (suc i) p = pair_of pairs i p.2

  pair_from_of : (pairs : PairList) (place : ℤ) → PairsOf c.of pairs → PairOf (pair_from pairs place)
  pair_from_of pairs (pos i) p = pair_of pairs i p
  pair_from_of pairs (negsuc i) p = tt

  given_known : (x : Option (List Atom × Value × Value)) → PairOf x → ValueOf c.of (given_of x)
  given_known None p = tt
  given_known (Some x) p = p.0

  mapped_known : (x : Option (List Atom × Value × Value)) → PairOf x → ValueOf c.of (mapped_of x)
  mapped_known None p = tt
  mapped_known (Some x) p = p.1

  making_right : (n size : ℕ) (items : List Value) (x : Computed) → AllOf c.of items → Right c w (advanced_making w.heap n size (object.Tuple items) x)
  making_right n size items (computed.Int place) p = λ news. record { end = news.0; set = (tt, inr tt); made = ((p, tt, tt), tt) }
  making_right n size items x p = ended c w k _ tt

  passes_pair_right : (n : ℕ) (place : ℤ) (size : ℕ) (x : Option (List Atom × Value × Value)) → PairOf x → Right c w (passes_pair w.heap n place size x)
  passes_pair_right n place size None p = λ news. record { end = stopped; set = (tt, inr tt); made = tt }
  passes_pair_right n place size (Some x) p = making_right n size (x.1 ∷ x.2 ∷ []) (sum place (pos 1)) (p.0, (p.1, tt))

  sized_right : (size : ℕ) (pairs : PairList) (d : Doing) → Right c w d → Right c w (while_sized size pairs d)
  sized_right size pairs d p = if_right c w k (nat_eq size (length pairs)) d _ p (failed c w k 32 _ (lit< tt))

  shown_right : (n : ℕ) (place : ℤ) (size : ℕ) (kind : ViewKind) (pairs : PairList) → PairsOf c.of pairs → Right c w (next_shown w.heap n place size kind pairs)
  shown_right n place size view.Keys pairs p = passes_right n place size _ (given_known (pair_from pairs place) (pair_from_of pairs place p))
  shown_right n place size view.Values pairs p = passes_right n place size _ (mapped_known (pair_from pairs place) (pair_from_of pairs place p))
  shown_right n place size view.Both pairs p = passes_pair_right n place size (pair_from pairs place) (pair_from_of pairs place p)

  dict_right : (n : ℕ) (place : ℤ) (size : ℕ) (kind : ViewKind) (pairs : PairList) → PairsOf c.of pairs → Right c w (while_sized size pairs (next_shown w.heap n place size kind pairs))
  dict_right n place size kind pairs p = sized_right size pairs _ (shown_right n place size kind pairs p)

  viewed_at : (n : ℕ) (place : ℤ) (size : ℕ) (kind : ViewKind) (m : ℕ) (o : Option Object) → Known c w m o → Right c w (next_viewed w.heap n place size kind o)
  viewed_at n place size kind m (Some (object.Dict pairs)) p = dict_right n place size kind pairs p.parts
  viewed_at n place size kind m o p = idle c w k

  number_known : (b : Bool) (z : ℤ) → ValueOf c.of (if b then Some (value.Int z) else None)
  number_known true z = k.plain (value.Int z) tt
  number_known false z = tt

  within_known : (count : ℕ) (start step place : ℤ) → ValueOf c.of (number_within count start step place)
  within_known count start step (pos i) = number_known (nat_lt i count) (number_at start step i)
  within_known count start step (negsuc i) = tt

  in_at : (n : ℕ) (place : ℤ) (size m : ℕ) (o : Option Object) → Known c w m o → Right c w (next_in w.heap n place size o)
  in_at n place size m (Some (object.List items)) p = passes_right n place size _ (from_of c.of items place p.parts)
  in_at n place size m (Some (object.Tuple items)) p = passes_right n place size _ (from_of c.of items place p.parts)
  in_at n place size m (Some (object.Range start stop step)) p = passes_right n place size _ (within_known (range_count start stop step) start step place)
  in_at n place size m (Some (object.Dict pairs)) p = dict_right n place size view.Keys pairs p.parts
  in_at n place size m (Some (object.View dict kind)) p = viewed_at n place size kind dict (slice_get w.heap dict) (k.objects dict)
  in_at n place size m o p = idle c w k

  character_known : (o : Option ℕ) → ValueOf c.of (option_map (λ x. value.Str (encode_utf8 x)) o)
  character_known None = tt
  character_known (Some x) = k.plain (value.Str (encode_utf8 x)) tt

  text_known : (text : List ℕ) (place : ℤ) → ValueOf c.of (text_item text place)
  text_known text (pos i) = character_known (slice_get (chars text) i)
  text_known text (negsuc i) = tt

  over_right : (n : ℕ) (place : ℤ) (size : ℕ) (x : Value) → Right c w (next_over w.heap n place size x)
  over_right n place size (value.Str text) = passes_right n place size _ (text_known text place)
  over_right n place size (value.Obj m) = in_at n place size m (slice_get w.heap m) (k.objects m)
  over_right n place size x = idle c w k

  next_at : (n : ℕ) (o : Option Object) → Right c w (next_on w.heap n o)
  next_at n (Some (object.Iterator x place size true)) = ended c w k stop_iteration stopped
  next_at n (Some (object.Iterator x place size false)) = over_right n place size x
  next_at n o = failed c w k 35 _ (lit< tt)

  pub next_right : (x : Value) → Right c w (next_row w.heap x)
  next_right (value.Obj n) = next_at n (slice_get w.heap n)
  next_right x = failed c w k 35 _ (lit< tt)
