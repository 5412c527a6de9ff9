-- The rows on dicts and their views use only what they are given, what they find there and what they make.
use Rattle.std.proofs.Common.{◌≡◌, ℕ, List, [], ◌∷◌, Option, Some, None, Ok, Err, true, refl, sym, subst, lit<, inl, inr}
use Rattle.std.specs.Prelude.{◌⊎◌, codes, slice_get, remove}
use Rattle.nu_value.specs.declared.key.Atom.TheVariants as atom
use Rattle.nu_value.specs.declared.object.Object.{Object}
use Rattle.nu_value.specs.declared.object.Object.TheVariants as object
use Rattle.nu_value.specs.declared.value.Value.{Value}
use Rattle.nu_value.specs.declared.value.Value.TheVariants as value
use Rattle.nu_value.specs.Names.{NameList}
use Rattle.nu_value.specs.Pairs.{PairList, found_at, with_pair}
use Rattle.nu_value.specs.Same.{object_of}
use Rattle.nu_value.specs.View.{is_text}
use Rattle.op_forms.specs.declared.end.OpEnd.{OpEnd}
use Rattle.op_forms.specs.declared.op.Op.{Op}
use Rattle.op_forms.specs.declared.op.Op.TheVariants as op
use Rattle.op_forms.specs.declared.world.World.{World}
use Rattle.op_forms.specs.Doing.{Put, Fit}
use Rattle.op_forms.specs.Fits.{are_texts, is_dict, is_list}
use Rattle.op_forms.specs.Parts.{AllOf, NamesOf, PairsOf, OrUnset}
use Rattle.op_forms.specs.Right.{Claim, KnownObject, Known, Closed, Given, EndOf, KeepsTexts, Right}
use Rattle.op_forms.specs.Sound.{AreNamesDistinct, AreKeysDistinct, AreKeyed}
use Rattle.op_forms.proofs.Dicts.{distinct_put, keyed_put, pairs_with}
use Rattle.op_rules.specs.Dicts as spec
use Rattle.op_rules.specs.IntRows.{of_one, of_two}
use Rattle.op_rules.specs.Keys.{KeyOr, key_or_end}
use Rattle.op_rules.proofs.Asks.{asks_right}
use Rattle.op_rules.proofs.DictMethods.{method_right}
use Rattle.op_rules.proofs.Keys.{KeyOf, key_right, key_error_end}
use Rattle.op_rules.proofs.Removal.{distinct_removed, pairs_removed, keyed_removed, texts_with}
use Rattle.op_rules.proofs.Usual.{ended, fails, failed, idle, change_right, made_right, if_end}
use Rattle.op_rules.proofs.Views.{index_end, in_end, iter_right}

-- ---- keywords, put one after another

abbrev CouplesOf : (Value → Type 0) → List (Value × Value) → Type 0
CouplesOf P [] = Unit {0}
CouplesOf P (q ∷ qs) = P q.0 × P q.1 × CouplesOf P qs

couples_known : (P : Value → Type 0) (ps : PairList) → PairsOf P ps → CouplesOf P (spec.couples ps)
couples_known P [] p = tt
couples_known P (x ∷ ps) p = (p.0, p.1, couples_known P ps p.2)

record KnownPairs (P : Value → Type 0) (h : List Object) (ps : PairList) : Type 0 where
  parts : PairsOf P ps
  distinct : AreKeysDistinct ps
  keyed : AreKeyed h ps

module _ (P : Value → Type 0) (h : List Object) where
  text_put : (ps : PairList) (text : List ℕ) (v : Value) → KnownPairs P h ps → P (value.Str text) → P v → KnownPairs P h (with_pair ps (atom.Str text ∷ []) (value.Str text) v)
  text_put ps text v known p q =
      record {
        parts = pairs_with P ps (atom.Str text ∷ []) (value.Str text) v known.parts p q;
        distinct = distinct_put ps (atom.Str text ∷ []) (value.Str text) v known.distinct;
        keyed = keyed_put h ps (atom.Str text ∷ []) (value.Str text) v known.keyed (tt, refl);
      }

  merge_step : (ps : PairList) (text : List ℕ) (v : Value) (qs : List (Value × Value)) (place : Option ℕ) → KnownPairs P h ps
      → KnownPairs P h (spec.merge_all (with_pair ps (atom.Str text ∷ []) (value.Str text) v) qs).pairs
      → KnownPairs P h (spec.merge_if ps (spec.keyword_if text place) (λ x. spec.merge_all (with_pair ps x (value.Str text) v) qs)).pairs
  merge_step ps text v qs None known more = more
  merge_step ps text v qs (Some place) known more = known

  merge_known : (ps : PairList) (qs : List (Value × Value)) → KnownPairs P h ps → CouplesOf P qs → KnownPairs P h (spec.merge_all ps qs).pairs
  merge_known ps [] known r = known
  merge_known ps ((value.Str text, v) ∷ qs) known r =
      merge_step ps text v qs (found_at ps (atom.Str text ∷ [])) known
      (merge_known (with_pair ps (atom.Str text ∷ []) (value.Str text) v) qs (text_put ps text v known r.0 r.1) r.2)
  merge_known ps ((value.Unset, v) ∷ qs) known r = known
  merge_known ps ((value.None, v) ∷ qs) known r = known
  merge_known ps ((value.Bool b, v) ∷ qs) known r = known
  merge_known ps ((value.Int z, v) ∷ qs) known r = known
  merge_known ps ((value.Obj n, v) ∷ qs) known r = known

texts_step : (ps : PairList) (text : List ℕ) (v : Value) (qs : List (Value × Value)) (place : Option ℕ) → are_texts ps ≡ true
    → are_texts (spec.merge_all (with_pair ps (atom.Str text ∷ []) (value.Str text) v) qs).pairs ≡ true
    → are_texts (spec.merge_if ps (spec.keyword_if text place) (λ x. spec.merge_all (with_pair ps x (value.Str text) v) qs)).pairs ≡ true
texts_step ps text v qs None e more = more
texts_step ps text v qs (Some place) e more = e

merge_texts : (ps : PairList) (qs : List (Value × Value)) → are_texts ps ≡ true → are_texts (spec.merge_all ps qs).pairs ≡ true
merge_texts ps [] e = e
merge_texts ps ((value.Str text, v) ∷ qs) e =
    texts_step ps text v qs (found_at ps (atom.Str text ∷ [])) e
    (merge_texts (with_pair ps (atom.Str text ∷ []) (value.Str text) v) qs (texts_with ps (atom.Str text ∷ []) (value.Str text) v refl e))
merge_texts ps ((value.Unset, v) ∷ qs) e = e
merge_texts ps ((value.None, v) ∷ qs) e = e
merge_texts ps ((value.Bool b, v) ∷ qs) e = e
merge_texts ps ((value.Int z, v) ∷ qs) e = e
merge_texts ps ((value.Obj n, v) ∷ qs) e = e

module _ (c : Claim) (w : World) (k : Closed c w) where
  -- ---- items that are put

  put_right : (n : ℕ) (i v : Value) (r : KeyOr) → c.of (value.Obj n) ⊎ (is_text i ≡ true) → c.of i → c.of v → KeyOf c w i r → Right c w (spec.put_keyed n i v r)
  put_right n i v (Ok x) s p q r = change_right c w k n (Put x i v) ((p, q, r), s)
  put_right n i v (Err e) s p q r = ended c w k e r

  setindex_at : (n : ℕ) (i v : Value) (o : Option Object) → c.of (value.Obj n) ⊎ (is_text i ≡ true) → c.of i → c.of v → Right c w (spec.setindex_on w.heap n i v o)
  setindex_at n i v (Some (object.Dict pairs)) s p q = put_right n i v (key_or_end w.heap i) s p q (key_right c w k i)
  setindex_at n i v o s p q = failed c w k 35 _ (lit< tt)

  setindex_right : (x i v : Value) → c.of x ⊎ (is_text i ≡ true) → c.of i → c.of v → Right c w (spec.setindex_row w.heap x i v)
  setindex_right (value.Obj n) i v s p q = setindex_at n i v (slice_get w.heap n) s p q
  setindex_right x i v s p q = failed c w k 35 _ (lit< tt)

  -- ---- items that are removed

  remove_at_right : (n : ℕ) (pairs : PairList) (i : Value) (place : Option ℕ) → KnownObject c w n (object.Dict pairs) → c.of (value.Obj n) → c.of i → Right c w (spec.remove_at n pairs i place)
  remove_at_right n pairs i None known s p = ended c w k _ (key_error_end c w k i p)
  remove_at_right n pairs i (Some place) known s p =
      change_right c w k n (Fit (remove pairs place))
      ((pairs_removed c.of pairs place known.parts, distinct_removed pairs place known.links.0, keyed_removed w.heap pairs place known.links.1), inl s)

  remove_keyed_right : (n : ℕ) (pairs : PairList) (i : Value) (r : KeyOr) → KnownObject c w n (object.Dict pairs) → c.of (value.Obj n) → c.of i → KeyOf c w i r → Right c w (spec.remove_keyed n pairs i r)
  remove_keyed_right n pairs i (Ok x) known s p r = remove_at_right n pairs i (found_at pairs x) known s p
  remove_keyed_right n pairs i (Err e) known s p r = ended c w k e r

  delindex_at : (n : ℕ) (i : Value) (o : Option Object) → Known c w n o → c.of (value.Obj n) → c.of i → Right c w (spec.delindex_on w.heap n i o)
  delindex_at n i (Some (object.Dict pairs)) known s p = remove_keyed_right n pairs i (key_or_end w.heap i) known s p (key_right c w k i)
  delindex_at n i o known s p = failed c w k 35 _ (lit< tt)

  delindex_right : (x i : Value) → c.of x → c.of i → Right c w (spec.delindex_row w.heap x i)
  delindex_right (value.Obj n) i s p = delindex_at n i (slice_get w.heap n) (k.objects n) s p
  delindex_right x i s p = failed c w k 35 _ (lit< tt)

  -- ---- other dicts, and keywords

  merge_end : (d x : Value) → c.of d → c.of x → EndOf c w (spec.merge_row w.heap d x)
  merge_end d x p q = if_end c w k (is_dict (object_of w.heap x)) _ _ (asks_right c w k (codes "_nu_update") (d ∷ x ∷ []) [] _ (p, (q, tt)) tt tt tt) (fails c w k 35 _ (lit< tt))

  keyword_put : (n : ℕ) (text : List ℕ) (v : Value) (place : Option ℕ) → c.of (value.Str text) → c.of v → Right c w (spec.put_keyed n (value.Str text) v (spec.keyword_if text place))
  keyword_put n text v None p q = change_right c w k n (Put (atom.Str text ∷ []) (value.Str text) v) ((p, q, (tt, refl)), inr refl)
  keyword_put n text v (Some place) p q = failed c w k 35 _ (lit< tt)

  keyput_key : (n : ℕ) (i v : Value) (pairs : PairList) → c.of i → c.of v → Right c w (spec.put_keyed n i v (spec.keyword pairs i))
  keyput_key n (value.Str text) v pairs p q = keyword_put n text v (found_at pairs (atom.Str text ∷ [])) p q
  keyput_key n i v pairs p q = failed c w k 35 _ (lit< tt)

  keyput_at : (n : ℕ) (i v : Value) (o : Option Object) → c.of i → c.of v → Right c w (spec.keyput_on n i v o)
  keyput_at n i v (Some (object.Dict pairs)) p q = keyput_key n i v pairs p q
  keyput_at n i v o p q = idle c w k

  keyput_right : (d i v : Value) → c.of i → c.of v → Right c w (spec.keyput_row w.heap d i v)
  keyput_right (value.Obj n) i v p q = keyput_at n i v (slice_get w.heap n) p q
  keyput_right d i v p q = idle c w k

  refused_step : (ps : PairList) (text : List ℕ) (v : Value) (qs : List (Value × Value)) (place : Option ℕ)
      → EndOf c w (spec.none_or (spec.merge_all (with_pair ps (atom.Str text ∷ []) (value.Str text) v) qs).refused)
      → EndOf c w (spec.none_or (spec.merge_if ps (spec.keyword_if text place) (λ x. spec.merge_all (with_pair ps x (value.Str text) v) qs)).refused)
  refused_step ps text v qs None more = more
  refused_step ps text v qs (Some place) more = fails c w k 35 _ (lit< tt)

  refused_end : (ps : PairList) (qs : List (Value × Value)) → EndOf c w (spec.none_or (spec.merge_all ps qs).refused)
  refused_end ps [] = k.plain value.None tt
  refused_end ps ((value.Str text, v) ∷ qs) =
      refused_step ps text v qs (found_at ps (atom.Str text ∷ [])) (refused_end (with_pair ps (atom.Str text ∷ []) (value.Str text) v) qs)
  refused_end ps ((value.Unset, v) ∷ qs) = fails c w k 35 _ (lit< tt)
  refused_end ps ((value.None, v) ∷ qs) = fails c w k 35 _ (lit< tt)
  refused_end ps ((value.Bool b, v) ∷ qs) = fails c w k 35 _ (lit< tt)
  refused_end ps ((value.Int z, v) ∷ qs) = fails c w k 35 _ (lit< tt)
  refused_end ps ((value.Obj n, v) ∷ qs) = fails c w k 35 _ (lit< tt)

  keymerge_to_right : (n : ℕ) (pairs more : PairList) → KnownObject c w n (object.Dict pairs) → PairsOf c.of more → Right c w (spec.keymerge_to n (spec.merge_all pairs (spec.couples more)))
  keymerge_to_right n pairs more known p =
      λ news.
      (let m : spec.Merged = spec.merge_all pairs (spec.couples more) in
      let kept : KnownPairs c.of w.heap m.pairs =
      merge_known c.of w.heap pairs (spec.couples more) (record { parts = known.parts; distinct = known.links.0; keyed = known.links.1 }) (couples_known c.of more p)
      in
      record {
        end = refused_end pairs (spec.couples more);
        set = ((kept.parts, kept.distinct, kept.keyed), inr (subst (λ o. KeepsTexts (Fit m.pairs) o) (sym known.at) (merge_texts pairs (spec.couples more))));
        made = tt;
      })

  keymerge_at : (n m : ℕ) (x o : Option Object) → Known c w m x → Known c w n o → Right c w (spec.keymerge_on n x o)
  keymerge_at n m (Some (object.Dict more)) (Some (object.Dict pairs)) p q = keymerge_to_right n pairs more q p.parts
  keymerge_at n m (Some (object.Dict more)) o p q = idle c w k
  keymerge_at n m x o p q = failed c w k 35 _ (lit< tt)

  keymerge_into : (n : ℕ) (x : Value) → Right c w (spec.keymerge_on n (object_of w.heap x) (slice_get w.heap n))
  keymerge_into n (value.Obj m) = keymerge_at n m (slice_get w.heap m) (slice_get w.heap n) (k.objects m) (k.objects n)
  keymerge_into n x = failed c w k 35 _ (lit< tt)

  keymerge_right : (d x : Value) → Right c w (spec.keymerge_row w.heap d x)
  keymerge_right (value.Obj n) x = keymerge_into n x
  keymerge_right d x = idle c w k

  -- ---- operators

  two_end : (f : Value → Value → OpEnd) → ((a b : Value) → EndOf c w (f a b)) → (args : List Value) → EndOf c w (of_two f args)
  two_end f p [] = tt
  two_end f p (a ∷ []) = tt
  two_end f p (a ∷ b ∷ []) = p a b
  two_end f p (a ∷ b ∷ d ∷ args) = tt

  one_end : (f : Value → OpEnd) → ((a : Value) → EndOf c w (f a)) → (args : List Value) → EndOf c w (of_one f args)
  one_end f p [] = tt
  one_end f p (a ∷ []) = p a
  one_end f p (a ∷ b ∷ args) = tt

  pair_end : (o : Op) (a b : Value) → EndOf c w (spec.plain_pair o w.heap a b)
  pair_end o a b = if_end c w k (spec.has_view w.heap a b) _ _ tt (fails c w k 35 _ (lit< tt))

  or_end : (a b : Value) → EndOf c w (spec.or_pair w.heap a b)
  or_end a b = if_end c w k (is_dict (object_of w.heap a)) _ _ tt (pair_end op.Or a b)

  mod_end : (a b : Value) → EndOf c w (spec.mod_pair w.heap a b)
  mod_end a b = if_end c w k (is_text a) _ _ tt (pair_end op.Mod a b)

  iadd_end : (args : List Value) → Given c op.IAdd args → EndOf c w (of_two (spec.iadd_pair w.heap) args)
  iadd_end [] q = tt
  iadd_end (a ∷ []) q = tt
  iadd_end (a ∷ b ∷ []) q =
      if_end c w k (is_list (object_of w.heap a)) _ _ (asks_right c w k (codes "_nu_addto") (a ∷ b ∷ []) [] _ (q.0, (q.1.0, tt)) tt tt tt) (pair_end op.IAdd a b)
  iadd_end (a ∷ b ∷ d ∷ args) q = tt

  order_end : (o : Op) (a b : Value) → EndOf c w (spec.dict_order o w.heap a b)
  order_end o a b = if_end c w k (spec.has_view w.heap a b) _ _ tt (fails c w k 35 _ (lit< tt))

  sign_end : (o : Op) (a : Value) → EndOf c w (spec.dict_one o w.heap a)
  sign_end o a = if_end c w k (spec.is_view (object_of w.heap a)) _ _ tt (fails c w k 35 _ (lit< tt))

  operator_end : (o : Op) (args : List Value) → Given c o args → EndOf c w (spec.dict_operator o w.heap args)
  operator_end op.Add args q = two_end _ (pair_end op.Add) args
  operator_end op.Sub args q = two_end _ (pair_end op.Sub) args
  operator_end op.Mul args q = two_end _ (pair_end op.Mul) args
  operator_end op.FloorDiv args q = two_end _ (pair_end op.FloorDiv) args
  operator_end op.Mod args q = two_end _ mod_end args
  operator_end op.Pow args q = two_end _ (pair_end op.Pow) args
  operator_end op.LShift args q = two_end _ (pair_end op.LShift) args
  operator_end op.RShift args q = two_end _ (pair_end op.RShift) args
  operator_end op.And args q = two_end _ (pair_end op.And) args
  operator_end op.Or args q = two_end _ or_end args
  operator_end op.Xor args q = two_end _ (pair_end op.Xor) args
  operator_end op.IAdd args q = iadd_end args q
  operator_end op.IMul args q = two_end _ (pair_end op.IMul) args
  operator_end op.Lt args q = two_end _ (order_end op.Lt) args
  operator_end op.Le args q = two_end _ (order_end op.Le) args
  operator_end op.Gt args q = two_end _ (order_end op.Gt) args
  operator_end op.Ge args q = two_end _ (order_end op.Ge) args
  operator_end op.Neg args q = one_end _ (sign_end op.Neg) args
  operator_end op.Pos args q = one_end _ (sign_end op.Pos) args
  operator_end op.Inv args q = one_end _ (sign_end op.Inv) args
  operator_end o args q = tt

  -- ---- the rows

  fill_right : (o : Op) (args : List Value) → Given c o args → Right c w (spec.fill_row o w.heap args)
  fill_right op.Dict [] q = made_right c w k (object.Dict []) (tt, (tt, tt), tt)
  fill_right op.Put (d ∷ value.Str text ∷ v ∷ []) q = setindex_right d (value.Str text) v (inr refl) q.0 q.1.0
  fill_right op.Put (d ∷ i ∷ v ∷ []) q = setindex_right d i v (inl q.0) q.1.0 q.1.1.0
  fill_right op.Merge (d ∷ x ∷ []) q = ended c w k _ (merge_end d x q.0 q.1.0)
  fill_right op.KeyPut (d ∷ i ∷ v ∷ []) q = keyput_right d i v q.0 q.1.0
  fill_right op.KeyMerge (d ∷ x ∷ []) q = keymerge_right d x
  fill_right o args q = idle c w k

  access_right : (o : Op) (args : List Value) → Given c o args → Right c w (spec.access_row o w.heap args)
  access_right op.Index (x ∷ i ∷ []) q = ended c w k _ (index_end c w k x i q.1.0)
  access_right op.SetIndex (x ∷ i ∷ v ∷ []) q = setindex_right x i v (inl q.0) q.1.0 q.1.1.0
  access_right op.DelIndex (x ∷ i ∷ []) q = delindex_right x i q.0 q.1.0
  access_right op.Iter (x ∷ []) q = iter_right c w k x q.0
  access_right op.Next (x ∷ []) q = failed c w k 35 _ (lit< tt)
  access_right op.In (v ∷ x ∷ []) q = ended c w k _ (in_end c w k v x)
  access_right o args q = idle c w k

  pub dict_right : (o : Op) (args : List Value) → Given c o args → Right c w (spec.dict_row o w.heap args)
  dict_right op.Dict args q = fill_right op.Dict args q
  dict_right op.Put args q = fill_right op.Put args q
  dict_right op.Merge args q = fill_right op.Merge args q
  dict_right op.KeyPut args q = fill_right op.KeyPut args q
  dict_right op.KeyMerge args q = fill_right op.KeyMerge args q
  dict_right op.Index args q = access_right op.Index args q
  dict_right op.SetIndex args q = access_right op.SetIndex args q
  dict_right op.DelIndex args q = access_right op.DelIndex args q
  dict_right op.Slice args q = idle c w k
  dict_right op.Iter args q = access_right op.Iter args q
  dict_right op.Next args q = access_right op.Next args q
  dict_right op.In args q = access_right op.In args q
  dict_right o args q = ended c w k _ (operator_end o args q)

  pub dict_call_right : (name : List ℕ) (receiver : Value) (args : List Value) (names : NameList) → OrUnset c.of receiver → AllOf c.of args → NamesOf c.of names → AreNamesDistinct names
      → Right c w (spec.dict_call w.heap name receiver args names)
  dict_call_right name receiver args names p q r d = method_right c w k name receiver args names p q r d
