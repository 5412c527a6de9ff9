-- Keys stay distinct, and what is known of pairs stays so, where a key gets a value.
use Rattle.std.proofs.Common.{◌≡◌, ℕ, zero, suc, ◌+◌, ◌≤◌, List, [], ◌∷◌, ◌++◌, Option, Some, None, Bool, true, false, refl, sym, ap, subst, ◌∙◌, arith, length, nat_lt, add-one}
use Rattle.std.specs.Prelude.{slice_get, slice_set, if◌then◌else◌}
use Rattle.std.proofs.Math.ListN.{length-set}
use Rattle.std.proofs.lemmas.Bool.Decides.{nat_tests}
use Rattle.nu_value.specs.declared.key.Atom.{Atom}
use Rattle.nu_value.specs.declared.object.Object.{Object}
use Rattle.nu_value.specs.declared.value.Value.{Value}
use Rattle.nu_value.specs.Atoms.{key_eq}
use Rattle.nu_value.specs.AtomLaws.{key_refl as key_self, key_is as key_same}
use Rattle.nu_value.specs.Pairs.{PairList, key_place, mapped_at, with_pair}
use Rattle.op_forms.specs.Parts.{PairsOf}
use Rattle.op_forms.specs.Sound.{AreKeysDistinct, HasKey, AreKeyed}

abbrev Lacks : PairList → List Atom → Type 0
Lacks ps key = key_place ps key ≡ length ps

abbrev step : Bool → ℕ → ℕ
step b n = if b then 0 else n + 1

step_apart : (b : Bool) (n m : ℕ) → step b n ≡ suc m → b ≡ false
step_apart true n m e = absurd (omega arith)
step_apart false n m e = refl

step_more : (b : Bool) (n m : ℕ) → step b n ≡ suc m → n ≡ m
step_more true n m e = absurd (omega arith)
step_more false n m e = omega arith

not_true : (b : Bool) → (b ≡ true → ⊥) → b ≡ false
not_true true h = absurd (h refl)
not_true false h = refl

other_key : (a b : List Atom) → key_eq a b ≡ false → key_eq b a ≡ false
other_key a b e =
    not_true (key_eq b a) (λ t. let same : key_eq a b ≡ true = ap (λ k. key_eq a k) (key_same b a t) ∙ key_self a in absurd (cc))

lacks_cons : (p : List Atom × Value × Value) (ps : PairList) (key : List Atom) → key_eq p.0 key ≡ false → Lacks ps key → Lacks (p ∷ ps) key
lacks_cons p ps key apart l = rw (apart, l) (add-one (length ps))

lacks_end : (ps : PairList) (key other : List Atom) (given v : Value) → Lacks ps key → key_eq other key ≡ false → Lacks (ps ++ (other, given, v) ∷ []) key
lacks_end [] key other given v l apart = rw apart refl
lacks_end (p ∷ ps) key other given v l apart =
    lacks_cons p (ps ++ (other, given, v) ∷ []) key (step_apart (key_eq p.0 key) (key_place ps key) (length ps) l)
    (lacks_end ps key other given v (step_more (key_eq p.0 key) (key_place ps key) (length ps) l) apart)

distinct_end : (ps : PairList) (key : List Atom) (given v : Value) → AreKeysDistinct ps → Lacks ps key → AreKeysDistinct (ps ++ (key, given, v) ∷ [])
distinct_end [] key given v p l = (refl, tt)
distinct_end (x ∷ ps) key given v p l =
    let apart : key_eq x.0 key ≡ false = step_apart (key_eq x.0 key) (key_place ps key) (length ps) l in
    (lacks_end ps x.0 key given v p.0 (other_key x.0 key apart), distinct_end ps key given v p.1 (step_more (key_eq x.0 key) (key_place ps key) (length ps) l))

place_set : (ps : PairList) (i : ℕ) (p : List Atom × Value × Value) (v : Value) → slice_get ps i ≡ Some p → (key : List Atom) → key_place (slice_set ps i (p.0, p.1, v)) key ≡ key_place ps key
place_set [] i p v e key = absurd (cc)
place_set (q ∷ ps) zero p v e key =
    let same : q ≡ p = cc in
    ap (λ r. step (key_eq r.0 key) (key_place ps key)) (sym same)
place_set (q ∷ ps) (suc i) p v e key = ap (step (key_eq q.0 key)) (place_set ps i p v e key)

distinct_set : (ps : PairList) (i : ℕ) (p : List Atom × Value × Value) (v : Value) → slice_get ps i ≡ Some p → AreKeysDistinct ps → AreKeysDistinct (slice_set ps i (p.0, p.1, v))
distinct_set [] i p v e s = absurd (cc)
distinct_set (r ∷ ps) zero p v e s = let same : r ≡ p = cc in (subst (λ t. Lacks ps t.0) same s.0, s.1)
distinct_set (r ∷ ps) (suc i) p v e s = (place_set ps i p v e r.0 ∙ s.0 ∙ sym (length-set ps i (p.0, p.1, v)), distinct_set ps i p v e s.1)

distinct_at : (ps : PairList) (i : ℕ) (v : Value) (o : Option (List Atom × Value × Value)) → slice_get ps i ≡ o → AreKeysDistinct ps → AreKeysDistinct (mapped_at ps i v o)
distinct_at ps i v None e p = p
distinct_at ps i v (Some r) e p = distinct_set ps i r v e p

step_below : (b : Bool) (n m : ℕ) → n ≤ m → step b n ≤ suc m
step_below true n m h = omega arith
step_below false n m h = omega arith

place_below : (ps : PairList) (key : List Atom) → key_place ps key ≤ length ps
place_below [] key = omega arith
place_below (p ∷ ps) key = step_below (key_eq p.0 key) (key_place ps key) (length ps) (place_below ps key)

lacks_at : (ps : PairList) (key : List Atom) → nat_lt (key_place ps key) (length ps) ≡ false → Lacks ps key
lacks_at ps key e = let h : key_place ps key ≤ length ps = place_below ps key in grind (arith, nat_tests)

put_if : (b : Bool) (ps : PairList) (key : List Atom) (given v : Value) → nat_lt (key_place ps key) (length ps) ≡ b → AreKeysDistinct ps → AreKeysDistinct (if b then mapped_at ps (key_place ps key) v (slice_get ps (key_place ps key)) else ps ++ (key, given, v) ∷ [])
put_if true ps key given v e p = distinct_at ps (key_place ps key) v (slice_get ps (key_place ps key)) refl p
put_if false ps key given v e p = distinct_end ps key given v p (lacks_at ps key e)

pub distinct_put : (ps : PairList) (key : List Atom) (given v : Value) → AreKeysDistinct ps → AreKeysDistinct (with_pair ps key given v)
distinct_put ps key given v p = put_if (nat_lt (key_place ps key) (length ps)) ps key given v refl p

-- ---- any predicate

module _ (P : Value → Type 0) where
  of_set : (ps : PairList) (i : ℕ) (v : Value) (o : Option (List Atom × Value × Value)) → slice_get ps i ≡ o → PairsOf P ps → P v → PairsOf P (mapped_at ps i v o)
  of_set ps i v None e p q = p
  of_set [] i v (Some r) e p q = tt
  of_set (x ∷ ps) zero v (Some r) e p q = let same : x ≡ r = cc in (subst (λ t. P t.1) same p.0, q, p.2)
  of_set (x ∷ ps) (suc i) v (Some r) e p q = (p.0, p.1, of_set ps i v (Some r) e p.2 q)

  of_end : (ps : PairList) (key : List Atom) (given v : Value) → PairsOf P ps → P given → P v → PairsOf P (ps ++ (key, given, v) ∷ [])
  of_end [] key given v p q r = (q, r, tt)
  of_end (x ∷ ps) key given v p q r = (p.0, p.1, of_end ps key given v p.2 q r)

  of_if : (b : Bool) (ps qs : PairList) → PairsOf P ps → PairsOf P qs → PairsOf P (if b then ps else qs)
  of_if true ps qs p q = p
  of_if false ps qs p q = q

  pub pairs_with : (ps : PairList) (key : List Atom) (given v : Value) → PairsOf P ps → P given → P v → PairsOf P (with_pair ps key given v)
  pairs_with ps key given v p q r =
      of_if (nat_lt (key_place ps key) (length ps)) _ _ (of_set ps (key_place ps key) v (slice_get ps (key_place ps key)) refl p r) (of_end ps key given v p q r)

-- ---- the keys of first values

module _ (h : List Object) where
  keyed_set : (ps : PairList) (i : ℕ) (v : Value) (o : Option (List Atom × Value × Value)) → slice_get ps i ≡ o → AreKeyed h ps → AreKeyed h (mapped_at ps i v o)
  keyed_set ps i v None e p = p
  keyed_set [] i v (Some r) e p = tt
  keyed_set (x ∷ ps) zero v (Some r) e p = let same : x ≡ r = cc in (subst (λ t. HasKey h t.0 t.1) same p.0, p.1)
  keyed_set (x ∷ ps) (suc i) v (Some r) e p = (p.0, keyed_set ps i v (Some r) e p.1)

  keyed_end : (ps : PairList) (key : List Atom) (given v : Value) → AreKeyed h ps → HasKey h key given → AreKeyed h (ps ++ (key, given, v) ∷ [])
  keyed_end [] key given v p q = (q, tt)
  keyed_end (x ∷ ps) key given v p q = (p.0, keyed_end ps key given v p.1 q)

  keyed_if : (b : Bool) (ps qs : PairList) → AreKeyed h ps → AreKeyed h qs → AreKeyed h (if b then ps else qs)
  keyed_if true ps qs p q = p
  keyed_if false ps qs p q = q

  pub keyed_put : (ps : PairList) (key : List Atom) (given v : Value) → AreKeyed h ps → HasKey h key given → AreKeyed h (with_pair ps key given v)
  keyed_put ps key given v p q =
      keyed_if (nat_lt (key_place ps key) (length ps)) _ _ (keyed_set ps (key_place ps key) v (slice_get ps (key_place ps key)) refl p) (keyed_end ps key given v p q)
