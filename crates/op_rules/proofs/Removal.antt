-- Keys stay distinct, and what is known of pairs stays so, where a pair goes; texts stay texts where one gets a value.
use Rattle.std.proofs.Common.{◌≡◌, ℕ, zero, suc, ◌+◌, List, [], ◌∷◌, ◌++◌, Option, Some, None, Bool, true, false, refl, sym, ap, ◌∙◌, arith, length, nat_lt, add-one}
use Rattle.std.specs.Prelude.{◌&&◌, remove, slice_get, if◌then◌else◌}
use Rattle.nu_value.specs.declared.key.Atom.{Atom}
use Rattle.nu_value.specs.declared.object.Object.{Object}
use Rattle.nu_value.specs.declared.value.Value.{Value}
use Rattle.nu_value.specs.Atoms.{key_eq}
use Rattle.nu_value.specs.Pairs.{PairList, key_place, mapped_at, with_pair}
use Rattle.nu_value.specs.View.{is_text}
use Rattle.op_forms.specs.Fits.{are_texts}
use Rattle.op_forms.specs.Parts.{PairsOf}
use Rattle.op_forms.specs.Sound.{AreKeysDistinct, AreKeyed}

abbrev Lacks : PairList → List Atom → Type 0
Lacks ps key = key_place ps key ≡ length ps

abbrev step : Bool → ℕ → ℕ
step b n = if b then 0 else n + 1

step_apart : (b : Bool) (n m : ℕ) → step b n ≡ suc m → b ≡ false
step_apart true n m e = absurd (omega arith)
step_apart false n m e = refl

step_more : (b : Bool) (n m : ℕ) → step b n ≡ suc m → n ≡ m
step_more true n m e = absurd (omega arith)
step_more false n m e = omega arith

lacks_cons : (p : List Atom × Value × Value) (ps : PairList) (key : List Atom) → key_eq p.0 key ≡ false → Lacks ps key → Lacks (p ∷ ps) key
lacks_cons p ps key apart l = rw (apart, l) (add-one (length ps))

lacks_removed : (ps : PairList) (i : ℕ) (key : List Atom) → Lacks ps key → Lacks (remove ps i) key
lacks_removed [] zero key l = refl
lacks_removed [] (suc i) key l = refl
lacks_removed (p ∷ ps) zero key l = step_more (key_eq p.0 key) (key_place ps key) (length ps) l
lacks_removed (p ∷ ps) (suc i) key l =
    lacks_cons p (remove ps i) key (step_apart (key_eq p.0 key) (key_place ps key) (length ps) l)
    (lacks_removed ps i key (step_more (key_eq p.0 key) (key_place ps key) (length ps) l))

pub distinct_removed : (ps : PairList) (i : ℕ) → AreKeysDistinct ps → AreKeysDistinct (remove ps i)
distinct_removed [] zero p = tt
distinct_removed [] (suc i) p = tt
distinct_removed (q ∷ ps) zero p = p.1
distinct_removed (q ∷ ps) (suc i) p = (lacks_removed ps i q.0 p.0, distinct_removed ps i p.1)

pub pairs_removed : (P : Value → Type 0) (ps : PairList) (i : ℕ) → PairsOf P ps → PairsOf P (remove ps i)
pairs_removed P [] zero p = tt
pairs_removed P [] (suc i) p = tt
pairs_removed P (q ∷ ps) zero p = p.2
pairs_removed P (q ∷ ps) (suc i) p = (p.0, p.1, pairs_removed P ps i p.2)

pub keyed_removed : (h : List Object) (ps : PairList) (i : ℕ) → AreKeyed h ps → AreKeyed h (remove ps i)
keyed_removed h [] zero p = tt
keyed_removed h [] (suc i) p = tt
keyed_removed h (q ∷ ps) zero p = p.1
keyed_removed h (q ∷ ps) (suc i) p = (p.0, keyed_removed h ps i p.1)

-- ---- texts as keys

and_both : (a b : Bool) → a ≡ true → b ≡ true → (a && b) ≡ true
and_both true b p q = q
and_both false b p q = absurd (cc)

and_left : (a b : Bool) → (a && b) ≡ true → a ≡ true
and_left true b e = refl
and_left false b e = absurd (cc)

and_right : (a b : Bool) → (a && b) ≡ true → b ≡ true
and_right true b e = e
and_right false b e = absurd (cc)

texts_set : (ps : PairList) (i : ℕ) (v : Value) (o : Option (List Atom × Value × Value)) → slice_get ps i ≡ o → are_texts ps ≡ true → are_texts (mapped_at ps i v o) ≡ true
texts_set ps i v None e p = p
texts_set [] i v (Some r) e p = refl
texts_set (x ∷ ps) zero v (Some r) e p = let same : x ≡ r = cc in ap (λ t. is_text t.1 && are_texts ps) (sym same) ∙ p
texts_set (x ∷ ps) (suc i) v (Some r) e p =
    and_both (is_text x.1) _ (and_left (is_text x.1) (are_texts ps) p) (texts_set ps i v (Some r) e (and_right (is_text x.1) (are_texts ps) p))

texts_end : (ps : PairList) (key : List Atom) (given v : Value) → is_text given ≡ true → are_texts ps ≡ true → are_texts (ps ++ (key, given, v) ∷ []) ≡ true
texts_end [] key given v t p = and_both (is_text given) true t refl
texts_end (x ∷ ps) key given v t p =
    and_both (is_text x.1) _ (and_left (is_text x.1) (are_texts ps) p) (texts_end ps key given v t (and_right (is_text x.1) (are_texts ps) p))

texts_if : (b : Bool) (ps qs : PairList) → are_texts ps ≡ true → are_texts qs ≡ true → are_texts (if b then ps else qs) ≡ true
texts_if true ps qs p q = p
texts_if false ps qs p q = q

pub texts_with : (ps : PairList) (key : List Atom) (given v : Value) → is_text given ≡ true → are_texts ps ≡ true → are_texts (with_pair ps key given v) ≡ true
texts_with ps key given v t p =
    texts_if (nat_lt (key_place ps key) (length ps)) _ _ (texts_set ps (key_place ps key) v (slice_get ps (key_place ps key)) refl p) (texts_end ps key given v t p)
