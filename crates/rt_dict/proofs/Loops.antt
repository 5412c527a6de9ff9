-- One item or pair after another.
use Rattle.std.proofs.Common.{◌≡◌, ◌≢◌, ℕ, zero, suc, ◌+◌, ◌-◌, ◌<◌, List, [], ◌∷◌, ◌++◌, Option, Some, None, Ok, Err, Bool, true, false, nat_lt, length, drop, append_assoc, refl, sym, ap, ◌∙◌, arith}
use Rattle.std.specs.Prelude.{slice_get, if◌then◌else◌}
use Rattle.std.proofs.lemmas.Bool.Decides.{nat_tests}
use Rattle.nu_value.specs.declared.key.Atom.{Atom}
use Rattle.nu_value.specs.declared.object.Object.{Object}
use Rattle.nu_value.specs.declared.same.Sameness.{Sameness}
use Rattle.nu_value.specs.declared.same.Sameness.TheVariants as same
use Rattle.nu_value.specs.declared.value.Value.{Value}
use Rattle.nu_value.specs.Pairs.{PairList, key_place, found_at, with_pair}
use Rattle.op_forms.specs.declared.end.OpEnd.{OpEnd}
use Rattle.op_rules.specs.Dicts.{couples, Merged, outcome, merge_all, merge_if, keyword}
use Rattle.op_rules.specs.DictMethods.{put_all}
use Rattle.op_rules.specs.Keys.{KeyOr, first_unhashable, unhashable_in, unhashable_at}
use Rattle.op_rules.specs.Views.{else_by, among_values}

next : (i : ℕ) → suc (i + 1) ≡ suc i + 1
next i = omega arith

-- from a place on
pub drop_at : {A : Type 0} (xs : List A) (i : ℕ) (x : A) → slice_get xs i ≡ Some x → drop i xs ≡ x ∷ drop (i + 1) xs
drop_at [] i x e = absurd (cc)
drop_at (y ∷ xs) zero x e = let is : y ≡ x = cc in ap (λ z. z ∷ xs) is
drop_at (y ∷ xs) (suc i) x e = drop_at xs i x e ∙ ap (λ j. x ∷ drop j (y ∷ xs)) (next i)

-- ---- the first list or dict

pub unhashable_none : (room : ℕ) (h : List Object) (xs : List Value) → room ≡ 0 → unhashable_in room h xs ≡ None
unfolding unhashable_in
unhashable_none room h xs e = rw e refl

pub unhashable_more : (room : ℕ) (h : List Object) (xs : List Value) → room ≢ 0 → unhashable_in room h xs ≡ first_unhashable (unhashable_at (room - 1) h) xs
unfolding unhashable_in
unhashable_more zero h xs e = absurd (e refl)
unhashable_more (suc room) h xs e = let back : suc room - 1 ≡ room = omega arith in rw back refl

pub first_goes_on : (f : Value → Option ℕ) (xs : List Value) (i : ℕ) (x : Value) → slice_get xs i ≡ Some x → f x ≡ None → first_unhashable f (drop i xs) ≡ first_unhashable f (drop (i + 1) xs)
first_goes_on f xs i x e n = ap (first_unhashable f) (drop_at xs i x e) ∙ rw n refl

pub first_stops : (f : Value → Option ℕ) (xs : List Value) (i : ℕ) (x : Value) (n : ℕ) → slice_get xs i ≡ Some x → f x ≡ Some n → first_unhashable f (drop i xs) ≡ Some n
first_stops f xs i x n e s = ap (first_unhashable f) (drop_at xs i x e) ∙ rw s refl

-- ---- the values of a dict

pub values_go_on : (f : Value → Sameness) (ps : PairList) (i : ℕ) (k : List Atom) (g v : Value) → slice_get ps i ≡ Some (k, g, v) → f v ≡ same.Different → among_values f (drop i ps) ≡ among_values f (drop (i + 1) ps)
values_go_on f ps i k g v e s = ap (among_values f) (drop_at ps i (k, g, v) e) ∙ rw s refl

else_stops : (s more : Sameness) → s ≢ same.Different → else_by s more ≡ s
else_stops same.Different more h = absurd (h refl)
else_stops same.Equal more h = refl
else_stops same.Depth more h = refl
else_stops same.Unbuilt more h = refl

pub values_stop : (f : Value → Sameness) (ps : PairList) (i : ℕ) (k : List Atom) (g v : Value) (s : Sameness) → slice_get ps i ≡ Some (k, g, v) → f v ≡ s → s ≢ same.Different → among_values f (drop i ps) ≡ s
values_stop f ps i k g v s e is apart = ap (among_values f) (drop_at ps i (k, g, v) e) ∙ rw is (else_stops s (among_values f (drop (i + 1) ps)) apart)

-- ---- pairs as couples

pub couples_go_on : (front : List (Value × Value)) (ps : PairList) (i : ℕ) (k : List Atom) (g v : Value) → slice_get ps i ≡ Some (k, g, v) → (front ++ (g, v) ∷ []) ++ couples (drop (i + 1) ps) ≡ front ++ couples (drop i ps)
couples_go_on front ps i k g v e = append_assoc front ((g, v) ∷ []) (couples (drop (i + 1) ps)) ∙ ap (λ qs. front ++ couples qs) (sym (drop_at ps i (k, g, v) e))

-- ---- keywords

one_goes_on : (r : KeyOr) (ps new : PairList) (g v : Value) (more : PairList → Merged) → merge_if ps r (λ k. outcome (with_pair ps k g v) None) ≡ outcome new None → merge_if ps r (λ k. more (with_pair ps k g v)) ≡ more new
one_goes_on (Ok k) ps new g v more h = ap (λ m. more m.pairs) h
one_goes_on (Err e) ps new g v more h = let bad : Some e ≡ None = ap (λ m. m.refused) h in absurd (cc)

one_stops : (r : KeyOr) (ps new : PairList) (g v : Value) (more : PairList → Merged) (e : OpEnd) → merge_if ps r (λ k. outcome (with_pair ps k g v) None) ≡ outcome new (Some e) → merge_if ps r (λ k. more (with_pair ps k g v)) ≡ outcome new (Some e)
one_stops (Ok k) ps new g v more e h = let bad : None ≡ Some e = ap (λ m. m.refused) h in absurd (cc)
one_stops (Err x) ps new g v more e h = h

pub merge_goes_on : (ps new : PairList) (qs : List (Value × Value)) (i : ℕ) (q : Value × Value) → slice_get qs i ≡ Some q → merge_if ps (keyword ps q.0) (λ k. outcome (with_pair ps k q.0 q.1) None) ≡ outcome new None
    → merge_all new (drop (i + 1) qs) ≡ merge_all ps (drop i qs)
merge_goes_on ps new qs i q e h =
    sym (ap (merge_all ps) (drop_at qs i q e) ∙ one_goes_on (keyword ps q.0) ps new q.0 q.1 (λ m. merge_all m (drop (i + 1) qs)) h)

pub merge_stops : (ps new : PairList) (qs : List (Value × Value)) (i : ℕ) (q : Value × Value) (e : OpEnd) → slice_get qs i ≡ Some q → merge_if ps (keyword ps q.0) (λ k. outcome (with_pair ps k q.0 q.1) None) ≡ outcome new (Some e)
    → merge_all ps (drop i qs) ≡ outcome new (Some e)
merge_stops ps new qs i q end e h =
    ap (merge_all ps) (drop_at qs i q e) ∙ one_stops (keyword ps q.0) ps new q.0 q.1 (λ m. merge_all m (drop (i + 1) qs)) end h

-- ---- copies

pub put_goes_on : (new ps : PairList) (i : ℕ) (k : List Atom) (g v : Value) → slice_get ps i ≡ Some (k, g, v) → put_all (with_pair new k g v) (drop (i + 1) ps) ≡ put_all new (drop i ps)
put_goes_on new ps i k g v e = sym (ap (put_all new) (drop_at ps i (k, g, v) e))

-- ---- a place that is found is one of the pairs

found_if : (b : Bool) (place n i : ℕ) → nat_lt place n ≡ b → (if b then Some place else None) ≡ Some i → i < n
found_if true place n i t e = let is : place ≡ i = cc in grind (arith, nat_tests)
found_if false place n i t e = absurd (cc)

pub found_below : (ps : PairList) (k : List Atom) (i : ℕ) → found_at ps k ≡ Some i → i < length ps
found_below ps k i e = found_if (nat_lt (key_place ps k) (length ps)) (key_place ps k) (length ps) i refl e
