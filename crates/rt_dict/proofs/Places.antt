-- Keys of a dict keep their places, and map to what was put last.
use Rattle.std.proofs.Common.{◌≡◌, ◌≢◌, ℕ, zero, suc, ◌+◌, ◌<◌, ◌≤◌, List, [], ◌∷◌, ◌++◌, Option, Some, None, Ok, Err, Bool, true, false, nat_lt, length, refl, sym, ap, subst, ◌∙◌, inl, inr, arith, add-one, append_assoc}
use Rattle.std.specs.Prelude.{slice_get, slice_set, if◌then◌else◌, option_map}
use Rattle.std.proofs.Math.ListN.{length-set}
use Rattle.std.proofs.lemmas.Bool.Decides.{nat_tests}
use Rattle.std.proofs.lemmas.List.{append-nil}
use Rattle.nu_value.specs.declared.key.Atom.{Atom}
use Rattle.nu_value.specs.declared.key.Atom.TheVariants as atom
use Rattle.nu_value.specs.declared.object.Object.{Object}
use Rattle.nu_value.specs.declared.object.Object.TheVariants as object
use Rattle.nu_value.specs.declared.value.Value.{Value}
use Rattle.nu_value.specs.declared.value.Value.TheVariants as value
use Rattle.nu_value.specs.Atoms.{key_eq}
use Rattle.nu_value.specs.AtomLaws.{key_refl, key_is}
use Rattle.nu_value.specs.Keyed.{Keyed, behind, followed, keys_of, Kind, Many, object_kind, kind_of, kind_key, key_by, tuple_key, key}
use Rattle.nu_value.specs.Pairs.{PairList, key_place, found_at, mapped_value, mapped_at, with_pair}
use Rattle.op_forms.specs.declared.end.OpEnd.{OpEnd}
use Rattle.op_forms.specs.declared.end.OpEnd.TheVariants as opend
use Rattle.op_forms.specs.Answers.{unbuilt}
use Rattle.op_forms.specs.Doing.{Put, put_at, heap_after}
use Rattle.op_forms.specs.Fits.{is_in}
use Rattle.op_forms.specs.Sound.{AreKeysDistinct}
use Rattle.op_rules.specs.DictMethods.{put_all}
use Rattle.op_rules.specs.Dicts.{setindex_on, put_keyed}
use Rattle.op_rules.specs.Keys.{key_or, key_or_end, key_error}
use Rattle.op_rules.specs.NameRows.{value_or}
use Rattle.op_rules.specs.Views.{pairs_in, value_keyed, index_on, index_row}
use Rattle.rt_dict.specs.Laws.{first_keys, put_heap, pairs_after, Puts}

-- ---- pairs

first_keys_end : (ps : PairList) (k : List Atom) (g v : Value) → first_keys (ps ++ (k, g, v) ∷ []) ≡ first_keys ps ++ (k, g) ∷ []
first_keys_end [] k g v = refl
first_keys_end (p ∷ ps) k g v = ap (λ xs. (p.0, p.1) ∷ xs) (first_keys_end ps k g v)

first_keys_set : (ps : PairList) (i : ℕ) (v : Value) (o : Option (List Atom × Value × Value)) → slice_get ps i ≡ o → first_keys (mapped_at ps i v o) ≡ first_keys ps
first_keys_set ps i v None e = refl
first_keys_set [] i v (Some p) e = refl
first_keys_set (x ∷ ps) zero v (Some p) e = let is : x ≡ p = cc in ap (λ y. (y.0, y.1) ∷ first_keys ps) (sym is)
first_keys_set (x ∷ ps) (suc i) v (Some p) e = ap (λ xs. (x.0, x.1) ∷ xs) (first_keys_set ps i v (Some p) e)

found_true : (b : Bool) (place i : ℕ) → (if b then Some place else None) ≡ Some i → b ≡ true
found_true true place i e = refl
found_true false place i e = absurd (cc)

found_false : (b : Bool) (place : ℕ) → (if b then Some place else None) ≡ None → b ≡ false
found_false true place e = absurd (cc)
found_false false place e = refl

pairs_stay : (ps : PairList) (k : List Atom) (g v : Value) (i : ℕ) → found_at ps k ≡ Some i → first_keys (with_pair ps k g v) ≡ first_keys ps
pairs_stay ps k g v i e =
    let there : nat_lt (key_place ps k) (length ps) ≡ true = found_true (nat_lt (key_place ps k) (length ps)) (key_place ps k) i e in
    rw there (first_keys_set ps (key_place ps k) v (slice_get ps (key_place ps k)) refl)

pairs_come : (ps : PairList) (k : List Atom) (g v : Value) → found_at ps k ≡ None → first_keys (with_pair ps k g v) ≡ first_keys ps ++ (k, g) ∷ []
pairs_come ps k g v e =
    let apart : nat_lt (key_place ps k) (length ps) ≡ false = found_false (nat_lt (key_place ps k) (length ps)) (key_place ps k) e in
    rw apart (first_keys_end ps k g v)

-- what a key maps to, as a recursion
abbrev value_of : PairList → List Atom → Option Value
value_of [] l = None
value_of (p ∷ ps) l = if key_eq p.0 l then Some p.2 else value_of ps l

mapped_if : (b : Bool) (p : List Atom × Value × Value) (ps : PairList) (n : ℕ) → option_map (λ q. q.2) (slice_get (p ∷ ps) (if b then 0 else n + 1)) ≡ (if b then Some p.2 else option_map (λ q. q.2) (slice_get ps n))
mapped_if true p ps n = refl
mapped_if false p ps n = rw (add-one n) refl

mapped_is : (ps : PairList) (l : List Atom) → mapped_value ps l ≡ value_of ps l
mapped_is [] l = refl
mapped_is (p ∷ ps) l = mapped_if (key_eq p.0 l) p ps (key_place ps l) ∙ ap (λ o. if key_eq p.0 l then Some p.2 else o) (mapped_is ps l)

-- a pair with another value, or a further one
abbrev put : PairList → List Atom → Value → Value → PairList
put [] k g v = (k, g, v) ∷ []
put (p ∷ ps) k g v = if key_eq p.0 k then (p.0, p.1, v) ∷ ps else p ∷ put ps k g v

abbrev with_at : PairList → ℕ → List Atom → Value → Value → PairList
with_at ps place k g v = if nat_lt place (length ps) then mapped_at ps place v (slice_get ps place) else ps ++ (k, g, v) ∷ []

mapped_behind : (p : List Atom × Value × Value) (ps : PairList) (n : ℕ) (v : Value) (o : Option (List Atom × Value × Value)) → mapped_at (p ∷ ps) (suc n) v o ≡ p ∷ mapped_at ps n v o
mapped_behind p ps n v None = refl
mapped_behind p ps n v (Some q) = refl

if_true : {A : Type 0} (b : Bool) (x y : A) → b ≡ true → (if b then x else y) ≡ x
if_true true x y e = refl
if_true false x y e = absurd (cc)

if_false : {A : Type 0} (b : Bool) (x y : A) → b ≡ false → (if b then x else y) ≡ y
if_false true x y e = absurd (cc)
if_false false x y e = refl

first_at : (p : List Atom × Value × Value) (ps : PairList) → nat_lt 0 (length (p ∷ ps)) ≡ true
first_at p ps = grind (arith, nat_tests)

more_at : (p : List Atom × Value × Value) (ps : PairList) (n : ℕ) → nat_lt n (length ps) ≡ true → nat_lt (suc n) (length (p ∷ ps)) ≡ true
more_at p ps n e = grind (arith, nat_tests)

past_at : (p : List Atom × Value × Value) (ps : PairList) (n : ℕ) → nat_lt n (length ps) ≡ false → nat_lt (suc n) (length (p ∷ ps)) ≡ false
past_at p ps n e = grind (arith, nat_tests)

with_more : (b : Bool) (p : List Atom × Value × Value) (ps : PairList) (n : ℕ) (k : List Atom) (g v : Value) → nat_lt n (length ps) ≡ b → with_at (p ∷ ps) (suc n) k g v ≡ p ∷ with_at ps n k g v
with_more true p ps n k g v e =
    if_true (nat_lt (suc n) (length (p ∷ ps))) (mapped_at (p ∷ ps) (suc n) v (slice_get ps n)) ((p ∷ ps) ++ (k, g, v) ∷ []) (more_at p ps n e)
    ∙ mapped_behind p ps n v (slice_get ps n)
    ∙ sym (ap (λ xs. p ∷ xs) (if_true (nat_lt n (length ps)) (mapped_at ps n v (slice_get ps n)) (ps ++ (k, g, v) ∷ []) e))
with_more false p ps n k g v e =
    if_false (nat_lt (suc n) (length (p ∷ ps))) (mapped_at (p ∷ ps) (suc n) v (slice_get ps n)) ((p ∷ ps) ++ (k, g, v) ∷ []) (past_at p ps n e)
    ∙ sym (ap (λ xs. p ∷ xs) (if_false (nat_lt n (length ps)) (mapped_at ps n v (slice_get ps n)) (ps ++ (k, g, v) ∷ []) e))

with_step : (b : Bool) (p : List Atom × Value × Value) (ps : PairList) (n : ℕ) (k : List Atom) (g v : Value) → with_at (p ∷ ps) (if b then 0 else n + 1) k g v ≡ (if b then (p.0, p.1, v) ∷ ps else p ∷ with_at ps n k g v)
with_step true p ps n k g v = if_true (nat_lt 0 (length (p ∷ ps))) ((p.0, p.1, v) ∷ ps) ((p ∷ ps) ++ (k, g, v) ∷ []) (first_at p ps)
with_step false p ps n k g v = ap (λ m. with_at (p ∷ ps) m k g v) (add-one n) ∙ with_more (nat_lt n (length ps)) p ps n k g v refl

put_is : (ps : PairList) (k : List Atom) (g v : Value) → with_pair ps k g v ≡ put ps k g v
put_is [] k g v = refl
put_is (p ∷ ps) k g v = with_step (key_eq p.0 k) p ps (key_place ps k) k g v ∙ ap (λ qs. if key_eq p.0 k then (p.0, p.1, v) ∷ ps else p ∷ qs) (put_is ps k g v)

put_if : (b : Bool) (p : List Atom × Value × Value) (ps qs : PairList) (k : List Atom) (v : Value) → key_eq p.0 k ≡ b → value_of qs k ≡ Some v → value_of (if b then (p.0, p.1, v) ∷ ps else p ∷ qs) k ≡ Some v
put_if true p ps qs k v e h = rw e refl
put_if false p ps qs k v e h = rw e h

put_maps : (ps : PairList) (k : List Atom) (g v : Value) → value_of (put ps k g v) k ≡ Some v
put_maps [] k g v = rw (key_refl k) refl
put_maps (p ∷ ps) k g v = put_if (key_eq p.0 k) p ps (put ps k g v) k v refl (put_maps ps k g v)

pub value_put : (ps : PairList) (k : List Atom) (g v : Value) → mapped_value (with_pair ps k g v) k ≡ Some v
value_put ps k g v = ap (λ qs. mapped_value qs k) (put_is ps k g v) ∙ mapped_is (put ps k g v) k ∙ put_maps ps k g v

apart_by : (b : Bool) (k l : List Atom) → key_eq k l ≡ b → k ≢ l → b ≡ false
apart_by true k l e apart = absurd (apart (key_is k l e))
apart_by false k l e apart = refl

other_keys : (k l : List Atom) → k ≢ l → key_eq k l ≡ false
other_keys k l apart = apart_by (key_eq k l) k l refl apart

put_apart : (b : Bool) (p : List Atom × Value × Value) (ps qs : PairList) (k l : List Atom) (v : Value) → key_eq p.0 k ≡ b → k ≢ l → value_of qs l ≡ value_of ps l → value_of (if b then (p.0, p.1, v) ∷ ps else p ∷ qs) l ≡ value_of (p ∷ ps) l
put_apart true p ps qs k l v e apart h =
    let same : key_eq p.0 l ≡ false = ap (λ x. key_eq x l) (key_is p.0 k e) ∙ other_keys k l apart in
    rw same refl
put_apart false p ps qs k l v e apart h = ap (λ o. if key_eq p.0 l then Some p.2 else o) h

put_others : (ps : PairList) (k l : List Atom) (g v : Value) → k ≢ l → value_of (put ps k g v) l ≡ value_of ps l
put_others [] k l g v apart = rw (other_keys k l apart) refl
put_others (p ∷ ps) k l g v apart = put_apart (key_eq p.0 k) p ps (put ps k g v) k l v refl apart (put_others ps k l g v apart)

pub value_others : (ps : PairList) (k l : List Atom) (g v : Value) → k ≢ l → mapped_value (with_pair ps k g v) l ≡ mapped_value ps l
value_others ps k l g v apart = ap (λ qs. mapped_value qs l) (put_is ps k g v) ∙ mapped_is (put ps k g v) l ∙ put_others ps k l g v apart ∙ sym (mapped_is ps l)

-- ---- copies

abbrev Lacks : PairList → List Atom → Type 0
Lacks ps l = key_place ps l ≡ length ps

step_apart : (b : Bool) (n m : ℕ) → (if b then 0 else n + 1) ≡ suc m → b ≡ false
step_apart true n m e = absurd (omega arith)
step_apart false n m e = refl

step_more : (b : Bool) (n m : ℕ) → (if b then 0 else n + 1) ≡ suc m → n ≡ m
step_more true n m e = absurd (omega arith)
step_more false n m e = omega arith

put_new : (ps : PairList) (k : List Atom) (g v : Value) → Lacks ps k → put ps k g v ≡ ps ++ (k, g, v) ∷ []
put_new [] k g v l = refl
put_new (p ∷ ps) k g v l =
    let apart : key_eq p.0 k ≡ false = step_apart (key_eq p.0 k) (key_place ps k) (length ps) l in
    rw apart (ap (λ qs. p ∷ qs) (put_new ps k g v (step_more (key_eq p.0 k) (key_place ps k) (length ps) l)))

differ : (k l : List Atom) → key_eq k l ≡ false → l ≢ k
differ k l e = λ same. let self : key_eq k l ≡ true = ap (λ x. key_eq k x) same ∙ key_refl k in absurd (cc)

lacks_cons : (p : List Atom × Value × Value) (ps : PairList) (l : List Atom) → key_eq p.0 l ≡ false → Lacks ps l → Lacks (p ∷ ps) l
lacks_cons p ps l apart h = rw (apart, h) (add-one (length ps))

apart_in : (ps qs : PairList) (q : List Atom × Value × Value) (l : List Atom) → Lacks (ps ++ q ∷ qs) l → key_eq q.0 l ≡ false
apart_in [] qs q l h = step_apart (key_eq q.0 l) (key_place qs l) (length qs) h
apart_in (p ∷ ps) qs q l h = apart_in ps qs q l (step_more (key_eq p.0 l) (key_place (ps ++ q ∷ qs) l) (length (ps ++ q ∷ qs)) h)

lacks_front : (ps qs : PairList) (q : List Atom × Value × Value) → AreKeysDistinct (ps ++ q ∷ qs) → Lacks ps q.0
lacks_front [] qs q d = refl
lacks_front (p ∷ ps) qs q d = lacks_cons p ps q.0 (other_keys p.0 q.0 (differ q.0 p.0 (apart_in ps qs q p.0 d.0))) (lacks_front ps qs q d.1)

copy_onto : (ps qs : PairList) → AreKeysDistinct (ps ++ qs) → put_all ps qs ≡ ps ++ qs
copy_onto ps [] d = sym (append-nil ps)
copy_onto ps (q ∷ qs) d =
    let one : with_pair ps q.0 q.1 q.2 ≡ ps ++ q ∷ [] = put_is ps q.0 q.1 q.2 ∙ put_new ps q.0 q.1 q.2 (lacks_front ps qs q d) in
    let back : (ps ++ q ∷ []) ++ qs ≡ ps ++ q ∷ qs = append_assoc ps (q ∷ []) qs in
    ap (λ xs. put_all xs qs) one ∙ copy_onto (ps ++ q ∷ []) qs (subst AreKeysDistinct (sym back) d) ∙ back

pub copy_same : (pairs : PairList) → AreKeysDistinct pairs → put_all [] pairs ≡ pairs
copy_same pairs d = copy_onto [] pairs d

-- ---- heaps

get_set : (h : List Object) (n : ℕ) (o x : Object) → slice_get h n ≡ Some o → slice_get (slice_set h n x) n ≡ Some x
get_set [] n o x e = absurd (cc)
get_set (y ∷ h) zero o x e = refl
get_set (y ∷ h) (suc n) o x e = get_set h n o x e

set_kind : (h : List Object) (n m j : ℕ) (ps qs : PairList) → slice_get h n ≡ Some (object.Dict ps) → object_kind j (slice_get (slice_set h n (object.Dict qs)) m) ≡ object_kind j (slice_get h m)
set_kind [] n m j ps qs e = refl
set_kind (o ∷ h) zero zero j ps qs e = let is : o ≡ object.Dict ps = cc in ap (λ x. object_kind j (Some x)) (sym is)
set_kind (o ∷ h) zero (suc m) j ps qs e = refl
set_kind (o ∷ h) (suc n) zero j ps qs e = refl
set_kind (o ∷ h) (suc n) (suc m) j ps qs e = set_kind h n m j ps qs e

answer_if : (h more : List Object) (v : Value) (l : List Atom) (b : Bool) (a : Keyed) → (if b then key_or h v a else Err unbuilt) ≡ Ok l → (if b then key_or more v a else Err unbuilt) ≡ Ok l
answer_if h more v l true (Ok k) e = e
answer_if h more v l true (Err x) e = absurd (cc)
answer_if h more v l false a e = absurd (cc)

answer_again : (h more : List Object) (v : Value) (l : List Atom) (b b2 : Bool) (a a2 : Keyed) → b2 ≡ b → a2 ≡ a → (if b then key_or h v a else Err unbuilt) ≡ Ok l → (if b2 then key_or more v a2 else Err unbuilt) ≡ Ok l
answer_again h more v l b b2 a a2 s t e = rw (s, t) (answer_if h more v l b a e)

module _ (h : List Object) (n : ℕ) (ps qs : PairList) (at : slice_get h n ≡ Some (object.Dict ps)) where
  abbrev more : List Object
  more = slice_set h n (object.Dict qs)

  kind_put : (v : Value) → kind_of more v ≡ kind_of h v
  kind_put (value.Obj m) = set_kind h n m m ps qs at
  kind_put (value.Bool true) = refl
  kind_put (value.Bool false) = refl
  kind_put v = refl

  same_kind : (one other : List Value → Keyed) → ((xs : List Value) → one xs ≡ other xs) → (x : Kind) → kind_key one x ≡ kind_key other x
  same_kind one other same (Many xs) = same xs
  same_kind one other same x = refl

  by_put : (one other : List Value → Keyed) → ((xs : List Value) → one xs ≡ other xs) → (v : Value) → key_by one more v ≡ key_by other h v
  by_put one other same v = ap (kind_key one) (kind_put v) ∙ same_kind one other same (kind_of h v)

  keys_put : (one other : Value → Keyed) → ((v : Value) → one v ≡ other v) → (xs : List Value) → keys_of one xs ≡ keys_of other xs
  keys_put one other same [] = refl
  keys_put one other same (x ∷ xs) = rw (same x, keys_put one other same xs) refl

  tuple_put : (room : ℕ) (xs : List Value) → tuple_key room more xs ≡ tuple_key room h xs
  unfolding tuple_key
  tuple_put zero xs = refl
  tuple_put (suc room) xs =
      ap (behind (atom.Tuple (length xs) ∷ [])) (keys_put _ _ (by_put (tuple_key room more) (tuple_key room h) (tuple_put room)) xs)

  key_put : (v : Value) → key more v ≡ key h v
  key_put v = by_put (tuple_key 1000 more) (tuple_key 1000 h) (tuple_put 1000) v

  key_again : (v : Value) (l : List Atom) → key_or_end h v ≡ Ok l → key_or_end more v ≡ Ok l
  key_again v l e =
      answer_again h more v l (is_in (length h) v) (is_in (length more) v) (key h v) (key more v) (ap (λ size. is_in size v) (length-set h n (object.Dict qs))) (key_put v) e

  index_again : (j : Value) (l : List Atom) → key_or_end h j ≡ Ok l → index_row more (value.Obj n) j ≡ value_or (mapped_value qs l) (key_error j)
  index_again j l e = ap (index_on more (value.Obj n) j) (get_set h n (object.Dict ps) (object.Dict qs) at) ∙ ap (value_keyed qs j) (key_again j l e)

  index_before : (j : Value) (l : List Atom) → key_or_end h j ≡ Ok l → index_row h (value.Obj n) j ≡ value_or (mapped_value ps l) (key_error j)
  index_before j l e = ap (index_on h (value.Obj n) j) at ∙ ap (value_keyed ps j) e

-- the heap in which a key of the dict got a value
put_heap_is : (h : List Object) (n : ℕ) (pairs : PairList) (i v : Value) (k : List Atom) → Puts h n pairs i k → put_heap h n i v ≡ slice_set h n (object.Dict (with_pair pairs k i v))
put_heap_is h n pairs i v k p =
    ap (λ o. heap_after h (setindex_on h n i v o)) p.dict ∙ ap (λ r. heap_after h (put_keyed n i v r)) p.key ∙ ap (put_at h n (Put k i v)) p.dict

pairs_after_is : (h : List Object) (n : ℕ) (pairs : PairList) (i v : Value) (k : List Atom) → Puts h n pairs i k → pairs_after h n i v ≡ with_pair pairs k i v
pairs_after_is h n pairs i v k p =
    ap (λ x. pairs_in (slice_get x n)) (put_heap_is h n pairs i v k p) ∙ ap pairs_in (get_set h n (object.Dict pairs) (object.Dict (with_pair pairs k i v)) p.dict)

pub key_stays : (h : List Object) (n : ℕ) (pairs : PairList) (i v : Value) (k : List Atom) (place : ℕ) → Puts h n pairs i k → found_at pairs k ≡ Some place → first_keys (pairs_after h n i v) ≡ first_keys pairs
key_stays h n pairs i v k place p e = ap first_keys (pairs_after_is h n pairs i v k p) ∙ pairs_stay pairs k i v place e

pub key_comes : (h : List Object) (n : ℕ) (pairs : PairList) (i v : Value) (k : List Atom) → Puts h n pairs i k → found_at pairs k ≡ None → first_keys (pairs_after h n i v) ≡ first_keys pairs ++ (k, i) ∷ []
key_comes h n pairs i v k p e = ap first_keys (pairs_after_is h n pairs i v k p) ∙ pairs_come pairs k i v e

pub key_maps : (h : List Object) (n : ℕ) (pairs : PairList) (i v : Value) (k : List Atom) → Puts h n pairs i k → index_row (put_heap h n i v) (value.Obj n) i ≡ opend.Give v
key_maps h n pairs i v k p =
    ap (λ x. index_row x (value.Obj n) i) (put_heap_is h n pairs i v k p) ∙ index_again h n pairs (with_pair pairs k i v) p.dict i k p.key
    ∙ ap (λ o. value_or o (key_error i)) (value_put pairs k i v)

pub key_others : (h : List Object) (n : ℕ) (pairs : PairList) (i v j : Value) (k l : List Atom) → Puts h n pairs i k → key_or_end h j ≡ Ok l → k ≢ l → index_row (put_heap h n i v) (value.Obj n) j ≡ index_row h (value.Obj n) j
key_others h n pairs i v j k l p e apart =
    ap (λ x. index_row x (value.Obj n) j) (put_heap_is h n pairs i v k p) ∙ index_again h n pairs (with_pair pairs k i v) p.dict j l e
    ∙ ap (λ o. value_or o (key_error j)) (value_others pairs k l i v apart) ∙ sym (index_before h n pairs (with_pair pairs k i v) p.dict j l e)
