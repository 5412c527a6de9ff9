-- Names that lists gain.
use Rattle.std.proofs.Common.{◌≡◌, ◌==◌, ℕ, zero, suc, ◌+◌, ◌<◌, ◌≤◌, Bool, true, false, not, ◌||◌, ◌&&◌, cond, List, [], ◌∷◌, ◌++◌, map, length, Option, Some, None, refl, sym, ap, subst, ◌∙◌, append_assoc, append-nil, add-one, drop, drop-cons, get_or, set, arith}
use Rattle.std.specs.Prelude.{option_map, slice_get}
use Rattle.std.specs.List.{filter, list_any}
use Rattle.std.specs.Str.{bytes_eq}
use Rattle.std.proofs.lemmas.Bool.{eqb-true}
use Rattle.std.proofs.lemmas.Bool.Decides.{nat_tests}
use Rattle.std.proofs.lemmas.List.{map-append}
use Rattle.std.proofs.lemmas.List.Elements.{filter-append}
use Rattle.std.proofs.lemmas.Option.{slice_get_past, slice_get_read}
use Rattle.py_ast.specs.declared.scoped.NameHome.{NameHome}
use Rattle.py_ast.specs.declared.scoped.Scope.{Scope}
use Rattle.py_meaning.specs.Scopes.{has, distinct, names_where}
use Rattle.reform_homes.specs.Names.{gained, gained_all}
use Rattle.reform_homes.specs.Gaining.{Gain, Rest, texts}
use Rattle.reform_homes.proofs.Places.{no_true, or_none, or_all, or_assoc, eq_sym, eq_refl, eq_same, has_push}

pub gained_append : (names xs ys : List (List ℕ)) → gained_all names (xs ++ ys) ≡ gained_all (gained_all names xs) ys
gained_append names [] ys = refl
gained_append names (x ∷ xs) ys = gained_append (gained names x) xs ys

has_gained : (names : List (List ℕ)) (y x : List ℕ) → has (gained names y) x ≡ (has names x || bytes_eq y x)
has_gained names y x = by (has names y) refl (bytes_eq y x) refl
  where
    by : (b : Bool) → has names y ≡ b → (e : Bool) → bytes_eq y x ≡ e → has (cond b names (names ++ y ∷ [])) x ≡ (has names x || bytes_eq y x)
    by true h true e = (sym (ap (has names) (eq_same y x e)) ∙ h) ∙ sym (ap (λ o. has names x || o) e ∙ or_all (has names x))
    by true h false e = sym (ap (λ o. has names x || o) e ∙ or_none (has names x))
    by false h e' e = has_push names y x

pub has_gained_all : (names xs : List (List ℕ)) (x : List ℕ) → has (gained_all names xs) x ≡ (has names x || has xs x)
has_gained_all names [] x = sym (or_none (has names x))
has_gained_all names (y ∷ xs) x =
    has_gained_all (gained names y) xs x
    ∙ ap (λ b. b || has xs x) (has_gained names y x ∙ ap (λ b. has names x || b) (eq_sym y x))
    ∙ or_assoc (has names x) (bytes_eq x y) (has xs x)

-- names that are there already

has_stays : (names : List (List ℕ)) (x : List ℕ) (ys : List (List ℕ)) → has names x ≡ true → has (gained_all names ys) x ≡ true
has_stays names x [] h = h
has_stays names x (y ∷ ys) h = has_stays (gained names y) x ys (has_gained names y x ∙ ap (λ b. b || bytes_eq y x) h)

abbrev HasAll : List (List ℕ) → List (List ℕ) → Type 0
HasAll names [] = Unit {0}
HasAll names (x ∷ xs) = (has names x ≡ true) × HasAll names xs

has_all : (names xs : List (List ℕ)) → HasAll (gained_all names xs) xs
has_all names [] = tt
has_all names (x ∷ xs) =
    (has_stays (gained names x) x xs (has_gained names x x ∙ ap (λ e. has names x || e) (eq_refl x) ∙ or_all (has names x)), has_all (gained names x) xs)

gained_there : (names xs : List (List ℕ)) → HasAll names xs → gained_all names xs ≡ names
gained_there names [] h = refl
gained_there names (x ∷ xs) h = ap (λ b. gained_all (cond b names (names ++ x ∷ [])) xs) h.0 ∙ gained_there names xs h.1

pub gained_again : (names xs : List (List ℕ)) → gained_all (gained_all names xs) xs ≡ gained_all names xs
gained_again names xs = gained_there (gained_all names xs) xs (has_all names xs)

-- names that are distinct

filter_all : {A : Type 0} (xs : List A) → filter (λ x. true) xs ≡ xs
filter_all [] = refl
filter_all (x ∷ xs) = ap (λ ys. x ∷ ys) (filter_all xs)

filter_within : {A : Type 0} (p q : A → Bool) → ((y : A) → q y ≡ false → p y ≡ false) → (xs : List A) → filter p (filter q xs) ≡ filter p xs
filter_within p q h [] = refl
filter_within p q h (y ∷ xs) = by (q y) refl (filter_within p q h xs)
  where
    keep : (b : Bool) → filter p (filter q xs) ≡ filter p xs → cond b (y ∷ filter p (filter q xs)) (filter p (filter q xs)) ≡ cond b (y ∷ filter p xs) (filter p xs)
    keep true rest = ap (λ ys. y ∷ ys) rest
    keep false rest = rest

    by : (b : Bool) → q y ≡ b → filter p (filter q xs) ≡ filter p xs → filter p (cond b (y ∷ filter q xs) (filter q xs)) ≡ cond (p y) (y ∷ filter p xs) (filter p xs)
    by true e rest = keep (p y) rest
    by false e rest = rest ∙ sym (ap (λ b. cond b (y ∷ filter p xs) (filter p xs)) (h y e))

filter_both : {A : Type 0} (p q r : A → Bool) → ((y : A) → r y ≡ (q y && p y)) → (xs : List A) → filter r xs ≡ filter p (filter q xs)
filter_both p q r h [] = refl
filter_both p q r h (y ∷ xs) = ap (λ b. cond b (y ∷ filter r xs) (filter r xs)) (h y) ∙ by (q y) (filter_both p q r h xs)
  where
    keep : (b : Bool) → filter r xs ≡ filter p (filter q xs) → cond b (y ∷ filter r xs) (filter r xs) ≡ cond b (y ∷ filter p (filter q xs)) (filter p (filter q xs))
    keep true rest = ap (λ ys. y ∷ ys) rest
    keep false rest = rest

    by : (b : Bool) → filter r xs ≡ filter p (filter q xs) → cond (b && p y) (y ∷ filter r xs) (filter r xs) ≡ filter p (cond b (y ∷ filter q xs) (filter q xs))
    by true rest = keep (p y) rest
    by false rest = rest

neither : (a b : Bool) → not (a || b) ≡ (not b && not a)
neither true true = refl
neither true false = refl
neither false true = refl
neither false false = refl

negated : (b : Bool) → not b ≡ false → b ≡ true
negated true e = refl
negated false e = no_true (sym e)

distinct_there : (names xs : List (List ℕ)) (x : List ℕ) → has names x ≡ true → gained_all names xs ≡ names ++ filter (λ y. not (has names y)) (distinct xs)
    → gained_all names xs ≡ names ++ filter (λ y. not (has names y)) (filter (λ y. not (bytes_eq y x)) (distinct xs))
distinct_there names xs x h rest =
    rest ∙ ap (λ ys. names ++ ys) (sym (filter_within (λ y. not (has names y)) (λ y. not (bytes_eq y x))
    (λ y e. ap not (ap (has names) (eq_same y x (negated (bytes_eq y x) e)) ∙ h)) (distinct xs)))

distinct_new : (names xs : List (List ℕ)) (x : List ℕ)
    → gained_all (names ++ x ∷ []) xs ≡ (names ++ x ∷ []) ++ filter (λ y. not (has (names ++ x ∷ []) y)) (distinct xs)
    → gained_all (names ++ x ∷ []) xs ≡ names ++ x ∷ filter (λ y. not (has names y)) (filter (λ y. not (bytes_eq y x)) (distinct xs))
distinct_new names xs x rest =
    rest
    ∙ append_assoc names (x ∷ []) (filter (λ y. not (has (names ++ x ∷ []) y)) (distinct xs))
    ∙ ap (λ ys. names ++ x ∷ ys) (filter_both (λ y. not (has names y)) (λ y. not (bytes_eq y x)) (λ y. not (has (names ++ x ∷ []) y))
    (λ y. ap not (has_push names x y ∙ ap (λ b. has names y || b) (eq_sym x y)) ∙ neither (has names y) (bytes_eq y x)) (distinct xs))

gained_distinct : (names xs : List (List ℕ)) → gained_all names xs ≡ names ++ filter (λ y. not (has names y)) (distinct xs)
gained_distinct names [] = sym (append-nil names)
gained_distinct names (x ∷ xs) = by (has names x) refl (gained_distinct names xs) (gained_distinct (names ++ x ∷ []) xs)
  where
    by : (b : Bool) → has names x ≡ b → gained_all names xs ≡ names ++ filter (λ y. not (has names y)) (distinct xs)
        → gained_all (names ++ x ∷ []) xs ≡ (names ++ x ∷ []) ++ filter (λ y. not (has (names ++ x ∷ []) y)) (distinct xs)
        → gained_all (cond b names (names ++ x ∷ [])) xs
        ≡ names ++ cond (not b) (x ∷ filter (λ y. not (has names y)) (filter (λ y. not (bytes_eq y x)) (distinct xs))) (filter (λ y. not (has names y)) (filter (λ y. not (bytes_eq y x)) (distinct xs)))
    by true h old new = distinct_there names xs x h old
    by false h old new = distinct_new names xs x new

pub distinct_gained : (xs : List (List ℕ)) → gained_all [] xs ≡ distinct xs
distinct_gained xs = gained_distinct [] xs ∙ filter_all (distinct xs)

-- Names that meet a test

pub texts_append : (test : NameHome → Bool) (xs ys : List NameHome) → texts test (xs ++ ys) ≡ texts test xs ++ texts test ys
texts_append test xs ys = ap (map (λ n. n.name)) (filter-append test xs ys) ∙ map-append (λ n. n.name) (filter test xs) (filter test ys)

pub has_texts : (test : NameHome → Bool) (names : List NameHome) (x : List ℕ) → has (texts test names) x ≡ list_any (λ n. test n && bytes_eq n.name x) names
has_texts test [] x = refl
has_texts test (n ∷ names) x = by (test n) (has_texts test names x)
  where
    by : (b : Bool) → has (texts test names) x ≡ list_any (λ n. test n && bytes_eq n.name x) names
        → has (map (λ n. n.name) (cond b (n ∷ filter test names) (filter test names))) x ≡ ((b && bytes_eq n.name x) || list_any (λ n. test n && bytes_eq n.name x) names)
    by true rest = ap (λ b. b || has (texts test names) x) (eq_sym x n.name) ∙ ap (λ o. bytes_eq n.name x || o) rest
    by false rest = rest

-- Lists of them

pub rest_step : (old cur new : List (List (List ℕ))) (all before more after : ℕ → List (List ℕ)) → Rest old cur all before → Gain cur new more
    → ((a : ℕ) (names : List (List ℕ)) → gained_all names (before a) ≡ gained_all (gained_all names (more a)) (after a)) → Rest old new all after
rest_step old cur new all before more after r g e a = r a ∙ by (slice_get cur a) (slice_get new a) (g a)
  where
    by : (c n : Option (List (List ℕ))) → n ≡ option_map (λ list. gained_all list (more a)) c
        → option_map (λ list. gained_all list (before a)) c ≡ option_map (λ list. gained_all list (after a)) n
    by None n h = sym (ap (option_map (λ list. gained_all list (after a))) h)
    by (Some names) n h = ap (λ list. Some list) (e a names) ∙ sym (ap (option_map (λ list. gained_all list (after a))) h)

pub rest_end : (old new : List (List (List ℕ))) (all rest : ℕ → List (List ℕ)) → Rest old new all rest → ((a : ℕ) → rest a ≡ []) → Gain old new all
rest_end old new all rest r h a = sym (r a ∙ by (slice_get new a))
  where
    by : (o : Option (List (List ℕ))) → option_map (λ list. gained_all list (rest a)) o ≡ o
    by None = refl
    by (Some names) = ap (λ xs. Some (gained_all names xs)) (h a)

pub gain_same : (old new : List (List (List ℕ))) (f g : ℕ → List (List ℕ)) → ((a : ℕ) → f a ≡ g a) → Gain old new f → Gain old new g
gain_same old new f g h e a = e a ∙ ap (λ xs. option_map (λ list. gained_all list xs) (slice_get old a)) (h a)

gain_nothing : (o : Option (List (List ℕ))) → o ≡ option_map (λ list. gained_all list []) o
gain_nothing None = refl
gain_nothing (Some names) = refl

pub gain_none : (lists : List (List (List ℕ))) (names : ℕ → List (List ℕ)) → ((a : ℕ) → names a ≡ []) → Gain lists lists names
gain_none lists names h a = gain_nothing (slice_get lists a) ∙ sym (ap (λ xs. option_map (λ list. gained_all list xs) (slice_get lists a)) (h a))

get_set_other : {A : Type 0} (xs : List A) (k a : ℕ) (y : A) → (a ≡ k → ⊥) → slice_get (set xs k y) a ≡ slice_get xs a
get_set_other [] k a y h = refl
get_set_other (x ∷ xs) zero zero y h = absurd (h refl)
get_set_other (x ∷ xs) zero (suc a) y h = refl
get_set_other (x ∷ xs) (suc k) zero y h = refl
get_set_other (x ∷ xs) (suc k) (suc a) y h = get_set_other xs k a y (λ e. h (ap (λ n. suc n) e))

get_set_same : {A : Type 0} (xs : List A) (k : ℕ) (y : A) → k < length xs → slice_get (set xs k y) k ≡ Some y
get_set_same [] k y h = absurd (omega (arith, h))
get_set_same (x ∷ xs) zero y h = refl
get_set_same (x ∷ xs) (suc k) y h = get_set_same xs k y (omega (arith, h))

itself : (n : ℕ) → (n == n) ≡ true
itself n = grind (arith, nat_tests)

other : (a k : ℕ) → (a ≡ k → ⊥) → (a == k) ≡ false
other a k h = grind (arith, nat_tests)

by_number : {P : Type 0} (a k : ℕ) → (a ≡ k → P) → ((a ≡ k → ⊥) → P) → P
by_number {P} a k same apart = by (a == k) refl
  where
    by : (b : Bool) → (a == k) ≡ b → P
    by true e = same (eqb-true a k e)
    by false e = apart (λ h. no_true (sym e ∙ ap (λ n. a == n) (sym h) ∙ itself a))

-- the list of this number gains the names for it, and no other has any
pub gain_set : (lists : List (List (List ℕ))) (k : ℕ) (x y : List (List ℕ)) (names : ℕ → List (List ℕ)) → k < length lists → x ≡ get_or lists k x
    → y ≡ gained_all x (names k) → ((a : ℕ) → (a ≡ k → ⊥) → names a ≡ []) → Gain lists (set lists k y) names
gain_set lists k x y names l is e apart a = by_number a k same different
  where
    same : a ≡ k → slice_get (set lists k y) a ≡ option_map (λ list. gained_all list (names a)) (slice_get lists a)
    same h = subst (λ n. slice_get (set lists k y) n ≡ option_map (λ list. gained_all list (names n)) (slice_get lists n)) (sym h)
        (get_set_same lists k y l ∙ ap (λ z. Some z) e ∙ sym (ap (option_map (λ list. gained_all list (names k))) (slice_get_read lists (length lists) k x refl l is)))

    different : (a ≡ k → ⊥) → slice_get (set lists k y) a ≡ option_map (λ list. gained_all list (names a)) (slice_get lists a)
    different h = get_set_other lists k a y h ∙ gain_nothing (slice_get lists a) ∙ sym (ap (λ xs. option_map (λ list. gained_all list xs) (slice_get lists a)) (apart a h))

-- where there is no such list
pub gain_behind : (lists : List (List (List ℕ))) (k : ℕ) (names : ℕ → List (List ℕ)) → length lists ≤ k → ((a : ℕ) → (a ≡ k → ⊥) → names a ≡ []) → Gain lists lists names
gain_behind lists k names l apart a = by_number a k same different
  where
    same : a ≡ k → slice_get lists a ≡ option_map (λ list. gained_all list (names a)) (slice_get lists a)
    same h = let none : slice_get lists a ≡ None = slice_get_past lists a (omega (arith, h, l)) in none ∙ sym (ap (option_map (λ list. gained_all list (names a))) none)

    different : (a ≡ k → ⊥) → slice_get lists a ≡ option_map (λ list. gained_all list (names a)) (slice_get lists a)
    different h = gain_nothing (slice_get lists a) ∙ sym (ap (λ xs. option_map (λ list. gained_all list xs) (slice_get lists a)) (apart a h))

-- one scope more, of a list of them
pub scope_step : (test : ℕ → NameHome → Bool) (which : ℕ → ℕ → Bool) (n : ℕ) (scopes : List Scope) (x : Scope) (old cur new : List (List (List ℕ))) (all : ℕ → List (List ℕ))
    → n < length scopes → x ≡ get_or scopes n x
    → Rest old cur all (λ a. texts (test a) (names_where (which a) n (drop n scopes)))
    → Gain cur new (λ a. texts (test a) (cond (which a n) x.names []))
    → Rest old new all (λ a. texts (test a) (names_where (which a) (n + 1) (drop (n + 1) scopes)))
scope_step test which n scopes x old cur new all l is r g =
    rest_step old cur new all (λ a. texts (test a) (names_where (which a) n (drop n scopes))) (λ a. texts (test a) (cond (which a n) x.names [])) (λ a. texts (test a) (names_where (which a) (n + 1) (drop (n + 1) scopes))) r g
    (λ a names.
    ap (λ s. gained_all names (texts (test a) (names_where (which a) n s))) here
    ∙ ap (gained_all names) (texts_append (test a) (cond (which a n) x.names []) (names_where (which a) (n + 1) (drop (n + 1) scopes)))
    ∙ gained_append names (texts (test a) (cond (which a n) x.names [])) (texts (test a) (names_where (which a) (n + 1) (drop (n + 1) scopes))))
  where
    here : drop n scopes ≡ x ∷ drop (n + 1) scopes
    here = let e : drop n scopes ≡ get_or scopes n x ∷ drop (n + 1) scopes = rw (add-one, drop-cons scopes n x) in e ∙ ap (λ y. y ∷ drop (n + 1) scopes) (sym is)

-- one list gains one name
pub gain_here : (lists : List (List (List ℕ))) (k : ℕ) (x y : List (List ℕ)) (name : List ℕ) → k < length lists → x ≡ get_or lists k x → y ≡ gained x name
    → Gain lists (set lists k y) (λ a. cond (k == a) (name ∷ []) [])
gain_here lists k x y name l is e =
    gain_set lists k x y (λ a. cond (k == a) (name ∷ []) []) l is (e ∙ sym (ap (λ b. gained_all x (cond b (name ∷ []) [])) (itself k))) (λ a h. ap (λ b. cond b (name ∷ []) []) (other k a (λ s. h (sym s))))

pub gain_not_here : (lists : List (List (List ℕ))) (k : ℕ) (name : List ℕ) → length lists ≤ k → Gain lists lists (λ a. cond (k == a) (name ∷ []) [])
gain_not_here lists k name l = gain_behind lists k (λ a. cond (k == a) (name ∷ []) []) l (λ a h. ap (λ b. cond b (name ∷ []) []) (other k a (λ s. h (sym s))))

-- one list gains those names that meet its test
pub gain_texts : (test : ℕ → NameHome → Bool) (lists : List (List (List ℕ))) (k : ℕ) (x y : List (List ℕ)) (names : List NameHome) → k < length lists → x ≡ get_or lists k x
    → y ≡ gained_all x (texts (test k) names) → Gain lists (set lists k y) (λ a. texts (test a) (cond (a == k) names []))
gain_texts test lists k x y names l is e =
    gain_set lists k x y (λ a. texts (test a) (cond (a == k) names [])) l is (e ∙ sym (ap (λ b. gained_all x (texts (test k) (cond b names []))) (itself k))) (λ a h. ap (λ b. texts (test a) (cond b names [])) (other a k h))

pub gain_no_texts : (test : ℕ → NameHome → Bool) (lists : List (List (List ℕ))) (k : ℕ) (names : List NameHome) → length lists ≤ k
    → Gain lists lists (λ a. texts (test a) (cond (a == k) names []))
gain_no_texts test lists k names l = gain_behind lists k (λ a. texts (test a) (cond (a == k) names [])) l (λ a h. ap (λ b. texts (test a) (cond b names [])) (other a k h))
