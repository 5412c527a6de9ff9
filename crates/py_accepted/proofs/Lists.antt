-- What stands in lists of names.
use Rattle.std.proofs.Common.{◌≡◌, ℕ, zero, suc, ◌+◌, ◌<◌, Bool, true, false, not, cond, List, [], ◌∷◌, ◌++◌, length, map, Some, refl, ap, ◌∙◌, sym, subst, arith}
use Rattle.std.proofs.Common.{inl, inr}
use Rattle.std.specs.Prelude.{◌⊎◌, slice_get}
use Rattle.std.specs.List.{list_any, filter}
use Rattle.std.specs.Str.{bytes_eq}
use Rattle.std.proofs.lemmas.Bool.{or_cases, or_left, or_right}
use Rattle.std.proofs.lemmas.Slice.Eq.{bytes_eq-Decides}
use Rattle.py_meaning.specs.Scopes.{has, place_in, distinct}

-- it stands in the list
abbrev pub In : {A : Type 0} → A → List A → Type 0
In x [] = ⊥
In x (y ∷ ys) = (y ≡ x) ⊎ In x ys

pub in_left : {A : Type 0} (x : A) (xs ys : List A) → In x xs → In x (xs ++ ys)
in_left x [] ys h = absurd h
in_left x (y ∷ xs) ys (inl e) = inl e
in_left x (y ∷ xs) ys (inr h) = inr (in_left x xs ys h)

pub in_right : {A : Type 0} (x : A) (xs ys : List A) → In x ys → In x (xs ++ ys)
in_right x [] ys h = h
in_right x (y ∷ xs) ys h = inr (in_right x xs ys h)

pub in_either : {A : Type 0} (x : A) (xs ys : List A) → In x (xs ++ ys) → In x xs ⊎ In x ys
in_either x [] ys h = inr h
in_either x (y ∷ xs) ys (inl e) = inl (inl e)
in_either x (y ∷ xs) ys (inr h) = elim (in_either x xs ys h) as (λ o. In x (y ∷ xs) ⊎ In x ys) [ inl a ↦ inl (inr a) | inr b ↦ inr b ]

pub in_map : {A B : Type 0} (f : A → B) (x : A) (xs : List A) → In x xs → In (f x) (map f xs)
in_map f x [] h = absurd h
in_map f x (y ∷ xs) (inl e) = inl (ap f e)
in_map f x (y ∷ xs) (inr h) = inr (in_map f x xs h)

pub in_mapped : {A B : Type 0} (f : A → B) (y : B) (xs : List A) → In y (map f xs) → (x : A) × In x xs × (f x ≡ y)
in_mapped f y [] h = absurd h
in_mapped f y (x ∷ xs) (inl e) = (x, inl refl, e)
in_mapped f y (x ∷ xs) (inr h) = let r = in_mapped f y xs h in (r.0, inr r.1, r.2)

-- Filters

kept : {A : Type 0} (p : A → Bool) (x y : A) (ys : List A) (b : Bool) → In x ys → In x (cond b (y ∷ ys) ys)
kept p x y ys true h = inr h
kept p x y ys false h = h

pub in_filter : {A : Type 0} (p : A → Bool) (x : A) (xs : List A) → In x xs → p x ≡ true → In x (filter p xs)
in_filter p x [] h t = absurd h
in_filter p x (y ∷ xs) (inl e) t = subst (λ b. In x (cond b (y ∷ filter p xs) (filter p xs))) (sym t ∙ ap p (sym e)) (inl e)
in_filter p x (y ∷ xs) (inr h) t = kept p x y (filter p xs) (p y) (in_filter p x xs h t)

pub in_filtered : {A : Type 0} (p : A → Bool) (x : A) (xs : List A) → In x (filter p xs) → In x xs × (p x ≡ true)
in_filtered {A} p x [] h = absurd h
in_filtered {A} p x (y ∷ xs) h = go (p y) refl h (in_filtered p x xs)
  where
    go : (b : Bool) → p y ≡ b → In x (cond b (y ∷ filter p xs) (filter p xs)) → (In x (filter p xs) → In x xs × (p x ≡ true)) → In x (y ∷ xs) × (p x ≡ true)
    go true e (inl i) rest = (inl i, ap p (sym i) ∙ e)
    go true e (inr i) rest = let r = rest i in (inr r.0, r.1)
    go false e i rest = let r = rest i in (inr r.0, r.1)

-- Texts

pub same_text : (x y : List ℕ) → bytes_eq x y ≡ true → x ≡ y
same_text x y h = (bytes_eq-Decides x y).0 h

pub text_same : (x : List ℕ) → bytes_eq x x ≡ true
text_same x = (bytes_eq-Decides x x).1 refl

pub in_has : (x : List ℕ) (xs : List (List ℕ)) → In x xs → has xs x ≡ true
in_has x [] h = absurd h
in_has x (y ∷ xs) (inl e) = or_left (bytes_eq x y) (has xs x) (subst (λ y. bytes_eq x y ≡ true) (sym e) (text_same x))
in_has x (y ∷ xs) (inr h) = or_right (bytes_eq x y) (has xs x) (in_has x xs h)

pub has_in : (x : List ℕ) (xs : List (List ℕ)) → has xs x ≡ true → In x xs
has_in x [] h = cc h
has_in x (y ∷ xs) h = elim (or_cases (bytes_eq x y) (has xs x) h) as (λ o. In x (y ∷ xs)) [ inl a ↦ inl (sym (same_text x y a)) | inr b ↦ inr (has_in x xs b) ]

-- a name that stands in a list has its place there
pub placed : (x : List ℕ) (xs : List (List ℕ)) → In x xs → place_in xs x < length xs
placed x [] h = absurd h
placed x (y ∷ xs) h = go (bytes_eq y x) refl h (placed x xs)
  where
    go : (b : Bool) → bytes_eq y x ≡ b → In x (y ∷ xs) → (In x xs → place_in xs x < length xs) → cond b 0 (place_in xs x + 1) < suc (length xs)
    go true e i rest = omega arith
    go false e (inl i) rest = let t : bytes_eq y x ≡ true = subst (λ w. bytes_eq w x ≡ true) (sym i) (text_same x) in cc
    go false e (inr i) rest = omega (arith, rest i)

pub in_distinct : (x : List ℕ) (xs : List (List ℕ)) → In x xs → In x (distinct xs)
in_distinct x [] h = absurd h
in_distinct x (y ∷ xs) (inl e) = inl e
in_distinct x (y ∷ xs) (inr h) = go (bytes_eq x y) refl (in_distinct x xs h)
  where
    go : (b : Bool) → bytes_eq x y ≡ b → In x (distinct xs) → In x (distinct (y ∷ xs))
    go true e i = inl (sym (same_text x y e))
    go false e i = inr (in_filter (λ w. not (bytes_eq w y)) x (distinct xs) i (ap not e))

pub in_distincted : (x : List ℕ) (xs : List (List ℕ)) → In x (distinct xs) → In x xs
in_distincted x [] h = absurd h
in_distincted x (y ∷ xs) (inl e) = inl e
in_distincted x (y ∷ xs) (inr h) = inr (in_distincted x xs (in_filtered (λ w. not (bytes_eq w y)) x (distinct xs) h).0)

pub any_of : {A : Type 0} (p : A → Bool) (x : A) (xs : List A) → In x xs → p x ≡ true → list_any p xs ≡ true
any_of p x [] h t = absurd h
any_of p x (y ∷ xs) (inl e) t = or_left (p y) (list_any p xs) (ap p e ∙ t)
any_of p x (y ∷ xs) (inr h) t = or_right (p y) (list_any p xs) (any_of p x xs h t)

-- Places

pub got_in : {A : Type 0} (xs ys : List A) (k : ℕ) → k < length xs → slice_get (xs ++ ys) k ≡ slice_get xs k
got_in [] ys k l = absurd (omega (arith, l))
got_in (x ∷ xs) ys zero l = refl
got_in (x ∷ xs) ys (suc k) l = got_in xs ys k (omega (arith, l))

pub got_at : {A : Type 0} (xs : List A) (x : A) (ys : List A) → slice_get (xs ++ x ∷ ys) (length xs) ≡ Some x
got_at [] x ys = refl
got_at (y ∷ xs) x ys = got_at xs x ys

pub got_behind : {A : Type 0} (xs ys : List A) (n m : ℕ) → length xs + n ≡ m → slice_get (xs ++ ys) m ≡ slice_get ys n
got_behind [] ys n m l = let same : m ≡ n = omega (arith, l) in ap (slice_get ys) same
got_behind (x ∷ xs) ys n zero l = absurd (omega (arith, l))
got_behind (x ∷ xs) ys n (suc m) l = got_behind xs ys n m (omega (arith, l))
