-- Where names stand in lists that grow.
use Rattle.std.proofs.Common.{◌≡◌, ℕ, ◌+◌, Bool, true, false, ◌||◌, cond, List, [], ◌∷◌, ◌++◌, Some, None, length, refl, sym, ap, subst, ◌∙◌, take, arith}
use Rattle.std.specs.Prelude.{is_some}
use Rattle.std.specs.Str.{bytes_eq}
use Rattle.std.specs.Cmp.Lexicographic.{bytes_decides, nat_list_eq_equiv}
use Rattle.py_meaning.specs.Scopes.{has, place_in, parameter_of}
use Rattle.reform_homes.specs.Names.{number_in, numbered, Places}

-- Truth values

pub no_true : {A : Type 0} → ◌≡◌ {A = Bool} false true → A
no_true h = cc h

pub or_none : (b : Bool) → (b || false) ≡ b
or_none true = refl
or_none false = refl

pub or_all : (b : Bool) → (b || true) ≡ true
or_all true = refl
or_all false = refl

pub or_parts : (b c : Bool) → (b || c) ≡ false → (b ≡ false) × (c ≡ false)
or_parts true c h = no_true (sym h)
or_parts false c h = (refl, h)

pub or_assoc : (a b c : Bool) → ((a || b) || c) ≡ (a || (b || c))
or_assoc true b c = refl
or_assoc false b c = refl

-- Names

pub eq_sym : (x y : List ℕ) → bytes_eq x y ≡ bytes_eq y x
eq_sym x y = nat_list_eq_equiv.symm x y

pub eq_refl : (x : List ℕ) → bytes_eq x x ≡ true
eq_refl x = nat_list_eq_equiv.refl x

pub eq_same : (x y : List ℕ) → bytes_eq x y ≡ true → x ≡ y
eq_same x y h = (bytes_decides x y).0 h

pub has_push : (names : List (List ℕ)) (n x : List ℕ) → has (names ++ n ∷ []) x ≡ (has names x || bytes_eq n x)
has_push [] n x = or_none (bytes_eq x n) ∙ eq_sym x n
has_push (y ∷ names) n x =
    ap (λ b. bytes_eq x y || b) (has_push names n x) ∙ sym (or_assoc (bytes_eq x y) (has names x) (bytes_eq n x))

-- a name that isn't there has the place behind the list
pub place_missing : (names : List (List ℕ)) (x : List ℕ) → has names x ≡ false → place_in names x ≡ length names
place_missing [] x h = refl
place_missing (y ∷ names) x h =
    let parts = or_parts (bytes_eq x y) (has names x) h in
    let e : place_in (y ∷ names) x ≡ place_in names x + 1 = ap (λ b. cond b 0 (place_in names x + 1)) (eq_sym y x ∙ parts.0) in
    let rest : place_in names x ≡ length names = place_missing names x parts.1 in
    e ∙ omega (arith, rest)

place_stay : (names : List (List ℕ)) (n x : List ℕ) → has names x ≡ true → place_in (names ++ n ∷ []) x ≡ place_in names x
place_stay [] n x h = no_true h
place_stay (y ∷ names) n x h = by (bytes_eq y x) refl (place_stay names n x)
  where
    by : (b : Bool) → bytes_eq y x ≡ b → (has names x ≡ true → place_in (names ++ n ∷ []) x ≡ place_in names x)
        → cond b 0 (place_in (names ++ n ∷ []) x + 1) ≡ cond b 0 (place_in names x + 1)
    by true e rest = refl
    by false e rest = ap (λ k. k + 1) (rest (sym (ap (λ b. b || has names x) (eq_sym x y ∙ e)) ∙ h))

place_last : (names : List (List ℕ)) (n x : List ℕ) → has names x ≡ false → bytes_eq n x ≡ true → place_in (names ++ n ∷ []) x ≡ length names
place_last [] n x h e = ap (λ b. cond b 0 1) e
place_last (y ∷ names) n x h e =
    let parts = or_parts (bytes_eq x y) (has names x) h in
    let first : place_in (y ∷ (names ++ n ∷ [])) x ≡ place_in (names ++ n ∷ []) x + 1 = ap (λ b. cond b 0 (place_in (names ++ n ∷ []) x + 1)) (eq_sym y x ∙ parts.0) in
    let rest : place_in (names ++ n ∷ []) x ≡ length names = place_last names n x parts.1 e in
    first ∙ omega (arith, rest)

some_is : (b : Bool) (k : ℕ) → is_some (cond b (Some k) None) ≡ b
some_is true k = refl
some_is false k = refl

joined : (here named same : Bool) (p q n : ℕ) → (here ≡ true → q ≡ p) → (here ≡ false → same ≡ true → q ≡ n) → (same ≡ true → named ≡ here)
    → cond (here || same) (Some q) None ≡ cond named (cond here (Some p) None) (cond same (Some n) (cond here (Some p) None))
joined true true same p q n a b c = ap (λ k. Some k) (a refl)
joined true false true p q n a b c = no_true (c refl)
joined true false false p q n a b c = ap (λ k. Some k) (a refl)
joined false true true p q n a b c = no_true (sym (c refl))
joined false true false p q n a b c = refl
joined false false true p q n a b c = ap (λ k. Some k) (b refl refl)
joined false false false p q n a b c = refl

place_push : (names : List (List ℕ)) (n x : List ℕ)
    → parameter_of (names ++ n ∷ []) x ≡ cond (is_some (parameter_of names n)) (parameter_of names x) (cond (bytes_eq n x) (Some (length names)) (parameter_of names x))
place_push names n x =
    ap (λ b. cond b (Some (place_in (names ++ n ∷ []) x)) None) (has_push names n x)
    ∙ joined (has names x) (has names n) (bytes_eq n x) (place_in names x) (place_in (names ++ n ∷ []) x) (length names) (place_stay names n x) (place_last names n x) (λ e. ap (has names) (eq_same n x e))
    ∙ ap (λ b. cond b (parameter_of names x) (cond (bytes_eq n x) (Some (length names)) (parameter_of names x))) (sym (some_is (has names n) (place_in names n)))

-- the numbers of a list with one name more
pub places_push : (old new : List (List ℕ × ℕ)) (names : List (List ℕ)) (n : List ℕ) → Places old names
    → ((x : List ℕ) → number_in new x ≡ numbered old n (length names) x) → Places new (names ++ n ∷ [])
places_push old new names n places gains x =
    gains x
    ∙ ap (λ o. cond (is_some o) (number_in old x) (cond (bytes_eq n x) (Some (length names)) (number_in old x))) (places n)
    ∙ ap (λ o. cond (is_some (parameter_of names n)) o (cond (bytes_eq n x) (Some (length names)) o)) (places x)
    ∙ sym (place_push names n x)

pub missing : (names : List (List ℕ)) (x : List ℕ) → parameter_of names x ≡ None → place_in names x ≡ length names
missing names x h = place_missing names x (none (has names x) (place_in names x) h)
  where
    none : (b : Bool) (k : ℕ) → cond b (Some k) None ≡ None → b ≡ false
    none true k h = cc h
    none false k h = refl

-- what a push leaves
pub pushed : (old new : List (List ℕ × ℕ)) (names grown : List (List ℕ)) (n m : List ℕ) (k : ℕ) → Places old names → grown ≡ names ++ m ∷ [] → m ≡ n → k ≡ length names
    → ((x : List ℕ) → number_in new x ≡ numbered old n k x) → Places new grown
pushed old new names grown n m k places g e l gains =
    subst (λ xs. Places new xs) (ap (λ y. names ++ y ∷ []) (sym e) ∙ sym g)
    (places_push old new names n places (λ x. gains x ∙ ap (λ j. numbered old n j x) l))

take_front : (xs ys : List (List ℕ)) → take (length xs) (xs ++ ys) ≡ xs
take_front [] [] = refl
take_front [] (y ∷ ys) = refl
take_front (x ∷ xs) ys = ap (λ zs. x ∷ zs) (take_front xs ys)

-- and what one leaves that has no memory
pub kept : (old new : List (List ℕ × ℕ)) (names grown now : List (List ℕ)) (m : List ℕ) (k : ℕ) → Places old names → new ≡ old → grown ≡ names ++ m ∷ [] → k ≡ length names → now ≡ take k grown → Places new now
kept old new names grown now m k places same g l t =
    subst (λ xs. Places new xs) (sym (t ∙ ap (λ j. take j grown) l ∙ ap (take (length names)) g ∙ take_front names (m ∷ [])))
    (subst (λ entries. Places entries names) (sym same) places)
