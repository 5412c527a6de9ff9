-- Names that stand in scopes.
use Rattle.std.proofs.Common.{◌≡◌, ◌==◌, ℕ, zero, suc, ◌+◌, ◌^◌, ◌<◌, ◌≤◌, Bool, true, false, not, ◌||◌, ◌&&◌, cond, List, [], ◌∷◌, ◌++◌, map, length, Option, Some, None, refl, sym, ap, ◌∙◌, append_assoc, append-nil, add-one, drop, drop-cons, get_or, arith}
use Rattle.std.specs.Prelude.{option_map, slice_get, is_some, unwrap_or}
use Rattle.std.specs.List.{filter}
use Rattle.std.specs.Str.{bytes_eq}
use Rattle.std.proofs.lemmas.Bool.{eqb-true}
use Rattle.std.proofs.lemmas.Bool.Decides.{nat_tests}
use Rattle.std.proofs.lemmas.Option.{slice_get-map, same_Some}
use Rattle.py_ast.specs.declared.scoped.NameHome.{NameHome}
use Rattle.py_ast.specs.declared.scoped.Scope.{Scope}
use Rattle.py_ast.specs.declared.scoped.ScopeKind.{ScopeKind}
use Rattle.py_meaning.specs.Scopes.{has, is_free, free_names, is_inside, is_inside_within, is_captured, names_in, names_at, names_where, around, home_among, holds_names, kind_in, own_names, held_names}
use Rattle.reform_homes.specs.Names.{gained_all, number_in, numbered}
use Rattle.reform_homes.specs.Gaining.{Gain, Rest, texts, lent, captured_names, passed, outward}
use Rattle.reform_homes.specs.Standing.{Captured, Free, Stands}
use Rattle.reform_homes.specs.Places.{is_held, is_own, is_other}
use Rattle.reform_homes.proofs.Places.{or_none, eq_same}
use Rattle.reform_homes.proofs.Gaining.{gained_append, gained_again, has_gained_all, has_texts, texts_append, distinct_gained, rest_step, rest_end}

-- the element at a number and what follows it
pub here : {A : Type 0} (xs : List A) (n : ℕ) (x : A) → n < length xs → x ≡ get_or xs n x → drop n xs ≡ x ∷ drop (n + 1) xs
here xs n x l is = let e : drop n xs ≡ get_or xs n x ∷ drop (n + 1) xs = rw (add-one, drop-cons xs n x) in e ∙ ap (λ y. y ∷ drop (n + 1) xs) (sym is)

turned : (a b : ℕ) (t : Bool) → (a == b) ≡ t → (b == a) ≡ t
turned a b t h = grind (arith, nat_tests)

pub differ : (a b : ℕ) → (a ≡ b → ⊥) → (a == b) ≡ false
differ a b h = grind (arith, nat_tests)

-- Captured names

lent_cons : (a scope : ℕ) (n : NameHome) (names : List NameHome) → lent a scope (n ∷ names) ≡ lent a scope (n ∷ []) ++ lent a scope names
lent_cons a scope n names = by (not (scope == a))
  where
    by : (b : Bool) → texts (λ n. n.home == a) (cond b (n ∷ names) []) ≡ texts (λ n. n.home == a) (cond b (n ∷ []) []) ++ texts (λ n. n.home == a) (cond b names [])
    by true = texts_append (λ n. n.home == a) (n ∷ []) names
    by false = refl

pub lent_step : (scope i : ℕ) (names : List NameHome) (n : NameHome) (old cur new : List (List (List ℕ))) (all : ℕ → List (List ℕ)) → i < length names → n ≡ get_or names i n
    → Rest old cur all (λ a. lent a scope (drop i names)) → Gain cur new (λ a. lent a scope (n ∷ [])) → Rest old new all (λ a. lent a scope (drop (i + 1) names))
lent_step scope i names n old cur new all l is r g =
    rest_step old cur new all (λ a. lent a scope (drop i names)) (λ a. lent a scope (n ∷ [])) (λ a. lent a scope (drop (i + 1) names)) r g
    (λ a list. ap (λ xs. gained_all list (lent a scope xs)) (here names i n l is)
    ∙ ap (gained_all list) (lent_cons a scope n (drop (i + 1) names))
    ∙ gained_append list (lent a scope (n ∷ [])) (lent a scope (drop (i + 1) names)))

nothing_lent : (a scope : ℕ) → lent a scope [] ≡ []
nothing_lent a scope = by (not (scope == a))
  where
    by : (b : Bool) → texts (λ n. n.home == a) (cond b [] []) ≡ []
    by true = refl
    by false = refl

pub lent_end : (scope : ℕ) (names : List NameHome) (old new : List (List (List ℕ))) (all : ℕ → List (List ℕ)) → Rest old new all (λ a. lent a scope (drop (length names) names)) → Gain old new all
lent_end scope names old new all r = rest_end old new all (λ a. lent a scope (drop (length names) names)) r (λ a. ap (lent a scope) (none names) ∙ nothing_lent a scope)
  where
    none : (xs : List NameHome) → drop (length xs) xs ≡ []
    none [] = refl
    none (x ∷ xs) = none xs

-- a name of another scope
pub lent_one : (scope : ℕ) (n : NameHome) → (n.home ≡ scope → ⊥) → (a : ℕ) → cond (n.home == a) (n.name ∷ []) [] ≡ lent a scope (n ∷ [])
lent_one scope n h a = by (scope == a) refl
  where
    one : (b : Bool) → cond b (n.name ∷ []) [] ≡ map (λ n. n.name) (cond b (n ∷ []) [])
    one true = refl
    one false = refl

    by : (b : Bool) → (scope == a) ≡ b → cond (n.home == a) (n.name ∷ []) [] ≡ texts (λ n. n.home == a) (cond (not b) (n ∷ []) [])
    by true e = ap (λ b. cond b (n.name ∷ []) []) (differ n.home a (λ k. h (k ∙ sym (eqb-true scope a e))))
    by false e = one (n.home == a)

-- a name of its own
pub lent_none : (scope : ℕ) (n : NameHome) → n.home ≡ scope → (a : ℕ) → lent a scope (n ∷ []) ≡ []
lent_none scope n h a = by (scope == a) refl
  where
    by : (b : Bool) → (scope == a) ≡ b → texts (λ n. n.home == a) (cond (not b) (n ∷ []) []) ≡ []
    by true e = refl
    by false e = ap (λ b. map (λ n. n.name) (cond b (n ∷ []) [])) (ap (λ k. k == a) h ∙ e)

pub captured_are : (scopes : List Scope) (empty lists : List (List (List ℕ))) → empty ≡ map (λ scope. []) scopes → Gain empty lists (captured_names scopes) → (a : ℕ) (x : List ℕ)
    → option_map (λ names. has names x) (slice_get lists a) ≡ option_map (λ scope. is_captured scopes a x) (slice_get scopes a)
captured_are scopes empty lists e g a x =
    ap (option_map (λ names. has names x)) (g a ∙ ap (λ l. option_map (λ list. gained_all list (captured_names scopes a)) (slice_get l a)) e ∙ ap (option_map (λ list. gained_all list (captured_names scopes a))) (slice_get-map (λ scope. []) scopes a))
    ∙ by (slice_get scopes a)
  where
    by : (o : Option Scope) → option_map (λ names. has names x) (option_map (λ list. gained_all list (captured_names scopes a)) (option_map (λ scope. []) o)) ≡ option_map (λ scope. is_captured scopes a x) o
    by None = refl
    by (Some s) = ap (λ b. Some b) (has_gained_all [] (captured_names scopes a) x ∙ has_texts (λ n. n.home == a) (names_where (λ scope. not (scope == a)) 0 scopes) x)

-- Free names

gained_or : (scope : ℕ) (names : List NameHome) (a : ℕ) (list : List (List ℕ)) (b c : Bool)
    → gained_all list (passed scope names a (b || c)) ≡ gained_all (gained_all list (passed scope names a b)) (passed scope names a c)
gained_or scope names a list false c = refl
gained_or scope names a list true false = refl
gained_or scope names a list true true = sym (gained_again list (passed scope names a true))

inside_or : (n : ℕ) (scopes : List Scope) (a at : ℕ) → is_inside_within n scopes a at ≡ ((a == at) || outward n scopes a at)
inside_or zero scopes a at = sym (or_none (a == at))
inside_or (suc n) scopes a at = refl

pub passed_start : (scopes : List Scope) (scope : ℕ) (names : List NameHome) (n a : ℕ)
    → passed scope names a (is_inside_within n scopes a scope) ≡ passed scope names a (outward n scopes a scope)
passed_start scopes scope names n a = ap (passed scope names a) (inside_or n scopes a scope) ∙ by (a == scope) refl (outward n scopes a scope)
  where
    none : (c : Bool) → texts (is_free a) (cond (c && false) names []) ≡ []
    none true = refl
    none false = refl

    by : (b : Bool) → (a == scope) ≡ b → (c : Bool) → passed scope names a (b || c) ≡ passed scope names a c
    by false e c = refl
    by true e c =
        let s : (scope == a) ≡ true = turned a scope true e in
        ap (λ q. texts (is_free a) (cond (not q) names [])) s ∙ sym (ap (λ q. texts (is_free a) (cond (c && not q) names [])) s ∙ none c)

pub passed_turn : (scopes : List Scope) (scope : ℕ) (names : List NameHome) (k m at next : ℕ) (old cur new : List (List (List ℕ))) (all : ℕ → List (List ℕ)) → k ≡ suc m → (at ≡ 0 → ⊥)
    → next ≡ around (slice_get scopes at)
    → Rest old cur all (λ a. passed scope names a (outward k scopes a at))
    → Gain cur new (λ a. passed scope names a (a == next))
    → Rest old new all (λ a. passed scope names a (outward m scopes a next))
passed_turn scopes scope names k m at next old cur new all e h n r g =
    rest_step old cur new all (λ a. passed scope names a (outward k scopes a at)) (λ a. passed scope names a (a == next))
    (λ a. passed scope names a (outward m scopes a next)) r g
    (λ a list.
    ap (λ n. gained_all list (passed scope names a (outward n scopes a at))) e
    ∙ ap (λ b. gained_all list (passed scope names a (not b && is_inside_within m scopes a (around (slice_get scopes at))))) (differ at 0 h)
    ∙ ap (λ k. gained_all list (passed scope names a (is_inside_within m scopes a k))) (sym n)
    ∙ ap (λ b. gained_all list (passed scope names a b)) (inside_or m scopes a next)
    ∙ gained_or scope names a list (a == next) (outward m scopes a next))

pub passed_home : (scopes : List Scope) (scope : ℕ) (names : List NameHome) (k at : ℕ) (old new : List (List (List ℕ))) (all : ℕ → List (List ℕ)) → at ≡ 0
    → Rest old new all (λ a. passed scope names a (outward k scopes a at)) → Gain old new all
passed_home scopes scope names k at old new all e r =
    rest_end old new all (λ a. passed scope names a (outward k scopes a at)) r (λ a. ap (λ n. passed scope names a (outward k scopes a n)) e ∙ ap (passed scope names a) (none k a))
  where
    none : (k a : ℕ) → outward k scopes a 0 ≡ false
    none zero a = refl
    none (suc k) a = refl

pub passed_end : (scopes : List Scope) (scope : ℕ) (names : List NameHome) (k at : ℕ) (old new : List (List (List ℕ))) (all : ℕ → List (List ℕ)) → k ≡ 0
    → Rest old new all (λ a. passed scope names a (outward k scopes a at)) → Gain old new all
passed_end scopes scope names k at old new all e r =
    rest_end old new all (λ a. passed scope names a (outward k scopes a at)) r (λ a. ap (λ n. passed scope names a (outward n scopes a at)) e)

-- a scope has no names of its own from another
pub passed_own : (scope : ℕ) (names : List NameHome) (this : ℕ) → this ≡ scope → (a : ℕ) → passed scope names a (a == this) ≡ []
passed_own scope names this e a = ap (λ k. passed scope names a (a == k)) e ∙ by (a == scope) refl
  where
    by : (b : Bool) → (a == scope) ≡ b → passed scope names a b ≡ []
    by true h = ap (λ q. texts (is_free a) (cond (not q) names [])) (turned a scope true h)
    by false h = refl

pub passed_other : (scope : ℕ) (names : List NameHome) (this : ℕ) → (this ≡ scope → ⊥) → (a : ℕ) → texts (is_free a) (cond (a == this) names []) ≡ passed scope names a (a == this)
passed_other scope names this h a = by (a == this) refl
  where
    by : (b : Bool) → (a == this) ≡ b → texts (is_free a) (cond b names []) ≡ passed scope names a b
    by true e = sym (ap (λ q. texts (is_free a) (cond (not q) names [])) (differ scope a (λ k. h (sym (eqb-true a this e) ∙ sym k))))
    by false e = refl

-- the names at a number, and behind it
where_behind : (a n : ℕ) (scopes : List Scope) → a < n → names_where (λ scope. a == scope) n scopes ≡ []
where_behind a n [] l = refl
where_behind a n (x ∷ scopes) l =
    let d : (a == n) ≡ false = grind (arith, nat_tests) in
    ap (λ b. cond b x.names [] ++ names_where (λ scope. a == scope) (n + 1) scopes) d ∙ where_behind a (n + 1) scopes (omega (arith, l))

where_at : (a n : ℕ) (scopes : List Scope) → names_where (λ scope. n + a == scope) n scopes ≡ names_at scopes a
where_at a n [] = refl
where_at zero n (x ∷ scopes) =
    let s : (n + zero == n) ≡ true = grind (arith, nat_tests) in
    ap (λ b. cond b x.names [] ++ names_where (λ scope. n + zero == scope) (n + 1) scopes) s
    ∙ ap (λ more. x.names ++ more) (where_behind (n + zero) (n + 1) scopes (omega arith)) ∙ append-nil x.names
where_at (suc a) n (x ∷ scopes) =
    let d : (n + suc a == n) ≡ false = grind (arith, nat_tests) in
    let m : n + suc a ≡ (n + 1) + a = omega arith in
    ap (λ b. cond b x.names [] ++ names_where (λ scope. n + suc a == scope) (n + 1) scopes) d
    ∙ ap (λ k. names_where (λ scope. k == scope) (n + 1) scopes) m ∙ where_at a (n + 1) scopes

pub own_text : (a : ℕ) (scopes : List Scope) → names_where (λ scope. a == scope) 0 scopes ≡ names_at scopes a
own_text a scopes = let e : a ≡ 0 + a = omega arith in ap (λ k. names_where (λ scope. k == scope) 0 scopes) e ∙ where_at a 0 scopes

-- at the end of a list of scopes
pub scopes_end : (test : ℕ → NameHome → Bool) (which : ℕ → ℕ → Bool) (n : ℕ) (scopes : List Scope) (old new : List (List (List ℕ))) (all : ℕ → List (List ℕ)) → length scopes ≤ n
    → Rest old new all (λ a. texts (test a) (names_where (which a) n (drop n scopes))) → Gain old new all
scopes_end test which n scopes old new all l r =
    rest_end old new all (λ a. texts (test a) (names_where (which a) n (drop n scopes))) r (λ a. ap (λ xs. texts (test a) (names_where (which a) n xs)) (none n scopes l))
  where
    none : (n : ℕ) (xs : List Scope) → length xs ≤ n → drop n xs ≡ []
    none zero [] l = refl
    none (suc n) [] l = refl
    none zero (x ∷ xs) l = absurd (omega (arith, l))
    none (suc n) (x ∷ xs) l = none n xs (omega (arith, l))

abbrev outer : List Scope → ℕ → List (List ℕ)
outer scopes a = texts (is_free a) (names_at scopes a)

abbrev inner : List Scope → ℕ → List (List ℕ)
inner scopes a = texts (is_free a) (names_where (λ scope. is_inside scopes a scope && not (scope == a)) 0 scopes)

pub frees_are : (scopes : List Scope) (empty own lists : List (List (List ℕ))) → empty ≡ map (λ scope. []) scopes
    → Gain empty own (λ a. texts (is_free a) (names_at scopes a))
    → Gain own lists (λ a. texts (is_free a) (names_where (λ scope. is_inside scopes a scope && not (scope == a)) 0 scopes))
    → (a : ℕ) → slice_get lists a ≡ option_map (λ scope. free_names scopes a) (slice_get scopes a)
frees_are scopes empty own lists e g h a =
    h a ∙ ap (option_map (λ list. gained_all list (inner scopes a))) (g a ∙ ap (λ l. option_map (λ list. gained_all list (outer scopes a)) (slice_get l a)) e ∙ ap (option_map (λ list. gained_all list (outer scopes a))) (slice_get-map (λ scope. []) scopes a))
    ∙ by (slice_get scopes a)
  where
    by : (o : Option Scope) → option_map (λ list. gained_all list (inner scopes a)) (option_map (λ list. gained_all list (outer scopes a)) (option_map (λ scope. []) o)) ≡ option_map (λ scope. free_names scopes a) o
    by None = refl
    by (Some s) = ap (λ names. Some names)
        (sym (gained_append [] (outer scopes a) (inner scopes a))
        ∙ ap (gained_all []) (sym (texts_append (is_free a) (names_at scopes a) (names_where (λ scope. is_inside scopes a scope && not (scope == a)) 0 scopes)))
        ∙ distinct_gained (texts (is_free a) (names_at scopes a ++ names_where (λ scope. is_inside scopes a scope && not (scope == a)) 0 scopes)))

-- Homes

-- a name with its home, in a list from which homes are numbers
pub home_step : (old new : List (List ℕ × ℕ)) (names : List NameHome) (i : ℕ) (n : NameHome) (whole : List ℕ → ℕ) → i < length names → n ≡ get_or names i n
    → ((x : List ℕ) → unwrap_or (number_in old x) (home_among (drop i names) x) ≡ whole x)
    → ((x : List ℕ) → number_in new x ≡ numbered old n.name n.home x)
    → (x : List ℕ) → unwrap_or (number_in new x) (home_among (drop (i + 1) names) x) ≡ whole x
home_step old new names i n whole l is r g x =
    ap (λ o. unwrap_or o (home_among (drop (i + 1) names) x)) (g x)
    ∙ by (number_in old x) (number_in old n.name) (bytes_eq n.name x) (λ e. ap (number_in old) (eq_same n.name x e))
    ∙ ap (λ xs. unwrap_or (number_in old x) (home_among xs x)) (sym (here names i n l is))
    ∙ r x
  where
    some_none : (k : ℕ) → ◌≡◌ {A = Option ℕ} (Some k) None → ⊥
    some_none k h = cc h

    by : (o p : Option ℕ) (b : Bool) → (b ≡ true → p ≡ o)
        → unwrap_or (cond (is_some p) o (cond b (Some n.home) o)) (home_among (drop (i + 1) names) x) ≡ unwrap_or o (cond b n.home (home_among (drop (i + 1) names) x))
    by None None true h = refl
    by None None false h = refl
    by None (Some q) true h = absurd (some_none q (h refl))
    by None (Some q) false h = refl
    by (Some k) None true h = absurd (some_none k (sym (h refl)))
    by (Some k) None false h = refl
    by (Some k) (Some q) b h = refl

-- one name more of those that are chosen
pub texts_step : (test : NameHome → Bool) (names : List NameHome) (i : ℕ) (n : NameHome) (old new whole : List (List ℕ)) → i < length names → n ≡ get_or names i n
    → old ++ texts test (drop i names) ≡ whole → new ≡ cond (test n) (old ++ n.name ∷ []) old → new ++ texts test (drop (i + 1) names) ≡ whole
texts_step test names i n old new whole l is h e =
    ap (λ xs. xs ++ texts test (drop (i + 1) names)) e ∙ by (test n) ∙ ap (λ xs. old ++ texts test xs) (sym (here names i n l is)) ∙ h
  where
    by : (b : Bool) → cond b (old ++ n.name ∷ []) old ++ texts test (drop (i + 1) names) ≡ old ++ map (λ n. n.name) (cond b (n ∷ filter test (drop (i + 1) names)) (filter test (drop (i + 1) names)))
    by true = append_assoc old (n.name ∷ []) (texts test (drop (i + 1) names))
    by false = refl

-- and of those that a list gains
pub gained_step : (test : NameHome → Bool) (names : List NameHome) (i : ℕ) (n : NameHome) (old new whole : List (List ℕ)) → i < length names → n ≡ get_or names i n
    → gained_all old (texts test (drop i names)) ≡ whole → new ≡ gained_all old (texts test (n ∷ [])) → gained_all new (texts test (drop (i + 1) names)) ≡ whole
gained_step test names i n old new whole l is h e =
    ap (λ xs. gained_all xs (texts test (drop (i + 1) names))) e
    ∙ sym (gained_append old (texts test (n ∷ [])) (texts test (drop (i + 1) names)))
    ∙ ap (gained_all old) (sym (texts_append test (n ∷ []) (drop (i + 1) names)))
    ∙ ap (λ xs. gained_all old (texts test xs)) (sym (here names i n l is)) ∙ h

-- Names that a frame holds

held_keep : (c : Bool) (n : NameHome) (test : NameHome → Bool) (names : List NameHome) (chosen : List ℕ → Bool) (held : List (List ℕ)) → texts test names ≡ filter chosen held
    → map (λ n. n.name) (cond c (n ∷ filter test names) (filter test names)) ≡ cond c (n.name ∷ filter chosen held) (filter chosen held)
held_keep true n test names chosen held rest = ap (λ xs. n.name ∷ xs) rest
held_keep false n test names chosen held rest = rest

held_one : (this : ℕ) (b : Bool) (n : NameHome) (test : NameHome → Bool) (names : List NameHome) (chosen : List ℕ → Bool)
    → texts test names ≡ filter chosen (map (λ n. n.name) (filter (λ n. n.home == this) names))
    → map (λ n. n.name) (cond (b && chosen n.name) (n ∷ filter test names) (filter test names))
    ≡ filter chosen (map (λ n. n.name) (cond b (n ∷ filter (λ n. n.home == this) names) (filter (λ n. n.home == this) names)))
held_one this true n test names chosen rest = held_keep (chosen n.name) n test names chosen (map (λ n. n.name) (filter (λ n. n.home == this) names)) rest
held_one this false n test names chosen rest = rest

held_some : (this : ℕ) (chosen : List ℕ → Bool) (test : NameHome → Bool) (names : List NameHome) → ((n : NameHome) → test n ≡ ((n.home == this) && chosen n.name))
    → texts test names ≡ filter chosen (map (λ n. n.name) (filter (λ n. n.home == this) names))
held_some this chosen test [] e = refl
held_some this chosen test (n ∷ names) e =
    ap (λ b. map (λ n. n.name) (cond b (n ∷ filter test names) (filter test names))) (e n) ∙ held_one this (n.home == this) n test names chosen (held_some this chosen test names e)

held_none : (test : NameHome → Bool) (names : List NameHome) → ((n : NameHome) → test n ≡ false) → texts test names ≡ []
held_none test [] e = refl
held_none test (n ∷ names) e = ap (λ b. map (λ n. n.name) (cond b (n ∷ filter test names) (filter test names))) (e n) ∙ held_none test names e

held_filter : (kind : ScopeKind) (this : ℕ) (chosen : List ℕ → Bool) (test : NameHome → Bool) (names : List NameHome) → ((n : NameHome) → test n ≡ (is_held kind this n && chosen n.name))
    → texts test names ≡ filter chosen (cond (holds_names kind) (map (λ n. n.name) (filter (λ n. n.home == this) names)) [])
held_filter kind this chosen test names h = by (holds_names kind) h
  where
    by : (b : Bool) → ((n : NameHome) → test n ≡ ((b && (n.home == this)) && chosen n.name))
        → texts test names ≡ filter chosen (cond b (map (λ n. n.name) (filter (λ n. n.home == this) names)) [])
    by true e = held_some this chosen test names e
    by false e = held_none test names e

at_scope : (chosen : List ℕ → Bool) (this : ℕ) (scope : Scope) (o : Option Scope) → o ≡ Some scope
    → filter chosen (cond (holds_names scope.kind) (map (λ n. n.name) (filter (λ n. n.home == this) scope.names)) [])
    ≡ filter chosen (cond (holds_names (kind_in o)) (map (λ n. n.name) (filter (λ n. n.home == this) (names_in o))) [])
at_scope chosen this scope o h = sym (ap (λ o. filter chosen (cond (holds_names (kind_in o)) (map (λ n. n.name) (filter (λ n. n.home == this) (names_in o))) [])) h)

pub own_are : (scopes : List Scope) (this : ℕ) (scope : Scope) (captured : List (List ℕ)) → slice_get scopes this ≡ Some scope
    → ((x : List ℕ) → has captured x ≡ is_captured scopes this x) → texts (is_own scope.kind this captured) scope.names ≡ own_names scopes this
own_are scopes this scope captured h e =
    held_filter scope.kind this (is_captured scopes this) (is_own scope.kind this captured) scope.names (λ n. ap (λ b. is_held scope.kind this n && b) (e n.name))
    ∙ at_scope (is_captured scopes this) this scope (slice_get scopes this) h

pub others_are : (scopes : List Scope) (this : ℕ) (scope : Scope) (captured params : List (List ℕ)) → slice_get scopes this ≡ Some scope
    → ((x : List ℕ) → has captured x ≡ is_captured scopes this x)
    → texts (is_other scope.kind this captured params) scope.names ≡ filter (λ x. not (is_captured scopes this x) && not (has params x)) (held_names scopes this)
others_are scopes this scope captured params h e =
    held_filter scope.kind this (λ x. not (is_captured scopes this x) && not (has params x)) (is_other scope.kind this captured params) scope.names
    (λ n. ap (λ b. is_held scope.kind this n && (not b && not (has params n.name))) (e n.name))
    ∙ at_scope (λ x. not (is_captured scopes this x) && not (has params x)) this scope (slice_get scopes this) h

-- Lists at a number

pub captured_at : (scopes : List Scope) (lists : List (List (List ℕ))) (a : ℕ) (names : List (List ℕ)) → Captured scopes lists → slice_get lists a ≡ Some names
    → (x : List ℕ) → has names x ≡ is_captured scopes a x
captured_at scopes lists a names c h x = by (slice_get scopes a) (sym (ap (option_map (λ n. has n x)) h) ∙ c a x)
  where
    by : (o : Option Scope) → Some (has names x) ≡ option_map (λ s. is_captured scopes a x) o → has names x ≡ is_captured scopes a x
    by None e = cc e
    by (Some s) e = same_Some (has names x) (is_captured scopes a x) e

pub free_at : (scopes : List Scope) (lists : List (List (List ℕ))) (a : ℕ) (names : List (List ℕ)) → Free scopes lists → slice_get lists a ≡ Some names → names ≡ free_names scopes a
free_at scopes lists a names f h = by (slice_get scopes a) (sym h ∙ f a)
  where
    by : (o : Option Scope) → Some names ≡ option_map (λ s. free_names scopes a) o → names ≡ free_names scopes a
    by None e = cc e
    by (Some s) e = same_Some names (free_names scopes a) e

pub stands : (scopes : List Scope) (this : ℕ) (scope : Scope) (captured free params own others : List (List ℕ)) (homes : List (List ℕ × ℕ)) → slice_get scopes this ≡ Some scope
    → ((x : List ℕ) → has captured x ≡ is_captured scopes this x) → free ≡ free_names scopes this
    → own ≡ texts (is_own scope.kind this captured) scope.names → others ≡ texts (is_other scope.kind this captured params) scope.names
    → ((x : List ℕ) → unwrap_or (number_in homes x) 0 ≡ home_among scope.names x)
    → length params + length free + length own + length others < 2 ^ 63
    → Stands scopes this scope captured free params own others homes
stands scopes this scope captured free params own others homes at caught frees owns more lives room = record {
  scope = at;
  captured = caught;
  free = frees;
  own = owns ∙ own_are scopes this scope captured at caught;
  others = more ∙ others_are scopes this scope captured params at caught;
  homes = lives;
  room = room;
}

pub rest_start : (scopes : List Scope) (scope : ℕ) (names : List NameHome) (lists : List (List (List ℕ))) (n : ℕ) → n ≡ length scopes
    → Rest lists lists (λ a. passed scope names a (is_inside scopes a scope)) (λ a. passed scope names a (outward n scopes a scope))
rest_start scopes scope names lists n e a =
    ap (λ xs. option_map (λ list. gained_all list xs) (slice_get lists a)) (passed_start scopes scope names (length scopes) a ∙ ap (λ k. passed scope names a (outward k scopes a scope)) (sym e))
