-- One more site, in the list of scopes.
use Rattle.std.proofs.Common.{◌≡◌, ◌==◌, ℕ, suc, Bool, true, false, cond, ◌||◌, ◌&&◌, List, [], ◌∷◌, ◌++◌, map, Some, None, refl, ap, ◌∙◌, sym, append_assoc, append-nil}
use Rattle.std.specs.Borrow.{Bor}
use Rattle.std.proofs.lemmas.Bool.{eqb-true}
use Rattle.std.proofs.lemmas.List.Folds.{list_any-append}
use Rattle.py_ast.specs.declared.scoped.NameHome.{NameHome}
use Rattle.py_ast.specs.declared.scoped.Scope.{Scope}
use Rattle.py_scopes.specs.declared.survey.Site.{Site}
use Rattle.py_scopes.specs.declared.survey.Survey.{Survey}
use Rattle.py_scopes.specs.declared.survey.What.{What}
use Rattle.py_scopes.specs.declared.survey.What.TheVariants as what
use Rattle.py_scopes.specs.Homes.{somewhere, occurs, home}
use Rattle.py_scopes.specs.Resolve.{is_yield, new_name, names_at, names_from, entry, filled}
use Rattle.py_scopes.specs.Filling.{bare, changed, with_name, as_generator, name_change, change}
use Rattle.py_scopes.specs.Rules.{variable}
use Rattle.py_scopes.specs.Seen.{has, Lists}

or_false : (b : Bool) → (b || false) ≡ b
or_false true = refl
or_false false = refl

or_true : (b c : Bool) → ((b || true) || c) ≡ true
or_true true c = refl
or_true false c = refl

-- no change at all
unchanged : (at k : ℕ) (xs : List Scope) → changed (λ x. x) at k xs ≡ xs
unchanged at k [] = refl
unchanged at k (x ∷ xs) = ap (λ y. y ∷ changed (λ x. x) at (suc k) xs) (same (at == k) x) ∙ ap (λ ys. x ∷ ys) (unchanged at (suc k) xs)
  where
    same : (b : Bool) (x : Scope) → cond b x x ≡ x
    same true x = refl
    same false x = refl

-- the names with one more site
names_snoc : (survey : Survey) (scope : ℕ) (before sites : List Site) (site : Site)
    → names_from survey scope before (sites ++ site ∷ []) ≡ names_from survey scope before sites ++ names_at survey (before ++ sites) scope site
names_snoc survey scope before [] site = append-nil (names_at survey before scope site) ∙ ap (λ b. names_at survey b scope site) (sym (append-nil before))
names_snoc survey scope before (x ∷ xs) site =
    ap (λ n. names_at survey before scope x ++ n) (names_snoc survey scope (before ++ x ∷ []) xs site)
    ∙ sym (append_assoc (names_at survey before scope x) (names_from survey scope (before ++ x ∷ []) xs) (names_at survey ((before ++ x ∷ []) ++ xs) scope site))
    ∙ ap (λ b. (names_at survey before scope x ++ names_from survey scope (before ++ x ∷ []) xs) ++ names_at survey b scope site) (append_assoc before (x ∷ []) xs)

yields_snoc : (scope : ℕ) (sites : List Site) (site : Site)
    → somewhere is_yield scope (sites ++ site ∷ []) ≡ (somewhere is_yield scope sites || ((site.place.scope == scope) && is_yield site.what))
yields_snoc scope sites site = list_any-append (λ site. (site.place.scope == scope) && is_yield site.what) sites (site ∷ [])
    ∙ ap (λ b. somewhere is_yield scope sites || b) (or_false ((site.place.scope == scope) && is_yield site.what))

abbrev with : Scope → Bool → List NameHome → Scope
with x generator names = record x { is_generator = generator; names = names }

-- the entry with one more site of its scope
named : (survey : Survey) (keys : List (ℕ × Bor (List ℕ))) (sites : List Site) (scope : ℕ) (x : Scope) (y : List ℕ) (b : Bool) (g : Bool) (n : List NameHome) → has keys scope y ≡ occurs variable y scope sites → has keys scope y ≡ b
    → with x ((g || false) || x.is_generator) (n ++ new_name survey sites scope (Some y)) ≡ name_change survey keys scope (Some y) (with x (g || x.is_generator) n)
named survey keys sites scope x y b g n l h =
    ap (λ o. with x (o || x.is_generator) (n ++ cond (occurs variable y scope sites) [] ((record { name = y; home = home survey y scope }) ∷ []))) (or_false g)
    ∙ ap (λ o. with x (g || x.is_generator) (n ++ cond o [] ((record { name = y; home = home survey y scope }) ∷ []))) (sym l)
    ∙ listed (has keys scope y)
  where
    listed : (b : Bool) → with x (g || x.is_generator) (n ++ cond b [] ((record { name = y; home = home survey y scope }) ∷ []))
        ≡ cond b (with x (g || x.is_generator) n) (with_name (record { name = y; home = home survey y scope }) (with x (g || x.is_generator) n))
    listed true = ap (λ m. with x (g || x.is_generator) m) (append-nil n)
    listed false = refl

unnamed : (x : Scope) (g : Bool) (n : List NameHome) → with x ((g || false) || x.is_generator) (n ++ []) ≡ with x (g || x.is_generator) n
unnamed x g n = ap (λ o. with x (o || x.is_generator) (n ++ [])) (or_false g) ∙ ap (λ m. with x (g || x.is_generator) m) (append-nil n)

own : (survey : Survey) (keys : List (ℕ × Bor (List ℕ))) (sites : List Site) (scope : ℕ) (x : Scope) (w : What) → Lists keys variable sites
    → with x ((somewhere is_yield scope sites || is_yield w) || x.is_generator) (names_from survey scope [] sites ++ new_name survey sites scope (variable w)) ≡ change survey keys scope w (entry survey sites scope x)
own survey keys sites scope x (what.Binds y) l = named survey keys sites scope x y _ (somewhere is_yield scope sites) (names_from survey scope [] sites) (l scope y) refl
own survey keys sites scope x (what.Uses y) l = named survey keys sites scope x y _ (somewhere is_yield scope sites) (names_from survey scope [] sites) (l scope y) refl
own survey keys sites scope x (what.Parameter y) l = named survey keys sites scope x y _ (somewhere is_yield scope sites) (names_from survey scope [] sites) (l scope y) refl
own survey keys sites scope x (what.Global y) l = named survey keys sites scope x y _ (somewhere is_yield scope sites) (names_from survey scope [] sites) (l scope y) refl
own survey keys sites scope x (what.Nonlocal y) l = named survey keys sites scope x y _ (somewhere is_yield scope sites) (names_from survey scope [] sites) (l scope y) refl
own survey keys sites scope x what.Yield l =
    ap (λ o. with x o (names_from survey scope [] sites ++ [])) (or_true (somewhere is_yield scope sites) x.is_generator)
    ∙ ap (λ m. with x true m) (append-nil (names_from survey scope [] sites))
own survey keys sites scope x (what.Attribute y) l = unnamed x (somewhere is_yield scope sites) (names_from survey scope [] sites)
own survey keys sites scope x what.Arguments l = unnamed x (somewhere is_yield scope sites) (names_from survey scope [] sites)
own survey keys sites scope x (what.Keyword start y) l = unnamed x (somewhere is_yield scope sites) (names_from survey scope [] sites)
own survey keys sites scope x what.Break l = unnamed x (somewhere is_yield scope sites) (names_from survey scope [] sites)
own survey keys sites scope x what.Return l = unnamed x (somewhere is_yield scope sites) (names_from survey scope [] sites)
own survey keys sites scope x what.Reraise l = unnamed x (somewhere is_yield scope sites) (names_from survey scope [] sites)
own survey keys sites scope x what.Misplaced l = unnamed x (somewhere is_yield scope sites) (names_from survey scope [] sites)

one_more : (survey : Survey) (keys : List (ℕ × Bor (List ℕ))) (sites : List Site) (site : Site) (scope : ℕ) (x : Scope) → Lists keys variable sites
    → entry survey (sites ++ site ∷ []) scope x ≡ cond (site.place.scope == scope) (change survey keys site.place.scope site.what (entry survey sites scope x)) (entry survey sites scope x)
one_more survey keys sites site scope x l =
    ap (λ o. with x (o || x.is_generator) (names_from survey scope [] (sites ++ site ∷ []))) (yields_snoc scope sites site)
    ∙ ap (λ m. with x ((somewhere is_yield scope sites || ((site.place.scope == scope) && is_yield site.what)) || x.is_generator) m) (names_snoc survey scope [] sites site)
    ∙ by_scope (site.place.scope == scope) refl
  where
    by_scope : (b : Bool) → (site.place.scope == scope) ≡ b
        → with x ((somewhere is_yield scope sites || (b && is_yield site.what)) || x.is_generator) (names_from survey scope [] sites ++ cond b (new_name survey sites scope (variable site.what)) [])
        ≡ cond b (change survey keys site.place.scope site.what (entry survey sites scope x)) (entry survey sites scope x)
    by_scope true e = own survey keys sites scope x site.what l ∙ ap (λ k. change survey keys k site.what (entry survey sites scope x)) (sym (eqb-true site.place.scope scope e))
    by_scope false e = unnamed x (somewhere is_yield scope sites) (names_from survey scope [] sites)

pub filled_snoc : (survey : Survey) (keys : List (ℕ × Bor (List ℕ))) (sites : List Site) (site : Site) (k : ℕ) (xs : List Scope) → Lists keys variable sites
    → filled survey (sites ++ site ∷ []) k xs ≡ changed (change survey keys site.place.scope site.what) site.place.scope k (filled survey sites k xs)
filled_snoc survey keys sites site k [] l = refl
filled_snoc survey keys sites site k (x ∷ xs) l =
    ap (λ y. y ∷ filled survey (sites ++ site ∷ []) (suc k) xs) (one_more survey keys sites site k x l)
    ∙ ap (λ ys. cond (site.place.scope == k) (change survey keys site.place.scope site.what (entry survey sites k x)) (entry survey sites k x) ∷ ys) (filled_snoc survey keys sites site (suc k) xs l)

-- with no site the scopes have no names
pub filled_nil : (survey : Survey) (k : ℕ) (xs : List Scope) → filled survey [] k xs ≡ map bare xs
filled_nil survey k [] = refl
filled_nil survey k (x ∷ xs) = ap (λ ys. bare x ∷ ys) (filled_nil survey (suc k) xs)

-- What a site changes

no_true : {A : Type 0} → ◌≡◌ {A = Bool} false true → A
no_true h = cc h

pub yield_change : (survey : Survey) (keys : List (ℕ × Bor (List ℕ))) (scope : ℕ) (w : What) → is_yield w ≡ true → (change survey keys scope w ≡ as_generator) × (variable w ≡ None)
yield_change survey keys scope what.Yield h = (refl, refl)
yield_change survey keys scope (what.Binds y) h = no_true h
yield_change survey keys scope (what.Uses y) h = no_true h
yield_change survey keys scope (what.Parameter y) h = no_true h
yield_change survey keys scope (what.Global y) h = no_true h
yield_change survey keys scope (what.Nonlocal y) h = no_true h
yield_change survey keys scope (what.Attribute y) h = no_true h
yield_change survey keys scope what.Arguments h = no_true h
yield_change survey keys scope (what.Keyword start y) h = no_true h
yield_change survey keys scope what.Break h = no_true h
yield_change survey keys scope what.Return h = no_true h
yield_change survey keys scope what.Reraise h = no_true h
yield_change survey keys scope what.Misplaced h = no_true h

other_change : (survey : Survey) (keys : List (ℕ × Bor (List ℕ))) (scope : ℕ) (w : What) → is_yield w ≡ false → change survey keys scope w ≡ name_change survey keys scope (variable w)
other_change survey keys scope what.Yield h = no_true (sym h)
other_change survey keys scope (what.Binds y) h = refl
other_change survey keys scope (what.Uses y) h = refl
other_change survey keys scope (what.Parameter y) h = refl
other_change survey keys scope (what.Global y) h = refl
other_change survey keys scope (what.Nonlocal y) h = refl
other_change survey keys scope (what.Attribute y) h = refl
other_change survey keys scope what.Arguments h = refl
other_change survey keys scope (what.Keyword start y) h = refl
other_change survey keys scope what.Break h = refl
other_change survey keys scope what.Return h = refl
other_change survey keys scope what.Reraise h = refl
other_change survey keys scope what.Misplaced h = refl

pub no_change : (survey : Survey) (keys : List (ℕ × Bor (List ℕ))) (scope : ℕ) (w : What) (at : ℕ) (xs : List Scope) → is_yield w ≡ false → None ≡ variable w
    → xs ≡ changed (change survey keys scope w) at 0 xs
no_change survey keys scope w at xs h e = sym (ap (λ f. changed f at 0 xs) (other_change survey keys scope w h ∙ ap (name_change survey keys scope) (sym e)) ∙ unchanged at 0 xs)

pub old_name : (survey : Survey) (keys : List (ℕ × Bor (List ℕ))) (scope : ℕ) (w : What) (at : ℕ) (xs : List Scope) (x : List ℕ) → is_yield w ≡ false → Some x ≡ variable w → has keys scope x ≡ true
    → xs ≡ changed (change survey keys scope w) at 0 xs
old_name survey keys scope w at xs x h e l = sym (ap (λ f. changed f at 0 xs) (other_change survey keys scope w h ∙ ap (name_change survey keys scope) (sym e)
    ∙ ap (λ b. λ entry. cond b entry (with_name (record { name = x; home = home survey x scope }) entry)) l) ∙ unchanged at 0 xs)

pub first_name : (survey : Survey) (keys : List (ℕ × Bor (List ℕ))) (scope : ℕ) (w : What) (at : ℕ) (xs : List Scope) (x : List ℕ) → is_yield w ≡ false → Some x ≡ variable w → has keys scope x ≡ false
    → changed (with_name (record { name = x; home = home survey x scope })) at 0 xs ≡ changed (change survey keys scope w) at 0 xs
first_name survey keys scope w at xs x h e l = sym (ap (λ f. changed f at 0 xs) (other_change survey keys scope w h ∙ ap (name_change survey keys scope) (sym e)
    ∙ ap (λ b. λ entry. cond b entry (with_name (record { name = x; home = home survey x scope }) entry)) l))
