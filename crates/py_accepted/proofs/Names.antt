-- The names of a scope and their homes, by the survey of the script.
use Rattle.std.proofs.Common.{◌≡◌, ℕ, zero, suc, ◌+◌, ◌<◌, ◌≤◌, ◌==◌, Bool, true, false, not, ◌&&◌, ◌||◌, if◌then◌else◌, List, [], ◌∷◌, ◌++◌, length, Option, Some, None, inl, inr, refl, ap, ◌∙◌, sym, subst, arith}
use Rattle.std.specs.Prelude.{◌⊎◌, slice_get, unwrap_or}
use Rattle.std.specs.Str.{bytes_eq}
use Rattle.std.proofs.lemmas.Bool.{or_cases, or_left, or_right, and_parts, and_from, eqb-true, eqb-false, eq-eqb, ne_eqb, not-true}
use Rattle.std.proofs.lemmas.List.Folds.{list_any-append}
use Rattle.py_ast.specs.declared.scoped.NameHome.{NameHome}
use Rattle.py_ast.specs.declared.scoped.Scope.{Scope}
use Rattle.py_ast.specs.declared.scoped.ScopeKind.{ScopeKind}
use Rattle.py_ast.specs.declared.scoped.ScopeKind.TheVariants as kind
use Rattle.py_scopes.specs.declared.survey.What.{What}
use Rattle.py_scopes.specs.declared.survey.What.TheVariants as what
use Rattle.py_scopes.specs.declared.survey.Site.{Site}
use Rattle.py_scopes.specs.declared.survey.Survey.{Survey}
use Rattle.py_scopes.specs.Homes as homes
use Rattle.py_scopes.specs.Homes.{occurs, bound, global, is_name, around_scope, around_within, seen, enclosing, binds, decided, first_home, home}
use Rattle.py_scopes.specs.Rules.{variable}
use Rattle.py_scopes.specs.Resolve.{new_name, names_at as site_names, names_from, entry, filled, scopes_of}
use Rattle.py_scopes.specs.Nested.{Nest}
use Rattle.py_meaning.specs.Scopes.{names_in, names_at, around, is_inside_within, names_where, kind_in, is_class, home_among}
use Rattle.py_accepted.proofs.Lists.{In, in_left, in_right, in_either, in_filtered, same_text, text_same}

-- Scopes by their numbers

filled_at : (s : Survey) (sites : List Site) (k m : ℕ) (xs : List Scope) (n : ℕ) (x : Scope) → slice_get xs n ≡ Some x → k + n ≡ m → slice_get (filled s sites k xs) n ≡ Some (entry s sites m x)
filled_at s sites k m [] n x e l = cc
filled_at s sites k m (y ∷ ys) zero x e l =
    let same : y ≡ x = cc in
    let number : k ≡ m = omega (arith, l) in
    ap (λ v. Some (entry s sites k v)) same ∙ ap (λ v. Some (entry s sites v x)) number
filled_at s sites k m (y ∷ ys) (suc n) x e l = filled_at s sites (suc k) m ys n x e (omega (arith, l))

filled_none : (s : Survey) (sites : List Site) (k : ℕ) (xs : List Scope) (n : ℕ) → slice_get xs n ≡ None → slice_get (filled s sites k xs) n ≡ None
filled_none s sites k [] n e = refl
filled_none s sites k (y ∷ ys) zero e = cc
filled_none s sites k (y ∷ ys) (suc n) e = filled_none s sites (suc k) ys n e

filled_length : (s : Survey) (sites : List Site) (k : ℕ) (xs : List Scope) → length (filled s sites k xs) ≡ length xs
filled_length s sites k [] = refl
filled_length s sites k (x ∷ xs) = ap suc (filled_length s sites (suc k) xs)

pub scope_at : (s : Survey) (n : ℕ) (x : Scope) → slice_get s.scopes n ≡ Some x → slice_get (scopes_of s) n ≡ Some (entry s s.sites n x)
unfolding scopes_of
scope_at s n x e = filled_at s s.sites 0 n s.scopes n x e (omega arith)

pub scope_none : (s : Survey) (n : ℕ) → slice_get s.scopes n ≡ None → slice_get (scopes_of s) n ≡ None
unfolding scopes_of
scope_none s n e = filled_none s s.sites 0 s.scopes n e

pub scopes_length : (s : Survey) → length (scopes_of s) ≡ length s.scopes
unfolding scopes_of
scopes_length s = filled_length s s.sites 0 s.scopes

pub around_same : (s : Survey) (n : ℕ) → around (slice_get (scopes_of s) n) ≡ enclosing s n
around_same s n = go (slice_get s.scopes n) refl
  where
    go : (o : Option Scope) → slice_get s.scopes n ≡ o → around (slice_get (scopes_of s) n) ≡ around_scope (slice_get s.scopes n)
    go None e = ap around (scope_none s n e) ∙ ap around_scope (sym e)
    go (Some x) e = ap around (scope_at s n x e) ∙ ap around_scope (sym e)

class_kinds : (k : ScopeKind) → is_class k ≡ homes.class_kind k
class_kinds kind.Module = refl
class_kinds kind.Function = refl
class_kinds kind.Lambda = refl
class_kinds kind.Class = refl
class_kinds kind.ListComprehension = refl
class_kinds kind.DictComprehension = refl
class_kinds kind.Generator = refl

pub class_same : (s : Survey) (n : ℕ) → is_class (kind_in (slice_get (scopes_of s) n)) ≡ homes.is_class s n
class_same s n = go (slice_get s.scopes n) refl
  where
    go : (o : Option Scope) → slice_get s.scopes n ≡ o → is_class (kind_in (slice_get (scopes_of s) n)) ≡ homes.is_class_scope (slice_get s.scopes n)
    go None e = ap (λ o. is_class (kind_in o)) (scope_none s n e) ∙ ap homes.is_class_scope (sym e)
    go (Some x) e = ap (λ o. is_class (kind_in o)) (scope_at s n x e) ∙ class_kinds x.kind ∙ ap homes.is_class_scope (sym e)

-- outwards the numbers fall
pub outwards : (s : Survey) → Nest (scopes_of s) → (n : ℕ) → 0 < n → enclosing s n < n
outwards s nests n p = go (slice_get s.scopes n) refl
  where
    go : (o : Option Scope) → slice_get s.scopes n ≡ o → around_scope (slice_get s.scopes n) < n
    go None e = subst (λ o. around_scope o < n) (sym e) p
    go (Some x) e = subst (λ o. around_scope o < n) (sym e) (nests n _ p (scope_at s n x e))

-- Names that stand in a scope

one_name : (s : Survey) (t : ℕ) (before : List Site) (b : Bool) (o : Option (List ℕ)) (n : NameHome) → In n (if b then new_name s before t o else []) → n.home ≡ home s n.name t
one_name s t before false o n h = absurd h
one_name s t before true None n h = absurd h
one_name s t before true (Some x) n h = go (occurs variable x t before) h
  where
    go : (b : Bool) → In n (if b then [] else ((record { name = x; home = home s x t }) ∷ [])) → n.home ≡ home s n.name t
    go true i = absurd i
    go false (inl e) = subst (λ m. m.home ≡ home s m.name t) e refl
    go false (inr i) = absurd i

in_names : (s : Survey) (t : ℕ) (before sites : List Site) (n : NameHome) → In n (names_from s t before sites) → n.home ≡ home s n.name t
in_names s t before [] n h = absurd h
in_names s t before (site ∷ sites) n h =
    elim (in_either n (site_names s before t site) (names_from s t (before ++ site ∷ []) sites) h) as (λ o. n.home ≡ home s n.name t) [
      | inl a ↦ one_name s t before (site.place.scope == t) (variable site.what) n a
      | inr b ↦ in_names s t (before ++ site ∷ []) sites n b
    ]

-- such a name
abbrev pub Named : List ℕ → List NameHome → Type 0
Named x names = (n : NameHome) × In n names × (n.name ≡ x)

here_name : (s : Survey) (t : ℕ) (x : List ℕ) (before : List Site) (b : Bool) (o : Option (List ℕ)) → b ≡ true → is_name x o ≡ true → (occurs variable x t before ≡ true) ⊎ Named x (if b then new_name s before t o else [])
here_name s t x before false o e i = cc
here_name s t x before true None e i = cc
here_name s t x before true (Some y) e i = go (occurs variable y t before) refl (same_text y x i)
  where
    go : (b : Bool) → occurs variable y t before ≡ b → y ≡ x → (occurs variable x t before ≡ true) ⊎ Named x (if occurs variable y t before then [] else ((record { name = y; home = home s y t }) ∷ []))
    go true h same = inl (subst (λ w. occurs variable w t before ≡ true) same h)
    go false h same = inr (record { name = y; home = home s y t }, subst (λ b. In {A = NameHome} (record { name = y; home = home s y t }) (if b then [] else ((record { name = y; home = home s y t }) ∷ []))) (sym h) (inl refl), same)

or_false : (b : Bool) → (b || false) ≡ b
or_false true = refl
or_false false = refl

found : (s : Survey) (t : ℕ) (x : List ℕ) (before sites : List Site) → occurs variable x t sites ≡ true → (occurs variable x t before ≡ true) ⊎ Named x (names_from s t before sites)
found s t x before [] h = cc
found s t x before (site ∷ sites) h =
    elim (or_cases ((site.place.scope == t) && is_name x (variable site.what)) (occurs variable x t sites) h) as (λ o. (occurs variable x t before ≡ true) ⊎ Named x (names_from s t before (site ∷ sites)))
    [ inl a ↦ first a | inr b ↦ later (found s t x (before ++ site ∷ []) sites b) ]
  where
    first : ((site.place.scope == t) && is_name x (variable site.what)) ≡ true → (occurs variable x t before ≡ true) ⊎ Named x (names_from s t before (site ∷ sites))
    first a =
        let p = and_parts (site.place.scope == t) (is_name x (variable site.what)) a in
        elim (here_name s t x before (site.place.scope == t) (variable site.what) p.0 p.1) as (λ o. (occurs variable x t before ≡ true) ⊎ Named x (names_from s t before (site ∷ sites)))
        [ inl e ↦ inl e | inr r ↦ inr (r.0, in_left r.0 (site_names s before t site) (names_from s t (before ++ site ∷ []) sites) r.1, r.2) ]

    later : ((occurs variable x t (before ++ site ∷ []) ≡ true) ⊎ Named x (names_from s t (before ++ site ∷ []) sites)) → (occurs variable x t before ≡ true) ⊎ Named x (names_from s t before (site ∷ sites))
    later (inr r) = inr (r.0, in_right r.0 (site_names s before t site) (names_from s t (before ++ site ∷ []) sites) r.1, r.2)
    later (inl e) =
        let hit = (site.place.scope == t) && is_name x (variable site.what) in
        let e2 : (occurs variable x t before || (hit || false)) ≡ true = sym (list_any-append (λ site. (site.place.scope == t) && is_name x (variable site.what)) before (site ∷ [])) ∙ e in
        elim (or_cases (occurs variable x t before) (hit || false) e2) as (λ o. (occurs variable x t before ≡ true) ⊎ Named x (names_from s t before (site ∷ sites)))
        [ inl a ↦ inl a | inr b ↦ first (sym (or_false hit) ∙ b) ]

pub home_among_is : (names : List NameHome) (x : List ℕ) (h : ℕ) → ((n : NameHome) → In n names → n.name ≡ x → n.home ≡ h) → Named x names → home_among names x ≡ h
home_among_is [] x h f n = absurd n.1
home_among_is (m ∷ names) x h f n = go (bytes_eq m.name x) refl n.1 (λ i. home_among_is names x h (λ k j. f k (inr j)) (n.0, i, n.2))
  where
    go : (b : Bool) → bytes_eq m.name x ≡ b → In n.0 (m ∷ names) → (In n.0 names → home_among names x ≡ h) → (if b then m.home else home_among names x) ≡ h
    go true e i rest = f m (inl refl) (same_text m.name x e)
    go false e (inl i) rest = let t : bytes_eq m.name x ≡ true = subst (λ w. bytes_eq m.name w ≡ true) (ap (λ k. k.name) i ∙ n.2) (text_same m.name) in cc
    go false e (inr i) rest = rest i

-- a name that stands in a scope is listed there, with its home
pub name_there : (s : Survey) (t : ℕ) (x : List ℕ) (sc : Scope) → slice_get s.scopes t ≡ Some sc → occurs variable x t s.sites ≡ true → Named x (names_at (scopes_of s) t)
name_there s t x sc e h =
    subst (λ o. Named x (names_in o)) (sym (scope_at s t sc e))
    (elim (found s t x [] s.sites h) as (λ o. Named x (names_from s t [] s.sites)) [ inl a ↦ cc | inr r ↦ r ])

-- and each name that is listed there has its home
pub name_home : (s : Survey) (t : ℕ) (n : NameHome) → In n (names_at (scopes_of s) t) → n.home ≡ home s n.name t
name_home s t n i = go (slice_get s.scopes t) refl
  where
    go : (o : Option Scope) → slice_get s.scopes t ≡ o → n.home ≡ home s n.name t
    go None e = absurd (subst (λ o. In n (names_in o)) (scope_none s t e) i)
    go (Some x) e = in_names s t [] s.sites n (subst (λ o. In n (names_in o)) (scope_at s t x e) i)

pub home_is : (s : Survey) (t : ℕ) (x : List ℕ) → Named x (names_at (scopes_of s) t) → home_among (names_at (scopes_of s) t) x ≡ home s x t
home_is s t x n = home_among_is (names_at (scopes_of s) t) x (home s x t) (λ m i e. name_home s t m i ∙ ap (λ w. home s w t) e) n

-- Homes

abbrev Decides : Survey → List ℕ → ℕ → Type 0
Decides s x t = (decided s x t ≡ Some 0) ⊎ (((decided s x t ≡ Some t) × (occurs bound x t s.sites ≡ true)) ⊎ (decided s x t ≡ None))

decided_cases : (s : Survey) (x : List ℕ) (t : ℕ) → Decides s x t
decided_cases s x t = go (occurs global x t s.sites) (binds s x t) refl refl
  where
    go : (g b : Bool) → occurs global x t s.sites ≡ g → binds s x t ≡ b → Decides s x t
    go true b e f = inl (subst (λ g. (if g then Some 0 else (if binds s x t then Some t else None)) ≡ Some 0) (sym e) refl)
    go false true e f = inr (inl (subst (λ g. (if g then Some 0 else (if binds s x t then Some t else None)) ≡ Some t) (sym e) (subst (λ b. (if b then Some t else None) ≡ Some t) (sym f) refl), (and_parts _ _ f).0))
    go false false e f = inr (inr (subst (λ g. (if g then Some 0 else (if binds s x t then Some t else None)) ≡ None) (sym e) (subst (λ b. (if b then Some t else None) ≡ None) (sym f) refl)))

-- the first scope that binds the name
abbrev First : Survey → List ℕ → List ℕ → Type 0
First s x xs = (h : ℕ) × (first_home s x xs ≡ h) × In h xs × (decided s x h ≡ Some h) × (occurs bound x h s.sites ≡ true)

first_cases : (s : Survey) (x : List ℕ) (xs : List ℕ) → (first_home s x xs ≡ 0) ⊎ First s x xs
first_cases s x [] = inl refl
first_cases s x (t ∷ ts) =
    elim (decided_cases s x t) as (λ o. (first_home s x (t ∷ ts) ≡ 0) ⊎ First s x (t ∷ ts)) [
      | inl e ↦ inl (ap (λ o. unwrap_or o (first_home s x ts)) e)
      | inr (inl e) ↦ inr (t, ap (λ o. unwrap_or o (first_home s x ts)) e.0, inl refl, e.0, e.1)
      | inr (inr e) ↦ later (ap (λ o. unwrap_or o (first_home s x ts)) e) (first_cases s x ts)
    ]
  where
    later : first_home s x (t ∷ ts) ≡ first_home s x ts → ((first_home s x ts ≡ 0) ⊎ First s x ts) → (first_home s x (t ∷ ts) ≡ 0) ⊎ First s x (t ∷ ts)
    later e (inl a) = inl (e ∙ a)
    later e (inr r) = inr (r.0, e ∙ r.1, inr r.2, r.3, r.4)

-- the home of a name is the module, or a scope around that binds it, other than a class, or the scope itself
abbrev pub Around : Survey → List ℕ → ℕ → Type 0
Around s x t = In (home s x t) (seen s t) × (decided s x (home s x t) ≡ Some (home s x t)) × (occurs bound x (home s x t) s.sites ≡ true)

pub home_cases : (s : Survey) (x : List ℕ) (t : ℕ) → (home s x t ≡ 0) ⊎ ((home s x t ≡ t) ⊎ Around s x t)
unfolding home
home_cases s x t =
    elim (first_cases s x (t ∷ seen s t)) as (λ o. (home s x t ≡ 0) ⊎ ((home s x t ≡ t) ⊎ Around s x t))
    [ inl e ↦ inl e | inr r ↦ inr (go r.0 r.1 r.2 r.3 r.4) ]
  where
    go : (h : ℕ) → first_home s x (t ∷ seen s t) ≡ h → In h (t ∷ seen s t) → decided s x h ≡ Some h → occurs bound x h s.sites ≡ true → (first_home s x (t ∷ seen s t) ≡ t)
        ⊎ (In (first_home s x (t ∷ seen s t)) (seen s t) × (decided s x (first_home s x (t ∷ seen s t)) ≡ Some (first_home s x (t ∷ seen s t))) × (occurs bound x (first_home s x (t ∷ seen s t)) s.sites ≡ true))
    go h e (inl i) d o = inl (e ∙ sym i)
    go h e (inr i) d o = inr (subst (λ k. In k (seen s t)) (sym e) i, subst (λ k. decided s x k ≡ Some k) (sym e) d, subst (λ k. occurs bound x k s.sites ≡ true) (sym e) o)

-- what binds a name there is home there
pub home_here : (s : Survey) (x : List ℕ) (t : ℕ) → decided s x t ≡ Some t → home s x t ≡ t
unfolding home
home_here s x t e = ap (λ o. unwrap_or o (first_home s x (seen s t))) e

bound_variable : (w : What) (x : List ℕ) → is_name x (bound w) ≡ true → is_name x (variable w) ≡ true
bound_variable (what.Binds y) x h = h
bound_variable (what.Parameter y) x h = h
bound_variable (what.Uses y) x h = cc
bound_variable (what.Global y) x h = cc
bound_variable (what.Nonlocal y) x h = cc
bound_variable (what.Attribute y) x h = cc
bound_variable what.Arguments x h = cc
bound_variable (what.Keyword n y) x h = cc
bound_variable what.Break x h = cc
bound_variable what.Return x h = cc
bound_variable what.Yield x h = cc
bound_variable what.Reraise x h = cc
bound_variable what.Misplaced x h = cc

-- what is bound stands there
pub bound_occurs : (x : List ℕ) (t : ℕ) (sites : List Site) → occurs bound x t sites ≡ true → occurs variable x t sites ≡ true
bound_occurs x t [] h = cc
bound_occurs x t (site ∷ sites) h =
    elim (or_cases ((site.place.scope == t) && is_name x (bound site.what)) (occurs bound x t sites) h) as (λ o. occurs variable x t (site ∷ sites) ≡ true) [
      | inl a ↦ (let p = and_parts (site.place.scope == t) (is_name x (bound site.what)) a in or_left _ (occurs variable x t sites) (and_from (site.place.scope == t) (is_name x (variable site.what)) p.0 (bound_variable site.what x p.1)))
      | inr b ↦ or_right _ (occurs variable x t sites) (bound_occurs x t sites b)
    ]

-- Scopes inside scopes

pub data Inside (s : Survey) (a : ℕ) : ℕ → Type 0 where
  itself : {b : ℕ} → b ≡ a → Inside s a b
  further : {b : ℕ} → 0 < b → Inside s a (enclosing s b) → Inside s a b

abbrev pub Falls : Survey → Type 0
Falls s = (n : ℕ) → 0 < n → enclosing s n < n

pub inside_below : (s : Survey) (a : ℕ) → Falls s → {b : ℕ} → Inside s a b → a ≤ b
inside_below s a falls (itself e) = omega (arith, e)
inside_below s a falls {b} (further p i) = omega (arith, falls b p, inside_below s a falls i)

-- of two scopes around a scope the outer is around the inner
pub in_line : (s : Survey) (h a : ℕ) → Falls s → {b : ℕ} → Inside s h b → Inside s a b → h < a → Inside s h a
in_line s h a falls i (itself e) l = subst (λ k. Inside s h k) e i
in_line s h a falls {b} (itself e) (further p j) l = absurd (omega (arith, e, l, falls b p, inside_below s a falls j))
in_line s h a falls (further p i) (further q j) l = in_line s h a falls i j l

pub one_out : (s : Survey) (h b : ℕ) → Inside s h b → h < b → Inside s h (enclosing s b)
one_out s h b (itself e) l = absurd (omega (arith, e, l))
one_out s h b (further p i) l = i

pub one_more : (s : Survey) (a : ℕ) → 0 < a → {b : ℕ} → Inside s a b → Inside s (enclosing s a) b
one_more s a p {b} (itself e) = further (omega (arith, e, p)) (itself (ap (enclosing s) e))
one_more s a p (further q i) = further q (one_more s a p i)

positive : (b : ℕ) → not (b == 0) ≡ true → 0 < b
positive b h = go b (eqb-false b 0 (not-true (b == 0) h))
  where
    go : (b : ℕ) → (b ≡ 0 → ⊥) → 0 < b
    go zero f = absurd (f refl)
    go (suc b) f = omega arith

pub from_test : (s : Survey) (n a b : ℕ) → is_inside_within n (scopes_of s) a b ≡ true → Inside s a b
from_test s zero a b h = itself (sym (eqb-true a b h))
from_test s (suc n) a b h =
    elim (or_cases (a == b) (not (b == 0) && is_inside_within n (scopes_of s) a (around (slice_get (scopes_of s) b))) h) as (λ o. Inside s a b) [
      | inl e ↦ itself (sym (eqb-true a b e))
      | inr r ↦ (let p = and_parts (not (b == 0)) (is_inside_within n (scopes_of s) a (around (slice_get (scopes_of s) b))) r in
          further (positive b p.0) (subst (λ k. Inside s a k) (around_same s b) (from_test s n a (around (slice_get (scopes_of s) b)) p.1)))
    ]

pub to_test : (s : Survey) (n a : ℕ) → Falls s → {b : ℕ} → Inside s a b → b ≤ n → is_inside_within n (scopes_of s) a b ≡ true
to_test s zero a falls {b} (itself e) l = eq-eqb a b (sym e)
to_test s zero a falls (further p i) l = absurd (omega (arith, p, l))
to_test s (suc n) a falls {b} (itself e) l = or_left (a == b) _ (eq-eqb a b (sym e))
to_test s (suc n) a falls {b} (further p i) l =
    or_right (a == b) _ (and_from (not (b == 0)) _ (ap not (ne_eqb b 0 (λ e. absurd (omega (arith, e, p)))))
    (subst (λ k. is_inside_within n (scopes_of s) a k ≡ true) (sym (around_same s b)) (to_test s n a falls i (omega (arith, l, falls b p)))))

chain_inside : (s : Survey) (n h t : ℕ) → In h (around_within s n t) → Inside s h t
chain_inside s zero h t i = absurd i
chain_inside s (suc n) h t i = go (t == 0) refl i (chain_inside s n h (enclosing s t))
  where
    go : (b : Bool) → (t == 0) ≡ b → In h (if b then [] else (enclosing s t ∷ around_within s n (enclosing s t))) → (In h (around_within s n (enclosing s t)) → Inside s h (enclosing s t)) → Inside s h t
    go true e j rest = absurd j
    go false e (inl j) rest = further (positive t (ap not e)) (itself j)
    go false e (inr j) rest = further (positive t (ap not e)) (rest j)

-- a scope that is seen from inside lies around, and is no class
pub seen_around : (s : Survey) (h t : ℕ) → In h (seen s t) → Inside s h t × (homes.is_class s h ≡ false)
seen_around s h t i =
    let r = in_filtered (λ at. not (homes.is_class s at)) h (around_within s (length s.scopes) t) i in
    (chain_inside s (length s.scopes) h t r.0, not-true (homes.is_class s h) r.1)

-- Names of several scopes

pub where_in : (test : ℕ → Bool) (k m : ℕ) (xs : List Scope) (i : ℕ) (n : NameHome) → k + i ≡ m → In n (names_in (slice_get xs i)) → test m ≡ true → In n (names_where test k xs)
where_in test k m [] i n l h t = absurd h
where_in test k m (x ∷ xs) zero n l h t =
    let number : m ≡ k = omega (arith, l) in
    in_left n (if test k then x.names else []) (names_where test (k + 1) xs) (subst (λ b. In n (if b then x.names else [])) (sym t ∙ ap test number) h)
where_in test k m (x ∷ xs) (suc i) n l h t = in_right n (if test k then x.names else []) (names_where test (k + 1) xs) (where_in test (k + 1) m xs i n (omega (arith, l)) h t)

pub where_from : (test : ℕ → Bool) (k : ℕ) (xs : List Scope) (n : NameHome) → In n (names_where test k xs) → (i m : ℕ) × (k + i ≡ m) × In n (names_in (slice_get xs i)) × (test m ≡ true)
where_from test k [] n h = absurd h
where_from test k (x ∷ xs) n h =
    elim (in_either n (if test k then x.names else []) (names_where test (k + 1) xs) h) as (λ o. (i m : ℕ) × (k + i ≡ m) × In n (names_in (slice_get (x ∷ xs) i)) × (test m ≡ true)) [
      | inl a ↦ go (test k) refl a
      | inr b ↦ (let r = where_from test (k + 1) xs n b in (suc r.0, r.1, omega (arith, r.2), r.3, r.4))
    ]
  where
    go : (b : Bool) → test k ≡ b → In n (if b then x.names else []) → (i m : ℕ) × (k + i ≡ m) × In n (names_in (slice_get (x ∷ xs) i)) × (test m ≡ true)
    go true e a = (0, k, omega arith, a, e)
    go false e a = absurd a
