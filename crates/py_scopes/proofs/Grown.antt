-- What keeps the scopes of a survey nested.
use Rattle.std.proofs.Common.{◌≡◌, ℕ, zero, suc, ◌+◌, ◌<◌, Bool, true, false, List, [], ◌∷◌, ◌++◌, length, Some, sym, subst, arith}
use Rattle.std.specs.Prelude.{slice_get}
use Rattle.std.proofs.lemmas.List.{length-append}
use Rattle.py_ast.specs.declared.scoped.Scope.{Scope}
use Rattle.py_ast.specs.declared.scoped.ScopeKind.{ScopeKind}
use Rattle.py_scopes.specs.declared.survey.Role.{Role}
use Rattle.py_scopes.specs.declared.survey.What.{What}
use Rattle.py_scopes.specs.declared.survey.What.TheVariants as what
use Rattle.py_scopes.specs.declared.survey.Place.{Place}
use Rattle.py_scopes.specs.declared.survey.Site.{Site}
use Rattle.py_scopes.specs.declared.survey.Survey.{Survey}
use Rattle.py_scopes.specs.Survey.{Adds, Part, site, enter, inside, is_generator_kind, name, misplaced_if}
use Rattle.py_scopes.specs.Resolve.{filled}
use Rattle.py_scopes.specs.Nested.{Nest}

-- these scopes, from this number on, stand in scopes of lower numbers
abbrev pub NestFrom : ℕ → List Scope → Type 0
NestFrom n [] = Unit {0}
NestFrom n (x ∷ xs) = (0 < n → x.enclosing < n) × NestFrom (suc n) xs

one_more : (n : ℕ) (xs : List Scope) (x : Scope) → NestFrom n xs → x.enclosing < n + length xs → NestFrom n (xs ++ x ∷ [])
one_more n [] x a h = (λ p. omega (arith, h), tt)
one_more n (y ∷ ys) x a h = (a.0, one_more (suc n) ys x a.1 (omega (arith, h)))

pub filled_nest : (survey : Survey) (sites : List Site) (n k : ℕ) (xs : List Scope) → NestFrom n xs → NestFrom n (filled survey sites k xs)
filled_nest survey sites n k [] a = a
filled_nest survey sites n k (x ∷ xs) a = (a.0, filled_nest survey sites (suc n) (suc k) xs a.1)

nest_at : (n : ℕ) (xs : List Scope) (at : ℕ) (x : Scope) → NestFrom n xs → 0 < n + at → slice_get xs at ≡ Some x → x.enclosing < n + at
nest_at n [] at x a p e = cc
nest_at n (y ∷ ys) zero x a p e = let same : y ≡ x = cc in subst (λ z. z.enclosing < n + 0) same (omega (arith, a.0 (omega arith)))
nest_at n (y ∷ ys) (suc at) x a p e = omega (arith, nest_at (suc n) ys at x a.1 (omega arith) e)

pub nest : (xs : List Scope) → NestFrom 0 xs → Nest xs
nest xs a at x p e = omega (arith, nest_at 0 xs at x a (omega (arith, p)) e)

-- a survey whose scopes nest, with a scope of this number
pub record Fits (n : ℕ) (s : Survey) : Type 0 where
  pub below : n < length s.scopes
  pub nested : NestFrom 0 s.scopes

-- a part that keeps scopes nested, and all that are there
pub record Keeps (f : Adds) : Type 0 where
  pub keeps : (n : ℕ) (place : Place) (s : Survey) → Fits place.scope s → Fits n s → Fits n (f place s)

abbrev pub KeepsPart : Part → Type 0
KeepsPart part = (wanted : Role) → Keeps (part wanted)

-- the same of what stands partly in a scope of its own, partly around it
pub record KeepsIn (f : Place → Adds) : Type 0 where
  pub keeps : (n : ℕ) (own place : Place) (s : Survey) → Fits own.scope s → Fits place.scope s → Fits n s → Fits n (f own place s)

pub nothing : Keeps (λ place s. s)
nothing = record { keeps = λ n place s h i. i }

pub both : {f g : Adds} → Keeps f → Keeps g → Keeps (λ place s. g place (f place s))
both a b = record { keeps = λ n place s h i. b.keeps n place _ (a.keeps place.scope place s h h) (a.keeps n place s h i) }

pub both_in : {f g : Place → Adds} → KeepsIn f → KeepsIn g → KeepsIn (λ own place s. g own place (f own place s))
both_in a b = record { keeps = λ n own place s o h i. b.keeps n own place _ (a.keeps own.scope own place s o h o) (a.keeps place.scope own place s o h h) (a.keeps n own place s o h i) }

pub inner : {f : Adds} → Keeps f → KeepsIn (λ own place s. f own s)
inner a = record { keeps = λ n own place s o h i. a.keeps n own s o i }

pub outer : {f : Adds} → Keeps f → KeepsIn (λ own place s. f place s)
outer a = record { keeps = λ n own place s o h i. a.keeps n place s h i }

pub within : (move : Place → Place) → ((place : Place) → (move place).scope ≡ place.scope) → {f : Adds} → Keeps f → Keeps (λ place s. f (move place) s)
within move same a = record { keeps = λ n place s h i. a.keeps n (move place) s (subst (λ k. Fits k s) (sym (same place)) h) i }

pub at_site : (line : ℕ) (w : What) → Keeps (site line w)
unfolding site
at_site line w = record { keeps = λ n place s h i. record { below = i.below; nested = i.nested } }

pub at_name : (line : ℕ) (w : List ℕ → What) (x : List ℕ) → Keeps (name line w x)
at_name line w x = record { keeps = λ n place s h i. (at_site line (w _)).keeps n place s h i }

pub at_wrong : (wrong : Bool) (line : ℕ) → Keeps (misplaced_if wrong line)
at_wrong true line = record { keeps = λ n place s h i. (at_site line what.Misplaced).keeps n place s h i }
at_wrong false line = record { keeps = λ n place s h i. i }

longer : (xs : List Scope) (x : Scope) (n : ℕ) → NestFrom 0 xs → x.enclosing < length xs → n < length xs + 1 → (n < length (xs ++ x ∷ [])) × NestFrom 0 (xs ++ x ∷ [])
longer xs x n a h below = (omega (arith, below, length-append xs (x ∷ [])), one_more 0 xs x a (omega (arith, h)))

entered : (line : ℕ) (kind : ScopeKind) (title : List ℕ) (place : Place) (s : Survey) (n : ℕ) → Fits place.scope s → n < length s.scopes + 1 → Fits n (enter line kind title place s)
unfolding enter
entered line kind title place s n h below =
    let x : Scope = record { kind = kind; name = title; line = line; enclosing = place.scope; is_generator = is_generator_kind kind; names = [] } in
    let more = longer s.scopes x n h.nested h.below below in
    record { below = more.0; nested = more.1 }

-- a scope of its own
pub at_scope : (line : ℕ) (kind : ScopeKind) (title : List ℕ) → {f : Place → Adds} → KeepsIn f → Keeps (λ place s. f (inside kind place s) place (enter line kind title place s))
at_scope line kind title a = record {
  keeps = λ n place s h i.
      a.keeps n (inside kind place s) place (enter line kind title place s) (entered line kind title place s (length s.scopes) h (omega arith)) (entered line kind title place s place.scope h (omega (arith, h.below)))
      (entered line kind title place s n h (omega (arith, i.below)));
}
