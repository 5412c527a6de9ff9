-- The temporaries of names.
use Rattle.std.proofs.Common.{◌≡◌, ℕ, suc, ◌+◌, ◌<◌, ◌≤◌, Bool, true, false, ◌||◌, cond, List, [], ◌∷◌, ◌++◌, length, Option, Some, None, refl, sym, ap, ◌∙◌, arith, length-append}
use Rattle.std.specs.Prelude.{nat_lt}
use Rattle.std.specs.Str.{bytes_eq}
use Rattle.std.proofs.lemmas.Bool.Decides.{nat_tests}
use Rattle.py_ast.specs.declared.scoped.Scope.{Scope}
use Rattle.py_meaning.specs.Scopes.{has, place_in, parameter_of, free_names, own_names, local_names}
use Rattle.py_meaning.specs.Resolved.{Context}
use Rattle.carries_base.specs.Frames.{behind, local_at, free_at, own_at}
use Rattle.walk_laws.specs.Contexts.{homes_in}
use Rattle.reform_homes.specs.Standing.{Stands, other_names}
use Rattle.reform_homes.proofs.Places.{no_true, or_parts, eq_sym}

pub place_within : (names : List (List ℕ)) (x : List ℕ) → place_in names x ≤ length names
place_within [] x = omega arith
place_within (y ∷ names) x = by (bytes_eq y x) (place_within names x)
  where
    by : (b : Bool) → place_in names x ≤ length names → cond b 0 (place_in names x + 1) ≤ suc (length names)
    by true l = omega arith
    by false l = omega (arith, l)

pub place_there : (names : List (List ℕ)) (x : List ℕ) → has names x ≡ true → place_in names x < length names
place_there [] x h = no_true h
place_there (y ∷ names) x h = by (bytes_eq y x) refl (place_there names x)
  where
    by : (b : Bool) → bytes_eq y x ≡ b → (has names x ≡ true → place_in names x < length names) → cond b 0 (place_in names x + 1) < suc (length names)
    by true e rest = omega arith
    by false e rest = let l : place_in names x < length names = rest (sym (ap (λ b. b || has names x) (eq_sym x y ∙ e)) ∙ h) in omega (arith, l)

place_first : (xs ys : List (List ℕ)) (x : List ℕ) → has xs x ≡ true → place_in (xs ++ ys) x ≡ place_in xs x
place_first [] ys x h = no_true h
place_first (y ∷ xs) ys x h = by (bytes_eq y x) refl (place_first xs ys x)
  where
    by : (b : Bool) → bytes_eq y x ≡ b → (has xs x ≡ true → place_in (xs ++ ys) x ≡ place_in xs x) → cond b 0 (place_in (xs ++ ys) x + 1) ≡ cond b 0 (place_in xs x + 1)
    by true e rest = refl
    by false e rest = ap (λ k. k + 1) (rest (sym (ap (λ b. b || has xs x) (eq_sym x y ∙ e)) ∙ h))

place_second : (xs ys : List (List ℕ)) (x : List ℕ) → has xs x ≡ false → place_in (xs ++ ys) x ≡ length xs + place_in ys x
place_second [] ys x h = omega arith
place_second (y ∷ xs) ys x h =
    let parts = or_parts (bytes_eq x y) (has xs x) h in
    let first : place_in (y ∷ (xs ++ ys)) x ≡ place_in (xs ++ ys) x + 1 = ap (λ b. cond b 0 (place_in (xs ++ ys) x + 1)) (eq_sym y x ∙ parts.0) in
    let rest : place_in (xs ++ ys) x ≡ length xs + place_in ys x = place_second xs ys x parts.1 in
    first ∙ omega (arith, rest)

found : (b : Bool) (k n : ℕ) → Some k ≡ cond b (Some n) None → (b ≡ true) × (k ≡ n)
found true k n h = (refl, cc h)
found false k n h = cc h

missing : (b : Bool) (n : ℕ) → ◌≡◌ {A = Option ℕ} None (cond b (Some n) None) → b ≡ false
missing true n h = cc h
missing false n h = refl

below : (k n m : ℕ) → k < n → cond (nat_lt k n) k (m + k) ≡ k
below k n m l = let t : nat_lt k n ≡ true = grind (arith, nat_tests) in ap (λ b. cond b k (m + k)) t

not_below : (k n m : ℕ) → n ≤ k → cond (nat_lt k n) k (m + k) ≡ m + k
not_below k n m l = let t : nat_lt k n ≡ false = grind (arith, nat_tests) in ap (λ b. cond b k (m + k)) t

local_param : (params others : List (List ℕ)) (x : List ℕ) (k m : ℕ) → Some k ≡ parameter_of params x
    → k ≡ cond (nat_lt (place_in (params ++ others) x) (length params)) (place_in (params ++ others) x) (m + place_in (params ++ others) x)
local_param params others x k m h =
    let f = found (has params x) k (place_in params x) h in
    f.1 ∙ sym (ap (λ p. cond (nat_lt p (length params)) p (m + p)) (place_first params others x f.0) ∙ below (place_in params x) (length params) m (place_there params x f.0))

local_other : (params others : List (List ℕ)) (x : List ℕ) (m : ℕ) → None ≡ parameter_of params x
    → m + (length params + place_in others x) ≡ cond (nat_lt (place_in (params ++ others) x) (length params)) (place_in (params ++ others) x) (m + place_in (params ++ others) x)
local_other params others x m h =
    sym (ap (λ p. cond (nat_lt p (length params)) p (m + p)) (place_second params others x (missing (has params x) (place_in params x) h))
    ∙ not_below (length params + place_in others x) (length params) m (omega arith))

abbrev pub in_scope : List Scope → ℕ → List (List ℕ) → Option (List ℕ) → ℕ → Context
in_scope scopes this params class first = record { scopes = scopes; this = this; parameters = params; class = class; first = first }

pub free_is : (scopes : List Scope) (this : ℕ) (scope : Scope) (captured free params own others : List (List ℕ)) (homes : List (List ℕ × ℕ)) (class : Option (List ℕ)) (first : ℕ) (x : List ℕ)
    → Stands scopes this scope captured free params own others homes
    → length params + place_in free x ≡ free_at (homes_in (in_scope scopes this params class first)) (place_in (free_names scopes this) x)
free_is scopes this scope captured free params own others homes class first x s = ap (λ names. length params + place_in names x) s.free

pub own_is : (scopes : List Scope) (this : ℕ) (scope : Scope) (captured free params own others : List (List ℕ)) (homes : List (List ℕ × ℕ)) (class : Option (List ℕ)) (first : ℕ) (x : List ℕ)
    → Stands scopes this scope captured free params own others homes
    → length params + length free + place_in own x ≡ own_at (homes_in (in_scope scopes this params class first)) (place_in (own_names scopes this) x)
own_is scopes this scope captured free params own others homes class first x s =
    ap (λ names. length params + length names + place_in own x) s.free ∙ ap (λ names. length params + length (free_names scopes this) + place_in names x) s.own

counts : (scopes : List Scope) (this : ℕ) (scope : Scope) (captured free params own others : List (List ℕ)) (homes : List (List ℕ × ℕ))
    → Stands scopes this scope captured free params own others homes → length free + length own ≡ length (free_names scopes this) + length (own_names scopes this)
counts scopes this scope captured free params own others homes s = ap (λ names. length names + length own) s.free ∙ ap (λ names. length (free_names scopes this) + length names) s.own

pub param_is : (scopes : List Scope) (this : ℕ) (scope : Scope) (captured free params own others : List (List ℕ)) (homes : List (List ℕ × ℕ)) (class : Option (List ℕ)) (first : ℕ) (x : List ℕ) (k : ℕ)
    → Stands scopes this scope captured free params own others homes → Some k ≡ parameter_of params x
    → k ≡ local_at (homes_in (in_scope scopes this params class first)) (place_in (local_names scopes this params) x)
param_is scopes this scope captured free params own others homes class first x k s h =
    local_param params (other_names scopes this params) x k (length (free_names scopes this) + length (own_names scopes this)) h

pub other_is : (scopes : List Scope) (this : ℕ) (scope : Scope) (captured free params own others : List (List ℕ)) (homes : List (List ℕ × ℕ)) (class : Option (List ℕ)) (first : ℕ) (x : List ℕ)
    → Stands scopes this scope captured free params own others homes → None ≡ parameter_of params x
    → length free + length own + length params + place_in others x ≡ local_at (homes_in (in_scope scopes this params class first)) (place_in (local_names scopes this params) x)
other_is scopes this scope captured free params own others homes class first x s h =
    let sum : length free + length own + length params + place_in others x ≡ (length free + length own) + (length params + place_in others x) = omega arith in
    sum
    ∙ ap (λ k. k + (length params + place_in others x)) (counts scopes this scope captured free params own others homes s)
    ∙ ap (λ names. (length (free_names scopes this) + length (own_names scopes this)) + (length params + place_in names x)) s.others
    ∙ local_other params (other_names scopes this params) x (length (free_names scopes this) + length (own_names scopes this)) h

pub behind_is : (scopes : List Scope) (this : ℕ) (scope : Scope) (captured free params own others : List (List ℕ)) (homes : List (List ℕ × ℕ)) (class : Option (List ℕ)) (first : ℕ)
    → Stands scopes this scope captured free params own others homes
    → length free + length own + length params + length others ≡ behind (homes_in (in_scope scopes this params class first))
behind_is scopes this scope captured free params own others homes class first s =
    let sum : length free + length own + length params + length others ≡ (length free + length own) + (length params + length others) = omega arith in
    sum
    ∙ ap (λ k. k + (length params + length others)) (counts scopes this scope captured free params own others homes s)
    ∙ ap (λ names. (length (free_names scopes this) + length (own_names scopes this)) + (length params + length names)) s.others
    ∙ ap (λ k. (length (free_names scopes this) + length (own_names scopes this)) + k) (sym (length-append params (other_names scopes this params)))

pub space_some : (scopes : List Scope) (this : ℕ) (params : List (List ℕ)) (class : Option (List ℕ)) (first : ℕ) → 0 < length params
    → 0 ≡ local_at (homes_in (in_scope scopes this params class first)) 0
space_some scopes this params class first l = sym (below 0 (length params) (length (free_names scopes this) + length (own_names scopes this)) l)

pub space_none : (scopes : List Scope) (this : ℕ) (scope : Scope) (captured free params own others : List (List ℕ)) (homes : List (List ℕ × ℕ)) (class : Option (List ℕ)) (first : ℕ)
    → Stands scopes this scope captured free params own others homes → length params ≤ 0
    → length free + length own ≡ local_at (homes_in (in_scope scopes this params class first)) 0
space_none scopes this scope captured free params own others homes class first s l =
    let none : (length (free_names scopes this) + length (own_names scopes this)) + 0 ≡ length (free_names scopes this) + length (own_names scopes this) = omega arith in
    counts scopes this scope captured free params own others homes s
    ∙ sym (not_below 0 (length params) (length (free_names scopes this) + length (own_names scopes this)) l ∙ none)
