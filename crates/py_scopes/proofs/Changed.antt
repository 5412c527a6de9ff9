-- A change at one number of a list of scopes.
use Rattle.std.proofs.Common.{◌≡◌, ◌==◌, ◌<◌, ◌≤◌, ◌+◌, ℕ, zero, suc, true, false, cond, List, [], ◌∷◌, refl, ap, ◌∙◌, sym, length, set, get_or, arith}
use Rattle.std.proofs.lemmas.Bool.Decides.{nat_tests}
use Rattle.py_ast.specs.declared.scoped.Scope.{Scope}
use Rattle.py_scopes.specs.Filling.{changed}

same : (n : ℕ) → (n == n) ≡ true
same n = grind (arith, nat_tests)

other : (m n : ℕ) → m < n → (m == n) ≡ false
other m n l = grind (arith, nat_tests)

-- a number before the list
before : (f : Scope → Scope) (at k : ℕ) (xs : List Scope) → at < k → changed f at k xs ≡ xs
before f at k [] l = refl
before f at k (x ∷ xs) l =
    ap (λ b. cond b (f x) x ∷ changed f at (suc k) xs) (other at k l) ∙ ap (λ ys. x ∷ ys) (before f at (suc k) xs (omega (arith, l)))

-- a number behind it
behind : (f : Scope → Scope) (at k : ℕ) (xs : List Scope) → length xs ≤ at → changed f (k + at) k xs ≡ xs
behind f at k [] l = refl
behind f zero k (x ∷ xs) l = absurd (omega (arith, l))
behind f (suc at) k (x ∷ xs) l =
    let differs : (k + suc at == k) ≡ false = grind (arith, nat_tests) in
    let moved : k + suc at ≡ suc k + at = omega arith in
    let rest : length xs ≤ at = omega (arith, l) in
    ap (λ b. cond b (f x) x ∷ changed f (k + suc at) (suc k) xs) differs
    ∙ ap (λ n. x ∷ changed f n (suc k) xs) moved ∙ ap (λ ys. x ∷ ys) (behind f at (suc k) xs rest)

within : (f : Scope → Scope) (at k : ℕ) (xs : List Scope) (d : Scope) → at < length xs → set xs at (f (get_or xs at d)) ≡ changed f (k + at) k xs
within f at k [] d l = absurd (omega (arith, l))
within f zero k (x ∷ xs) d l =
    let here : (k + zero == k) ≡ true = grind (arith, nat_tests) in
    let less : k + zero < suc k = omega arith in
    sym (ap (λ b. cond b (f x) x ∷ changed f (k + zero) (suc k) xs) here ∙ ap (λ ys. f x ∷ ys) (before f (k + zero) (suc k) xs less))
within f (suc at) k (x ∷ xs) d l =
    let differs : (k + suc at == k) ≡ false = grind (arith, nat_tests) in
    let moved : k + suc at ≡ suc k + at = omega arith in
    let rest : at < length xs = omega (arith, l) in
    ap (λ ys. x ∷ ys) (within f at (suc k) xs d rest)
    ∙ sym (ap (λ b. cond b (f x) x ∷ changed f (k + suc at) (suc k) xs) differs ∙ ap (λ n. x ∷ changed f n (suc k) xs) moved)

pub changed_at : (f : Scope → Scope) (at : ℕ) (xs : List Scope) (x y : Scope) → at < length xs → x ≡ get_or xs at x → y ≡ f x → set xs at y ≡ changed f at 0 xs
changed_at f at xs x y l e h =
    let start : 0 + at ≡ at = omega arith in
    ap (set xs at) (h ∙ ap f e) ∙ within f at 0 xs x l ∙ ap (λ n. changed f n 0 xs) start

pub changed_behind : (f : Scope → Scope) (at : ℕ) (xs : List Scope) → length xs ≤ at → xs ≡ changed f at 0 xs
changed_behind f at xs l =
    let start : 0 + at ≡ at = omega arith in
    sym (behind f at 0 xs l) ∙ ap (λ n. changed f n 0 xs) start
