-- One step of the walk outward.
use Rattle.std.proofs.Common.{◌≡◌, ℕ, suc, ◌+◌, ◌-◌, ◌<◌, ◌==◌, Bool, true, false, not, cond, List, [], ◌∷◌, None, refl, ap, ◌∙◌, arith}
use Rattle.std.specs.Prelude.{unwrap_or}
use Rattle.std.specs.List.{filter}
use Rattle.py_scopes.specs.declared.survey.Survey.{Survey}
use Rattle.py_scopes.specs.Homes.{first_home, seen_within, around_within, enclosing, is_class, decided, decided_inside}

by_class : (survey : Survey) (x : List ℕ) (e : ℕ) (rest : List ℕ) (b : Bool)
    → first_home survey x (cond (not b) (e ∷ rest) rest) ≡ unwrap_or (cond b None (decided survey x e)) (first_home survey x rest)
by_class survey x e rest true = refl
by_class survey x e rest false = refl

one_more : (survey : Survey) (x : List ℕ) (n at : ℕ) → (at == 0) ≡ false
    → first_home survey x (seen_within survey (suc n) at) ≡ unwrap_or (decided_inside survey x (enclosing survey at)) (first_home survey x (seen_within survey n (enclosing survey at)))
one_more survey x n at h =
    ap (λ b. first_home survey x (filter (λ at. not (is_class survey at)) (cond b [] (enclosing survey at ∷ around_within survey n (enclosing survey at))))) h
    ∙ by_class survey x (enclosing survey at) (seen_within survey n (enclosing survey at)) (is_class survey (enclosing survey at))

pub step : (survey : Survey) (x : List ℕ) (end turn at : ℕ) → turn < end → (at == 0) ≡ false
    → first_home survey x (seen_within survey (end - turn) at) ≡ unwrap_or (decided_inside survey x (enclosing survey at)) (first_home survey x (seen_within survey (end - (turn + 1)) (enclosing survey at)))
step survey x end turn at less h =
    let e : end - turn ≡ suc (end - (turn + 1)) = omega (arith, less) in
    ap (λ n. first_home survey x (seen_within survey n at)) e ∙ one_more survey x (end - (turn + 1)) at h
