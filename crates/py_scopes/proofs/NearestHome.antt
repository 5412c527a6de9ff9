-- The walk outward finds the nearest scope that decides.
use Rattle.std.proofs.Common.{◌≡◌, ℕ, ◌&&◌, List, [], ◌∷◌, Option, Some, None, ◌⊎◌, inl, inr, refl, ap, ◌∙◌}
use Rattle.std.specs.Prelude.{unwrap_or, is_none}
use Rattle.std.specs.List.{list_all}
use Rattle.py_scopes.specs.declared.survey.Survey.{Survey}
use Rattle.py_scopes.specs.Homes.{decided, first_home, seen, home}
use Rattle.py_scopes.specs.Nearest.{IsUndecided, IsNearest, HasNearestHome}

abbrev Found : Survey → List ℕ → List ℕ → ℕ → Type 0
Found survey x scopes h = IsNearest survey x scopes h ⊎ (IsUndecided survey x scopes × (h ≡ 0))

nearest : (survey : Survey) (x : List ℕ) (scopes : List ℕ) → Found survey x scopes (first_home survey x scopes)
nearest survey x [] = inr (refl, refl)
nearest survey x (scope ∷ scopes) = go (decided survey x scope) refl (nearest survey x scopes)
  where
    go : (o : Option ℕ) → decided survey x scope ≡ o → Found survey x scopes (first_home survey x scopes) → Found survey x (scope ∷ scopes) (unwrap_or o (first_home survey x scopes))
    go (Some h) e found = inl (record { before = []; scope = scope; after = scopes; cut = refl; undecided = refl; decides = e })
    go None e (inl n) = inl (record { before = scope ∷ n.before; scope = n.scope; after = n.after; cut = ap (λ s. scope ∷ s) n.cut; undecided = ap (λ o. is_none o && list_all (λ s. is_none (decided survey x s)) n.before) e ∙ n.undecided; decides = n.decides })
    go None e (inr u) = inr (ap (λ o. is_none o && list_all (λ s. is_none (decided survey x s)) scopes) e ∙ u.0, u.1)

pub has_nearest_home : HasNearestHome
unfolding home
has_nearest_home survey x scope = nearest survey x (scope ∷ seen survey scope)
