-- What sets of names with their scopes say of sites. No public contract rests on these.
use Rattle.std.specs.Prelude.{ℕ, List, Bool, Option, true, cond, ◌==◌, ◌&&◌, ◌||◌, ◌≡◌}
use Rattle.std.specs.Borrow.{Bor}
use Rattle.std.specs.Str.{bytes_eq}
use Rattle.std.specs.List.{list_any}
use Rattle.py_scopes.specs.declared.seen.Seen.{Seen}
use Rattle.py_scopes.specs.declared.survey.Site.{Site}
use Rattle.py_scopes.specs.declared.survey.What.{What}
use Rattle.py_scopes.specs.Homes.{bound, standing, global, nonlocal, is_name, occurs}

-- the set has the name with the scope
abbrev pub has : List (ℕ × Bor (List ℕ)) → ℕ → List ℕ → Bool
has keys scope x = list_any (λ key. (scope == key.0) && bytes_eq x key.1.now) keys

-- the set gained the name with the scope
abbrev pub Adds : List (ℕ × Bor (List ℕ)) → List (ℕ × Bor (List ℕ)) → ℕ → List ℕ → Type 0
Adds old new scope name =
    (s : ℕ) (x : List ℕ) → has new s x ≡ cond ((scope == s) && bytes_eq name x) true (has old s x)

-- the set has the names that occur so at these sites
abbrev pub Lists : List (ℕ × Bor (List ℕ)) → (What → Option (List ℕ)) → List Site → Type 0
Lists keys so sites = (scope : ℕ) (x : List ℕ) → has keys scope x ≡ occurs so x scope sites

pub record Sees (seen : Seen) (sites : List Site) : Type 0 where
  pub bound : Lists seen.bound.keys bound sites
  pub standing : Lists seen.standing.keys standing sites
  pub global : Lists seen.global.keys global sites
  pub nonlocal : Lists seen.nonlocal.keys nonlocal sites

-- the set gained the name that occurs so at the site, if there is one
abbrev pub Gains : List (ℕ × Bor (List ℕ)) → List (ℕ × Bor (List ℕ)) → (What → Option (List ℕ)) → Site → Type 0
Gains old new so site =
    (s : ℕ) (x : List ℕ) → has new s x ≡ (has old s x || ((site.place.scope == s) && is_name x (so site.what)))

pub record Notes (old new : Seen) (site : Site) : Type 0 where
  pub bound : Gains old.bound.keys new.bound.keys bound site
  pub standing : Gains old.standing.keys new.standing.keys standing site
  pub global : Gains old.global.keys new.global.keys global site
  pub nonlocal : Gains old.nonlocal.keys new.nonlocal.keys nonlocal site
