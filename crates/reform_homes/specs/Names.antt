-- Lists of names with numbers for the places of names.
use Rattle.std.specs.Prelude.{◌≡◌, ℕ, List, [], ◌∷◌, ◌++◌, Option, Some, cond, is_some, if◌then◌else◌}
use Rattle.std.specs.Map.{lookup}
use Rattle.std.specs.Str.{bytes_eq}
use Rattle.py_meaning.specs.Scopes.{has, parameter_of}

-- the number of a name
abbrev pub number_in : List (List ℕ × ℕ) → List ℕ → Option ℕ
number_in entries x = lookup (bytes_eq x) entries

-- a name gets a number, unless it has one
abbrev pub numbered : List (List ℕ × ℕ) → List ℕ → ℕ → List ℕ → Option ℕ
numbered entries name number x =
    if is_some (number_in entries name) then number_in entries x else cond (bytes_eq name x) (Some number) (number_in entries x)

-- each name has the number of the place where it first stands
abbrev pub Places : List (List ℕ × ℕ) → List (List ℕ) → Type 0
Places entries names = (x : List ℕ) → number_in entries x ≡ parameter_of names x

-- a name comes last, unless it is there
abbrev pub gained : List (List ℕ) → List ℕ → List (List ℕ)
gained names x = if has names x then names else names ++ x ∷ []

-- so does one after another
abbrev pub gained_all : List (List ℕ) → List (List ℕ) → List (List ℕ)
gained_all names [] = names
gained_all names (x ∷ xs) = gained_all (gained names x) xs
