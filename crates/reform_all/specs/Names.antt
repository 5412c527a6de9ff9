-- What a set of names says.
use Rattle.std.specs.Prelude.{◌≡◌, ◌||◌, ℕ, Bool, List}
use Rattle.std.specs.List.{list_any}
use Rattle.std.specs.Str.{bytes_eq}
use Rattle.nu_text.specs.Names.{is_among}
use Rattle.reform_all.specs.declared.bound.Bound.{Bound}

-- the set has the name
abbrev pub has : Bound → List ℕ → Bool
has bound x = list_any (λ key. bytes_eq x key.now) bound.names.keys

-- the set has these names
abbrev pub Holds : Bound → List (List ℕ) → Type 0
Holds bound names = (x : List ℕ) → has bound x ≡ is_among names x

-- the set gained these names
abbrev pub Gains : Bound → Bound → List (List ℕ) → Type 0
Gains old new names = (x : List ℕ) → has new x ≡ (has old x || is_among names x)
