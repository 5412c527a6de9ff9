-- Names in tables: the built-in names, and the natives of the built-in text.
use Rattle.std.specs.Prelude.{ℕ, Bool, List, map}
use Rattle.std.specs.List.{list_any}
use Rattle.std.specs.Str.{bytes_eq}
use Rattle.nu_text.specs.declared.names.TheConstants.{BUILT_IN_NAMES, TEXT_NATIVES}

abbrev pub is_among : List (List ℕ) → List ℕ → Bool
is_among table x = list_any (λ entry. bytes_eq entry x) table

-- the names that stand behind those of a module
unfoldable pub built_in_names : List (List ℕ)
built_in_names = map (λ entry. entry.now) BUILT_IN_NAMES

-- the natives that only the built-in text names
unfoldable pub text_natives : List (List ℕ)
text_natives = map (λ entry. entry.now) TEXT_NATIVES
