-- Identifiers: mangling, names between double underscores, and the names that a module has without binding them.
use Rattle.std.specs.Prelude.{ℕ, ◌==◌, nat_le, Bool, not, ◌&&◌, ◌||◌, if◌then◌else◌, List, [], ◌∷◌, ◌++◌, length, map, codes, nat_eq, Option, Some, None}
use Rattle.std.specs.List.{starts_with, ends_with}
use Rattle.std.specs.Str.{bytes_eq}
use Rattle.nu_text.specs.Names.{is_among, built_in_names, text_natives}
use Rattle.py_scopes.specs.declared.names.TheConstants.{SPECIAL}

abbrev pub begins_double : List ℕ → Bool
begins_double x = starts_with nat_eq x (codes "__")

abbrev pub ends_double : List ℕ → Bool
ends_double x = ends_with nat_eq x (codes "__")

abbrev pub after_underscore : List ℕ → Option (List ℕ)
after_underscore [] = None
after_underscore (c ∷ cs) = if c == 95 then Some cs else None

-- a name without its leading underscores
abbrev pub stem : List ℕ → List ℕ
stem [] = []
stem (c ∷ cs) = if c == 95 then stem cs else c ∷ cs

-- an identifier inside a class: one that begins with two underscores and does not end with two gets the class name
-- in front, unless that is underscores alone (reference, section 6.2.1)
abbrev pub is_private : List ℕ → List ℕ → Bool
is_private class x = begins_double x && not (ends_double x) && nat_le 1 (length (stem class))

abbrev pub mangled_in : List ℕ → List ℕ → List ℕ
mangled_in class x = if is_private class x then codes "_" ++ stem class ++ x else x

-- an identifier under the innermost class around it, if there is one
abbrev pub mangled : Option (List ℕ) → List ℕ → List ℕ
mangled (Some class) x = mangled_in class x
mangled None x = x

-- the written list of identifiers between double underscores
unfoldable pub special : List (List ℕ)
special = map (λ entry. entry.now) SPECIAL

-- an identifier of five or more characters between double underscores that is not in the written list
abbrev pub is_unwritten : List ℕ → Bool
is_unwritten x = begins_double x && ends_double x && nat_le 5 (length x) && not (is_among special x)

-- a name that the module has without binding it: `__name__`, the built-in names behind it, and in the built-in text the
-- natives that only this text names
abbrev pub is_given : Bool → List ℕ → Bool
is_given built_in x = bytes_eq x (codes "__name__") || is_among built_in_names x || (built_in && is_among text_natives x)
