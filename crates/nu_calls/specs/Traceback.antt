-- The text of an exception that nothing caught (tutorial, section 8.1).
use Rattle.std.specs.Prelude.{ℕ, List, [], ◌∷◌, ◌++◌, Option, Some, None, codes, decimal, slice_get}
use Rattle.nu_value.specs.declared.entries.Entry.{Entry}
use Rattle.nu_value.specs.declared.object.Object.{Object}
use Rattle.nu_value.specs.declared.object.Object.TheVariants as object
use Rattle.nu_calls.specs.Exceptions.{class_of, entries_of}

abbrev pub entry_text : List ℕ → Entry → List ℕ
entry_text file entry = codes "  File \"" ++ file ++ codes "\", line " ++ decimal entry.line ++ codes ", in " ++ entry.scope ++ codes "\n"

abbrev pub entries_text : List ℕ → List Entry → List ℕ
entries_text file [] = []
entries_text file (entry ∷ entries) = entry_text file entry ++ entries_text file entries

abbrev pub name_of : Option Object → List ℕ
name_of (Some (object.Class name base own native)) = name
name_of other = []

abbrev pub class_name : List Object → Option ℕ → List ℕ
class_name h (Some class) = name_of (slice_get h class)
class_name h None = []

-- all but the exception's own text
abbrev pub head_text : List ℕ → List Object → ℕ → List ℕ
head_text file h e =
    codes "Traceback (most recent call last):\n" ++ entries_text file (entries_of (slice_get h e)) ++ class_name h (class_of (slice_get h e))

abbrev pub tail_text : List ℕ → List ℕ
tail_text [] = codes "\n"
tail_text (byte ∷ text) = codes ": " ++ (byte ∷ text) ++ codes "\n"
