-- Calls of natives that no family of values has (library reference, "Built-in Functions"): `print` with one value, the length of
-- what has none, and what the built-in text needs.
use Rattle.std.specs.Prelude.{ℕ, List, [], ◌∷◌, ◌++◌, Option, Some, None, Bool, true, false, codes, if◌then◌else◌, slice_get}
use Rattle.std.specs.Fmt.{signed_decimal}
use Rattle.std.specs.Str.{bytes_eq}
use Rattle.nu_value.specs.declared.value.Value.{Value}
use Rattle.nu_value.specs.declared.value.Value.TheVariants as value
use Rattle.nu_value.specs.declared.object.Object.{Object}
use Rattle.nu_value.specs.declared.object.Object.TheVariants as object
use Rattle.nu_value.specs.Classes.{found_in}
use Rattle.nu_value.specs.Names.{NameList}
use Rattle.nu_value.specs.Same.{object_of}
use Rattle.op_forms.specs.declared.end.How.TheVariants as how
use Rattle.op_forms.specs.declared.end.OpEnd.{OpEnd}
use Rattle.op_forms.specs.declared.end.OpEnd.TheVariants as opend
use Rattle.op_forms.specs.Answers.{unbuilt}
use Rattle.op_rules.specs.Comparisons.{give_bool}
use Rattle.op_rules.specs.Kinds.{kind_name, type_error}

-- Printing, until the built-in text has `print`

-- the text of a value
abbrev pub text_of : Value → Option (List ℕ)
text_of value.None = Some (codes "None")
text_of (value.Bool true) = Some (codes "True")
text_of (value.Bool false) = Some (codes "False")
text_of (value.Int z) = Some (signed_decimal z)
text_of (value.Str text) = Some text
text_of other = None

-- a text and LF, in one piece
abbrev pub printed : Option (List ℕ) → OpEnd
printed None = unbuilt
printed (Some text) = opend.Put (text ++ codes "\n")

abbrev pub print_row : List Value → OpEnd
print_row (v ∷ []) = printed (text_of v)
print_row other = unbuilt

-- Natives of the built-in text

-- a text that isn't empty is put out
abbrev pub written : List ℕ → OpEnd
written [] = opend.Give value.None
written (c ∷ cs) = opend.Put (c ∷ cs)

abbrev pub write_row : List Value → OpEnd
write_row (value.Str text ∷ []) = written text
write_row other = unbuilt

-- an input line, or None behind the last
abbrev pub line_row : List Value → OpEnd
line_row [] = opend.Line
line_row other = unbuilt

abbrev pub is_some : Option Value → Bool
is_some None = false
is_some (Some v) = true

-- whether a next item may be asked of it
abbrev pub is_nextable : List Object → Option Object → Bool
is_nextable h (Some (object.Generator code state given cells)) = true
is_nextable h (Some (object.Iterator over place size over_now)) = true
is_nextable h (Some (object.Instance class fields)) = is_some (found_in h class (codes "__next__"))
is_nextable h other = false

abbrev pub nextable_row : List Object → List Value → OpEnd
nextable_row h (x ∷ []) = give_bool (is_nextable h (object_of h x))
nextable_row h other = unbuilt

-- an exception is thrown into a generator
abbrev pub resume_on : ℕ → Option Object → ℕ → Option Object → OpEnd
resume_on g (Some (object.Generator code state given cells)) e (Some (object.Exception class args entries fields cause)) = opend.Resume g (how.Throw e)
resume_on g o e p = unbuilt

abbrev pub resume_row : List Object → List Value → OpEnd
resume_row h (value.Obj g ∷ value.Obj e ∷ []) = resume_on g (slice_get h g) e (slice_get h e)
resume_row h other = unbuilt

-- an attribute whose name is no text
abbrev pub getattr_row : List Value → OpEnd
getattr_row (x ∷ name ∷ []) = type_error (codes "attribute name must be string")
getattr_row other = unbuilt

-- the length of what has none
abbrev pub length_row : List Object → List Value → OpEnd
length_row h (x ∷ []) = type_error (codes "object of type '" ++ kind_name h x ++ codes "' has no len()")
length_row h other = unbuilt

abbrev pub native_end : List Object → List ℕ → List Value → OpEnd
native_end h name args =
    if bytes_eq name (codes "print") then print_row args
    else if bytes_eq name (codes "len") then length_row h args
    else if bytes_eq name (codes "_nu_write") then write_row args
    else if bytes_eq name (codes "_nu_line") then line_row args
    else if bytes_eq name (codes "_nu_getattr") then getattr_row args
    else if bytes_eq name (codes "_nu_nextable") then nextable_row h args
    else if bytes_eq name (codes "_nu_resume") then resume_row h args
    else unbuilt

-- natives take no keywords
abbrev pub native_called : List Object → List ℕ → List Value → NameList → OpEnd
native_called h name args [] = native_end h name args
native_called h name args (q ∷ qs) = unbuilt
