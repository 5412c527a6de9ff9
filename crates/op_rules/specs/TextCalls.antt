-- Calls of the methods of texts, and of the natives on texts (library reference, "String Methods").
use Rattle.std.specs.Prelude.{ℕ, pos, List, [], ◌∷◌, codes, if◌then◌else◌}
use Rattle.std.specs.Str.{bytes_eq}
use Rattle.nu_text.specs.Characters.{characters}
use Rattle.nu_value.specs.declared.header.Header.{Header}
use Rattle.nu_value.specs.declared.object.Object.{Object}
use Rattle.nu_value.specs.declared.value.Value.{Value}
use Rattle.nu_value.specs.declared.value.Value.TheVariants as value
use Rattle.nu_value.specs.Names.{NameList}
use Rattle.op_forms.specs.declared.end.OpEnd.{OpEnd}
use Rattle.op_forms.specs.Answers.{unbuilt}
use Rattle.op_forms.specs.Doing.{Doing, nothing, ends}
use Rattle.op_rules.specs.Items.{no_len}
use Rattle.op_rules.specs.Numerals.{int_of, ord_of, chr_of}
use Rattle.op_rules.specs.Quoting.{quote_of, show_call}
use Rattle.op_rules.specs.TextMethods.{give_number, text_method}

-- how many characters a text has
abbrev pub len_of : List Object → Value → OpEnd
len_of h (value.Str text) = give_number (pos (characters text))
len_of h other = no_len h other

abbrev pub native_of_one : List Object → List ℕ → Value → OpEnd
native_of_one h name v =
    if bytes_eq name (codes "len") then len_of h v
    else if bytes_eq name (codes "int") then int_of v
    else if bytes_eq name (codes "ord") then ord_of v
    else if bytes_eq name (codes "chr") then chr_of v
    else if bytes_eq name (codes "_nu_quote") then quote_of v
    else unbuilt

-- `int()` is 0, and a base is left out
abbrev pub text_native : List Object → List ℕ → List Value → OpEnd
text_native h name [] = if bytes_eq name (codes "int") then give_number (pos 0) else unbuilt
text_native h name (v ∷ []) = native_of_one h name v
text_native h name other = unbuilt

abbrev pub called_on : List Object → List ℕ → Value → List Value → Doing
called_on h name (value.Str text) args = text_method h text name args
called_on h name other args = ends (text_native h name args)

-- a built-in of this name, with its receiver or none, is called with arguments and keywords, which none of these takes
abbrev pub text_call : List Object → List ℕ → Value → List Value → NameList → Doing
text_call h name receiver args [] = called_on h name receiver args
text_call h name receiver args names = nothing

-- a native that shows values needs the names of the program's functions
abbrev pub text_builtin : List Header → List Object → List ℕ → Value → List Value → NameList → Doing
text_builtin headers h name value.Unset args [] =
    if bytes_eq name (codes "_nu_text") then ends (show_call headers h args) else text_call h name value.Unset args []
text_builtin headers h name receiver args names = text_call h name receiver args names
