-- How `repr` shows texts and values without items (library reference, `repr`): natives of the built-in text.
use Rattle.std.specs.Prelude.{ℕ, ◌/◌, ◌%◌, ℤ, pos, List, [], ◌∷◌, ◌++◌, Option, Some, None, ◌&&◌, ◌||◌, not, codes, if◌then◌else◌, nat_eq, nat_lt, slice_get, option_map}
use Rattle.std.specs.Char.{digit_char}
use Rattle.std.specs.Fmt.{signed_decimal}
use Rattle.std.specs.List.{flat_map, list_any}
use Rattle.std.specs.Ordering.{int_eq}
use Rattle.nu_value.specs.declared.header.Header.{Header}
use Rattle.nu_value.specs.declared.value.Value.{Value}
use Rattle.nu_value.specs.declared.value.Value.TheVariants as value
use Rattle.nu_value.specs.declared.object.Object.{Object}
use Rattle.nu_value.specs.declared.object.Object.TheVariants as object
use Rattle.op_forms.specs.declared.end.OpEnd.{OpEnd}
use Rattle.op_forms.specs.Answers.{unbuilt}
use Rattle.op_rules.specs.NativeCalls.{text_of}
use Rattle.op_rules.specs.Kinds.{class_name}
use Rattle.op_rules.specs.TextMethods.{give_text, sized_text}

-- ---- texts

-- single quotation marks, or double ones where the text has a single and no double one
abbrev pub mark_of : List ℕ → ℕ
mark_of text = if list_any (nat_eq 39) text && not (list_any (nat_eq 34) text) then 34 else 39

-- a control character as `\x` and two digits
abbrev pub hexadecimal : ℕ → List ℕ
hexadecimal b = 92 ∷ 120 ∷ digit_char (b / 16) ∷ digit_char (b % 16) ∷ []

-- backslashes, the mark, line ends, tabs and other controls are escaped
abbrev pub quoted_byte : ℕ → ℕ → List ℕ
quoted_byte mark b =
    if nat_eq b 92 || nat_eq b mark then 92 ∷ b ∷ []
    else if nat_eq b 10 then codes "\\n"
    else if nat_eq b 13 then codes "\\r"
    else if nat_eq b 9 then codes "\\t"
    else if nat_lt b 32 || nat_eq b 127 then hexadecimal b
    else b ∷ []

abbrev pub quoted_by : ℕ → List ℕ → List ℕ
quoted_by mark text = mark ∷ flat_map (quoted_byte mark) text ++ mark ∷ []

abbrev pub quoted : List ℕ → List ℕ
quoted text = quoted_by (mark_of text) text

abbrev pub quote_of : Value → OpEnd
quote_of (value.Str text) = sized_text (quoted text)
quote_of other = unbuilt

-- ---- other values

-- a step of 1 isn't shown
abbrev pub step_text : ℤ → List ℕ
step_text step = if int_eq step (pos 1) then codes ")" else codes ", " ++ signed_decimal step ++ codes ")"

abbrev pub range_text : ℤ → ℤ → ℤ → List ℕ
range_text start stop step = codes "range(" ++ signed_decimal start ++ codes ", " ++ signed_decimal stop ++ step_text step

abbrev pub between_angles : List ℕ → List ℕ → List ℕ
between_angles kind name = kind ++ name ++ codes ">"

-- the name of the scope of a code
abbrev pub scope_text : List ℕ → Option Header → Option (List ℕ)
scope_text kind header = option_map (λ h. between_angles kind h.scope) header

abbrev pub method_text : List Header → Option Object → Option (List ℕ)
method_text headers (Some (object.Function code defaults keywords cells)) = scope_text (codes "<method ") (slice_get headers code)
method_text headers other = None

abbrev pub object_text : List Header → List Object → Option Object → Option (List ℕ)
object_text headers h (Some (object.Range start stop step)) = Some (range_text start stop step)
object_text headers h (Some (object.Function code defaults keywords cells)) = scope_text (codes "<function ") (slice_get headers code)
object_text headers h (Some (object.Method receiver function)) = method_text headers (slice_get h function)
object_text headers h (Some (object.Class name base own native)) = Some (codes "<class '" ++ name ++ codes "'>")
object_text headers h (Some (object.Instance class fields)) = Some (codes "<" ++ class_name (slice_get h class) ++ codes " object>")
object_text headers h (Some (object.Generator code state given cells)) = scope_text (codes "<generator ") (slice_get headers code)
object_text headers h (Some (object.Iterator over place size over_now)) = Some (codes "<iterator>")
object_text headers h (Some (object.Builtin name receiver)) = Some (between_angles (codes "<built-in ") name)
object_text headers h (Some (object.Trace exception)) = Some (codes "<traceback>")
object_text headers h other = None

abbrev pub shown : List Header → List Object → Value → Option (List ℕ)
shown headers h (value.Obj n) = object_text headers h (slice_get h n)
shown headers h (value.Str text) = None
shown headers h v = text_of v

abbrev pub shown_end : Option (List ℕ) → OpEnd
shown_end None = unbuilt
shown_end (Some text) = give_text text

abbrev pub show_of : List Header → List Object → Value → OpEnd
show_of headers h v = shown_end (shown headers h v)

-- the text of a value that is no text and has no items; it needs the names of the program's functions
abbrev pub show_call : List Header → List Object → List Value → OpEnd
show_call headers h (v ∷ []) = show_of headers h v
show_call headers h other = unbuilt
