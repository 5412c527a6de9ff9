-- The methods of texts (library reference, "String Methods").
use Rattle.std.specs.Prelude.{ℕ, ◌-◌, ℤ, pos, negsuc, List, [], ◌∷◌, ◌++◌, Option, Some, ◌&&◌, ◌==◌, not, codes, if◌then◌else◌, map, nat_eq, nat_le, length}
use Rattle.std.specs.Char.{to_ascii_lowercase, to_ascii_uppercase}
use Rattle.std.specs.List.{starts_with, ends_with, list_all}
use Rattle.std.specs.Str.{bytes_eq}
use Rattle.nu_run.specs.declared.StopKind.TheVariants as stop
use Rattle.nu_text.specs.Characters.{characters}
use Rattle.nu_text.specs.Decimals.{is_digit}
use Rattle.nu_value.specs.Same.{object_of}
use Rattle.nu_value.specs.View.{is_text}
use Rattle.nu_value.specs.declared.value.Value.{Value}
use Rattle.nu_value.specs.declared.value.Value.TheVariants as value
use Rattle.nu_value.specs.declared.object.Object.{Object}
use Rattle.nu_value.specs.declared.object.Object.TheVariants as object
use Rattle.op_forms.specs.declared.end.After.TheVariants as behind
use Rattle.op_forms.specs.declared.end.OpEnd.{OpEnd}
use Rattle.op_forms.specs.declared.end.OpEnd.TheVariants as opend
use Rattle.op_forms.specs.Answers.{unbuilt}
use Rattle.op_forms.specs.Doing.{Doing, nothing, ends, makes}
use Rattle.op_rules.specs.Asking.{asks}
use Rattle.op_rules.specs.Comparisons.{give_bool}
use Rattle.op_rules.specs.Kinds.{type_error, value_error}
use Rattle.op_rules.specs.TextParts.{pieces, text_values, joined, is_ascii, stripped, words}
use Rattle.op_rules.specs.TextRows.{size_limit, sized}

-- ---- arguments

abbrev pub bad_argument : List ℕ → OpEnd
bad_argument name = type_error (codes "bad argument for " ++ name)

abbrev pub with_text : (List ℕ → OpEnd) → List ℕ → Value → OpEnd
with_text f name (value.Str s) = f s
with_text f name other = bad_argument name

-- several texts at once are left out
abbrev pub no_affix : List ℕ → Option Object → OpEnd
no_affix name (Some (object.Tuple items)) = unbuilt
no_affix name other = bad_argument name

abbrev pub with_affix : List Object → (List ℕ → OpEnd) → List ℕ → Value → OpEnd
with_affix h f name (value.Str s) = f s
with_affix h f name other = no_affix name (object_of h other)

-- texts past ASCII are left out
abbrev pub ascii_only : List ℕ → OpEnd → OpEnd
ascii_only text e = if is_ascii text then e else unbuilt

abbrev pub give_text : List ℕ → OpEnd
give_text text = opend.Give (value.Str text)

abbrev pub give_number : ℤ → OpEnd
give_number z = opend.Give (value.Int z)

abbrev pub sized_text : List ℕ → OpEnd
sized_text text = sized (characters text) (give_text text)

-- ---- `join`

abbrev pub joined_texts : List ℕ → List Value → OpEnd
joined_texts text items =
    if list_all is_text items then sized_text (joined text items) else type_error (codes "sequence item: expected str instance")

-- what becomes of the list that `_nu_listof` gives
abbrev pub join_after : List ℕ → Option Object → OpEnd
join_after text (Some (object.List items)) = joined_texts text items
join_after text other = unbuilt

abbrev pub join_on : List Object → List ℕ → Value → Option Object → OpEnd
join_on h text v (Some (object.List items)) = joined_texts text items
join_on h text v (Some (object.Tuple items)) = joined_texts text items
join_on h text v other = asks h (codes "_nu_listof") (v ∷ []) [] (behind.Join text)

abbrev pub join_method : List Object → List ℕ → Value → OpEnd
join_method h text v = join_on h text v (object_of h v)

-- ---- `split`

abbrev pub text_list : List Object → List Value → Doing
text_list h texts = if nat_le (length texts) size_limit then makes h (object.List texts) else ends (opend.Stop stop.Size)

abbrev pub split_words : List Object → List ℕ → Doing
split_words h text = if is_ascii text then text_list h (text_values (words text)) else nothing

abbrev pub split_at : List Object → List ℕ → List ℕ → Doing
split_at h text part = if length part == 0 then ends (value_error (codes "empty separator")) else text_list h (text_values (pieces part text))

abbrev pub split_by : List Object → List ℕ → Value → Doing
split_by h text value.None = split_words h text
split_by h text (value.Str part) = split_at h text part
split_by h text other = ends (bad_argument (codes "split"))

-- ---- what stands in a text

abbrev pub startswith_text : List ℕ → List ℕ → OpEnd
startswith_text text part = give_bool (starts_with nat_eq text part)

abbrev pub endswith_text : List ℕ → List ℕ → OpEnd
endswith_text text part = give_bool (ends_with nat_eq text part)

-- how many characters stand before the first place of a part, or -1
abbrev pub found_at : List (List ℕ) → ℤ
found_at (front ∷ next ∷ more) = pos (characters front)
found_at pieces = negsuc 0

abbrev pub find_text : List ℕ → List ℕ → OpEnd
find_text text part = give_number (found_at (pieces part text))

abbrev pub count_text : List ℕ → List ℕ → OpEnd
count_text text part = give_number (pos (length (pieces part text) - 1))

-- ---- `replace`

-- a text with another in place of each part
abbrev pub replaced : List ℕ → List ℕ → List ℕ → List ℕ
replaced part other text = joined other (text_values (pieces part text))

abbrev pub replace_texts : List ℕ → Value → Value → OpEnd
replace_texts text (value.Str part) (value.Str other) = sized_text (replaced part other text)
replace_texts text a b = bad_argument (codes "replace")

-- ---- on ASCII texts

abbrev pub strip_text : List ℕ → OpEnd
strip_text text = ascii_only text (give_text (stripped text))

abbrev pub upper_text : List ℕ → OpEnd
upper_text text = ascii_only text (give_text (map to_ascii_uppercase text))

abbrev pub lower_text : List ℕ → OpEnd
lower_text text = ascii_only text (give_text (map to_ascii_lowercase text))

abbrev pub isdigit_text : List ℕ → OpEnd
isdigit_text text = ascii_only text (give_bool (not (length text == 0) && list_all is_digit text))

-- ---- by their names, and how many arguments they have

abbrev pub method_of_none : List ℕ → List ℕ → OpEnd
method_of_none text name =
    if bytes_eq name (codes "strip") then strip_text text
    else if bytes_eq name (codes "upper") then upper_text text
    else if bytes_eq name (codes "lower") then lower_text text
    else if bytes_eq name (codes "isdigit") then isdigit_text text
    else unbuilt

abbrev pub method_of_one : List Object → List ℕ → List ℕ → Value → OpEnd
method_of_one h text name v =
    if bytes_eq name (codes "join") then join_method h text v
    else if bytes_eq name (codes "startswith") then with_affix h (startswith_text text) name v
    else if bytes_eq name (codes "endswith") then with_affix h (endswith_text text) name v
    else if bytes_eq name (codes "find") then with_text (find_text text) name v
    else if bytes_eq name (codes "count") then with_text (count_text text) name v
    else unbuilt

abbrev pub method_of_two : List ℕ → List ℕ → Value → Value → OpEnd
method_of_two text name a b = if bytes_eq name (codes "replace") then replace_texts text a b else unbuilt

-- the method of a text that has this name
abbrev pub text_method : List Object → List ℕ → List ℕ → List Value → Doing
text_method h text name [] = if bytes_eq name (codes "split") then split_words h text else ends (method_of_none text name)
text_method h text name (v ∷ []) = if bytes_eq name (codes "split") then split_by h text v else ends (method_of_one h text name v)
text_method h text name (a ∷ b ∷ []) = ends (method_of_two text name a b)
text_method h text name other = nothing
