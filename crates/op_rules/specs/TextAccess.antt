-- Characters of texts, and parts of texts in texts (reference, sections 6.3.2, 6.3.3 and 6.10.2; library reference, "Text Sequence
-- Type").
use Rattle.std.specs.Prelude.{ℕ, zero, suc, ℤ, pos, negsuc, ◌+ℤ◌, List, [], ◌∷◌, ◌++◌, Option, Some, None, Bool, true, false, codes, if◌then◌else◌, slice_get, encode_utf8_all}
use Rattle.std.specs.Option.{option_to_list}
use Rattle.std.specs.Ordering.{int_eq}
use Rattle.std.specs.Str.{chars}
use Rattle.nu_text.specs.Characters.{characters}
use Rattle.nu_value.specs.Ranges.{range_count}
use Rattle.nu_value.specs.Same.{number_of}
use Rattle.nu_value.specs.declared.value.Value.{Value}
use Rattle.nu_value.specs.declared.value.Value.TheVariants as value
use Rattle.nu_value.specs.declared.object.Object.{Object}
use Rattle.nu_value.specs.declared.object.Object.TheVariants as object
use Rattle.op_forms.specs.declared.end.OpEnd.{OpEnd}
use Rattle.op_forms.specs.declared.end.OpEnd.TheVariants as opend
use Rattle.op_forms.specs.declared.op.Op.{Op}
use Rattle.op_forms.specs.declared.op.Op.TheVariants as op
use Rattle.op_forms.specs.Answers.{unbuilt}
use Rattle.op_forms.specs.Doing.{Doing, nothing, ends, makes}
use Rattle.op_rules.specs.Access.{no_item_changes, no_iterator}
use Rattle.op_rules.specs.Comparisons.{give_bool}
use Rattle.op_rules.specs.Items.{place_in, out_of_range, no_index}
use Rattle.op_rules.specs.Kinds.{type_error}
use Rattle.op_rules.specs.NameRows.{value_or}
use Rattle.op_rules.specs.Slices.{are_bounds, first_place, end_place, step_of, no_bound, no_step}
use Rattle.op_rules.specs.TextItems.{text_item}
use Rattle.op_rules.specs.TextParts.{pieces}
use Rattle.op_rules.specs.TextRows.{text_row}

-- ---- one character

abbrev pub item_at : List ℕ → Option ℕ → Option Value
item_at text None = None
item_at text (Some i) = text_item text (pos i)

-- `t[i]`
abbrev pub text_index : List ℕ → Option ℤ → OpEnd
text_index text None = no_index (codes "str")
text_index text (Some i) = value_or (item_at text (place_in (characters text) i)) (out_of_range (codes "str"))

-- ---- slices

abbrev pub character_from : List ℕ → ℤ → Option ℕ
character_from cs (pos i) = slice_get cs i
character_from cs (negsuc i) = None

-- so many characters, from a place on in steps
abbrev pub picked : List ℕ → ℤ → ℤ → ℕ → List ℕ
picked cs place step zero = []
picked cs place step (suc n) = option_to_list (character_from cs place) ++ picked cs (place +ℤ step) step n

-- the characters at the numbers of a range of places
abbrev pub between : List ℕ → ℤ → ℤ → ℤ → List ℕ
between cs first end step = picked cs first step (range_count first end step)

abbrev pub text_sliced : List ℕ → Option ℤ → Option ℤ → ℤ → List ℕ
text_sliced text start stop step =
    encode_utf8_all (between (chars text) (first_place (characters text) step start) (end_place (characters text) step stop) step)

-- `t[start:stop:step]`
abbrev pub text_slice : List ℕ → Value → Value → Value → OpEnd
text_slice text start stop step =
    if are_bounds start stop step
    then (if int_eq (step_of (number_of step)) (pos 0) then no_step else opend.Give (value.Str (text_sliced text (number_of start) (number_of stop) (step_of (number_of step)))))
    else no_bound

-- ---- parts

abbrev pub has_cut : List (List ℕ) → Bool
has_cut (front ∷ next ∷ more) = true
has_cut pieces = false

-- whether a text has a part; an empty one stands everywhere
abbrev pub stands_in : List ℕ → List ℕ → Bool
stands_in part text = has_cut (pieces part text)

-- `part in text`
abbrev pub in_text : Value → List ℕ → OpEnd
in_text (value.Str part) text = give_bool (stands_in part text)
in_text other text = type_error (codes "'in <string>' requires string as left operand")

-- ---- the rows

-- an iterator at the first character
abbrev pub text_iterator : List Object → List ℕ → Doing
text_iterator h text = makes h (object.Iterator (value.Str text) (pos 0) 0 false)

abbrev pub index_row : List Value → OpEnd
index_row (value.Str text ∷ i ∷ []) = text_index text (number_of i)
index_row args = unbuilt

abbrev pub slice_row : List Value → OpEnd
slice_row (value.Str text ∷ start ∷ stop ∷ step ∷ []) = text_slice text start stop step
slice_row args = unbuilt

abbrev pub in_row : List Value → OpEnd
in_row (v ∷ value.Str text ∷ []) = in_text v text
in_row args = unbuilt

abbrev pub setindex_row : List Object → List Value → OpEnd
setindex_row h (x ∷ i ∷ v ∷ []) = no_item_changes h x
setindex_row h args = unbuilt

abbrev pub delindex_row : List Object → List Value → OpEnd
delindex_row h (x ∷ i ∷ []) = no_item_changes h x
delindex_row h args = unbuilt

abbrev pub next_row : List Object → List Value → OpEnd
next_row h (x ∷ []) = no_iterator h x
next_row h args = unbuilt

abbrev pub iter_row : List Object → List Value → Doing
iter_row h (value.Str text ∷ []) = text_iterator h text
iter_row h args = nothing

-- the rows that go by a text: operators, characters, slices and parts
abbrev pub text_doing : Op → List Object → List Value → Doing
text_doing op.Index h args = ends (index_row args)
text_doing op.Slice h args = ends (slice_row args)
text_doing op.In h args = ends (in_row args)
text_doing op.SetIndex h args = ends (setindex_row h args)
text_doing op.DelIndex h args = ends (delindex_row h args)
text_doing op.Next h args = ends (next_row h args)
text_doing op.Iter h args = iter_row h args
text_doing o h args = ends (text_row o h args)
