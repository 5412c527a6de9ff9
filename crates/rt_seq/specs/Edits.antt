-- How the items of a list are changed where they stand.
use Rattle.std.specs.Prelude.{ℕ, ℤ, List, [], ◌∷◌, ◌++◌, Option, Some, None, length, slice_set, reverse, remove, insert}
use Rattle.nu_value.specs.declared.object.Object.{Object}
use Rattle.nu_value.specs.declared.object.Object.TheVariants as object
use Rattle.nu_value.specs.declared.value.Value.{Value}
use Rattle.op_forms.specs.Doing.{Fill, changed_by}
use Rattle.op_rules.specs.Items.{place_in}
use Rattle.rt_seq.specs.declared.edits.Edit.{Edit}
use Rattle.rt_seq.specs.declared.edits.Edit.TheVariants as edit

abbrev pub edited : Edit → List Value → List Value
edited (edit.Push v) items = items ++ v ∷ []
edited (edit.Set place v) items = slice_set items place v
edited (edit.Insert place v) items = insert items place v
edited (edit.Remove place) items = remove items place
edited edit.Reverse items = reverse items
edited (edit.Fill others) items = others

abbrev pub items_of : Object → List Value
items_of (object.List items) = items
items_of other = []

-- where no object of this number is, nothing changes
abbrev pub edited_at : List Object → ℕ → Edit → Option Object → List Object
edited_at h n e None = h
edited_at h n e (Some o) = slice_set h n (changed_by (Fill (edited e (items_of o))) o)

-- the place that an index means in a list
abbrev pub list_place : Option Object → ℤ → Option ℕ
list_place (Some (object.List items)) i = place_in (length items) i
list_place other i = None
