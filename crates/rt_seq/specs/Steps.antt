-- What an iterator finds at its place, and what it does then.
use Rattle.std.specs.Prelude.{ℕ, ℤ, pos, List, [], ◌∷◌, Option, Some, None, nat_eq, length, slice_get, if◌then◌else◌}
use Rattle.nu_value.specs.declared.key.Atom.{Atom}
use Rattle.nu_value.specs.declared.object.Object.{Object}
use Rattle.nu_value.specs.declared.object.Object.TheVariants as object
use Rattle.nu_value.specs.declared.object.ViewKind.{ViewKind}
use Rattle.nu_value.specs.declared.object.ViewKind.TheVariants as view
use Rattle.nu_value.specs.declared.value.Value.{Value}
use Rattle.nu_value.specs.declared.value.Value.TheVariants as value
use Rattle.nu_value.specs.Pairs.{PairList}
use Rattle.nu_value.specs.Ranges.{range_count}
use Rattle.op_forms.specs.Doing.{Doing, nothing, ends}
use Rattle.op_rules.specs.Iteration.{number_within, pair_from, finishes, advanced, advanced_making, size_changed}
use Rattle.op_rules.specs.Numbers.{sum}
use Rattle.op_rules.specs.Slices.{item_from}
use Rattle.op_rules.specs.TextItems.{text_item}
use Rattle.rt_seq.specs.declared.steps.Found.{Found}
use Rattle.rt_seq.specs.declared.steps.Found.TheVariants as found

abbrev pub one_of : Option Value → Found
one_of None = found.Nothing
one_of (Some v) = found.One v

-- a pair of a dict, as a view shows it
abbrev pub shown_at : ViewKind → Option (List Atom × Value × Value) → Found
shown_at kind None = found.Nothing
shown_at view.Keys (Some p) = found.One p.1
shown_at view.Values (Some p) = found.One p.2
shown_at view.Both (Some p) = found.Two p.1 p.2

abbrev pub shown_by : ViewKind → PairList → ℤ → Found
shown_by kind pairs place = shown_at kind (pair_from pairs place)

abbrev pub shown_in : ViewKind → PairList → ℤ → ℕ → Found
shown_in kind pairs place size = if nat_eq size (length pairs) then shown_by kind pairs place else found.Changed

abbrev pub viewed : ViewKind → Option Object → ℤ → ℕ → Found
viewed kind (Some (object.Dict pairs)) place size = shown_in kind pairs place size
viewed kind other place size = found.Unbuilt

abbrev pub found_in : List Object → Option Object → ℤ → ℕ → Found
found_in h (Some (object.List items)) place size = one_of (item_from items place)
found_in h (Some (object.Tuple items)) place size = one_of (item_from items place)
found_in h (Some (object.Range start stop step)) place size = one_of (number_within (range_count start stop step) start step place)
found_in h (Some (object.Dict pairs)) place size = shown_in view.Keys pairs place size
found_in h (Some (object.View dict kind)) place size = viewed kind (slice_get h dict) place size
found_in h other place size = found.Unbuilt

abbrev pub found_over : List Object → Value → ℤ → ℕ → Found
found_over h (value.Str text) place size = one_of (text_item text place)
found_over h (value.Obj m) place size = found_in h (slice_get h m) place size
found_over h x place size = found.Unbuilt

-- what the iterator of a number does then
abbrev pub steps : List Object → ℕ → ℤ → ℕ → Found → Doing
steps h n place size found.Nothing = finishes n
steps h n place size (found.One v) = advanced n size v (sum place (pos 1))
steps h n place size (found.Two a b) = advanced_making h n size (object.Tuple (a ∷ b ∷ [])) (sum place (pos 1))
steps h n place size found.Changed = ends size_changed
steps h n place size found.Unbuilt = nothing

-- the item at a place of a list, a tuple or a range
abbrev pub item_over : Option Object → ℤ → Option Value
item_over (Some (object.List items)) place = item_from items place
item_over (Some (object.Tuple items)) place = item_from items place
item_over (Some (object.Range start stop step)) place = number_within (range_count start stop step) start step place
item_over other place = None
