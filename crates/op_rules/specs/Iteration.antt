-- Iteration (library reference, "Iterator Types").
use Rattle.std.specs.Prelude.{ℕ, ℤ, pos, negsuc, List, [], ◌∷◌, Option, Some, None, true, false, codes, if◌then◌else◌, nat_eq, nat_lt, length, slice_get}
use Rattle.nu_run.specs.declared.StopKind.TheVariants as stop
use Rattle.nu_value.specs.declared.key.Atom.{Atom}
use Rattle.nu_value.specs.declared.object.Object.{Object}
use Rattle.nu_value.specs.declared.object.Object.TheVariants as object
use Rattle.nu_value.specs.declared.object.ViewKind.{ViewKind}
use Rattle.nu_value.specs.declared.object.ViewKind.TheVariants as view
use Rattle.nu_value.specs.declared.value.Value.{Value}
use Rattle.nu_value.specs.declared.value.Value.TheVariants as value
use Rattle.nu_value.specs.Pairs.{PairList}
use Rattle.nu_value.specs.Ranges.{range_count}
use Rattle.nu_value.specs.Same.{object_of}
use Rattle.op_rules.specs.declared.arithmetic.Computed.{Computed}
use Rattle.op_rules.specs.declared.arithmetic.Computed.TheVariants as computed
use Rattle.op_forms.specs.declared.end.OpEnd.{OpEnd}
use Rattle.op_forms.specs.declared.end.OpEnd.TheVariants as opend
use Rattle.op_forms.specs.Doing.{Move, Finish, Doing, nothing, ends, gives, makes, changes_giving}
use Rattle.op_rules.specs.Access.{no_iterator}
use Rattle.op_rules.specs.Items.{number_at}
use Rattle.op_rules.specs.Kinds.{raised}
use Rattle.op_rules.specs.Numbers.{sum}
use Rattle.op_rules.specs.Slices.{item_from}
use Rattle.op_rules.specs.TextItems.{text_item}

-- ---- `iter`

-- a new iterator at the first place; a size counts over a dict alone
abbrev pub iterates : List Object → Value → Doing
iterates h x = makes h (object.Iterator x (pos 0) 0 false)

-- an iterator is its own one
abbrev pub iter_on : List Object → Value → Option Object → Doing
iter_on h x (Some (object.List items)) = iterates h x
iter_on h x (Some (object.Tuple items)) = iterates h x
iter_on h x (Some (object.Range start stop step)) = iterates h x
iter_on h x (Some (object.Iterator over place size over_now)) = gives x
iter_on h x other = nothing

abbrev pub iter_row : List Object → Value → Doing
iter_row h x = iter_on h x (object_of h x)

-- ---- what an iterator goes over, at a place

abbrev pub number_within : ℕ → ℤ → ℤ → ℤ → Option Value
number_within count start step (pos i) = if nat_lt i count then Some (value.Int (number_at start step i)) else None
number_within count start step (negsuc i) = None

abbrev pub pair_from : PairList → ℤ → Option (List Atom × Value × Value)
pair_from pairs (pos i) = slice_get pairs i
pair_from pairs (negsuc i) = None

abbrev pub given_of : Option (List Atom × Value × Value) → Option Value
given_of None = None
given_of (Some p) = Some p.1

abbrev pub mapped_of : Option (List Atom × Value × Value) → Option Value
mapped_of None = None
mapped_of (Some p) = Some p.2

-- ---- `next`

abbrev pub stop_iteration : OpEnd
stop_iteration = opend.Raise 34 []

-- no item is left, from now on
abbrev pub finishes : ℕ → Doing
finishes n = record { end = stop_iteration; set = Some (n, Finish); made = [] }

abbrev pub no_integer : Doing
no_integer = ends (opend.Stop stop.Int)

-- an item is given, and the place behind it is the next one
abbrev pub advanced : ℕ → ℕ → Value → Computed → Doing
advanced n size v (computed.Int place) = changes_giving n (Move place size) v
advanced n size v other = no_integer

abbrev pub passes : ℕ → ℤ → ℕ → Option Value → Doing
passes n place size None = finishes n
passes n place size (Some v) = advanced n size v (sum place (pos 1))

-- a new object is given
abbrev pub advanced_making : List Object → ℕ → ℕ → Object → Computed → Doing
advanced_making h n size o (computed.Int place) = record { end = opend.Give (value.Obj (length h)); set = Some (n, Move place size); made = o ∷ [] }
advanced_making h n size o other = no_integer

-- a key and its value are given as a new tuple
abbrev pub passes_pair : List Object → ℕ → ℤ → ℕ → Option (List Atom × Value × Value) → Doing
passes_pair h n place size None = finishes n
passes_pair h n place size (Some p) = advanced_making h n size (object.Tuple (p.1 ∷ p.2 ∷ [])) (sum place (pos 1))

abbrev pub runtime_error : List ℕ → OpEnd
runtime_error = raised 32

abbrev pub size_changed : OpEnd
size_changed = runtime_error (codes "dictionary changed size during iteration")

-- a dict has to be as long as it was at first
abbrev pub while_sized : ℕ → PairList → Doing → Doing
while_sized size pairs d = if nat_eq size (length pairs) then d else ends size_changed

abbrev pub next_shown : List Object → ℕ → ℤ → ℕ → ViewKind → PairList → Doing
next_shown h n place size view.Keys pairs = passes n place size (given_of (pair_from pairs place))
next_shown h n place size view.Values pairs = passes n place size (mapped_of (pair_from pairs place))
next_shown h n place size view.Both pairs = passes_pair h n place size (pair_from pairs place)

abbrev pub next_viewed : List Object → ℕ → ℤ → ℕ → ViewKind → Option Object → Doing
next_viewed h n place size kind (Some (object.Dict pairs)) = while_sized size pairs (next_shown h n place size kind pairs)
next_viewed h n place size kind other = nothing

abbrev pub next_in : List Object → ℕ → ℤ → ℕ → Option Object → Doing
next_in h n place size (Some (object.List items)) = passes n place size (item_from items place)
next_in h n place size (Some (object.Tuple items)) = passes n place size (item_from items place)
next_in h n place size (Some (object.Range start stop step)) = passes n place size (number_within (range_count start stop step) start step place)
next_in h n place size (Some (object.Dict pairs)) = while_sized size pairs (next_shown h n place size view.Keys pairs)
next_in h n place size (Some (object.View dict kind)) = next_viewed h n place size kind (slice_get h dict)
next_in h n place size other = nothing

-- the next item of a text is a character
abbrev pub next_over : List Object → ℕ → ℤ → ℕ → Value → Doing
next_over h n place size (value.Str text) = passes n place size (text_item text place)
next_over h n place size (value.Obj m) = next_in h n place size (slice_get h m)
next_over h n place size x = nothing

-- once it was over it stays so
abbrev pub next_on : List Object → ℕ → Option Object → Doing
next_on h n (Some (object.Iterator x place size true)) = ends stop_iteration
next_on h n (Some (object.Iterator x place size false)) = next_over h n place size x
next_on h n other = ends (no_iterator h (value.Obj n))

abbrev pub next_row : List Object → Value → Doing
next_row h (value.Obj n) = next_on h n (slice_get h n)
next_row h x = ends (no_iterator h x)
