-- The methods of dicts, and `len` of dicts and views (library reference, "Mapping Types").
use Rattle.std.specs.Prelude.{ℕ, List, [], ◌∷◌, Option, Some, None, Ok, Err, codes, if◌then◌else◌, option_map, remove, slice_get}
use Rattle.std.specs.Str.{bytes_eq}
use Rattle.nu_value.specs.declared.key.Atom.{Atom}
use Rattle.nu_value.specs.declared.object.Object.{Object}
use Rattle.nu_value.specs.declared.object.Object.TheVariants as object
use Rattle.nu_value.specs.declared.object.ViewKind.{ViewKind}
use Rattle.nu_value.specs.declared.object.ViewKind.TheVariants as view
use Rattle.nu_value.specs.declared.value.Value.{Value}
use Rattle.nu_value.specs.declared.value.Value.TheVariants as value
use Rattle.nu_value.specs.Names.{NameList}
use Rattle.nu_value.specs.Pairs.{PairList, found_at, mapped_value, with_pair}
use Rattle.op_forms.specs.declared.end.After.TheVariants as behind
use Rattle.op_forms.specs.declared.end.OpEnd.{OpEnd}
use Rattle.op_forms.specs.declared.end.OpEnd.TheVariants as opend
use Rattle.op_forms.specs.Doing.{Put, Fit, Doing, nothing, ends, gives, changes, changes_giving, makes}
use Rattle.op_rules.specs.Asking.{asks}
use Rattle.op_rules.specs.Keys.{KeyOr, key_or_end, key_error}
use Rattle.op_rules.specs.NameRows.{value_or}
use Rattle.op_rules.specs.Views.{len_row}

-- a dict is the receiver
abbrev pub on_dict : (PairList → Doing) → Option Object → Doing
on_dict f (Some (object.Dict pairs)) = f pairs
on_dict f other = nothing

-- ---- `get`: what a key maps to, or else another value

abbrev pub get_keyed : PairList → Value → KeyOr → OpEnd
get_keyed pairs other (Ok k) = value_or (mapped_value pairs k) (opend.Give other)
get_keyed pairs other (Err e) = e

abbrev pub get : List Object → Value → Value → Option Object → Doing
get h k other o = on_dict (λ pairs. ends (get_keyed pairs other (key_or_end h k))) o

abbrev pub get_call : List Object → List Value → Option Object → Doing
get_call h (k ∷ []) o = get h k value.None o
get_call h (k ∷ other ∷ []) o = get h k other o
get_call h args o = nothing

-- ---- `pop`: the same, and the pair goes; without another value it is the error of a key that isn't there

abbrev pub other_or : Value → Option Value → OpEnd
other_or k None = key_error k
other_or k (Some v) = opend.Give v

-- what the key of a pair maps to
abbrev pub mapped_by : PairList → ℕ → Option Value
mapped_by pairs place = option_map (λ p. p.2) (slice_get pairs place)

abbrev pub pop_at : ℕ → PairList → OpEnd → ℕ → Option Value → Doing
pop_at n pairs other place None = ends other
pop_at n pairs other place (Some v) = changes_giving n (Fit (remove pairs place)) v

abbrev pub pop_found : ℕ → PairList → OpEnd → Option ℕ → Doing
pop_found n pairs other None = ends other
pop_found n pairs other (Some place) = pop_at n pairs other place (mapped_by pairs place)

abbrev pub pop_keyed : ℕ → PairList → OpEnd → KeyOr → Doing
pop_keyed n pairs other (Ok k) = pop_found n pairs other (found_at pairs k)
pop_keyed n pairs other (Err e) = ends e

abbrev pub pop : List Object → ℕ → Value → Option Value → Option Object → Doing
pop h n k other o = on_dict (λ pairs. pop_keyed n pairs (other_or k other) (key_or_end h k)) o

abbrev pub pop_call : List Object → ℕ → List Value → Option Object → Doing
pop_call h n (k ∷ []) o = pop h n k None o
pop_call h n (k ∷ other ∷ []) o = pop h n k (Some other) o
pop_call h n args o = nothing

-- ---- `setdefault`: what a key maps to, which else is put

abbrev pub default_or : ℕ → List Atom → Value → Value → Option Value → Doing
default_or n key k other None = changes_giving n (Put key k other) other
default_or n key k other (Some v) = gives v

abbrev pub default_keyed : ℕ → PairList → Value → Value → KeyOr → Doing
default_keyed n pairs k other (Ok key) = default_or n key k other (mapped_value pairs key)
default_keyed n pairs k other (Err e) = ends e

abbrev pub setdefault : List Object → ℕ → Value → Value → Option Object → Doing
setdefault h n k other o = on_dict (λ pairs. default_keyed n pairs k other (key_or_end h k)) o

abbrev pub setdefault_call : List Object → ℕ → List Value → Option Object → Doing
setdefault_call h n (k ∷ []) o = setdefault h n k value.None o
setdefault_call h n (k ∷ other ∷ []) o = setdefault h n k other o
setdefault_call h n args o = nothing

-- ---- `keys`, `values` and `items` give views

abbrev pub view_call : List Object → ℕ → ViewKind → List Value → Option Object → Doing
view_call h n kind [] o = on_dict (λ pairs. makes h (object.View n kind)) o
view_call h n kind args o = nothing

-- ---- `clear` and `copy`

abbrev pub clear_call : ℕ → List Value → Option Object → Doing
clear_call n [] o = on_dict (λ pairs. changes n (Fit [])) o
clear_call n args o = nothing

-- pairs to which others are put, one after another
abbrev pub put_all : PairList → PairList → PairList
put_all pairs [] = pairs
put_all pairs (q ∷ qs) = put_all (with_pair pairs q.0 q.1 q.2) qs

abbrev pub copy_call : List Object → List Value → Option Object → Doing
copy_call h [] o = on_dict (λ pairs. makes h (object.Dict (put_all [] pairs))) o
copy_call h args o = nothing

-- ---- calls; another number of arguments than a method takes, and keywords, aren't built, which is tested first

-- those that change the dict
abbrev pub changing_call : List Object → List ℕ → ℕ → List Value → Option Object → Doing
changing_call h name n args o =
    if bytes_eq name (codes "pop") then pop_call h n args o
    else if bytes_eq name (codes "setdefault") then setdefault_call h n args o
    else if bytes_eq name (codes "clear") then clear_call n args o
    else nothing

-- and those that give a view
abbrev pub viewing_call : List Object → List ℕ → ℕ → List Value → Option Object → Doing
viewing_call h name n args o =
    if bytes_eq name (codes "keys") then view_call h n view.Keys args o
    else if bytes_eq name (codes "values") then view_call h n view.Values args o
    else if bytes_eq name (codes "items") then view_call h n view.Both args o
    else changing_call h name n args o

abbrev pub plain_call : List Object → List ℕ → ℕ → List Value → Option Object → Doing
plain_call h name n args o =
    if bytes_eq name (codes "get") then get_call h args o
    else if bytes_eq name (codes "copy") then copy_call h args o
    else viewing_call h name n args o

abbrev pub without_keywords : NameList → Doing → Doing
without_keywords [] d = d
without_keywords (q ∷ qs) d = nothing

-- `update` leaves both to the binding of the function that it asks
abbrev pub update_call : List Object → ℕ → List Value → NameList → Option Object → Doing
update_call h n args names o = on_dict (λ pairs. ends (asks h (codes "_nu_update") (value.Obj n ∷ args) names behind.Plain)) o

abbrev pub call_on : List Object → List ℕ → ℕ → List Value → NameList → Option Object → Doing
call_on h name n args names o =
    if bytes_eq name (codes "update") then update_call h n args names o else without_keywords names (plain_call h name n args o)

abbrev pub len_call : List Object → List Value → Doing
len_call h (x ∷ []) = ends (len_row h x)
len_call h args = nothing

-- a native without a receiver
abbrev pub native_call : List Object → List ℕ → List Value → NameList → Doing
native_call h name args names = if bytes_eq name (codes "len") then without_keywords names (len_call h args) else nothing

abbrev pub method_call : List Object → List ℕ → Value → List Value → NameList → Doing
method_call h name (value.Obj n) args names = call_on h name n args names (slice_get h n)
method_call h name value.Unset args names = native_call h name args names
method_call h name other args names = nothing
