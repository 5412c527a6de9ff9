-- Attributes: those of a value itself, then those of its class and the classes outward (reference, sections 3.2, 3.3.2 and 6.3.1).
use Rattle.std.specs.Prelude.{ℕ, List, [], ◌∷◌, ◌++◌, nat_le, length, map, nat_eq, Option, Some, None, Bool, true, false, not, ◌&&◌, codes, if◌then◌else◌, slice_get}
use Rattle.std.specs.List.{starts_with, ends_with}
use Rattle.std.specs.Str.{bytes_eq}
use Rattle.nu_text.specs.Names.{is_among}
use Rattle.nu_value.specs.declared.header.Header.{Header}
use Rattle.nu_value.specs.declared.object.Object.{Object}
use Rattle.nu_value.specs.declared.object.Object.TheVariants as object
use Rattle.nu_value.specs.declared.value.Value.{Value}
use Rattle.nu_value.specs.declared.value.Value.TheVariants as value
use Rattle.nu_value.specs.Classes.{is_under, found_in}
use Rattle.nu_value.specs.Names.{NameList, value_at}
use Rattle.nu_value.specs.Natives.{baseexception_number}
use Rattle.nu_value.specs.Same.{object_of}
use Rattle.op_forms.specs.declared.end.OpEnd.{OpEnd}
use Rattle.op_forms.specs.declared.end.OpEnd.TheVariants as opend
use Rattle.op_forms.specs.Answers.{unbuilt}
use Rattle.op_forms.specs.Doing.{Bind, Unbind, Doing, nothing, ends, gives, changes, makes}
use Rattle.op_rules.specs.declared.attribute_names.TheConstants.{SPECIAL_NAMES, LIST_METHODS, TUPLE_METHODS, DICT_METHODS, TEXT_METHODS, GENERATOR_METHODS}
use Rattle.op_rules.specs.declared.special.Special.{Special}
use Rattle.op_rules.specs.declared.special.Special.TheVariants as special
use Rattle.op_rules.specs.Kinds.{kind_name, raised, type_error}
use Rattle.op_rules.specs.Specials.{any_special}
use Rattle.op_rules.specs.Subclasses.{class_of}

-- ---- names

-- the identifiers between double underscores that a script may have
unfoldable pub special_names : List (List ℕ)
special_names = map (λ entry. entry.now) SPECIAL_NAMES

-- an identifier of five or more characters between double underscores that is none of them
abbrev pub is_unwritten : List ℕ → Bool
is_unwritten x =
    starts_with nat_eq x (codes "__") && ends_with nat_eq x (codes "__") && nat_le 5 (length x) && not (is_among special_names x)

-- the methods that no script made
unfoldable pub list_methods : List (List ℕ)
list_methods = map (λ entry. entry.now) LIST_METHODS

unfoldable pub tuple_methods : List (List ℕ)
tuple_methods = map (λ entry. entry.now) TUPLE_METHODS

unfoldable pub dict_methods : List (List ℕ)
dict_methods = map (λ entry. entry.now) DICT_METHODS

unfoldable pub text_methods : List (List ℕ)
text_methods = map (λ entry. entry.now) TEXT_METHODS

unfoldable pub generator_methods : List (List ℕ)
generator_methods = map (λ entry. entry.now) GENERATOR_METHODS

abbrev pub has_method : Option Object → List ℕ → Bool
has_method (Some (object.List items)) name = is_among list_methods name
has_method (Some (object.Tuple items)) name = is_among tuple_methods name
has_method (Some (object.Dict pairs)) name = is_among dict_methods name
has_method (Some (object.Generator code state given cells)) name = is_among generator_methods name
has_method other name = false

-- ---- what isn't there

abbrev pub attribute_error : List ℕ → OpEnd
attribute_error = raised 25

abbrev pub no_attribute : List Object → Value → List ℕ → OpEnd
no_attribute h x name = attribute_error (codes "'" ++ kind_name h x ++ codes "' object has no attribute '" ++ name ++ codes "'")

-- what a script made or raised: an instance, an exception, or a script's class
abbrev pub is_open : Option Object → Bool
is_open (Some (object.Instance class fields)) = true
is_open (Some (object.Exception class args entries fields cause)) = true
is_open (Some (object.Class name base own native)) = not native
is_open other = false

-- There an attribute may be absent: that is an error, or None where it is but looked for. Elsewhere an unknown name is the stop
-- Unbuilt, or None where it is but looked for; a name between double underscores that no script may have is that stop anyhow.
abbrev pub absent : Bool → List Object → Value → List ℕ → OpEnd
absent true h x name = opend.Give value.None
absent false h x name = no_attribute h x name

abbrev pub unknown : Bool → OpEnd
unknown true = opend.Give value.None
unknown false = unbuilt

abbrev pub unwritten : Bool → Option Object → OpEnd
unwritten true o = if is_open o then unbuilt else opend.Give value.None
unwritten false o = unbuilt

-- ---- what is there

abbrev pub gives_or : Option Value → Doing → Doing
gives_or None other = other
gives_or (Some v) other = gives v

-- what was found on the class of a value: a function becomes a method of that value
abbrev pub method_or : List Object → Value → Value → Option Object → Doing
method_or h x (value.Obj f) (Some (object.Function code defaults keywords cells)) = makes h (object.Method x f)
method_or h x v other = gives v

abbrev pub bound_or : List Object → Value → Option Value → Doing → Doing
bound_or h x None other = other
bound_or h x (Some v) other = method_or h x v (object_of h v)

abbrev pub first_or_none : List Value → Value
first_or_none [] = value.None
first_or_none (v ∷ vs) = v

-- an exception has its arguments, and one of StopIteration the value that it carries; where no script gave it an `__init__`, it has
-- one that sets the arguments
abbrev pub exception_attribute : Bool → List Object → ℕ → List ℕ → ℕ → List Value → Doing
exception_attribute find h n name class args =
    if bytes_eq name (codes "args") then makes h (object.Tuple args)
    else if bytes_eq name (codes "value") && is_under h (Some class) 34 then gives (first_or_none args)
    else if bytes_eq name (codes "__init__") then makes h (object.Builtin name (value.Obj n))
    else ends (absent find h (value.Obj n) name)

abbrev pub class_attribute : Bool → List Object → ℕ → List ℕ → Bool → Doing
class_attribute find h n name native =
    if bytes_eq name (codes "__init__") && is_under h (Some n) baseexception_number then makes h (object.Builtin name value.Unset)
    else if native then ends (unknown find)
    else ends (absent find h (value.Obj n) name)

abbrev pub scope_of : Option Header → OpEnd
scope_of None = unbuilt
scope_of (Some header) = opend.Give (value.Str header.scope)

-- what a value without fields has: methods that no script made
abbrev pub plain_attribute : Bool → List Object → ℕ → List ℕ → Option Object → Doing
plain_attribute find h n name o = if has_method o name then makes h (object.Builtin name (value.Obj n)) else ends (unknown find)

abbrev pub text_attribute : Bool → List Object → Value → List ℕ → Doing
text_attribute find h x name = if is_among text_methods name then makes h (object.Builtin name x) else ends (unknown find)

-- fields come before what the class has; a class has its own names and those of the classes outward
abbrev pub object_attribute : Bool → List Header → List Object → ℕ → List ℕ → Option Object → Doing
object_attribute find headers h n name (Some (object.Instance class fields)) =
    gives_or (value_at fields name) (bound_or h (value.Obj n) (found_in h class name) (ends (absent find h (value.Obj n) name)))
object_attribute find headers h n name (Some (object.Exception class args entries fields cause)) =
    gives_or (value_at fields name) (bound_or h (value.Obj n) (found_in h class name) (exception_attribute find h n name class args))
object_attribute find headers h n name (Some (object.Class own base names native)) =
    if bytes_eq name (codes "__name__") then gives (value.Str own)
    else gives_or (found_in h n name) (class_attribute find h n name native)
object_attribute find headers h n name (Some (object.Function code defaults keywords cells)) =
    if bytes_eq name (codes "__name__") then ends (scope_of (slice_get headers code)) else ends (unknown find)
object_attribute find headers h n name other = plain_attribute find h n name other

abbrev pub value_attribute : Bool → List Header → List Object → Value → List ℕ → Doing
value_attribute find headers h (value.Obj n) name = object_attribute find headers h n name (slice_get h n)
value_attribute find headers h (value.Str text) name = text_attribute find h (value.Str text) name
value_attribute find headers h x name = ends (unknown find)

abbrev pub attribute : Bool → List Header → List Object → Value → List ℕ → Doing
attribute find headers h x name =
    if is_unwritten name then ends (unwritten find (object_of h x))
    else if bytes_eq name (codes "__class__") then gives (value.Obj (class_of h x))
    else value_attribute find headers h x name

-- ---- setting and deleting

abbrev pub is_native : Option Object → Bool
is_native (Some (object.Class name base own native)) = native
is_native other = true

-- what a name of an exception means is its own, and no field
abbrev pub is_fixed : List Object → ℕ → List ℕ → Bool
is_fixed h class name = if bytes_eq name (codes "args") then true else bytes_eq name (codes "value") && is_under h (Some class) 34

-- fields of instances and of exceptions of scripts' classes, and names of scripts' classes
abbrev pub may_change : List Object → List ℕ → Option Object → Bool
may_change h name (Some (object.Instance class fields)) = true
may_change h name (Some (object.Exception class args entries fields cause)) = not (is_native (slice_get h class)) && not (is_fixed h class name)
may_change h name (Some (object.Class own base names native)) = not native && not (bytes_eq name (codes "__name__"))
may_change h name other = false

abbrev pub may_name : List ℕ → Bool
may_name name = not (is_unwritten name) && not (bytes_eq name (codes "__class__"))

abbrev pub set_on : List Object → ℕ → List ℕ → Value → Doing
set_on h n name v = if may_name name && may_change h name (slice_get h n) then changes n (Bind name v) else nothing

abbrev pub setattr_row : List Object → Value → List ℕ → Value → Doing
setattr_row h (value.Obj n) name v = set_on h n name v
setattr_row h x name v = nothing

abbrev pub own_names : Option Object → NameList
own_names (Some (object.Instance class fields)) = fields
own_names (Some (object.Exception class args entries fields cause)) = fields
own_names (Some (object.Class name base own native)) = own
own_names other = []

abbrev pub remove_name : List Object → ℕ → List ℕ → Option Value → Doing
remove_name h n name None = ends (no_attribute h (value.Obj n) name)
remove_name h n name (Some v) = changes n (Unbind name)

abbrev pub delete_on : List Object → ℕ → List ℕ → Doing
delete_on h n name =
    if may_name name && may_change h name (slice_get h n) then remove_name h n name (value_at (own_names (slice_get h n)) name) else nothing

abbrev pub delattr_row : List Object → Value → List ℕ → Doing
delattr_row h (value.Obj n) name = delete_on h n name
delattr_row h x name = nothing

-- ---- special methods by their names

abbrev pub no_manager : List Object → Value → OpEnd
no_manager h x = type_error (codes "'" ++ kind_name h x ++ codes "' object does not support the context manager protocol")

abbrev pub method_of : List Object → Value → Special → Doing → Doing
method_of h x special.Absent other = other
method_of h x (special.Function f) other = makes h (object.Method x f)
method_of h x special.Other other = nothing

-- what `with` calls (reference, section 3.3.9)
abbrev pub manager_row : List Object → Value → List ℕ → Doing
manager_row h x name = method_of h x (any_special h (object_of h x) name) (ends (no_manager h x))
