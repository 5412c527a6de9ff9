-- The rows on classes, instances and exceptions (reference, sections 3.3 and 8.8).
use Rattle.std.specs.Prelude.{ℕ, List, [], ◌∷◌, Option, Some, Bool, true, false, not, ◌&&◌, ◌==◌, codes, if◌then◌else◌, slice_get}
use Rattle.nu_value.specs.declared.header.Header.{Header}
use Rattle.nu_value.specs.declared.object.Object.{Object}
use Rattle.nu_value.specs.declared.object.Object.TheVariants as object
use Rattle.nu_value.specs.declared.value.Value.{Value}
use Rattle.nu_value.specs.declared.value.Value.TheVariants as value
use Rattle.nu_value.specs.Classes.{is_under}
use Rattle.nu_value.specs.Names.{NameList}
use Rattle.nu_value.specs.Natives.{object_number, baseexception_number}
use Rattle.nu_value.specs.Same.{object_of}
use Rattle.op_forms.specs.declared.end.OpEnd.{OpEnd}
use Rattle.op_forms.specs.declared.op.Op.{Op}
use Rattle.op_forms.specs.declared.op.Op.TheVariants as op
use Rattle.op_forms.specs.Answers.{names_of}
use Rattle.op_forms.specs.Doing.{Doing, nothing, ends, makes}
use Rattle.op_rules.specs.Attributes.{attribute, setattr_row, delattr_row, manager_row}
use Rattle.op_rules.specs.ClassCalls.{method_call, type_row}
use Rattle.op_rules.specs.Exceptions.{exc_row, raise_row, match_row, trace_row}
use Rattle.op_rules.specs.Kinds.{type_error}
use Rattle.op_rules.specs.Specials.{special_row}

-- ---- making a class (reference, section 8.8)

-- of the classes that no script made, only `object` and exception classes have others under them
abbrev pub is_base : List Object → ℕ → Bool → Bool
is_base h base native = not (native && not (base == object_number) && not (is_under h (Some base) baseexception_number))

abbrev pub no_base : OpEnd
no_base = type_error (codes "bases must be classes")

abbrev pub class_under : List Object → List ℕ → ℕ → Option Object → Option Object → Doing
class_under h name base (Some (object.Class own above names native)) space =
    if is_base h base native then makes h (object.Class name (Some base) (names_of space) false) else nothing
class_under h name base other space = ends no_base

-- a class with the names of its block
abbrev pub class_made : List Object → List ℕ → Value → Value → Doing
class_made h name (value.Obj base) space = class_under h name base (slice_get h base) (object_of h space)
class_made h name other space = ends no_base

-- ---- the rows

-- on an instance, class or exception
abbrev pub class_row : Op → List Object → List Value → Doing
class_row o h args = ends (special_row o h args)

-- names of attributes and classes are texts
abbrev pub attr_of : Bool → List Header → List Object → Value → Value → Doing
attr_of find headers h x (value.Str name) = attribute find headers h x name
attr_of find headers h x other = nothing

abbrev pub setattr_of : List Object → Value → Value → Value → Doing
setattr_of h x (value.Str name) v = setattr_row h x name v
setattr_of h x other v = nothing

abbrev pub delattr_of : List Object → Value → Value → Doing
delattr_of h x (value.Str name) = delattr_row h x name
delattr_of h x other = nothing

abbrev pub manager_of : List Object → Value → Value → Doing
manager_of h x (value.Str name) = manager_row h x name
manager_of h x other = nothing

abbrev pub class_of : List Object → Value → Value → Value → Doing
class_of h (value.Str name) base space = class_made h name base space
class_of h other base space = nothing

-- of attributes, classes and exceptions, on any value; `find` gives None where `attr` fails
abbrev pub attribute_row : Op → List Header → List Object → List Value → Doing
attribute_row op.Attr headers h (x ∷ name ∷ []) = attr_of false headers h x name
attribute_row op.Find headers h (x ∷ name ∷ []) = attr_of true headers h x name
attribute_row op.SetAttr headers h (x ∷ name ∷ v ∷ []) = setattr_of h x name v
attribute_row op.DelAttr headers h (x ∷ name ∷ []) = delattr_of h x name
attribute_row op.Manager headers h (x ∷ name ∷ []) = manager_of h x name
attribute_row op.Class headers h (name ∷ base ∷ space ∷ []) = class_of h name base space
attribute_row op.ClassOf headers h (x ∷ []) = ends (type_row h x)
attribute_row op.Exc headers h (x ∷ []) = exc_row h x
attribute_row op.Raise headers h (x ∷ []) = ends (raise_row h x)
attribute_row op.Match headers h (e ∷ c ∷ []) = ends (match_row h e c)
attribute_row op.Trace headers h (x ∷ []) = trace_row h x
attribute_row o headers h args = nothing

-- a built-in of this name, with its receiver or none, is called with arguments and keywords
abbrev pub class_call : List Object → List ℕ → Value → List Value → NameList → Doing
class_call h name receiver args [] = method_call h name receiver args
class_call h name receiver args names = nothing
