-- The world in which a run begins.
use Rattle.std.specs.Prelude.{ℕ, ◌+◌, List, [], ◌∷◌, ◌++◌, map, codes}
use Rattle.nu_value.specs.declared.header.Header.{Header}
use Rattle.nu_value.specs.declared.object.Object.{Object}
use Rattle.nu_value.specs.declared.object.Object.TheVariants as object
use Rattle.nu_value.specs.declared.value.Value.TheVariants as value
use Rattle.nu_value.specs.Names.{NameList, with_name}
use Rattle.nu_value.specs.Natives.{native_classes}
use Rattle.op_forms.specs.declared.world.World.{World}
use Rattle.op_rules.specs.declared.first_objects.TheConstants.{CLASS_NAMES, NATIVE_FUNCTIONS}

-- names that get values, from the first on
abbrev pub with_all : NameList → NameList → NameList
with_all ps [] = ps
with_all ps (p ∷ more) = with_all (with_name ps p.0 p.1) more

-- classes by their names
abbrev pub named_classes : NameList
named_classes = map (λ entry. (entry.0.now, value.Obj entry.1)) CLASS_NAMES

abbrev pub native_functions : List (List ℕ)
native_functions = map (λ entry. entry.now) NATIVE_FUNCTIONS

-- objects from a number on, by these names
abbrev pub numbered : ℕ → List (List ℕ) → NameList
numbered n [] = []
numbered n (name ∷ names) = (name, value.Obj n) ∷ numbered (n + 1) names

abbrev pub builtins_of : List (List ℕ) → List Object
builtins_of names = map (λ name. object.Builtin name value.Unset) names

abbrev pub built_in_names : NameList
built_in_names = with_all (with_all [] named_classes) (numbered 38 native_functions)

abbrev pub module_names : NameList
module_names = (codes "__name__", value.Str (codes "__main__")) ∷ []

-- the built-in names, their native functions, and the names of the module
abbrev pub first_objects : List Object
first_objects = object.Space built_in_names ∷ builtins_of native_functions ++ object.Space module_names ∷ []

abbrev pub start_world : List Header → World
start_world headers = record { heap = native_classes ++ first_objects; «module» = 61; builtins = 37; codes = headers }
