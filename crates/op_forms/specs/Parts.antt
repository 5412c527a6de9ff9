-- What holds of the values that an object names.
use Rattle.std.specs.Prelude.{ℕ, List, [], ◌∷◌, Option, Some, None}
use Rattle.nu_value.specs.declared.value.Value.{Value}
use Rattle.nu_value.specs.declared.value.Value.TheVariants as value
use Rattle.nu_value.specs.declared.object.Object.{Object}
use Rattle.nu_value.specs.declared.object.Object.TheVariants as object
use Rattle.nu_value.specs.Names.{NameList}
use Rattle.nu_value.specs.Pairs.{PairList}

abbrev pub AllOf : (Value → Type 0) → List Value → Type 0
AllOf P [] = Unit {0}
AllOf P (v ∷ vs) = P v × AllOf P vs

abbrev pub NamesOf : (Value → Type 0) → NameList → Type 0
NamesOf P [] = Unit {0}
NamesOf P (p ∷ ps) = P p.1 × NamesOf P ps

abbrev pub PairsOf : (Value → Type 0) → PairList → Type 0
PairsOf P [] = Unit {0}
PairsOf P (p ∷ ps) = P p.1 × P p.2 × PairsOf P ps

abbrev pub ValueOf : (Value → Type 0) → Option Value → Type 0
ValueOf P None = Unit {0}
ValueOf P (Some v) = P v

-- Unset stands for no value
abbrev pub OrUnset : (Value → Type 0) → Value → Type 0
OrUnset P value.Unset = Unit {0}
OrUnset P v = P v

-- the object of a number, if there is one
abbrev pub NumberOf : (Value → Type 0) → Option ℕ → Type 0
NumberOf P None = Unit {0}
NumberOf P (Some n) = P (value.Obj n)

-- what an object names
abbrev pub PartsOf : (Value → Type 0) → Object → Type 0
PartsOf P (object.Tuple items) = AllOf P items
PartsOf P (object.List items) = AllOf P items
PartsOf P (object.Dict pairs) = PairsOf P pairs
PartsOf P (object.Range start stop step) = Unit {0}
PartsOf P (object.Function code defaults keywords cells) = AllOf P defaults × NamesOf P keywords × AllOf P cells
PartsOf P (object.Method receiver function) = P receiver × P (value.Obj function)
PartsOf P (object.Class name base own native) = NumberOf P base × NamesOf P own
PartsOf P (object.Instance class fields) = P (value.Obj class) × NamesOf P fields
PartsOf P (object.Generator code state given cells) = AllOf P given × AllOf P cells
PartsOf P (object.Iterator over place size over_now) = P over
PartsOf P (object.View dict kind) = P (value.Obj dict)
PartsOf P (object.Cell v) = OrUnset P v
PartsOf P (object.Space names) = NamesOf P names
PartsOf P (object.Exception class args entries fields cause) = P (value.Obj class) × AllOf P args × NamesOf P fields × NumberOf P cause
PartsOf P (object.Builtin name receiver) = OrUnset P receiver
PartsOf P (object.Trace exception) = P (value.Obj exception)
