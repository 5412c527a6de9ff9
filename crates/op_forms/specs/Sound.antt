-- Sound worlds: every number of an object is that of an object of the kind that is asked for.
use Rattle.std.specs.Prelude.{◌≡◌, ◌≢◌, ℕ, ◌<◌, ◌≤◌, pos, List, [], ◌∷◌, length, Option, Some, None, Ok, ◌⊎◌, slice_get}
use Rattle.nu_value.specs.declared.value.Value.{Value}
use Rattle.nu_value.specs.declared.value.Value.TheVariants as value
use Rattle.nu_value.specs.declared.object.Object.{Object}
use Rattle.nu_value.specs.declared.object.Object.TheVariants as object
use Rattle.nu_value.specs.Keyed.{key}
use Rattle.nu_value.specs.declared.key.Atom.{Atom}
use Rattle.nu_value.specs.Names.{NameList, AreDistinct}
use Rattle.nu_value.specs.Natives.{native_classes}
use Rattle.nu_value.specs.Pairs.{PairList, key_place}
use Rattle.op_forms.specs.declared.end.After.{After}
use Rattle.op_forms.specs.declared.end.After.TheVariants as after
use Rattle.op_forms.specs.declared.end.How.{How}
use Rattle.op_forms.specs.declared.end.How.TheVariants as how
use Rattle.op_forms.specs.declared.end.OpEnd.{OpEnd}
use Rattle.op_forms.specs.declared.end.OpEnd.TheVariants as opend
use Rattle.op_forms.specs.declared.world.World.{World}
use Rattle.op_forms.specs.Parts.{AllOf, NamesOf, PartsOf}

-- the kinds of objects that others ask for
pub data Sort : Type 0 where
  ATuple : Sort
  AList : Sort
  ADict : Sort
  ARange : Sort
  AFunction : Sort
  AClass : Sort
  AGenerator : Sort
  AView : Sort
  ACell : Sort
  ASpace : Sort
  AnException : Sort
  Another : Sort

abbrev pub sort_of : Option Object → Sort
sort_of (Some (object.Tuple items)) = ATuple
sort_of (Some (object.List items)) = AList
sort_of (Some (object.Dict pairs)) = ADict
sort_of (Some (object.Range start stop step)) = ARange
sort_of (Some (object.Function code defaults keywords cells)) = AFunction
sort_of (Some (object.Class name base own native)) = AClass
sort_of (Some (object.Generator code state given cells)) = AGenerator
sort_of (Some (object.View dict kind)) = AView
sort_of (Some (object.Cell v)) = ACell
sort_of (Some (object.Space names)) = ASpace
sort_of (Some (object.Exception class args entries fields cause)) = AnException
sort_of other = Another

-- the object of this number is there, and of this kind
pub record IsA (h : List Object) (n : ℕ) (s : Sort) : Type 0 where
  pub there : n < length h
  pub sort : sort_of (slice_get h n) ≡ s

-- a value other than Unset; the object that it names is there
abbrev pub IsIn : List Object → Value → Type 0
IsIn h value.Unset = ⊥
IsIn h (value.Obj n) = n < length h
IsIn h other = Unit {0}

abbrev pub AllIn : List Object → List Value → Type 0
AllIn h = AllOf (IsIn h)

-- a cell
abbrev pub IsCell : List Object → Value → Type 0
IsCell h (value.Obj n) = IsA h n ACell
IsCell h other = ⊥

abbrev pub AreCells : List Object → List Value → Type 0
AreCells h [] = Unit {0}
AreCells h (v ∷ vs) = IsCell h v × AreCells h vs

-- no name stands twice
abbrev pub AreNamesDistinct : NameList → Type 0
AreNamesDistinct ps = AreDistinct ps

-- no key stands twice
abbrev pub AreKeysDistinct : PairList → Type 0
AreKeysDistinct [] = Unit {0}
AreKeysDistinct (p ∷ ps) = (key_place ps p.0 ≡ length ps) × AreKeysDistinct ps

-- a value that is there has this key
abbrev pub HasKey : List Object → List Atom → Value → Type 0
HasKey h k v = IsIn h v × (key h v ≡ Ok k)

-- the key of each pair is that of its first value
abbrev pub AreKeyed : List Object → PairList → Type 0
AreKeyed h [] = Unit {0}
AreKeyed h (p ∷ ps) = HasKey h p.0 p.1 × AreKeyed h ps

-- distinct names, with values
abbrev pub NamesIn : List Object → NameList → Type 0
NamesIn h ps = NamesOf (IsIn h) ps × AreNamesDistinct ps

-- the class that another stands under came before, unless it is one of the first objects
abbrev pub BaseIn : List Object → ℕ → Option ℕ → Type 0
BaseIn h number None = Unit {0}
BaseIn h number (Some base) = IsA h base AClass × (length native_classes ≤ number → base < number)

-- the exception that another was raised from
abbrev pub CauseIn : List Object → Option ℕ → Type 0
CauseIn h None = Unit {0}
CauseIn h (Some cause) = IsA h cause AnException

-- the kinds of objects that an iterator goes over
abbrev pub Iterates : Sort → Type 0
Iterates ATuple = Unit {0}
Iterates AList = Unit {0}
Iterates ADict = Unit {0}
Iterates ARange = Unit {0}
Iterates AView = Unit {0}
Iterates other = ⊥

-- a text, or an object that an iterator goes over
abbrev pub IsOver : List Object → Value → Type 0
IsOver h (value.Str text) = Unit {0}
IsOver h (value.Obj n) = Iterates (sort_of (slice_get h n))
IsOver h other = ⊥

-- what an object's names, keys and numbers have to be, in a heap with so many functions in the program
abbrev pub LinksIn : ℕ → List Object → ℕ → Object → Type 0
LinksIn codes h number (object.Tuple items) = Unit {0}
LinksIn codes h number (object.List items) = Unit {0}
LinksIn codes h number (object.Dict pairs) = AreKeysDistinct pairs × AreKeyed h pairs
LinksIn codes h number (object.Range start stop step) = step ≢ pos 0
LinksIn codes h number (object.Function code defaults keywords cells) = (code < codes) × AreNamesDistinct keywords × AreCells h cells
LinksIn codes h number (object.Method receiver function) = IsA h function AFunction
LinksIn codes h number (object.Class name base own native) = BaseIn h number base × AreNamesDistinct own
LinksIn codes h number (object.Instance class fields) = IsA h class AClass × AreNamesDistinct fields
LinksIn codes h number (object.Generator code state given cells) = (code < codes) × AreCells h cells
LinksIn codes h number (object.Iterator over place size over_now) = IsOver h over
LinksIn codes h number (object.View dict kind) = IsA h dict ADict
LinksIn codes h number (object.Cell v) = Unit {0}
LinksIn codes h number (object.Space names) = AreNamesDistinct names
LinksIn codes h number (object.Exception class args entries fields cause) = IsA h class AClass × AreNamesDistinct fields × CauseIn h cause
LinksIn codes h number (object.Builtin name receiver) = Unit {0}
LinksIn codes h number (object.Trace exception) = IsA h exception AnException

-- an object names what is there, of the kinds that it asks for
abbrev pub ObjectIn : ℕ → List Object → ℕ → Object → Type 0
ObjectIn codes h number o = PartsOf (IsIn h) o × LinksIn codes h number o

-- a heap in a program with so many functions
pub record SoundHeap (codes : ℕ) (h : List Object) : Type 0 where
  pub objects : (number : ℕ) (o : Object) → slice_get h number ≡ Some o → ObjectIn codes h number o
  -- it begins with the classes that no script makes
  pub natives : (number : ℕ) → number < length native_classes → slice_get h number ≡ slice_get native_classes number

-- A sound world. Behind those classes stand the built-in names.
pub record Sound (w : World) : Type 0 where
  pub heap : SoundHeap (length w.codes) w.heap
  pub first : w.builtins ≡ length native_classes
  pub builtins : IsA w.heap w.builtins ASpace
  pub names : IsA w.heap w.«module» ASpace

-- what stands behind an asked function names only objects that are there
abbrev pub AfterIn : List Object → After → Type 0
AfterIn h (after.Made made) = IsIn h made
AfterIn h (after.Report exception) = IsA h exception AnException
AfterIn h other = Unit {0}

abbrev pub HowIn : List Object → How → Type 0
HowIn h (how.Send v) = IsIn h v
HowIn h (how.Throw exception) = IsA h exception AnException
HowIn h how.Close = Unit {0}

-- an end of an operation names only objects that are there, each of the kind that is asked for
abbrev pub EndIn : List Object → OpEnd → Type 0
EndIn h (opend.Give v) = IsIn h v
EndIn h (opend.Raise n args) = (IsA h n AClass ⊎ IsA h n AnException) × AllIn h args
EndIn h (opend.Ask function items names after) = IsA h function AFunction × AllIn h items × NamesIn h names × AfterIn h after
EndIn h (opend.Resume generator h') = IsA h generator AGenerator × HowIn h h'
EndIn h (opend.Put text) = Unit {0}
EndIn h opend.Line = Unit {0}
EndIn h (opend.Stop kind) = Unit {0}
