-- What a doing uses: only values of which something is claimed, where it is claimed of what objects name.
use Rattle.std.specs.Prelude.{◌≡◌, ◌⊎◌, ℕ, ◌+◌, ◌<◌, ◌≤◌, List, [], ◌∷◌, length, Option, Some, None, Bool, true, slice_get}
use Rattle.nu_value.specs.declared.header.Header.{Header}
use Rattle.nu_value.specs.declared.object.GenState.TheVariants as gen
use Rattle.nu_value.specs.declared.object.Object.{Object}
use Rattle.nu_value.specs.declared.object.Object.TheVariants as object
use Rattle.nu_value.specs.declared.value.Value.{Value}
use Rattle.nu_value.specs.declared.value.Value.TheVariants as value
use Rattle.nu_value.specs.Keyed.{object_kind}
use Rattle.nu_value.specs.Names.{NameList}
use Rattle.nu_value.specs.Natives.{native_classes}
use Rattle.nu_value.specs.Pairs.{PairList}
use Rattle.nu_value.specs.View.{is_text}
use Rattle.op_forms.specs.declared.end.After.{After}
use Rattle.op_forms.specs.declared.end.After.TheVariants as behind
use Rattle.op_forms.specs.declared.end.How.{How}
use Rattle.op_forms.specs.declared.end.How.TheVariants as how
use Rattle.op_forms.specs.declared.end.OpEnd.{OpEnd}
use Rattle.op_forms.specs.declared.end.OpEnd.TheVariants as opend
use Rattle.op_forms.specs.declared.op.Op.{Op}
use Rattle.op_forms.specs.declared.op.Op.TheVariants as op
use Rattle.op_forms.specs.declared.signature.ArgumentKind.{ArgumentKind}
use Rattle.op_forms.specs.declared.signature.ArgumentKind.TheVariants as kind
use Rattle.op_forms.specs.declared.world.World.{World}
use Rattle.op_forms.specs.Doing.{Change, Fill, Bind, Unbind, Hold, Move, Finish, Put, Fit, Doing}
use Rattle.op_forms.specs.Fits.{are_texts}
use Rattle.op_forms.specs.Parts.{AllOf, NamesOf, PairsOf, OrUnset, PartsOf}
use Rattle.op_forms.specs.Signature.{arguments}
use Rattle.op_forms.specs.Sound.{sort_of, AClass, AFunction, AGenerator, AnException, IsA, IsIn, AreNamesDistinct, AreKeysDistinct, HasKey, AreKeyed, LinksIn}

-- every object is there, of the kind that it was, and gives the key that it gave
pub record Grows (h more : List Object) : Type 0 where
  pub longer : length h ≤ length more
  pub sorts : (n : ℕ) → n < length h → sort_of (slice_get more n) ≡ sort_of (slice_get h n)
  pub kinds : (n : ℕ) → n < length h → object_kind n (slice_get more n) ≡ object_kind n (slice_get h n)

-- Claims

-- what is claimed of values, of functions that may be asked, and where a function may be made
pub record Claim : Type 1 where
  pub of : Value → Type 0
  pub asked : ℕ → Type 0
  pub makes : Type 0

-- that they name what is there
abbrev pub within : List Object → Claim
within h = record { of = IsIn h; asked = λ n. Unit {0}; makes = Unit {0} }

abbrev pub IsPlainValue : Value → Type 0
IsPlainValue value.Unset = ⊥
IsPlainValue (value.Obj n) = ⊥
IsPlainValue v = Unit {0}

-- what is known of the object of a number
pub record KnownObject (c : Claim) (w : World) (n : ℕ) (o : Object) : Type 0 where
  pub parts : PartsOf c.of o
  pub links : LinksIn (length w.codes) w.heap n o
  pub sort : IsA w.heap n (sort_of (Some o))
  pub at : slice_get w.heap n ≡ Some o

abbrev pub Known : Claim → World → ℕ → Option Object → Type 0
Known c w n None = Unit {0}
Known c w n (Some o) = KnownObject c w n o

-- a claim holds of plain values and classes, and of what objects name
pub record Closed (c : Claim) (w : World) : Type 0 where
  pub plain : (v : Value) → IsPlainValue v → c.of v
  pub classes : (n : ℕ) → IsA w.heap n AClass → c.of (value.Obj n)
  pub natives : (n : ℕ) → n < length native_classes → IsA w.heap n AClass
  pub asked : (n : ℕ) → c.of (value.Obj n) → c.asked n
  pub objects : (n : ℕ) → Known c w n (slice_get w.heap n)

-- What operations are given

-- a local variable may be Unset
abbrev pub GivenBy : (Value → Type 0) → List ArgumentKind → List Value → Type 0
GivenBy P [] vs = AllOf P vs
GivenBy P (k ∷ ks) [] = Unit {0}
GivenBy P (kind.Any ∷ ks) (v ∷ vs) = OrUnset P v × GivenBy P ks vs
GivenBy P (k ∷ ks) (v ∷ vs) = P v × GivenBy P ks vs

-- all but the first
abbrev pub RestOf : (Value → Type 0) → List Value → Type 0
RestOf P [] = Unit {0}
RestOf P (v ∷ vs) = AllOf P vs

-- a dict in which a text is put needn't be claimed
abbrev pub PutOf : (Value → Type 0) → List Value → Type 0
PutOf P (d ∷ value.Str text ∷ vs) = P (value.Str text) × AllOf P vs
PutOf P vs = AllOf P vs

-- nor a dict of keywords
abbrev pub CallOf : (Value → Type 0) → List Value → Type 0
CallOf P (f ∷ list ∷ d ∷ vs) = P f × P list × AllOf P vs
CallOf P vs = Unit {0}

abbrev pub Given : Claim → Op → List Value → Type 0
Given c op.KeyPut args = RestOf c.of args
Given c op.KeyMerge args = RestOf c.of args
Given c op.Put args = PutOf c.of args
Given c op.CallX args = CallOf c.of args
Given c op.Func args = c.makes × RestOf c.of args
Given c o args = GivenBy c.of (arguments o) args

-- What a doing uses

abbrev pub AfterOf : Claim → World → After → Type 0
AfterOf c w (behind.Made v) = c.of v
AfterOf c w (behind.Report exception) = IsA w.heap exception AnException
AfterOf c w other = Unit {0}

abbrev pub HowOf : Claim → World → How → Type 0
HowOf c w (how.Send v) = c.of v
HowOf c w (how.Throw exception) = IsA w.heap exception AnException
HowOf c w how.Close = Unit {0}

pub record AskOf (c : Claim) (w : World) (f : ℕ) (with : List Value) (by : NameList) (a : After) : Type 0 where
  pub function : IsA w.heap f AFunction
  pub known : c.asked f
  pub args : AllOf c.of with
  pub names : NamesOf c.of by
  pub distinct : AreNamesDistinct by
  pub after : AfterOf c w a

abbrev pub EndOf : Claim → World → OpEnd → Type 0
EndOf c w (opend.Give v) = c.of v
EndOf c w (opend.Raise n args) = (IsA w.heap n AClass ⊎ IsA w.heap n AnException) × AllOf c.of args
EndOf c w (opend.Ask f args names a) = AskOf c w f args names a
EndOf c w (opend.Resume g how) = IsA w.heap g AGenerator × HowOf c w how
EndOf c w (opend.Put text) = Unit {0}
EndOf c w opend.Line = Unit {0}
EndOf c w (opend.Stop kind) = Unit {0}

abbrev pub ChangeOf : Claim → World → Change → Type 0
ChangeOf c w (Fill items) = AllOf c.of items
ChangeOf c w (Bind name v) = c.of v
ChangeOf c w (Unbind name) = Unit {0}
ChangeOf c w (Hold v) = OrUnset c.of v
ChangeOf c w (Move place size) = Unit {0}
ChangeOf c w Finish = Unit {0}
ChangeOf c w (Put key given v) = c.of given × c.of v × HasKey w.heap key given
ChangeOf c w (Fit pairs) = PairsOf c.of pairs × AreKeysDistinct pairs × AreKeyed w.heap pairs

-- pairs have texts as keys where those of a dict do
abbrev pub KeepsTextsOf : Option Object → PairList → Type 0
KeepsTextsOf (Some (object.Dict old)) pairs = are_texts old ≡ true → are_texts pairs ≡ true
KeepsTextsOf other pairs = Unit {0}

-- a dict that has texts as keys keeps them
abbrev pub KeepsTexts : Change → Option Object → Type 0
KeepsTexts (Put key given v) o = is_text given ≡ true
KeepsTexts (Fit pairs) o = KeepsTextsOf o pairs
KeepsTexts other o = Unit {0}

abbrev pub SetOf : Claim → World → Option (ℕ × Change) → Type 0
SetOf c w None = Unit {0}
SetOf c w (Some p) = ChangeOf c w p.1 × (c.of (value.Obj p.0) ⊎ KeepsTexts p.1 (slice_get w.heap p.0))

-- a code takes so many values, and is a generator's or not
pub record Takes (headers : List Header) (code : ℕ) (generator : Bool) (given : List Value) : Type 0 where
  pub header : Header
  pub at : slice_get headers code ≡ Some header
  pub count : length given ≡ length header.params
  pub kind : header.generator ≡ generator

-- a generator that hasn't begun comes of a function
pub record Begins (c : Claim) (w : World) (code : ℕ) (given cells : List Value) : Type 0 where
  pub takes : Takes w.codes code true given
  pub function : ℕ
  pub defaults : List Value
  pub keywords : NameList
  pub is : slice_get w.heap function ≡ Some (object.Function code defaults keywords cells)
  pub known : c.asked function

abbrev pub NewOf : Claim → World → Object → Type 0
NewOf c w (object.Generator code state given cells) = (state ≡ gen.Fresh) × Begins c w code given cells
NewOf c w (object.Function code defaults keywords cells) = c.makes
NewOf c w other = Unit {0}

abbrev pub MadeOf : Claim → World → ℕ → List Object → Type 0
MadeOf c w n [] = Unit {0}
MadeOf c w n (o ∷ os) = (PartsOf c.of o × LinksIn (length w.codes) w.heap n o × NewOf c w o) × MadeOf c w (1 + n) os

pub record Uses (c : Claim) (w : World) (d : Doing) : Type 0 where
  pub end : EndOf c w d.end
  pub set : SetOf c w d.set
  pub made : MadeOf c w (length w.heap) d.made

-- it is claimed of the numbers of new objects
abbrev pub News : Claim → ℕ → List Object → Type 0
News c n [] = Unit {0}
News c n (o ∷ os) = c.of (value.Obj n) × News c (1 + n) os

abbrev pub Right : Claim → World → Doing → Type 0
Right c w d = News c (length w.heap) d.made → Uses c w d
