-- Rules of operations that keep law: arguments of the right kinds fit, and what an operation leaves and ends with is lawful.
use Rattle.std.specs.Prelude.{◌≡◌, ◌⊎◌, ◌<◌, ℕ, pos, List, [], ◌∷◌, ◌++◌, length, Option, Some, None, true, false, slice_get}
use Rattle.nu_run.specs.declared.StopKind.{StopKind}
use Rattle.nu_value.specs.declared.header.Header.{Header}
use Rattle.nu_value.specs.declared.object.Object.{Object}
use Rattle.nu_value.specs.declared.object.Object.TheVariants as object
use Rattle.nu_value.specs.declared.value.Value.{Value}
use Rattle.nu_value.specs.declared.value.Value.TheVariants as value
use Rattle.nu_value.specs.Names.{NameList}
use Rattle.op_forms.specs.declared.end.After.{After}
use Rattle.op_forms.specs.declared.end.After.TheVariants as behind
use Rattle.op_forms.specs.declared.end.How.{How}
use Rattle.op_forms.specs.declared.end.How.TheVariants as how
use Rattle.op_forms.specs.declared.end.OpEnd.{OpEnd}
use Rattle.op_forms.specs.declared.end.OpEnd.TheVariants as opend
use Rattle.op_forms.specs.declared.op.Op.{Op}
use Rattle.op_forms.specs.declared.op.Op.TheVariants as op
use Rattle.op_forms.specs.declared.world.World.{World}
use Rattle.op_forms.specs.Fits.{fits as args_fit}
use Rattle.op_forms.specs.Answers.{after}
use Rattle.op_forms.specs.Answers.{Answer}
use Rattle.op_forms.specs.Sound.{AClass, AnException, ASpace as Space, IsA, ObjectIn, Sound}
use Rattle.op_forms.specs.Rules.{Rules}
use Rattle.py_safe.specs.Rosters.{HasBlocks, Role, OfFunction, OfClass, Roster}
use Rattle.py_safe.specs.Heaps.{Mark, Open, Block, View, view, Nature, AList, ATuple, ADict, AGenerator, ACell, ASpace, AnError, nature_of, Grows, IsOpen, AllOpen, ObjectOpen, Takes, HeapLaw, KeepsGenerators, IsThere, AllThere, IsThrown, IsLoose}

-- What operations are known to give

-- operations that give a truth value, where they give one
abbrev pub GivesTruth : Op → Type 0
GivesTruth op.Truth = Unit {0}
GivesTruth op.Not = Unit {0}
GivesTruth op.In = Unit {0}
GivesTruth op.Is = Unit {0}
GivesTruth op.Match = Unit {0}
GivesTruth other = ⊥

abbrev pub IsTruth : Value → Type 0
IsTruth (value.Bool b) = Unit {0}
IsTruth other = ⊥

-- what stands behind an asked function makes a truth value of its value
abbrev pub TruthBehind : After → Type 0
TruthBehind behind.Truth = Unit {0}
TruthBehind behind.Some = Unit {0}
TruthBehind other = ⊥

-- an end that gives something gives a truth value, at once or behind a function
abbrev pub EndIsTruth : OpEnd → Type 0
EndIsTruth (opend.Give v) = IsTruth v
EndIsTruth (opend.Raise n args) = Unit {0}
EndIsTruth (opend.Ask f given names after) = TruthBehind after
EndIsTruth (opend.Stop kind) = Unit {0}
EndIsTruth other = ⊥

-- the nature of the object that an operation gives, where it is known to give one
abbrev pub gives_nature : Op → Option Nature
gives_nature op.Cell = Some ACell
gives_nature op.Tuple = Some ATuple
gives_nature op.List = Some AList
gives_nature op.Dict = Some ADict
gives_nature op.Space = Some ASpace
gives_nature op.Exc = Some AnError
gives_nature other = None

-- it names an object of this nature
abbrev pub IsOf : List Object → Nature → Value → Type 0
IsOf h s (value.Obj n) = nature_of (slice_get h n) ≡ s
IsOf h s other = ⊥

-- what stands behind an asked function gives such an object, that is there already, if anything
abbrev pub OfBehind : List Object → Nature → After → Type 0
OfBehind h s (behind.Made made) = IsOf h s made
OfBehind h s other = ⊥

-- an end that gives something gives such an object, at once or behind a function
abbrev pub EndIsOf : List Object → Option Nature → OpEnd → Type 0
EndIsOf h None e = Unit {0}
EndIsOf h (Some s) (opend.Give v) = IsOf h s v
EndIsOf h (Some s) (opend.Raise n args) = Unit {0}
EndIsOf h (Some s) (opend.Ask f given names after) = OfBehind h s after
EndIsOf h (Some s) (opend.Stop kind) = Unit {0}
EndIsOf h (Some s) other = ⊥

-- an end that gives something gives this value
abbrev pub EndIsThis : Value → OpEnd → Type 0
EndIsThis made (opend.Give v) = v ≡ made
EndIsThis made (opend.Raise n args) = Unit {0}
EndIsThis made (opend.Stop kind) = Unit {0}
EndIsThis made other = ⊥

-- Lawful ends

abbrev pub AfterLaw : View → After → Type 0
AfterLaw v (behind.Made made) = IsThere v made
AfterLaw v (behind.Report exception) = IsThrown v exception
AfterLaw v other = Unit {0}

abbrev pub HowLaw : View → How → Type 0
HowLaw v (how.Send x) = IsThere v x
HowLaw v (how.Throw exception) = IsThrown v exception
HowLaw v how.Close = Unit {0}

-- what a body is begun with: the block of a class with new names
abbrev pub GivenAs : View → Role → List Value → Type 0
GivenAs v OfFunction given = Unit {0}
GivenAs v OfClass (value.Obj n ∷ []) = IsA v.heap n Space
GivenAs v role given = ⊥

-- the body of a function, that is no generator, may be begun with these values
abbrev pub MayBegin : Roster → View → Option Object → List Value → Type 0
MayBegin c v (Some (object.Function code defaults keywords cells)) given = Takes c code false given × AllThere v given × GivenAs v (c.role code) given
MayBegin c v other given = ⊥

-- a class or an exception
abbrev pub MayRaise : View → ℕ → Type 0
MayRaise v n = (IsA v.heap n AClass ⊎ IsA v.heap n AnException) × (v.marks n ≡ Open)

abbrev pub EndLaw : Roster → View → OpEnd → Type 0
EndLaw c v (opend.Give x) = IsThere v x
EndLaw c v (opend.Raise n args) = MayRaise v n × AllThere v args
EndLaw c v (opend.Ask f given names after) = MayBegin c v (slice_get v.heap f) given × (names ≡ []) × AfterLaw v after
EndLaw c v (opend.Resume g h) = ((code : ℕ) × (nature_of (slice_get v.heap g) ≡ AGenerator code)) × HowLaw v h
EndLaw c v (opend.Put text) = Unit {0}
EndLaw c v opend.Line = Unit {0}
EndLaw c v (opend.Stop kind) = Unit {0}

-- an end that begins no body, prints nothing and reads nothing
abbrev pub IsAtOnce : OpEnd → Type 0
IsAtOnce (opend.Give v) = Unit {0}
IsAtOnce (opend.Raise n args) = Unit {0}
IsAtOnce (opend.Stop kind) = Unit {0}
IsAtOnce other = ⊥

-- an end that resumes no generator, prints nothing and reads nothing
abbrev pub IsCall : OpEnd → Type 0
IsCall (opend.Give v) = Unit {0}
IsCall (opend.Raise n args) = Unit {0}
IsCall (opend.Ask f given names after) = Unit {0}
IsCall (opend.Stop kind) = Unit {0}
IsCall other = ⊥

-- what an operation leaves, in a world with these marks: new objects have none
pub record Leaves (c : Roster) (w : World) (marks : ℕ → Mark) (x : Answer) : Type 0 where
  pub sound : Sound (after w x)
  pub law : HeapLaw c (view x.heap marks)
  pub grows : Grows (view w.heap marks) (view x.heap marks)
  pub generators : KeepsGenerators w.heap x.heap
  pub end : EndLaw c (view x.heap marks) x.end

-- one new object is given, or a stop ends all
pub record Makes (h : List Object) (o : Object) (x : Answer) : Type 0 where
  pub end : x.end ≡ opend.Give (value.Obj (length h))
  pub heap : x.heap ≡ h ++ o ∷ []

abbrev pub Stops : List Object → Answer → Type 0
Stops h x = (kind : StopKind) × (x.end ≡ opend.Stop kind) × (x.heap ≡ h)

-- a function is made of a code, its defaults and cells
pub record MakesFunction (w : World) (marks : ℕ → Mark) (code : ℕ) (cells : List Value) (x : Answer) : Type 0 where
  pub defaults : List Value
  pub keywords : NameList
  pub is : Makes w.heap (object.Function code defaults keywords cells) x
  pub inside : ObjectIn (length w.codes) w.heap (length w.heap) (object.Function code defaults keywords cells)
  pub opens : ObjectOpen marks (object.Function code defaults keywords cells)

-- What operations are handed

-- the dict that collects keywords is handed to some operations alone; with texts as keys it keeps them
abbrev pub Handed : (ℕ → Mark) → Op → List Value → Type 0
Handed marks op.KeyPut (d ∷ rest) = IsLoose marks d × AllOpen marks rest
Handed marks op.KeyMerge (d ∷ rest) = IsLoose marks d × AllOpen marks rest
Handed marks op.Put (d ∷ value.Str text ∷ rest) = IsLoose marks d × AllOpen marks rest
Handed marks op.CallX (f ∷ list ∷ d ∷ rest) = IsOpen marks f × IsOpen marks list × IsLoose marks d × AllOpen marks rest
Handed marks op.Func args = ⊥
Handed marks o args = AllOpen marks args

-- a world of a program with these codes
pub record WorldLaw (c : Roster) (w : World) (marks : ℕ → Mark) : Type 0 where
  pub sound : Sound w
  pub law : HeapLaw c (view w.heap marks)
  pub codes : w.codes ≡ c.headers

-- in every lawful world
pub record KeepsLaw (rules : Rules) : Type 0 where
  pub fits : (o : Op) (w : World) (args : List Value) → Sound w → args_fit o w args ≡ true → rules.fits o w args ≡ true
  pub truth : (o : Op) (w : World) (args : List Value) → GivesTruth o → args_fit o w args ≡ true → EndIsTruth (rules.apply o w args).end
  pub makes : (o : Op) (w : World) (args : List Value) → args_fit o w args ≡ true → EndIsOf (rules.apply o w args).heap (gives_nature o) (rules.apply o w args).end
  pub apply : (c : Roster) (o : Op) (w : World) (marks : ℕ → Mark) (args : List Value) → WorldLaw c w marks → args_fit o w args ≡ true → Handed marks o args → Leaves c w marks (rules.apply o w args)
  -- a dict is new and empty
  pub dict : (w : World) → Makes w.heap (object.Dict []) (rules.apply op.Dict w []) ⊎ Stops w.heap (rules.apply op.Dict w [])
  pub func : (c : Roster) (w : World) (marks : ℕ → Mark) (code : ℕ) (tuple dict : Value) (cells : List Value) → WorldLaw c w marks → args_fit op.Func w (value.Int (pos code) ∷ tuple ∷ dict ∷ cells) ≡ true → IsOpen marks tuple → IsLoose marks dict → AllOpen marks cells → MakesFunction w marks code cells (rules.apply op.Func w (value.Int (pos code) ∷ tuple ∷ dict ∷ cells)) ⊎ Stops w.heap (rules.apply op.Func w (value.Int (pos code) ∷ tuple ∷ dict ∷ cells))
  -- the function of a class's block is called once, with new names
  pub block : (c : Roster) (w : World) (marks : ℕ → Mark) (f names : ℕ) → HasBlocks c → WorldLaw c w marks → marks f ≡ Block → f < length w.heap → IsA w.heap names Space → marks names ≡ Open → Leaves c w marks (rules.apply op.Call w (value.Obj f ∷ value.Obj names ∷ []))
  pub bind : (c : Roster) (w : World) (marks : ℕ → Mark) (f : ℕ) (args : List Value) (a : After) → WorldLaw c w marks → IsThere (view w.heap marks) (value.Obj f) → AllThere (view w.heap marks) args → AfterLaw (view w.heap marks) a → Leaves c w marks (rules.bind w f args a) × IsCall (rules.bind w f args a).end
  pub finish : (c : Roster) (w : World) (marks : ℕ → Mark) (a : After) (v : Value) → WorldLaw c w marks → AfterLaw (view w.heap marks) a → IsThere (view w.heap marks) v → Leaves c w marks (rules.finish a w v) × IsAtOnce (rules.finish a w v).end
  pub finish_truth : (a : After) (w : World) (v : Value) → TruthBehind a → EndIsTruth (rules.finish a w v).end
  pub finish_made : (made : Value) (w : World) (v : Value) → EndIsThis made (rules.finish (behind.Made made) w v).end
  -- so is the world in which a run begins, in which nothing is marked and no generator has begun
  pub start : (c : Roster) → WorldLaw c (rules.start c.headers) (λ n. Open)
  pub idle : (headers : List Header) → KeepsGenerators [] (rules.start headers).heap
