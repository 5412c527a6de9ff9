-- Constructs that can't go wrong: each operation takes what its operands give, each name has its place, each function as many cells as
-- its code gets, and `break`, `continue`, a bare `raise` and `yield` stand where they mean something.
use Rattle.std.specs.Prelude.{◌≡◌, ℕ, ◌<◌, ◌≤◌, Bool, true, false, IsTrue, List, [], ◌∷◌, length, Option, Some, None, slice_get}
use Rattle.nu_value.specs.declared.value.Value.{Value}
use Rattle.nu_value.specs.declared.value.Value.TheVariants as value
use Rattle.op_forms.specs.declared.op.Op.{Op}
use Rattle.op_forms.specs.declared.op.Op.TheVariants as op
use Rattle.op_forms.specs.declared.signature.ArgumentKind.{ArgumentKind}
use Rattle.op_forms.specs.declared.signature.ArgumentKind.TheVariants as kind
use Rattle.op_forms.specs.Fits.{is_built_in}
use Rattle.op_forms.specs.Signature.{arguments, further}
use Rattle.py_meaning.specs.Syntax as syntax
use Rattle.py_safe.specs.Rosters.{Role, OfModule, OfFunction, OfClass, Roster, roster_of, IsBlock, IsCode}
use Rattle.py_safe.specs.Rules.{GivesTruth}

-- what a construct has around it: a frame with so many local variables, of which the first so many are never unbound, with so many cells
-- of its own and so many of enclosing functions; whether the first local variable holds the names of a class whose block runs; whether an
-- `except` clause stands around it, whose exception a bare `raise` raises again; and whether the code is a generator's
pub record Room : Type 0 where
  pub locals : ℕ
  pub bound : ℕ
  pub owns : ℕ
  pub frees : ℕ
  pub names : Bool
  pub handler : Bool
  pub yields : Bool

abbrev pub in_clause : Room → Room
in_clause r = record r { handler = true }

abbrev pub outside_clause : Room → Room
outside_clause r = record r { handler = false }

abbrev pub IsFalse : Bool → Type 0
IsFalse true = ⊥
IsFalse false = Unit {0}

-- Names

-- a name has its place in such a frame. A local variable may be unbound, which raises an exception where it is read
abbrev pub HasHome : Room → syntax.Home → Type 0
HasHome r (syntax.Local place name) = (place < r.locals) × IsFalse r.names
HasHome r (syntax.Own place name) = place < r.owns
HasHome r (syntax.Free place name) = place < r.frees
HasHome r (syntax.Module name) = Unit {0}
HasHome r (syntax.InClass name) = IsTrue r.names

-- and may be unbound
abbrev pub MayUnbind : Room → syntax.Home → Type 0
MayUnbind r (syntax.Local place name) = r.bound ≤ place
MayUnbind r other = Unit {0}

abbrev pub HasCell : Room → syntax.CellPlace → Type 0
HasCell r (syntax.OwnCell place) = place < r.owns
HasCell r (syntax.FreeCell place) = place < r.frees

abbrev pub HaveCells : Room → List syntax.CellPlace → Type 0
HaveCells r [] = Unit {0}
HaveCells r (p ∷ ps) = HasCell r p × HaveCells r ps

-- a function of this code, with as many cells as it gets
pub record IsMade (c : Roster) (r : Room) (code : ℕ) (role : Role) (cells : List syntax.CellPlace) : Type 0 where
  pub made : IsCode c code role
  pub count : length cells ≡ c.frees code
  pub have : HaveCells r cells

-- Operands

-- a constant is a value that is there before any object is
abbrev pub IsConstant : Value → Type 0
IsConstant value.Unset = ⊥
IsConstant (value.Obj n) = ⊥
IsConstant other = Unit {0}

abbrev pub IsText : syntax.Expression → Type 0
IsText (syntax.Constant (value.Str text)) = Unit {0}
IsText other = ⊥

abbrev pub IsTested : syntax.Expression → Type 0
IsTested (syntax.Operation line o xs) = GivesTruth o
IsTested other = ⊥

-- the name of a built-in
abbrev pub IsBuiltInName : syntax.Expression → Type 0
IsBuiltInName (syntax.Constant v) = is_built_in v ≡ true
IsBuiltInName other = ⊥

-- what an expression gives is of the kind that an operation takes: a bare name is a text, a truth value comes from an operation that
-- gives one, and any expression gives a value. No expression is known to give anything else that an operation asks for
abbrev pub Serves : ArgumentKind → syntax.Expression → Type 0
Serves kind.Name x = IsText x
Serves kind.BuiltinName x = IsBuiltInName x
Serves kind.Value x = Unit {0}
Serves kind.Bool x = IsTested x
Serves other x = ⊥

-- an operation takes two values
pub record TakesTwo (o : Op) : Type 0 where
  pub two : arguments o ≡ kind.Value ∷ kind.Value ∷ []
  pub only : further o ≡ None

-- what stands for `not in` gives a truth value
abbrev pub MayNegate : Bool → Op → Type 0
MayNegate true o = GivesTruth o
MayNegate false o = Unit {0}

-- Constructs of a program with these codes

module _ (c : Roster) where
  -- Expressions

  abbrev mutual
    pub LawfulExpression : Room → syntax.Expression → Type 0
    LawfulExpression r (syntax.Constant v) = IsConstant v
    LawfulExpression r (syntax.Name line home) = HasHome r home
    LawfulExpression r (syntax.Operation line o xs) = LawfulOperands r (arguments o) (further o) xs
    LawfulExpression r (syntax.Junction line any x y) = LawfulExpression r x × LawfulExpression r y
    LawfulExpression r (syntax.Conditional line test x y) = LawfulExpression r test × LawfulExpression r x × LawfulExpression r y
    LawfulExpression r (syntax.Comparison line x links) = LawfulExpression r x × LawfulLinks r links
    LawfulExpression r (syntax.Starred line tuple items) = LawfulItems r items
    LawfulExpression r (syntax.Dict line entries) = LawfulEntries r entries
    LawfulExpression r (syntax.Call line f args) = LawfulExpression r f × LawfulArguments r args
    LawfulExpression r (syntax.Function line code defaults keywords cells) = LawfulOperands r [] (Some kind.Value) defaults × LawfulKeywords r keywords × IsMade c r code OfFunction cells
    LawfulExpression r (syntax.Comprehension line code x cells) = LawfulExpression r x × IsMade c r code OfFunction cells
    LawfulExpression r (syntax.Yield line x) = IsTrue r.yields × LawfulExpression r x
    LawfulExpression r (syntax.YieldFrom line x) = IsTrue r.yields × LawfulExpression r x

    -- the operands, of which there are as many as an operation takes
    pub LawfulOperands : Room → List ArgumentKind → Option ArgumentKind → syntax.Expressions → Type 0
    LawfulOperands r [] more syntax.NoMore = Unit {0}
    LawfulOperands r [] None (syntax.More x xs) = ⊥
    LawfulOperands r [] (Some k) (syntax.More x xs) = Serves k x × LawfulExpression r x × LawfulOperands r [] (Some k) xs
    LawfulOperands r (k ∷ ks) more syntax.NoMore = ⊥
    LawfulOperands r (k ∷ ks) more (syntax.More x xs) = Serves k x × LawfulExpression r x × LawfulOperands r ks more xs

    pub LawfulLinks : Room → syntax.Links → Type 0
    LawfulLinks r (syntax.LastLink o negated x) = TakesTwo o × MayNegate negated o × LawfulExpression r x
    LawfulLinks r (syntax.Link o negated x links) = TakesTwo o × MayNegate negated o × LawfulExpression r x × LawfulLinks r links

    pub LawfulItems : Room → syntax.Items → Type 0
    LawfulItems r syntax.NoItem = Unit {0}
    LawfulItems r (syntax.Single x items) = LawfulExpression r x × LawfulItems r items
    LawfulItems r (syntax.Spread x items) = LawfulExpression r x × LawfulItems r items

    pub LawfulEntries : Room → syntax.Entries → Type 0
    LawfulEntries r syntax.NoEntry = Unit {0}
    LawfulEntries r (syntax.Pair x y entries) = LawfulExpression r x × LawfulExpression r y × LawfulEntries r entries
    LawfulEntries r (syntax.Merge x entries) = LawfulExpression r x × LawfulEntries r entries

    pub LawfulArguments : Room → syntax.Arguments → Type 0
    LawfulArguments r syntax.NoArgument = Unit {0}
    LawfulArguments r (syntax.Plain x args) = LawfulExpression r x × LawfulArguments r args
    LawfulArguments r (syntax.Star x args) = LawfulExpression r x × LawfulArguments r args
    LawfulArguments r (syntax.Keyword name x args) = LawfulExpression r x × LawfulArguments r args
    LawfulArguments r (syntax.DoubleStar x args) = LawfulExpression r x × LawfulArguments r args

    pub LawfulKeywords : Room → syntax.Keywords → Type 0
    LawfulKeywords r syntax.NoKeyword = Unit {0}
    LawfulKeywords r (syntax.Default name x keywords) = LawfulExpression r x × LawfulKeywords r keywords

  -- Targets

  abbrev mutual
    pub LawfulTarget : Room → syntax.Target → Type 0
    LawfulTarget r (syntax.ToName line home) = HasHome r home
    LawfulTarget r (syntax.ToAttribute line x name) = LawfulExpression r x
    LawfulTarget r (syntax.ToIndex line x y) = LawfulExpression r x × LawfulExpression r y
    LawfulTarget r (syntax.ToEach line ts) = LawfulTargets r ts
    LawfulTarget r (syntax.ToStarred line before star behind) = LawfulTargets r before × LawfulTarget r star × LawfulTargets r behind
    LawfulTarget r syntax.ToNothing = ⊥

    pub LawfulTargets : Room → syntax.Targets → Type 0
    LawfulTargets r syntax.NoTarget = Unit {0}
    LawfulTargets r (syntax.AlsoTo t ts) = LawfulTarget r t × LawfulTargets r ts

  -- a target that can be read
  abbrev pub IsSingle : syntax.Target → Type 0
  IsSingle (syntax.ToEach line ts) = ⊥
  IsSingle (syntax.ToStarred line before star behind) = ⊥
  IsSingle syntax.ToNothing = ⊥
  IsSingle other = Unit {0}

  -- what is deleted has no star
  abbrev mutual
    pub LawfulDeletion : Room → syntax.Target → Type 0
    LawfulDeletion r (syntax.ToName line home) = HasHome r home × MayUnbind r home
    LawfulDeletion r (syntax.ToAttribute line x name) = LawfulExpression r x
    LawfulDeletion r (syntax.ToIndex line x y) = LawfulExpression r x × LawfulExpression r y
    LawfulDeletion r (syntax.ToEach line ts) = LawfulDeletions r ts
    LawfulDeletion r (syntax.ToStarred line before star behind) = ⊥
    LawfulDeletion r syntax.ToNothing = ⊥

    pub LawfulDeletions : Room → syntax.Targets → Type 0
    LawfulDeletions r syntax.NoTarget = Unit {0}
    LawfulDeletions r (syntax.AlsoTo t ts) = LawfulDeletion r t × LawfulDeletions r ts

  -- Statements; `loop` says whether they stand in a loop of their code

  -- the name that an `except` clause binds
  abbrev pub LawfulCaught : Room → Option syntax.Caught → Type 0
  LawfulCaught r None = Unit {0}
  LawfulCaught r (Some name) = HasHome r name.home × MayUnbind r name.home

  abbrev pub LawfulDecorators : Room → List syntax.Decorator → Type 0
  LawfulDecorators r [] = Unit {0}
  LawfulDecorators r (d ∷ ds) = LawfulExpression r d.is × LawfulDecorators r ds

  abbrev mutual
    pub LawfulStatement : Room → Bool → syntax.Statement → Type 0
    LawfulStatement r loop (syntax.Evaluate x) = LawfulExpression r x
    LawfulStatement r loop (syntax.Assign targets x) = LawfulTargets r targets × LawfulExpression r x
    LawfulStatement r loop (syntax.Augment line o target x) = TakesTwo o × IsSingle target × LawfulTarget r target × LawfulExpression r x
    LawfulStatement r loop (syntax.Delete target) = LawfulDeletion r target
    LawfulStatement r loop syntax.Pass = Unit {0}
    LawfulStatement r loop syntax.Break = IsTrue loop
    LawfulStatement r loop syntax.Continue = IsTrue loop
    LawfulStatement r loop (syntax.Return x) = LawfulExpression r x
    LawfulStatement r loop (syntax.Raise line x) = LawfulExpression r x
    LawfulStatement r loop syntax.Reraise = IsTrue r.handler
    LawfulStatement r loop (syntax.Assert line test texts) = LawfulExpression r test × LawfulOperands r [] (Some kind.Value) texts
    LawfulStatement r loop (syntax.If line test body other) = LawfulExpression r test × LawfulBlock r loop body × LawfulBlock r loop other
    LawfulStatement r loop (syntax.While line test body other) = LawfulExpression r test × LawfulBlock r true body × LawfulBlock r loop other
    LawfulStatement r loop (syntax.For line target over body other) = LawfulTarget r target × LawfulExpression r over × LawfulBlock r true body × LawfulBlock r loop other
    LawfulStatement r loop (syntax.Try body handlers other) = LawfulBlock r loop body × LawfulHandlers r loop handlers × LawfulBlock r loop other
    LawfulStatement r loop (syntax.Finally body last) = LawfulBlock r loop body × LawfulBlock (outside_clause r) loop last
    LawfulStatement r loop (syntax.With line manager targets body) = LawfulExpression r manager × LawfulTargets r targets × LawfulBlock r loop body
    LawfulStatement r loop (syntax.Define line ds function home) = LawfulDecorators r ds × LawfulExpression r function × HasHome r home
    LawfulStatement r loop (syntax.Class line ds name base code cells home) = LawfulDecorators r ds × LawfulExpression r base × IsMade c r code OfClass cells × HasHome r home

    pub LawfulBlock : Room → Bool → syntax.Block → Type 0
    LawfulBlock r loop syntax.Done = Unit {0}
    LawfulBlock r loop (syntax.Then s rest) = LawfulStatement r loop s × LawfulBlock r loop rest

    pub LawfulHandlers : Room → Bool → syntax.Handlers → Type 0
    LawfulHandlers r loop syntax.NoHandler = Unit {0}
    LawfulHandlers r loop (syntax.Bare body) = LawfulBlock (in_clause r) loop body
    LawfulHandlers r loop (syntax.Handler line class name body handlers) = LawfulExpression r class × LawfulCaught r name × LawfulBlock (in_clause r) loop body × LawfulHandlers r loop handlers

  -- Comprehensions

  -- what a comprehension does in its turns: it adds to a list or a dict, or yields
  abbrev pub LawfulTurns : Room → Option Op → syntax.Turns → Type 0
  LawfulTurns r into (syntax.Push x) = (into ≡ Some op.List) × LawfulExpression r x
  LawfulTurns r into (syntax.Put x y) = (into ≡ Some op.Dict) × LawfulExpression r x × LawfulExpression r y
  LawfulTurns r into (syntax.Emit x) = IsTrue r.yields × LawfulExpression r x
  LawfulTurns r into (syntax.Ranging target over turns) = LawfulTarget r target × LawfulExpression r over × LawfulTurns r into turns
  LawfulTurns r into (syntax.Filter test turns) = LawfulExpression r test × LawfulTurns r into turns

  abbrev pub MayCollect : Option Op → Type 0
  MayCollect None = Unit {0}
  MayCollect (Some op.List) = Unit {0}
  MayCollect (Some op.Dict) = Unit {0}
  MayCollect (Some other) = ⊥

  -- Codes

  abbrev pub LawfulBody : Room → syntax.Body → Type 0
  LawfulBody r (syntax.Statements block) = LawfulBlock r false block
  LawfulBody r (syntax.Value' x) = LawfulExpression r x
  LawfulBody r (syntax.Collect line into target turns) = MayCollect into × (1 ≤ r.bound) × LawfulTarget r target × LawfulTurns r into turns

-- the first local variable of a comprehension, its iterator, is never unbound, nor the names of a class
abbrev pub bound_in : Role → syntax.Body → ℕ
bound_in OfClass body = 1
bound_in role (syntax.Collect line into target turns) = 1
bound_in role other = 0

abbrev pub is_class : Role → Bool
is_class OfClass = true
is_class other = false

abbrev pub room_of : Role → syntax.Code → Room
room_of role code = record { locals = code.locals; bound = bound_in role code.body; owns = length code.owns; frees = code.frees; names = is_class role; handler = false; yields = code.header.generator }

-- a cell holds a parameter at first, if anything
abbrev pub OwnsWithin : ℕ → List (Option ℕ) → Type 0
OwnsWithin n [] = Unit {0}
OwnsWithin n (None ∷ owns) = OwnsWithin n owns
OwnsWithin n (Some place ∷ owns) = (place < n) × OwnsWithin n owns

-- a module takes nothing, and a class's block its names; neither is a generator
abbrev pub RunAs : Role → syntax.Code → Type 0
RunAs OfModule code = (code.header.params ≡ []) × (code.frees ≡ 0) × IsFalse code.header.generator
RunAs OfClass code = IsBlock code.header
RunAs OfFunction code = Unit {0}

pub record LawfulCode (c : Roster) (role : Role) (code : syntax.Code) : Type 0 where
  pub run : RunAs role code
  pub params : length code.header.params ≤ code.locals
  pub bound : bound_in role code.body ≤ length code.header.params
  pub owns : OwnsWithin (length code.header.params) code.owns
  pub body : LawfulBody c (room_of role code) code.body

-- the codes of a program, each by its role; the first is the module of its script, and the first behind the script's codes, if there is
-- one, the module of a built-in text
pub record LawfulCodes (role : ℕ → Role) (scripts : ℕ) (codes : List syntax.Code) : Type 0 where
  pub some : scripts ≤ length codes
  pub script : (0 < scripts) × (role 0 ≡ OfModule)
  pub text : scripts < length codes → role scripts ≡ OfModule
  pub each : (n : ℕ) (code : syntax.Code) → slice_get codes n ≡ Some code → LawfulCode (roster_of role codes) (role n) code
