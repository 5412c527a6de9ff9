-- The operations that a scope's own text asks for: for each construct one entry for each operation that its row has, for each part, sign,
-- target, clause or decorator that the row goes over.
use Rattle.std.specs.Prelude.{ℕ, Bool, true, false, if◌then◌else◌, List, [], ◌∷◌, ◌++◌, Option, Some, None, codes}
use Rattle.nu_value.specs.declared.value.Value.TheVariants as value
use Rattle.op_forms.specs.declared.op.Op.{Op}
use Rattle.op_forms.specs.declared.op.Op.TheVariants as op
use Rattle.op_forms.specs.declared.signature.ArgumentKind.{ArgumentKind}
use Rattle.op_forms.specs.declared.signature.ArgumentKind.TheVariants as kind
use Rattle.op_forms.specs.Signature.{arguments}
use Rattle.py_meaning.specs.Syntax as syntax

-- an operation, with its bare name, if it has one
pub record Own : Type 0 where
  pub op : Op
  pub name : Option (List ℕ)

-- what may stand anywhere, as often as it likes
abbrev pub is_free : Op → Bool
is_free op.Native = true
is_free op.Match = true
is_free op.Is = true
is_free op.IsNot = true
is_free op.Not = true
is_free op.Truth = true
is_free op.Cell = true
is_free op.CellSet = true
is_free other = false

abbrev pub entry : Op → Option (List ℕ) → List Own
entry o name = if is_free o then [] else record { op = o; name = name } ∷ []

abbrev pub bare : Op → List Own
bare o = entry o None

abbrev pub named : Op → List ℕ → List Own
named o name = entry o (Some name)

-- the bare name among operands
abbrev pub name_among : List ArgumentKind → syntax.Expressions → Option (List ℕ)
name_among (kind.Name ∷ kinds) (syntax.More (syntax.Constant (value.Str name)) xs) = Some name
name_among (k ∷ kinds) (syntax.More x xs) = name_among kinds xs
name_among kinds xs = None

-- Names

abbrev pub loads : syntax.Home → List Own
loads (syntax.Local place name) = named op.Local name
loads (syntax.Own place name) = named op.CellGet name
loads (syntax.Free place name) = named op.FreeGet name
loads (syntax.Module name) = named op.Global name
loads (syntax.InClass name) = named op.SpaceGet name

abbrev pub stores : syntax.Home → List Own
stores (syntax.Local place name) = []
stores (syntax.Own place name) = bare op.CellSet
stores (syntax.Free place name) = bare op.CellSet
stores (syntax.Module name) = named op.SetGlobal name
stores (syntax.InClass name) = named op.SpaceSet name

abbrev pub unbinds : syntax.Home → List Own
unbinds (syntax.Local place name) = named op.Local name
unbinds (syntax.Own place name) = named op.CellDel name
unbinds (syntax.Free place name) = named op.FreeDel name
unbinds (syntax.Module name) = named op.DelGlobal name
unbinds (syntax.InClass name) = named op.SpaceDel name

-- Expressions

abbrev pub delegates : List Own
delegates =
    bare op.Iter ++ bare op.Next ++ bare op.Next ++ named op.Attr (codes "send") ++ bare op.Call ++ named op.Find (codes "close") ++ bare op.Call
    ++ named op.Find (codes "throw") ++ bare op.Call ++ named op.Attr (codes "value")

-- a function without defaults
abbrev pub bare_function : List Own
bare_function = bare op.Tuple ++ bare op.Dict ++ bare op.Func

abbrev mutual
  pub expression : syntax.Expression → List Own
  expression (syntax.Constant v) = []
  expression (syntax.Name line home) = loads home
  expression (syntax.Operation line o xs) = entry o (name_among (arguments o) xs) ++ each xs
  expression (syntax.Junction line any x y) = expression x ++ expression y
  expression (syntax.Conditional line test x y) = expression test ++ expression x ++ expression y
  expression (syntax.Comparison line x links) = expression x ++ compared links
  expression (syntax.Starred line tuple items) = bare op.List ++ filled items ++ (if tuple then bare op.Call else [])
  expression (syntax.Dict line entries) = bare op.Dict ++ entered entries
  expression (syntax.Call line f arguments) = expression f ++ bare op.List ++ passed arguments ++ bare op.Dict ++ bare op.CallX
  expression (syntax.Function line code defaults keywords cells) = each defaults ++ defaulted keywords ++ bare_function
  expression (syntax.Comprehension line code x cells) = expression x ++ bare op.Iter ++ bare_function ++ bare op.Call
  expression (syntax.Yield line x) = expression x
  expression (syntax.YieldFrom line x) = expression x ++ delegates

  pub each : syntax.Expressions → List Own
  each syntax.NoMore = []
  each (syntax.More x xs) = expression x ++ each xs

  pub compared : syntax.Links → List Own
  compared (syntax.LastLink o negated x) = expression x ++ bare o
  compared (syntax.Link o negated x links) = expression x ++ bare o ++ compared links

  pub filled : syntax.Items → List Own
  filled syntax.NoItem = []
  filled (syntax.Single x items) = expression x ++ bare op.Push ++ filled items
  filled (syntax.Spread x items) = expression x ++ bare op.Extend ++ filled items

  pub entered : syntax.Entries → List Own
  entered syntax.NoEntry = []
  entered (syntax.Pair x y entries) = expression x ++ expression y ++ bare op.Put ++ entered entries
  entered (syntax.Merge x entries) = expression x ++ bare op.Merge ++ entered entries

  pub passed : syntax.Arguments → List Own
  passed syntax.NoArgument = []
  passed (syntax.Plain x arguments) = expression x ++ bare op.Push ++ passed arguments
  passed (syntax.Star x arguments) = expression x ++ bare op.Extend ++ passed arguments
  passed (syntax.Keyword name x arguments) = expression x ++ bare op.KeyPut ++ passed arguments
  passed (syntax.DoubleStar x arguments) = expression x ++ bare op.KeyMerge ++ passed arguments

  pub defaulted : syntax.Keywords → List Own
  defaulted syntax.NoKeyword = []
  defaulted (syntax.Default name x keywords) = expression x ++ bare op.Put ++ defaulted keywords

-- Targets

abbrev mutual
  pub assigned : syntax.Target → List Own
  assigned (syntax.ToName line home) = stores home
  assigned (syntax.ToAttribute line x name) = expression x ++ named op.SetAttr name
  assigned (syntax.ToIndex line x y) = expression x ++ expression y ++ bare op.SetIndex
  assigned (syntax.ToEach line targets) = bare op.Unpack ++ unpacked targets
  assigned (syntax.ToStarred line before star behind) = bare op.UnpackStar ++ unpacked before ++ bare op.Index ++ assigned star ++ unpacked behind
  assigned syntax.ToNothing = []

  pub unpacked : syntax.Targets → List Own
  unpacked syntax.NoTarget = []
  unpacked (syntax.AlsoTo t ts) = bare op.Index ++ assigned t ++ unpacked ts

abbrev pub all_assigned : syntax.Targets → List Own
all_assigned syntax.NoTarget = []
all_assigned (syntax.AlsoTo t ts) = assigned t ++ all_assigned ts

-- read and stored
abbrev pub augmented : syntax.Target → List Own
augmented (syntax.ToName line home) = loads home ++ stores home
augmented (syntax.ToAttribute line x name) = expression x ++ named op.Attr name ++ named op.SetAttr name
augmented (syntax.ToIndex line x y) = expression x ++ expression y ++ bare op.Index ++ bare op.SetIndex
augmented other = []

abbrev mutual
  pub deleted : syntax.Target → List Own
  deleted (syntax.ToName line home) = unbinds home
  deleted (syntax.ToAttribute line x name) = expression x ++ named op.DelAttr name
  deleted (syntax.ToIndex line x y) = expression x ++ expression y ++ bare op.DelIndex
  deleted (syntax.ToEach line targets) = all_deleted targets
  deleted (syntax.ToStarred line before star behind) = []
  deleted syntax.ToNothing = []

  pub all_deleted : syntax.Targets → List Own
  all_deleted syntax.NoTarget = []
  all_deleted (syntax.AlsoTo t ts) = deleted t ++ all_deleted ts

-- Statements

abbrev pub raise_operations : List Own
raise_operations = bare op.Exc ++ bare op.Raise

-- the name of an `except` clause: bound, set to None and deleted
abbrev pub caught : Option syntax.Caught → List Own
caught (Some name) = stores name.home ++ stores name.home ++ unbinds name.home
caught None = []

abbrev pub manages : List Own
manages =
    named op.Manager (codes "__enter__") ++ named op.Manager (codes "__exit__") ++ bare op.Call ++ bare op.ClassOf ++ bare op.Trace ++ bare op.Call
    ++ bare op.Call

abbrev pub decorated : List syntax.Decorator → List Own
decorated [] = []
decorated (d ∷ ds) = expression d.is ++ bare op.Call ++ decorated ds

abbrev mutual
  pub statement : syntax.Statement → List Own
  statement (syntax.Evaluate x) = expression x
  statement (syntax.Assign targets x) = expression x ++ all_assigned targets
  statement (syntax.Augment line o target x) = augmented target ++ expression x ++ bare o
  statement (syntax.Delete target) = deleted target
  statement syntax.Pass = []
  statement syntax.Break = []
  statement syntax.Continue = []
  statement (syntax.Return x) = expression x
  statement (syntax.Raise line x) = expression x ++ raise_operations
  statement syntax.Reraise = []
  statement (syntax.Assert line test texts) = expression test ++ each texts ++ bare op.Call ++ raise_operations
  statement (syntax.If line test body other) = expression test ++ block body ++ block other
  statement (syntax.While line test body other) = expression test ++ block body ++ block other
  statement (syntax.For line target over body other) = expression over ++ bare op.Iter ++ bare op.Next ++ assigned target ++ block body ++ block other
  statement (syntax.Try body handlers other) = block body ++ handled handlers ++ block other
  statement (syntax.Finally body last) = block body ++ block last
  statement (syntax.With line manager targets body) = expression manager ++ manages ++ all_assigned targets ++ block body
  statement (syntax.Define line ds function home) = decorated ds ++ expression function ++ stores home
  statement (syntax.Class line ds name base code cells home) =
      decorated ds ++ expression base ++ bare op.Space ++ bare_function ++ bare op.Call ++ named op.Class name ++ stores home

  pub block : syntax.Block → List Own
  block syntax.Done = []
  block (syntax.Then s rest) = statement s ++ block rest

  pub handled : syntax.Handlers → List Own
  handled syntax.NoHandler = []
  handled (syntax.Bare body) = block body
  handled (syntax.Handler line class name body handlers) = expression class ++ caught name ++ block body ++ handled handlers

-- Codes

abbrev pub collected : syntax.Turns → List Own
collected (syntax.Push x) = expression x ++ bare op.Push
collected (syntax.Put x y) = expression x ++ expression y ++ bare op.Put
collected (syntax.Emit x) = expression x
collected (syntax.Ranging target over turns) = expression over ++ bare op.Iter ++ bare op.Next ++ assigned target ++ collected turns
collected (syntax.Filter test turns) = expression test ++ collected turns

abbrev pub made : Option Op → List Own
made (Some o) = bare o
made None = []

abbrev pub body : syntax.Body → List Own
body (syntax.Statements b) = block b
body (syntax.Value' x) = expression x
body (syntax.Collect line into target turns) = made into ++ bare op.Next ++ assigned target ++ collected turns

-- the operations that the scope of a code asks for, but for those that are free
abbrev pub own : syntax.Code → List Own
own code = body code.body
