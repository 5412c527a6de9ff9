-- The texts and names that a scope's own text has: its text constants, the identifiers in it, its parameters and those of the functions
-- directly inside it, the names of the classes directly inside it, and what the rows of its constructs write out.
use Rattle.std.specs.Prelude.{ℕ, List, [], ◌∷◌, ◌++◌, map, Option, Some, None, codes, slice_get}
use Rattle.nu_value.specs.declared.value.Value.{Value}
use Rattle.nu_value.specs.declared.value.Value.TheVariants as value
use Rattle.py_ast.specs.declared.scoped.NameHome.{NameHome}
use Rattle.py_meaning.specs.Syntax as syntax

abbrev pub Texts : Type 0
Texts = List (List ℕ)

abbrev pub constant : Value → Texts
constant (value.Str x) = x ∷ []
constant other = []

abbrev pub home : syntax.Home → Texts
home (syntax.Local place name) = name ∷ []
home (syntax.Own place name) = name ∷ []
home (syntax.Free place name) = name ∷ []
home (syntax.Module name) = name ∷ []
home (syntax.InClass name) = name ∷ []

abbrev pub parameters_of : Option syntax.Code → Texts
parameters_of (Some code) = map (λ p. p.1) code.header.params
parameters_of None = []

-- what the rows write out
abbrev pub written : Texts
written =
    codes ".0" ∷ codes "send" ∷ codes "close" ∷ codes "throw" ∷ codes "value" ∷ codes "tuple" ∷ codes "object" ∷ codes "StopIteration"
    ∷ codes "GeneratorExit" ∷ codes "AssertionError" ∷ codes "__enter__" ∷ codes "__exit__" ∷ []

-- by the codes of the scopes, each with its number
module _ (inner : ℕ → Option syntax.Code) where
  abbrev mutual
    pub expression : syntax.Expression → Texts
    expression (syntax.Constant v) = constant v
    expression (syntax.Name line at) = home at
    expression (syntax.Operation line o xs) = each xs
    expression (syntax.Junction line any x y) = expression x ++ expression y
    expression (syntax.Conditional line test x y) = expression test ++ expression x ++ expression y
    expression (syntax.Comparison line x links) = expression x ++ compared links
    expression (syntax.Starred line tuple items) = filled items
    expression (syntax.Dict line entries) = entered entries
    expression (syntax.Call line f arguments) = expression f ++ passed arguments
    expression (syntax.Function line code defaults keywords cells) = each defaults ++ defaulted keywords ++ parameters_of (inner code)
    expression (syntax.Comprehension line code x cells) = expression x
    expression (syntax.Yield line x) = expression x
    expression (syntax.YieldFrom line x) = expression x

    pub each : syntax.Expressions → Texts
    each syntax.NoMore = []
    each (syntax.More x xs) = expression x ++ each xs

    pub compared : syntax.Links → Texts
    compared (syntax.LastLink o negated x) = expression x
    compared (syntax.Link o negated x links) = expression x ++ compared links

    pub filled : syntax.Items → Texts
    filled syntax.NoItem = []
    filled (syntax.Single x items) = expression x ++ filled items
    filled (syntax.Spread x items) = expression x ++ filled items

    pub entered : syntax.Entries → Texts
    entered syntax.NoEntry = []
    entered (syntax.Pair x y entries) = expression x ++ expression y ++ entered entries
    entered (syntax.Merge x entries) = expression x ++ entered entries

    pub passed : syntax.Arguments → Texts
    passed syntax.NoArgument = []
    passed (syntax.Plain x arguments) = expression x ++ passed arguments
    passed (syntax.Star x arguments) = expression x ++ passed arguments
    passed (syntax.Keyword name x arguments) = name ∷ expression x ++ passed arguments
    passed (syntax.DoubleStar x arguments) = expression x ++ passed arguments

    pub defaulted : syntax.Keywords → Texts
    defaulted syntax.NoKeyword = []
    defaulted (syntax.Default name x keywords) = name ∷ expression x ++ defaulted keywords

  abbrev mutual
    pub target : syntax.Target → Texts
    target (syntax.ToName line at) = home at
    target (syntax.ToAttribute line x name) = name ∷ expression x
    target (syntax.ToIndex line x y) = expression x ++ expression y
    target (syntax.ToEach line ts) = targets ts
    target (syntax.ToStarred line before star behind) = targets before ++ target star ++ targets behind
    target syntax.ToNothing = []

    pub targets : syntax.Targets → Texts
    targets syntax.NoTarget = []
    targets (syntax.AlsoTo t ts) = target t ++ targets ts

  abbrev pub decorated : List syntax.Decorator → Texts
  decorated [] = []
  decorated (d ∷ ds) = expression d.is ++ decorated ds

  abbrev pub caught : Option syntax.Caught → Texts
  caught (Some name) = home name.home
  caught None = []

  abbrev mutual
    pub statement : syntax.Statement → Texts
    statement (syntax.Evaluate x) = expression x
    statement (syntax.Assign ts x) = expression x ++ targets ts
    statement (syntax.Augment line o t x) = target t ++ expression x
    statement (syntax.Delete t) = target t
    statement syntax.Pass = []
    statement syntax.Break = []
    statement syntax.Continue = []
    statement (syntax.Return x) = expression x
    statement (syntax.Raise line x) = expression x
    statement syntax.Reraise = []
    statement (syntax.Assert line test texts) = expression test ++ each texts
    statement (syntax.If line test body other) = expression test ++ block body ++ block other
    statement (syntax.While line test body other) = expression test ++ block body ++ block other
    statement (syntax.For line t over body other) = expression over ++ target t ++ block body ++ block other
    statement (syntax.Try body handlers other) = block body ++ handled handlers ++ block other
    statement (syntax.Finally body last) = block body ++ block last
    statement (syntax.With line manager ts body) = expression manager ++ targets ts ++ block body
    statement (syntax.Define line ds function at) = decorated ds ++ expression function ++ home at
    statement (syntax.Class line ds name base code cells at) = decorated ds ++ expression base ++ name ∷ home at

    pub block : syntax.Block → Texts
    block syntax.Done = []
    block (syntax.Then s rest) = statement s ++ block rest

    pub handled : syntax.Handlers → Texts
    handled syntax.NoHandler = []
    handled (syntax.Bare body) = block body
    handled (syntax.Handler line class name body handlers) = expression class ++ caught name ++ block body ++ handled handlers

  abbrev pub collected : syntax.Turns → Texts
  collected (syntax.Push x) = expression x
  collected (syntax.Put x y) = expression x ++ expression y
  collected (syntax.Emit x) = expression x
  collected (syntax.Ranging t over turns) = expression over ++ target t ++ collected turns
  collected (syntax.Filter test turns) = expression test ++ collected turns

  abbrev pub body : syntax.Body → Texts
  body (syntax.Statements b) = block b
  body (syntax.Value' x) = expression x
  body (syntax.Collect line into t turns) = target t ++ collected turns

-- the texts of the scope of a code, in which these names stand; some of them may only be declared
abbrev pub texts : List syntax.Code → List NameHome → syntax.Code → Texts
texts cs names code = written ++ map (λ n. n.name) names ++ map (λ p. p.1) code.header.params ++ body (λ n. slice_get cs n) code.body
