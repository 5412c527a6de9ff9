-- What stands where in a script: a part of the tree denotes what it adds, given the place where it stands.
-- Everything stands in the order of the text, so the scopes get their numbers in that order.
use Rattle.std.specs.Prelude.{ℕ, Bool, true, false, List, [], ◌∷◌, ◌++◌, length, map, codes, not, ◌&&◌, if◌then◌else◌, Option, Some, None, slice_get, option_map}
use Rattle.py_ast.specs.declared.expr.Item.{Item}
use Rattle.py_ast.specs.declared.expr.Item.TheVariants as item
use Rattle.py_ast.specs.declared.expr.Entry.{Entry}
use Rattle.py_ast.specs.declared.expr.Entry.TheVariants as entry
use Rattle.py_ast.specs.declared.expr.Argument.{Argument}
use Rattle.py_ast.specs.declared.expr.Argument.TheVariants as argument
use Rattle.py_ast.specs.declared.expr.Link.{Link}
use Rattle.py_ast.specs.declared.expr.Param.{Param}
use Rattle.py_ast.specs.declared.expr.Param.TheVariants as param
use Rattle.py_ast.specs.declared.expr.Subscript.{Subscript}
use Rattle.py_ast.specs.declared.expr.Subscript.TheVariants as subscript
use Rattle.py_ast.specs.declared.expr.Clause.{Clause}
use Rattle.py_ast.specs.declared.expr.Clause.TheVariants as clause
use Rattle.py_ast.specs.declared.expr.Clauses.{Clauses}
use Rattle.py_ast.specs.declared.expr.Expr.{Expr, fold-Expr}
use Rattle.py_ast.specs.declared.expr.Expr.TheOpen.{Expr-F}
use Rattle.py_ast.specs.declared.stmt.Declared.{Declared}
use Rattle.py_ast.specs.declared.stmt.Branch.{Branch}
use Rattle.py_ast.specs.declared.stmt.Handler.{Handler}
use Rattle.py_ast.specs.declared.stmt.Manager.{Manager}
use Rattle.py_ast.specs.declared.stmt.Stmt.{Stmt, fold-Stmt}
use Rattle.py_ast.specs.declared.stmt.Stmt.TheOpen.{Stmt-F}
use Rattle.py_ast.specs.declared.scoped.ScopeKind.{ScopeKind}
use Rattle.py_ast.specs.declared.scoped.ScopeKind.TheVariants as kind
use Rattle.py_scopes.specs.Names.{mangled}
use Rattle.py_scopes.specs.Parts.{param_of}
use Rattle.py_scopes.specs.declared.survey.Role.{Role}
use Rattle.py_scopes.specs.declared.survey.Role.TheVariants as role
use Rattle.py_scopes.specs.declared.survey.What.{What}
use Rattle.py_scopes.specs.declared.survey.What.TheVariants as what
use Rattle.py_scopes.specs.declared.survey.Place.{Place}
use Rattle.py_scopes.specs.declared.survey.Survey.{Survey}

-- what a part of the tree adds
abbrev pub Adds : Type 0
Adds = Place → Survey → Survey

-- an expression adds what its role asks
abbrev pub Part : Type 0
Part = Role → Adds

-- one thing
unfoldable pub site : ℕ → What → Adds
site line what place s = record { built_in = s.built_in; scopes = s.scopes; sites = s.sites ++ (record { place = place; line = line; what = what }) ∷ [] }

-- one behind the other, all at the same place
abbrev pub all : List Adds → Adds
all [] place s = s
all (part ∷ parts) place s = all parts place (part place s)

abbrev pub values : List Part → Adds
values parts = all (map (λ part. part role.Value) parts)

abbrev pub maybe : Option Adds → Adds
maybe (Some part) place s = part place s
maybe None place s = s

-- Names

unfoldable pub class_name : Survey → Option ℕ → Option (List ℕ)
class_name s (Some scope) = option_map (λ scope. scope.name) (slice_get s.scopes scope)
class_name s None = None

-- a name as it counts at a place
abbrev pub spelled : Place → Survey → List ℕ → List ℕ
spelled place s x = mangled (class_name s place.class) x

abbrev pub name : ℕ → (List ℕ → What) → List ℕ → Adds
name line what x place s = site line (what (spelled place s x)) place s

-- Scopes

-- the name that a kind of scope gives, where no `def` or `class` does
abbrev pub own_name : ScopeKind → List ℕ
own_name kind.Module = codes "<module>"
own_name kind.Lambda = codes "<lambda>"
own_name kind.ListComprehension = codes "<listcomp>"
own_name kind.DictComprehension = codes "<dictcomp>"
own_name kind.Generator = codes "<genexpr>"
own_name _ = []

abbrev pub is_generator_kind : ScopeKind → Bool
is_generator_kind kind.Generator = true
is_generator_kind _ = false

-- a new scope, without what stands in it
unfoldable pub enter : ℕ → ScopeKind → List ℕ → Adds
enter line kind name place s = record {
  built_in = s.built_in;
  scopes = s.scopes ++ (record { kind = kind; name = name; line = line; enclosing = place.scope; is_generator = is_generator_kind kind; names = [] }) ∷ [];
  sites = s.sites;
}

abbrev pub class_inside : ScopeKind → ℕ → Option ℕ → Option ℕ
class_inside kind.Class scope class = Some scope
class_inside _ scope class = class

-- the place inside the scope that comes next
abbrev pub inside : ScopeKind → Place → Survey → Place
inside kind place s = record { scope = length s.scopes; class = class_inside kind (length s.scopes) place.class; in_loop = false; in_except = false }

-- Targets (reference, sections 7.2, 7.2.1, 7.5)

abbrev pub is_value : Role → Bool
is_value role.Value = true
is_value _ = false

-- what stands for one thing alone
abbrev pub is_single : Role → Bool
is_single role.Augmented = true
is_single _ = false

abbrev pub misplaced_if : Bool → ℕ → Adds
misplaced_if wrong line place s = if wrong then site line what.Misplaced place s else s

-- what can only be a value
abbrev pub plain : ℕ → Adds → Part
plain line adds wanted place s = adds place (misplaced_if (not (is_value wanted)) line place s)

-- a name is bound where it is a target
abbrev pub named : Role → List ℕ → What
named role.Value x = what.Uses x
named _ x = what.Binds x

-- what the items of a list are: targets too, where several targets may stand
abbrev pub listed : Role → Role
listed role.Target = role.Target
listed role.Deleted = role.Deleted
listed _ = role.Value

-- whether a star breaks the rules, with or without a star before it: a list of targets has one at most, that of `del` none
abbrev pub is_stray : Role → Bool → Bool
is_stray role.Value before = false
is_stray role.Target before = before
is_stray _ before = true

abbrev pub items : Role → Bool → List (Item Part) → Adds
items wanted before [] place s = s
items wanted before (item.One x ∷ xs) place s = items wanted before xs place (x wanted place s)
items wanted before (item.Star line x ∷ xs) place s = items wanted true xs place (x wanted place (misplaced_if (is_stray wanted before) line place s))

-- a tuple or a list
abbrev pub list : ℕ → List (Item Part) → Part
list line xs wanted place s = items (listed wanted) false xs place (misplaced_if (is_single wanted) line place s)

abbrev pub is_slice : {A : Type 0} → Subscript A → Bool
is_slice (subscript.Slice lower upper step) = true
is_slice _ = false

abbrev pub value_if : Option Part → Adds
value_if (Some part) place s = part role.Value place s
value_if None place s = s

abbrev pub subscripts : Subscript Part → Adds
subscripts (subscript.One x) = x role.Value
subscripts (subscript.Several xs) = values xs
subscripts (subscript.Slice lower upper step) = all (value_if lower ∷ value_if upper ∷ value_if step ∷ [])

-- an index is a target, a slice is none
abbrev pub index : ℕ → Part → Subscript Part → Part
index line x at wanted place s = subscripts at place (x role.Value place (misplaced_if (is_slice at && not (is_value wanted)) line place s))

-- Other parts of expressions

abbrev pub entry_adds : Entry Part → Adds
entry_adds (entry.Pair key value) = values (key ∷ value ∷ [])
entry_adds (entry.Merge x) = x role.Value

abbrev pub link_adds : Link Part → Adds
link_adds link = link.right role.Value

-- an argument of the list that begins at this site
abbrev pub argument_adds : ℕ → Argument Part → Adds
argument_adds start (argument.Plain x) = x role.Value
argument_adds start (argument.Star x) = x role.Value
argument_adds start (argument.Keyword line x value) = all (name line (what.Keyword start) x ∷ value role.Value ∷ [])
argument_adds start (argument.Merge x) = x role.Value

-- the site at which the arguments begin is what tells their list from others
abbrev pub arguments : ℕ → List (Argument Part) → Adds
arguments line xs place s = all (map (argument_adds (length s.sites)) xs) place (site line what.Arguments place s)

-- a parameter stands inside, its default outside
abbrev pub param_adds : Place → Param Part → Adds
param_adds own (param.Named line x default) place s = value_if default place (name line what.Parameter x own s)
param_adds own (param.Slash line) place s = s
param_adds own (param.Star line (Some x)) place s = name line what.Parameter x own s
param_adds own (param.Star line None) place s = s
param_adds own (param.DoubleStar line x) place s = name line what.Parameter x own s

abbrev pub function : ℕ → ScopeKind → List ℕ → List (Param Part) → Adds → Adds
function line kind name params body place s =
    let own = inside kind place s in
    body own (all (map (param_adds own) params) place (enter line kind name place s))

abbrev pub clause_adds : Clause Part → Adds
clause_adds (clause.For line target iterable) = all (target role.Target ∷ iterable role.Value ∷ [])
clause_adds (clause.If line test) = test role.Value

-- the first iterable stands outside (reference, section 6.2.4)
abbrev pub clauses_add : Place → Clauses Part → Adds
clauses_add own clauses place s =
    all (map clause_adds clauses.more) own (clauses.iterable role.Value place (clauses.target role.Target own s))

abbrev pub comprehension : ℕ → ScopeKind → List Part → Clauses Part → Adds
comprehension line kind elements clauses place s =
    let own = inside kind place s in
    clauses_add own clauses place (values elements own (enter line kind (own_name kind) place s))

abbrev pub expr_adds : Expr-F Part → Part
expr_adds (Expr-F.None line) = plain line (all [])
expr_adds (Expr-F.True line) = plain line (all [])
expr_adds (Expr-F.False line) = plain line (all [])
expr_adds (Expr-F.Number line value) = plain line (all [])
expr_adds (Expr-F.Text line text) = plain line (all [])
expr_adds (Expr-F.Name line x) = λ wanted. name line (named wanted) x
expr_adds (Expr-F.Tuple line xs) = list line xs
expr_adds (Expr-F.List line xs) = list line xs
expr_adds (Expr-F.Dict line entries) = plain line (all (map entry_adds entries))
expr_adds (Expr-F.ListComprehension line element clauses) = plain line (comprehension line kind.ListComprehension (element ∷ []) clauses)
expr_adds (Expr-F.DictComprehension line key value clauses) = plain line (comprehension line kind.DictComprehension (key ∷ value ∷ []) clauses)
expr_adds (Expr-F.Generator line element clauses) = plain line (comprehension line kind.Generator (element ∷ []) clauses)
expr_adds (Expr-F.Attribute line x attribute) = λ wanted. all (x role.Value ∷ site line (what.Attribute attribute) ∷ [])
expr_adds (Expr-F.Index line x at) = index line x at
expr_adds (Expr-F.Call line called xs) = plain line (λ place s. arguments line xs place (called role.Value place s))
expr_adds (Expr-F.Unary line sign x) = plain line (x role.Value)
expr_adds (Expr-F.Binary line operator left right) = plain line (values (left ∷ right ∷ []))
expr_adds (Expr-F.Compare line first links) = plain line (λ place s. all (map link_adds links) place (first role.Value place s))
expr_adds (Expr-F.Not line x) = plain line (x role.Value)
expr_adds (Expr-F.Junction line junction left right) = plain line (values (left ∷ right ∷ []))
expr_adds (Expr-F.Conditional line test chosen otherwise) = plain line (values (chosen ∷ test ∷ otherwise ∷ []))
expr_adds (Expr-F.Lambda line params body) = plain line (function line kind.Lambda (own_name kind.Lambda) params (body role.Value))
expr_adds (Expr-F.Yield line x) = plain line (all (site line what.Yield ∷ value_if x ∷ []))
expr_adds (Expr-F.YieldFrom line x) = plain line (all (site line what.Yield ∷ x role.Value ∷ []))
expr_adds (Expr-F.Star line x) = λ wanted. all (site line what.Misplaced ∷ x role.Value ∷ [])

abbrev pub expr : Expr → Part
expr = fold-Expr Part expr_adds

-- Statements

abbrev pub value : Expr → Adds
value x = expr x role.Value

abbrev pub value_of : Option Expr → Adds
value_of (Some x) place s = value x place s
value_of None place s = s

abbrev pub target : Expr → Adds
target x = expr x role.Target

abbrev pub target_of : Option Expr → Adds
target_of (Some x) place s = target x place s
target_of None place s = s

-- a declaration of names, `global` or `nonlocal`
abbrev pub declared : (List ℕ → What) → Declared → Adds
declared what d = name d.line what d.name

abbrev pub branch_adds : Branch Adds → Adds
branch_adds branch = all (value branch.test ∷ branch.body)

abbrev pub manager_adds : Manager → Adds
manager_adds manager = all (value manager.value ∷ target_of manager.target ∷ [])

abbrev pub looping : Place → Place
looping place = record place { in_loop = true }

abbrev pub handling : Place → Place
handling place = record place { in_except = true }

abbrev pub finishing : Place → Place
finishing place = record place { in_except = false }

abbrev pub bound_if : ℕ → Option (List ℕ) → Adds
bound_if line (Some x) place s = name line what.Binds x place s
bound_if line None place s = s

abbrev pub handler_adds : Handler Adds → Adds
handler_adds handler place s = all handler.body (handling place) (bound_if handler.line handler.name place (value_of handler.class place s))

-- the decorators of a function or class, and its name
abbrev pub decorated : ℕ → List Expr → List ℕ → Adds
decorated line decorators x place s = name line what.Binds x place (values (map expr decorators) place s)

abbrev pub stmt_adds : Stmt-F Adds → Adds
stmt_adds (Stmt-F.Expr line x) = value x
stmt_adds (Stmt-F.Assign line targets x) = λ place s. value x place (all (map target targets) place s)
stmt_adds (Stmt-F.Augment line to operator x) = all (expr to role.Augmented ∷ value x ∷ [])
stmt_adds (Stmt-F.Pass line) = all []
stmt_adds (Stmt-F.Break line) = site line what.Break
stmt_adds (Stmt-F.Continue line) = site line what.Break
stmt_adds (Stmt-F.Return line x) = all (site line what.Return ∷ value_of x ∷ [])
stmt_adds (Stmt-F.Raise line (Some x)) = value x
stmt_adds (Stmt-F.Raise line None) = site line what.Reraise
stmt_adds (Stmt-F.Del line to) = expr to role.Deleted
stmt_adds (Stmt-F.Assert line test text) = all (value test ∷ value_of text ∷ [])
stmt_adds (Stmt-F.Global line names) = all (map (declared what.Global) names)
stmt_adds (Stmt-F.Nonlocal line names) = all (map (declared what.Nonlocal) names)
stmt_adds (Stmt-F.If line branches otherwise) = λ place s. all otherwise place (all (map branch_adds branches) place s)
stmt_adds (Stmt-F.While line test body otherwise) = λ place s. all otherwise place (all body (looping place) (value test place s))
stmt_adds (Stmt-F.For line to iterable body otherwise) = λ place s.
    all otherwise place (all body (looping place) (value iterable place (target to place s)))
stmt_adds (Stmt-F.Try line body handlers otherwise final) = λ place s.
    all final (finishing place) (all otherwise place (all (map handler_adds handlers) place (all body place s)))
stmt_adds (Stmt-F.With line managers body) = λ place s. all body place (all (map manager_adds managers) place s)
stmt_adds (Stmt-F.Def line decorators x params body) = λ place s.
    function line kind.Function x (map (param_of expr) params) (all body) place (decorated line decorators x place s)
stmt_adds (Stmt-F.Class line decorators x base body) = λ place s.
    let before = decorated line decorators x place s in
    all body (inside kind.Class place before) (value_of base place (enter line kind.Class x place before))

abbrev pub stmt : Stmt → Adds
stmt = fold-Stmt Adds stmt_adds

abbrev pub stmts : List Stmt → Adds
stmts xs = all (map stmt xs)

-- The survey of a script: the module is scope 0
abbrev pub top : Place
top = record { scope = 0; class = None; in_loop = false; in_except = false }

-- of a script, or of the built-in text where it is marked so
unfoldable pub survey_of : Bool → List Stmt → Survey
survey_of built_in script =
    stmts script top (enter 1 kind.Module (own_name kind.Module) top (record { built_in = built_in; scopes = []; sites = [] }))

abbrev pub surveyed : List Stmt → Survey
surveyed script = survey_of false script
