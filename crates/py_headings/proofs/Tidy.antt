-- Expressions of which each code has a heading, and each scope a line.
use Rattle.std.specs.Prelude.{ℕ, ◌<◌, Option, Some, None}
use Rattle.std.specs.List.{AllByRecursion}
use Rattle.py_ast.specs.declared.expr.Item.{Item}
use Rattle.py_ast.specs.declared.expr.Item.TheVariants as item
use Rattle.py_ast.specs.declared.expr.Entry.{Entry}
use Rattle.py_ast.specs.declared.expr.Entry.TheVariants as entry
use Rattle.py_ast.specs.declared.expr.Argument.{Argument}
use Rattle.py_ast.specs.declared.expr.Argument.TheVariants as argument
use Rattle.py_ast.specs.declared.expr.Link.{Link}
use Rattle.py_ast.specs.declared.expr.Param.{Param}
use Rattle.py_ast.specs.declared.expr.Param.TheVariants as param
use Rattle.py_ast.specs.declared.expr.Subscript.{Subscript}
use Rattle.py_ast.specs.declared.expr.Subscript.TheVariants as subscript
use Rattle.py_ast.specs.declared.expr.Clause.{Clause}
use Rattle.py_ast.specs.declared.expr.Clause.TheVariants as clause
use Rattle.py_ast.specs.declared.expr.Clauses.{Clauses}
use Rattle.py_ast.specs.declared.expr.Expr.{Expr}
use Rattle.py_ast.specs.declared.scoped.Scope.{Scope}
use Rattle.py_scopes.specs.declared.survey.Role.{Role}
use Rattle.py_scopes.specs.declared.survey.Place.{Place}
use Rattle.py_scopes.specs.declared.survey.Survey.{Survey}
use Rattle.py_scopes.specs.Survey as survey
use Rattle.py_scopes.specs.Survey.{Adds}
use Rattle.py_meaning.specs.Resolved as resolved
use Rattle.py_meaning.specs.Resolved.{Context, Making}
use Rattle.py_headings.specs.Laws.{MayBeName, HasName}
use Rattle.py_headings.specs.Scripts.{HaveHeadings}

-- Scopes with lines

abbrev pub HasLine : Scope → Type 0
HasLine scope = 0 < scope.line

abbrev pub Lined : Survey → Type 0
Lined s = AllByRecursion HasLine s.scopes

abbrev pub Keeps : Adds → Type 0
Keeps f = (place : Place) (s : Survey) → Lined s → Lined (f place s)

-- Codes with headings, where all scopes have lines and the class a name

pub record Stands (c : Context) : Type 0 where
  pub lines : AllByRecursion HasLine c.scopes
  pub class : MayBeName c.class

pub record Makes {A : Type 0} (m : Making A) : Type 0 where
  pub headed : (n : ℕ) → HaveHeadings (m n).codes

pub record Tidy (x : Expr) : Type 0 where
  pub seen : (wanted : Role) → Keeps (survey.expr x wanted)
  pub value : (c : Context) → Stands c → Makes ((resolved.expr x).value c)
  pub target : (c : Context) → Stands c → Makes ((resolved.expr x).target c)

-- Parts of expressions

abbrev pub OptionTidy : Option Expr → Type 0
OptionTidy None = Unit {0}
OptionTidy (Some x) = Tidy x

abbrev pub ItemTidy : Item Expr → Type 0
ItemTidy (item.One x) = Tidy x
ItemTidy (item.Star line x) = Tidy x

abbrev pub EntryTidy : Entry Expr → Type 0
EntryTidy (entry.Pair x y) = Tidy x × Tidy y
EntryTidy (entry.Merge x) = Tidy x

abbrev pub ArgumentTidy : Argument Expr → Type 0
ArgumentTidy (argument.Plain x) = Tidy x
ArgumentTidy (argument.Star x) = Tidy x
ArgumentTidy (argument.Keyword line name x) = Tidy x
ArgumentTidy (argument.Merge x) = Tidy x

abbrev pub LinkTidy : Link Expr → Type 0
LinkTidy link = Tidy link.right

abbrev pub DefaultTidy : Param Expr → Type 0
DefaultTidy (param.Named line name default) = OptionTidy default
DefaultTidy other = Unit {0}

abbrev pub ParamTidy : Param Expr → Type 0
ParamTidy p = HasName p × DefaultTidy p

abbrev pub SubscriptTidy : Subscript Expr → Type 0
SubscriptTidy (subscript.One x) = Tidy x
SubscriptTidy (subscript.Several xs) = AllByRecursion Tidy xs
SubscriptTidy (subscript.Slice a b c) = OptionTidy a × OptionTidy b × OptionTidy c

abbrev pub ClauseTidy : Clause Expr → Type 0
ClauseTidy (clause.For line x y) = Tidy x × Tidy y
ClauseTidy (clause.If line x) = Tidy x

abbrev pub ClausesTidy : Clauses Expr → Type 0
ClausesTidy cs = Tidy cs.target × Tidy cs.iterable × AllByRecursion ClauseTidy cs.more
