-- The parts of expressions, with something else in place of each expression in them.
use Rattle.std.specs.Prelude.{map, Option, Some, None}
use Rattle.py_ast.specs.declared.expr.Item.{Item}
use Rattle.py_ast.specs.declared.expr.Item.TheVariants as item
use Rattle.py_ast.specs.declared.expr.Entry.{Entry}
use Rattle.py_ast.specs.declared.expr.Entry.TheVariants as entry
use Rattle.py_ast.specs.declared.expr.Argument.{Argument}
use Rattle.py_ast.specs.declared.expr.Argument.TheVariants as argument
use Rattle.py_ast.specs.declared.expr.Link.{Link}
use Rattle.py_ast.specs.declared.expr.Param.{Param}
use Rattle.py_ast.specs.declared.expr.Param.TheVariants as param
use Rattle.py_ast.specs.declared.expr.Subscript.{Subscript}
use Rattle.py_ast.specs.declared.expr.Subscript.TheVariants as subscript
use Rattle.py_ast.specs.declared.expr.Clause.{Clause}
use Rattle.py_ast.specs.declared.expr.Clause.TheVariants as clause
use Rattle.py_ast.specs.declared.expr.Clauses.{Clauses}
use Rattle.py_ast.specs.declared.stmt.Branch.{Branch}
use Rattle.py_ast.specs.declared.stmt.Handler.{Handler}

abbrev pub option_of : {A B : Type 0} → (A → B) → Option A → Option B
option_of f None = None
option_of f (Some x) = Some (f x)

abbrev pub item_of : {A B : Type 0} → (A → B) → Item A → Item B
item_of f (item.One x) = item.One (f x)
item_of f (item.Star line x) = item.Star line (f x)

abbrev pub entry_of : {A B : Type 0} → (A → B) → Entry A → Entry B
entry_of f (entry.Pair key value) = entry.Pair (f key) (f value)
entry_of f (entry.Merge x) = entry.Merge (f x)

abbrev pub argument_of : {A B : Type 0} → (A → B) → Argument A → Argument B
argument_of f (argument.Plain x) = argument.Plain (f x)
argument_of f (argument.Star x) = argument.Star (f x)
argument_of f (argument.Keyword line name x) = argument.Keyword line name (f x)
argument_of f (argument.Merge x) = argument.Merge (f x)

abbrev pub link_of : {A B : Type 0} → (A → B) → Link A → Link B
link_of f link = record { comparison = link.comparison; right = f link.right }

abbrev pub param_of : {A B : Type 0} → (A → B) → Param A → Param B
param_of f (param.Named line x default) = param.Named line x (option_of f default)
param_of f (param.Slash line) = param.Slash line
param_of f (param.Star line x) = param.Star line x
param_of f (param.DoubleStar line x) = param.DoubleStar line x

abbrev pub subscript_of : {A B : Type 0} → (A → B) → Subscript A → Subscript B
subscript_of f (subscript.One x) = subscript.One (f x)
subscript_of f (subscript.Several xs) = subscript.Several (map f xs)
subscript_of f (subscript.Slice lower upper step) = subscript.Slice (option_of f lower) (option_of f upper) (option_of f step)

abbrev pub clause_of : {A B : Type 0} → (A → B) → Clause A → Clause B
clause_of f (clause.For line target iterable) = clause.For line (f target) (f iterable)
clause_of f (clause.If line test) = clause.If line (f test)

abbrev pub clauses_of : {A B : Type 0} → (A → B) → Clauses A → Clauses B
clauses_of f clauses = record { target = f clauses.target; iterable = f clauses.iterable; more = map (clause_of f) clauses.more }

abbrev pub branch_of : {A B : Type 0} → (A → B) → Branch A → Branch B
branch_of f branch = record { line = branch.line; test = branch.test; body = map f branch.body }

abbrev pub handler_of : {A B : Type 0} → (A → B) → Handler A → Handler B
handler_of f handler = record { line = handler.line; class = handler.class; name = handler.name; body = map f handler.body }
