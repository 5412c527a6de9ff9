-- What stands before the code of a function, from the parameters that its text has.
use Rattle.std.specs.Prelude.{◌≡◌, ◌≢◌, ℕ, ◌<◌, true, false, List, [], map, Option, Some, None}
use Rattle.std.specs.List.{AllByRecursion}
use Rattle.py_ast.specs.declared.expr.Expr.{Expr}
use Rattle.py_ast.specs.declared.expr.Param.{Param}
use Rattle.py_ast.specs.declared.expr.Param.TheVariants as param
use Rattle.py_ast.specs.declared.scoped.Scope.{Scope}
use Rattle.py_grammar.specs.Lists.{params_in_order}
use Rattle.py_scopes.specs.Parts.{param_of}
use Rattle.py_meaning.specs.Resolved.{Context, Part, header, shape}
use Rattle.c_meaning.specs.Written.{has}
use Rattle.generator_cut.specs.Writable.{IsHeading}

-- a name isn't empty and has no space
pub record IsName (name : List ℕ) : Type 0 where
  pub some : name ≢ []
  pub no_space : has name 32 ≡ false

abbrev pub MayBeName : Option (List ℕ) → Type 0
MayBeName None = Unit {0}
MayBeName (Some name) = IsName name

abbrev pub HasName : {A : Type 0} → Param A → Type 0
HasName (param.Named line name default) = IsName name
HasName (param.Slash line) = Unit {0}
HasName (param.Star line name) = MayBeName name
HasName (param.DoubleStar line name) = IsName name

-- parameters in the order of the grammar, with names, make a heading of a scope with a line, in any class
abbrev pub ParametersMakeHeadings : Type 0
ParametersMakeHeadings = (f : Expr → Part) (c : Context) (scope : Scope) (ps : List (Param Expr)) → MayBeName c.class → AllByRecursion HasName ps → params_in_order ps ≡ true → 0 < scope.line
    → IsHeading (header (Some scope) (shape c (map (param_of f) ps)))
