-- Rules on the order of arguments and parameters.
use Rattle.std.specs.Prelude.{Bool, true, false, List, fold, Option, Some, None, ◌≡◌}
use Rattle.py_ast.specs.declared.expr.Expr.{Expr}
use Rattle.py_ast.specs.declared.expr.Argument.{Argument}
use Rattle.py_ast.specs.declared.expr.Argument.TheVariants as a
use Rattle.py_ast.specs.declared.expr.Param.{Param}
use Rattle.py_ast.specs.declared.expr.Param.TheVariants as p
use Rattle.py_grammar.specs.declared.role.Arrangement.{Arrangement}
use Rattle.py_grammar.specs.declared.role.Arrangement.TheVariants as n
use Rattle.py_grammar.specs.declared.role.Stage.{Stage}
use Rattle.py_grammar.specs.declared.role.Stage.TheVariants as s

-- positional and `*` arguments stand before keyword and `**` arguments (reference, section 6.3.4)
abbrev pub behind_argument : Arrangement → Argument Expr → Arrangement
behind_argument n.Positional (a.Plain x) = n.Positional
behind_argument n.Positional (a.Star x) = n.Positional
behind_argument n.Positional (a.Keyword line name x) = n.Named
behind_argument n.Positional (a.Merge x) = n.Named
behind_argument n.Named (a.Keyword line name x) = n.Named
behind_argument n.Named (a.Merge x) = n.Named
behind_argument _ _ = n.Wrong

abbrev pub is_arranged : Arrangement → Bool
is_arranged n.Wrong = false
is_arranged _ = true

abbrev pub arguments_in_order : List (Argument Expr) → Bool
arguments_in_order arguments = is_arranged (fold behind_argument n.Positional arguments)

-- what a parameter makes of the stage before it (reference, section 8.7): `/` stands at most once, not first and before `*`;
-- `*` stands at most once, and without a name it is followed by a named parameter; `**` stands at most once and last; before
-- `*` no parameter without a default follows one with a default
abbrev pub behind_param : Stage → Param Expr → Stage
behind_param s.Start (p.Named line name None) = s.Plain
behind_param s.Plain (p.Named line name None) = s.Plain
behind_param s.SlashPlain (p.Named line name None) = s.SlashPlain
behind_param s.Start (p.Named line name (Some x)) = s.Optional
behind_param s.Plain (p.Named line name (Some x)) = s.Optional
behind_param s.Optional (p.Named line name (Some x)) = s.Optional
behind_param s.SlashPlain (p.Named line name (Some x)) = s.SlashOptional
behind_param s.SlashOptional (p.Named line name (Some x)) = s.SlashOptional
behind_param s.Bare (p.Named line name default) = s.Starred
behind_param s.Starred (p.Named line name default) = s.Starred
behind_param s.Plain (p.Slash line) = s.SlashPlain
behind_param s.Optional (p.Slash line) = s.SlashOptional
behind_param s.Start (p.Star line None) = s.Bare
behind_param s.Plain (p.Star line None) = s.Bare
behind_param s.Optional (p.Star line None) = s.Bare
behind_param s.SlashPlain (p.Star line None) = s.Bare
behind_param s.SlashOptional (p.Star line None) = s.Bare
behind_param s.Start (p.Star line (Some name)) = s.Starred
behind_param s.Plain (p.Star line (Some name)) = s.Starred
behind_param s.Optional (p.Star line (Some name)) = s.Starred
behind_param s.SlashPlain (p.Star line (Some name)) = s.Starred
behind_param s.SlashOptional (p.Star line (Some name)) = s.Starred
behind_param s.Start (p.DoubleStar line name) = s.Double
behind_param s.Plain (p.DoubleStar line name) = s.Double
behind_param s.Optional (p.DoubleStar line name) = s.Double
behind_param s.SlashPlain (p.DoubleStar line name) = s.Double
behind_param s.SlashOptional (p.DoubleStar line name) = s.Double
behind_param s.Starred (p.DoubleStar line name) = s.Double
behind_param _ _ = s.Wrong

abbrev pub is_complete : Stage → Bool
is_complete s.Bare = false
is_complete s.Wrong = false
is_complete _ = true

abbrev pub params_in_order : List (Param Expr) → Bool
params_in_order params = is_complete (fold behind_param s.Start params)
