use Rattle.std.proofs.Common.{◌≡◌, ◌++◌, replicate}
use Rattle.py_ast.specs.declared.token.TokenKind.TheVariants.{Dedent}
use Rattle.py_lexer.specs.Indentation.{at}
use Rattle.py_lexer.proofs.levels.dedent.Given as goal

abbrev pub invariant-loop : goal.invariant-loop
invariant-loop l = l.tokens.items ≡ l.fn.tokens.items ++ replicate l.counter (at l.line Dedent)
