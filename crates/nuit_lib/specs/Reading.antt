-- What reading a script answers.
use Rattle.std.specs.Prelude.{ℕ, List}
use Rattle.py_lexer.specs.declared.refusals.LexEnd.{LexEnd}
use Rattle.py_lexer.specs.declared.refusals.LexEnd.TheVariants as lexer
use Rattle.py_grammar.specs.declared.found.ParseEnd.{ParseEnd}
use Rattle.py_grammar.specs.declared.found.ParseEnd.TheVariants as parser
use Rattle.py_scopes.specs.declared.end.ScopeEnd.{ScopeEnd}
use Rattle.py_scopes.specs.declared.end.ScopeEnd.TheVariants as scopes
use Rattle.nuit_lib.specs.declared.reading.ReadEnd.{ReadEnd}
use Rattle.nuit_lib.specs.declared.reading.ReadEnd.TheVariants as end
use Rattle.nuit_lib.specs.declared.refusal.Kind.TheVariants as kind
use Rattle.nuit_lib.specs.Refusals.{IsRefused}

-- why a text is no such script
abbrev pub Refuses : List ℕ → ReadEnd → Type 0
Refuses bytes (end.Refused kind line) = IsRefused bytes kind line
Refuses bytes end.Memory = Unit {0}

-- why there are no tokens, no tree, or a rule that is broken

abbrev pub of_lexer : LexEnd → ReadEnd
of_lexer lexer.Utf8 = end.Refused kind.Utf8 1
of_lexer (lexer.Token line) = end.Refused kind.Token line
of_lexer (lexer.Indent line) = end.Refused kind.Indent line
of_lexer (lexer.Number line) = end.Refused kind.Number line
of_lexer lexer.Memory = end.Memory

abbrev pub of_parser : ParseEnd → ReadEnd
of_parser (parser.Depth line) = end.Refused kind.Depth line
of_parser (parser.Grammar line) = end.Refused kind.Grammar line
of_parser parser.Memory = end.Memory

abbrev pub of_scopes : ScopeEnd → ReadEnd
of_scopes (scopes.Target line) = end.Refused kind.Target line
of_scopes (scopes.Loop line) = end.Refused kind.Loop line
of_scopes (scopes.Function line) = end.Refused kind.Function line
of_scopes (scopes.Declare line) = end.Refused kind.Declare line
of_scopes (scopes.Name line) = end.Refused kind.Name line
of_scopes (scopes.Raise line) = end.Refused kind.Raise line
of_scopes (scopes.Repeat line) = end.Refused kind.Repeat line
of_scopes scopes.Memory = end.Memory
