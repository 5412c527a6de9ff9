-- What the steps from bytes to statements answer, together.
use Rattle.std.proofs.Common.{ℕ, List, Ok, Err, refl, sym, ◌∙◌, ap, subst}
use Rattle.py_ast.specs.declared.token.Token.{Token}
use Rattle.py_ast.specs.declared.stmt.Script.{Script}
use Rattle.py_ast.specs.declared.scoped.Scoped.{Scoped}
use Rattle.py_lexer.specs.declared.refusals.LexEnd.{LexEnd}
use Rattle.py_lexer.specs.declared.refusals.LexEnd.TheVariants as lexer
use Rattle.py_lexer.specs.Script.{Tokens}
use Rattle.py_lexer.specs.Script as lexed
use Rattle.py_grammar.specs.declared.found.ParseEnd.{ParseEnd}
use Rattle.py_grammar.specs.declared.found.ParseEnd.TheVariants as parser
use Rattle.py_statements.specs.Script as parsed
use Rattle.py_scopes.specs.declared.end.ScopeEnd.{ScopeEnd}
use Rattle.py_scopes.specs.declared.end.ScopeEnd.TheVariants as scopes
use Rattle.py_scopes.specs.Resolve as resolved
use Rattle.py_scopes.specs.Survey.{surveyed}
use Rattle.py_scopes.specs.Rules.{KeepsAll}
use Rattle.nuit_lib.specs.Scripts.{IsTree, IsScript}
use Rattle.nuit_lib.specs.Reading.{Refuses, of_lexer, of_parser, of_scopes}

pub no_tokens : (bytes : List ℕ) (e : LexEnd) → lexed.Refuses bytes e → Refuses bytes (of_lexer e)
no_tokens bytes lexer.Utf8 h = (h, refl)
no_tokens bytes (lexer.Token line) h = h
no_tokens bytes (lexer.Indent line) h = h
no_tokens bytes (lexer.Number line) h = h
no_tokens bytes lexer.Memory h = tt

pub no_tree : (bytes : List ℕ) (tokens : List Token) (e : ParseEnd) → Tokens bytes tokens → parsed.Answers tokens (Err e) → Refuses bytes (of_parser e)
no_tree bytes tokens (parser.Depth line) l h = record { tokens = tokens; lexed = l; deep = h }
no_tree bytes tokens (parser.Grammar line) l h = record { tokens = tokens; lexed = l; shallow = h.0; none = h.1 }
no_tree bytes tokens parser.Memory l h = tt

pub is_tree : (bytes : List ℕ) (tokens : List Token) (s : Script) → Tokens bytes tokens → parsed.Answers tokens (Ok s) → IsTree bytes s
is_tree bytes tokens s l h = record { tokens = tokens; lexed = l; shallow = h.0; tree = h.1 }

pub no_scopes : (bytes : List ℕ) (s : Script) (e : ScopeEnd) → IsTree bytes s → resolved.Answers s (Err e) → Refuses bytes (of_scopes e)
no_scopes bytes s (scopes.Target line) t h = record { tree = s; is = t; breaks = h }
no_scopes bytes s (scopes.Loop line) t h = record { tree = s; is = t; breaks = h }
no_scopes bytes s (scopes.Function line) t h = record { tree = s; is = t; breaks = h }
no_scopes bytes s (scopes.Declare line) t h = record { tree = s; is = t; breaks = h }
no_scopes bytes s (scopes.Name line) t h = record { tree = s; is = t; breaks = h }
no_scopes bytes s (scopes.Raise line) t h = record { tree = s; is = t; breaks = h }
no_scopes bytes s (scopes.Repeat line) t h = record { tree = s; is = t; breaks = h }
no_scopes bytes s scopes.Memory t h = tt

-- a resolved script is a script of the bytes
pub is_script : (bytes : List ℕ) (tokens : List Token) (s : Script) (x : Scoped) → Tokens bytes tokens → parsed.Answers tokens (Ok s) → resolved.Answers s (Ok x) → IsScript bytes x
is_script bytes tokens s x l h r = record {
  is = subst (IsTree bytes) (sym r.0) (is_tree bytes tokens s l h);
  resolved = record {
    keeps = subst (λ z. KeepsAll (surveyed z.statements)) (sym r.0) r.1.1;
    scopes = r.1.0 ∙ ap (λ z. resolved.scopes_of (surveyed z.statements)) (sym r.0);
  };
}
