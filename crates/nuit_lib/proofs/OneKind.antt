-- A script has one refusal kind at most, and none where it is accepted.
use Rattle.std.proofs.Common.{◌≡◌, ℕ, List, Some, None, Ok, Err, refl, sym, ◌∙◌, ap, subst}
use Rattle.std.specs.Prelude.{◌≢◌}
use Rattle.py_ast.specs.declared.token.Token.{Token}
use Rattle.py_ast.specs.declared.stmt.Script.{Script}
use Rattle.py_lexer.specs.declared.refusals.LexEnd.{LexEnd}
use Rattle.py_lexer.specs.declared.refusals.LexEnd.TheVariants as lexer
use Rattle.py_lexer.specs.Script.{Tokens}
use Rattle.py_lexer.specs.Script as lexed
use Rattle.py_lexer.proofs.Answers as lexing
use Rattle.py_grammar.specs.declared.found.ParseEnd.{ParseEnd}
use Rattle.py_grammar.specs.declared.found.ParseEnd.TheVariants as parser
use Rattle.py_statements.specs.Script as parsed
use Rattle.py_statements.proofs.Top as parsing
use Rattle.py_scopes.specs.Survey.{surveyed}
use Rattle.py_scopes.specs.Rules.{Refuses, KeepsAll}
use Rattle.py_scopes.specs.Rules as rules
use Rattle.py_scopes.proofs.OneRefusal.{one_rule}
use Rattle.nuit_lib.specs.declared.refusal.Kind.{Kind}
use Rattle.nuit_lib.specs.declared.refusal.Kind.TheVariants as kind
use Rattle.reform_all.specs.Built.{first_unbuilt}
use Rattle.nuit_lib.specs.Scripts.{IsTree, Accepted}
use Rattle.nuit_lib.specs.Refusals.{BreaksRule, IsRefused, OneKind}

-- Each step answers for a text in one way

abbrev of_lexer : LexEnd → Kind
of_lexer lexer.Utf8 = kind.Utf8
of_lexer (lexer.Token line) = kind.Token
of_lexer (lexer.Indent line) = kind.Indent
of_lexer (lexer.Number line) = kind.Number
of_lexer lexer.Memory = kind.Unbuilt

abbrev of_parser : ParseEnd → Kind
of_parser (parser.Depth line) = kind.Depth
of_parser (parser.Grammar line) = kind.Grammar
of_parser parser.Memory = kind.Unbuilt

abbrev of_rule : rules.Kind → Kind
of_rule rules.Target = kind.Target
of_rule rules.Loop = kind.Loop
of_rule rules.Function = kind.Function
of_rule rules.Declare = kind.Declare
of_rule rules.Name = kind.Name
of_rule rules.Raise = kind.Raise
of_rule rules.Repeat = kind.Repeat

-- the step that refuses a text with a kind
data Step (bytes : List ℕ) (k : Kind) : Type 0 where
  Lexing : (e : LexEnd) (free : e ≢ lexer.Memory) (h : lexed.Refuses bytes e) (is : k ≡ of_lexer e) → Step bytes k
  Parsing : (tokens : List Token) (l : Tokens bytes tokens) (e : ParseEnd) (free : e ≢ parser.Memory) (h : parsed.Answers tokens (Err e)) (is : k ≡ of_parser e) → Step bytes k
  Resolving : (s : Script) (t : IsTree bytes s) (rule : rules.Kind) (line : ℕ) (h : Refuses (surveyed s.statements) rule line) (is : k ≡ of_rule rule) → Step bytes k
  Building : (s : Script) (t : IsTree bytes s) (keeps : KeepsAll (surveyed s.statements)) (line : ℕ) (h : first_unbuilt s.statements ≡ Some line) (is : k ≡ kind.Unbuilt) → Step bytes k

rule_step : (bytes : List ℕ) (rule : rules.Kind) (line : ℕ) → BreaksRule rule bytes line → Step bytes (of_rule rule)
rule_step bytes rule line h = Resolving h.tree h.is rule line h.breaks refl

step : (bytes : List ℕ) (k : Kind) (line : ℕ) → IsRefused bytes k line → Step bytes k
step bytes kind.Utf8 line h = Lexing lexer.Utf8 (λ e. cc) h.0 refl
step bytes kind.Token line h = Lexing (lexer.Token line) (λ e. cc) h refl
step bytes kind.Indent line h = Lexing (lexer.Indent line) (λ e. cc) h refl
step bytes kind.Number line h = Lexing (lexer.Number line) (λ e. cc) h refl
step bytes kind.Depth line h = Parsing h.tokens h.lexed (parser.Depth line) (λ e. cc) h.deep refl
step bytes kind.Grammar line h = Parsing h.tokens h.lexed (parser.Grammar 0) (λ e. cc) (h.shallow, h.none) refl
step bytes kind.Target line h = rule_step bytes rules.Target line h
step bytes kind.Loop line h = rule_step bytes rules.Loop line h
step bytes kind.Function line h = rule_step bytes rules.Function line h
step bytes kind.Declare line h = rule_step bytes rules.Declare line h
step bytes kind.Name line h = rule_step bytes rules.Name line h
step bytes kind.Raise line h = rule_step bytes rules.Raise line h
step bytes kind.Repeat line h = rule_step bytes rules.Repeat line h
step bytes kind.Unbuilt line h = Building h.tree h.is h.keeps line h.other refl

module _ (bytes : List ℕ) where
  same_tokens : (a b : List Token) → Tokens bytes a → Tokens bytes b → a ≡ b
  same_tokens a b x y = (lexing.one_answer bytes).lists a b x y

  pub same_tree : (s t : Script) → IsTree bytes s → IsTree bytes t → s ≡ t
  same_tree s t x y = parsing.one_tree x.tokens s t x.tree (subst (λ l. parsed.Tree l t) (sym (same_tokens x.tokens y.tokens x.lexed y.lexed)) y.tree)

  no_list : (tokens : List Token) (e : LexEnd) → e ≢ lexer.Memory → Tokens bytes tokens → lexed.Refuses bytes e → ⊥
  no_list tokens e free l h = (lexing.one_answer bytes).list_or_refusal tokens e free l h

  agree_not : (s : Script) (e : ParseEnd) → e ≢ parser.Memory → parsed.Agree (Ok s) (Err e) → ⊥
  agree_not s (parser.Depth line) free a = a
  agree_not s (parser.Grammar line) free a = a
  agree_not s parser.Memory free a = free refl

  no_tree : (s : Script) (tokens : List Token) (e : ParseEnd) → e ≢ parser.Memory → IsTree bytes s → Tokens bytes tokens → parsed.Answers tokens (Err e) → ⊥
  no_tree s tokens e free x l h =
      let same = same_tokens tokens x.tokens l x.lexed in
      agree_not s e free (parsing.one_answer x.tokens (Ok s) (Err e) (x.shallow, x.tree) (subst (λ l. parsed.Answers l (Err e)) same h))

  agree_kinds : (e f : ParseEnd) → e ≢ parser.Memory → f ≢ parser.Memory → parsed.Agree (Err e) (Err f) → of_parser e ≡ of_parser f
  agree_kinds (parser.Depth line) (parser.Depth other) p q a = refl
  agree_kinds (parser.Depth line) (parser.Grammar other) p q a = absurd a
  agree_kinds (parser.Grammar line) (parser.Depth other) p q a = absurd a
  agree_kinds (parser.Grammar line) (parser.Grammar other) p q a = refl
  agree_kinds parser.Memory f p q a = absurd (p refl)
  agree_kinds e parser.Memory p q a = absurd (q refl)

  same_end : (a b : List Token) (e f : ParseEnd) → e ≢ parser.Memory → f ≢ parser.Memory → Tokens bytes a → Tokens bytes b → parsed.Answers a (Err e) → parsed.Answers b (Err f) → of_parser e ≡ of_parser f
  same_end a b e f p q l m h i =
      agree_kinds e f p q (parsing.one_answer a (Err e) (Err f) h (subst (λ x. parsed.Answers x (Err f)) (sym (same_tokens a b l m)) i))

  same_rule : (s t : Script) (a b : rules.Kind) (m n : ℕ) → IsTree bytes s → IsTree bytes t → Refuses (surveyed s.statements) a m → Refuses (surveyed t.statements) b n → of_rule a ≡ of_rule b
  same_rule s t a b m n x y p q =
      ap of_rule (one_rule (surveyed s.statements) a b m n p (subst (λ z. Refuses (surveyed z.statements) b n) (sym (same_tree s t x y)) q))

  keeps_or_breaks : (s t : Script) (rule : rules.Kind) (line : ℕ) → IsTree bytes s → IsTree bytes t → KeepsAll (surveyed s.statements) → Refuses (surveyed t.statements) rule line → ⊥
  keeps_or_breaks s t rule line x y keeps h =
      keeps rule (subst (λ z. Refuses (surveyed z.statements) rule line) (sym (same_tree s t x y)) h).0.place

  one : (k l : Kind) → Step bytes k → Step bytes l → k ≡ l
  one k l (Lexing e p h is) (Lexing f q i at) = is ∙ ap of_lexer ((lexing.one_answer bytes).refusals e f p q h i) ∙ sym at
  one k l (Lexing e p h is) (Parsing b m f q i at) = absurd (no_list b e p m h)
  one k l (Lexing e p h is) (Resolving t y rule n i at) = absurd (no_list y.tokens e p y.lexed h)
  one k l (Lexing e p h is) (Building t y keeps n i at) = absurd (no_list y.tokens e p y.lexed h)
  one k l (Parsing a m e p h is) (Lexing f q i at) = absurd (no_list a f q m i)
  one k l (Parsing a m e p h is) (Parsing b n f q i at) = is ∙ same_end a b e f p q m n h i ∙ sym at
  one k l (Parsing a m e p h is) (Resolving t y rule n i at) = absurd (no_tree t a e p y m h)
  one k l (Parsing a m e p h is) (Building t y keeps n i at) = absurd (no_tree t a e p y m h)
  one k l (Resolving s x rule n h is) (Lexing f q i at) = absurd (no_list x.tokens f q x.lexed i)
  one k l (Resolving s x rule n h is) (Parsing b m f q i at) = absurd (no_tree s b f q x m i)
  one k l (Resolving s x a m h is) (Resolving t y b n i at) = is ∙ same_rule s t a b m n x y h i ∙ sym at
  one k l (Resolving s x rule n h is) (Building t y keeps m i at) = absurd (keeps_or_breaks t s rule n y x keeps h)
  one k l (Building s x keeps n h is) (Lexing f q i at) = absurd (no_list x.tokens f q x.lexed i)
  one k l (Building s x keeps n h is) (Parsing b m f q i at) = absurd (no_tree s b f q x m i)
  one k l (Building s x keeps n h is) (Resolving t y rule m i at) = absurd (keeps_or_breaks s t rule m x y keeps i)
  one k l (Building s x keeps n h is) (Building t y more m i at) = is ∙ sym at

  none : Accepted bytes → (k : Kind) → Step bytes k → ⊥
  none a k (Lexing f q i at) = no_list a.is.tokens f q a.is.lexed i
  none a k (Parsing b m f q i at) = no_tree a.tree b f q a.is m i
  none a k (Resolving t y rule n i at) = keeps_or_breaks a.tree t rule n a.is y a.keeps i
  none a k (Building t y keeps n i at) =
      let e : None ≡ Some n = sym a.built ∙ ap (λ s. first_unbuilt s.statements) (same_tree a.tree t a.is y) ∙ i in
      cc

pub one_kind : (bytes : List ℕ) → OneKind bytes
one_kind bytes = record {
  one = λ k l m n p q. one bytes k l (step bytes k m p) (step bytes l n q);
  none = λ a k n p. none bytes a k (step bytes k n p);
}
