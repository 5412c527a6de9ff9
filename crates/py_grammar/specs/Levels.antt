-- The levels of the grammar of expressions, from the loosest inwards, and what tokens do behind an expression.
use Rattle.std.specs.Prelude.{ℕ, ◌+◌, Bool, true, false, ◌||◌, nat_le, List, [], ◌∷◌}
use Rattle.py_ast.specs.declared.token.Token.{Token}
use Rattle.py_ast.specs.declared.token.TokenKind.{TokenKind}
use Rattle.py_ast.specs.declared.token.TokenKind.TheVariants as k
use Rattle.py_ast.specs.declared.spelled.Word.{Word}
use Rattle.py_ast.specs.declared.spelled.Word.TheVariants as w
use Rattle.py_ast.specs.declared.spelled.Sign.{Sign}
use Rattle.py_ast.specs.declared.spelled.Sign.TheVariants as s
use Rattle.py_ast.specs.declared.expr.Binary.TheVariants as binary
use Rattle.py_ast.specs.declared.expr.Junction.TheVariants as junction
use Rattle.py_ast.specs.declared.expr.Unary.{Unary}
use Rattle.py_ast.specs.declared.expr.Unary.TheVariants as unary
use Rattle.py_grammar.specs.declared.role.Mark.{Mark}
use Rattle.py_grammar.specs.declared.role.Mark.TheVariants as m
use Rattle.py_grammar.specs.declared.role.Chain.{Chain}
use Rattle.py_grammar.specs.declared.role.Chain.TheVariants as c
use Rattle.py_grammar.specs.declared.role.Operator.TheVariants as o
use Rattle.py_grammar.specs.declared.role.Role.{Role}
use Rattle.py_grammar.specs.declared.role.Role.TheVariants as r
use Rattle.py_grammar.specs.declared.role.Row.{Row}
use Rattle.py_grammar.specs.declared.role.Row.TheVariants as row
use Rattle.py_grammar.specs.declared.role.Bracket.{Bracket}
use Rattle.py_grammar.specs.declared.role.Bracket.TheVariants as b

-- ---- levels

-- lambda and conditional expressions (reference, sections 6.13 and 6.14)
abbrev pub expression : ℕ
expression = 1

-- `or` (reference, section 6.11)
abbrev pub disjunction : ℕ
disjunction = 2

abbrev pub conjunction : ℕ
conjunction = 3

abbrev pub negation : ℕ
negation = 4

-- comparisons (reference, section 6.10)
abbrev pub comparison : ℕ
comparison = 5

-- `|`, `^`, `&` (reference, section 6.9)
abbrev pub bitor : ℕ
bitor = 6

abbrev pub bitxor : ℕ
bitxor = 7

abbrev pub bitand : ℕ
bitand = 8

-- shifts, sums and terms (reference, sections 6.7 and 6.8)
abbrev pub shift : ℕ
shift = 9

abbrev pub sum : ℕ
sum = 10

abbrev pub term : ℕ
term = 11

-- signs (reference, section 6.6)
abbrev pub signed : ℕ
signed = 12

-- `**` (reference, section 6.5)
abbrev pub power : ℕ
power = 13

-- attributes, indices and calls (reference, section 6.3)
abbrev pub primary : ℕ
primary = 14

-- names, literals and brackets (reference, section 6.2)
abbrev pub atom : ℕ
atom = 15

-- the level of the operators that group from the left
abbrev pub level_of : Chain → ℕ
level_of c.Or = disjunction
level_of c.And = conjunction
level_of c.BitOr = bitor
level_of c.BitXor = bitxor
level_of c.BitAnd = bitand
level_of c.Shift = shift
level_of c.Sum = sum
level_of c.Term = term

-- the level of the items of a list, and of what stands behind a star in it
abbrev pub plain_level : Row → ℕ
plain_level row.Expressions = expression
plain_level row.Targets = primary

abbrev pub star_level : Row → ℕ
star_level row.Expressions = bitor
star_level row.Targets = primary

-- ---- what a token does behind an expression

abbrev pub sign_role : Sign → Role
sign_role s.Bar = r.Infix c.BitOr (o.Binary binary.BitOr)
sign_role s.Caret = r.Infix c.BitXor (o.Binary binary.BitXor)
sign_role s.Ampersand = r.Infix c.BitAnd (o.Binary binary.BitAnd)
sign_role s.LeftShift = r.Infix c.Shift (o.Binary binary.LeftShift)
sign_role s.RightShift = r.Infix c.Shift (o.Binary binary.RightShift)
sign_role s.Plus = r.Infix c.Sum (o.Binary binary.Add)
sign_role s.Minus = r.Infix c.Sum (o.Binary binary.Subtract)
sign_role s.Star = r.Infix c.Term (o.Binary binary.Multiply)
sign_role s.DoubleSlash = r.Infix c.Term (o.Binary binary.FloorDivide)
sign_role s.Percent = r.Infix c.Term (o.Binary binary.Remainder)
sign_role s.DoubleStar = r.Power
sign_role s.Less = r.Compares
sign_role s.Greater = r.Compares
sign_role s.LessEqual = r.Compares
sign_role s.GreaterEqual = r.Compares
sign_role s.EqualEqual = r.Compares
sign_role s.NotEqual = r.Compares
sign_role s.LeftParen = r.Call
sign_role s.LeftBracket = r.Index
sign_role s.Dot = r.Attribute
sign_role _ = r.Ends

abbrev pub word_role : Word → Role
word_role w.If = r.Condition
word_role w.Or = r.Infix c.Or (o.Junction junction.Or)
word_role w.And = r.Infix c.And (o.Junction junction.And)
word_role w.In = r.Compares
word_role w.Is = r.Compares
word_role w.Not = r.Compares
word_role _ = r.Ends

abbrev pub role : Mark → Role
role (m.Sign s) = sign_role s
role (m.Keyword w) = word_role w
role m.Text = r.Literal
role _ = r.Ends

-- the level of what the token makes of the expression before it
abbrev pub makes : Role → ℕ
makes r.Ends = 0
makes r.Literal = 0
makes r.Condition = expression
makes r.Compares = comparison
makes (r.Infix c o) = level_of c
makes r.Power = power
makes r.Call = primary
makes r.Index = primary
makes r.Attribute = primary

-- the level of the expression that it takes. A literal joins literals, and so stands behind no expression.
abbrev pub wants : Role → ℕ
wants r.Ends = 0
wants r.Literal = atom + 1
wants r.Condition = disjunction
wants r.Compares = bitor
wants (r.Infix c o) = level_of c
wants r.Power = primary
wants r.Call = primary
wants r.Index = primary
wants r.Attribute = primary

-- ---- the first token of a list

abbrev pub mark_of : TokenKind → Mark
mark_of (k.Name text) = m.Name
mark_of (k.Keyword word) = m.Keyword word
mark_of (k.Number value) = m.Number
mark_of (k.Text text) = m.Text
mark_of (k.Sign sign) = m.Sign sign
mark_of k.Newline = m.Newline
mark_of k.Indent = m.Indent
mark_of k.Dedent = m.Dedent

abbrev pub mark : List Token → Mark
mark [] = m.End
mark (t ∷ ts) = mark_of t.kind

abbrev pub line : List Token → ℕ
line [] = 0
line (t ∷ ts) = t.line

abbrev pub next : List Token → List Token
next [] = []
next (t ∷ ts) = ts

-- ---- signs and words

abbrev pub sign_of : Unary → Sign
sign_of unary.Plus = s.Plus
sign_of unary.Minus = s.Minus
sign_of unary.Invert = s.Tilde

abbrev pub opening : Bracket → Sign
opening b.Round = s.LeftParen
opening b.Square = s.LeftBracket
opening b.Curly = s.LeftBrace

abbrev pub closing : Bracket → Sign
closing b.Round = s.RightParen
closing b.Square = s.RightBracket
closing b.Curly = s.RightBrace

-- whether a token begins expressions of a level
abbrev pub can_begin : ℕ → Mark → Bool
can_begin l m.Name = true
can_begin l m.Number = true
can_begin l m.Text = true
can_begin l (m.Keyword w.None) = true
can_begin l (m.Keyword w.True) = true
can_begin l (m.Keyword w.False) = true
can_begin l (m.Keyword w.Lambda) = nat_le l expression
can_begin l (m.Keyword w.Not) = nat_le l negation
can_begin l (m.Sign s.Plus) = nat_le l signed
can_begin l (m.Sign s.Minus) = nat_le l signed
can_begin l (m.Sign s.Tilde) = nat_le l signed
can_begin l (m.Sign s.LeftParen) = true
can_begin l (m.Sign s.LeftBracket) = true
can_begin l (m.Sign s.LeftBrace) = true
can_begin l _ = false

-- ---- what follows

-- what follows an expression that stands by itself: the end of a bracket, an item, a target, a line
abbrev pub follows_expression : Mark → Bool
follows_expression (m.Sign s.RightParen) = true
follows_expression (m.Sign s.RightBracket) = true
follows_expression (m.Sign s.RightBrace) = true
follows_expression (m.Sign s.Comma) = true
follows_expression (m.Sign s.Colon) = true
follows_expression (m.Sign s.Semicolon) = true
follows_expression (m.Sign s.Equal) = true
follows_expression (m.Sign s.PlusEqual) = true
follows_expression (m.Sign s.MinusEqual) = true
follows_expression (m.Sign s.StarEqual) = true
follows_expression (m.Sign s.DoubleSlashEqual) = true
follows_expression (m.Sign s.PercentEqual) = true
follows_expression (m.Sign s.DoubleStarEqual) = true
follows_expression (m.Sign s.LeftShiftEqual) = true
follows_expression (m.Sign s.RightShiftEqual) = true
follows_expression (m.Sign s.AmpersandEqual) = true
follows_expression (m.Sign s.BarEqual) = true
follows_expression (m.Sign s.CaretEqual) = true
follows_expression m.Newline = true
follows_expression (m.Keyword w.As) = true
follows_expression (m.Keyword w.For) = true
follows_expression (m.Keyword w.From) = true
follows_expression _ = false

-- what follows a list of expressions
abbrev pub follows_exprs : Mark → Bool
follows_exprs (m.Sign s.Comma) = false
follows_exprs q = follows_expression q

-- what follows `yield` and its operand
abbrev pub follows_yield : Mark → Bool
follows_yield (m.Keyword w.From) = false
follows_yield q = follows_exprs q

-- what follows the targets of a loop
abbrev pub follows_targets : Mark → Bool
follows_targets (m.Keyword w.In) = true
follows_targets _ = false

-- what follows the target of an item of `with`
abbrev pub follows_target : Mark → Bool
follows_target (m.Sign s.Comma) = true
follows_target (m.Sign s.Colon) = true
follows_target _ = false

-- what follows parameters
abbrev pub follows_params : Mark → Bool
follows_params (m.Sign s.RightParen) = true
follows_params (m.Sign s.Colon) = true
follows_params _ = false
