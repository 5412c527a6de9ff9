-- Words and signs of statements.
use Rattle.std.specs.Prelude.{ℕ, ◌+◌, ◌-◌, Bool, true, false, nat_eq, if◌then◌else◌, List, [], ◌∷◌, Option, Some, None}
use Rattle.py_ast.specs.declared.token.Token.{Token}
use Rattle.py_ast.specs.declared.token.TokenKind.{TokenKind}
use Rattle.py_ast.specs.declared.token.TokenKind.TheVariants as k
use Rattle.py_ast.specs.declared.spelled.Word.TheVariants as w
use Rattle.py_ast.specs.declared.spelled.Sign.{Sign}
use Rattle.py_ast.specs.declared.spelled.Sign.TheVariants as s
use Rattle.py_ast.specs.declared.expr.Binary.{Binary}
use Rattle.py_ast.specs.declared.expr.Binary.TheVariants as binary
use Rattle.py_ast.specs.declared.expr.Item.{Item}
use Rattle.py_ast.specs.declared.expr.Expr.{Expr, out-Expr}
use Rattle.py_ast.specs.declared.expr.Expr.TheOpen.{Expr-F}
use Rattle.py_grammar.specs.declared.role.Mark.{Mark}
use Rattle.py_grammar.specs.declared.role.Mark.TheVariants as m

-- the signs of augmented assignments (reference, section 7.2.1)
abbrev pub augmented_by : Sign → Option Binary
augmented_by s.PlusEqual = Some binary.Add
augmented_by s.MinusEqual = Some binary.Subtract
augmented_by s.StarEqual = Some binary.Multiply
augmented_by s.DoubleSlashEqual = Some binary.FloorDivide
augmented_by s.PercentEqual = Some binary.Remainder
augmented_by s.DoubleStarEqual = Some binary.Power
augmented_by s.LeftShiftEqual = Some binary.LeftShift
augmented_by s.RightShiftEqual = Some binary.RightShift
augmented_by s.AmpersandEqual = Some binary.BitAnd
augmented_by s.BarEqual = Some binary.BitOr
augmented_by s.CaretEqual = Some binary.BitXor
augmented_by _ = None

abbrev pub augmented : Mark → Option Binary
augmented (m.Sign s) = augmented_by s
augmented _ = None

-- whether a token begins a compound statement (reference, chapter 8)
abbrev pub begins_compound : Mark → Bool
begins_compound (m.Keyword w.If) = true
begins_compound (m.Keyword w.While) = true
begins_compound (m.Keyword w.For) = true
begins_compound (m.Keyword w.Try) = true
begins_compound (m.Keyword w.With) = true
begins_compound (m.Keyword w.Def) = true
begins_compound (m.Keyword w.Class) = true
begins_compound (m.Sign s.At) = true
begins_compound _ = false

abbrev pub is_newline : Mark → Bool
is_newline m.Newline = true
is_newline _ = false

abbrev pub is_indent : Mark → Bool
is_indent m.Indent = true
is_indent _ = false

abbrev pub is_dedent : Mark → Bool
is_dedent m.Dedent = true
is_dedent _ = false

abbrev pub is_end : Mark → Bool
is_end m.End = true
is_end _ = false

-- what ends the statements of a block, or of the script
abbrev pub closes : Bool → Mark → Bool
closes true q = is_dedent q
closes false q = is_end q

-- how many brackets and indentation levels are open behind a token, where so many were open before it
abbrev pub opened_by_sign : ℕ → Sign → ℕ
opened_by_sign n s.LeftParen = n + 1
opened_by_sign n s.LeftBracket = n + 1
opened_by_sign n s.LeftBrace = n + 1
opened_by_sign n s.RightParen = n - 1
opened_by_sign n s.RightBracket = n - 1
opened_by_sign n s.RightBrace = n - 1
opened_by_sign n _ = n

abbrev pub opened : ℕ → TokenKind → ℕ
opened n (k.Sign s) = opened_by_sign n s
opened n k.Indent = n + 1
opened n k.Dedent = n - 1
opened n _ = n

-- ---- a parenthesised form with a comma (reference, section 6.2.3)

abbrev pub has_items : List (Item Expr) → Bool
has_items [] = false
has_items (i ∷ is) = true

abbrev pub is_filled : Expr-F Expr → Bool
is_filled (Expr-F.Tuple line items) = has_items items
is_filled _ = false

abbrev pub is_comma : TokenKind → Bool
is_comma (k.Sign s.Comma) = true
is_comma _ = false

-- whether a comma stands in exactly one bracket, where n are open before the tokens
abbrev pub comma_in_one : ℕ → List Token → Bool
comma_in_one n [] = false
comma_in_one n (t ∷ ts) = if (if is_comma t.kind then nat_eq n 1 else false) then true else comma_in_one (opened n t.kind) ts

-- whether the expression, which these tokens spell, is brackets round a tuple with items, whose commas stand directly inside
unfoldable pub is_form : Expr → List Token → Bool
is_form x ts = if is_filled (out-Expr x) then comma_in_one 0 ts else false
