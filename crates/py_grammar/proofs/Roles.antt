-- Which token may stand behind which level.
use Rattle.std.proofs.Common.{◌≡◌, ◌≢◌, ◌⊎◌, ℕ, ◌+◌, ◌<◌, ◌≤◌, Bool, true, false, refl, arith, le_refl, inl, inr}
use Rattle.py_ast.specs.declared.spelled.Sign.TheVariants as s
use Rattle.py_ast.specs.declared.spelled.Word.TheVariants as w
use Rattle.py_grammar.specs.declared.role.Mark.{Mark}
use Rattle.py_grammar.specs.declared.role.Mark.TheVariants as m
use Rattle.py_grammar.specs.declared.role.Chain.{Chain}
use Rattle.py_grammar.specs.declared.role.Chain.TheVariants as c
use Rattle.py_grammar.specs.declared.role.Role.{Role}
use Rattle.py_grammar.specs.declared.role.Role.TheVariants as r
use Rattle.py_grammar.specs.declared.role.Row.{Row}
use Rattle.py_grammar.specs.declared.role.Row.TheVariants as row
use Rattle.py_grammar.specs.declared.role.Bracket.{Bracket}
use Rattle.py_grammar.specs.declared.role.Bracket.TheVariants as b
use Rattle.py_grammar.specs.Levels.{expression, disjunction, negation, comparison, bitor, signed, power, primary, atom, level_of, plain_level, star_level, role, makes, wants, closing, can_begin, follows_expression, follows_exprs, follows_yield, follows_targets, follows_target, follows_params}
use Rattle.py_grammar.specs.Grammar.{Parts}
use Rattle.py_grammar.specs.Parse.{is_sign, is_word, is_name, is_comparison, begins, begins_item, begins_argument, begins_entry, begins_param, begins_clause}

pub levels : (c : Chain) → ((level_of c ≡ 2) ⊎ (level_of c ≡ 3)) ⊎ (((level_of c ≡ 6) ⊎ (level_of c ≡ 7)) ⊎ (((level_of c ≡ 8) ⊎ (level_of c ≡ 9)) ⊎ ((level_of c ≡ 10) ⊎ (level_of c ≡ 11))))
levels c.Or = inl (inl refl)
levels c.And = inl (inr refl)
levels c.BitOr = inr (inl (inl refl))
levels c.BitXor = inr (inl (inr refl))
levels c.BitAnd = inr (inr (inl (inl refl)))
levels c.Shift = inr (inr (inl (inr refl)))
levels c.Sum = inr (inr (inr (inl refl)))
levels c.Term = inr (inr (inr (inr refl)))

-- how far apart the two levels of a role are
pub gap : (q : Role) → ((wants q ≡ makes q) ⊎ ((makes q ≡ 0) × (wants q ≡ 16))) ⊎ (((makes q ≡ 1) × (wants q ≡ 2)) ⊎ (((makes q ≡ 5) × (wants q ≡ 6)) ⊎ ((makes q ≡ 13) × (wants q ≡ 14))))
gap r.Ends = inl (inl refl)
gap r.Literal = inl (inr (refl, refl))
gap r.Condition = inr (inl (refl, refl))
gap r.Compares = inr (inr (inl (refl, refl)))
gap (r.Infix c o) = inl (inl refl)
gap r.Power = inr (inr (inr (refl, refl)))
gap r.Call = inl (inl refl)
gap r.Index = inl (inl refl)
gap r.Attribute = inl (inl refl)

pub makes_wants : (q : Role) → makes q ≤ wants q
makes_wants q = grind (arith, gap q)

-- ---- what may stand behind a level, and goes on looser

pub behind_power : (q : Role) → wants q ≤ power → (wants q ≤ signed) × (makes q < signed)
behind_power r.Ends h = (omega arith, omega arith)
behind_power r.Literal h = absurd (omega arith)
behind_power r.Condition h = (omega arith, omega arith)
behind_power r.Compares h = (omega arith, omega arith)
behind_power (r.Infix c o) h = (grind (arith, levels c), grind (arith, levels c))
behind_power r.Power h = absurd (omega arith)
behind_power r.Call h = absurd (omega arith)
behind_power r.Index h = absurd (omega arith)
behind_power r.Attribute h = absurd (omega arith)

pub behind_negation : (q : Role) → wants q ≤ negation → makes q < negation
behind_negation r.Ends h = omega arith
behind_negation r.Literal h = absurd (omega arith)
behind_negation r.Condition h = omega arith
behind_negation r.Compares h = absurd (omega arith)
behind_negation (r.Infix c o) h = grind (arith, levels c)
behind_negation r.Power h = absurd (omega arith)
behind_negation r.Call h = absurd (omega arith)
behind_negation r.Index h = absurd (omega arith)
behind_negation r.Attribute h = absurd (omega arith)

pub behind_expression : (q : Role) → wants q ≤ expression → makes q < expression
behind_expression r.Ends h = omega arith
behind_expression r.Literal h = absurd (omega arith)
behind_expression r.Condition h = absurd (omega arith)
behind_expression r.Compares h = absurd (omega arith)
behind_expression (r.Infix c o) h = grind (arith, levels c)
behind_expression r.Power h = absurd (omega arith)
behind_expression r.Call h = absurd (omega arith)
behind_expression r.Index h = absurd (omega arith)
behind_expression r.Attribute h = absurd (omega arith)

pub not_comparison : (q : Role) → wants q ≤ comparison → is_comparison q ≡ false
not_comparison r.Compares h = absurd (omega arith)
not_comparison _ h = refl

pub is_comparison_says : (q : Role) → is_comparison q ≡ true → q ≡ r.Compares
is_comparison_says r.Compares h = refl
is_comparison_says _ h = cc

-- ---- the levels of parts

-- the level of the expression with which parts end
abbrev pub inner : Parts → ℕ
inner (Parts.items row) = plain_level row
inner Parts.links = bitor
inner Parts.clauses = disjunction
inner _ = expression

-- what would go on with a part, though no operation
abbrev pub apart_by : Parts → Mark → Bool
apart_by Parts.arguments (m.Sign s.Equal) = false
apart_by Parts.params (m.Sign s.Equal) = false
apart_by Parts.params m.Name = false
apart_by _ _ = true

-- the token may stand behind a part, and does not go on with it
pub record Behind (p : Parts) (q : Mark) : Type 0 where
  pub takes : wants (role q) ≤ inner p
  pub ends : makes (role q) < inner p
  pub apart : apart_by p q ≡ true

-- nor with a list of parts
pub record Over (p : Parts) (q : Mark) : Type 0 where
  pub behind : Behind p q
  pub no_comma : is_sign s.Comma q ≡ false
  pub no_part : begins p q ≡ false

pub plain_positive : (r : Row) → 0 < plain_level r
plain_positive row.Expressions = omega arith
plain_positive row.Targets = omega arith

pub inner_positive : (p : Parts) → 0 < inner p
inner_positive (Parts.items row) = plain_positive row
inner_positive Parts.links = omega arith
inner_positive Parts.clauses = omega arith
inner_positive _ = omega arith

pub star_looser : (r : Row) → plain_level r ≤ star_level r
star_looser row.Expressions = omega arith
star_looser row.Targets = omega arith

-- a token that ends expressions
pub ending : (p : Parts) (q : Mark) → role q ≡ r.Ends → apart_by p q ≡ true → Behind p q
ending p q e h = let some = inner_positive p in record { takes = rw e (omega arith); ends = rw e (omega arith); apart = h }

apart_comma : (p : Parts) → apart_by p (m.Sign s.Comma) ≡ true
apart_comma Parts.params = refl
apart_comma Parts.arguments = refl
apart_comma _ = refl

pub behind_comma : (p : Parts) → Behind p (m.Sign s.Comma)
behind_comma p = ending p (m.Sign s.Comma) refl (apart_comma p)

apart_closing : (p : Parts) (b : Bracket) → apart_by p (m.Sign (closing b)) ≡ true
apart_closing Parts.params b.Round = refl
apart_closing Parts.params b.Square = refl
apart_closing Parts.params b.Curly = refl
apart_closing Parts.arguments b.Round = refl
apart_closing Parts.arguments b.Square = refl
apart_closing Parts.arguments b.Curly = refl
apart_closing _ b = refl

pub closing_role : (b : Bracket) → role (m.Sign (closing b)) ≡ r.Ends
closing_role b.Round = refl
closing_role b.Square = refl
closing_role b.Curly = refl

begins_no_round : (p : Parts) → begins p (m.Sign s.RightParen) ≡ false
begins_no_round (Parts.items row) = refl
begins_no_round _ = refl

begins_no_square : (p : Parts) → begins p (m.Sign s.RightBracket) ≡ false
begins_no_square (Parts.items row) = refl
begins_no_square _ = refl

begins_no_curly : (p : Parts) → begins p (m.Sign s.RightBrace) ≡ false
begins_no_curly (Parts.items row) = refl
begins_no_curly _ = refl

pub begins_no_closing : (p : Parts) (b : Bracket) → begins p (m.Sign (closing b)) ≡ false
begins_no_closing p b.Round = begins_no_round p
begins_no_closing p b.Square = begins_no_square p
begins_no_closing p b.Curly = begins_no_curly p

closing_no_comma : (b : Bracket) → is_sign s.Comma (m.Sign (closing b)) ≡ false
closing_no_comma b.Round = refl
closing_no_comma b.Square = refl
closing_no_comma b.Curly = refl

-- nothing goes on at a closing bracket
pub over_closing : (p : Parts) (b : Bracket) → Over p (m.Sign (closing b))
over_closing p b = record { behind = ending p (m.Sign (closing b)) (closing_role b) (apart_closing p b); no_comma = closing_no_comma b; no_part = begins_no_closing p b }

-- ---- parts that follow one another without commas

abbrev pub runs : Parts → Bool
runs Parts.links = true
runs Parts.clauses = true
runs _ = false

link_running : (q : Mark) → is_comparison (role q) ≡ true → Behind Parts.links q
link_running q h = let e = is_comparison_says (role q) h in record { takes = rw e (omega arith); ends = rw e (omega arith); apart = refl }

clause_running : (q : Mark) → begins_clause q ≡ true → Behind Parts.clauses q
clause_running (m.Keyword w.For) h = record { takes = omega arith; ends = omega arith; apart = refl }
clause_running (m.Keyword w.If) h = record { takes = omega arith; ends = omega arith; apart = refl }
clause_running _ h = cc

pub running : (p : Parts) → runs p ≡ true → (q : Mark) → begins p q ≡ true → Behind p q
running Parts.links h q e = link_running q e
running Parts.clauses h q e = clause_running q e
running _ h q e = cc

-- ---- what follows productions

pub follows_role : (q : Mark) → follows_expression q ≡ true → role q ≡ r.Ends
follows_role (m.Sign s.RightParen) h = refl
follows_role (m.Sign s.RightBracket) h = refl
follows_role (m.Sign s.RightBrace) h = refl
follows_role (m.Sign s.Comma) h = refl
follows_role (m.Sign s.Colon) h = refl
follows_role (m.Sign s.Semicolon) h = refl
follows_role (m.Sign s.Equal) h = refl
follows_role (m.Sign s.PlusEqual) h = refl
follows_role (m.Sign s.MinusEqual) h = refl
follows_role (m.Sign s.StarEqual) h = refl
follows_role (m.Sign s.DoubleSlashEqual) h = refl
follows_role (m.Sign s.PercentEqual) h = refl
follows_role (m.Sign s.DoubleStarEqual) h = refl
follows_role (m.Sign s.LeftShiftEqual) h = refl
follows_role (m.Sign s.RightShiftEqual) h = refl
follows_role (m.Sign s.AmpersandEqual) h = refl
follows_role (m.Sign s.BarEqual) h = refl
follows_role (m.Sign s.CaretEqual) h = refl
follows_role m.Newline h = refl
follows_role (m.Keyword w.As) h = refl
follows_role (m.Keyword w.For) h = refl
follows_role (m.Keyword w.From) h = refl
follows_role _ h = cc

exprs_follow : (q : Mark) → follows_exprs q ≡ true → follows_expression q ≡ true
exprs_follow (m.Sign s.Comma) h = cc
exprs_follow _ h = h

exprs_no_comma : (q : Mark) → follows_exprs q ≡ true → is_sign s.Comma q ≡ false
exprs_no_comma (m.Sign s.Comma) h = cc
exprs_no_comma _ h = refl

exprs_no_item : (q : Mark) → follows_exprs q ≡ true → begins_item row.Expressions q ≡ false
exprs_no_item m.Name h = cc
exprs_no_item m.Number h = cc
exprs_no_item m.Text h = cc
exprs_no_item (m.Keyword w.None) h = cc
exprs_no_item (m.Keyword w.True) h = cc
exprs_no_item (m.Keyword w.False) h = cc
exprs_no_item (m.Keyword w.Lambda) h = cc
exprs_no_item (m.Keyword w.Not) h = cc
exprs_no_item (m.Sign s.Star) h = cc
exprs_no_item (m.Sign s.Plus) h = cc
exprs_no_item (m.Sign s.Minus) h = cc
exprs_no_item (m.Sign s.Tilde) h = cc
exprs_no_item (m.Sign s.LeftParen) h = cc
exprs_no_item (m.Sign s.LeftBracket) h = cc
exprs_no_item (m.Sign s.LeftBrace) h = cc
exprs_no_item _ h = refl

pub over_exprs : (q : Mark) → follows_exprs q ≡ true → Over (Parts.items row.Expressions) q
over_exprs q h = record { behind = ending (Parts.items row.Expressions) q (follows_role q (exprs_follow q h)) refl; no_comma = exprs_no_comma q h; no_part = exprs_no_item q h }

pub yield_follow : (q : Mark) → follows_yield q ≡ true → (follows_exprs q ≡ true) × (is_word w.From q ≡ false)
yield_follow (m.Keyword w.From) h = cc
yield_follow _ h = (h, refl)

pub over_targets : (q : Mark) → follows_targets q ≡ true → Over (Parts.items row.Targets) q
over_targets (m.Keyword w.In) h = record { behind = record { takes = omega arith; ends = omega arith; apart = refl }; no_comma = refl; no_part = refl }
over_targets _ h = cc

pub behind_target : (q : Mark) → follows_target q ≡ true → Behind (Parts.items row.Targets) q
behind_target (m.Sign s.Comma) h = record { takes = omega arith; ends = omega arith; apart = refl }
behind_target (m.Sign s.Colon) h = record { takes = omega arith; ends = omega arith; apart = refl }
behind_target _ h = cc

pub over_params : (q : Mark) → follows_params q ≡ true → Over Parts.params q
over_params (m.Sign s.RightParen) h = record { behind = record { takes = omega arith; ends = omega arith; apart = refl }; no_comma = refl; no_part = refl }
over_params (m.Sign s.Colon) h = record { behind = record { takes = omega arith; ends = omega arith; apart = refl }; no_comma = refl; no_part = refl }
over_params _ h = cc
