-- The parser of expressions as a function. The grammar does not speak of it: it is what the code computes, one definition for
-- each function.
use Rattle.std.specs.Prelude.{ℕ, ℤ, zero, suc, ◌+◌, ◌-◌, max, Bool, true, false, not, nat_lt, nat_le, if◌then◌else◌, List, [], ◌∷◌, ◌++◌, length, Option, Some, None, Result, Ok, Err, ◌≡◌}
use denote.Enum.Bare.{sameb}
use Rattle.py_ast.specs.contracts.spelled.Sign.{the_type as sign_type}
use Rattle.py_ast.specs.contracts.spelled.Word.{the_type as word_type}
use Rattle.py_ast.specs.declared.token.Token.{Token}
use Rattle.py_ast.specs.declared.token.TokenKind.{TokenKind}
use Rattle.py_ast.specs.declared.token.TokenKind.TheVariants as k
use Rattle.py_ast.specs.declared.spelled.Word.{Word}
use Rattle.py_ast.specs.declared.spelled.Word.TheVariants as w
use Rattle.py_ast.specs.declared.spelled.Sign.{Sign}
use Rattle.py_ast.specs.declared.spelled.Sign.TheVariants as s
use Rattle.py_ast.specs.declared.expr.Unary.{Unary}
use Rattle.py_ast.specs.declared.expr.Unary.TheVariants as unary
use Rattle.py_ast.specs.declared.expr.Binary.TheVariants as binary
use Rattle.py_ast.specs.declared.expr.Comparison.{Comparison}
use Rattle.py_ast.specs.declared.expr.Comparison.TheVariants as cmp
use Rattle.py_ast.specs.declared.expr.Item.{Item}
use Rattle.py_ast.specs.declared.expr.Item.TheVariants as it
use Rattle.py_ast.specs.declared.expr.Entry.{Entry}
use Rattle.py_ast.specs.declared.expr.Entry.TheVariants as en
use Rattle.py_ast.specs.declared.expr.Argument.{Argument}
use Rattle.py_ast.specs.declared.expr.Argument.TheVariants as ar
use Rattle.py_ast.specs.declared.expr.Link.{Link}
use Rattle.py_ast.specs.declared.expr.Param.{Param}
use Rattle.py_ast.specs.declared.expr.Param.TheVariants as pa
use Rattle.py_ast.specs.declared.expr.Subscript.{Subscript}
use Rattle.py_ast.specs.declared.expr.Subscript.TheVariants as sub
use Rattle.py_ast.specs.declared.expr.Clause.{Clause}
use Rattle.py_ast.specs.declared.expr.Clause.TheVariants as cl
use Rattle.py_ast.specs.declared.expr.Clauses.{Clauses}
use Rattle.py_ast.specs.declared.expr.Expr.{Expr}
use Rattle.py_ast.specs.declared.expr.Expr.TheVariants as e
use Rattle.py_grammar.specs.declared.found.Found.{Found}
use Rattle.py_grammar.specs.declared.found.ParseEnd.{ParseEnd}
use Rattle.py_grammar.specs.declared.found.ParseEnd.TheVariants as ends
use Rattle.py_grammar.specs.declared.role.Mark.{Mark}
use Rattle.py_grammar.specs.declared.role.Mark.TheVariants as m
use Rattle.py_grammar.specs.declared.role.Role.{Role}
use Rattle.py_grammar.specs.declared.role.Role.TheVariants as r
use Rattle.py_grammar.specs.declared.role.Row.{Row}
use Rattle.py_grammar.specs.declared.role.Row.TheVariants as row
use Rattle.py_grammar.specs.declared.role.Bracket.{Bracket}
use Rattle.py_grammar.specs.declared.role.Bracket.TheVariants as b
use Rattle.py_grammar.specs.Levels.{expression, disjunction, negation, bitor, signed, level_of, plain_level, star_level, role, makes, mark, line, next, closing, can_begin}
use Rattle.py_grammar.specs.Lists.{arguments_in_order, params_in_order}
use Rattle.py_grammar.specs.Grammar.{Parts, Part, combined, alone}

-- ---- steps

abbrev pub Parser : Type 0 → Type 0
Parser A = List Token → Option (A × List Token)

abbrev pub and_then : {A B : Type 0} → Option (A × List Token) → (A → Parser B) → Option (B × List Token)
and_then (Some p) f = f p.0 p.1
and_then None f = None

infixl 10 ◌>>=◌
abbrev pub ◌>>=◌ : {A B : Type 0} → Parser A → (A → Parser B) → Parser B
p >>= f = λ i. and_then (p i) f

infixl 10 ◌>>◌
abbrev pub ◌>>◌ : {A B : Type 0} → Parser A → Parser B → Parser B
p >> q = p >>= (λ _. q)

abbrev pub pure : {A : Type 0} → A → Parser A
pure a = λ i. Some (a, i)

abbrev pub refuse : {A : Type 0} → Parser A
refuse = λ i. None

abbrev pub peek : Parser Mark
peek = λ i. Some (mark i, i)

abbrev pub here : Parser ℕ
here = λ i. Some (line i, i)

-- the token's line, and past it
abbrev pub take : Parser ℕ
take = λ i. Some (line i, next i)

abbrev pub is_sign : Sign → Mark → Bool
is_sign s (m.Sign t) = sameb sign_type t s
is_sign s _ = false

abbrev pub is_word : Word → Mark → Bool
is_word w (m.Keyword v) = sameb word_type v w
is_word w _ = false

abbrev pub is_name : Mark → Bool
is_name m.Name = true
is_name _ = false

unfoldable pub sees : Sign → List Token → Bool
sees s i = is_sign s (mark i)

unfoldable pub sees_word : Word → List Token → Bool
sees_word w i = is_word w (mark i)

-- a name and `=`
unfoldable pub sees_keyword : List Token → Bool
sees_keyword i = if is_name (mark i) then sees s.Equal (next i) else false

unfoldable pub after : Sign → List Token → List Token
after s i = if sees s i then next i else i

-- takes a token of this sign, if it comes next
abbrev pub eat : Sign → Parser Bool
eat s = λ i. Some (sees s i, after s i)

unfoldable pub expect : Sign → Parser (Unit {0})
expect s = λ i. if sees s i then Some (tt, next i) else None

unfoldable pub expect_word : Word → Parser (Unit {0})
expect_word w = λ i. if sees_word w i then Some (tt, next i) else None

abbrev pub name_of : TokenKind → Option (List ℕ)
name_of (k.Name text) = Some text
name_of _ = None

abbrev pub number_of : TokenKind → Option ℤ
number_of (k.Number value) = Some value
number_of _ = None

abbrev pub text_of : TokenKind → Option (List ℕ)
text_of (k.Text text) = Some text
text_of _ = None

abbrev pub with_rest : {A : Type 0} → List Token → Option A → Option (A × List Token)
with_rest i (Some a) = Some (a, i)
with_rest i None = None

-- what the next token stands for
unfoldable pub name : Parser (List ℕ)
name [] = None
name (t ∷ i) = with_rest i (name_of t.kind)

unfoldable pub number : Parser ℤ
number [] = None
number (t ∷ i) = with_rest i (number_of t.kind)

abbrev pub or_else : {X : Type 0} → Option (List ℕ) → (List ℕ → X) → X → X
or_else (Some text) f x = f text
or_else None f x = x

-- adjacent literals, behind others that were joined
unfoldable pub texts_from : List ℕ → Parser (List ℕ)
texts_from before [] = Some (before, [])
texts_from before (t ∷ i) = or_else (text_of t.kind) (λ text. texts_from (before ++ text) i) (Some (before, t ∷ i))

-- a node over parts of this height
unfoldable pub tall : ℕ → ℕ → Expr → Parser (Found Expr)
tall d h x = λ i. if nat_lt h d then Some (record { tree = x; height = h + 1 }, i) else None

abbrev pub found : {A : Type 0} → A → ℕ → Found A
found x h = record { tree = x; height = h }

abbrev pub only : {A : Type 0} → Found A → Found (List A)
only x = found (x.tree ∷ []) x.height

abbrev pub with_part : {A : Type 0} → Found (List A) → Found A → Found (List A)
with_part acc x = record { tree = acc.tree ++ x.tree ∷ []; height = max acc.height x.height }

-- ---- comparisons

abbrev pub is_comparison : Role → Bool
is_comparison r.Compares = true
is_comparison _ = false

abbrev pub comparator_by : Mark → Parser Comparison
comparator_by (m.Sign s.Less) = take >> pure cmp.Less
comparator_by (m.Sign s.Greater) = take >> pure cmp.Greater
comparator_by (m.Sign s.LessEqual) = take >> pure cmp.LessEqual
comparator_by (m.Sign s.GreaterEqual) = take >> pure cmp.GreaterEqual
comparator_by (m.Sign s.EqualEqual) = take >> pure cmp.Equal
comparator_by (m.Sign s.NotEqual) = take >> pure cmp.NotEqual
comparator_by (m.Keyword w.In) = take >> pure cmp.In
comparator_by (m.Keyword w.Is) = take >> (λ i. if sees_word w.Not i then Some (cmp.IsNot, next i) else Some (cmp.Is, i))
comparator_by (m.Keyword w.Not) = take >> expect_word w.In >> pure cmp.NotIn
comparator_by _ = refuse

unfoldable pub comparator : Parser Comparison
comparator = peek >>= comparator_by

-- ---- the first tokens of parts

abbrev pub begins_item : Row → Mark → Bool
begins_item row (m.Sign s.Star) = true
begins_item row q = can_begin (plain_level row) q

abbrev pub begins_argument : Mark → Bool
begins_argument (m.Sign s.Star) = true
begins_argument (m.Sign s.DoubleStar) = true
begins_argument q = can_begin expression q

abbrev pub begins_entry : Mark → Bool
begins_entry (m.Sign s.DoubleStar) = true
begins_entry q = can_begin expression q

abbrev pub begins_param : Mark → Bool
begins_param m.Name = true
begins_param (m.Sign s.Slash) = true
begins_param (m.Sign s.Star) = true
begins_param (m.Sign s.DoubleStar) = true
begins_param _ = false

abbrev pub begins_clause : Mark → Bool
begins_clause (m.Keyword w.For) = true
begins_clause (m.Keyword w.If) = true
begins_clause _ = false

abbrev pub begins : Parts → Mark → Bool
begins (Parts.items row) q = begins_item row q
begins Parts.arguments q = begins_argument q
begins Parts.entries q = begins_entry q
begins Parts.params q = begins_param q
begins Parts.indices q = can_begin expression q
begins Parts.links q = is_comparison (role q)
begins Parts.clauses q = begins_clause q

-- The parser again takes a level and a depth. It is the same parser on fewer tokens, whose count bounds the turns.
module _ (again : ℕ → ℕ → Parser (Found Expr)) (turns : ℕ) where
  -- ---- parts

  unfoldable pub item : Row → ℕ → Parser (Found (Item Expr))
  item row d = λ i. if sees s.Star i then and_then (again (star_level row) d (next i)) (λ x. pure (found (it.Star (line i) x.tree) x.height)) else and_then (again (plain_level row) d i) (λ x. pure (found (it.One x.tree) x.height))

  unfoldable pub keyword : ℕ → Parser (Found (Argument Expr))
  keyword d = do
    at ← here
    text ← name
    take
    x ← again expression d
    pure (found (ar.Keyword at text x.tree) x.height)

  abbrev pub plain_argument : ℕ → Parser (Found (Argument Expr))
  plain_argument d = λ i. if sees_keyword i then keyword d i else and_then (again expression d i) (λ x. pure (found (ar.Plain x.tree) x.height))

  abbrev pub argument_by : ℕ → Mark → Parser (Found (Argument Expr))
  argument_by d (m.Sign s.Star) = take >> (again expression d >>= λ x. pure (found (ar.Star x.tree) x.height))
  argument_by d (m.Sign s.DoubleStar) = take >> (again expression d >>= λ x. pure (found (ar.Merge x.tree) x.height))
  argument_by d _ = plain_argument d

  unfoldable pub argument : ℕ → Parser (Found (Argument Expr))
  argument d = peek >>= argument_by d

  unfoldable pub pair : ℕ → Parser (Found (Entry Expr))
  pair d = do
    key ← again expression d
    expect s.Colon
    value ← again expression d
    pure (found (en.Pair key.tree value.tree) (max key.height value.height))

  unfoldable pub entry : ℕ → Parser (Found (Entry Expr))
  entry d = λ i. if sees s.DoubleStar i then and_then (again bitor d (next i)) (λ x. pure (found (en.Merge x.tree) x.height)) else pair d i

  unfoldable pub named : ℕ → Parser (Found (Param Expr))
  named d = do
    at ← here
    text ← name
    has ← eat s.Equal
    if has then (again expression d >>= λ x. pure (found (pa.Named at text (Some x.tree)) x.height)) else pure (found (pa.Named at text None) 0)

  abbrev pub star_by : ℕ → Mark → Parser (Found (Param Expr))
  star_by at m.Name = name >>= λ text. pure (found (pa.Star at (Some text)) 0)
  star_by at _ = pure (found (pa.Star at None) 0)

  abbrev pub param_by : ℕ → Mark → Parser (Found (Param Expr))
  param_by d m.Name = named d
  param_by d (m.Sign s.Slash) = take >>= λ at. pure (found (pa.Slash at) 0)
  param_by d (m.Sign s.Star) = take >>= λ at. (peek >>= star_by at)
  param_by d (m.Sign s.DoubleStar) = take >>= λ at. (name >>= λ text. pure (found (pa.DoubleStar at text) 0))
  param_by d _ = refuse

  unfoldable pub param : ℕ → Parser (Found (Param Expr))
  param d = peek >>= param_by d

  unfoldable pub link : ℕ → Parser (Found (Link Expr))
  link d = do
    o ← comparator
    right ← again bitor d
    pure (found (record { comparison = o; right = right.tree }) right.height)

  -- ---- lists

  -- further parts with commas between, and perhaps a comma behind
  unfoldable pub tail_from : (p : Parts) → (ℕ → Parser (Found (Part p))) → ℕ → ℕ → Found (List (Part p)) → Parser (Found (List (Part p)))
  tail_from p read d zero acc = refuse
  tail_from p read d (suc n) acc = do
    is_more ← eat s.Comma
    if is_more then (λ i. if begins p (mark i) then and_then (read d i) (λ x. tail_from p read d n (with_part acc x)) else Some (acc, i)) else pure acc

  -- further parts, each with a first token of its own
  unfoldable pub run_from : (p : Parts) → (ℕ → Parser (Found (Part p))) → ℕ → ℕ → Found (List (Part p)) → Parser (Found (List (Part p)))
  run_from p read d zero acc = refuse
  run_from p read d (suc n) acc = λ i. if begins p (mark i) then and_then (read d i) (λ x. run_from p read d n (with_part acc x)) else Some (acc, i)

  -- what stands behind the first item: nothing, or the others of a tuple, which begins on the line at
  unfoldable pub row_behind : ℕ → Row → ℕ → Found (Item Expr) → Parser (Found Expr)
  row_behind at row d x = λ i. if sees s.Comma i then and_then (tail_from (Parts.items row) (item row) (d - 1) turns (only x) i) (λ items. tall d items.height (e.Tuple at items.tree)) else Some (found (alone x.tree) x.height, i)

  unfoldable pub row_of : ℕ → Row → ℕ → Parser (Found Expr)
  row_of at row d = do
    x ← item row d
    row_behind at row d x

  unfoldable pub some_params : ℕ → Parser (Found (List (Param Expr)))
  some_params d = λ i. if begins_param (mark i) then and_then (param d i) (λ p. tail_from Parts.params param d turns (only p)) else Some (found [] 0, i)

  unfoldable pub params : ℕ → Parser (Found (List (Param Expr)))
  params d = some_params d >>= (λ ps. if params_in_order ps.tree then pure ps else refuse)

  -- ---- comprehensions

  unfoldable pub loop_clause : ℕ → Parser (Found (Clause Expr))
  loop_clause d = do
    at ← take
    start ← here
    x ← row_of start row.Targets d
    expect_word w.In
    y ← again disjunction d
    pure (found (cl.For at x.tree y.tree) (max x.height y.height))

  abbrev pub clause_by : ℕ → Mark → Parser (Found (Clause Expr))
  clause_by d (m.Keyword w.For) = loop_clause d
  clause_by d (m.Keyword w.If) = do
    at ← take
    x ← again disjunction d
    pure (found (cl.If at x.tree) x.height)
  clause_by d _ = refuse

  unfoldable pub clause : ℕ → Parser (Found (Clause Expr))
  clause d = peek >>= clause_by d

  abbrev pub comprehended : ℕ → ℕ → Clause Expr → Parser (Found (Clauses Expr))
  comprehended d h (cl.For n x y) = run_from Parts.clauses clause d turns (found [] 0) >>= λ more. pure (found (record { target = x; iterable = y; more = more.tree }) (max h more.height))
  comprehended d h (cl.If n x) = refuse

  unfoldable pub comprehension : ℕ → Parser (Found (Clauses Expr))
  comprehension d = clause d >>= λ first. comprehended d first.height first.tree

  -- ---- what stands in brackets

  unfoldable pub yielded : ℕ → ℕ → Parser (Found Expr)
  yielded at d = λ i. if begins_item row.Expressions (mark i) then and_then (row_of (line i) row.Expressions (d - 1) i) (λ x. tall d x.height (e.Yield at (Some x.tree))) else tall d 0 (e.Yield at None) i

  unfoldable pub yields : ℕ → Parser (Found Expr)
  yields d = take >>= (λ at i. if sees_word w.From i then and_then (again expression (d - 1) (next i)) (λ x. tall d x.height (e.YieldFrom at x.tree)) else yielded at d i)

  abbrev pub generator : ℕ → ℕ → ℕ → Item Expr → Parser (Found Expr)
  generator at d h (it.One x) = comprehension (d - 1) >>= λ c. tall d (max h c.height) (e.Generator at x c.tree)
  generator at d h (it.Star n x) = refuse

  -- what stands behind the first item
  unfoldable pub round_behind : ℕ → ℕ → Found (Item Expr) → Parser (Found Expr)
  round_behind at d x = λ i. if sees_word w.For i then generator at d x.height x.tree i else row_behind at row.Expressions d x i

  abbrev pub round_first : ℕ → ℕ → Parser (Found Expr)
  round_first at d = do
    x ← item row.Expressions d
    round_behind at d x

  abbrev pub round_by : ℕ → ℕ → Mark → Parser (Found Expr)
  round_by at d (m.Sign s.RightParen) = tall d 0 (e.Tuple at [])
  round_by at d (m.Keyword w.Yield) = yields d
  round_by at d _ = round_first at d

  unfoldable pub round : ℕ → ℕ → Parser (Found Expr)
  round at d = peek >>= round_by at d

  abbrev pub list_of : ℕ → ℕ → ℕ → Item Expr → Parser (Found Expr)
  list_of at d h (it.One x) = comprehension (d - 1) >>= λ c. tall d (max h c.height) (e.ListComprehension at x c.tree)
  list_of at d h (it.Star n x) = refuse

  unfoldable pub square_behind : ℕ → ℕ → Found (Item Expr) → Parser (Found Expr)
  square_behind at d x = λ i. if sees_word w.For i then list_of at d x.height x.tree i else and_then (tail_from (Parts.items row.Expressions) (item row.Expressions) (d - 1) turns (only x) i) (λ items. tall d items.height (e.List at items.tree))

  unfoldable pub square : ℕ → ℕ → Parser (Found Expr)
  square at d = λ i. if begins_item row.Expressions (mark i) then and_then (item row.Expressions (d - 1) i) (square_behind at d) else tall d 0 (e.List at []) i

  abbrev pub dict_of : ℕ → ℕ → ℕ → Entry Expr → Parser (Found Expr)
  dict_of at d h (en.Pair x y) = comprehension (d - 1) >>= λ c. tall d (max h c.height) (e.DictComprehension at x y c.tree)
  dict_of at d h (en.Merge x) = refuse

  unfoldable pub curly_behind : ℕ → ℕ → Found (Entry Expr) → Parser (Found Expr)
  curly_behind at d x = λ i. if sees_word w.For i then dict_of at d x.height x.tree i else and_then (tail_from Parts.entries entry (d - 1) turns (only x) i) (λ entries. tall d entries.height (e.Dict at entries.tree))

  unfoldable pub curly : ℕ → ℕ → Parser (Found Expr)
  curly at d = λ i. if begins_entry (mark i) then and_then (entry (d - 1) i) (curly_behind at d) else tall d 0 (e.Dict at []) i

  abbrev pub inside : Bracket → ℕ → ℕ → Parser (Found Expr)
  inside b.Round at d = round at d
  inside b.Square at d = square at d
  inside b.Curly at d = curly at d

  unfoldable pub bracketed : Bracket → ℕ → Parser (Found Expr)
  bracketed b d = do
    at ← take
    x ← inside b at d
    expect (closing b)
    pure x

  -- ---- arguments and subscripts

  abbrev pub lone_generator : ℕ → ℕ → ℕ → Argument Expr → Parser (Found (List (Argument Expr)))
  lone_generator at d h (ar.Plain x) = do
    c ← comprehension (d - 1)
    g ← tall d (max h c.height) (e.Generator at x c.tree)
    pure (found (ar.Plain g.tree ∷ []) g.height)
  lone_generator at d h _ = refuse

  unfoldable pub arguments_behind : ℕ → ℕ → Found (Argument Expr) → Parser (Found (List (Argument Expr)))
  arguments_behind start d x = λ i. if sees_word w.For i then lone_generator start d x.height x.tree i else and_then (tail_from Parts.arguments argument d turns (only x) i) (λ args. if arguments_in_order args.tree then pure args else refuse)

  unfoldable pub arguments : ℕ → Parser (Found (List (Argument Expr)))
  arguments d = λ i. if begins_argument (mark i) then and_then (argument d i) (arguments_behind (line i) d) else Some (found [] 0, i)

  unfoldable pub bound : ℕ → Parser (Found (Option Expr))
  bound d = λ i. if can_begin expression (mark i) then and_then (again expression d i) (λ x. pure (found (Some x.tree) x.height)) else Some (found None 0, i)

  unfoldable pub step : ℕ → Parser (Found (Option Expr))
  step d = λ i. if sees s.Colon i then bound d (next i) else Some (found None 0, i)

  unfoldable pub slice : ℕ → Found (Option Expr) → Parser (Found (Subscript Expr))
  slice d lower = do
    take
    upper ← bound d
    by ← step d
    pure (found (sub.Slice lower.tree upper.tree by.tree) (max lower.height (max upper.height by.height)))

  unfoldable pub subscripts_behind : ℕ → Found Expr → Parser (Found (Subscript Expr))
  subscripts_behind d x = λ i. if sees s.Comma i then and_then (tail_from Parts.indices (again expression) d turns (only x) i) (λ all. pure (found (sub.Several all.tree) all.height)) else (if sees s.Colon i then slice d (found (Some x.tree) x.height) i else Some (found (sub.One x.tree) x.height, i))

  unfoldable pub subscripts : ℕ → Parser (Found (Subscript Expr))
  subscripts d = λ i. if sees s.Colon i then slice d (found None 0) i else and_then (again expression d i) (subscripts_behind d)

  abbrev pub part : (p : Parts) → ℕ → Parser (Found (Part p))
  part (Parts.items row) = item row
  part Parts.arguments = argument
  part Parts.entries = entry
  part Parts.params = param
  part Parts.indices = again expression
  part Parts.links = link
  part Parts.clauses = clause

  -- ---- what the next token makes of the expression before it, which begins on the line at

  unfoldable pub conditional : ℕ → ℕ → Found Expr → Parser (Found Expr)
  conditional at d left = do
    take
    test ← again disjunction (d - 1)
    expect_word w.Else
    other ← again expression (d - 1)
    tall d (max left.height (max test.height other.height)) (e.Conditional at test.tree left.tree other.tree)

  unfoldable pub call : ℕ → ℕ → Found Expr → Parser (Found Expr)
  call at d left = do
    take
    args ← arguments (d - 1)
    expect s.RightParen
    tall d (max left.height args.height) (e.Call at left.tree args.tree)

  unfoldable pub index : ℕ → ℕ → Found Expr → Parser (Found Expr)
  index at d left = do
    take
    inner ← subscripts (d - 1)
    expect s.RightBracket
    tall d (max left.height inner.height) (e.Index at left.tree inner.tree)

  unfoldable pub compare : ℕ → ℕ → Found Expr → Parser (Found Expr)
  compare at d left = do
    first ← link (d - 1)
    links ← run_from Parts.links link (d - 1) turns (only first)
    tall d (max left.height links.height) (e.Compare at left.tree links.tree)

  abbrev pub operated : ℕ → ℕ → Found Expr → Role → Parser (Found Expr)
  operated at d left (r.Infix c o) = do
    take
    right ← again (level_of c + 1) (d - 1)
    tall d (max left.height right.height) (combined at o left.tree right.tree)
  operated at d left r.Power = do
    take
    right ← again signed (d - 1)
    tall d (max left.height right.height) (e.Binary at binary.Power left.tree right.tree)
  operated at d left r.Compares = compare at d left
  operated at d left r.Condition = conditional at d left
  operated at d left r.Call = call at d left
  operated at d left r.Index = index at d left
  operated at d left r.Attribute = do
    take
    text ← name
    tall d left.height (e.Attribute at left.tree text)
  operated at d left r.Ends = refuse
  operated at d left r.Literal = refuse

  unfoldable pub operation : ℕ → ℕ → Found Expr → Parser (Found Expr)
  operation at d left = peek >>= (λ q. operated at d left (role q))

  -- ---- the first token of an expression

  unfoldable pub lambda : ℕ → Parser (Found Expr)
  lambda d = do
    at ← take
    ps ← params (d - 1)
    expect s.Colon
    x ← again expression (d - 1)
    tall d (max ps.height x.height) (e.Lambda at ps.tree x.tree)

  unfoldable pub negated : ℕ → Parser (Found Expr)
  negated d = do
    at ← take
    x ← again negation (d - 1)
    tall d x.height (e.Not at x.tree)

  unfoldable pub under : Unary → ℕ → ℕ → Parser (Found Expr)
  under o least d = if nat_lt signed least then refuse else (do
    at ← take
    x ← again signed (d - 1)
    tall d x.height (e.Unary at o x.tree))

  abbrev pub prefix_by : ℕ → ℕ → Mark → Parser (Found Expr)
  prefix_by least d m.Name = do
    at ← here
    text ← name
    tall d 0 (e.Name at text)
  prefix_by least d m.Number = do
    at ← here
    value ← number
    tall d 0 (e.Number at value)
  prefix_by least d m.Text = do
    at ← here
    text ← texts_from []
    tall d 0 (e.Text at text)
  prefix_by least d (m.Keyword w.None) = take >>= λ at. tall d 0 (e.None at)
  prefix_by least d (m.Keyword w.True) = take >>= λ at. tall d 0 (e.True at)
  prefix_by least d (m.Keyword w.False) = take >>= λ at. tall d 0 (e.False at)
  prefix_by least d (m.Keyword w.Lambda) = if nat_lt expression least then refuse else lambda d
  prefix_by least d (m.Keyword w.Not) = if nat_lt negation least then refuse else negated d
  prefix_by least d (m.Sign s.Plus) = under unary.Plus least d
  prefix_by least d (m.Sign s.Minus) = under unary.Minus least d
  prefix_by least d (m.Sign s.Tilde) = under unary.Invert least d
  prefix_by least d (m.Sign s.LeftParen) = bracketed b.Round d
  prefix_by least d (m.Sign s.LeftBracket) = bracketed b.Square d
  prefix_by least d (m.Sign s.LeftBrace) = bracketed b.Curly d
  prefix_by least d _ = refuse

  unfoldable pub prefix : ℕ → ℕ → Parser (Found Expr)
  prefix least d = peek >>= prefix_by least d

  -- goes on while the next token makes something of this level or a tighter one
  unfoldable pub climb : ℕ → ℕ → ℕ → ℕ → Found Expr → Parser (Found Expr)
  climb least d zero at left = λ i. if nat_lt (makes (role (mark i))) least then Some (left, i) else None
  climb least d (suc n) at left = do
    q ← peek
    if nat_lt (makes (role q)) least then pure left else (do
      longer ← operation at d left
      climb least d n at longer)

  unfoldable pub level : ℕ → ℕ → Parser (Found Expr)
  level least d = do
    at ← here
    first ← prefix least d
    climb least d d at first

-- an expression of this level that is no deeper than d
unfoldable pub parse : ℕ → ℕ → ℕ → Parser (Found Expr)
parse zero least d = refuse
parse (suc n) least d = level (parse n) n least d

-- ---- the productions by themselves, no deeper than d

unfoldable pub read_level : ℕ → ℕ → Parser (Found Expr)
read_level least d i = parse (length i + 1) least d i

unfoldable pub read_exprs : ℕ → Parser (Found Expr)
read_exprs d i = row_of (parse (length i + 1)) (length i + 1) (line i) row.Expressions d i

unfoldable pub read_targets : ℕ → Parser (Found Expr)
read_targets d i = row_of (parse (length i + 1)) (length i + 1) (line i) row.Targets d i

unfoldable pub read_target : ℕ → Parser (Found Expr)
read_target d i = and_then (item (parse (length i + 1)) (length i + 1) row.Targets d i) (λ x. pure (found (alone x.tree) x.height))

unfoldable pub read_yield : ℕ → Parser (Found Expr)
read_yield d i = if sees_word w.Yield i then yields (parse (length i + 1)) (length i + 1) d i else None

-- whether an item is an expression by itself, with neither a star before it nor a comma behind
abbrev pub is_alone : Item Expr → List Token → Bool
is_alone (it.One x) i = not (sees s.Comma i)
is_alone (it.Star line x) i = false

-- a list of expressions, and whether it is an expression by itself
unfoldable pub read_row : ℕ → Parser (Found Expr × Bool)
read_row d i = and_then (item (parse (length i + 1)) (length i + 1) row.Expressions d i) (λ x j. and_then (row_behind (parse (length i + 1)) (length i + 1) (line i) row.Expressions d x j) (λ all. pure (all, is_alone x.tree j)))

-- [ params ]
unfoldable pub read_params : ℕ → Parser (Found (List (Param Expr)))
read_params d i = params (parse (length i + 1)) (length i + 1) d i

abbrev pub is_nothing : {A : Type 0} → List A → Bool
is_nothing [] = true
is_nothing (x ∷ xs) = false

-- params, of which there is one at least
unfoldable pub read_some_params : ℕ → Parser (Found (List (Param Expr)))
read_some_params d = read_params d >>= (λ ps. if is_nothing ps.tree then refuse else pure ps)

-- ---- what a function of the code ensures: the parser's outcome, unless memory fails

abbrev pub Refuses : {A : Type 0} → Option (A × List Token) → ParseEnd → Type 0
Refuses outcome (ends.Grammar at) = outcome ≡ None
Refuses outcome (ends.Depth at) = ⊥
Refuses outcome ends.Memory = Unit {0}

abbrev pub Reads : {A : Type 0} → Option (A × List Token) → Result A ParseEnd → List Token → Type 0
Reads outcome (Ok a) new = outcome ≡ Some (a, new)
Reads outcome (Err end) new = Refuses outcome end
