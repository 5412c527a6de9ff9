-- The parser of statements as a function. The grammar does not speak of it: it is what the code computes, one definition for
-- each function.
use Rattle.std.specs.Prelude.{ℕ, zero, suc, ◌+◌, ◌-◌, max, Bool, true, false, nat_lt, if◌then◌else◌, List, [], ◌∷◌, ◌++◌, length, Option, Some, None}
use Rattle.std.specs.Prelude.{take as front}
use Rattle.py_ast.specs.declared.spelled.Word.{Word}
use Rattle.py_ast.specs.declared.spelled.Word.TheVariants as w
use Rattle.py_ast.specs.declared.spelled.Sign.TheVariants as s
use Rattle.py_ast.specs.declared.expr.Binary.{Binary}
use Rattle.py_ast.specs.declared.expr.Expr.{Expr}
use Rattle.py_ast.specs.declared.stmt.Stmt.{Stmt}
use Rattle.py_ast.specs.declared.stmt.Stmt.TheVariants as st
use Rattle.py_ast.specs.declared.stmt.Branch.{Branch}
use Rattle.py_ast.specs.declared.stmt.Handler.{Handler}
use Rattle.py_ast.specs.declared.stmt.Manager.{Manager}
use Rattle.py_ast.specs.declared.stmt.Declared.{Declared}
use Rattle.py_grammar.specs.declared.found.Found.{Found}
use Rattle.py_grammar.specs.declared.role.Mark.{Mark}
use Rattle.py_grammar.specs.declared.role.Mark.TheVariants as m
use Rattle.py_grammar.specs.declared.role.Row.TheVariants as row
use Rattle.py_grammar.specs.Levels.{expression, mark, line, next, can_begin}
use Rattle.py_grammar.specs.Grammar.{max_depth}
use Rattle.py_grammar.specs.Parse.{Parser, and_then, ◌>>=◌, ◌>>◌, pure, refuse, peek, here, take, sees, sees_word, eat, expect, expect_word, name, found, only, with_part, begins_item, read_level, read_exprs, read_targets, read_target, read_yield, read_params, read_row}
use Rattle.py_statements.specs.Words.{augmented, begins_compound, is_newline, is_indent, is_dedent, closes, is_form}

-- a node over parts of this height
unfoldable pub made : ℕ → ℕ → Stmt → Parser (Found Stmt)
made d h x = λ i. if nat_lt h d then Some (found x (h + 1), i) else None

-- past the next token, which is as is said
unfoldable pub pass : (Mark → Bool) → Parser (Unit {0})
pass is = λ i. if is (mark i) then Some (tt, next i) else None

-- ---- simple statements

unfoldable pub right : ℕ → Parser (Found Expr)
right d = λ i. if sees_word w.Yield i then read_yield d i else read_exprs d i

unfoldable pub maybe_exprs : ℕ → Parser (Found (Option Expr))
maybe_exprs d = λ i. if begins_item row.Expressions (mark i) then and_then (read_exprs d i) (λ x. pure (found (Some x.tree) x.height)) else Some (found None 0, i)

unfoldable pub maybe_expression : ℕ → Parser (Found (Option Expr))
maybe_expression d = λ i. if can_begin expression (mark i) then and_then (read_level expression d i) (λ x. pure (found (Some x.tree) x.height)) else Some (found None 0, i)

unfoldable pub message : ℕ → Parser (Found (Option Expr))
message d = λ i. if sees s.Comma i then and_then (read_level expression d (next i)) (λ x. pure (found (Some x.tree) x.height)) else Some (found None 0, i)

-- further names, each behind a comma
unfoldable pub names_from : ℕ → List Declared → Parser (List Declared)
names_from zero acc = refuse
names_from (suc n) acc = do
  at ← here
  text ← name
  is_more ← eat s.Comma
  if is_more then names_from n (acc ++ record { line = at; name = text } ∷ []) else pure (acc ++ record { line = at; name = text } ∷ [])

unfoldable pub names : Parser (List Declared)
names i = names_from (length i) [] i

-- behind the first "=", with the targets before it
unfoldable pub assigned_from : ℕ → ℕ → ℕ → Found (List Expr) → Parser (Found Stmt)
assigned_from at d zero targets = refuse
assigned_from at d (suc n) targets = λ i. if sees_word w.Yield i then and_then (read_yield (d - 1) i) (λ x. made d (max targets.height x.height) (st.Assign at targets.tree x.tree)) else and_then (read_exprs (d - 1) i) (λ x j. if sees s.Equal j then assigned_from at d n (with_part targets x) (next j) else made d (max targets.height x.height) (st.Assign at targets.tree x.tree) j)

unfoldable pub assigned : ℕ → ℕ → Found Expr → Parser (Found Stmt)
assigned at d x i = assigned_from at d (length i) (only x) i

abbrev pub augmented_with : ℕ → ℕ → Found Expr → Bool → Option Binary → Parser (Found Stmt)
augmented_with at d x alone (Some o) = λ i. if alone then and_then (right (d - 1) (next i)) (λ y. made d (max x.height y.height) (st.Augment at x.tree o y.tree)) else None
augmented_with at d x alone None = made d x.height (st.Expr at x.tree)

-- behind a list of expressions, of which it is said whether it is an expression by itself
unfoldable pub behind_row : ℕ → ℕ → Found Expr → Bool → Parser (Found Stmt)
behind_row at d x alone = λ i. if sees s.Equal i then assigned at d x (next i) else augmented_with at d x alone (augmented (mark i)) i

unfoldable pub row_statement : ℕ → Parser (Found Stmt)
row_statement d = do
  at ← here
  x ← read_row (d - 1)
  behind_row at d x.0 x.1

unfoldable pub yield_statement : ℕ → Parser (Found Stmt)
yield_statement d = do
  at ← here
  x ← read_yield (d - 1)
  made d x.height (st.Expr at x.tree)

unfoldable pub return_statement : ℕ → Parser (Found Stmt)
return_statement d = do
  at ← take
  x ← maybe_exprs (d - 1)
  made d x.height (st.Return at x.tree)

unfoldable pub raise_statement : ℕ → Parser (Found Stmt)
raise_statement d = do
  at ← take
  x ← maybe_expression (d - 1)
  made d x.height (st.Raise at x.tree)

unfoldable pub del_statement : ℕ → Parser (Found Stmt)
del_statement d = do
  at ← take
  x ← read_exprs (d - 1)
  made d x.height (st.Del at x.tree)

unfoldable pub assert_statement : ℕ → Parser (Found Stmt)
assert_statement d = do
  at ← take
  x ← read_level expression (d - 1)
  y ← message (d - 1)
  made d (max x.height y.height) (st.Assert at x.tree y.tree)

abbrev pub simple_by : ℕ → Mark → Parser (Found Stmt)
simple_by d (m.Keyword w.Pass) = take >>= λ at. made d 0 (st.Pass at)
simple_by d (m.Keyword w.Break) = take >>= λ at. made d 0 (st.Break at)
simple_by d (m.Keyword w.Continue) = take >>= λ at. made d 0 (st.Continue at)
simple_by d (m.Keyword w.Return) = return_statement d
simple_by d (m.Keyword w.Raise) = raise_statement d
simple_by d (m.Keyword w.Del) = del_statement d
simple_by d (m.Keyword w.Assert) = assert_statement d
simple_by d (m.Keyword w.Global) = take >>= λ at. (names >>= λ all. made d 0 (st.Global at all))
simple_by d (m.Keyword w.Nonlocal) = take >>= λ at. (names >>= λ all. made d 0 (st.Nonlocal at all))
simple_by d (m.Keyword w.Yield) = yield_statement d
simple_by d _ = row_statement d

unfoldable pub simple : ℕ → Parser (Found Stmt)
simple d = peek >>= simple_by d

-- the simple statements of a line, behind other statements
unfoldable pub line_from : ℕ → ℕ → Found (List Stmt) → Parser (Found (List Stmt))
line_from d zero acc = refuse
line_from d (suc n) acc = do
  x ← simple d
  is_closed ← eat s.Semicolon
  (λ i. if is_newline (mark i) then Some (with_part acc x, next i) else (if is_closed then line_from d n (with_part acc x) i else None))

unfoldable pub one_line : ℕ → Found (List Stmt) → Parser (Found (List Stmt))
one_line d acc i = line_from d (length i) acc i

-- ---- parts of compound statements

unfoldable pub as_target : ℕ → Found Expr → Parser (Found Manager)
as_target d x = λ i. if sees_word w.As i then and_then (read_target d (next i)) (λ y. pure (found (record { value = x.tree; target = Some y.tree }) (max x.height y.height))) else Some (found (record { value = x.tree; target = None }) x.height, i)

unfoldable pub manager : ℕ → Parser (Found Manager)
manager d i = and_then (read_level expression d i) (λ x j. if is_form x.tree (front (length i - length j) i) then None else as_target d x j)

unfoldable pub managers_from : ℕ → ℕ → Found (List Manager) → Parser (Found (List Manager))
managers_from d zero acc = refuse
managers_from d (suc n) acc = do
  x ← manager d
  is_more ← eat s.Comma
  if is_more then managers_from d n (with_part acc x) else pure (with_part acc x)

unfoldable pub managers : ℕ → Parser (Found (List Manager))
managers d i = managers_from d (length i) (found [] 0) i

unfoldable pub decorators_from : ℕ → ℕ → Found (List Expr) → Parser (Found (List Expr))
decorators_from d zero acc = refuse
decorators_from d (suc n) acc = λ i. if sees s.At i then and_then (read_level expression d (next i)) (λ x. pass is_newline >> decorators_from d n (with_part acc x)) else Some (acc, i)

unfoldable pub decorators : ℕ → Parser (Found (List Expr))
decorators d i = decorators_from d (length i + 1) (found [] 0) i

unfoldable pub base_class : ℕ → Parser (Found (Option Expr))
base_class d = λ i. if sees s.LeftParen i then and_then (maybe_expression d (next i)) (λ x. expect s.RightParen >> pure x) else Some (found None 0, i)

-- [ "as" NAME ]
unfoldable pub as_name : Parser (Option (List ℕ))
as_name = λ i. if sees_word w.As i then and_then (name (next i)) (λ text. pure (Some text)) else Some (None, i)

-- The parser again takes a depth. It is the parser of blocks on fewer tokens.
module _ (again : ℕ → Parser (Found (List Stmt))) where
  -- expr ":" block, behind its word
  unfoldable pub branch : ℕ → Parser (Found (Branch Stmt))
  branch d = do
    at ← take
    x ← read_level expression d
    body ← again d
    pure (found (record { line = at; test = x.tree; body = body.tree }) (max x.height body.height))

  unfoldable pub elifs_from : ℕ → ℕ → Found (List (Branch Stmt)) → Parser (Found (List (Branch Stmt)))
  elifs_from d zero acc = refuse
  elifs_from d (suc n) acc = λ i. if sees_word w.Elif i then and_then (branch d i) (λ x. elifs_from d n (with_part acc x)) else Some (acc, i)

  -- a block behind a word, or an empty one
  unfoldable pub worded : Word → ℕ → Parser (Found (List Stmt))
  worded word d = λ i. if sees_word word i then again d (next i) else Some (found [] 0, i)

  unfoldable pub if_statement : ℕ → Parser (Found Stmt)
  if_statement d = do
    at ← here
    first ← branch (d - 1)
    all ← (λ i. elifs_from (d - 1) (length i + 1) (only first) i)
    other ← worded w.Else (d - 1)
    made d (max all.height other.height) (st.If at all.tree other.tree)

  unfoldable pub while_statement : ℕ → Parser (Found Stmt)
  while_statement d = do
    first ← branch (d - 1)
    other ← worded w.Else (d - 1)
    made d (max first.height other.height) (st.While first.tree.line first.tree.test first.tree.body other.tree)

  -- behind the targets and what they go over
  unfoldable pub for_blocks : ℕ → ℕ → Found Expr → Found Expr → Parser (Found Stmt)
  for_blocks at d target x = do
    body ← again (d - 1)
    other ← worded w.Else (d - 1)
    made d (max (max target.height x.height) (max body.height other.height)) (st.For at target.tree x.tree body.tree other.tree)

  unfoldable pub for_statement : ℕ → Parser (Found Stmt)
  for_statement d = do
    at ← take
    target ← read_targets (d - 1)
    expect_word w.In
    x ← read_exprs (d - 1)
    for_blocks at d target x

  -- an "except" clause without a class
  unfoldable pub bare_handler : ℕ → ℕ → Parser (Found (Handler Stmt))
  bare_handler at d = do
    body ← again d
    pure (found (record { line = at; class = None; name = None; body = body.tree }) body.height)

  -- an "except" clause with a class
  unfoldable pub class_handler : ℕ → ℕ → Parser (Found (Handler Stmt))
  class_handler at d = do
    x ← read_level expression d
    text ← as_name
    body ← again d
    pure (found (record { line = at; class = Some x.tree; name = text; body = body.tree }) (max x.height body.height))

  unfoldable pub handlers_from : ℕ → ℕ → Found (List (Handler Stmt)) → Parser (Found (List (Handler Stmt)))
  handlers_from d zero acc = refuse
  handlers_from d (suc n) acc = λ i. if sees_word w.Except i then (if sees s.Colon (next i) then and_then (bare_handler (line i) d (next i)) (λ x. pure (with_part acc x)) else and_then (class_handler (line i) d (next i)) (λ x. handlers_from d n (with_part acc x))) else Some (acc, i)

  -- behind the body, where no "except" follows
  unfoldable pub finishes : ℕ → ℕ → Found (List Stmt) → Parser (Found Stmt)
  finishes at d body = do
    expect_word w.Finally
    last ← again (d - 1)
    made d (max body.height last.height) (st.Try at body.tree [] [] last.tree)

  -- behind the body, where "except" follows
  unfoldable pub catches : ℕ → ℕ → Found (List Stmt) → Parser (Found Stmt)
  catches at d body = do
    cs ← (λ i. handlers_from (d - 1) (length i + 1) (found [] 0) i)
    other ← worded w.Else (d - 1)
    last ← worded w.Finally (d - 1)
    made d (max (max body.height cs.height) (max other.height last.height)) (st.Try at body.tree cs.tree other.tree last.tree)

  unfoldable pub try_statement : ℕ → Parser (Found Stmt)
  try_statement d = do
    at ← take
    body ← again (d - 1)
    (λ i. if sees_word w.Except i then catches at d body i else finishes at d body i)

  unfoldable pub with_statement : ℕ → Parser (Found Stmt)
  with_statement d = do
    at ← take
    items ← managers (d - 1)
    body ← again (d - 1)
    made d (max items.height body.height) (st.With at items.tree body.tree)

  unfoldable pub def_statement : ℕ → Found (List Expr) → Parser (Found Stmt)
  def_statement d ds = do
    at ← take
    text ← name
    expect s.LeftParen
    ps ← read_params (d - 1)
    expect s.RightParen
    body ← again (d - 1)
    made d (max ds.height (max ps.height body.height)) (st.Def at ds.tree text ps.tree body.tree)

  unfoldable pub class_statement : ℕ → Found (List Expr) → Parser (Found Stmt)
  class_statement d ds = do
    at ← take
    text ← name
    base ← base_class (d - 1)
    body ← again (d - 1)
    made d (max ds.height (max base.height body.height)) (st.Class at ds.tree text base.tree body.tree)

  abbrev pub decorated_by : ℕ → Found (List Expr) → Mark → Parser (Found Stmt)
  decorated_by d ds (m.Keyword w.Def) = def_statement d ds
  decorated_by d ds (m.Keyword w.Class) = class_statement d ds
  decorated_by d ds _ = refuse

  unfoldable pub decorated : ℕ → Parser (Found Stmt)
  decorated d = do
    ds ← decorators (d - 1)
    q ← peek
    decorated_by d ds q

  abbrev pub compound_by : ℕ → Mark → Parser (Found Stmt)
  compound_by d (m.Keyword w.If) = if_statement d
  compound_by d (m.Keyword w.While) = while_statement d
  compound_by d (m.Keyword w.For) = for_statement d
  compound_by d (m.Keyword w.Try) = try_statement d
  compound_by d (m.Keyword w.With) = with_statement d
  compound_by d _ = decorated d

  unfoldable pub compound : ℕ → Parser (Found Stmt)
  compound d = peek >>= compound_by d

  -- a statement, or the statements of a line, behind others
  unfoldable pub statement : ℕ → Found (List Stmt) → Parser (Found (List Stmt))
  statement d acc = λ i. if begins_compound (mark i) then and_then (compound d i) (λ x. pure (with_part acc x)) else one_line d acc i

  -- the statements of a block or of the script, up to what ends them
  unfoldable pub statements_from : ℕ → Bool → ℕ → Found (List Stmt) → Parser (Found (List Stmt))
  statements_from d inner zero acc = refuse
  statements_from d inner (suc n) acc = λ i. if closes inner (mark i) then Some (acc, i) else and_then (statement d acc i) (statements_from d inner n)

  unfoldable pub statements : ℕ → Bool → Found (List Stmt) → Parser (Found (List Stmt))
  statements d inner acc i = statements_from d inner (length i + 1) acc i

  unfoldable pub indented : ℕ → Parser (Found (List Stmt))
  indented d = do
    pass is_newline
    pass is_indent
    first ← statement d (found [] 0)
    all ← statements d true first
    pass is_dedent
    pure all

  unfoldable pub block : ℕ → Parser (Found (List Stmt))
  block d = expect s.Colon >> (λ i. if is_newline (mark i) then indented d i else one_line d (found [] 0) i)

-- a block that is no deeper than d
unfoldable pub parse : ℕ → ℕ → Parser (Found (List Stmt))
parse zero d = refuse
parse (suc n) d = block (parse n) d

-- the statements of a script
unfoldable pub script : Parser (Found (List Stmt))
script i = statements (parse (length i)) max_depth false (found [] 0) i
