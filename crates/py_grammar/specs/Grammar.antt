-- The grammar of expressions (reference, chapter 6): which tokens spell which tree. The first number of an expression is its level,
-- the number before each tree its height.
use Rattle.std.specs.Prelude.{◌≡◌, ℕ, ℤ, ◌+◌, max, ◌≤◌, Bool, true, List, [], ◌∷◌, ◌++◌, length, Option, Some, None, Result, Ok, Err}
use Rattle.py_ast.specs.declared.token.Token.{Token}
use Rattle.py_ast.specs.declared.token.TokenKind.{TokenKind}
use Rattle.py_ast.specs.declared.token.TokenKind.TheVariants as k
use Rattle.py_ast.specs.declared.spelled.Word.{Word}
use Rattle.py_ast.specs.declared.spelled.Word.TheVariants as w
use Rattle.py_ast.specs.declared.spelled.Sign.{Sign}
use Rattle.py_ast.specs.declared.spelled.Sign.TheVariants as s
use Rattle.py_ast.specs.declared.expr.Unary.{Unary}
use Rattle.py_ast.specs.declared.expr.Binary.TheVariants as binary
use Rattle.py_ast.specs.declared.expr.Comparison.{Comparison}
use Rattle.py_ast.specs.declared.expr.Comparison.TheVariants as cmp
use Rattle.py_ast.specs.declared.expr.Item.{Item}
use Rattle.py_ast.specs.declared.expr.Item.TheVariants as it
use Rattle.py_ast.specs.declared.expr.Entry.{Entry}
use Rattle.py_ast.specs.declared.expr.Entry.TheVariants as en
use Rattle.py_ast.specs.declared.expr.Argument.{Argument}
use Rattle.py_ast.specs.declared.expr.Argument.TheVariants as ar
use Rattle.py_ast.specs.declared.expr.Link.{Link}
use Rattle.py_ast.specs.declared.expr.Param.{Param}
use Rattle.py_ast.specs.declared.expr.Param.TheVariants as pa
use Rattle.py_ast.specs.declared.expr.Subscript.{Subscript}
use Rattle.py_ast.specs.declared.expr.Subscript.TheVariants as sub
use Rattle.py_ast.specs.declared.expr.Clause.{Clause}
use Rattle.py_ast.specs.declared.expr.Clause.TheVariants as cl
use Rattle.py_ast.specs.declared.expr.Clauses.{Clauses}
use Rattle.py_ast.specs.declared.expr.Expr.{Expr}
use Rattle.py_ast.specs.declared.expr.Expr.TheVariants as e
use Rattle.py_grammar.specs.declared.role.Operator.{Operator}
use Rattle.py_grammar.specs.declared.role.Operator.TheVariants as o
use Rattle.py_grammar.specs.declared.role.Chain.{Chain}
use Rattle.py_grammar.specs.declared.role.Role.TheVariants as r
use Rattle.py_grammar.specs.declared.role.Row.{Row}
use Rattle.py_grammar.specs.declared.role.Row.TheVariants as row
use Rattle.py_grammar.specs.declared.role.Bracket.{Bracket}
use Rattle.py_grammar.specs.declared.role.Bracket.TheVariants as b
use Rattle.py_grammar.specs.Levels.{expression, disjunction, negation, comparison, bitor, signed, power, primary, atom, level_of, plain_level, star_level, role, mark, mark_of, line, sign_of, opening, closing}
use Rattle.py_grammar.specs.declared.role.Mark.{Mark}
use Rattle.py_grammar.specs.declared.found.ParseEnd.{ParseEnd}
use Rattle.py_grammar.specs.declared.found.ParseEnd.TheVariants as ends
use Rattle.py_grammar.specs.Lists.{arguments_in_order, params_in_order}

abbrev pub IsSign : Token → Sign → Type 0
IsSign t s = t.kind ≡ k.Sign s

abbrev pub IsWord : Token → Word → Type 0
IsWord t w = t.kind ≡ k.Keyword w

-- the words and signs of a comparison
pub data Compares : Comparison → List Token → Type 0 where
  less : (t : Token) → IsSign t s.Less → Compares cmp.Less (t ∷ [])
  greater : (t : Token) → IsSign t s.Greater → Compares cmp.Greater (t ∷ [])
  less_equal : (t : Token) → IsSign t s.LessEqual → Compares cmp.LessEqual (t ∷ [])
  greater_equal : (t : Token) → IsSign t s.GreaterEqual → Compares cmp.GreaterEqual (t ∷ [])
  equal : (t : Token) → IsSign t s.EqualEqual → Compares cmp.Equal (t ∷ [])
  not_equal : (t : Token) → IsSign t s.NotEqual → Compares cmp.NotEqual (t ∷ [])
  within : (t : Token) → IsWord t w.In → Compares cmp.In (t ∷ [])
  not_within : (t u : Token) → IsWord t w.Not → IsWord u w.In → Compares cmp.NotIn (t ∷ u ∷ [])
  is_one : (t : Token) → IsWord t w.Is → Compares cmp.Is (t ∷ [])
  is_not : (t u : Token) → IsWord t w.Is → IsWord u w.Not → Compares cmp.IsNot (t ∷ u ∷ [])

-- an expression that is one token (reference, sections 6.2.1 and 6.2.2)
pub data Leaf : Expr → Token → Type 0 where
  name : {text : List ℕ} (t : Token) → t.kind ≡ k.Name text → Leaf (e.Name t.line text) t
  number : {value : ℤ} (t : Token) → t.kind ≡ k.Number value → Leaf (e.Number t.line value) t
  none : (t : Token) → IsWord t w.None → Leaf (e.None t.line) t
  yes : (t : Token) → IsWord t w.True → Leaf (e.True t.line) t
  no : (t : Token) → IsWord t w.False → Leaf (e.False t.line) t

-- adjacent string literals are one text (reference, section 2.4.2)
pub data Texts : List ℕ → List Token → Type 0 where
  last : {text : List ℕ} (t : Token) → t.kind ≡ k.Text text → Texts text (t ∷ [])
  more : {text texts : List ℕ} {ts : List Token} (t : Token) → t.kind ≡ k.Text text → Texts texts ts → Texts (text ++ texts) (t ∷ ts)

-- an operator between its operands
abbrev pub combined : ℕ → Operator → Expr → Expr → Expr
combined line (o.Junction j) x y = e.Junction line j x y
combined line (o.Binary op) x y = e.Binary line op x y

-- an item that stands by itself, without a comma
abbrev pub alone : Item Expr → Expr
alone (it.One x) = x
alone (it.Star line x) = e.Star line x

-- what stands several times: parts of a list with commas, comparisons, and clauses of a comprehension
pub data Parts : Type 0 where
  items : Row → Parts
  arguments : Parts
  entries : Parts
  params : Parts
  indices : Parts
  links : Parts
  clauses : Parts

abbrev pub Part : Parts → Type 0
Part (Parts.items row) = Item Expr
Part Parts.arguments = Argument Expr
Part Parts.entries = Entry Expr
Part Parts.params = Param Expr
Part Parts.indices = Expr
Part Parts.links = Link Expr
Part Parts.clauses = Clause Expr

mutual
  pub data Spells : ℕ → ℕ → Expr → List Token → Type 0 where
    -- what stands at a tighter level stands at each looser one
    up : {l m h : ℕ} {x : Expr} {ts : List Token} → l ≤ m → Spells m h x ts → Spells l h x ts
    -- "lambda" [ params ] ":" expr (reference, section 6.14)
    lambda : {g h : ℕ} {ps : List (Param Expr)} {x : Expr} {xs ys : List Token} (t u : Token) → IsWord t w.Lambda → Params g ps xs → IsSign u s.Colon → Spells expression h x ys
        → Spells expression (max g h + 1) (e.Lambda t.line ps x) (t ∷ xs ++ u ∷ ys)
    -- or "if" or "else" expr (reference, section 6.13)
    condition : {g h j : ℕ} {x y z : Expr} {xs ys zs : List Token} (t u : Token) → Spells disjunction g x xs → IsWord t w.If → Spells disjunction h y ys → IsWord u w.Else → Spells expression j z zs
        → Spells expression (max g (max h j) + 1) (e.Conditional (line xs) y x z) (xs ++ t ∷ ys ++ u ∷ zs)
    -- the levels with two operands (reference, sections 6.7 to 6.9 and 6.11): an expression of the level itself, a word or
    -- sign of the level, and an expression of the next one
    operates : {c : Chain} {o : Operator} {g h : ℕ} {x y : Expr} {xs ys : List Token} (t : Token) → Spells (level_of c) g x xs → role (mark_of t.kind) ≡ r.Infix c o → Spells (level_of c + 1) h y ys
        → Spells (level_of c) (max g h + 1) (combined (line xs) o x y) (xs ++ t ∷ ys)
    -- "not" not (reference, section 6.11)
    negates : {h : ℕ} {x : Expr} {xs : List Token} (t : Token) → IsWord t w.Not → Spells negation h x xs → Spells negation (h + 1) (e.Not t.line x) (t ∷ xs)
    -- bitor compare bitor { compare bitor } (reference, section 6.10)
    compares : {f g h : ℕ} {x : Expr} {l : Link Expr} {ls : List (Link Expr)} {xs ys zs : List Token} → Spells bitor f x xs → PartOf Parts.links g l ys → Run Parts.links h ls zs
        → Spells comparison (max f (max g h) + 1) (e.Compare (line xs) x (l ∷ ls)) (xs ++ ys ++ zs)
    -- ( "+" | "-" | "~" ) unary (reference, section 6.6)
    signs : {o : Unary} {h : ℕ} {x : Expr} {xs : List Token} (t : Token) → IsSign t (sign_of o) → Spells signed h x xs → Spells signed (h + 1) (e.Unary t.line o x) (t ∷ xs)
    -- primary "**" unary (reference, section 6.5)
    raises : {g h : ℕ} {x y : Expr} {xs ys : List Token} (t : Token) → Spells primary g x xs → IsSign t s.DoubleStar → Spells signed h y ys
        → Spells power (max g h + 1) (e.Binary (line xs) binary.Power x y) (xs ++ t ∷ ys)
    -- primary "." NAME (reference, section 6.3.1)
    attribute : {g : ℕ} {x : Expr} {name : List ℕ} {xs : List Token} (t u : Token) → Spells primary g x xs → IsSign t s.Dot → u.kind ≡ k.Name name
        → Spells primary (g + 1) (e.Attribute (line xs) x name) (xs ++ t ∷ u ∷ [])
    -- primary "[" subscript "]" (reference, sections 6.3.2 and 6.3.3)
    index : {g h : ℕ} {x : Expr} {i : Subscript Expr} {xs ys : List Token} (t u : Token) → Spells primary g x xs → IsSign t s.LeftBracket → Subscripts h i ys → IsSign u s.RightBracket
        → Spells primary (max g h + 1) (e.Index (line xs) x i) (xs ++ t ∷ ys ++ u ∷ [])
    -- primary "(" [ args ] ")" (reference, section 6.3.4)
    calls : {g h : ℕ} {x : Expr} {args : List (Argument Expr)} {xs ys : List Token} (t u : Token) → Spells primary g x xs → IsSign t s.LeftParen → Arguments h args ys → IsSign u s.RightParen
        → Spells primary (max g h + 1) (e.Call (line xs) x args) (xs ++ t ∷ ys ++ u ∷ [])
    leaf : {x : Expr} (t : Token) → Leaf x t → Spells atom 1 x (t ∷ [])
    -- STRING { STRING } (reference, section 6.2.2)
    text : {text : List ℕ} {ts : List Token} → Texts text ts → Spells atom 1 (e.Text (line ts) text) ts
    -- an opening bracket, what stands in it, and the closing one (reference, sections 6.2.3 to 6.2.9)
    bracket : {b : Bracket} {h : ℕ} {x : Expr} {xs : List Token} (t u : Token) → IsSign t (opening b) → Inside b t.line h x xs → IsSign u (closing b) → Spells atom h x (t ∷ xs ++ u ∷ [])

  -- what stands in a bracket that begins on the line n
  pub data Inside : Bracket → ℕ → ℕ → Expr → List Token → Type 0 where
    -- "(" ")" is the empty tuple
    nothing : {n : ℕ} → Inside b.Round n 1 (e.Tuple n []) []
    -- "(" exprs ")" is a tuple, or the expression itself
    exprs : {n h : ℕ} {x : Expr} {xs : List Token} → RowOf row.Expressions n h x xs → Inside b.Round n h x xs
    -- "(" yield ")" (reference, section 6.2.9)
    yielded : {n h : ℕ} {x : Expr} {xs : List Token} → Yields h x xs → Inside b.Round n h x xs
    -- "(" expr comp ")" (reference, section 6.2.8)
    generator : {n g h : ℕ} {x : Expr} {c : Clauses Expr} {xs ys : List Token} → Spells expression g x xs → Comprehends h c ys → Inside b.Round n (max g h + 1) (e.Generator n x c) (xs ++ ys)
    -- "[" [ exprs ] "]" (reference, section 6.2.5)
    list : {n h : ℕ} {is : List (Item Expr)} {xs : List Token} → Several (Parts.items row.Expressions) h is xs → Inside b.Square n (h + 1) (e.List n is) xs
    -- "[" expr comp "]"
    list_of : {n g h : ℕ} {x : Expr} {c : Clauses Expr} {xs ys : List Token} → Spells expression g x xs → Comprehends h c ys → Inside b.Square n (max g h + 1) (e.ListComprehension n x c) (xs ++ ys)
    -- "{" [ pair { "," pair } [ "," ] ] "}" (reference, section 6.2.7)
    dict : {n h : ℕ} {is : List (Entry Expr)} {xs : List Token} → Several Parts.entries h is xs → Inside b.Curly n (h + 1) (e.Dict n is) xs
    -- "{" expr ":" expr comp "}"
    dict_of : {n g h : ℕ} {x y : Expr} {c : Clauses Expr} {xs ys : List Token} → PartOf Parts.entries g (en.Pair x y) xs → Comprehends h c ys
        → Inside b.Curly n (max g h + 1) (e.DictComprehension n x y c) (xs ++ ys)

  -- exprs or targets (reference, sections 6.15 and 7.2): an item by itself, or a tuple, whose line is n
  pub data RowOf : Row → ℕ → ℕ → Expr → List Token → Type 0 where
    single : {r : Row} {n h : ℕ} {i : Item Expr} {xs : List Token} → PartOf (Parts.items r) h i xs → RowOf r n h (alone i) xs
    tuple : {r : Row} {n g h : ℕ} {i : Item Expr} {is : List (Item Expr)} {t : Token} {xs ys : List Token} → PartOf (Parts.items r) g i xs → Tail (Parts.items r) h is (t ∷ ys)
        → RowOf r n (max g h + 1) (e.Tuple n (i ∷ is)) (xs ++ t ∷ ys)

  -- "yield" [ exprs ] | "yield" "from" expr (reference, section 6.2.9)
  pub data Yields : ℕ → Expr → List Token → Type 0 where
    bare : (t : Token) → IsWord t w.Yield → Yields 1 (e.Yield t.line None) (t ∷ [])
    value : {h : ℕ} {x : Expr} {xs : List Token} (t : Token) → IsWord t w.Yield → RowOf row.Expressions (line xs) h x xs → Yields (h + 1) (e.Yield t.line (Some x)) (t ∷ xs)
    delegate : {h : ℕ} {x : Expr} {xs : List Token} (t u : Token) → IsWord t w.Yield → IsWord u w.From → Spells expression h x xs → Yields (h + 1) (e.YieldFrom t.line x) (t ∷ u ∷ xs)

  -- "for" targets "in" or { "for" targets "in" or | "if" or } (reference, section 6.2.4)
  pub data Comprehends : ℕ → Clauses Expr → List Token → Type 0 where
    comprehension : {n g h : ℕ} {x y : Expr} {cs : List (Clause Expr)} {xs ys : List Token} → LoopOf n g x y xs → Run Parts.clauses h cs ys
        → Comprehends (max g h) (record { target = x; iterable = y; more = cs }) (xs ++ ys)

  -- "for" targets "in" or, on the line n
  pub data LoopOf : ℕ → ℕ → Expr → Expr → List Token → Type 0 where
    ranges : {g h : ℕ} {x y : Expr} {xs ys : List Token} (t u : Token) → IsWord t w.For → RowOf row.Targets (line xs) g x xs → IsWord u w.In → Spells disjunction h y ys
        → LoopOf t.line (max g h) x y (t ∷ xs ++ u ∷ ys)

  pub data PartOf : (p : Parts) → ℕ → Part p → List Token → Type 0 where
    -- an item of exprs or targets
    item : {r : Row} {h : ℕ} {x : Expr} {xs : List Token} → Spells (plain_level r) h x xs → PartOf (Parts.items r) h (it.One x) xs
    star_item : {r : Row} {h : ℕ} {x : Expr} {xs : List Token} (t : Token) → IsSign t s.Star → Spells (star_level r) h x xs → PartOf (Parts.items r) h (it.Star t.line x) (t ∷ xs)
    -- expr | "*" expr | NAME "=" expr | "**" expr (reference, section 6.3.4)
    argument : {h : ℕ} {x : Expr} {xs : List Token} → Spells expression h x xs → PartOf Parts.arguments h (ar.Plain x) xs
    star_argument : {h : ℕ} {x : Expr} {xs : List Token} (t : Token) → IsSign t s.Star → Spells expression h x xs → PartOf Parts.arguments h (ar.Star x) (t ∷ xs)
    keyword : {h : ℕ} {name : List ℕ} {x : Expr} {xs : List Token} (t u : Token) → t.kind ≡ k.Name name → IsSign u s.Equal → Spells expression h x xs
        → PartOf Parts.arguments h (ar.Keyword t.line name x) (t ∷ u ∷ xs)
    merge_argument : {h : ℕ} {x : Expr} {xs : List Token} (t : Token) → IsSign t s.DoubleStar → Spells expression h x xs → PartOf Parts.arguments h (ar.Merge x) (t ∷ xs)
    -- expr ":" expr | "**" bitor (reference, section 6.2.7)
    pair : {g h : ℕ} {x y : Expr} {xs ys : List Token} (t : Token) → Spells expression g x xs → IsSign t s.Colon → Spells expression h y ys → PartOf Parts.entries (max g h) (en.Pair x y) (xs ++ t ∷ ys)
    merge_entry : {h : ℕ} {x : Expr} {xs : List Token} (t : Token) → IsSign t s.DoubleStar → Spells bitor h x xs → PartOf Parts.entries h (en.Merge x) (t ∷ xs)
    -- NAME [ "=" expr ] | "/" | "*" [ NAME ] | "**" NAME (reference, section 8.7)
    named : {name : List ℕ} (t : Token) → t.kind ≡ k.Name name → PartOf Parts.params 0 (pa.Named t.line name None) (t ∷ [])
    default : {h : ℕ} {name : List ℕ} {x : Expr} {xs : List Token} (t u : Token) → t.kind ≡ k.Name name → IsSign u s.Equal → Spells expression h x xs
        → PartOf Parts.params h (pa.Named t.line name (Some x)) (t ∷ u ∷ xs)
    slash : (t : Token) → IsSign t s.Slash → PartOf Parts.params 0 (pa.Slash t.line) (t ∷ [])
    bare_star : (t : Token) → IsSign t s.Star → PartOf Parts.params 0 (pa.Star t.line None) (t ∷ [])
    star_param : {name : List ℕ} (t u : Token) → IsSign t s.Star → u.kind ≡ k.Name name → PartOf Parts.params 0 (pa.Star t.line (Some name)) (t ∷ u ∷ [])
    double_star : {name : List ℕ} (t u : Token) → IsSign t s.DoubleStar → u.kind ≡ k.Name name → PartOf Parts.params 0 (pa.DoubleStar t.line name) (t ∷ u ∷ [])
    -- an expression of a subscript with commas
    place : {h : ℕ} {x : Expr} {xs : List Token} → Spells expression h x xs → PartOf Parts.indices h x xs
    -- compare bitor
    link : {o : Comparison} {h : ℕ} {y : Expr} {os ys : List Token} → Compares o os → Spells bitor h y ys → PartOf Parts.links h (record { comparison = o; right = y }) (os ++ ys)
    -- "for" targets "in" or | "if" or
    loop : {n h : ℕ} {x y : Expr} {xs : List Token} → LoopOf n h x y xs → PartOf Parts.clauses h (cl.For n x y) xs
    test : {h : ℕ} {x : Expr} {xs : List Token} (t : Token) → IsWord t w.If → Spells disjunction h x xs → PartOf Parts.clauses h (cl.If t.line x) (t ∷ xs)

  -- what stands behind a part of a list: { "," part } [ "," ]
  pub data Tail : (p : Parts) → ℕ → List (Part p) → List Token → Type 0 where
    done : {p : Parts} → Tail p 0 [] []
    trailing : {p : Parts} (t : Token) → IsSign t s.Comma → Tail p 0 [] (t ∷ [])
    more : {p : Parts} {g h : ℕ} {x : Part p} {rest : List (Part p)} {xs ys : List Token} (t : Token) → IsSign t s.Comma → PartOf p g x xs → Tail p h rest ys
        → Tail p (max g h) (x ∷ rest) (t ∷ xs ++ ys)

  -- [ part { "," part } [ "," ] ]
  pub data Several : (p : Parts) → ℕ → List (Part p) → List Token → Type 0 where
    empty : {p : Parts} → Several p 0 [] []
    parts : {p : Parts} {g h : ℕ} {x : Part p} {rest : List (Part p)} {xs ys : List Token} → PartOf p g x xs → Tail p h rest ys → Several p (max g h) (x ∷ rest) (xs ++ ys)

  -- { part }
  pub data Run : (p : Parts) → ℕ → List (Part p) → List Token → Type 0 where
    over : {p : Parts} → Run p 0 [] []
    further : {p : Parts} {g h : ℕ} {x : Part p} {rest : List (Part p)} {xs ys : List Token} → PartOf p g x xs → Run p h rest ys → Run p (max g h) (x ∷ rest) (xs ++ ys)

  -- [ params ] (reference, section 8.7)
  pub data Params : ℕ → List (Param Expr) → List Token → Type 0 where
    params : {h : ℕ} {ps : List (Param Expr)} {xs : List Token} → Several Parts.params h ps xs → params_in_order ps ≡ true → Params h ps xs

  -- [ args ] (reference, section 6.3.4)
  pub data Arguments : ℕ → List (Argument Expr) → List Token → Type 0 where
    arguments : {h : ℕ} {args : List (Argument Expr)} {xs : List Token} → Several Parts.arguments h args xs → arguments_in_order args ≡ true → Arguments h args xs
    -- a generator expression as the only argument
    lone_generator : {g h : ℕ} {x : Expr} {c : Clauses Expr} {xs ys : List Token} → Spells expression g x xs → Comprehends h c ys
        → Arguments (max g h + 1) (ar.Plain (e.Generator (line xs) x c) ∷ []) (xs ++ ys)

  -- expr { "," expr } [ "," ] | [ expr ] ":" [ expr ] [ ":" [ expr ] ] (reference, sections 6.3.2 and 6.3.3)
  pub data Subscripts : ℕ → Subscript Expr → List Token → Type 0 where
    one : {h : ℕ} {x : Expr} {xs : List Token} → Spells expression h x xs → Subscripts h (sub.One x) xs
    several : {g h : ℕ} {x : Expr} {rest : List Expr} {t : Token} {xs ys : List Token} → Spells expression g x xs → Tail Parts.indices h rest (t ∷ ys)
        → Subscripts (max g h) (sub.Several (x ∷ rest)) (xs ++ t ∷ ys)
    slice : {f g h : ℕ} {x y z : Option Expr} {xs ys zs : List Token} (t : Token) → Bound f x xs → IsSign t s.Colon → Bound g y ys → Step h z zs
        → Subscripts (max f (max g h)) (sub.Slice x y z) (xs ++ t ∷ ys ++ zs)

  -- [ expr ]
  pub data Bound : ℕ → Option Expr → List Token → Type 0 where
    unbound : Bound 0 None []
    bound : {h : ℕ} {x : Expr} {xs : List Token} → Spells expression h x xs → Bound h (Some x) xs

  -- [ ":" [ expr ] ]
  pub data Step : ℕ → Option Expr → List Token → Type 0 where
    no_step : Step 0 None []
    step : {h : ℕ} {x : Option Expr} {xs : List Token} (t : Token) → IsSign t s.Colon → Bound h x xs → Step h x (t ∷ xs)

-- ---- the productions by themselves

abbrev pub Expression : ℕ → Expr → List Token → Type 0
Expression h x ts = Spells expression h x ts

abbrev pub Exprs : ℕ → Expr → List Token → Type 0
Exprs h x ts = RowOf row.Expressions (line ts) h x ts

abbrev pub Targets : ℕ → Expr → List Token → Type 0
Targets h x ts = RowOf row.Targets (line ts) h x ts

-- one target
pub data Target : ℕ → Expr → List Token → Type 0 where
  target : {h : ℕ} {i : Item Expr} {xs : List Token} → PartOf (Parts.items row.Targets) h i xs → Target h (alone i) xs

-- params, of which there is one at least
pub data SomeParams : ℕ → List (Param Expr) → List Token → Type 0 where
  some_params : {h : ℕ} {p : Param Expr} {ps : List (Param Expr)} {xs : List Token} → Params h (p ∷ ps) xs → SomeParams h (p ∷ ps) xs

-- the greatest height of a script's tree
abbrev pub max_depth : ℕ
max_depth = 400

-- the tokens from one place to another spell the tree, no deeper than is allowed, and the token behind may follow it
pub record IsAt {A : Type 0} (Spelled : ℕ → A → List Token → Type 0) (follows : Mark → Bool) (tokens : List Token) (at : ℕ) (x : A) (to : ℕ) : Type 0 where
  pub height : ℕ
  pub low : height ≤ max_depth
  pub before : List Token
  pub used : List Token
  pub rest : List Token
  pub cut : tokens ≡ before ++ used ++ rest
  pub from : length before ≡ at
  pub until : length before + length used ≡ to
  pub tree : Spelled height x used
  pub behind : follows (mark rest) ≡ true

-- a token list has at most one tree of the production at a place
abbrev pub OneTree : {A : Type 0} → (ℕ → A → List Token → Type 0) → (Mark → Bool) → Type 0
OneTree {A} Spelled follows = (tokens : List Token) (at : ℕ) (x y : A) (to end : ℕ) → IsAt Spelled follows tokens at x to → IsAt Spelled follows tokens at y end → (x ≡ y) × (to ≡ end)

-- the tree of the production at a place, and Grammar exactly where there is none
abbrev pub Answers : {A : Type 0} → (ℕ → A → List Token → Type 0) → (Mark → Bool) → List Token → ℕ → Result (A × ℕ) ParseEnd → Type 0
Answers Spelled follows tokens at (Ok p) = IsAt Spelled follows tokens at p.0 p.1
Answers {A} Spelled follows tokens at (Err (ends.Grammar line)) = (x : A) (to : ℕ) → IsAt Spelled follows tokens at x to → ⊥
Answers Spelled follows tokens at (Err (ends.Depth line)) = ⊥
Answers Spelled follows tokens at (Err ends.Memory) = Unit {0}
