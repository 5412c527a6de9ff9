-- The grammar of statements (reference, chapters 7 and 8): which tokens spell which statements. The number before each tree is
-- its height: the number of statements and expressions on the longest way inwards.
use Rattle.std.specs.Prelude.{◌≡◌, ℕ, ◌+◌, max, false, List, [], ◌∷◌, ◌++◌, Option, Some, None}
use Rattle.py_ast.specs.declared.token.Token.{Token}
use Rattle.py_ast.specs.declared.token.TokenKind.TheVariants as k
use Rattle.py_ast.specs.declared.spelled.Word.{Word}
use Rattle.py_ast.specs.declared.spelled.Word.TheVariants as w
use Rattle.py_ast.specs.declared.spelled.Sign.TheVariants as s
use Rattle.py_ast.specs.declared.expr.Binary.{Binary}
use Rattle.py_ast.specs.declared.expr.Param.{Param}
use Rattle.py_ast.specs.declared.expr.Expr.{Expr}
use Rattle.py_ast.specs.declared.stmt.Stmt.{Stmt}
use Rattle.py_ast.specs.declared.stmt.Stmt.TheVariants as st
use Rattle.py_ast.specs.declared.stmt.Branch.{Branch}
use Rattle.py_ast.specs.declared.stmt.Handler.{Handler}
use Rattle.py_ast.specs.declared.stmt.Manager.{Manager}
use Rattle.py_ast.specs.declared.stmt.Declared.{Declared}
use Rattle.py_grammar.specs.Levels.{line, mark_of}
use Rattle.py_grammar.specs.Grammar.{IsSign, IsWord, Expression, Exprs, Targets, Target, Yields, Params}
use Rattle.py_statements.specs.Words.{augmented, is_form}

-- exprs | yield
pub data Right : ℕ → Expr → List Token → Type 0 where
  exprs : {h : ℕ} {x : Expr} {xs : List Token} → Exprs h x xs → Right h x xs
  yielded : {h : ℕ} {x : Expr} {xs : List Token} → Yields h x xs → Right h x xs

-- exprs "=" { exprs "=" }
pub data Chain : ℕ → List Expr → List Token → Type 0 where
  last : {h : ℕ} {x : Expr} {xs : List Token} (t : Token) → Exprs h x xs → IsSign t s.Equal → Chain h (x ∷ []) (xs ++ t ∷ [])
  more : {g h : ℕ} {x : Expr} {rest : List Expr} {xs ys : List Token} (t : Token) → Exprs g x xs → IsSign t s.Equal → Chain h rest ys → Chain (max g h) (x ∷ rest) (xs ++ t ∷ ys)

-- [ exprs ]
pub data MaybeExprs : ℕ → Option Expr → List Token → Type 0 where
  absent : MaybeExprs 0 None []
  present : {h : ℕ} {x : Expr} {xs : List Token} → Exprs h x xs → MaybeExprs h (Some x) xs

-- [ expr ]
pub data MaybeExpression : ℕ → Option Expr → List Token → Type 0 where
  absent : MaybeExpression 0 None []
  present : {h : ℕ} {x : Expr} {xs : List Token} → Expression h x xs → MaybeExpression h (Some x) xs

-- [ "," expr ]
pub data Message : ℕ → Option Expr → List Token → Type 0 where
  absent : Message 0 None []
  present : {h : ℕ} {x : Expr} {xs : List Token} (t : Token) → IsSign t s.Comma → Expression h x xs → Message h (Some x) (t ∷ xs)

-- NAME { "," NAME }
pub data Names : List Declared → List Token → Type 0 where
  last : {name : List ℕ} (t : Token) → t.kind ≡ k.Name name → Names (record { line = t.line; name = name } ∷ []) (t ∷ [])
  more : {name : List ℕ} {rest : List Declared} {xs : List Token} (t u : Token) → t.kind ≡ k.Name name → IsSign u s.Comma → Names rest xs
      → Names (record { line = t.line; name = name } ∷ rest) (t ∷ u ∷ xs)

-- simple statements (reference, chapter 7)
pub data Simple : ℕ → Stmt → List Token → Type 0 where
  -- exprs | yield (reference, section 7.1)
  expr : {h : ℕ} {x : Expr} {xs : List Token} → Right h x xs → Simple (h + 1) (st.Expr (line xs) x) xs
  -- exprs { "=" exprs } "=" ( exprs | yield ) (reference, section 7.2)
  assign : {g h : ℕ} {targets : List Expr} {x : Expr} {xs ys : List Token} → Chain g targets xs → Right h x ys → Simple (max g h + 1) (st.Assign (line xs) targets x) (xs ++ ys)
  -- expr AUG ( exprs | yield ) (reference, section 7.2.1)
  augment : {o : Binary} {g h : ℕ} {x y : Expr} {xs ys : List Token} (t : Token) → Expression g x xs → augmented (mark_of t.kind) ≡ Some o → Right h y ys
      → Simple (max g h + 1) (st.Augment (line xs) x o y) (xs ++ t ∷ ys)
  -- reference, sections 7.4, 7.9 and 7.10
  pass : (t : Token) → IsWord t w.Pass → Simple 1 (st.Pass t.line) (t ∷ [])
  break : (t : Token) → IsWord t w.Break → Simple 1 (st.Break t.line) (t ∷ [])
  continue : (t : Token) → IsWord t w.Continue → Simple 1 (st.Continue t.line) (t ∷ [])
  -- "return" [ exprs ] (reference, section 7.6)
  return : {h : ℕ} {x : Option Expr} {xs : List Token} (t : Token) → IsWord t w.Return → MaybeExprs h x xs → Simple (h + 1) (st.Return t.line x) (t ∷ xs)
  -- "raise" [ expr ] (reference, section 7.8)
  raise : {h : ℕ} {x : Option Expr} {xs : List Token} (t : Token) → IsWord t w.Raise → MaybeExpression h x xs → Simple (h + 1) (st.Raise t.line x) (t ∷ xs)
  -- "del" exprs (reference, section 7.5)
  del : {h : ℕ} {x : Expr} {xs : List Token} (t : Token) → IsWord t w.Del → Exprs h x xs → Simple (h + 1) (st.Del t.line x) (t ∷ xs)
  -- "assert" expr [ "," expr ] (reference, section 7.3)
  assert : {g h : ℕ} {x : Expr} {y : Option Expr} {xs ys : List Token} (t : Token) → IsWord t w.Assert → Expression g x xs → Message h y ys
      → Simple (max g h + 1) (st.Assert t.line x y) (t ∷ xs ++ ys)
  -- "global" NAME { "," NAME } (reference, section 7.12)
  global : {names : List Declared} {xs : List Token} (t : Token) → IsWord t w.Global → Names names xs → Simple 1 (st.Global t.line names) (t ∷ xs)
  -- "nonlocal" NAME { "," NAME } (reference, section 7.13)
  nonlocal : {names : List Declared} {xs : List Token} (t : Token) → IsWord t w.Nonlocal → Names names xs → Simple 1 (st.Nonlocal t.line names) (t ∷ xs)

-- simple { ";" simple } [ ";" ] NEWLINE
pub data Line : ℕ → List Stmt → List Token → Type 0 where
  last : {h : ℕ} {x : Stmt} {xs : List Token} (t : Token) → Simple h x xs → t.kind ≡ k.Newline → Line h (x ∷ []) (xs ++ t ∷ [])
  closed : {h : ℕ} {x : Stmt} {xs : List Token} (t u : Token) → Simple h x xs → IsSign t s.Semicolon → u.kind ≡ k.Newline → Line h (x ∷ []) (xs ++ t ∷ u ∷ [])
  more : {g h : ℕ} {x : Stmt} {rest : List Stmt} {xs ys : List Token} (t : Token) → Simple g x xs → IsSign t s.Semicolon → Line h rest ys → Line (max g h) (x ∷ rest) (xs ++ t ∷ ys)

-- expr [ "as" target ], where expr is no parenthesised form with a comma directly inside (reference, section 8.5)
pub data ItemOf : ℕ → Manager → List Token → Type 0 where
  bare : {h : ℕ} {x : Expr} {xs : List Token} → Expression h x xs → is_form x xs ≡ false → ItemOf h (record { value = x; target = None }) xs
  named : {g h : ℕ} {x y : Expr} {xs ys : List Token} (t : Token) → Expression g x xs → is_form x xs ≡ false → IsWord t w.As → Target h y ys
      → ItemOf (max g h) (record { value = x; target = Some y }) (xs ++ t ∷ ys)

-- item { "," item }
pub data Managers : ℕ → List Manager → List Token → Type 0 where
  last : {h : ℕ} {x : Manager} {xs : List Token} → ItemOf h x xs → Managers h (x ∷ []) xs
  more : {g h : ℕ} {x : Manager} {rest : List Manager} {xs ys : List Token} (t : Token) → ItemOf g x xs → IsSign t s.Comma → Managers h rest ys → Managers (max g h) (x ∷ rest) (xs ++ t ∷ ys)

-- { "@" expr NEWLINE } (reference, section 8.7)
pub data Decorators : ℕ → List Expr → List Token → Type 0 where
  none : Decorators 0 [] []
  more : {g h : ℕ} {x : Expr} {rest : List Expr} {xs ys : List Token} (t u : Token) → IsSign t s.At → Expression g x xs → u.kind ≡ k.Newline → Decorators h rest ys
      → Decorators (max g h) (x ∷ rest) (t ∷ xs ++ u ∷ ys)

-- [ "(" [ expr ] ")" ] (reference, section 8.8)
pub data Base : ℕ → Option Expr → List Token → Type 0 where
  absent : Base 0 None []
  present : {h : ℕ} {x : Option Expr} {xs : List Token} (t u : Token) → IsSign t s.LeftParen → MaybeExpression h x xs → IsSign u s.RightParen → Base h x (t ∷ xs ++ u ∷ [])

-- expr [ "as" NAME ]
pub data Caught : ℕ → Expr → Option (List ℕ) → List Token → Type 0 where
  unnamed : {h : ℕ} {x : Expr} {xs : List Token} → Expression h x xs → Caught h x None xs
  named : {h : ℕ} {x : Expr} {name : List ℕ} {xs : List Token} (t u : Token) → Expression h x xs → IsWord t w.As → u.kind ≡ k.Name name → Caught h x (Some name) (xs ++ t ∷ u ∷ [])

mutual
  -- compound statements (reference, chapter 8)
  pub data Compound : ℕ → Stmt → List Token → Type 0 where
    -- "if" expr ":" block { "elif" expr ":" block } [ "else" ":" block ] (reference, section 8.1)
    conditional : {f g h : ℕ} {b : Branch Stmt} {bs : List (Branch Stmt)} {other : List Stmt} {xs ys zs : List Token} → BranchOf w.If f b xs → Elifs g bs ys → Worded w.Else h other zs
        → Compound (max f (max g h) + 1) (st.If b.line (b ∷ bs) other) (xs ++ ys ++ zs)
    -- "while" expr ":" block [ "else" ":" block ] (reference, section 8.2)
    while : {g h : ℕ} {b : Branch Stmt} {other : List Stmt} {xs ys : List Token} → BranchOf w.While g b xs → Worded w.Else h other ys
        → Compound (max g h + 1) (st.While b.line b.test b.body other) (xs ++ ys)
    -- "for" targets "in" exprs ":" block [ "else" ":" block ] (reference, section 8.3)
    for : {e f g h : ℕ} {x y : Expr} {body other : List Stmt} {xs ys zs vs : List Token} (t u : Token) → IsWord t w.For → Targets e x xs → IsWord u w.In → Exprs f y ys → Block g body zs
        → Worded w.Else h other vs → Compound (max (max e f) (max g h) + 1) (st.For t.line x y body other) (t ∷ xs ++ u ∷ ys ++ zs ++ vs)
    -- "try" ":" block except { except } [ "else" ":" block ] [ "finally" ":" block ] (reference, section 8.4)
    catches : {e f g h : ℕ} {body other last : List Stmt} {c : Handler Stmt} {cs : List (Handler Stmt)} {xs ys zs vs : List Token} (t : Token) → IsWord t w.Try → Block e body xs
        → Handlers f (c ∷ cs) ys → Worded w.Else g other zs → Worded w.Finally h last vs
        → Compound (max (max e f) (max g h) + 1) (st.Try t.line body (c ∷ cs) other last) (t ∷ xs ++ ys ++ zs ++ vs)
    -- "try" ":" block "finally" ":" block
    finishes : {g h : ℕ} {body last : List Stmt} {xs ys : List Token} (t u : Token) → IsWord t w.Try → Block g body xs → IsWord u w.Finally → Block h last ys
        → Compound (max g h + 1) (st.Try t.line body [] [] last) (t ∷ xs ++ u ∷ ys)
    -- "with" item { "," item } ":" block (reference, section 8.5)
    with : {g h : ℕ} {items : List Manager} {body : List Stmt} {xs ys : List Token} (t : Token) → IsWord t w.With → Managers g items xs → Block h body ys
        → Compound (max g h + 1) (st.With t.line items body) (t ∷ xs ++ ys)
    -- { "@" expr NEWLINE } "def" NAME "(" [ params ] ")" ":" block (reference, section 8.7)
    def : {f g h : ℕ} {ds : List Expr} {name : List ℕ} {ps : List (Param Expr)} {body : List Stmt} {xs ys zs : List Token} (t u v z : Token) → Decorators f ds xs → IsWord t w.Def
        → u.kind ≡ k.Name name → IsSign v s.LeftParen → Params g ps ys → IsSign z s.RightParen → Block h body zs
        → Compound (max f (max g h) + 1) (st.Def t.line ds name ps body) (xs ++ t ∷ u ∷ v ∷ ys ++ z ∷ zs)
    -- { "@" expr NEWLINE } "class" NAME [ "(" [ expr ] ")" ] ":" block (reference, section 8.8)
    class : {f g h : ℕ} {ds : List Expr} {name : List ℕ} {base : Option Expr} {body : List Stmt} {xs ys zs : List Token} (t u : Token) → Decorators f ds xs → IsWord t w.Class
        → u.kind ≡ k.Name name → Base g base ys → Block h body zs
        → Compound (max f (max g h) + 1) (st.Class t.line ds name base body) (xs ++ t ∷ u ∷ ys ++ zs)

  -- ":" line | ":" NEWLINE INDENT statement { statement } DEDENT
  pub data Block : ℕ → List Stmt → List Token → Type 0 where
    one_line : {h : ℕ} {body : List Stmt} {xs : List Token} (t : Token) → IsSign t s.Colon → Line h body xs → Block h body (t ∷ xs)
    indented : {g h : ℕ} {first others : List Stmt} {xs ys : List Token} (t n i d : Token) → IsSign t s.Colon → n.kind ≡ k.Newline → i.kind ≡ k.Indent → Statement g first xs → Statements h others ys
        → d.kind ≡ k.Dedent → Block (max g h) (first ++ others) (t ∷ n ∷ i ∷ xs ++ ys ++ d ∷ [])

  -- a line, which may hold several statements, or a compound statement
  pub data Statement : ℕ → List Stmt → List Token → Type 0 where
    simple : {h : ℕ} {body : List Stmt} {xs : List Token} → Line h body xs → Statement h body xs
    compound : {h : ℕ} {x : Stmt} {xs : List Token} → Compound h x xs → Statement h (x ∷ []) xs

  -- { statement }
  pub data Statements : ℕ → List Stmt → List Token → Type 0 where
    none : Statements 0 [] []
    more : {g h : ℕ} {first others : List Stmt} {xs ys : List Token} → Statement g first xs → Statements h others ys → Statements (max g h) (first ++ others) (xs ++ ys)

  -- a word, expr ":" block
  pub data BranchOf : Word → ℕ → Branch Stmt → List Token → Type 0 where
    branch : {w : Word} {g h : ℕ} {x : Expr} {body : List Stmt} {xs ys : List Token} (t : Token) → IsWord t w → Expression g x xs → Block h body ys
        → BranchOf w (max g h) (record { line = t.line; test = x; body = body }) (t ∷ xs ++ ys)

  -- { "elif" expr ":" block }
  pub data Elifs : ℕ → List (Branch Stmt) → List Token → Type 0 where
    no_elif : Elifs 0 [] []
    elif : {g h : ℕ} {b : Branch Stmt} {bs : List (Branch Stmt)} {xs ys : List Token} → BranchOf w.Elif g b xs → Elifs h bs ys → Elifs (max g h) (b ∷ bs) (xs ++ ys)

  -- [ word ":" block ]; a block that isn't written is empty
  pub data Worded : Word → ℕ → List Stmt → List Token → Type 0 where
    unwritten : {w : Word} → Worded w 0 [] []
    written : {w : Word} {h : ℕ} {body : List Stmt} {xs : List Token} (t : Token) → IsWord t w → Block h body xs → Worded w h body (t ∷ xs)

  -- { "except" expr [ "as" NAME ] ":" block } [ "except" ":" block ]: one without a class is the last one (reference, section 8.4.1)
  pub data Handlers : ℕ → List (Handler Stmt) → List Token → Type 0 where
    no_handler : Handlers 0 [] []
    last_handler : {h : ℕ} {body : List Stmt} {xs : List Token} (t : Token) → IsWord t w.Except → Block h body xs
        → Handlers h (record { line = t.line; class = None; name = None; body = body } ∷ []) (t ∷ xs)
    handler : {f g h : ℕ} {x : Expr} {name : Option (List ℕ)} {body : List Stmt} {cs : List (Handler Stmt)} {xs ys zs : List Token} (t : Token) → IsWord t w.Except → Caught f x name xs → Block g body ys
        → Handlers h cs zs → Handlers (max (max f g) h) (record { line = t.line; class = Some x; name = name; body = body } ∷ cs) (t ∷ xs ++ ys ++ zs)
