-- Scripts as their meaning reads them: each name by where it lives, each inner scope by the number of its code, and each operator by
-- its operation.
use Rattle.std.specs.Prelude.{ℕ, List, Option, Bool}
use Rattle.nu_value.specs.declared.header.Header.{Header}
use Rattle.nu_value.specs.declared.value.Value.{Value}
use Rattle.op_forms.specs.declared.op.Op.{Op}

-- where a name lives (reference, section 4.2): in a local variable of the frame; in a cell of the frame, since an inner scope uses it;
-- in a cell of an enclosing function; in the module; in the class whose block runs
pub data Home : Type 0 where
  Local : (place : ℕ) (name : List ℕ) → Home
  Own : (place : ℕ) (name : List ℕ) → Home
  Free : (place : ℕ) (name : List ℕ) → Home
  Module : (name : List ℕ) → Home
  InClass : (name : List ℕ) → Home

-- a cell that an inner function gets: one of the frame, or one of an enclosing function
pub data CellPlace : Type 0 where
  OwnCell : (place : ℕ) → CellPlace
  FreeCell : (place : ℕ) → CellPlace

mutual
  -- expressions (reference, chapter 6)
  pub data Expression : Type 0 where
    Constant : (v : Value) → Expression
    Name : (line : ℕ) (home : Home) → Expression
    -- the operands from left to right, then the operation: operators, displays, attributes, indices, slices and calls
    Operation : (line : ℕ) (op : Op) (operands : Expressions) → Expression
    -- `or` where `any` is true, else `and`
    Junction : (line : ℕ) (any : Bool) (left right : Expression) → Expression
    Conditional : (line : ℕ) (test chosen otherwise : Expression) → Expression
    Comparison : (line : ℕ) (first : Expression) (links : Links) → Expression
    -- a tuple or else a list with a star in it
    Starred : (line : ℕ) (tuple : Bool) (items : Items) → Expression
    Dict : (line : ℕ) (entries : Entries) → Expression
    -- a call with a star or a keyword
    Call : (line : ℕ) (function : Expression) (arguments : Arguments) → Expression
    -- a function of a code, with its defaults and cells
    Function : (line code : ℕ) (defaults : Expressions) (keywords : Keywords) (cells : List CellPlace) → Expression
    -- a comprehension or generator expression over its first iterable
    Comprehension : (line code : ℕ) (first : Expression) (cells : List CellPlace) → Expression
    Yield : (line : ℕ) (value : Expression) → Expression
    YieldFrom : (line : ℕ) (over : Expression) → Expression

  pub data Expressions : Type 0 where
    NoMore : Expressions
    More : (x : Expression) (xs : Expressions) → Expressions

  -- the comparisons of a chain, each with the operand on its right; `negated` is true for `not in`
  pub data Links : Type 0 where
    LastLink : (op : Op) (negated : Bool) (right : Expression) → Links
    Link : (op : Op) (negated : Bool) (right : Expression) (links : Links) → Links

  pub data Items : Type 0 where
    NoItem : Items
    Single : (x : Expression) (items : Items) → Items
    Spread : (x : Expression) (items : Items) → Items

  pub data Entries : Type 0 where
    NoEntry : Entries
    Pair : (key value : Expression) (entries : Entries) → Entries
    Merge : (x : Expression) (entries : Entries) → Entries

  pub data Arguments : Type 0 where
    NoArgument : Arguments
    Plain : (x : Expression) (arguments : Arguments) → Arguments
    Star : (x : Expression) (arguments : Arguments) → Arguments
    Keyword : (name : List ℕ) (x : Expression) (arguments : Arguments) → Arguments
    DoubleStar : (x : Expression) (arguments : Arguments) → Arguments

  -- defaults of keyword-only parameters
  pub data Keywords : Type 0 where
    NoKeyword : Keywords
    Default : (name : List ℕ) (x : Expression) (keywords : Keywords) → Keywords

-- what is assigned to or deleted (reference, sections 7.2 and 7.5)
mutual
  pub data Target : Type 0 where
    ToName : (line : ℕ) (home : Home) → Target
    ToAttribute : (line : ℕ) (x : Expression) (name : List ℕ) → Target
    ToIndex : (line : ℕ) (x at : Expression) → Target
    ToEach : (line : ℕ) (targets : Targets) → Target
    -- with a star before the one in the middle
    ToStarred : (line : ℕ) (before : Targets) (star : Target) (behind : Targets) → Target
    -- what is no target: nothing is said of it
    ToNothing : Target

  pub data Targets : Type 0 where
    NoTarget : Targets
    AlsoTo : (target : Target) (targets : Targets) → Targets

-- a decorator, with the line of its expression
pub record Decorator : Type 0 where
  pub line : ℕ
  pub is : Expression

-- the name that an `except` clause binds, with the clause's line
pub record Caught : Type 0 where
  pub line : ℕ
  pub home : Home

-- statements (reference, chapters 7 and 8)
mutual
  pub data Statement : Type 0 where
    Evaluate : (x : Expression) → Statement
    Assign : (targets : Targets) (x : Expression) → Statement
    -- with the line of the statement, which the operation has. The target is a name, an attribute or an index, with its own
    Augment : (line : ℕ) (op : Op) (target : Target) (x : Expression) → Statement
    Delete : (target : Target) → Statement
    Pass : Statement
    Break : Statement
    Continue : Statement
    Return : (x : Expression) → Statement
    Raise : (line : ℕ) (x : Expression) → Statement
    -- a bare `raise`
    Reraise : Statement
    -- with its text, if there is one
    Assert : (line : ℕ) (test : Expression) (text : Expressions) → Statement
    If : (line : ℕ) (test : Expression) (body other : Block) → Statement
    While : (line : ℕ) (test : Expression) (body other : Block) → Statement
    For : (line : ℕ) (target : Target) (over : Expression) (body other : Block) → Statement
    Try : (body : Block) (handlers : Handlers) (other : Block) → Statement
    Finally : (body last : Block) → Statement
    -- one item, with the line of its manager, and its target, if there is one
    With : (line : ℕ) (manager : Expression) (target : Targets) (body : Block) → Statement
    Define : (line : ℕ) (decorators : List Decorator) (function : Expression) (home : Home) → Statement
    Class : (line : ℕ) (decorators : List Decorator) (name : List ℕ) (base : Expression) (code : ℕ) (cells : List CellPlace) (home : Home) → Statement

  pub data Block : Type 0 where
    Done : Block
    Then : (first : Statement) (rest : Block) → Block

  pub data Handlers : Type 0 where
    NoHandler : Handlers
    Bare : (body : Block) → Handlers
    -- with the line of the class
    Handler : (line : ℕ) (class : Expression) (name : Option Caught) (body : Block) (handlers : Handlers) → Handlers

-- what a comprehension does in its first loop (reference, section 6.2.4)
pub data Turns : Type 0 where
  Push : (x : Expression) → Turns
  Put : (key value : Expression) → Turns
  Emit : (x : Expression) → Turns
  Ranging : (target : Target) (over : Expression) (turns : Turns) → Turns
  Filter : (test : Expression) (turns : Turns) → Turns

-- the body of a code: a block; the expression of a lambda; or a comprehension, with its line, which collects into what an operation makes,
-- if anything, over the iterator that it is handed
pub data Body : Type 0 where
  Statements : (block : Block) → Body
  Value' : (x : Expression) → Body
  Collect : (line : ℕ) (into : Option Op) (target : Target) (turns : Turns) → Body

-- a code: what is known of it before it runs, how many local variables it has, of which its parameters are the first, which of its
-- parameters each of its cells holds at first, if any, how many cells of enclosing functions it gets, and its body
pub record Code : Type 0 where
  pub header : Header
  pub locals : ℕ
  pub owns : List (Option ℕ)
  pub frees : ℕ
  pub body : Body
