-- The primitive statements of statements and of a whole script, as one recursion over its tree (reference, chapters 7 and 8).
use Rattle.std.specs.Prelude.{ℕ, ◌+◌, List, [], ◌∷◌, ◌++◌, map, Option, Some, None, codes}
use Rattle.op_forms.specs.declared.op.Op.TheVariants as op
use Rattle.code_forms.specs.declared.operand.Operand.TheVariants as operand
use Rattle.py_ast.specs.Lines.{line_of}
use Rattle.py_ast.specs.declared.expr.Binary.{Binary}
use Rattle.py_ast.specs.declared.expr.Expr.{Expr}
use Rattle.py_ast.specs.declared.expr.Param.{Param}
use Rattle.py_ast.specs.declared.scoped.Scoped.{Scoped}
use Rattle.py_ast.specs.declared.stmt.Branch.{Branch}
use Rattle.py_ast.specs.declared.stmt.Handler.{Handler}
use Rattle.py_ast.specs.declared.stmt.Manager.{Manager}
use Rattle.py_ast.specs.declared.stmt.Stmt.{Stmt, fold-Stmt}
use Rattle.py_ast.specs.declared.stmt.Stmt.TheOpen.{Stmt-F}
use Rattle.py_scopes.specs.Parts.{param_of}
use Rattle.node_tree.specs.Blocks as tree
use Rattle.op_forms.specs.declared.constant.Const.TheVariants as const
use Rattle.py_meaning.specs.Resolved as meaning
use Rattle.py_meaning.specs.Resolved.{Context, module_context}
use Rattle.carries_base.specs.Carries.{Carrier}
use Rattle.carries_base.specs.Frames.{behind}
use Rattle.carried_codes.specs.Parts.{Valued, Made, Decorator}
use Rattle.carried_codes.specs.Parts as parts
use Rattle.carried_codes.specs.Expressions as expressions
use Rattle.carried_codes.specs.Places as places
use Rattle.carried_codes.specs.Clauses as clauses
use Rattle.carried_codes.specs.Statements as statements
use Rattle.carried_codes.specs.Nodes as nodes
use Rattle.walk_laws.specs.States.{State, Coded, Walking, walked, and_then, made, at, valued, done}
use Rattle.walk_laws.specs.Contexts.{homes_in, seat_in, cells_in, code_in}
use Rattle.walk_laws.specs.Expressions.{expr, bind, text, function, scoped}

-- a statement where it stands, within an `except` clause whose exception is in a temporary, if within any
abbrev pub Piece : Type 0
Piece = Context → Option ℕ → Walking tree.Block

abbrev pub block : Context → Option ℕ → List Piece → Walking tree.Block
block c caught [] = walked tree.Stop
block c caught (x ∷ xs) = and_then (x c caught) (λ b. made (tree.append b) (block c caught xs))

-- Simple statements

abbrev pub evaluated : Context → Expr → Walking tree.Block
evaluated c x = made (λ p. p.block) ((expr x).value c)

abbrev pub targets : Context → List Expr → Walking places.Places
targets c [] = walked places.NoPlace
targets c (x ∷ xs) = and_then ((expr x).target c) (λ p. made (places.Also p) (targets c xs))

abbrev pub assigned : places.Places → Carrier → ℕ → Made
assigned ps v t = let m = places.assign_all t v.value ps in parts.made (tree.append v.block m.block) m.next

-- the targets stand in front of the value
abbrev pub assign : Context → List Expr → Expr → Walking tree.Block
assign c xs x = and_then (targets c xs) (λ ps. and_then ((expr x).value c) (λ v. done (assigned ps v)))

abbrev pub augment : Context → ℕ → Binary → Expr → Expr → Walking tree.Block
augment c line sign to x =
    and_then ((expr to).target c) (λ p. and_then ((expr x).value c) (λ v. done (λ t. places.augment t line (meaning.augmented_op sign) p v)))

abbrev pub delete : Context → Expr → Walking tree.Block
delete c x = and_then ((expr x).target c) (λ p. done (λ t. places.delete t p))

abbrev pub value_of : Context → Option Expr → Walking Carrier
value_of c (Some x) = (expr x).value c
value_of c None = walked (parts.part tree.Stop (operand.Const const.None))

abbrev pub returned : Context → Option Expr → Walking tree.Block
returned c x = and_then (value_of c x) (λ v. done (statements.return_value v))

abbrev pub raised : Context → ℕ → Expr → Walking tree.Block
raised c line x = and_then ((expr x).value c) (λ v. done (statements.raise_value line v))

abbrev pub texts : Context → Option Expr → Walking (List Carrier)
texts c (Some x) = made (λ p. p ∷ []) ((expr x).value c)
texts c None = walked []

abbrev pub asserted : Context → ℕ → Expr → Option Expr → Walking tree.Block
asserted c line x y = and_then ((expr x).value c) (λ v. and_then (texts c y) (λ ts. done (statements.assert_that line v ts)))

-- Compound statements (chapter 8). The grammar has no `if` without a branch, no `with` without an item, and no `try` with neither a
-- clause nor `finally`: such a one is its first statement

abbrev pub first_of : Context → Option ℕ → List Piece → Walking tree.Block
first_of c caught [] s = walked tree.Stop s
first_of c caught (x ∷ xs) s = let b = x c caught s in let rest = block c caught xs b.state in walked b.is (at b.state.temp rest.state)

-- the branches from one on, and what stands behind them; an `elif` is an `if` in the `else`
abbrev pub branches : Context → Option ℕ → List (Branch Piece) → Walking tree.Block → Walking tree.Block
branches c caught [] other = other
branches c caught (b ∷ bs) other =
    and_then ((expr b.test).value c) (λ v. and_then (block c caught b.body) (λ body. and_then (branches c caught bs other) (λ o.
    done (statements.branch b.line v body o))))

abbrev pub if_any : Context → Option ℕ → List (Branch Piece) → List Piece → Walking tree.Block
if_any c caught [] other = first_of c caught other
if_any c caught (b ∷ bs) other = branches c caught (b ∷ bs) (block c caught other)

abbrev pub while_loop : Context → Option ℕ → ℕ → Expr → List Piece → List Piece → Walking tree.Block
while_loop c caught line x body other =
    and_then ((expr x).value c) (λ v. and_then (block c caught body) (λ b. and_then (block c caught other) (λ o.
    done (statements.while_loop line v b o))))

-- each item is in the temporary that comes next; its target stands in front of what is iterated over
abbrev pub for_loop : Context → Option ℕ → ℕ → Expr → Expr → List Piece → List Piece → Walking tree.Block
for_loop c caught line to over body other s =
    and_then (bind c (expr to)) (λ i. and_then ((expr over).value c) (λ v. and_then (block c caught body) (λ b. and_then (block c caught other) (λ o.
    done (statements.for_loop line v s.temp i b o))))) s

abbrev pub bound : Context → ℕ → Option (List ℕ) → Option clauses.Bound
bound c line (Some name) = Some (record { line = line; seat = seat_in c name })
bound c line None = None

-- the exception is in the temporary that comes next
abbrev pub caught_in : Context → List Piece → Walking tree.Block
caught_in c body s = block c (Some s.temp) body (at (s.temp + 1) s)

-- a clause without a class stands last; behind it nothing is caught
abbrev pub bare : Context → List Piece → Walking (List clauses.Clause) → Walking (List clauses.Clause)
bare c body others s =
    let b = caught_in c body s in
    let rest = others b.state in
    walked (clauses.Bare s.temp b.is ∷ []) (at b.state.temp rest.state)

abbrev pub classed : Context → Handler Piece → Expr → Walking (List clauses.Clause) → Walking (List clauses.Clause)
classed c h x others =
    and_then ((expr x).value c) (λ v s. and_then (caught_in c h.body) (λ b. made (λ cs. clauses.Class (line_of x) v s.temp (bound c h.line h.name) b ∷ cs) others) s)

abbrev pub clause : Context → Handler Piece → Option Expr → Walking (List clauses.Clause) → Walking (List clauses.Clause)
clause c h None others = bare c h.body others
clause c h (Some x) others = classed c h x others

abbrev pub handlers : Context → List (Handler Piece) → Walking (List clauses.Clause)
handlers c [] = walked []
handlers c (h ∷ hs) = clause c h h.class (handlers c hs)

-- the body with its clauses; without clauses the `else` would follow it
abbrev pub guarded : Context → Option ℕ → List Piece → List (Handler Piece) → List Piece → Walking tree.Block
guarded c caught body [] other = block c caught (body ++ other)
guarded c caught body (h ∷ hs) other =
    and_then (block c caught body) (λ b. and_then (handlers c (h ∷ hs)) (λ cs. and_then (block c caught other) (λ o.
    done (λ t. clauses.try_except t b cs o))))

abbrev pub guarded_alone : Context → Option ℕ → List Piece → List (Handler Piece) → List Piece → Walking tree.Block
guarded_alone c caught body [] other = first_of c caught (body ++ other)
guarded_alone c caught body (h ∷ hs) other = guarded c caught body (h ∷ hs) other

-- and the clause that always runs, if there is one: nothing is caught in it
abbrev pub try_statement : Context → Option ℕ → List Piece → List (Handler Piece) → List Piece → List Piece → Walking tree.Block
try_statement c caught body hs other [] = guarded_alone c caught body hs other
try_statement c caught body hs other (x ∷ xs) =
    and_then (guarded c caught body hs other) (λ b. and_then (block c None (x ∷ xs)) (λ last. done (statements.try_finally b last)))

abbrev pub target_of : Context → Option Expr → Walking places.Places
target_of c (Some x) = targets c (x ∷ [])
target_of c None = walked places.NoPlace

-- what the next temporary gets goes to a target, if there is one
abbrev pub bind_any : Context → Option Expr → Walking tree.Block
bind_any c x s =
    let p = target_of c x (at (s.temp + 1) s) in
    let m = places.assign_all p.state.temp (operand.Temp s.temp) p.is in
    walked m.block (at m.next p.state)

-- several items are nested
abbrev pub managers : Context → List Manager → Walking tree.Block → Walking tree.Block
managers c [] body = body
managers c (m ∷ ms) body =
    and_then ((expr m.value).value c) (λ v s. and_then (bind_any c m.target) (λ i. and_then (managers c ms body) (λ b.
    done (statements.with_item (line_of m.value) v s.temp i b))) s)

abbrev pub with_statement : Context → Option ℕ → List Manager → List Piece → Walking tree.Block
with_statement c caught [] body = first_of c caught body
with_statement c caught (m ∷ ms) body = managers c (m ∷ ms) (block c caught body)

-- Definitions (sections 8.7 and 8.8)

abbrev pub decorators : Context → List Expr → Walking (List Decorator)
decorators c [] = walked []
decorators c (x ∷ xs) = and_then ((expr x).value c) (λ p. made (λ ds. (record { line = line_of x; part = p }) ∷ ds) (decorators c xs))

-- what is defined goes to its name
abbrev pub named : Context → ℕ → List ℕ → Carrier → Walking tree.Block
named c line name p = done (λ t. nodes.defined line (seat_in c name) (record { part = p; next = t }))

abbrev pub decorated : Context → ℕ → List ℕ → List Decorator → Carrier → Walking tree.Block
decorated c line name ds p = and_then (valued (expressions.decorate ds p)) (named c line name)

-- the body of a scope stands in no clause
abbrev pub inner : List Piece → Context → Walking tree.Block
inner body d = block d None body

abbrev pub definition : Context → ℕ → List Expr → List ℕ → List (Param Expr) → List Piece → Walking tree.Block
definition c line ds name ps body =
    and_then (decorators c ds) (λ decorators. and_then (function c line (map (param_of expr) ps) (inner body)) (decorated c line name decorators))

abbrev pub base_of : Context → ℕ → Option Expr → Walking Carrier
base_of c line (Some x) = (expr x).value c
base_of c line None = valued (expressions.operate line op.Native (text (codes "object") ∷ []))

abbrev pub class : Context → ℕ → List Expr → List ℕ → Option Expr → List Piece → Walking tree.Block
class c line ds name base body =
    and_then (decorators c ds) (λ decorators. and_then
    (scoped c meaning.handed (Some name) (base_of c line base) (inner body)
    (λ n b t. expressions.make_class line (c.first + n) name decorators b (cells_in c n) t))
    (named c line name))

-- Statements

abbrev pub stmt_piece : Stmt-F Piece → Piece
stmt_piece (Stmt-F.Expr line x) = λ c caught. evaluated c x
stmt_piece (Stmt-F.Assign line xs x) = λ c caught. assign c xs x
stmt_piece (Stmt-F.Augment line to sign x) = λ c caught. augment c line sign to x
stmt_piece (Stmt-F.Pass line) = λ c caught. walked tree.Stop
stmt_piece (Stmt-F.Break line) = λ c caught. walked (tree.alone (tree.Leave 2))
stmt_piece (Stmt-F.Continue line) = λ c caught. walked (tree.alone (tree.Leave 1))
stmt_piece (Stmt-F.Return line x) = λ c caught. returned c x
stmt_piece (Stmt-F.Raise line (Some x)) = λ c caught. raised c line x
stmt_piece (Stmt-F.Raise line None) = λ c caught. done (statements.raise_again caught)
stmt_piece (Stmt-F.Del line x) = λ c caught. delete c x
stmt_piece (Stmt-F.Assert line x y) = λ c caught. asserted c line x y
stmt_piece (Stmt-F.Global line names) = λ c caught. walked tree.Stop
stmt_piece (Stmt-F.Nonlocal line names) = λ c caught. walked tree.Stop
stmt_piece (Stmt-F.If line bs other) = λ c caught. if_any c caught bs other
stmt_piece (Stmt-F.While line x body other) = λ c caught. while_loop c caught line x body other
stmt_piece (Stmt-F.For line to over body other) = λ c caught. for_loop c caught line to over body other
stmt_piece (Stmt-F.Try line body hs other last) = λ c caught. try_statement c caught body hs other last
stmt_piece (Stmt-F.With line ms body) = λ c caught. with_statement c caught ms body
stmt_piece (Stmt-F.Def line ds name ps body) = λ c caught. definition c line ds name ps body
stmt_piece (Stmt-F.Class line ds name base body) = λ c caught. class c line ds name base body

abbrev pub stmt : Stmt → Piece
stmt = fold-Stmt Piece stmt_piece

-- Scripts

-- the body of a module draws behind its names, and the first scope in it is scope 1
abbrev pub started : Context → State
started c = record { temp = behind (homes_in c); scope = 1; codes = [] }

-- the codes of a script, of which the module's has this number
abbrev pub script_codes : ℕ → Scoped → List Coded
script_codes first s =
    let c = module_context s.scopes first in
    let b = inner (map stmt s.script.statements) c (started c) in
    code_in c [] b.is ∷ b.state.codes
