-- The codes of small resolved scripts, computed: which scope gets which code, and where each name lives there.
use Rattle.std.proofs.Common.{◌≡◌, refl, sym, ap, ◌∙◌, ℕ, List, [], ◌∷◌, Option, Some, None, map}
use Rattle.std.specs.Prelude.{false, codes}
use Rattle.nu_value.specs.declared.header.ParamKind.{ParamKind}
use Rattle.nu_value.specs.declared.header.ParamKind.TheVariants as kind
use Rattle.nu_value.specs.declared.value.Value.TheVariants as value
use Rattle.op_forms.specs.declared.op.Op.TheVariants as op
use Rattle.py_ast.specs.declared.expr.Clauses.{Clauses}
use Rattle.py_ast.specs.declared.expr.Expr.{Expr, fold-roll-Expr}
use Rattle.py_ast.specs.declared.expr.Expr.TheOpen.{Expr-F}
use Rattle.py_ast.specs.declared.expr.Expr.TheVariants.{rolls-Name, rolls-Text, rolls-Tuple, rolls-List, rolls-ListComprehension}
use Rattle.py_ast.specs.declared.expr.Expr.TheVariants as e
use Rattle.py_ast.specs.declared.expr.Item.TheVariants as item
use Rattle.py_ast.specs.declared.expr.Param.{Param}
use Rattle.py_ast.specs.declared.expr.Param.TheVariants as param
use Rattle.py_ast.specs.declared.scoped.NameHome.{NameHome}
use Rattle.py_ast.specs.declared.scoped.Scope.{Scope}
use Rattle.py_ast.specs.declared.scoped.Scoped.{Scoped}
use Rattle.py_ast.specs.declared.scoped.ScopeKind.{ScopeKind}
use Rattle.py_ast.specs.declared.scoped.ScopeKind.TheVariants as scope
use Rattle.py_ast.specs.declared.stmt.Stmt.{Stmt, fold-roll-Stmt}
use Rattle.py_ast.specs.declared.stmt.Stmt.TheOpen.{Stmt-F}
use Rattle.py_ast.specs.declared.stmt.Stmt.TheVariants.{rolls-Return, rolls-Assign, rolls-Def, rolls-Class}
use Rattle.py_ast.specs.declared.stmt.Stmt.TheVariants as s
use Rattle.py_meaning.specs.Resolved.{Part, Piece, expr_part, expr, stmt_piece, stmt, made, and_then, targets, definition, class, block as pieces_block, module_context, module_codes, codes_of}
use Rattle.py_meaning.specs.Syntax as syntax

abbrev scripted : List Stmt → List Scope → Scoped
scripted statements scopes = record { script = record { statements = statements }; scopes = scopes }

abbrev scope_of : ScopeKind → List ℕ → ℕ → ℕ → List NameHome → Scope
scope_of k name line enclosing names = record { kind = k; name = name; line = line; enclosing = enclosing; is_generator = false; names = names }

abbrev lives : List ℕ → ℕ → NameHome
lives x home = record { name = x; home = home }

abbrev name : ℕ → List ℕ → Expr
name = e.Name

abbrev coded : List ℕ → List (ParamKind × List ℕ) → ℕ → ℕ → List (Option ℕ) → ℕ → syntax.Body → syntax.Code
coded x params line locals owns frees body =
    record { header = record { scope = x; params = params; generator = false; line = line }; locals = locals; owns = owns; frees = frees; body = body }

abbrev block : List syntax.Statement → syntax.Block
block [] = syntax.Done
block (x ∷ xs) = syntax.Then x (block xs)

abbrev does : List syntax.Statement → syntax.Body
does statements = syntax.Statements (block statements)

abbrev stores : ℕ → syntax.Home → syntax.Expression → syntax.Statement
stores line home x = syntax.Assign (syntax.AlsoTo (syntax.ToName line home) syntax.NoTarget) x

-- What folds of these trees come to

name_part : (line : ℕ) (x : List ℕ) → expr (e.Name line x) ≡ expr_part (Expr-F.Name line x)
name_part line x = ap expr (sym (rolls-Name line x)) ∙ fold-roll-Expr Part expr_part (Expr-F.Name line x)

text_part : (line : ℕ) (x : List ℕ) → expr (e.Text line x) ≡ expr_part (Expr-F.Text line x)
text_part line x = ap expr (sym (rolls-Text line x)) ∙ fold-roll-Expr Part expr_part (Expr-F.Text line x)

return_piece : (line : ℕ) (x : Expr) (part : Part) → expr x ≡ part → stmt (s.Return line (Some x)) ≡ (λ c. made syntax.Return (part.value c))
return_piece line x part is =
    ap stmt (sym (rolls-Return line (Some x))) ∙ fold-roll-Stmt Piece stmt_piece (Stmt-F.Return line (Some x)) ∙ ap (λ p c. made syntax.Return (p.value c)) is

define_piece : (line : ℕ) (x : List ℕ) (ps : List (Param Expr)) (body : List Stmt) (pieces : List Piece) → map stmt body ≡ pieces
    → stmt (s.Def line [] x ps body) ≡ (λ c. definition c line [] x ps pieces)
define_piece line x ps body pieces is =
    ap stmt (sym (rolls-Def line [] x ps body)) ∙ fold-roll-Stmt Piece stmt_piece (Stmt-F.Def line [] x ps body) ∙ ap (λ b c. definition c line [] x ps b) is

assign_piece : (line : ℕ) (x : List ℕ) (v : Expr) (part : Part) → expr v ≡ part
    → stmt (s.Assign line (e.Name line x ∷ []) v) ≡ (λ c. and_then (targets c (expr_part (Expr-F.Name line x) ∷ [])) (λ t. made (syntax.Assign t) (part.value c)))
assign_piece line x v part is =
    ap stmt (sym (rolls-Assign line (e.Name line x ∷ []) v)) ∙ fold-roll-Stmt Piece stmt_piece (Stmt-F.Assign line (e.Name line x ∷ []) v)
    ∙ ap (λ n c. and_then (targets c (n ∷ [])) (λ t. made (syntax.Assign t) ((expr v).value c))) (name_part line x)
    ∙ ap (λ p c. and_then (targets c (expr_part (Expr-F.Name line x) ∷ [])) (λ t. made (syntax.Assign t) (p.value c))) is

class_piece : (line : ℕ) (x : List ℕ) (body : List Stmt) (pieces : List Piece) → map stmt body ≡ pieces
    → stmt (s.Class line [] x None body) ≡ (λ c. class c line [] x None pieces)
class_piece line x body pieces is =
    ap stmt (sym (rolls-Class line [] x None body)) ∙ fold-roll-Stmt Piece stmt_piece (Stmt-F.Class line [] x None body) ∙ ap (λ b c. class c line [] x None b) is

first_piece : (x y : Piece) (xs ys : List Piece) → x ≡ y → xs ≡ ys → x ∷ xs ≡ y ∷ ys
first_piece x y xs ys h k = ap (λ z. z ∷ xs) h ∙ ap (λ zs. y ∷ zs) k

-- the codes of a module of these statements
abbrev module_of : List Scope → List Piece → List syntax.Code
module_of scopes pieces = module_codes (module_context scopes 0) (pieces_block (module_context scopes 0) pieces 1)

-- def f(x):
--     def g():
--         return x
--     return g
abbrev closure : Scoped
closure = scripted
    (s.Def 1 [] (codes "f") (param.Named 1 (codes "x") None ∷ [])
    (s.Def 2 [] (codes "g") [] (s.Return 3 (Some (name 3 (codes "x"))) ∷ []) ∷ s.Return 4 (Some (name 4 (codes "g"))) ∷ []) ∷ [])
    (scope_of scope.Module (codes "<module>") 1 0 (lives (codes "f") 0 ∷ [])
    ∷ scope_of scope.Function (codes "f") 1 0 (lives (codes "x") 1 ∷ lives (codes "g") 1 ∷ [])
    ∷ scope_of scope.Function (codes "g") 2 1 (lives (codes "x") 1 ∷ []) ∷ [])

abbrev returns_name : ℕ → List ℕ → Piece
returns_name line x c = made syntax.Return ((expr_part (Expr-F.Name line x)).value c)

abbrev defines : ℕ → List ℕ → List (Param Expr) → List Piece → Piece
defines line x ps pieces c = definition c line [] x ps pieces

abbrev closure_pieces : List Piece
closure_pieces =
    defines 1 (codes "f") (param.Named 1 (codes "x") None ∷ []) (defines 2 (codes "g") [] (returns_name 3 (codes "x") ∷ []) ∷ returns_name 4 (codes "g") ∷ []) ∷ []

-- `x` has a cell of `f`, its first parameter, which `g` gets
closures :
    codes_of 0 closure
    ≡ coded (codes "<module>") [] 1 0 [] 0 (does (syntax.Define 1 [] (syntax.Function 1 1 syntax.NoMore syntax.NoKeyword []) (syntax.Module (codes "f")) ∷ []))
    ∷ coded (codes "f") ((kind.Plain, codes "x") ∷ []) 1 2 (Some 0 ∷ []) 0
    (does (syntax.Define 2 [] (syntax.Function 2 2 syntax.NoMore syntax.NoKeyword (syntax.OwnCell 0 ∷ [])) (syntax.Local 1 (codes "g"))
    ∷ syntax.Return (syntax.Name 4 (syntax.Local 1 (codes "g"))) ∷ []))
    ∷ coded (codes "g") [] 2 0 [] 1 (does (syntax.Return (syntax.Name 3 (syntax.Free 0 (codes "x"))) ∷ [])) ∷ []
closures =
    let tree : map stmt closure.script.statements ≡ closure_pieces =
    first_piece _ _ _ _
    (define_piece 1 (codes "f") _ _ _
    (first_piece _ _ _ _ (define_piece 2 (codes "g") _ _ _ (first_piece _ _ _ _ (return_piece 3 _ _ (name_part 3 (codes "x"))) refl))
    (first_piece _ _ _ _ (return_piece 4 _ _ (name_part 4 (codes "g"))) refl))) refl
    in
    ap (module_of closure.scopes) tree

-- [(y, x) for y in [x]]
abbrev pairs : Expr
pairs =
    e.ListComprehension 4 (e.Tuple 4 (item.One (name 4 (codes "y")) ∷ item.One (name 4 (codes "x")) ∷ []))
    (record { target = name 4 (codes "y"); iterable = e.List 4 (item.One (name 4 (codes "x")) ∷ []); more = [] })

abbrev as_name : List ℕ → Part
as_name x = expr_part (Expr-F.Name 4 x)

abbrev tuple_part : Part
tuple_part = expr_part (Expr-F.Tuple 4 (item.One (as_name (codes "y")) ∷ item.One (as_name (codes "x")) ∷ []))

tuple_is : expr (e.Tuple 4 (item.One (name 4 (codes "y")) ∷ item.One (name 4 (codes "x")) ∷ [])) ≡ tuple_part
tuple_is =
    ap expr (sym (rolls-Tuple 4 _)) ∙ fold-roll-Expr Part expr_part (Expr-F.Tuple 4 (item.One (name 4 (codes "y")) ∷ item.One (name 4 (codes "x")) ∷ []))
    ∙ ap (λ y. expr_part (Expr-F.Tuple 4 (item.One y ∷ item.One (expr (name 4 (codes "x"))) ∷ []))) (name_part 4 (codes "y"))
    ∙ ap (λ x. expr_part (Expr-F.Tuple 4 (item.One (as_name (codes "y")) ∷ item.One x ∷ []))) (name_part 4 (codes "x"))

abbrev list_part : Part
list_part = expr_part (Expr-F.List 4 (item.One (as_name (codes "x")) ∷ []))

list_is : expr (e.List 4 (item.One (name 4 (codes "x")) ∷ [])) ≡ list_part
list_is =
    ap expr (sym (rolls-List 4 _)) ∙ fold-roll-Expr Part expr_part (Expr-F.List 4 (item.One (name 4 (codes "x")) ∷ []))
    ∙ ap (λ x. expr_part (Expr-F.List 4 (item.One x ∷ []))) (name_part 4 (codes "x"))

abbrev pairs_with : Part → Part → Part → Part
pairs_with element target iterable = expr_part (Expr-F.ListComprehension 4 element (record { target = target; iterable = iterable; more = [] }))

pairs_part : expr pairs ≡ pairs_with tuple_part (as_name (codes "y")) list_part
pairs_part =
    ap expr (sym (rolls-ListComprehension 4 _ _)) ∙ fold-roll-Expr Part expr_part (Expr-F.ListComprehension 4 _ _)
    ∙ ap (λ x. pairs_with x (expr (name 4 (codes "y"))) (expr (e.List 4 (item.One (name 4 (codes "x")) ∷ [])))) tuple_is
    ∙ ap (λ x. pairs_with tuple_part x (expr (e.List 4 (item.One (name 4 (codes "x")) ∷ [])))) (name_part 4 (codes "y"))
    ∙ ap (pairs_with tuple_part (as_name (codes "y"))) list_is

-- x = "g"
-- class C:
--     x = "c"
--     a = [(y, x) for y in [x]]
--     def m(self):
--         return x
abbrev class_block : Scoped
class_block = scripted
    (s.Assign 1 (name 1 (codes "x") ∷ []) (e.Text 1 (codes "g"))
    ∷ s.Class 2 [] (codes "C") None
    (s.Assign 3 (name 3 (codes "x") ∷ []) (e.Text 3 (codes "c"))
    ∷ s.Assign 4 (name 4 (codes "a") ∷ [])
    pairs
    ∷ s.Def 5 [] (codes "m") (param.Named 5 (codes "self") None ∷ []) (s.Return 6 (Some (name 6 (codes "x"))) ∷ []) ∷ []) ∷ [])
    (scope_of scope.Module (codes "<module>") 1 0 (lives (codes "x") 0 ∷ lives (codes "C") 0 ∷ [])
    ∷ scope_of scope.Class (codes "C") 2 0 (lives (codes "x") 1 ∷ lives (codes "a") 1 ∷ lives (codes "m") 1 ∷ [])
    ∷ scope_of scope.ListComprehension (codes "<listcomp>") 4 1 (lives (codes "y") 2 ∷ lives (codes "x") 0 ∷ [])
    ∷ scope_of scope.Function (codes "m") 5 1 (lives (codes "self") 3 ∷ lives (codes "x") 0 ∷ []) ∷ [])

abbrev assigns : ℕ → List ℕ → Part → Piece
assigns line x part c = and_then (targets c (expr_part (Expr-F.Name line x) ∷ [])) (λ t. made (syntax.Assign t) (part.value c))

abbrev class_pieces : List Piece
class_pieces =
    assigns 1 (codes "x") (expr_part (Expr-F.Text 1 (codes "g")))
    ∷ (λ c. class c 2 [] (codes "C") None
    (assigns 3 (codes "x") (expr_part (Expr-F.Text 3 (codes "c")))
    ∷ assigns 4 (codes "a") (pairs_with tuple_part (as_name (codes "y")) list_part)
    ∷ defines 5 (codes "m") (param.Named 5 (codes "self") None ∷ []) (returns_name 6 (codes "x") ∷ []) ∷ [])) ∷ []

-- the names of the block are its own; inside it `x` is the module's, but for the first iterable, which stands in the block
classes :
    codes_of 0 class_block
    ≡ coded (codes "<module>") [] 1 0 [] 0
    (does (stores 1 (syntax.Module (codes "x")) (syntax.Constant (value.Str (codes "g")))
    ∷ syntax.Class 2 [] (codes "C") (syntax.Operation 2 op.Native (syntax.More (syntax.Constant (value.Str (codes "object"))) syntax.NoMore)) 1 [] (syntax.Module (codes "C")) ∷ []))
    ∷ coded (codes "C") ((kind.Only, codes ".0") ∷ []) 2 1 [] 0
    (does (stores 3 (syntax.InClass (codes "x")) (syntax.Constant (value.Str (codes "c")))
    ∷ stores 4 (syntax.InClass (codes "a"))
    (syntax.Comprehension 4 2 (syntax.Operation 4 op.List (syntax.More (syntax.Name 4 (syntax.InClass (codes "x"))) syntax.NoMore)) [])
    ∷ syntax.Define 5 [] (syntax.Function 5 3 syntax.NoMore syntax.NoKeyword []) (syntax.InClass (codes "m")) ∷ []))
    ∷ coded (codes "<listcomp>") ((kind.Only, codes ".0") ∷ []) 4 2 [] 0
    (syntax.Collect 4 (Some op.List) (syntax.ToName 4 (syntax.Local 1 (codes "y")))
    (syntax.Push (syntax.Operation 4 op.Tuple (syntax.More (syntax.Name 4 (syntax.Local 1 (codes "y"))) (syntax.More (syntax.Name 4 (syntax.Module (codes "x"))) syntax.NoMore)))))
    ∷ coded (codes "m") ((kind.Plain, codes "self") ∷ []) 5 1 [] 0 (does (syntax.Return (syntax.Name 6 (syntax.Module (codes "x"))) ∷ [])) ∷ []
classes =
    let tree : map stmt class_block.script.statements ≡ class_pieces =
    first_piece _ _ _ _ (assign_piece 1 (codes "x") _ _ (text_part 1 (codes "g")))
    (first_piece _ _ _ _
    (class_piece 2 (codes "C") _ _
    (first_piece _ _ _ _ (assign_piece 3 (codes "x") _ _ (text_part 3 (codes "c")))
    (first_piece _ _ _ _ (assign_piece 4 (codes "a") _ _ pairs_part)
    (first_piece _ _ _ _ (define_piece 5 (codes "m") _ _ _ (first_piece _ _ _ _ (return_piece 6 _ _ (name_part 6 (codes "x"))) refl)) refl)))) refl)
    in
    ap (module_of class_block.scopes) tree
