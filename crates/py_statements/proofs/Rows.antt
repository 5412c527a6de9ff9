-- A list of expressions at the front of a statement.
use Rattle.std.proofs.Common.{◌≡◌, ℕ, ◌+◌, Bool, true, false, List, length, Some, refl}
use Rattle.py_ast.specs.declared.token.Token.{Token}
use Rattle.py_ast.specs.declared.spelled.Sign.TheVariants as s
use Rattle.py_ast.specs.declared.expr.Item.{Item}
use Rattle.py_ast.specs.declared.expr.Expr.{Expr}
use Rattle.py_grammar.specs.declared.found.Found.{Found}
use Rattle.py_grammar.specs.declared.role.Mark.{Mark}
use Rattle.py_grammar.specs.declared.role.Mark.TheVariants as m
use Rattle.py_grammar.specs.declared.role.Row.TheVariants as row
use Rattle.py_grammar.specs.Levels.{expression, mark, line, can_begin}
use Rattle.py_grammar.specs.Parse.{is_sign, item, row_behind, row_of, parse, read_level, read_exprs, read_row, is_alone}
use Rattle.py_grammar.proofs.Steps.{sees_by}
use Rattle.py_grammar.proofs.Apart.{bind_some}

not_star : (q : Mark) → can_begin expression q ≡ true → is_sign s.Star q ≡ false
not_star (m.Sign s.Star) h = cc
not_star _ h = refl

row_by : (d : ℕ) (i : List Token) (x : Found (Item Expr)) (l : List Token) (f : Found Expr) (j : List Token) → item (parse (length i + 1)) (length i + 1) row.Expressions d i ≡ Some (x, l)
    → row_behind (parse (length i + 1)) (length i + 1) (line i) row.Expressions d x l ≡ Some (f, j) → read_row d i ≡ Some ((f, is_alone x.tree l), j)
unfolding read_row
row_by d i x l f j h e = rw (h, e) refl

pub row_reads : (d : ℕ) (i : List Token) (f : Found Expr) (j : List Token) → read_exprs d i ≡ Some (f, j) → (b : Bool) × (read_row d i ≡ Some ((f, b), j))
unfolding read_exprs row_of
row_reads d i f j h =
    let a = bind_some (item (parse (length i + 1)) (length i + 1) row.Expressions d i) (row_behind (parse (length i + 1)) (length i + 1) (line i) row.Expressions d) (f, j) h in
    (is_alone a.0.tree a.1, row_by d i a.0 a.1 f j a.2 a.3)

pub row_one : (d : ℕ) (i : List Token) (f : Found Expr) (j : List Token) → can_begin expression (mark i) ≡ true → read_level expression d i ≡ Some (f, j) → is_sign s.Comma (mark j) ≡ false → read_row d i ≡ Some ((f, true), j)
unfolding read_level read_row item row_behind
row_one d i f j begins h alone = rw (sees_by s.Star i false (not_star (mark i) begins), h, sees_by s.Comma j false alone) refl
