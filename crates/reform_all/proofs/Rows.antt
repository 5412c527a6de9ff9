-- A statement, from what its row says.
use Rattle.std.proofs.Common.{◌≡◌, ℕ, List, Result, sym, subst}
use Rattle.py_ast.specs.declared.stmt.Stmt.{Stmt, map-Stmt, roll-Stmt}
use Rattle.py_ast.specs.declared.stmt.Stmt.TheOpen.{Stmt-F}
use Rattle.py_ast.specs.declared.stmt.Stmt.TheFolds.{fold-roll-Stmt}
use Rattle.node_tree.specs.declared.node.Node.{Node}
use Rattle.py_meaning.specs.Resolved as meaning
use Rattle.reform_all.specs.declared.ending.ReformEnd.{ReformEnd}
use Rattle.reform_all.specs.Built as built
use Rattle.reform_all.specs.Assignments.{Answers}
use Rattle.reform_all.specs.Statements.{Stated}

pub stated : (names : List (List ℕ)) (s : Stmt) (y : Stmt-F Stmt) (old new : ℕ) (r : Result (List Node) ReformEnd) → roll-Stmt y ≡ s → Answers ((built.stmt_row (map-Stmt Stmt built.Statement built.stmt y)).unbuilt names) (meaning.stmt_piece (map-Stmt Stmt meaning.Piece meaning.stmt y)) old new r → Stated names s old new r
stated names s y old new r is x =
    let u = (built.stmt_row (map-Stmt Stmt built.Statement built.stmt y)).unbuilt names in
    subst (λ z. Stated names z old new r) is
    (subst (λ b. Answers (b.unbuilt names) (meaning.stmt (roll-Stmt y)) old new r) (sym (fold-roll-Stmt built.Statement built.stmt_row y))
    (subst (λ m. Answers u m old new r) (sym (fold-roll-Stmt meaning.Piece meaning.stmt_piece y)) x))
