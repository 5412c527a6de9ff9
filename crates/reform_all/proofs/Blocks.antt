-- Blocks that carry statements carry them within more temporaries too, and as a block of one statement.
use Rattle.std.proofs.Common.{◌≡◌, ℕ, ◌≤◌, List, [], ◌∷◌, ◌++◌, Option, refl, sym, ap, subst, arith}
use Rattle.node_tree.specs.declared.node.Node.{Node}
use Rattle.code_forms.specs.declared.operand.Operand.{Operand}
use Rattle.code_forms.specs.declared.operand.Operand.TheVariants as operand
use Rattle.node_tree.specs.Blocks as tree
use Rattle.node_tree.specs.Tree.{block}
use Rattle.node_tree.proofs.Direct.{block_append, append_stop}
use Rattle.py_meaning.specs.Syntax as syntax
use Rattle.py_meaning.specs.Frames as python
use Rattle.carries_base.specs.Frames.{Homes, behind, IsWithin}
use Rattle.carries_base.specs.Carries.{CarriesRow, CarriesExpression, CarriesStatement, CarriesBlock}
use Rattle.carries_base.proofs.Facts.{outside_less}
use Rattle.carries_base.proofs.Statements.{done_carried, block_carried}

within_more : (low mid high : ℕ) (o : Operand) → mid ≤ high → IsWithin low mid o → IsWithin low high o
within_more low mid high (operand.Temp t) le w = let a = w.1 in (w.0, omega arith)
within_more low mid high (operand.Const c) le w = tt

-- within more temporaries
pub more_value : (h : Homes) (low mid high : ℕ) (x : syntax.Expression) (b : tree.Block) (o : Operand) → mid ≤ high → CarriesExpression h low mid x b o → CarriesExpression h low high x b o
more_value h low mid high x b o le c =
    let l : low ≤ mid = c.grows in
    record {
      starts = c.starts;
      grows = omega arith;
      within = within_more low mid high o le c.within;
      carries = λ z fs off. c.carries z fs (outside_less h low high low mid fs (omega arith) le off);
    }

pub more_row : (h : Homes) (low mid high : ℕ) (caught : Option ℕ) (r : python.L → Option ℕ → python.R) (b : tree.Block) → mid ≤ high → CarriesRow h low mid caught r b → CarriesRow h low high caught r b
more_row h low mid high caught r b le c =
    let l : low ≤ mid = c.grows in
    record {
      starts = c.starts;
      grows = omega arith;
      carries = λ z fs handled off hd. c.carries z fs handled (outside_less h low high low mid fs (omega arith) le off) hd;
    }

-- one statement
pub alone_carried : (h : Homes) (low high : ℕ) (caught : Option ℕ) (s : syntax.Statement) (b : tree.Block) → CarriesStatement h low high caught s b → CarriesBlock h low high caught (syntax.Then s syntax.Done) b
alone_carried h low high caught s b c =
    let st : behind h ≤ low = c.starts in
    let l : low ≤ high = c.grows in
    subst (λ d. CarriesBlock h low high caught (syntax.Then s syntax.Done) d) (append_stop b)
    (block_carried h low high high caught s syntax.Done b tree.Stop c (done_carried h high high caught (omega arith) (omega arith)))

-- a statement, and others behind it
pub nodes_carried : (h : Homes) (low mid high : ℕ) (caught : Option ℕ) (s : syntax.Statement) (rest : syntax.Block) (xs ys : List Node) → CarriesStatement h low mid caught s (block xs) → CarriesBlock h mid high caught rest (block ys) → CarriesBlock h low high caught (syntax.Then s rest) (block (xs ++ ys))
nodes_carried h low mid high caught s rest xs ys cs cr =
    subst (λ d. CarriesBlock h low high caught (syntax.Then s rest) d) (sym (block_append xs ys))
    (block_carried h low mid high caught s rest (block xs) (block ys) cs cr)
