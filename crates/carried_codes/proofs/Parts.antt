-- Parts in ranges of temporaries of their own, and blocks that write fewer temporaries than they may.
use Rattle.std.proofs.Common.{ℕ, ◌≤◌, inr, Option, arith}
use Rattle.code_forms.specs.declared.operand.Operand.{Operand}
use Rattle.code_forms.specs.declared.operand.Operand.TheVariants as operand
use Rattle.node_tree.specs.Blocks as tree
use Rattle.py_meaning.specs.Syntax as syntax
use Rattle.py_meaning.specs.Frames as python
use Rattle.carries_base.specs.Frames.{Homes, behind, IsWithin, IsOff}
use Rattle.carries_base.specs.Carries.{Carrier, CarriesExpression}
use Rattle.carries_base.specs.Laws.{Within}
use Rattle.carries_base.proofs.Facts.{outside_less}
use Rattle.carries_names.specs.Names.{CarriesQuiet}
use Rattle.carries_control.specs.Tries.{CarriesCaught}
use Rattle.carries_values.specs.Parts.{CarriesPart, CarriesBeside}
use Rattle.carries_targets.proofs.Parts.{off_behind}

abbrev pub part_in : (h : Homes) (low high from to : ℕ) (x : syntax.Expression) (p : Carrier) → low ≤ from → to ≤ high → CarriesExpression h from to x p.block p.value → CarriesPart h low high x p
part_in h low high from to x p l₁ l₂ c = record { from = from; to = to; within = (l₁, l₂); carries = c }

-- an operand that a part in front leaves is kept over the next part
pub beside : (h : Homes) (low high l r from to : ℕ) (o : Operand) (x : syntax.Expression) (p : Carrier) → low ≤ from → to ≤ high → behind h ≤ l → r ≤ from → IsWithin l r o → CarriesExpression h from to x p.block p.value → CarriesBeside h low high o x p
beside h low high l r from to o x p l₁ l₂ st le w c = (part_in h low high from to x p l₁ l₂ c, off_behind h l r from to o st le w)

pub part_off : (h : Homes) (low high l r : ℕ) (x : syntax.Expression) (p : Carrier) → CarriesPart h low high x p → high ≤ l → IsOff h l r p.value
part_off h low high l r x p c le = let a = c.within.1 in off_behind h c.from c.to l r p.value c.carries.starts (omega arith) c.carries.within

-- an operand of one range lies outside of any range in front of it
pub off_before : (h : Homes) (low high l r : ℕ) (o : Operand) → behind h ≤ l → high ≤ l → IsWithin l r o → IsOff h low high o
off_before h low high l r (operand.Temp t) st le x = let a : l ≤ t = x.0 in (omega arith, inr (omega arith))
off_before h low high l r (operand.Const c) st le x = tt

pub quiet_wider : (h : Homes) (low high l r : ℕ) (row : python.L → python.R) (b : tree.Block) → behind h ≤ low → Within low high l r → CarriesQuiet h l r row b → CarriesQuiet h low high row b
quiet_wider h low high l r row b st w c =
    let a = w.0 in let d = w.1 in let e = c.grows in
    record { starts = st; grows = omega arith; carries = λ z fs out. c.carries z fs (outside_less h low high l r fs w.0 w.1 out) }

pub caught_wider : (h : Homes) (low high l r temp : ℕ) (row : python.L → Option ℕ → ℕ → python.R) (b : tree.Block) → behind h ≤ low → Within low high l r → CarriesCaught h l r temp row b → CarriesCaught h low high temp row b
caught_wider h low high l r temp row b st w c =
    let a = w.0 in let d = w.1 in let e = c.grows in
    record { starts = st; grows = omega arith; carries = λ z fs handled x out known. c.carries z fs handled x (outside_less h low high l r fs w.0 w.1 out) known }
