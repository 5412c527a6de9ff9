-- Expressions without operands.
use Rattle.std.proofs.Common.{ℕ, ◌+◌, ◌≤◌, List, [], ◌∷◌, refl, arith}
use Rattle.op_forms.specs.declared.op.Op.TheVariants as op
use Rattle.code_forms.specs.declared.operand.Argument.TheVariants as argument
use Rattle.code_forms.specs.declared.operand.Operand.TheVariants as operand
use Rattle.node_tree.specs.Blocks.{alone}
use Rattle.node_tree.specs.Blocks as tree
use Rattle.py_meaning.specs.Syntax as syntax
use Rattle.py_meaning.specs.Frames as python
use Rattle.carries_base.specs.Frames.{Homes, behind, Holds}
use Rattle.carries_base.specs.Carries.{CarriesExpression}
use Rattle.reform_expr.specs.declared.home.Home.{Home}
use Rattle.reform_expr.specs.declared.home.Home.TheVariants as home
use Rattle.reform_expr.specs.Homes.{home_of, reads}
use Rattle.carries_base.proofs.Facts.{outside_off}
use Rattle.carries_base.proofs.Sequence.{one_carried}
use Rattle.carries_base.proofs.Operations.{operate_carried}

-- a name of the module that is read
pub module_carried : (h : Homes) (low to line : ℕ) (name : List ℕ) → behind h ≤ low → low ≤ to → CarriesExpression h low (to + 1) (syntax.Name line (syntax.Module name)) (alone (tree.Do to line op.Global (argument.Name name ∷ []))) (operand.Temp to)
module_carried h low to line name st le =
    let above : behind h ≤ to = omega arith in
    record {
      starts = st;
      grows = omega arith;
      within = (le, omega arith);
      carries = λ z fs off. one_carried z h 0 (λ v. Holds (operand.Temp to) v ∷ fs) fs _ _
          (operate_carried z h 0 fs line op.Global (python.text name ∷ []) to (argument.Name name ∷ []) above (outside_off h low (to + 1) to fs le (omega arith) off) (λ c g y. refl));
    }

pub name_carried : (h : Homes) (low to line : ℕ) (at : Home) → behind h ≤ low → low ≤ to → CarriesExpression h low (to + 1) (syntax.Name line (home_of at)) (alone (reads to line at)) (operand.Temp to)
name_carried h low to line (home.Module name) st le = module_carried h low to line name st le
