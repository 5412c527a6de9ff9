-- Assignments of one value to several targets.
use Rattle.std.proofs.Common.{◌≡◌, ℕ, ◌+◌, ◌<◌, ◌≤◌, List, [], ◌∷◌, Option, Some, None, refl, arith}
use Rattle.nu_value.specs.declared.value.Value.{Value}
use Rattle.code_forms.specs.declared.operand.Operand.{Operand}
use Rattle.node_tree.specs.Blocks as tree
use Rattle.py_meaning.specs.Syntax as syntax
use Rattle.carries_base.specs.Frames.{Homes, behind, Fact, Holds, Facts}
use Rattle.carries_base.specs.Carries.{CarriesExpression, CarriesTarget, CarriesStatement}
use Rattle.carries_base.proofs.Facts.{outside_less, within_below, forget}
use Rattle.carries_base.proofs.Sequence.{weaken, more_leaves, seq_carried, gives_carried}
use Rattle.reform_unpack.specs.Laws.{CarriesTargets}

pub no_target_carried : (h : Homes) (low : ℕ) (o : Operand) → behind h ≤ low → CarriesTargets h low low o syntax.NoTarget tree.Stop
no_target_carried h low o le = record {
  starts = le;
  grows = omega arith;
  carries = λ z fs v off knows. gives_carried z h 0 (λ w. fs) fs _ (λ c g x. x);
}

pub target_carried : (h : Homes) (low mid high : ℕ) (o : Operand) (t : syntax.Target) (ts : syntax.Targets) (a b : tree.Block) → CarriesTarget h low mid o t a → CarriesTargets h mid high o ts b → CarriesTargets h low high o (syntax.AlsoTo t ts) (tree.append a b)
target_carried h low mid high o t ts a b ca cb =
    let l₁ : low ≤ mid = ca.grows in
    let l₂ : mid ≤ high = cb.grows in
    record {
      starts = ca.starts;
      grows = omega arith;
      carries = λ z fs v off knows. seq_carried z h 0 (λ w. fs) (λ w. fs) fs _ _ a b (λ w c g x. x)
          (ca.carries z fs v (outside_less h low high low mid fs (omega arith) l₂ off) knows)
          (λ w. cb.carries z fs v (outside_less h low high mid high fs l₁ (omega arith) off) knows);
    }

pub assignment_carried : (h : Homes) (low mid high : ℕ) (caught : Option ℕ) (x : syntax.Expression) (ts : syntax.Targets) (a b : tree.Block) (o : Operand) → CarriesExpression h low mid x a o → CarriesTargets h mid high o ts b → CarriesStatement h low high caught (syntax.Assign ts x) (tree.append a b)
assignment_carried h low mid high caught x ts a b o ca cb =
    let st : behind h ≤ low = ca.starts in
    let l₁ : low ≤ mid = ca.grows in
    let l₂ : mid ≤ high = cb.grows in
    record {
      starts = st;
      grows = omega arith;
      carries = λ z fs handled off hd.
          let k : Value → Facts = λ v. Holds o v ∷ fs in
          seq_carried z h 2 k (λ w. fs) fs _ _ a b (λ v. forget (Holds o v) fs)
          (more_leaves z h 0 2 k fs _ _ (omega arith) (ca.carries z fs (outside_less h low high low mid fs (omega arith) l₂ off)))
          (λ v. more_leaves z h 0 2 (λ w. fs) (k v) _ _ (omega arith)
          (weaken z h 0 (λ w. k v) (λ w. fs) (k v) _ _ (λ w c g y. y.1)
          (cb.carries z (k v) v (within_below h low mid high o st ca.within, outside_less h low high mid high fs l₁ (omega arith) off) (λ c g y. y.0))));
    }
