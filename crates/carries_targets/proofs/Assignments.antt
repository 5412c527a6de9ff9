-- Assignments of one value to several targets.
use Rattle.std.proofs.Common.{ℕ, ◌≤◌, ◌∷◌, Option, arith}
use Rattle.nu_value.specs.declared.value.Value.{Value}
use Rattle.code_forms.specs.declared.operand.Operand.{Operand}
use Rattle.node_tree.specs.Blocks as tree
use Rattle.py_meaning.specs.Syntax as syntax
use Rattle.carries_base.specs.Frames.{Homes, behind, Holds, Facts, IsOff}
use Rattle.carries_base.specs.Carries.{EndsAs, CarriesExpression, CarriesStatement}
use Rattle.carries_base.specs.Laws.{Within}
use Rattle.carries_base.proofs.Facts.{outside_less}
use Rattle.carries_base.proofs.Sequence.{lessen, more_leaves, seq_carried, gives_carried}
use Rattle.carries_control.proofs.Steps.{passing, value_then}
use Rattle.carries_targets.specs.Places.{CarriesPlace, CarriesPlaces}
use Rattle.carries_targets.proofs.Parts.{off_behind}

pub none_carried : (h : Homes) (low high from to : ℕ) (o : Operand) → behind h ≤ low → low ≤ high → high ≤ from → from ≤ to → CarriesPlaces h low high from to o syntax.NoTarget tree.Stop
none_carried h low high from to o st le follows l = record {
  starts = st;
  parts = le;
  follows = follows;
  draws = l;
  carries = λ z fs v out drawn knows. gives_carried z h 0 (λ w. fs) fs _ (λ c g y. y);
}

pub also_carried : (h : Homes) (low high from to : ℕ) (o : Operand) (x : syntax.Target) (xs : syntax.Targets) (a b : tree.Block) → CarriesPlace h low high from to o x a → CarriesPlaces h low high from to o xs b → CarriesPlaces h low high from to o (syntax.AlsoTo x xs) (tree.append a b)
also_carried h low high from to o x xs a b ca cb = record {
  starts = ca.starts;
  parts = ca.parts;
  follows = ca.follows;
  draws = ca.draws;
  carries = λ z fs v out drawn knows. seq_carried z h 0 (λ w. fs) (λ w. fs) fs _ _ a b (λ w c g y. y) (ca.carries z fs v out drawn knows) (λ w. cb.carries z fs v out drawn knows);
}

pub assign_carried : (h : Homes) (low xl xh l r from to : ℕ) (caught : Option ℕ) (x : syntax.Expression) (xs : syntax.Targets) (xb b : tree.Block) (a : Operand) → behind h ≤ low → low ≤ l → Within low from xl xh → IsOff h l r a → CarriesExpression h xl xh x xb a → CarriesPlaces h l r from to a xs b → CarriesStatement h low to caught (syntax.Assign xs x) (tree.append xb b)
assign_carried h low xl xh l r from to caught x xs xb b a st below wx kept cx c =
    let l₁ : xl ≤ xh = cx.grows in
    let l₂ : low ≤ xl = wx.0 in
    let l₃ : xh ≤ from = wx.1 in
    let l₄ : r ≤ from = c.follows in
    let l₅ : from ≤ to = c.draws in
    record {
      starts = st;
      grows = omega arith;
      carries = λ z fs handled out hd.
          let known : Value → Facts = λ v. Holds a v ∷ fs in
          value_then z h fs (EndsAs z h 2 (λ v. fs) fs) (passing z h 2 fs) fs xl xh x xb a _ b (λ c g y. y) cx (outside_less h low to xl xh fs l₂ (omega arith) out)
          (λ v. lessen z h 2 (λ w. known v) (λ w. fs) fs (known v) _ _ (λ w c g y. y.1) (λ c g y. y.1)
          (more_leaves z h 0 2 (λ w. known v) (known v) _ _ (omega arith)
          (c.carries z (known v) v (kept, outside_less h low to l r fs below (omega arith) out)
          (off_behind h xl xh from to a cx.starts l₃ cx.within, outside_less h low to from to fs (omega arith) (omega arith) out) (λ c g y. y.0))));
    }
