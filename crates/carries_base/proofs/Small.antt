-- Small constructs, carried where their parts are.
use Rattle.std.proofs.Common.{◌≡◌, ℕ, suc, ◌+◌, ◌<◌, ◌≤◌, length, map, List, [], ◌∷◌, Some, refl, ap, ◌∙◌, arith}
use Rattle.nu_value.specs.declared.value.Value.{Value}
use Rattle.op_forms.specs.declared.constant.Const.{Const}
use Rattle.op_forms.specs.declared.op.Op.{Op}
use Rattle.op_forms.specs.declared.op.Op.TheVariants as op
use Rattle.op_forms.specs.Constants.{value_of}
use Rattle.nu_calls.specs.Calls.{yields}
use Rattle.code_forms.specs.declared.operand.Argument.TheVariants as argument
use Rattle.code_forms.specs.declared.operand.Operand.{Operand}
use Rattle.code_forms.specs.declared.operand.Operand.TheVariants as operand
use Rattle.node_tree.specs.Blocks.{alone}
use Rattle.node_tree.specs.Blocks as tree
use Rattle.node_tree.specs.Nodes as nodes
use Rattle.py_meaning.specs.Syntax as syntax
use Rattle.py_meaning.specs.Frames as python
use Rattle.py_meaning.specs.Expressions.{each}
use Rattle.carries_base.specs.Frames.{Homes, HaveRoom, local_at, behind, Holds, Facts, Fits, IsWithin, Outside}
use Rattle.carries_base.specs.Carries.{Setting, source, target, Correspond, EndsAs, Carried, CarriesExpression, Carrier, CarriesAll, joined}
use Rattle.carries_base.proofs.Facts.{Off, outside_off, outside_less, within_below, local_below, refit, forget}
use Rattle.carries_base.proofs.Sequence.{weaken, lessen, more_leaves, seq_carried, one_carried, gives_carried, reads_by, uses_by}
use Rattle.carries_base.proofs.Operations.{operate_carried, storing_by, yields_by}

pub constant_carried : (h : Homes) (low : ℕ) (c : Const) → behind h ≤ low → CarriesExpression h low low (syntax.Constant (value_of c)) tree.Stop (operand.Const c)
constant_carried h low c le = record {
  starts = le;
  grows = omega arith;
  within = tt;
  carries = λ z fs off. gives_carried z h 0 (λ v. Holds (operand.Const c) v ∷ fs) fs (value_of c) (λ c g x. (refl, x));
}

pub local_carried : (h : Homes) (low line place : ℕ) (name : List ℕ) → HaveRoom h → behind h ≤ low → place < h.filled → CarriesExpression h low (low + 1) (syntax.Name line (syntax.Local place name)) (alone (tree.Do low line op.Local (argument.Value (operand.Temp (local_at h place)) ∷ argument.Name name ∷ []))) (operand.Temp low)
local_carried h low line place name room le inside =
    let filled = room.filled in
    let below = local_below h place room (omega arith) in
    record {
      starts = le;
      grows = omega arith;
      within = (omega arith, omega arith);
      carries = λ z fs off.
          let k : Value → Facts = λ v. Holds (operand.Temp low) v ∷ fs in
          let home : Value → Facts = λ v. Holds (operand.Temp (local_at h place)) v ∷ fs in
          one_carried z h 0 k fs _ _
          (reads_by z h 0 _ (λ v tabs. Correspond z h tabs (home v)) (EndsAs z h 0 k fs) (λ f. python.at f.locals place) _ _
          (λ tabs s t x. refit z h tabs fs (home (python.at s.frame.locals place)) s t (λ y. (x.frames.locals place inside, y)) x)
          (λ v. lessen z h 0 (λ u. Holds (operand.Temp low) u ∷ home v) k fs (home v) _ _ (λ u c g y. (y.0, y.1.1)) (λ c g y. y.1)
          (operate_carried z h 0 (home v) line op.Local (v ∷ python.text name ∷ []) low (argument.Value (operand.Temp (local_at h place)) ∷ argument.Name name ∷ []) le
          (λ e. let e₁ : local_at h place ≡ low = e in omega arith, outside_off h low (low + 1) low fs (omega arith) (omega arith) off)
          (λ c g y. ap (λ u. nodes.both u (Some (python.text name ∷ []))) y.0))));
    }

-- what the blocks of a list leave
abbrev pub holds : List Carrier → List Value → Facts → Facts
holds (p ∷ ps) (v ∷ vs) fs = holds ps vs (Holds p.value v ∷ fs)
holds ps vs fs = fs

all_starts : (h : Homes) (low high : ℕ) (xs : syntax.Expressions) (ps : List Carrier) → CarriesAll h low high xs ps → behind h ≤ low
all_starts h low high syntax.NoMore [] c = c.0
all_starts h low high syntax.NoMore (p ∷ ps) c = absurd c
all_starts h low high (syntax.More x xs) [] c = absurd c
all_starts h low high (syntax.More x xs) (p ∷ ps) c = c.1.starts

all_grows : (h : Homes) (low high : ℕ) (xs : syntax.Expressions) (ps : List Carrier) → CarriesAll h low high xs ps → low ≤ high
all_grows h low high syntax.NoMore [] c = c.1
all_grows h low high syntax.NoMore (p ∷ ps) c = absurd c
all_grows h low high (syntax.More x xs) [] c = absurd c
all_grows h low high (syntax.More x xs) (p ∷ ps) c =
    let mid = c.0 in
    let a : low ≤ mid = c.1.grows in
    let b : mid ≤ high = all_grows h mid high xs ps c.2 in
    omega arith

holds_before : (ps : List Carrier) (vs : List Value) (fs : Facts) (c : Value) (g : nodes.Frame) → Fits (holds ps vs fs) c g → Fits fs c g
holds_before [] vs fs c g x = x
holds_before (p ∷ ps) [] fs c g x = x
holds_before (p ∷ ps) (v ∷ vs) fs c g x = (holds_before ps vs (Holds p.value v ∷ fs) c g x).1

all_values : (ps : List Carrier) (vs : List Value) (fs : Facts) (c : Value) (g : nodes.Frame) → length vs ≡ length ps → Fits (holds ps vs fs) c g → nodes.values g (map (λ p. argument.Value p.value) ps) ≡ Some vs
all_values [] [] fs c g e x = refl
all_values [] (v ∷ vs) fs c g e x = absurd (omega arith)
all_values (p ∷ ps) [] fs c g e x = absurd (omega arith)
all_values (p ∷ ps) (v ∷ vs) fs c g e x =
    ap (λ u. nodes.both u (nodes.values g (map (λ p. argument.Value p.value) ps))) (holds_before ps vs (Holds p.value v ∷ fs) c g x).0
    ∙ ap (λ u. nodes.both (Some v) u) (all_values ps vs (Holds p.value v ∷ fs) c g (omega arith) x)

pub within_off : (low mid d : ℕ) (o : Operand) (v : Value) (fs : Facts) → IsWithin low mid o → mid ≤ d → Off d fs → Off d (Holds o v ∷ fs)
within_off low mid d (operand.Temp t) v fs w le off = let l : t < mid = w.1 in (λ e. let e₁ : t ≡ d = e in omega arith, off)
within_off low mid d (operand.Const c) v fs w le off = off

all_off : (h : Homes) (low high : ℕ) (xs : syntax.Expressions) (ps : List Carrier) (vs : List Value) (fs : Facts) → CarriesAll h low high xs ps → Off high fs → Off high (holds ps vs fs)
all_off h low high syntax.NoMore [] vs fs c off = off
all_off h low high syntax.NoMore (p ∷ ps) vs fs c off = absurd c
all_off h low high (syntax.More x xs) [] vs fs c off = absurd c
all_off h low high (syntax.More x xs) (p ∷ ps) [] fs c off = off
all_off h low high (syntax.More x xs) (p ∷ ps) (v ∷ vs) fs c off =
    all_off h c.0 high xs ps vs (Holds p.value v ∷ fs) c.2 (within_off low c.0 high p.value v fs c.1.within (all_grows h c.0 high xs ps c.2) off)

-- expressions one after another, and what follows their values
pub each_carried : (z : Setting) (h : Homes) (n low high : ℕ) (xs : syntax.Expressions) (ps : List Carrier) (k : Value → Facts) (fs : Facts) (K : List Value → python.R) (last : tree.Block) → CarriesAll h low high xs ps → Outside h low high fs → ((vs : List Value) → length vs ≡ length ps → Carried z h n k (holds ps vs fs) (K vs) (nodes.block_row (target z) last)) → Carried z h n k fs (each (source z) xs K) (nodes.block_row (target z) (joined ps last))
each_carried z h n low high syntax.NoMore [] k fs K last c off next = next [] refl
each_carried z h n low high syntax.NoMore (p ∷ ps) k fs K last c off next = absurd c
each_carried z h n low high (syntax.More x xs) [] k fs K last c off next = absurd c
each_carried z h n low high (syntax.More x xs) (p ∷ ps) k fs K last c off next =
    let mid = c.0 in
    let a : low ≤ mid = c.1.grows in
    let b : mid ≤ high = all_grows h mid high xs ps c.2 in
    seq_carried z h n (λ v. Holds p.value v ∷ fs) k fs _ _ p.block (joined ps last) (λ v. forget (Holds p.value v) fs)
    (more_leaves z h 0 n (λ v. Holds p.value v ∷ fs) fs _ _ (omega arith) (c.1.carries z fs (outside_less h low high low mid fs (omega arith) b off)))
    (λ v. each_carried z h n mid high xs ps k (Holds p.value v ∷ fs) (λ vs. K (v ∷ vs)) last c.2
    (within_below h low mid high p.value c.1.starts c.1.within, outside_less h low high mid high fs a (omega arith) off)
    (λ vs e. next (v ∷ vs) (ap (λ n. suc n) e)))

pub operation_carried : (h : Homes) (low high line : ℕ) (o : Op) (xs : syntax.Expressions) (ps : List Carrier) → CarriesAll h low high xs ps → CarriesExpression h low (high + 1) (syntax.Operation line o xs) (joined ps (alone (tree.Do high line o (map (λ p. argument.Value p.value) ps)))) (operand.Temp high)
operation_carried h low high line o xs ps c =
    let le = all_grows h low high xs ps c in
    let st = all_starts h low high xs ps c in
    let high_above : behind h ≤ high = omega arith in
    record {
      starts = st;
      grows = omega arith;
      within = (le, omega arith);
      carries = λ z fs off.
          let k : Value → Facts = λ v. Holds (operand.Temp high) v ∷ fs in
          each_carried z h 0 low high xs ps k fs _ _ c (outside_less h low (high + 1) low high fs (omega arith) (omega arith) off)
          (λ vs e. one_carried z h 0 k (holds ps vs fs) _ _
          (weaken z h 0 (λ u. Holds (operand.Temp high) u ∷ holds ps vs fs) k (holds ps vs fs) _ _ (λ u c g y. (y.0, holds_before ps vs fs c g y.1))
          (operate_carried z h 0 (holds ps vs fs) line o vs high (map (λ p. argument.Value p.value) ps) high_above
          (all_off h low high xs ps vs fs c (outside_off h low (high + 1) high fs le (omega arith) off))
          (λ c g y. all_values ps vs fs c g e y))));
    }

pub yield_carried : (h : Homes) (low high line : ℕ) (x : syntax.Expression) (b : tree.Block) (o : Operand) → CarriesExpression h low high x b o → CarriesExpression h low (high + 1) (syntax.Yield line x) (tree.append b (alone (tree.Yield high line o))) (operand.Temp high)
yield_carried h low high line x b o c =
    let le = c.grows in
    let st = c.starts in
    let high_above : behind h ≤ high = omega arith in
    record {
      starts = st;
      grows = omega arith;
      within = (le, omega arith);
      carries = λ z fs off.
          let k : Value → Facts = λ v. Holds (operand.Temp high) v ∷ fs in
          seq_carried z h 0 (λ v. Holds o v ∷ fs) k fs _ _ b _ (λ v. forget (Holds o v) fs) (c.carries z fs (outside_less h low (high + 1) low high fs (omega arith) (omega arith) off))
          (λ v. one_carried z h 0 k (Holds o v ∷ fs) _ _
          (uses_by z h 0 _ (EndsAs z h 0 k (Holds o v ∷ fs)) o v (yields (source z) line) (λ w. nodes.storing high (yields (target z) line w)) (λ tabs s t y. y.frames.facts.0) (λ tabs s t y. tt)
          (λ used. weaken z h 0 (λ u. Holds (operand.Temp high) u ∷ Holds o v ∷ fs) k (Holds o v ∷ fs) _ _ (λ u c g y. (y.0, y.1.1))
          (storing_by z h 0 _ (Holds o v ∷ fs) high _ _ high_above (within_off low high high o v fs c.within (omega arith) (outside_off h low (high + 1) high fs le (omega arith) off))
          (yields_by z h (Holds o v ∷ fs) line v)))));
    }
