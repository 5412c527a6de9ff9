-- What stands in the temporaries of names, and operations on it.
use Rattle.std.proofs.Common.{◌≡◌, ℕ, ◌<◌, ◌≤◌, List, ◌∷◌, Some, arith}
use Rattle.nu_value.specs.declared.value.Value.{Value}
use Rattle.op_forms.specs.declared.op.Op.{Op}
use Rattle.nu_rows.specs.Words.{then_value}
use Rattle.nu_calls.specs.Calls.{operate}
use Rattle.code_forms.specs.declared.operand.Argument.{Argument}
use Rattle.code_forms.specs.declared.operand.Operand.TheVariants as operand
use Rattle.node_tree.specs.Nodes as nodes
use Rattle.py_meaning.specs.Frames as python
use Rattle.carries_base.specs.Frames.{Homes, HaveRoom, local_at, own_at, free_at, behind, Holds, Facts, Fits, FramesAs}
use Rattle.carries_base.specs.Carries.{Setting, source, target, Correspond, EndsAs, Carried}
use Rattle.carries_base.proofs.Facts.{Off, local_below, refit}
use Rattle.carries_base.proofs.Sequence.{lessen, reads_by}
use Rattle.carries_base.proofs.Operations.{operate_carried}

-- a temporary of a name holds what the frame of the script has there
pub record Seat (h : Homes) (place : ℕ) (f : python.Frame → Value) : Type 0 where
  pub below : place < behind h
  pub holds : (fs : Facts) (s : python.Frame) (t : nodes.Frame) → FramesAs h fs s t → t.temps place ≡ Some (f s)

pub local_seat : (h : Homes) (place : ℕ) → HaveRoom h → place < h.filled → Seat h (local_at h place) (λ f. python.at f.locals place)
local_seat h place room l =
    let r = room.filled in
    record {
      below = local_below h place room (omega arith);
      holds = λ fs s t x. x.locals place l;
    }

pub own_seat : (h : Homes) (place : ℕ) → HaveRoom h → place < h.made → Seat h (own_at h place) (λ f. python.at f.owns place)
own_seat h place room l =
    let r = room.made in
    let p = room.params in
    record { below = omega arith; holds = λ fs s t x. x.owns place l }

pub free_seat : (h : Homes) (place : ℕ) → HaveRoom h → place < h.frees → Seat h (free_at h place) (λ f. python.at f.frees place)
free_seat h place room l =
    let p = room.params in
    record { below = omega arith; holds = λ fs s t x. x.frees place l }

-- an operation that is given what such a temporary holds
pub seat_carried : (z : Setting) (h : Homes) (n place to line : ℕ) (f : python.Frame → Value) (o : Op) (vs : Value → List Value) (args : List Argument) (fs : Facts) → Seat h place f → behind h ≤ to → Off to fs → ((v c : Value) (g : nodes.Frame) → Fits (Holds (operand.Temp place) v ∷ fs) c g → nodes.values g args ≡ Some (vs v)) → Carried z h n (λ u. Holds (operand.Temp to) u ∷ fs) fs (then_value (python.reads f) (λ v. operate (source z) line o (vs v))) (nodes.do_row (target z) to line o args)
seat_carried z h n place to line f o vs args fs seat le off known =
    let k : Value → Facts = λ u. Holds (operand.Temp to) u ∷ fs in
    let home : Value → Facts = λ v. Holds (operand.Temp place) v ∷ fs in
    let below : place < behind h = seat.below in
    reads_by z h n _ (λ v tabs. Correspond z h tabs (home v)) (EndsAs z h n k fs) f _ _
    (λ tabs s t x. refit z h tabs fs (home (f s.frame)) s t (λ y. (seat.holds fs s.frame t.frame x.frames, y)) x)
    (λ v. lessen z h n (λ u. Holds (operand.Temp to) u ∷ home v) k fs (home v) _ _ (λ u c g y. (y.0, y.1.1)) (λ c g y. y.1)
    (operate_carried z h n (home v) line o (vs v) to args le (λ e. let e₁ : place ≡ to = e in omega arith, off) (known v)))
