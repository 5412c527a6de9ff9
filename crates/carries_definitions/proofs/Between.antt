-- What is known between the turns of a `yield from`, and the ends of its turns.
use Rattle.std.proofs.Common.{ℕ, ◌+◌, [], ◌∷◌}
use Rattle.nu_value.specs.declared.value.Value.{Value}
use Rattle.nu_calls.specs.Calls.{state_of}
use Rattle.node_tree.specs.Nodes as nodes
use Rattle.py_meaning.specs.Frames as python
use Rattle.carries_base.specs.Frames.{Homes, Holds, Alike, Keeps, Never, Facts, Fits, Outside}
use Rattle.carries_base.specs.Carries.{Setting, S, T, Tables, Correspond}
use Rattle.carries_base.proofs.Sequence.{Passes, Unvalued}
use Rattle.carries_definitions.proofs.Sent.{BeforeTurn, DelegateTurns}
use Rattle.carries_definitions.proofs.Turned.{turns_unvalued, turns_passing}

-- facts that don't speak of what is carried stay so with another value
pub fits_carried : (h : Homes) (low high : ℕ) (fs : Facts) (c c' : Value) (g : nodes.Frame) → Outside h low high fs → Fits fs c g → Fits fs c' g
fits_carried h low high [] c c' g out x = tt
fits_carried h low high (Holds o v ∷ fs) c c' g out x = (x.0, fits_carried h low high fs c c' g out.1 x.1)
fits_carried h low high (Alike v w ∷ fs) c c' g out x = (x.0, fits_carried h low high fs c c' g out x.1)
fits_carried h low high (Keeps t ∷ fs) c c' g out x = absurd out
fits_carried h low high (Never ∷ fs) c c' g out x = absurd x

pub carries_as : (z : Setting) (h : Homes) (tabs : Tables) (fs gs : Facts) (v : Value) (s : S) (t : T) → (Fits fs s.frame.carried t.frame → Fits gs v t.frame) → Correspond z h tabs fs s t → Correspond z h tabs gs (state_of (python.with_carried v s.frame) s.around) t
carries_as z h tabs fs gs v s t f x = record {
  frames = record { room = x.frames.room; code = x.frames.code; count = x.frames.count; made = x.frames.made; rest = x.frames.rest; locals = x.frames.locals; owns = x.frames.owns; frees = x.frames.frees; facts = f x.frames.facts };
  around = x.around;
}

module _ (z : Setting) (h : Homes) (t : ℕ) (iterator : Value) (fs : Facts) where
  pub turn_unvalued : Unvalued z h 0 (DelegateTurns z h t iterator fs)
  turn_unvalued = turns_unvalued z h (BeforeTurn t iterator fs) (λ v. Keeps (t + 1) ∷ fs) fs

  pub turn_passing : Passes z h 0 (λ v. fs) fs (DelegateTurns z h t iterator fs)
  turn_passing = turns_passing z h (BeforeTurn t iterator fs) (λ v. Keeps (t + 1) ∷ fs) fs
