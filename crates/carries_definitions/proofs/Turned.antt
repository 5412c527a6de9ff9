-- The turns of loops that have no `else`, and what passes them.
use Rattle.std.proofs.Common.{ℕ, zero, suc, ◌<◌, arith}
use Rattle.nu_value.specs.declared.value.Value.{Value}
use Rattle.nu_rows.specs.Rows.{End, Next, Leave, Raised, Return, Stopped, Undefined}
use Rattle.carries_base.specs.Frames.{Homes, Facts}
use Rattle.carries_base.specs.Carries.{Setting, S, T, Tables, Correspond, EndsAs}
use Rattle.carries_base.specs.Turns.{TurnedEnds}
use Rattle.carries_base.proofs.Carry.{AllEnds}
use Rattle.carries_base.proofs.Sequence.{Passes, Unvalued}
use Rattle.node_redirect.specs.Shown.{Exits}
use Rattle.carries_control.proofs.Attempts.{Attempted}

-- an end that is neither a value nor an exception passes behind an attempt
pub exit_pass : (z : Setting) (h : Homes) (k : Value → Facts) (fs : Facts) (x flag : ℕ) (Q : AllEnds) → Passes z h 0 (λ v. fs) fs Q → (tabs : Tables) (e : End) (s : S) (e' : End) (u : T) → Exits e → Attempted z h 0 k fs x flag tabs e s e' u → Q tabs e s e' u
exit_pass z h k fs x flag Q pass tabs (Next v) s e' u over y = absurd over
exit_pass z h k fs x flag Q pass tabs (Raised v) s e' u over y = absurd over
exit_pass z h k fs x flag Q pass tabs (Leave i) s (Leave j) u over y = let l : i < 0 = y.1 in absurd (omega arith)
exit_pass z h k fs x flag Q pass tabs (Return v) s (Return w) u over y = pass tabs (Return v) s (Return w) u tt y
exit_pass z h k fs x flag Q pass tabs (Stopped v) s (Stopped w) u over y = pass tabs (Stopped v) s (Stopped w) u tt y
exit_pass z h k fs x flag Q pass tabs Undefined s Undefined u over y = pass tabs Undefined s Undefined u tt tt
exit_pass z h k fs x flag Q pass tabs e s e' u over y = absurd y

-- turns, before which `ins` is known, of a loop that can be left by its own end alone
module _ (z : Setting) (h : Homes) (ins : Facts) (k : Value → Facts) (fs : Facts) where
  abbrev pub Turns : AllEnds
  Turns tabs = TurnedEnds (Correspond z h tabs ins) (EndsAs z h 0 k fs tabs)

  pub turns_unvalued : Unvalued z h 0 Turns
  turns_unvalued tabs (Next u) s v w t x = x
  turns_unvalued tabs (Leave zero) s v w t x = x
  turns_unvalued tabs (Leave (suc u)) s v w t x = x
  turns_unvalued tabs (Raised u) s v w t x = x
  turns_unvalued tabs (Return u) s v w t x = x
  turns_unvalued tabs (Stopped u) s v w t x = x
  turns_unvalued tabs Undefined s v w t x = x

  pub turns_passing : Passes z h 0 (λ v. fs) fs Turns
  turns_passing tabs (Next v) s (Next w) u over x = absurd over
  turns_passing tabs (Leave i) s (Leave j) u over x = let l : i < 0 = x.1 in absurd (omega arith)
  turns_passing tabs (Raised v) s (Raised w) u over x = x
  turns_passing tabs (Return v) s (Return w) u over x = x
  turns_passing tabs (Stopped v) s (Stopped w) u over x = x
  turns_passing tabs Undefined s Undefined u over x = tt
  turns_passing tabs e s e' u over x = absurd x
