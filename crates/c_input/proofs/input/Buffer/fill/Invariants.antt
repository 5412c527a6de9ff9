use Rattle.std.proofs.Common.{◌≡◌, ◌+◌, ◌-◌, ◌++◌, Bool, true, false, length, ℕ}
use Rattle.c_input.specs.Lines.{Took}
use Rattle.c_input.proofs.input.Buffer.fill.Given as goal

-- what was taken so far
abbrev pub invariant-loop-self : goal.invariant-loop-self
invariant-loop-self g l = record {
  filled : (took : Took l.fn.input l.input (g.I.Source.left l.fn.input) (g.I.Source.left l.input) l.fn.self l.self) × (l.self.left ≡ l.fn.self.left ++ took.taken);
  faults : g.I.Source.faults l.input ≡ g.I.Source.faults l.fn.input;
}

abbrev one_unless : Bool → ℕ
one_unless true = 0
one_unless false = 1

abbrev pub decreases-loop-self : goal.decreases-loop-self
decreases-loop-self g l = 1048576 - length l.self.left + one_unless l.self.ended
