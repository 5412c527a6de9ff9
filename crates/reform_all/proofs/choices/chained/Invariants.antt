use Rattle.std.proofs.Common.{◌≤◌, length}
use Rattle.reform_all.specs.Quiet.{Quiet, AllQuiet}
use Rattle.reform_all.proofs.Chains.{Chains}
use Rattle.reform_all.proofs.choices.chained.Given as goal

abbrev pub invariant-loop-choice : goal.invariant-loop-choice
invariant-loop-choice l = record {
  drawn : l.fn.temps ≤ l.temps;
  chains : Chains l.fn.choices l.fn.temps l.temps l.fn.other l.left l.block;
  quiet : AllQuiet l.fn.choices → Quiet l.fn.other → AllQuiet l.left × Quiet l.block;
}

abbrev pub decreases-loop-choice : goal.decreases-loop-choice
decreases-loop-choice l = length l.left
