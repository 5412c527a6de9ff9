use Rattle.std.proofs.Common.{◌≡◌, ◌≤◌, ℕ, drop}
use Rattle.std.specs.BTreeMap.{get}
use Rattle.std.specs.Option.{option_or}
use Rattle.std.specs.Ordering.{nat_cmp}
use Rattle.c_meaning.specs.Code.{goal_in}
use Rattle.c_machine.proofs.placing.marks_of.Given as goal

abbrev pub invariant-loop-line : goal.invariant-loop-line
invariant-loop-line l = record {
  marks : (q : ℕ) → option_or (get nat_cmp l.marks q) (goal_in l.number (drop l.line-index l.lines) q) ≡ goal_in 0 l.lines q;
  small : l.number ≤ l.line-index;
}
