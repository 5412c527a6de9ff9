use Rattle.std.proofs.Common.{◌≡◌, ◌≤◌, length, take}
use Rattle.op_rules.specs.TextParts.{without_end}
use Rattle.rt_text.proofs.parts.blanks_from.Given as goal

abbrev pub invariant-loop-end : goal.invariant-loop-end
invariant-loop-end l = record {
  same : without_end (take l.end l.text) ≡ without_end l.text;
  within : l.end ≤ length l.text;
}

abbrev pub decreases-loop-end : goal.decreases-loop-end
decreases-loop-end l = l.end
