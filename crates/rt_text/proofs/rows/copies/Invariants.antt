use Rattle.std.proofs.Common.{◌≡◌, ◌++◌, string_bytes}
use Rattle.op_rules.specs.TextRows as spec
use Rattle.rt_text.proofs.rows.copies.Given as goal

abbrev pub invariant-loop-left : goal.invariant-loop-left
invariant-loop-left l = string_bytes l.all ++ spec.copies l.left l.text ≡ spec.copies l.count l.text

abbrev pub decreases-loop-left : goal.decreases-loop-left
decreases-loop-left l = l.left
