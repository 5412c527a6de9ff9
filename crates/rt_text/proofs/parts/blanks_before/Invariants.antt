use Rattle.std.proofs.Common.{◌≡◌, ◌+◌, drop}
use Rattle.std.specs.List.{prefix_len}
use Rattle.op_rules.specs.TextParts.{is_blank}
use Rattle.rt_text.proofs.parts.blanks_before.Given as goal

abbrev pub invariant-loop-place : goal.invariant-loop-place
invariant-loop-place l = l.place + prefix_len is_blank (drop l.place l.text) ≡ prefix_len is_blank l.text
