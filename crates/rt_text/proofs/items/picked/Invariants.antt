use Rattle.std.proofs.Common.{◌≡◌, ◌++◌, string_bytes}
use Rattle.std.specs.Prelude.{encode_utf8_all}
use Rattle.op_rules.specs.TextAccess.{picked}
use Rattle.rt_text.proofs.items.picked.Given as goal

abbrev pub invariant-loop-left : goal.invariant-loop-left
invariant-loop-left l =
    string_bytes l.all ++ encode_utf8_all (picked l.characters l.place l.step l.left) ≡ encode_utf8_all (picked l.characters l.first l.step l.count)

abbrev pub decreases-loop-left : goal.decreases-loop-left
decreases-loop-left l = l.left
