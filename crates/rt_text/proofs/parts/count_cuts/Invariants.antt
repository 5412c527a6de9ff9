use Rattle.std.proofs.Common.{◌≡◌, ◌≤◌, ◌+◌, [], length}
use Rattle.op_rules.specs.TextParts.{pieces_from}
use denote.Shadow.{shadow}
use denote.Text.{Utf8}
use Rattle.rt_text.proofs.parts.count_cuts.Given as goal

abbrev pub invariant-cuts : goal.invariant-cuts
invariant-cuts l = record {
  counted : l.count + length (pieces_from l.part 0 [] l.rest) ≡ length (pieces_from l.part 0 [] l.text);
  within : l.count + length l.rest ≤ length l.text;
  text : shadow (Utf8 l.rest);
}

abbrev pub decreases-cuts : goal.decreases-cuts
decreases-cuts l = length l.rest
