use Rattle.std.proofs.Common.{◌≡◌, ◌+◌, ◌≤◌, drop}
use Rattle.nu_text.specs.Characters.{characters}
use Rattle.nu_text.proofs.lengths.characters.Given as goal

abbrev pub invariant-loop-byte : goal.invariant-loop-byte
invariant-loop-byte l = (l.count ≤ l.byte-index) × (l.count + characters (drop l.byte-index l.text) ≡ characters l.text)
