use Rattle.std.proofs.Common.{◌≡◌, drop}
use Rattle.std.specs.List.{list_any}
use Rattle.std.specs.Prelude.{nat_eq}
use Rattle.rt_text.proofs.quoting.has_byte.Given as goal

abbrev pub invariant-loop-byte : goal.invariant-loop-byte
invariant-loop-byte l = list_any (nat_eq l.wanted) (drop l.byte-index l.text) ≡ list_any (nat_eq l.wanted) l.text
