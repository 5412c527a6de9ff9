use Rattle.std.proofs.Common.{◌≡◌, length}
use Rattle.std.specs.List.{flat_map}
use Rattle.nu_text.specs.Strings.{string_byte}
use Rattle.nu_text.specs.Pieces.{before}
use Rattle.std.specs.Prelude.{codes, ◌∷◌, []}
use Rattle.c_reader.specs.Pieces.{AreBytes}
use Rattle.c_reader.proofs.spelling.quoted.Given as goal

-- the quotation mark, the bytes that were read, and what is left
abbrev pub invariant-loop-byte : goal.invariant-loop-byte
invariant-loop-byte l = record {
  spelled : l.text ≡ before (codes "\"" ∷ flat_map string_byte l.bytes.items ∷ []) l.rest;
  fit : AreBytes l.bytes.items;
}

abbrev pub decreases-loop-byte : goal.decreases-loop-byte
decreases-loop-byte l = length l.rest
