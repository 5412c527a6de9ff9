use Rattle.std.proofs.Common.{◌≡◌, ◌++◌, take, string_bytes}
use Rattle.std.specs.Prelude.{codes}
use Rattle.std.specs.List.{flat_map}
use Rattle.nu_text.specs.Strings.{string_byte}
use Rattle.c_emit.proofs.pieces.push_string.Given as goal

abbrev pub invariant-loop-byte : goal.invariant-loop-byte
invariant-loop-byte l = string_bytes l.text ≡ string_bytes l.fn.text ++ codes "\"" ++ flat_map string_byte (take l.byte-index l.bytes)
