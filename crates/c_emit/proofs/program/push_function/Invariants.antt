use Rattle.std.proofs.Common.{◌≡◌, ◌++◌, take, string_bytes}
use Rattle.std.specs.List.{flat_map}
use Rattle.nu_text.specs.Pieces.{joined}
use Rattle.c_meaning.specs.Text.{header_pieces, declaration_text, line_text}
use Rattle.c_emit.proofs.program.push_function.Given as goal

abbrev pub invariant-loop-line : goal.invariant-loop-line
invariant-loop-line l = string_bytes l.text
    ≡ string_bytes l.fn.text ++ joined (header_pieces l.number l.function.header l.function.slots) ++ declaration_text l.function.registers ++ flat_map line_text (take l.line-index l.function.body)
