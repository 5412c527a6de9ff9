use Rattle.std.proofs.Common.{◌≡◌, ◌-◌, ◌++◌, string_bytes}
use Rattle.std.specs.Prelude.{codes}
use Rattle.c_meaning.specs.Text.{more_registers}
use Rattle.c_emit.proofs.program.push_declaration.Given as goal

-- what is written and what is left make the declaration
abbrev pub invariant-loop-register : goal.invariant-loop-register
invariant-loop-register l =
    string_bytes l.text ++ more_registers (l.registers - l.register-counter) l.register-counter
    ≡ string_bytes l.fn.text ++ codes "  nu r0" ++ more_registers (l.registers - 1) 1
