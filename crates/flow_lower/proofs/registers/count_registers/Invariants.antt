use Rattle.std.proofs.Common.{◌≡◌, max, drop}
use Rattle.flow_code.specs.Registers.{registers, above}
use Rattle.flow_lower.proofs.registers.count_registers.Given as goal

abbrev pub invariant-loop-line : goal.invariant-loop-line
invariant-loop-line l = max l.count (above (registers (drop l.line-index l.lines))) ≡ above (registers l.lines)
