use Rattle.std.proofs.Common.{◌≡◌, max, drop}
use Rattle.flow_code.specs.Registers.{arguments_read, above}
use Rattle.flow_lower.proofs.registers.arguments_count.Given as goal

abbrev pub invariant-loop-argument : goal.invariant-loop-argument
invariant-loop-argument l = max l.count (above (arguments_read (drop l.argument-index l.arguments))) ≡ above (arguments_read l.arguments)
