use Rattle.std.proofs.Common.{◌≡◌, drop}
use Rattle.c_meaning.specs.Step.{values}
use Rattle.c_machine.specs.Values.{after_values}
use Rattle.c_machine.proofs.operation.values.Given as goal

abbrev pub invariant-loop-argument : goal.invariant-loop-argument
invariant-loop-argument l = values l.registers l.arguments ≡ after_values l.buffer (values l.registers (drop l.argument-index l.arguments))
