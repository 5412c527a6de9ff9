use Rattle.std.proofs.Common.{◌≡◌, ◌++◌, take, string_bytes}
use Rattle.std.specs.List.{flat_map}
use Rattle.node_text.specs.Text.{argument_text}
use Rattle.node_text.proofs.operands.push_arguments.Given as goal

abbrev pub invariant-loop-argument : goal.invariant-loop-argument
invariant-loop-argument l = string_bytes l.text ≡ string_bytes l.fn.text ++ flat_map argument_text (take l.argument-index l.arguments)
