use Rattle.std.proofs.Common.{◌≡◌, ◌++◌, length, false}
use Rattle.std.specs.List.{AllByRecursion, flat_map}
use Rattle.nu_text.specs.Decimals.{starts_digit}
use Rattle.node_text.specs.Text.{spaced_text}
use Rattle.node_text.specs.Written.{IsOperand}
use Rattle.node_reader.proofs.operand.operands.Given as goal

-- the operands that were read, and what is left
abbrev pub invariant-loop-behind : goal.invariant-loop-behind
invariant-loop-behind l = record {
  spelled : l.text ≡ flat_map spaced_text l.given ++ l.rest;
  each : AllByRecursion IsOperand l.given;
  ends : starts_digit l.rest ≡ false;
}

abbrev pub decreases-loop-behind : goal.decreases-loop-behind
decreases-loop-behind l = length l.rest
