use Rattle.std.proofs.Common.{◌≡◌, ◌++◌, drop, string_bytes}
use Rattle.c_meaning.specs.Text.{numbered, function_text}
use Rattle.c_emit.proofs.program.push_functions.Given as goal

-- what is written and what is left make all functions
abbrev pub invariant-loop-number : goal.invariant-loop-number
invariant-loop-number l = string_bytes l.text ++ numbered function_text l.number (drop l.number l.functions) ≡ string_bytes l.fn.text ++ numbered function_text 0 l.functions
