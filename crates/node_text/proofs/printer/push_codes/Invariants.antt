use Rattle.std.proofs.Common.{◌≡◌, ◌++◌, drop, string_bytes}
use Rattle.c_meaning.specs.Text.{numbered}
use Rattle.node_text.specs.Text.{code_text}
use Rattle.node_text.proofs.printer.push_codes.Given as goal

-- what is written and what is left make all codes
abbrev pub invariant-loop-number : goal.invariant-loop-number
invariant-loop-number l = string_bytes l.text ++ numbered code_text l.number (drop l.number l.codes) ≡ string_bytes l.fn.text ++ numbered code_text 0 l.codes
