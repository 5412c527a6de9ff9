use Rattle.std.proofs.Common.{◌≡◌, ◌++◌, drop, string_bytes}
use Rattle.c_meaning.specs.Text.{numbered, case_text, cases_text}
use Rattle.c_emit.proofs.statements.push_cases.Given as goal

-- what is written and what is left make all cases
abbrev pub invariant-loop-number : goal.invariant-loop-number
invariant-loop-number l = string_bytes l.text ++ numbered case_text l.number (drop l.number l.labels) ≡ string_bytes l.fn.text ++ cases_text l.labels
