use Rattle.std.proofs.Common.{◌≡◌, ◌++◌, drop, string_bytes}
use Rattle.nu_calls.specs.Traceback.{entries_text}
use Rattle.c_machine.proofs.traceback.push_entries.Given as goal

abbrev pub invariant-loop-place : goal.invariant-loop-place
invariant-loop-place l = string_bytes l.text ++ entries_text l.file (drop l.place l.entries) ≡ string_bytes l.fn.text ++ entries_text l.file l.entries
