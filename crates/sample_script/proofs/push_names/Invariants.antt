use Rattle.std.proofs.Common.{◌≡◌, ◌-◌, ◌++◌, string_bytes}
use Rattle.std.specs.Prelude.{codes}
use Rattle.std.specs.List.{flat_map, range_with_len}
use Rattle.sample_script.proofs.Writing.{next_name}
use Rattle.sample_script.proofs.push_names.Given as goal

-- what is written and what is left make all names
abbrev pub invariant-loop-number : goal.invariant-loop-number
invariant-loop-number l =
    string_bytes l.script ++ flat_map next_name (range_with_len l.number-counter (l.n - l.number-counter))
    ≡ string_bytes l.fn.script ++ (codes "g0" ++ flat_map next_name (range_with_len 1 (l.n - 1)))
