use Rattle.std.proofs.Common.{◌≡◌, ◌-◌, ◌++◌, string_bytes}
use Rattle.std.specs.List.{flat_map, range_with_len}
use Rattle.sample_script.specs.Sample.{generator_text}
use Rattle.sample_script.proofs.push_generators.Given as goal

-- what is written and what is left make all generators
abbrev pub invariant-loop-number : goal.invariant-loop-number
invariant-loop-number l =
    string_bytes l.script ++ flat_map generator_text (range_with_len l.number (l.n - l.number))
    ≡ string_bytes l.fn.script ++ flat_map generator_text (range_with_len 0 l.n)
