-- The calls of an object in memory, of which chosen ones fail.
use Rattle.std.specs.Prelude.{ℕ, ◌+◌, ◌-◌, ◌^◌, ◌==◌, min, List, [], ◌∷◌, ◌++◌, Bool, if◌then◌else◌}
use Rattle.std.specs.List.{list_any}

-- the numbers of the calls that are to fail, counted from 1, how many calls were made and how many failed
pub record Calls : Type 0 where
  pub failing : List ℕ
  pub made : ℕ
  pub faults : ℕ

-- before the first call, with none listed
abbrev pub no_calls : Calls
no_calls = record { failing = []; made = 0; faults = 0 }

-- the same with one call more to fail
abbrev pub also_failing : Calls → ℕ → Calls
also_failing calls call = record { failing = calls.failing ++ call ∷ []; made = calls.made; faults = calls.faults }

-- one more, in a counter of 64 bits that stays at its last value
abbrev pub one_more : ℕ → ℕ
one_more count = min (count + 1) (2 ^ 64 - 1)

-- whether the next call fails: whether its number is listed
abbrev pub next_fails : Calls → Bool
next_fails calls = list_any (λ call. call == one_more calls.made) calls.failing

-- after the next call
abbrev pub after_call : Calls → Calls
after_call calls = record {
  failing = calls.failing;
  made = one_more calls.made;
  faults = (if next_fails calls then one_more calls.faults else calls.faults);
}
