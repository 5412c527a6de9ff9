use Rattle.std.proofs.Common.{◌≡◌, ℕ, List, drop}
use Rattle.std.specs.Prelude.{unwrap_or}
use Rattle.py_meaning.specs.Scopes.{home_among}
use Rattle.reform_homes.specs.Names.{number_in}
use Rattle.reform_homes.proofs.locals.homes.Given as goal

abbrev pub invariant-loop-name : goal.invariant-loop-name
invariant-loop-name l = (x : List ℕ) → unwrap_or (number_in l.homes.entries x) (home_among (drop l.name-index l.names) x) ≡ home_among l.names x
