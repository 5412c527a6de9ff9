use Rattle.std.proofs.Common.{◌≡◌, map, take}
use Rattle.reform_homes.proofs.here.names_of.Given as goal

abbrev pub invariant-loop-param : goal.invariant-loop-param
invariant-loop-param l = l.names ≡ map (λ p. p.1) (take l.param-index l.params)
