use Rattle.std.proofs.Common.{◌≡◌, [], map, take}
use Rattle.reform_homes.proofs.lists.no_names.Given as goal

abbrev pub invariant-loop-scope : goal.invariant-loop-scope
invariant-loop-scope l = l.lists.items ≡ map (λ scope. []) (take l._scope-index l.scopes)
