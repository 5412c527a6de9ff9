use Rattle.std.proofs.Common.{drop}
use Rattle.reform_homes.specs.Gaining.{Rest, lent}
use Rattle.reform_homes.proofs.captured.lend_all.Given as goal

abbrev pub invariant-loop-name : goal.invariant-loop-name
invariant-loop-name l = Rest l.initial.lists.items l.lists.items (λ a. lent a l.scope l.names) (λ a. lent a l.scope (drop l.name-index l.names))
