use Rattle.std.proofs.Common.{◌≡◌, map, length, reverse}
use Rattle.carried_codes.specs.Clauses as clauses
use Rattle.reform_try.specs.Guards.{clause_of, guard_of, guards_onto}
use Rattle.reform_try.proofs.clauses.guards.Given as goal

-- those that are left, in front of those that are done, are all of them
abbrev pub invariant-loop-clause : goal.invariant-loop-clause
invariant-loop-clause l = guards_onto l.temps (map guard_of (reverse l.done.items)) (map clause_of l.left.items) ≡ clauses.guards l.fn.temps (map clause_of l.fn.clauses.items)

abbrev pub decreases-loop-clause : goal.decreases-loop-clause
decreases-loop-clause l = length l.left.items
