use Rattle.std.proofs.Common.{◌≡◌, map, reverse}
use Rattle.node_tree.specs.Tree.{block}
use Rattle.carried_codes.specs.Clauses as clauses
use Rattle.reform_try.specs.Guards.{guard_of}
use Rattle.reform_try.proofs.clauses.handles.Given as goal

abbrev pub invariant-loop-guard : goal.invariant-loop-guard
invariant-loop-guard l = block l.rest ≡ clauses.handles l.exception (map guard_of (reverse l.yielded))
