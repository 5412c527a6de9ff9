use Rattle.std.proofs.Common.{ℕ, List, drop}
use Rattle.reform_all.specs.Names.{Holds}
use Rattle.reform_all.proofs.Becomes.{Goes, Choosing}
use Rattle.reform_all.proofs.statements.+walk.Given as goal

abbrev pub invariant-statements-loop-s : goal.invariant-statements-loop-s
invariant-statements-loop-s l = (names : List (List ℕ)) → Holds l.bound names → Goes names l.ss (drop l.s-index l.ss) l.fn.temps l.temps l.block

abbrev pub invariant-choices-loop-branch : goal.invariant-choices-loop-branch
invariant-choices-loop-branch l = (names : List (List ℕ)) → Holds l.bound names → Choosing names l.branches (drop l.branch-index l.branches) l.fn.temps l.temps l.choices

abbrev pub invariant-choices-loop-s : goal.invariant-choices-loop-s
invariant-choices-loop-s l = (names : List (List ℕ)) → Holds l.bound names → Goes names l.s-items (drop l.s-index l.s-items) l.initial.temps l.temps l.body
