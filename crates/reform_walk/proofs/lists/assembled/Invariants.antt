use Rattle.std.proofs.Common.{◌≡◌, ◌++◌, map, List, [], None}
use Rattle.walk_laws.specs.Expressions as spec
use Rattle.reform_walk.specs.Made.{aim_of}
use Rattle.reform_walk.proofs.Assembled.{from}
use Rattle.reform_walk.proofs.lists.assembled.Given as goal

abbrev pub invariant-loop-aim : goal.invariant-loop-aim
invariant-loop-aim l = record {
  all : (xs : List spec.Aim) → spec.assembled l.fn.line (map aim_of l.yielded ++ xs) ≡ from l.fn.line l.before.items l.star l.behind.items xs;
  none : l.star ≡ None → l.behind.items ≡ [];
}
