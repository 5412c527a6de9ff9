use Rattle.std.proofs.Common.{◌≡◌, ◌+◌, map, length}
use Rattle.node_tree.specs.Blocks as tree
use Rattle.node_tree.specs.Tree.{block}
use Rattle.carries_base.specs.Carries.{joined}
use Rattle.carried_codes.specs.Expressions as expressions
use Rattle.reform_functions.specs.Names.{named_of}
use Rattle.reform_functions.proofs.functions.gathered_named.Given as goal

abbrev pub invariant-loop-one : goal.invariant-loop-one
invariant-loop-one l = record {
  blocks : block l.whole ≡ tree.append (block l.fn.first) (joined (map (λ k. k.part) (map named_of l.yielded)) tree.Stop);
  values : block l.puts ≡ expressions.puts l.line l.dict l.from (map named_of l.yielded);
  place : l.next ≡ l.from + length l.yielded;
}
