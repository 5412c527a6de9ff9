use Rattle.std.proofs.Common.{◌≡◌, map}
use Rattle.node_tree.specs.Blocks as tree
use Rattle.node_tree.specs.Tree.{block}
use Rattle.carries_base.specs.Carries.{joined}
use Rattle.reform_functions.specs.Marks.{decorator_of, bare, mark_of}
use Rattle.reform_functions.proofs.decorators.marked.Given as goal

abbrev pub invariant-loop-decorator : goal.invariant-loop-decorator
invariant-loop-decorator l = (block l.whole ≡ joined (map (λ d. d.part) (map decorator_of l.yielded)) tree.Stop) × (map mark_of l.marks.items ≡ map bare (map decorator_of l.yielded))
