use Rattle.std.proofs.Common.{◌≡◌, map, length}
use Rattle.node_tree.specs.Tree.{block}
use Rattle.carried_codes.specs.Parts.{valued}
use Rattle.reform_values.specs.Values.{valued_of}
use Rattle.reform_functions.specs.Marks.{mark_of, decorated_by_all}
use Rattle.reform_functions.proofs.decorators.decorated.Given as goal

abbrev pub invariant-loop-mark : goal.invariant-loop-mark
invariant-loop-mark l = decorated_by_all (valued_of l.done) (map mark_of l.left.items) ≡ decorated_by_all (valued (block l.fn.part.block) l.fn.part.value l.fn.next) (map mark_of l.fn.marks.items)

abbrev pub decreases-loop-mark : goal.decreases-loop-mark
decreases-loop-mark l = length l.left.items
