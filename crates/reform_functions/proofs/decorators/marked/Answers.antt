use Rattle.std.proofs.Common.{refl}
use Rattle.node_tree.specs.Tree.{block}
use Rattle.reform_functions.proofs.Dressed.{next_blocks, next_marks}
use Rattle.reform_functions.proofs.decorators.marked.Goals as goal

pub loop-decorator-preserved : goal.loop-decorator-preserved
loop-decorator-preserved c = (
  next_blocks c.loop-decorator.yielded c.in-Some.decorator (block c.loop-decorator.whole) (block c.in_ok-whole.whole) c.loop-decorator.invariant.0 c.in_ok-whole.ensures,
  next_marks c.loop-decorator.yielded c.in-Some.decorator c.loop-decorator.marks.items c.push.new.self.items _ c.loop-decorator.invariant.1 refl c.in_ok-push.ensures.items,
)
