use Rattle.node_tree.proofs.Forms.{form_loop}
use Rattle.reform_blocks.proofs.shapes.loops.Goals as goal

pub returns : goal.returns
returns c = form_loop c.args.body
