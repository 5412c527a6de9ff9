use Rattle.node_tree.proofs.Forms.{form_catch}
use Rattle.reform_blocks.proofs.shapes.catches.Goals as goal

pub returns : goal.returns
returns c = form_catch c.args.to c.args.body c.args.handler
