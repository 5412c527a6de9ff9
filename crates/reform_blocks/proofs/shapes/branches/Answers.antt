use Rattle.node_tree.proofs.Forms.{form_if}
use Rattle.reform_blocks.proofs.shapes.branches.Goals as goal

pub returns : goal.returns
returns c = form_if c.args.test c.args.yes c.args.no
