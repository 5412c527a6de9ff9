use Rattle.node_reader.proofs.Scripts.{one_tree}
use Rattle.node_reader.proofs.laws.one_tree.Goals as goal

pub returns : goal.returns
returns c = one_tree
