use Rattle.reform_loops.proofs.Blocks.{branch_is}
use Rattle.reform_loops.proofs.branches.branch_on.Goals as goal

pub returns : goal.returns
returns c = λ o is. branch_is c.args.line c.args.truth c.args.first c.args.yes c.args.no _ _ c.args.args o is c.in_ok-asked.ensures c.in_ok-whole.ensures
