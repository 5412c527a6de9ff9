use Rattle.carries_base.proofs.Small.{constant_carried}
use Rattle.reform_expr.proofs.leaves.constant.Goals as goal

pub returns-clause-carries : goal.returns-clause-carries
returns-clause-carries c = λ h low le. rw c.new.ensures (constant_carried h low c.args.value le)
