use Rattle.reform_expr.proofs.Names.{name_carried}
use Rattle.reform_expr.proofs.leaves.name.Goals as goal

pub returns-clause-carries : goal.returns-clause-carries
returns-clause-carries c = λ h low st le.
    rw (c.in_ok-block.ensures, c.in_ok-read.ensures, c.in_ok-to.ensures.ok, c.in_ok-to.ensures.number) (name_carried h low _ c.args.line c.args.home st le)
