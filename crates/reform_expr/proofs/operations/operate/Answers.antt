use Rattle.std.proofs.Common.{refl}
use Rattle.reform_expr.proofs.Blocks.{total_one}
use Rattle.reform_expr.proofs.Operands.{operates}
use Rattle.reform_expr.proofs.operations.operate.Goals as goal

pub returns-clause-carries : goal.returns-clause-carries
returns-clause-carries c = λ h low xs rs each.
    rw (c.in_ok-block.ensures, c.in_ok-first.ensures.0, c.in_ok-first.ensures.1, c.in_ok-to.ensures.ok, c.in_ok-to.ensures.number)
    (operates h low _ c.args.line c.args.op xs c.args.args.items rs each)

pub returns-clause-contents : goal.returns-clause-contents
returns-clause-contents c = λ count.
    rw (c.in_ok-block.ensures, c.in_ok-first.ensures.0, c.in_ok-first.ensures.1, c.in_ok-to.ensures.number) (total_one count c.args.args.items _ _ refl)
