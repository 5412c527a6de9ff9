use Rattle.std.proofs.Common.{◌∷◌, refl}
use Rattle.reform_expr.proofs.Blocks.{total_one}
use Rattle.reform_expr.proofs.Operands.{calls}
use Rattle.reform_expr.proofs.operations.call.Goals as goal

pub returns-clause-carries : goal.returns-clause-carries
returns-clause-carries c = λ h low f xs rs each.
    rw (c.in_ok-block.ensures, c.in_ok-first.ensures.0, c.in_ok-first.ensures.1, c.in_ok-to.ensures.ok, c.in_ok-to.ensures.number)
    (calls h low _ c.args.line f xs c.args.function c.args.args.items rs each)

pub returns-clause-contents : goal.returns-clause-contents
returns-clause-contents c = λ count.
    rw (c.in_ok-block.ensures, c.in_ok-first.ensures.0, c.in_ok-first.ensures.1, c.in_ok-to.ensures.number) (total_one count (c.args.function ∷ c.args.args.items) _ _ refl)
