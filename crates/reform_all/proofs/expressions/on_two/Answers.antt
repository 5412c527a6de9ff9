use Rattle.std.proofs.Common.{[], ◌∷◌, ◌++◌, ap, ◌∙◌}
use Rattle.node_tree.specs.Blocks as tree
use Rattle.reform_expr.specs.Arguments.{arguments}
use Rattle.reform_all.proofs.ExpressionsCarried.{done}
use Rattle.reform_all.proofs.expressions.on_two.Goals as goal

pub returns : goal.returns
returns c =
    done c.args.line c.args.op (λ ps. tree.Do c.args.temps.now c.args.line c.args.op (arguments c.args.op ps)) _ _ _ _ _
    (c.in_ok-push-2.ensures.items ∙ ap (λ xs. xs ++ c.args.y ∷ []) (c.in_ok-push.ensures.items ∙ ap (λ xs. xs ++ c.args.x ∷ []) c.new-args.ensures.items))
    (record { drawn = c.in_ok-part.ensures.drawn; carries = c.in_ok-part.ensures.carries; contents = c.in_ok-part.ensures.contents })
