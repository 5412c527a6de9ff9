use Rattle.std.proofs.Common.{[], ◌∷◌, ◌++◌, ap, ◌∙◌, subst, map}
use Rattle.op_forms.specs.declared.op.Op.TheVariants as op
use Rattle.node_tree.specs.Blocks as tree
use Rattle.reform_all.specs.Expressions.{Does}
use Rattle.reform_all.proofs.ExpressionsCarried.{call_does}
use Rattle.reform_all.proofs.expressions.called.Goals as goal

pub returns : goal.returns
returns c =
    subst (λ ps. Does c.args.line op.Call (tree.Call c.args.temps.now c.args.line c.args.function.value (map (λ a. a.value) ps)) c.args.temps.now c.call.new.temps (c.args.function ∷ ps) c.in_ok-part.part)
    (c.in_ok-push.ensures.items ∙ ap (λ xs. xs ++ c.args.x ∷ []) c.new-args.ensures.items)
    (call_does c.args.line _ _ c.args.function _ _ c.in_ok-part.ensures.drawn c.in_ok-part.ensures.carries c.in_ok-part.ensures.contents)
