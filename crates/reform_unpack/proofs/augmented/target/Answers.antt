use Rattle.std.proofs.Common.{◌∙◌, ap, subst}
use Rattle.node_tree.specs.Tree.{block}
use Rattle.carries_base.specs.Carries.{CarriesExpression}
use Rattle.reform_unpack.proofs.Stores.{value_by, reads_by}
use Rattle.reform_unpack.proofs.augmented.target.Goals as goal

pub returns-clause-carries : goal.returns-clause-carries
returns-clause-carries c = λ h low st le.
    subst (λ x. CarriesExpression h low c.name.new.temps x (block c.in_ok-part.part.block) c.in_ok-part.part.value) (value_by c.args.place.now _ _ c.line.ensures (c.in_ok-share.ensures ∙ c.home.ensures)) (c.in_ok-part.ensures.carries h low st le)

pub returns-clause-contents : goal.returns-clause-contents
returns-clause-contents c = λ count.
    c.in_ok-part.ensures.contents count ∙ ap (λ x. count x) (reads_by c.args.temps.now c.args.place.now _ _ c.line.ensures (c.in_ok-share.ensures ∙ c.home.ensures))
