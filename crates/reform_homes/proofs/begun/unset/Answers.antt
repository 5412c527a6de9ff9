use Rattle.std.proofs.Common.{rules, ap, sym, ◌∙◌, ◌≡◌, ◌-◌, ◌+◌, arith}
use Rattle.node_tree.specs.Blocks.{append}
use Rattle.node_tree.specs.Tree.{block}
use Rattle.reform_homes.specs.Unset.{unset_from}
use Rattle.reform_homes.proofs.Before.{unset_step, append_stop}
use Rattle.reform_homes.proofs.begun.unset.Goals as goal

pub loop-to-preserved : goal.loop-to-preserved
loop-to-preserved c =
    ap (λ b. append b (unset_from (c.loop-to.to + 1) (c.args.end - (c.loop-to.to + 1)))) c.in_ok-nodes.ensures
    ∙ unset_step c.args.first c.args.end c.loop-to.to (block c.loop-to.nodes) (unset_from c.args.first (c.args.end - c.args.first)) (search rules) c.loop-to.invariant

pub returns : goal.returns
returns c =
    let none : c.args.end - c.loop-to.to ≡ 0 = omega arith in
    sym (append_stop (block c.loop-to.nodes)) ∙ ap (λ k. append (block c.loop-to.nodes) (unset_from c.loop-to.to k)) (sym none) ∙ c.loop-to.invariant
