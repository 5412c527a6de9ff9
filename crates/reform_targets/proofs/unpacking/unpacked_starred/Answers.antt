use Rattle.std.proofs.Common.{map, length, ap, ◌∙◌, arith}
use Rattle.node_tree.specs.Blocks.{alone}
use Rattle.node_tree.specs.Tree.{block}
use Rattle.reform_targets.specs.Takers.{taker_of}
use Rattle.reform_targets.proofs.Unpacked.{starred}
use Rattle.reform_targets.proofs.unpacking.unpacked_starred.Goals as goal

pub returns : goal.returns
returns c =
    starred c.args.line c.args.list c.len-number.result c.len.result (length c.args.before.items) (length c.args.behind.items) c.in_ok-next.next c.args.value (map taker_of c.args.before.items) (taker_of c.args.star) (map taker_of c.args.behind.items) (block c.in_ok-whole.whole) (block c.in_ok-whole-2.whole) (block c.in_ok-star.star) (block c.in_ok-whole-3.whole) (block c.in_ok-whole-4.whole) (omega (arith, c.len-number.ensures, c.args.before.ok.0)) (omega (arith, c.len.ensures, c.args.behind.ok.0)) c.in_ok-next.ensures (c.in_ok-whole.ensures ∙ ap alone c.in_ok-node.ensures) c.in_ok-whole-2.ensures c.in_ok-star.ensures c.in_ok-whole-3.ensures c.in_ok-whole-4.ensures
