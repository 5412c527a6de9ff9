use Rattle.std.proofs.Common.{◌∙◌}
use Rattle.node_tree.specs.Tree.{block}
use Rattle.reform_homes.proofs.Before.{begun_made, begun_in}
use Rattle.reform_homes.proofs.place.Place.begun.Goals as goal

pub returns : goal.returns
returns c =
    rw (← c.self.view_is) (
    begun_made c.self.inside.params c.self.inside.free.now c.self.inside.own c.as_slice-own.result.now c.len.result c.len-2.result c.len-3.result c.args.line c.end-end.result
    (block c.in_ok-nodes.nodes) (block c.in_ok-nodes-2.nodes) (block c.in_ok-whole.whole) (block c.args.body)
    c.len.ensures c.len-2.ensures c.len-3.ensures c.as_slice-own.ensures c.in_ok-nodes.ensures c.in_ok-nodes-2.ensures c.in_ok-whole.ensures
    ∙ begun_in c.self.inside.layout.now c.self.inside.this c.self.inside.scope.now c.self.inside.captured.now c.self.inside.free.now c.self.inside.params c.self.inside.own c.self.inside.others c.self.inside.homes.entries c.self.inside.class c.self.inside.first
    c.args.line c.end-end.result (block c.args.body) c.self.invariant (rw (← c.self.view_is) at c.end-end.ensures))
