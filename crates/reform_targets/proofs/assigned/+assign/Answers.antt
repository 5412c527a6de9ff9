use Rattle.std.proofs.Common.{◌+◌, map, length, ap, ◌∙◌}
use Rattle.code_forms.specs.declared.operand.Operand.TheVariants as operand
use Rattle.node_tree.specs.Tree.{block}
use Rattle.carried_codes.specs.Places as places
use Rattle.reform_blocks.proofs.Turns.{no_deeper}
use Rattle.reform_targets.specs.declared.place.Place.{size-Place}
use Rattle.reform_targets.specs.Places.{place_of, places_of}
use Rattle.reform_targets.specs.Takers.{taker_of, taking}
use Rattle.reform_targets.proofs.Rows.{place_each, place_starred}
use Rattle.reform_targets.proofs.Turned.{turned_depth, first_taken, next_taken}
use Rattle.reform_targets.proofs.Unpacked.{each_block_is, each_next_is, starred_block_is, starred_next_is}
use Rattle.reform_targets.proofs.assigned.+assign.Goals as goal

pub takes-loop-place-init : goal.takes-loop-place-init
takes-loop-place-init t c = record {
  no_deeper = turned_depth size-Place c.args.places.items c.turned-left.result.items c.turned-left.ensures;
  taken = first_taken _ c.args.places.items c.turned-left.result.items c.new-done.result.items c.new-done.ensures.items c.turned-left.ensures;
}

pub takes-loop-place-preserved : goal.takes-loop-place-preserved
takes-loop-place-preserved t c = record {
  no_deeper = no_deeper size-Place _ c.loop-place.left.items c.pop.new.self.items c.in-Some.place c.in-Some.ensures.items c.loop-place.invariant.no_deeper;
  taken =
      next_taken _ _ c.loop-place.left.items c.pop.new.self.items c.loop-place.done.items c.push.new.self.items c.in-Some.place c.in_ok-taker.taker c.in-Some.ensures.items c.in_ok-push.ensures.items c.in_ok-taker.ensures.is c.in_ok-taker.ensures.next
      ∙ c.loop-place.invariant.taken;
}

pub assign-returns-in_ok-whole-in-Each-clause-is : goal.assign-returns-in_ok-whole-in-Each-clause-is
assign-returns-in_ok-whole-in-Each-clause-is t c =
    let ps = places_of c.in-Each.places.items in
    let ks = c.in_ok-takers-in-Each.takers.items in
    each_block_is c.args.temps.now c.args.value (place_of c.args.place) c.in-Each.line ps ks (block c.in_ok-whole-in-Each.whole)
    (ap place_of c.in-Each.is ∙ place_each c.in-Each.line c.in-Each.places)
    (c.in_ok-takers-in-Each.ensures.is ∙ ap (λ u. (places.takes u ps).parts) c.in_ok-list-in-Each.ensures.ok)
    (c.in_ok-whole-in-Each.ensures ∙ ap (λ l. places.assign_each c.in-Each.line (length ks) (map taker_of ks) c.args.value l) c.in_ok-list-in-Each.ensures.number)

pub assign-returns-in_ok-whole-in-Each-clause-next : goal.assign-returns-in_ok-whole-in-Each-clause-next
assign-returns-in_ok-whole-in-Each-clause-next t c =
    let ps = places_of c.in-Each.places.items in
    each_next_is c.args.temps.now c.args.value (place_of c.args.place) c.in-Each.line ps c.takes.new.temps
    (ap place_of c.in-Each.is ∙ place_each c.in-Each.line c.in-Each.places)
    (c.in_ok-takers-in-Each.ensures.next ∙ ap (λ u. (places.takes u ps).next) c.in_ok-list-in-Each.ensures.ok)

pub assign-returns-in_ok-whole-in-Starred-clause-is : goal.assign-returns-in_ok-whole-in-Starred-clause-is
assign-returns-in_ok-whole-in-Starred-clause-is t c =
    let ps = places_of c.in-Starred.before.items in
    let qs = places_of c.in-Starred.behind.items in
    let ks = c.in_ok-before-in-Starred.before.items in
    let js = c.in_ok-behind-in-Starred.behind.items in
    let v = c.takes-in-Starred.new.temps in
    starred_block_is c.args.temps.now v c.taken.new.temps c.args.value (place_of c.args.place) c.in-Starred.line ps (place_of c.in-Starred.star.value) qs ks c.in_ok-middle-in-Starred.middle js (block c.in_ok-whole-in-Starred.whole)
    (ap place_of c.in-Starred.is ∙ place_starred c.in-Starred.line c.in-Starred.before c.in-Starred.star c.in-Starred.behind)
    (c.in_ok-before-in-Starred.ensures.is ∙ ap (λ u. (places.takes u ps).parts) c.in_ok-list-in-Starred.ensures.ok)
    (c.in_ok-before-in-Starred.ensures.next ∙ ap (λ u. (places.takes u ps).next) c.in_ok-list-in-Starred.ensures.ok)
    (c.in_ok-middle-in-Starred.ensures.is ∙ ap (λ q. taking v (place_of q)) c.into_inner.ensures)
    (c.in_ok-middle-in-Starred.ensures.next ∙ ap (λ q. (places.assign (v + 1) (operand.Temp v) (place_of q)).next) c.into_inner.ensures)
    c.in_ok-behind-in-Starred.ensures.is
    (c.in_ok-whole-in-Starred.ensures ∙ ap (λ l. places.assign_starred c.in-Starred.line (length ks) (length js) (map taker_of ks) (taker_of c.in_ok-middle-in-Starred.middle) (map taker_of js) c.args.value l) c.in_ok-list-in-Starred.ensures.number)

pub assign-returns-in_ok-whole-in-Starred-clause-next : goal.assign-returns-in_ok-whole-in-Starred-clause-next
assign-returns-in_ok-whole-in-Starred-clause-next t c =
    let ps = places_of c.in-Starred.before.items in
    let v = c.takes-in-Starred.new.temps in
    starred_next_is c.args.temps.now v c.taken.new.temps c.takes-in-Starred-2.new.temps c.args.value (place_of c.args.place) c.in-Starred.line ps (place_of c.in-Starred.star.value) (places_of c.in-Starred.behind.items)
    (ap place_of c.in-Starred.is ∙ place_starred c.in-Starred.line c.in-Starred.before c.in-Starred.star c.in-Starred.behind)
    (c.in_ok-before-in-Starred.ensures.next ∙ ap (λ u. (places.takes u ps).next) c.in_ok-list-in-Starred.ensures.ok)
    (c.in_ok-middle-in-Starred.ensures.next ∙ ap (λ q. (places.assign (v + 1) (operand.Temp v) (place_of q)).next) c.into_inner.ensures)
    c.in_ok-behind-in-Starred.ensures.next
