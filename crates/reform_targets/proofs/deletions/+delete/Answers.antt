use Rattle.std.proofs.Common.{length, ◌≡◌, refl, sym, ap, ◌∙◌, arith}
use Rattle.node_tree.specs.Tree.{block}
use Rattle.carried_codes.specs.Places as places
use Rattle.reform_blocks.proofs.Turns.{no_deeper}
use Rattle.reform_targets.specs.declared.place.Place.{size-Place}
use Rattle.reform_targets.specs.Places.{place_of, places_of}
use Rattle.reform_targets.proofs.Rows.{place_each}
use Rattle.reform_targets.proofs.Turned.{turned_depth, none_left, first_made, next_made, last_made}
use Rattle.reform_targets.proofs.deletions.+delete.Goals as goal

pub delete_all-loop-place-init : goal.delete_all-loop-place-init
delete_all-loop-place-init t c = record {
  no_deeper = turned_depth size-Place c.args.places.items c.turned-left.result.items c.turned-left.ensures;
  deleted = first_made places.delete_all _ c.args.places.items c.turned-left.result.items (block c.new-whole.result) (ap block c.new-whole.ensures) c.turned-left.ensures;
}

pub delete_all-loop-place-preserved : goal.delete_all-loop-place-preserved
delete_all-loop-place-preserved t c = record {
  no_deeper = no_deeper size-Place _ c.loop-place.left.items c.pop.new.self.items c.in-Some.place c.in-Some.ensures.items c.loop-place.invariant.no_deeper;
  deleted =
      next_made places.delete places.delete_all (λ t p ps. refl) _ _ c.loop-place.left.items c.pop.new.self.items c.in-Some.place (block c.loop-place.whole) (block c.in_ok-one.one) (block c.in_ok-whole.whole) c.in-Some.ensures.items c.in_ok-one.ensures.is c.in_ok-one.ensures.next c.in_ok-whole.ensures
      ∙ c.loop-place.invariant.deleted;
}

pub delete_all-returns-clause-is : goal.delete_all-returns-clause-is
delete_all-returns-clause-is t c =
    let none : length c.loop-place.left.items ≡ 0 = omega (arith, c.in_default.ensures.cases.0, c.loop-place.left.ok.0) in
    (last_made places.delete_all (λ t. refl) c.loop-place.temps c.loop-place.left.items (block c.loop-place.whole) _ (none_left _ none) c.loop-place.invariant.deleted).0

pub delete-returns-in-Each-clause-is : goal.delete-returns-in-Each-clause-is
delete-returns-in-Each-clause-is t c =
    c.in_ok-whole-in-Each.ensures.is ∙ sym (ap (λ q. (places.delete c.args.temps.now q).block) (ap place_of c.in-Each.is ∙ place_each c.in-Each.line c.in-Each.places))

pub delete-returns-in-Each-clause-next : goal.delete-returns-in-Each-clause-next
delete-returns-in-Each-clause-next t c =
    c.in_ok-whole-in-Each.ensures.next ∙ sym (ap (λ q. (places.delete c.args.temps.now q).next) (ap place_of c.in-Each.is ∙ place_each c.in-Each.line c.in-Each.places))
