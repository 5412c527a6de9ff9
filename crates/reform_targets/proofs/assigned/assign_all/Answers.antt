use Rattle.std.proofs.Common.{◌≡◌, length, refl, ap, ◌∙◌, arith}
use Rattle.node_tree.specs.Tree.{block}
use Rattle.carried_codes.specs.Places as places
use Rattle.reform_targets.specs.Places.{place_of}
use Rattle.reform_targets.proofs.Turned.{none_left, first_made, next_made, last_made}
use Rattle.reform_targets.proofs.assigned.assign_all.Goals as goal

pub loop-place-init : goal.loop-place-init
loop-place-init c = record {
  same = refl;
  assigned = first_made (λ t ps. places.assign_all t c.args.value ps) _ c.args.places.items c.turned-left.result.items (block c.new-whole.result) (ap block c.new-whole.ensures) c.turned-left.ensures;
}

pub loop-place-preserved : goal.loop-place-preserved
loop-place-preserved c =
    let same = c.in_ok-shared.ensures.is ∙ c.loop-place.invariant.same in
    record {
      same = c.loop-place.invariant.same;
      assigned =
          next_made (λ t p. places.assign t c.args.value p) (λ t ps. places.assign_all t c.args.value ps) (λ t p ps. refl) c.loop-place.temps _ c.loop-place.left.items c.pop.new.self.items c.in-Some.place (block c.loop-place.whole) (block c.in_ok-one.one) (block c.in_ok-whole.whole) c.in-Some.ensures.items (c.in_ok-one.ensures.is ∙ ap (λ o. (places.assign c.loop-place.temps o (place_of c.in-Some.place)).block) same) (c.in_ok-one.ensures.next ∙ ap (λ o. (places.assign c.loop-place.temps o (place_of c.in-Some.place)).next) same) c.in_ok-whole.ensures
          ∙ c.loop-place.invariant.assigned;
    }

pub returns-clause-is : goal.returns-clause-is
returns-clause-is c =
    let none : length c.loop-place.left.items ≡ 0 = omega (arith, c.in_default.ensures.cases.0, c.loop-place.left.ok.0) in
    (last_made (λ t ps. places.assign_all t c.args.value ps) (λ t. refl) c.loop-place.temps c.loop-place.left.items (block c.loop-place.whole) _ (none_left _ none) c.loop-place.invariant.assigned).0

pub returns-clause-next : goal.returns-clause-next
returns-clause-next c =
    let none : length c.loop-place.left.items ≡ 0 = omega (arith, c.in_default.ensures.cases.0, c.loop-place.left.ok.0) in
    (last_made (λ t ps. places.assign_all t c.args.value ps) (λ t. refl) c.loop-place.temps c.loop-place.left.items (block c.loop-place.whole) _ (none_left _ none) c.loop-place.invariant.assigned).1
