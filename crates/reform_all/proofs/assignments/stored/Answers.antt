use Rattle.std.proofs.Common.{◌+◌, ◌≤◌, ◌∷◌, drop, subst, sym, arith}
use Rattle.std.proofs.lemmas.List.{drop_all}
use Rattle.carries_base.specs.Carries.{CarriesTarget}
use Rattle.node_tree.specs.Tree.{block}
use Rattle.reform_unpack.specs.Places.{target_of}
use Rattle.reform_all.proofs.Quiets.{stores_quiet}
use Rattle.reform_all.proofs.Lefts.{drop_item}
use Rattle.reform_all.proofs.Assigns.{Stores, stores_next, stores_end}
use Rattle.reform_all.proofs.assignments.stored.Goals as goal

pub loop-target-preserved : goal.loop-target-preserved
loop-target-preserved c =
    let ts = c.args.targets.now in
    let i = c.loop-target.target-index in
    let o = c.args.value.now in
    let before : Stores ts (c.target-item.result ∷ drop (i + 1) ts) o c.args.temps.now c.loop-target.temps c.loop-target.block =
    subst (λ l. Stores ts l o c.args.temps.now c.loop-target.temps c.loop-target.block) (drop_item ts i c.target-item.result c.loop-target-test.true c.target-item.is) c.loop-target.invariant in
    let drawn : c.loop-target.temps ≤ c.assign.new.temps = omega (arith, c.in_ok-next.ensures.drawn) in
    subst (λ l. Stores ts (drop (i + 1) ts) o c.args.temps.now c.assign.new.temps l) (sym c.in_ok-block.ensures)
    (stores_next ts c.target-item.result (drop (i + 1) ts) o c.in_ok-place.place c.args.temps.now c.loop-target.temps c.assign.new.temps c.loop-target.block c.in_ok-next.next before c.in_ok-place.ensures drawn
    (λ h low st le. subst (λ v. CarriesTarget h low c.assign.new.temps v (target_of c.in_ok-place.place) (block c.in_ok-next.next)) c.in_ok-share.ensures.is (c.in_ok-next.ensures.carries h low st le))
    (stores_quiet _ _ c.in_ok-place.place c.in_ok-next.next c.in_ok-next.ensures.contents))

pub returns : goal.returns
returns c =
    let ts = c.args.targets.now in
    stores_end ts c.args.value.now c.args.temps.now c.loop-target.temps c.loop-target.block
    (subst (λ l. Stores ts l c.args.value.now c.args.temps.now c.loop-target.temps c.loop-target.block) (drop_all c.loop-target.target-index ts c.loop-target-test.false) c.loop-target.invariant)
