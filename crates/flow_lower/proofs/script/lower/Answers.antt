use Rattle.std.proofs.Common.{◌≡◌, ◌+◌, suc, List, ◌∷◌, drop, refl, subst, sym, ap, ◌∙◌, arith}
use Rattle.std.proofs.Math.Seq.{drop-cons}
use Rattle.std.specs.List.{AllByRecursion}
use Rattle.node_tree.specs.declared.script.NodeCode.{NodeCode}
use Rattle.flow_code.specs.WellFormed.{HasRoom}
use Rattle.flow_lower.specs.Correct.{LowersEach}
use Rattle.flow_lower.proofs.Emitted.{each_more, each_end}
use Rattle.flow_lower.proofs.Kept.{keeps_each}
use Rattle.flow_lower.proofs.Scripts.{lowers_same}
use Rattle.flow_lower.proofs.WellFormed.{all_well_formed, all_there, all_more}
use Rattle.flow_lower.proofs.script.lower.Goals as goal

pub loop-code-preserved : goal.loop-code-preserved
loop-code-preserved c =
    let items : List NodeCode = c.as_slice-code-items.result.now in
    let i = c.loop-code.code-index in
    let s : i + 1 ≡ suc i = omega arith in
    let e : drop i items ≡ c.code-item.result ∷ drop (i + 1) items =
    drop-cons items i c.code-item.result c.loop-code-test.true ∙ ap (λ x. x ∷ drop (suc i) items) (sym c.code-item.is) ∙ ap (λ n. c.code-item.result ∷ drop n items) (sym s) in
    record {
      each = each_more items (drop (i + 1) items) c.loop-code.functions.items c.push.new.self.items c.code-item.result c.in_ok-lower_code.field-0 c.in_ok-lower_code.ensures.lowers
          (λ rest h. c.loop-code.invariant.each rest (subst (λ l. LowersEach l rest) (sym e) h)) c.in_ok-push.ensures.items;
      room = subst (AllByRecursion HasRoom) (sym c.in_ok-push.ensures.items) (all_more HasRoom c.loop-code.functions.items c.in_ok-lower_code.field-0 c.loop-code.invariant.room c.in_ok-lower_code.ensures.room);
    }

pub returns-clause-lowers : goal.returns-clause-lowers
returns-clause-lowers c = record {
  name = c.in_ok-share.ensures;
  scripts = refl;
  functions = each_end c.as_slice-code-items.result.now c.args.script.now.codes c.loop-code.functions.items c.from_vec.result c.loop-code.code-index c.loop-code.invariant.each c.loop-code-test.false c.as_slice-code-items.ensures c.from_vec.ensures;
}

pub returns-clause-same : goal.returns-clause-same
returns-clause-same c = lowers_same c.args.script.now _ (returns-clause-lowers c)

pub returns-clause-well_formed : goal.returns-clause-well_formed
returns-clause-well_formed c = all_well_formed c.args.script.now.codes _ (returns-clause-lowers c).functions

pub returns-clause-there : goal.returns-clause-there
returns-clause-there c = all_there c.args.script.now.codes _ (returns-clause-lowers c).functions

pub returns-clause-keeps : goal.returns-clause-keeps
returns-clause-keeps c = keeps_each c.args.script.now.codes _ (returns-clause-lowers c).functions

pub returns-clause-room : goal.returns-clause-room
returns-clause-room c = subst (AllByRecursion HasRoom) (sym c.from_vec.ensures) c.loop-code.invariant.room
