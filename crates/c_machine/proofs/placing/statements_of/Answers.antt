use Rattle.std.proofs.Common.{◌≡◌, ◌∙◌, ap, rules}
use Rattle.std.proofs.lemmas.Result.{IfOk-weaker}
use Rattle.std.specs.BTreeMap.{get}
use Rattle.std.specs.Ordering.{nat_cmp}
use Rattle.c_meaning.specs.Code.{goal_in, statements_of}
use Rattle.c_machine.proofs.Marks.{placed_same}
use Rattle.c_machine.proofs.placing.statements_of.Goals as goal

pub returns : goal.returns
returns c =
    let whole : c.as_slice.result.now ≡ c.args.lines = search rules in
    IfOk-weaker c.placed_all.result _ _ (λ placed e. e ∙ placed_same (get nat_cmp c.in_ok-marks.marks) c.args.lines (λ q. c.in_ok-marks.ensures q ∙ ap (λ l. goal_in 0 l q) whole) (statements_of c.args.lines)) c.placed_all.ensures
