use Rattle.std.proofs.Common.{[], ◌∷◌, sym}
use Rattle.std.proofs.lemmas.Result.{IfOk-weaker}
use Rattle.nu_calls.specs.Ends as ends
use Rattle.c_ends.specs.Outcomes.{in_world}
use Rattle.c_ends.proofs.Ended.{ends_by, returned_none, returned_some}
use Rattle.c_ends.proofs.generators.returned.Goals as goal

pub returns-then-is_none : goal.returns-then-is_none
returns-then-is_none c =
    IfOk-weaker c.raises_bare.result _ _
    (λ o h. ends_by (λ a. ends.raises a ends.stop_iteration []) (λ a. ends.returned a c.args.value) c.args.world.now c.raises_bare.new.world o
    (λ input frames. returned_none (in_world c.args.world.now input frames) c.args.value (sym c.if-is_none.ensures)) h)
    c.raises_bare.ensures

pub returns-else-is_none : goal.returns-else-is_none
returns-else-is_none c =
    IfOk-weaker c.raises_with.result _ _
    (λ o h. ends_by (λ a. ends.raises a ends.stop_iteration (c.args.value ∷ [])) (λ a. ends.returned a c.args.value) c.args.world.now c.raises_with.new.world o
    (λ input frames. returned_some (in_world c.args.world.now input frames) c.args.value (sym c.if-is_none.ensures)) h)
    c.raises_with.ensures
