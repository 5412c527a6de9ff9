use Rattle.std.proofs.Common.{[], ◌∷◌}
use Rattle.std.proofs.lemmas.Result.{IfOk-weaker}
use Rattle.c_ends.proofs.Ended.{raises_same}
use Rattle.c_ends.proofs.raises.raises_with.Goals as goal

pub returns : goal.returns
returns c =
    IfOk-weaker c.raises.result _ _
    (λ o h. raises_same c.args.class c.in_ok-args.args (c.args.value ∷ []) c.args.world.now c.raises.new.world o c.in_ok-args.ensures h) c.raises.ensures
