use Rattle.std.proofs.Common.{[], ◌∷◌, ap}
use Rattle.std.proofs.lemmas.Result.{IfOk-weaker}
use Rattle.nu_value.specs.declared.value.Value.TheVariants as value
use Rattle.c_ends.proofs.Ended.{raises_same}
use Rattle.c_ends.proofs.raises.raises_text.Goals as goal

pub returns : goal.returns
returns c =
    IfOk-weaker c.raises_with.result _ _
    (λ o h. raises_same c.args.class (value.Str c.in_ok-text.text ∷ []) (value.Str c.args.text.now ∷ []) c.args.world.now c.raises_with.new.world o (ap (λ t. value.Str t ∷ []) c.in_ok-text.ensures) h)
    c.raises_with.ensures
