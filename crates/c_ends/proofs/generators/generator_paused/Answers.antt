use Rattle.std.proofs.Common.{ap, sym}
use Rattle.std.specs.Prelude.{codes}
use Rattle.std.proofs.lemmas.Result.{IfOk-weaker}
use Rattle.nu_value.specs.declared.object.GenState.TheVariants as gen
use Rattle.nu_calls.specs.Ends as ends
use Rattle.c_ends.specs.Outcomes.{in_world}
use Rattle.c_ends.proofs.Ended.{ends_after}
use Rattle.c_ends.proofs.generators.generator_paused.Goals as goal

pub returns-then-closing : goal.returns-then-closing
returns-then-closing c =
    let w = c.args.world.now in
    rw c.if-closing.true
    (IfOk-weaker c.raises_text.result _ _
    (λ o h. ends_after (λ a. ends.raises_text a ends.runtime_error (codes "generator ignored GeneratorExit")) (λ a. ends.with_state a c.args.generator gen.Paused) w (record w { heap = c.set_state.new.heap }) c.raises_text.new.world o
    (λ input frames. ap (λ l. in_world (record w { heap = l }) input frames) (sym c.set_state.ensures)) h)
    c.raises_text.ensures)
