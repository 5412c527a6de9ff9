use Rattle.std.proofs.Common.{arith, ◌∷◌, ◌++◌, ◌∙◌, ap}
use Rattle.c_meaning.specs.Text.{letter}
use Rattle.c_emit.proofs.Pushes.{next_param}
use Rattle.c_emit.proofs.params.spelled.Goals as goal

pub loop-place-preserved : goal.loop-place-preserved
loop-place-preserved c =
    next_param c.args.params.now c.loop-place.place (c.in-Some-at.kind, c.in-Some-at.name.now) c.loop-place.bytes.items c.push.new.self.items c.push_param-in-loop-place.new.bytes.items (omega (arith, c.loop-place.auto.place)) c.in-Some-at.ensures
    c.loop-place.invariant c.in_ok-push.ensures.items (c.in_ok-push_param-2.ensures ∙ ap (λ l. c.push.new.self.items ++ letter c.in-Some-at.kind ∷ l) c.as_str-in-loop-place.ensures)
