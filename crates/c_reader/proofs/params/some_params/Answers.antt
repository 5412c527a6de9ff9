use Rattle.std.proofs.Common.{◌++◌, ◌∙◌, ap}
use Rattle.std.specs.List.{flat_map}
use Rattle.c_meaning.specs.Text.{spaced_text}
use Rattle.c_reader.specs.Params.{left_text}
use Rattle.c_reader.proofs.Shapes.{no_more_params}
use Rattle.c_reader.proofs.params.some_params.Goals as goal

pub returns-in_default-2-clause-none : goal.returns-in_default-2-clause-none
returns-in_default-2-clause-none c =
    no_more_params c.args.text.now c.in-Some.item.now c.loop-left.shape (c.loop-left.invariant.spelled ∙ ap (λ o. flat_map spaced_text c.loop-left.shape ++ left_text o) c.in-Some.is) c.loop-left.invariant.each
    (rw c.in_default-2.is at c.in_ok-kind.ensures.none)
