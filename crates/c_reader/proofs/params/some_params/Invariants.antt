use Rattle.std.proofs.Common.{◌≡◌, ◌∷◌, ◌++◌, length}
use Rattle.std.specs.List.{AllByRecursion, flat_map}
use Rattle.c_meaning.specs.Text.{spaced_text}
use Rattle.c_meaning.specs.Written.{IsParam}
use Rattle.c_reader.specs.Params.{left_text}
use Rattle.c_reader.proofs.params.some_params.Given as goal

-- the parameters that were read, and what is left
abbrev pub invariant-loop-left : goal.invariant-loop-left
invariant-loop-left l = record {
  spelled : 32 ∷ l.text ≡ flat_map spaced_text l.shape ++ left_text l.left;
  each : AllByRecursion IsParam l.shape;
}

abbrev pub decreases-loop-left : goal.decreases-loop-left
decreases-loop-left l = length (left_text l.left)
