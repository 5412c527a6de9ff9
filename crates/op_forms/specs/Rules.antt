-- What a meaning is given of the operations.
use Rattle.std.specs.Prelude.{ℕ, List, Bool}
use Rattle.nu_value.specs.declared.header.Header.{Header}
use Rattle.nu_value.specs.declared.value.Value.{Value}
use Rattle.op_forms.specs.declared.end.After.{After}
use Rattle.op_forms.specs.declared.op.Op.{Op}
use Rattle.op_forms.specs.declared.world.World.{World}
use Rattle.op_forms.specs.Answers.{Answer}

-- the rules of operations: whether arguments have the kinds that an operation takes; what it does to them; how a function
-- that is asked is bound to positional arguments; what becomes of its value; and the world in which a program's scripts
-- start, with the names of the script's module as those of the running one.
--
-- An Ask that `apply` or `bind` answers has one item for each parameter, no names, and a function that is no generator
pub record Rules : Type 0 where
  pub fits : Op → World → List Value → Bool
  pub apply : Op → World → List Value → Answer
  pub bind : World → ℕ → List Value → After → Answer
  pub finish : After → World → Value → Answer
  pub start : List Header → World
