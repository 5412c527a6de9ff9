-- What the stages that follow ask of functions.
use Rattle.std.specs.Prelude.{ℕ, ◌+◌, ◌<◌, ◌^◌}
use Rattle.flow_code.specs.declared.function.FlatFunction.{FlatFunction}
use Rattle.flow_code.specs.Contents.{yields}
use Rattle.flow_code.specs.Labels.{LabelsOnce, LabelsNumbered}
use Rattle.flow_code.specs.Registers.{RegistersDeclared}

-- no label stands twice, labels are numbered below their count, and each register is declared
pub record WellFormed (f : FlatFunction) : Type 0 where
  pub once : LabelsOnce f.body
  pub numbered : LabelsNumbered f.labels f.body
  pub declared : RegistersDeclared f.registers f.body

-- behind its labels there are numbers for one label at its beginning and one for each pause
abbrev pub HasRoom : FlatFunction → Type 0
HasRoom f = f.labels + yields f.body + 1 < 2 ^ 64
