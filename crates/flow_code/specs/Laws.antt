-- The law of the runs of flat code.
use Rattle.std.specs.Prelude.{ℕ, List}
use Rattle.nu_run.specs.Runs.{IsMonotone}
use Rattle.op_forms.specs.Rules.{Rules}
use Rattle.flow_code.specs.declared.function.FlatScript.{FlatScript}
use Rattle.flow_code.specs.Run.{flat_run}

-- a larger bound prints no less, and an end stays
abbrev pub FlatRunsAreMonotone : Type 0
FlatRunsAreMonotone = (rules : Rules) (script : FlatScript) (input : List ℕ) → IsMonotone (flat_run rules script input)
