-- The law of runs.
use Rattle.std.specs.Prelude.{ℕ, List}
use Rattle.nu_run.specs.Runs.{IsMonotone}
use Rattle.op_forms.specs.Rules.{Rules}
use Rattle.c_meaning.specs.declared.program.CProgram as program
use Rattle.c_meaning.specs.Run.{c_run}

-- a larger bound prints no less, and an end stays
abbrev pub RunsAreMonotone : Type 0
RunsAreMonotone = (rules : Rules) (p : program.CProgram) (input : List ℕ) → IsMonotone (c_run rules p input)
