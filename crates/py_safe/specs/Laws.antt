-- No run of lawful codes ends Undefined.
use Rattle.std.specs.Prelude.{ℕ, List}
use Rattle.nu_run.specs.Runs.{Run, Same, IsDefined}
use Rattle.op_forms.specs.Rules.{Rules}
use Rattle.py_meaning.specs.Syntax as syntax
use Rattle.py_meaning.specs.Bodies.{codes_run}
use Rattle.py_safe.specs.Rosters.{Role}
use Rattle.py_safe.specs.Rules.{KeepsLaw}
use Rattle.py_safe.specs.Constructs.{LawfulCodes}

pub record RunsNeverEndUndefined : Type 0 where
  -- codes, of which so many are the script's, under rules that keep law
  pub codes : (rules : Rules) → KeepsLaw rules → (name : List ℕ) (role : ℕ → Role) (scripts : ℕ) (codes : List syntax.Code) → LawfulCodes role scripts codes → (input : List ℕ) → IsDefined (codes_run rules name scripts codes input)
  -- nor does a run that is the same
  pub same : (one other : ℕ → Run) → Same one other → IsDefined one → IsDefined other
