-- When a program does what flat code does, and what it keeps of it.
use Rattle.std.specs.Prelude.{ℕ, ◌+◌, List, [], ◌∷◌, ◌≡◌, length, map, Bool}
use Rattle.std.specs.List.{AllByRecursion}
use Rattle.nu_run.specs.Runs.{IsDefined, Same}
use Rattle.op_forms.specs.Rules.{Rules}
use Rattle.op_forms.specs.declared.constant.Const.{Const}
use Rattle.op_forms.specs.declared.op.Op.{Op}
use Rattle.flow_code.specs.declared.function.FlatFunction.{FlatFunction}
use Rattle.flow_code.specs.declared.function.FlatScript.{FlatScript}
use Rattle.flow_code.specs.Contents as flat
use Rattle.flow_code.specs.Run.{header, flat_run}
use Rattle.flow_code.specs.WellFormed.{WellFormed}
use Rattle.code_forms.specs.declared.operand.Argument.{Argument}
use Rattle.c_meaning.specs.declared.program.CProgram.{CProgram}
use Rattle.c_meaning.specs.declared.program.Function.{Function}
use Rattle.c_meaning.specs.Run.{header_of, c_run}
use Rattle.generator_cut.specs.Cut.{program_of, all_saved}
use Rattle.generator_cut.specs.Contents as c

-- under all rules of operations and over every input, a program does what flat code does, where that never ends Undefined
abbrev pub DoesTheSame : FlatScript → CProgram → Type 0
DoesTheSame script program = (rules : Rules) (input : List ℕ) → IsDefined (flat_run rules script input) → Same (flat_run rules script input) (c_run rules program input)

-- the program of well-formed flat code that saves all registers at each pause does what the flat code does
abbrev pub ProgramsDoTheSame : Type 0
ProgramsDoTheSame = (script : FlatScript) → AllByRecursion WellFormed script.functions → DoesTheSame script (program_of all_saved script)

-- the same file name and number of script functions, and one function for each, with its name, parameters, kind and first
-- line
pub record HasHeads (script : FlatScript) (program : CProgram) : Type 0 where
  pub name : program.name ≡ script.name
  pub scripts : program.scripts ≡ script.scripts
  pub all : program.scripts + program.builtins ≡ length script.functions
  pub headers : map header_of program.functions ≡ map header script.functions

-- by every test, as many operations, with their arguments and names, stand in both, and as many constants; as many pauses as yield
-- statements; and as many registers
pub record Keeps (f : FlatFunction) (g : Function) : Type 0 where
  pub registers : g.registers ≡ f.registers
  pub operations : (test : Op → List Argument → Bool) → c.operations test g.body ≡ flat.operations test f.body
  pub constants : (test : Const → Bool) → c.constants test g.body ≡ flat.constants test f.body
  pub pauses : c.pauses g.body ≡ flat.yields f.body

-- each function what that of the same number has
abbrev pub KeepsEach : List FlatFunction → List Function → Type 0
KeepsEach [] [] = Unit {0}
KeepsEach (f ∷ fs) (g ∷ gs) = Keeps f g × KeepsEach fs gs
KeepsEach fs gs = ⊥
