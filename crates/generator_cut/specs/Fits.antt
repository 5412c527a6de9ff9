-- What holds of the numbers and texts of flat code, since they are values of their types.
use Rattle.std.specs.Prelude.{IsUtf8}
use Rattle.std.specs.List.{AllByRecursion}
use Rattle.flow_code.specs.declared.function.FlatFunction.{FlatFunction}
use Rattle.flow_code.specs.declared.function.FlatScript.{FlatScript}
use Rattle.flow_code.specs.declared.statement.Line.{Line}
use Rattle.flow_code.specs.declared.statement.Line.TheVariants as line
use Rattle.flow_code.specs.declared.statement.Statement.{Statement}
use Rattle.flow_code.specs.declared.statement.Statement.TheVariants as flat
use Rattle.code_forms.specs.Fits.{IsLine, OperandFits, ArgumentFits, HeaderFits}
use Rattle.c_meaning.specs.Written.{IsNumber}

abbrev pub StatementFits : Statement → Type 0
StatementFits (flat.Store to a) = OperandFits a
StatementFits (flat.Unset to) = Unit {0}
StatementFits (flat.Parameter to i) = IsNumber i
StatementFits (flat.Free to i) = IsNumber i
StatementFits (flat.Do to at o args fail) = IsLine at × AllByRecursion ArgumentFits args × IsNumber fail
StatementFits (flat.Goto l) = IsNumber l
StatementFits (flat.Branch a l) = OperandFits a × IsNumber l
StatementFits (flat.Caught to) = Unit {0}
StatementFits (flat.Again a l) = OperandFits a × IsNumber l
StatementFits (flat.Give a) = OperandFits a
StatementFits flat.End = Unit {0}
StatementFits flat.Fail = Unit {0}
StatementFits (flat.Yield to at a fail) = IsLine at × OperandFits a × IsNumber fail

abbrev pub LineFits : Line → Type 0
LineFits (line.Label l) = IsNumber l
LineFits (line.Do x) = StatementFits x

pub record FunctionFits (f : FlatFunction) : Type 0 where
  pub heading : HeaderFits f.header
  pub registers : IsNumber f.registers
  pub each : AllByRecursion LineFits f.body

pub record ScriptFits (script : FlatScript) : Type 0 where
  pub name : IsUtf8 script.name
  pub each : AllByRecursion FunctionFits script.functions
