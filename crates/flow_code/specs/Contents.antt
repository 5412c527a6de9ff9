-- Which operations and constants stand in code, how many pass a test; and how many yield statements.
use Rattle.std.specs.Prelude.{ℕ, ◌+◌, List, [], ◌∷◌, Bool, if◌then◌else◌}
use Rattle.op_forms.specs.declared.constant.Const.{Const}
use Rattle.op_forms.specs.declared.op.Op.{Op}
use Rattle.code_forms.specs.declared.operand.Argument.{Argument}
use Rattle.code_forms.specs.Contents.{operand_constants, arguments_constants}
use Rattle.flow_code.specs.declared.statement.Line.{Line}
use Rattle.flow_code.specs.declared.statement.Line.TheVariants as line
use Rattle.flow_code.specs.declared.statement.Statement.{Statement}
use Rattle.flow_code.specs.declared.statement.Statement.TheVariants as flat

-- a sum over the statements of lines
abbrev pub total : (Statement → ℕ) → List Line → ℕ
total count [] = 0
total count (line.Label k ∷ lines) = total count lines
total count (line.Do x ∷ lines) = count x + total count lines

abbrev pub statement_operations : (Op → List Argument → Bool) → Statement → ℕ
statement_operations test (flat.Do to line o args fail) = if test o args then 1 else 0
statement_operations test other = 0

-- how many operations, with their arguments and names, pass the test
abbrev pub operations : (Op → List Argument → Bool) → List Line → ℕ
operations test lines = total (statement_operations test) lines

module _ (test : Const → Bool) where
  abbrev pub statement_constants : Statement → ℕ
  statement_constants (flat.Store to a) = operand_constants test a
  statement_constants (flat.Do to line o args fail) = arguments_constants test args
  statement_constants (flat.Branch a l) = operand_constants test a
  statement_constants (flat.Again a l) = operand_constants test a
  statement_constants (flat.Give a) = operand_constants test a
  statement_constants (flat.Yield to line a fail) = operand_constants test a
  statement_constants other = 0

  -- how many constants pass the test
  abbrev pub constants : List Line → ℕ
  constants lines = total statement_constants lines

abbrev pub statement_yields : Statement → ℕ
statement_yields (flat.Yield to line a fail) = 1
statement_yields other = 0

-- how many yield statements
abbrev pub yields : List Line → ℕ
yields lines = total statement_yields lines
