-- Which operations and constants stand in the lines of a program, and how many pass a test.
use Rattle.std.specs.Prelude.{ℕ, ◌+◌, List, [], ◌∷◌, Bool, if◌then◌else◌}
use Rattle.op_forms.specs.declared.constant.Const.{Const}
use Rattle.op_forms.specs.declared.op.Op.{Op}
use Rattle.code_forms.specs.declared.operand.Argument.{Argument}
use Rattle.code_forms.specs.Contents.{operand_constants, arguments_constants}
use Rattle.c_meaning.specs.declared.program.Line.{Line}
use Rattle.c_meaning.specs.declared.program.Line.TheVariants as line
use Rattle.c_meaning.specs.declared.program.Statement.{Statement}
use Rattle.c_meaning.specs.declared.program.Statement.TheVariants as statement
use Rattle.c_meaning.specs.declared.program.Stored.{Stored}
use Rattle.c_meaning.specs.declared.program.Stored.TheVariants as stored

-- a sum over the statements of lines
abbrev pub total : (Statement → ℕ) → List Line → ℕ
total count [] = 0
total count (line.Label l ∷ lines) = total count lines
total count (line.Do s ∷ lines) = count s + total count lines

abbrev pub statement_operations : (Op → List Argument → Bool) → Statement → ℕ
statement_operations test (statement.Store to (stored.Operation o at args fail)) = if test o args then 1 else 0
statement_operations test other = 0

-- how many operations, with their arguments and names, pass the test
abbrev pub operations : (Op → List Argument → Bool) → List Line → ℕ
operations test lines = total (statement_operations test) lines

module _ (test : Const → Bool) where
  abbrev pub stored_constants : Stored → ℕ
  stored_constants (stored.Value a) = operand_constants test a
  stored_constants (stored.Operation o at args fail) = arguments_constants test args
  stored_constants other = 0

  abbrev pub statement_constants : Statement → ℕ
  statement_constants (statement.Store to what) = stored_constants what
  statement_constants (statement.Branch a l) = operand_constants test a
  statement_constants (statement.Again a l) = operand_constants test a
  statement_constants (statement.Give a) = operand_constants test a
  statement_constants (statement.Save slot a) = operand_constants test a
  statement_constants (statement.Pause n a) = operand_constants test a
  statement_constants other = 0

  -- how many constants pass the test
  abbrev pub constants : List Line → ℕ
  constants lines = total statement_constants lines

abbrev pub statement_pauses : Statement → ℕ
statement_pauses (statement.Pause n a) = 1
statement_pauses other = 0

-- how many pauses
abbrev pub pauses : List Line → ℕ
pauses lines = total statement_pauses lines
