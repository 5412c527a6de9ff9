-- Runs of small programs, computed.
use Rattle.std.specs.Prelude.{◌≡◌, refl, ℕ, pos, List, [], ◌∷◌, ◌++◌, true, false, codes, decimal}
use Rattle.nu_run.specs.declared.End.TheVariants as end
use Rattle.nu_run.specs.Runs.{Run, Going, Ended}
use Rattle.op_forms.specs.declared.constant.Const.TheVariants as const
use Rattle.op_forms.specs.declared.op.Op.TheVariants as op
use Rattle.op_rules.specs.TableRules.{table_rules}
use Rattle.nu_calls.specs.Traceback.{entries_text}
use Rattle.code_forms.specs.declared.operand.Argument.TheVariants as argument
use Rattle.code_forms.specs.declared.operand.Operand.TheVariants as operand
use Rattle.c_meaning.specs.declared.program.Stored.TheVariants as stored
use Rattle.c_meaning.specs.declared.program.Statement.TheVariants as statement
use Rattle.c_meaning.specs.declared.program.Line.{Line}
use Rattle.c_meaning.specs.declared.program.Line.TheVariants as line
use Rattle.c_meaning.specs.declared.program.CProgram as program
use Rattle.c_meaning.specs.Run.{c_run}

-- a program of one function with two registers
abbrev script : List Line → program.CProgram
script body = record {
  name = codes "t.py";
  scripts = 1;
  builtins = 0;
  functions = record { header = record { scope = codes "<module>"; params = []; generator = false; line = 1 }; slots = 0; registers = 2; body = body } ∷ [];
}

abbrev runs : ℕ → List Line → Run
runs n body = c_run table_rules (script body) [] n

abbrev print_of : ℕ → Line
print_of to = line.Do (statement.Store to (stored.Operation op.Global 1 (argument.Name (codes "print") ∷ []) 0))

abbrev calls : ℕ → ℕ → Line
calls to number = line.Do (statement.Store to (stored.Operation op.Call 1 (argument.Value (operand.Temp to) ∷ argument.Value (operand.Const (const.Int (pos number))) ∷ []) 0))

-- print(7)
prints : runs 3 (print_of 0 ∷ calls 0 7 ∷ line.Do statement.End ∷ line.Label 0 ∷ line.Do statement.Fail ∷ []) ≡ Ended (decimal 7 ++ codes "\n") end.Done
prints = refl

-- one step short of the end
short : runs 2 (print_of 0 ∷ calls 0 7 ∷ line.Do statement.End ∷ line.Label 0 ∷ line.Do statement.Fail ∷ []) ≡ Going (decimal 7 ++ codes "\n")
short = refl

abbrev divides : ℕ → ℕ → Line
divides x y = line.Do (statement.Store 0 (stored.Operation op.FloorDiv 3 (argument.Value (operand.Const (const.Int (pos x))) ∷ argument.Value (operand.Const (const.Int (pos y))) ∷ []) 0))

-- 1 // 0, on line 3
raises : runs 2 (divides 1 0 ∷ line.Do statement.End ∷ line.Label 0 ∷ line.Do statement.Fail ∷ [])
    ≡ Ended [] (end.Uncaught (codes "Traceback (most recent call last):\n" ++ entries_text (codes "t.py") (record { line = 3; scope = codes "<module>" } ∷ []) ++ codes "ZeroDivisionError" ++ codes "\n"))
raises = refl

-- what is raised is caught, and the run goes on
catches : runs 5 (divides 1 0 ∷ line.Label 0 ∷ line.Do (statement.Store 1 stored.Caught) ∷ print_of 0 ∷ calls 0 1 ∷ line.Do statement.End ∷ []) ≡ Ended (decimal 1 ++ codes "\n") end.Done
catches = refl

-- a register that has no value is read
unset : runs 1 (line.Do (statement.Store 1 (stored.Value (operand.Temp 0))) ∷ line.Do statement.End ∷ []) ≡ Ended [] (end.Undefined 0 0)
unset = refl

-- the run goes past the last statement
past : runs 1 [] ≡ Ended [] (end.Undefined 0 0)
past = refl

-- a jump to a label that isn't there
lost : runs 2 (line.Do (statement.Store 0 stored.Unset) ∷ line.Label 7 ∷ line.Do (statement.Goto 8) ∷ []) ≡ Ended [] (end.Undefined 0 1)
lost = refl

-- a branch on a number
untrue : runs 1 (line.Do (statement.Branch (operand.Const (const.Int (pos 1))) 0) ∷ line.Label 0 ∷ line.Do statement.End ∷ []) ≡ Ended [] (end.Undefined 0 0)
untrue = refl

-- a pause outside a generator
paused : runs 1 (line.Do (statement.Pause 0 (operand.Const const.None)) ∷ []) ≡ Ended [] (end.Undefined 0 0)
paused = refl

abbrev says : ℕ → List ℕ → Line
says to text = line.Do (statement.Store to (stored.Operation op.Call 1 (argument.Value (operand.Temp to) ∷ argument.Value (operand.Const (const.Str text)) ∷ []) 0))

-- a loop prints as long as it may go
loops : runs 7 (line.Label 1 ∷ print_of 0 ∷ says 0 (codes "a") ∷ line.Do (statement.Branch (operand.Const (const.Bool true)) 1) ∷ line.Label 0 ∷ line.Do statement.Fail ∷ []) ≡ Going (codes "a\na\n")
loops = refl
