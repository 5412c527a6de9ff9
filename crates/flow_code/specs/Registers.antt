-- The registers of code.
use Rattle.std.specs.Prelude.{ℕ, suc, max, ◌<◌, List, [], ◌∷◌, ◌++◌}
use Rattle.std.specs.List.{AllByRecursion}
use Rattle.code_forms.specs.declared.operand.Argument.{Argument}
use Rattle.code_forms.specs.declared.operand.Argument.TheVariants as argument
use Rattle.flow_code.specs.declared.statement.Line.{Line}
use Rattle.flow_code.specs.declared.statement.Line.TheVariants as line
use Rattle.code_forms.specs.declared.operand.Operand.{Operand}
use Rattle.code_forms.specs.declared.operand.Operand.TheVariants as operand
use Rattle.flow_code.specs.declared.statement.Statement.{Statement}
use Rattle.flow_code.specs.declared.statement.Statement.TheVariants as flat

abbrev pub operand_reads : Operand → List ℕ
operand_reads (operand.Temp r) = r ∷ []
operand_reads (operand.Const c) = []

abbrev pub argument_reads : Argument → List ℕ
argument_reads (argument.Value a) = operand_reads a
argument_reads (argument.Name name) = []

abbrev pub arguments_read : List Argument → List ℕ
arguments_read [] = []
arguments_read (a ∷ args) = argument_reads a ++ arguments_read args

-- the registers that a statement reads
abbrev pub reads : Statement → List ℕ
reads (flat.Store to a) = operand_reads a
reads (flat.Unset to) = []
reads (flat.Parameter to i) = []
reads (flat.Free to i) = []
reads (flat.Do to line o args fail) = arguments_read args
reads (flat.Goto l) = []
reads (flat.Branch test l) = operand_reads test
reads (flat.Caught to) = []
reads (flat.Again a l) = operand_reads a
reads (flat.Give a) = operand_reads a
reads flat.End = []
reads flat.Fail = []
reads (flat.Yield to line a fail) = operand_reads a

-- the register that a statement writes, if any
abbrev pub writes : Statement → List ℕ
writes (flat.Store to a) = to ∷ []
writes (flat.Unset to) = to ∷ []
writes (flat.Parameter to i) = to ∷ []
writes (flat.Free to i) = to ∷ []
writes (flat.Do to line o args fail) = to ∷ []
writes (flat.Goto l) = []
writes (flat.Branch test l) = []
writes (flat.Caught to) = to ∷ []
writes (flat.Again a l) = []
writes (flat.Give a) = []
writes flat.End = []
writes flat.Fail = []
writes (flat.Yield to line a fail) = to ∷ []

-- the registers that stand in a line, and in lines
abbrev pub line_registers : Line → List ℕ
line_registers (line.Label k) = []
line_registers (line.Do x) = writes x ++ reads x

abbrev pub registers : List Line → List ℕ
registers [] = []
registers (x ∷ lines) = line_registers x ++ registers lines

-- one more than the greatest number of a list
abbrev pub above : List ℕ → ℕ
above [] = 0
above (n ∷ ns) = max (suc n) (above ns)

-- each register that stands in lines is one of those that are declared, so many
abbrev pub RegistersDeclared : ℕ → List Line → Type 0
RegistersDeclared n lines = AllByRecursion (λ r. r < n) (registers lines)
