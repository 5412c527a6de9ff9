-- Which programs have a text: numbers in their ranges, declared registers, labels that stand once, the operations' arguments.
use Rattle.std.specs.Prelude.{◌≡◌, ◌≢◌, ℕ, ◌+◌, ◌<◌, ◌≤◌, ◌^◌, List, [], ◌∷◌, Bool, true, false, ◌&&◌, length, map, nat_eq, nat_le, IsUtf8}
use Rattle.std.specs.List.{AllByRecursion, list_any, flat_map}
use Rattle.std.specs.Str.{bytes_eq}
use Rattle.nu_value.specs.declared.header.ParamKind.{ParamKind}
use Rattle.nu_value.specs.declared.header.ParamKind.TheVariants as param
use Rattle.nu_value.specs.declared.header.Header as header
use Rattle.op_forms.specs.declared.op.Op.{Op}
use Rattle.code_forms.specs.declared.operand.Operand.{Operand}
use Rattle.code_forms.specs.declared.operand.Operand.TheVariants as operand
use Rattle.code_forms.specs.declared.operand.Argument.{Argument}
use Rattle.code_forms.specs.declared.operand.Argument.TheVariants as argument
use Rattle.code_forms.specs.Fits.{IsLine, ConstFits}
use Rattle.code_forms.specs.Taking.{is_taken}
use Rattle.c_meaning.specs.declared.program.Stored.{Stored}
use Rattle.c_meaning.specs.declared.program.Stored.TheVariants as stored
use Rattle.c_meaning.specs.declared.program.Statement.{Statement}
use Rattle.c_meaning.specs.declared.program.Statement.TheVariants as statement
use Rattle.c_meaning.specs.declared.program.Line.{Line}
use Rattle.c_meaning.specs.declared.program.Line.TheVariants as line
use Rattle.c_meaning.specs.declared.program.Function as function
use Rattle.c_meaning.specs.declared.program.CProgram as program
use Rattle.c_meaning.specs.Text.{program_text}

-- a number that isn't a line, a function's or a number of functions
abbrev pub IsNumber : ℕ → Type 0
IsNumber n = n < 2 ^ 64

-- an operand where so many registers are declared
abbrev pub IsOperand : ℕ → Operand → Type 0
IsOperand registers (operand.Temp n) = n < registers
IsOperand registers (operand.Const c) = ConstFits c

abbrev pub IsArgument : ℕ → Argument → Type 0
IsArgument registers (argument.Value a) = IsOperand registers a
IsArgument registers (argument.Name name) = IsUtf8 name

-- an operation with its arguments
pub record IsOperation (registers : ℕ) (o : Op) (at : ℕ) (given : List Argument) (fail : ℕ) : Type 0 where
  pub line : IsLine at
  pub each : AllByRecursion (IsArgument registers) given
  pub taken : is_taken o given ≡ true
  pub label : IsNumber fail

abbrev pub IsStored : ℕ → Stored → Type 0
IsStored registers (stored.Value a) = IsOperand registers a
IsStored registers stored.Unset = Unit {0}
IsStored registers (stored.Parameter n) = IsNumber n
IsStored registers (stored.Free n) = IsNumber n
IsStored registers (stored.Load slot) = IsNumber slot
IsStored registers stored.Caught = Unit {0}
IsStored registers (stored.Sent at fail) = IsLine at × IsNumber fail
IsStored registers (stored.Operation o at given fail) = IsOperation registers o at given fail

-- the cases of a switch: at least one
pub record IsSwitch (labels : List ℕ) : Type 0 where
  pub some : 0 < length labels
  pub few : length labels < 2 ^ 64
  pub each : AllByRecursion IsNumber labels

abbrev pub IsStatement : ℕ → Statement → Type 0
IsStatement registers (statement.Store to what) = (to < registers) × IsStored registers what
IsStatement registers (statement.Goto label) = IsNumber label
IsStatement registers (statement.Branch test label) = IsOperand registers test × IsNumber label
IsStatement registers (statement.Again exception label) = IsOperand registers exception × IsNumber label
IsStatement registers (statement.Give value) = IsOperand registers value
IsStatement registers statement.End = Unit {0}
IsStatement registers statement.Fail = Unit {0}
IsStatement registers (statement.Switch labels) = IsSwitch labels
IsStatement registers (statement.Save slot value) = IsNumber slot × IsOperand registers value
IsStatement registers (statement.Pause number value) = IsNumber number × IsOperand registers value

abbrev pub IsBodyLine : ℕ → Line → Type 0
IsBodyLine registers (line.Do s) = IsStatement registers s
IsBodyLine registers (line.Label label) = IsNumber label

-- the labels that stand in a body, in order
abbrev pub label_of : Line → List ℕ
label_of (line.Do s) = []
label_of (line.Label label) = label ∷ []

abbrev pub has : List ℕ → ℕ → Bool
has labels label = list_any (λ other. nat_eq other label) labels

-- each of them stands once
abbrev pub Once : List ℕ → Type 0
Once [] = Unit {0}
Once (label ∷ labels) = (has labels label ≡ false) × Once labels

-- a parameter's name isn't empty and has no space
pub record IsParam (p : ParamKind × List ℕ) : Type 0 where
  pub some : p.1 ≢ []
  pub no_space : has p.1 32 ≡ false
  pub utf8 : IsUtf8 p.1

-- the order of the kinds of parameters; there is one star and one double star at most (reference, section 8.7)
abbrev pub rank : ParamKind → ℕ
rank param.Only = 0
rank param.Plain = 1
rank param.Star = 2
rank param.Key = 3
rank param.Double = 4

-- what may stand behind a parameter
abbrev pub rank_behind : ParamKind → ℕ
rank_behind param.Only = 0
rank_behind param.Plain = 1
rank_behind param.Star = 3
rank_behind param.Key = 3
rank_behind param.Double = 5

-- whether parameters stand in their order, from a rank on
abbrev pub in_order : ℕ → List (ParamKind × List ℕ) → Bool
in_order least [] = true
in_order least (p ∷ params) = nat_le least (rank p.0) && in_order (rank_behind p.0) params

pub record IsHeader (h : header.Header) : Type 0 where
  pub scope : IsUtf8 h.scope
  pub params : AllByRecursion IsParam h.params
  pub order : in_order 0 h.params ≡ true
  pub from_one : 0 < h.line
  pub line : IsLine h.line

pub record IsFunction (f : function.Function) : Type 0 where
  pub header : IsHeader f.header
  pub slots : IsNumber f.slots
  pub registers : IsNumber f.registers
  pub each : AllByRecursion (IsBodyLine f.registers) f.body
  pub once : Once (flat_map label_of f.body)

-- A program that has a text.
pub record IsProgram (p : program.CProgram) : Type 0 where
  pub name : IsUtf8 p.name
  pub scripts : 0 < p.scripts
  pub few : p.scripts + p.builtins ≤ 65535
  pub all : length p.functions ≡ p.scripts + p.builtins
  pub each : AllByRecursion IsFunction p.functions

-- The text relation: the bytes are the text of the program.
pub record IsText (bytes : List ℕ) (p : program.CProgram) : Type 0 where
  pub program : IsProgram p
  pub spelled : bytes ≡ program_text p
