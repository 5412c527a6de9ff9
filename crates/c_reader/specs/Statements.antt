-- Operands, arguments, statements and lines at the front of a text, each with the rest behind it.
use Rattle.std.specs.Prelude.{◌≡◌, ℕ, List, [], ◌∷◌, ◌++◌, false, codes, decimal}
use Rattle.std.specs.List.{AllByRecursion, flat_map}
use Rattle.nu_text.specs.Decimals.{starts_digit}
use Rattle.nu_text.specs.Pieces.{before}
use Rattle.op_forms.specs.declared.op.Op.{Op}
use Rattle.op_forms.specs.Names.{op_name}
use Rattle.code_forms.specs.declared.operand.Operand.{Operand}
use Rattle.code_forms.specs.declared.operand.Operand.TheVariants as operand
use Rattle.code_forms.specs.declared.operand.Argument.{Argument}
use Rattle.code_forms.specs.declared.operand.Argument.TheVariants as argument
use Rattle.c_meaning.specs.declared.program.Stored.{Stored}
use Rattle.c_meaning.specs.declared.program.Statement.{Statement}
use Rattle.c_meaning.specs.declared.program.Line.{Line}
use Rattle.c_meaning.specs.Text.{operand_pieces, operand_text, argument_pieces, argument_text, stored_pieces, statement_pieces, line_pieces, case_pieces, cases_text}
use Rattle.code_forms.specs.Fits.{IsLine}
use Rattle.c_meaning.specs.Written.{IsNumber, IsOperand, IsArgument, IsStored, IsStatement, IsBodyLine}

-- a piece doesn't stand at the front of a text
abbrev pub IsNotFront : List ℕ → List ℕ → Type 0
IsNotFront piece text = (rest : List ℕ) → text ≡ piece ++ rest → ⊥

-- where an operand ends: a register's number ends there
abbrev pub EndsOperand : Operand → List ℕ → Type 0
EndsOperand (operand.Temp n) rest = starts_digit rest ≡ false
EndsOperand (operand.Const c) rest = Unit {0}

pub record OperandStands (registers : ℕ) (text : List ℕ) (a : Operand) (rest : List ℕ) : Type 0 where
  pub is : IsOperand registers a
  pub spelled : text ≡ before (operand_pieces a) rest
  pub ends : EndsOperand a rest

-- an opening piece, an operand, and a closing piece
pub record ValuedStands (registers : ℕ) (opening closing text : List ℕ) (a : Operand) (rest : List ℕ) : Type 0 where
  pub is : IsOperand registers a
  pub spelled : text ≡ before (opening ∷ operand_text a ∷ closing ∷ []) rest

-- an operand between two pieces, and a label to which the statement jumps
pub record JumpStands (registers : ℕ) (opening closing text : List ℕ) (a : Operand) (label : ℕ) (rest : List ℕ) : Type 0 where
  pub is : IsOperand registers a
  pub label_is : IsNumber label
  pub spelled : text ≡ before (opening ∷ operand_text a ∷ closing ∷ decimal label ∷ codes ";\n" ∷ []) rest

-- a number and an operand behind an opening piece
pub record KeptStands (registers : ℕ) (opening text : List ℕ) (n : ℕ) (a : Operand) (rest : List ℕ) : Type 0 where
  pub number : IsNumber n
  pub is : IsOperand registers a
  pub spelled : text ≡ before (opening ∷ decimal n ∷ codes ", " ∷ operand_text a ∷ codes ");\n" ∷ []) rest

abbrev pub EndsArgument : Argument → List ℕ → Type 0
EndsArgument (argument.Value a) rest = EndsOperand a rest
EndsArgument (argument.Name name) rest = Unit {0}

-- an argument, behind its comma
pub record BareArgumentStands (registers : ℕ) (text : List ℕ) (a : Argument) (rest : List ℕ) : Type 0 where
  pub is : IsArgument registers a
  pub spelled : text ≡ before (argument_pieces a) rest
  pub ends : EndsArgument a rest

-- an argument, behind its comma, which isn't followed by a digit
pub record ArgumentStands (registers : ℕ) (text : List ℕ) (a : Argument) (rest : List ℕ) : Type 0 where
  pub is : IsArgument registers a
  pub spelled : text ≡ before (argument_pieces a) rest
  pub ends : starts_digit rest ≡ false

-- all arguments, behind which no comma follows
pub record ArgumentsStand (registers : ℕ) (text : List ℕ) (given : List Argument) (rest : List ℕ) : Type 0 where
  pub each : AllByRecursion (IsArgument registers) given
  pub spelled : text ≡ flat_map argument_text given ++ rest
  pub ends : starts_digit rest ≡ false
  pub all : IsNotFront (codes ", ") rest

-- the name of an operation, as far as its line
pub record NameStands (text : List ℕ) (o : Op) (rest : List ℕ) : Type 0 where
  pub spelled : text ≡ before (op_name o ∷ codes "(fr, " ∷ []) rest

-- an operation as far as its line
pub record HeadStands (text : List ℕ) (o : Op) (at : ℕ) (rest : List ℕ) : Type 0 where
  pub line : IsLine at
  pub spelled : text ≡ before (codes "nu_" ∷ op_name o ∷ codes "(fr, " ∷ decimal at ∷ []) rest
  pub ends : starts_digit rest ≡ false

-- the case of a number
pub record CaseStands (number : ℕ) (text : List ℕ) (label : ℕ) (rest : List ℕ) : Type 0 where
  pub is : IsNumber label
  pub spelled : text ≡ before (case_pieces number label) rest

-- the cases of a switch
pub record CasesStand (text : List ℕ) (labels : List ℕ) (rest : List ℕ) : Type 0 where
  pub each : AllByRecursion IsNumber labels
  pub spelled : text ≡ cases_text labels ++ rest
  pub all : IsNotFront (codes " case ") rest

pub record StoredStands (registers : ℕ) (text : List ℕ) (s : Stored) (rest : List ℕ) : Type 0 where
  pub is : IsStored registers s
  pub spelled : text ≡ before (stored_pieces s) rest

pub record StatementStands (registers : ℕ) (text : List ℕ) (s : Statement) (rest : List ℕ) : Type 0 where
  pub is : IsStatement registers s
  pub spelled : text ≡ before (statement_pieces s) rest

pub record LineStands (registers : ℕ) (text : List ℕ) (l : Line) (rest : List ℕ) : Type 0 where
  pub is : IsBodyLine registers l
  pub spelled : text ≡ before (line_pieces l) rest
