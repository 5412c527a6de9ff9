-- Operands, arguments and first lines of statements at the front of a text, each with the rest behind it.
use Rattle.std.specs.Prelude.{◌≡◌, ℕ, ◌<◌, List, [], ◌∷◌, ◌++◌, ℤ, Bool, false, ◌&&◌, nat_le, codes, decimal, IsUtf8}
use Rattle.std.specs.Fmt.{signed_decimal}
use Rattle.std.specs.List.{AllByRecursion, flat_map}
use Rattle.nu_text.specs.Decimals.{starts_digit}
use Rattle.nu_text.specs.Pieces.{before}
use Rattle.nu_text.specs.Strings.{string_text}
use Rattle.op_forms.specs.declared.constant.Const.{Const}
use Rattle.op_forms.specs.declared.op.Op.{Op}
use Rattle.op_forms.specs.Names.{op_name}
use Rattle.code_forms.specs.declared.operand.Operand.{Operand}
use Rattle.code_forms.specs.declared.operand.Argument.{Argument}
use Rattle.code_forms.specs.Fits.{IsInt, IsLine, ConstFits}
use Rattle.c_meaning.specs.Written.{IsNumber}
use Rattle.c_reader.specs.Statements.{IsNotFront}
use Rattle.node_tree.specs.Blocks as tree
use Rattle.node_text.specs.Text.{constant_pieces, operand_pieces, operand_text, spaced_text, argument_text, head_pieces}
use Rattle.node_text.specs.Written.{IsOperand, IsArgument, IsHead}

-- a piece behind which no digit follows
pub record WordStands (word text rest : List ℕ) : Type 0 where
  pub spelled : text ≡ word ++ rest
  pub ends : starts_digit rest ≡ false

-- the size of a number below a limit, which ends there
pub record SizeStands (limit : ℕ) (text : List ℕ) (n : ℕ) (rest : List ℕ) : Type 0 where
  pub fits : n < limit
  pub spelled : text ≡ decimal n ++ rest
  pub ends : starts_digit rest ≡ false

-- a whole number from -2^127 to 2^127 - 1, which ends there
pub record WholeStands (text : List ℕ) (z : ℤ) (rest : List ℕ) : Type 0 where
  pub fits : IsInt z
  pub spelled : text ≡ signed_decimal z ++ rest
  pub ends : starts_digit rest ≡ false

-- a text between quotation marks, behind which no digit follows
pub record EndedStringStands (text bytes rest : List ℕ) : Type 0 where
  pub utf8 : IsUtf8 bytes
  pub spelled : text ≡ string_text bytes ++ rest
  pub ends : starts_digit rest ≡ false

-- constants, operands and arguments, behind which no digit follows
pub record ConstantStands (text : List ℕ) (c : Const) (rest : List ℕ) : Type 0 where
  pub is : ConstFits c
  pub spelled : text ≡ before (constant_pieces c) rest
  pub ends : starts_digit rest ≡ false

pub record OperandStands (text : List ℕ) (a : Operand) (rest : List ℕ) : Type 0 where
  pub is : IsOperand a
  pub spelled : text ≡ before (operand_pieces a) rest
  pub ends : starts_digit rest ≡ false

pub record ArgumentStands (text : List ℕ) (a : Argument) (rest : List ℕ) : Type 0 where
  pub is : IsArgument a
  pub spelled : text ≡ argument_text a ++ rest
  pub ends : starts_digit rest ≡ false

-- all operands, each behind a space, behind which no space follows
pub record OperandsStand (text : List ℕ) (given : List Operand) (rest : List ℕ) : Type 0 where
  pub each : AllByRecursion IsOperand given
  pub spelled : text ≡ flat_map spaced_text given ++ rest
  pub ends : starts_digit rest ≡ false
  pub all : IsNotFront (codes " ") rest

-- all arguments, each behind a space, behind which no space follows
pub record ArgumentsStand (text : List ℕ) (given : List Argument) (rest : List ℕ) : Type 0 where
  pub each : AllByRecursion IsArgument given
  pub spelled : text ≡ flat_map argument_text given ++ rest
  pub ends : starts_digit rest ≡ false
  pub all : IsNotFront (codes " ") rest

-- whether the text begins with a lower-case letter
abbrev pub is_letter : ℕ → Bool
is_letter byte = nat_le 97 byte && nat_le byte 122

abbrev pub starts_letter : List ℕ → Bool
starts_letter [] = false
starts_letter (byte ∷ rest) = is_letter byte

-- the name of an operation, behind which no letter and no digit follows
pub record NameStands (text : List ℕ) (o : Op) (rest : List ℕ) : Type 0 where
  pub spelled : text ≡ op_name o ++ rest
  pub letter : starts_letter rest ≡ false
  pub digit : starts_digit rest ≡ false

-- a word, a temporary and a line
pub record StampStands (word text : List ℕ) (to line : ℕ) (rest : List ℕ) : Type 0 where
  pub to_is : IsNumber to
  pub line_is : IsLine line
  pub spelled : text ≡ before (word ∷ decimal to ∷ codes " " ∷ decimal line ∷ codes " " ∷ []) rest

-- a word and an operand, to the end of the line
pub record ValuedStands (word text : List ℕ) (a : Operand) (rest : List ℕ) : Type 0 where
  pub is : IsOperand a
  pub spelled : text ≡ before (word ∷ operand_text a ∷ codes "\n" ∷ []) rest

-- the first line of a statement
pub record HeadStands (text : List ℕ) (x : tree.Form) (rest : List ℕ) : Type 0 where
  pub is : IsHead x
  pub spelled : text ≡ before (head_pieces x) rest
