-- Blocks of primitive statements, as the meaning reads them: a block is the end, or a statement and the rest.
use Rattle.std.specs.Prelude.{ℕ, List, Bool}
use Rattle.op_forms.specs.declared.constant.Const.{Const}
use Rattle.op_forms.specs.declared.constant.Const.TheVariants as const
use Rattle.op_forms.specs.declared.op.Op.{Op}
use Rattle.code_forms.specs.declared.operand.Argument.{Argument}
use Rattle.code_forms.specs.declared.operand.Argument.TheVariants as argument
use Rattle.code_forms.specs.declared.operand.Operand.{Operand}
use Rattle.code_forms.specs.declared.operand.Operand.TheVariants as operand

mutual
  pub data Form : Type 0 where
    Constant : (to : ℕ) (c : Const) → Form
    Copy : (to from : ℕ) → Form
    Do : (to line : ℕ) (o : Op) (args : List Argument) → Form
    Call : (to line : ℕ) (function : Operand) (args : List Operand) → Form
    Yield : (to line : ℕ) (a : Operand) → Form
    If : (test : Operand) (y n : Block) → Form
    Loop : (body : Block) → Form
    Leave : (levels : ℕ) → Form
    Catch : (to : ℕ) (body handler : Block) → Form
    Return : (a : Operand) → Form
    Raise : (a : Operand) → Form
    Unset : (to : ℕ) → Form

  pub data Block : Type 0 where
    Stop : Block
    Follow : (x : Form) (rest : Block) → Block

-- one block after another
abbrev pub append : Block → Block → Block
append Stop q = q
append (Follow x r) q = Follow x (append r q)

-- a block of one statement
abbrev pub alone : Form → Block
alone x = Follow x Stop

-- a temporary gets what an operand holds
abbrev pub puts : ℕ → Operand → Form
puts to (operand.Temp t) = Copy to t
puts to (operand.Const c) = Constant to c

-- a temporary gets a truth value
abbrev pub flag : ℕ → Bool → Form
flag to b = Constant to (const.Bool b)

-- what a temporary holds is an argument
abbrev pub of_temp : ℕ → Argument
of_temp t = argument.Value (operand.Temp t)
