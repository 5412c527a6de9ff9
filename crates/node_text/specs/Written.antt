-- Which node trees have a text: numbers in their ranges, texts in UTF-8, parameters in their order, and at least one loop that
-- a `leave` ends. Operations with other arguments than theirs have a text.
use Rattle.std.specs.Prelude.{◌≡◌, ℕ, ◌<◌, ◌≤◌, ◌^◌, List, true, length, IsUtf8}
use Rattle.std.specs.List.{AllByRecursion}
use Rattle.nu_value.specs.declared.header.Header.{Header}
use Rattle.code_forms.specs.declared.operand.Operand.{Operand}
use Rattle.code_forms.specs.declared.operand.Operand.TheVariants as operand
use Rattle.code_forms.specs.declared.operand.Argument.{Argument}
use Rattle.code_forms.specs.declared.operand.Argument.TheVariants as argument
use Rattle.code_forms.specs.Fits.{IsLine, ConstFits}
use Rattle.c_meaning.specs.Written.{IsNumber, IsParam, in_order}
use Rattle.node_tree.specs.Blocks as tree
use Rattle.node_tree.specs.Tree.{block}
use Rattle.node_tree.specs.declared.script.NodeCode.{NodeCode}
use Rattle.node_tree.specs.declared.script.NodeScript.{NodeScript}
use Rattle.node_text.specs.Text.{builtins, node_text}

abbrev pub IsOperand : Operand → Type 0
IsOperand (operand.Temp n) = IsNumber n
IsOperand (operand.Const c) = ConstFits c

abbrev pub IsArgument : Argument → Type 0
IsArgument (argument.Value a) = IsOperand a
IsArgument (argument.Name name) = IsUtf8 name

-- what stands in the first line of a statement
abbrev pub IsHead : tree.Form → Type 0
IsHead (tree.Constant to c) = IsNumber to × ConstFits c
IsHead (tree.Copy to from) = IsNumber to × IsNumber from
IsHead (tree.Do to line o args) = IsNumber to × IsLine line × AllByRecursion IsArgument args
IsHead (tree.Call to line function args) = IsNumber to × IsLine line × IsOperand function × AllByRecursion IsOperand args
IsHead (tree.Yield to line a) = IsNumber to × IsLine line × IsOperand a
IsHead (tree.If test y n) = IsOperand test
IsHead (tree.Loop body) = Unit {0}
IsHead (tree.Leave levels) = (0 < levels) × IsNumber levels
IsHead (tree.Catch to body handler) = IsNumber to
IsHead (tree.Return a) = IsOperand a
IsHead (tree.Raise a) = IsOperand a
IsHead (tree.Unset to) = IsNumber to

abbrev mutual
  -- what stands in the blocks of a statement
  pub IsTail : tree.Form → Type 0
  IsTail (tree.If test y n) = IsBlock y × IsBlock n
  IsTail (tree.Loop body) = IsBlock body
  IsTail (tree.Catch to body handler) = IsBlock body × IsBlock handler
  IsTail other = Unit {0}

  pub IsBlock : tree.Block → Type 0
  IsBlock tree.Stop = Unit {0}
  IsBlock (tree.Follow x r) = IsHead x × IsTail x × IsBlock r

pub record IsHeader (h : Header) : Type 0 where
  pub scope : IsUtf8 h.scope
  pub params : AllByRecursion IsParam h.params
  pub order : in_order 0 h.params ≡ true
  pub line : IsLine h.line

pub record IsCode (c : NodeCode) : Type 0 where
  pub header : IsHeader c.header
  pub free : IsNumber c.free
  pub body : IsBlock (block c.body)

-- A node tree that has a text.
pub record IsScript (s : NodeScript) : Type 0 where
  pub name : IsUtf8 s.name
  pub scripts : s.scripts < 2 ^ 32
  pub builtins : builtins s < 2 ^ 32
  pub within : s.scripts ≤ length s.codes
  pub numbers : length s.codes ≤ 2 ^ 32
  pub each : AllByRecursion IsCode s.codes

-- The text relation: the bytes are the text of the tree.
pub record IsNodeText (text : List ℕ) (s : NodeScript) : Type 0 where
  pub script : IsScript s
  pub spelled : text ≡ node_text s
