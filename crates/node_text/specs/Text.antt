-- How a node tree is spelled: one text for each tree. Each form is a list of pieces, one after another.
use Rattle.std.specs.Prelude.{ℕ, ◌-◌, List, [], ◌∷◌, ◌++◌, Bool, true, false, codes, decimal, length}
use Rattle.std.specs.Fmt.{signed_decimal}
use Rattle.std.specs.List.{flat_map}
use Rattle.nu_text.specs.Pieces.{joined}
use Rattle.nu_text.specs.Strings.{string_text}
use Rattle.nu_value.specs.declared.header.Header.{Header}
use Rattle.op_forms.specs.Names.{op_name}
use Rattle.op_forms.specs.declared.constant.Const.{Const}
use Rattle.op_forms.specs.declared.constant.Const.TheVariants as const
use Rattle.code_forms.specs.declared.operand.Operand.{Operand}
use Rattle.code_forms.specs.declared.operand.Operand.TheVariants as operand
use Rattle.code_forms.specs.declared.operand.Argument.{Argument}
use Rattle.code_forms.specs.declared.operand.Argument.TheVariants as argument
use Rattle.c_meaning.specs.Text.{numbered, params_text}
use Rattle.node_tree.specs.Blocks as tree
use Rattle.node_tree.specs.Tree.{block}
use Rattle.node_tree.specs.declared.script.NodeCode.{NodeCode}
use Rattle.node_tree.specs.declared.script.NodeScript.{NodeScript}

abbrev pub constant_pieces : Const → List (List ℕ)
constant_pieces const.None = codes "none" ∷ []
constant_pieces (const.Bool true) = codes "true" ∷ []
constant_pieces (const.Bool false) = codes "false" ∷ []
constant_pieces (const.Int z) = codes "int " ∷ signed_decimal z ∷ []
constant_pieces (const.Str text) = codes "str " ∷ string_text text ∷ []

abbrev pub constant_text : Const → List ℕ
constant_text c = joined (constant_pieces c)

abbrev pub operand_pieces : Operand → List (List ℕ)
operand_pieces (operand.Temp n) = codes "t" ∷ decimal n ∷ []
operand_pieces (operand.Const c) = constant_pieces c

abbrev pub operand_text : Operand → List ℕ
operand_text a = joined (operand_pieces a)

-- an operand, behind a space
abbrev pub spaced_text : Operand → List ℕ
spaced_text a = codes " " ++ operand_text a

-- an argument, behind a space
abbrev pub argument_text : Argument → List ℕ
argument_text (argument.Value a) = codes " " ++ operand_text a
argument_text (argument.Name name) = codes " " ++ string_text name

-- the first line of a statement, without its indentation
abbrev pub head_pieces : tree.Form → List (List ℕ)
head_pieces (tree.Constant to c) = codes "const t" ∷ decimal to ∷ codes " " ∷ constant_text c ∷ codes "\n" ∷ []
head_pieces (tree.Copy to from) = codes "copy t" ∷ decimal to ∷ codes " t" ∷ decimal from ∷ codes "\n" ∷ []
head_pieces (tree.Do to line o args) = codes "do t" ∷ decimal to ∷ codes " " ∷ decimal line ∷ codes " " ∷ op_name o ∷ flat_map argument_text args ∷ codes "\n" ∷ []
head_pieces (tree.Call to line function args) = codes "call t" ∷ decimal to ∷ codes " " ∷ decimal line ∷ codes " " ∷ operand_text function ∷ flat_map spaced_text args ∷ codes "\n" ∷ []
head_pieces (tree.Yield to line a) = codes "yield t" ∷ decimal to ∷ codes " " ∷ decimal line ∷ codes " " ∷ operand_text a ∷ codes "\n" ∷ []
head_pieces (tree.If test y n) = codes "if " ∷ operand_text test ∷ codes "\n" ∷ []
head_pieces (tree.Loop body) = codes "loop\n" ∷ []
head_pieces (tree.Leave levels) = codes "leave " ∷ decimal levels ∷ codes "\n" ∷ []
head_pieces (tree.Catch to body handler) = codes "catch t" ∷ decimal to ∷ codes "\n" ∷ []
head_pieces (tree.Return a) = codes "return " ∷ operand_text a ∷ codes "\n" ∷ []
head_pieces (tree.Raise a) = codes "raise " ∷ operand_text a ∷ codes "\n" ∷ []
head_pieces (tree.Unset to) = codes "unset t" ∷ decimal to ∷ codes "\n" ∷ []

-- the indentation of a block within lines of this indentation
abbrev pub inner : List ℕ → List ℕ
inner indent = indent ++ codes "  "

abbrev mutual
  -- the lines of a statement of this indentation behind the first one
  pub tail_pieces : List ℕ → tree.Form → List (List ℕ)
  tail_pieces indent (tree.If test y n) = block_text (inner indent) y ∷ indent ∷ codes "else\n" ∷ block_text (inner indent) n ∷ indent ∷ codes "end\n" ∷ []
  tail_pieces indent (tree.Loop body) = block_text (inner indent) body ∷ indent ∷ codes "end\n" ∷ []
  tail_pieces indent (tree.Catch to body handler) = block_text (inner indent) body ∷ indent ∷ codes "handler\n" ∷ block_text (inner indent) handler ∷ indent ∷ codes "end\n" ∷ []
  tail_pieces indent other = []

  -- the lines of a block of this indentation
  pub block_text : List ℕ → tree.Block → List ℕ
  block_text indent tree.Stop = []
  block_text indent (tree.Follow x r) = (indent ++ joined (head_pieces x) ++ joined (tail_pieces indent x)) ++ block_text indent r

-- a statement, behind the indentation of its first line
abbrev pub form_text : List ℕ → tree.Form → List ℕ
form_text indent x = joined (head_pieces x) ++ joined (tail_pieces indent x)

abbrev pub kind_text : Bool → List ℕ
kind_text false = codes "plain"
kind_text true = codes "generator"

-- the first line of the code of this number
abbrev pub header_pieces : ℕ → Header → ℕ → List (List ℕ)
header_pieces number h free =
    codes "code " ∷ decimal number ∷ codes " " ∷ string_text h.scope ∷ codes " " ∷ string_text (params_text h.params) ∷ codes " " ∷ kind_text h.generator ∷ codes " " ∷ decimal free ∷ codes " " ∷ decimal h.line ∷ codes "\n" ∷ []

-- the code of this number
abbrev pub code_text : ℕ → NodeCode → List ℕ
code_text number c = joined (header_pieces number c.header c.free) ++ block_text (codes "  ") (block c.body)

-- how many codes belong to the built-in text
abbrev pub builtins : NodeScript → ℕ
builtins s = length s.codes - s.scripts

-- the first lines
abbrev pub heading_pieces : NodeScript → List (List ℕ)
heading_pieces s = codes "nodes 1\n" ∷ codes "script " ∷ string_text s.name ∷ codes " " ∷ decimal s.scripts ∷ codes " " ∷ decimal (builtins s) ∷ codes "\n" ∷ []

abbrev pub node_text : NodeScript → List ℕ
node_text s = joined (heading_pieces s) ++ numbered code_text 0 s.codes
