-- What stands in flat code stood in the tree.
use Rattle.std.specs.Prelude.{List, [], ◌∷◌, ◌≡◌, Bool}
use Rattle.op_forms.specs.declared.constant.Const.{Const}
use Rattle.op_forms.specs.declared.op.Op.{Op}
use Rattle.node_tree.specs.Contents as tree
use Rattle.node_tree.specs.Tree.{block}
use Rattle.node_tree.specs.declared.script.NodeCode.{NodeCode}
use Rattle.flow_code.specs.Contents as flat
use Rattle.flow_code.specs.declared.function.FlatFunction.{FlatFunction}
use Rattle.code_forms.specs.declared.operand.Argument.{Argument}

-- by every test, as many operations, with their arguments and names, stand in the function as in the code, and as many
-- constants; and as many yield statements as pauses
pub record Keeps (code : NodeCode) (f : FlatFunction) : Type 0 where
  pub operations : (test : Op → List Argument → Bool) → flat.operations test f.body ≡ tree.operations test (block code.body)
  pub constants : (test : Const → Bool) → flat.constants test f.body ≡ tree.constants test (block code.body)
  pub yields : flat.yields f.body ≡ tree.yields (block code.body)

-- each function that of its code
abbrev pub KeepsEach : List NodeCode → List FlatFunction → Type 0
KeepsEach [] [] = Unit {0}
KeepsEach (c ∷ cs) (f ∷ fs) = Keeps c f × KeepsEach cs fs
KeepsEach cs fs = ⊥
