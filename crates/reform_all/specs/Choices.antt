-- What the branches of an `if` statement become.
use Rattle.std.specs.Prelude.{◌≡◌, ℕ, ◌≤◌, List, [], ◌∷◌, Option}
use Rattle.node_tree.specs.declared.node.Node.{Node}
use Rattle.node_tree.specs.Tree as tree
use Rattle.py_meaning.specs.Syntax as syntax
use Rattle.py_meaning.specs.Resolved.{alone}
use Rattle.carries_base.specs.Frames.{Homes, behind}
use Rattle.carries_base.specs.Carries.{CarriesExpression, CarriesStatement, CarriesBlock}
use Rattle.reform_all.specs.declared.choices.Choice.{Choice}

-- a branch, as it is executed
pub record Arm : Type 0 where
  pub line : ℕ
  pub test : syntax.Expression
  pub body : syntax.Block

-- an `elif` is an `if` in the `else`
abbrev pub chain : List Arm → syntax.Block → syntax.Block
chain [] other = other
chain (a ∷ arms) other = alone (syntax.If a.line a.test a.body (chain arms other))

-- within these temporaries, and in an `except` clause or not
pub record CarriesArm (h : Homes) (low high : ℕ) (caught : Option ℕ) (a : Arm) (p : Choice) : Type 0 where
  pub line : a.line ≡ p.line
  pub test : CarriesExpression h low high a.test (tree.block p.test.block) p.test.value
  pub body : CarriesBlock h low high caught a.body (tree.block p.body)

abbrev pub CarriesArms : Homes → ℕ → ℕ → Option ℕ → List Arm → List Choice → Type 0
CarriesArms h low high caught [] [] = Unit {0}
CarriesArms h low high caught (a ∷ arms) (p ∷ ps) = CarriesArm h low high caught a p × CarriesArms h low high caught arms ps
CarriesArms h low high caught arms ps = ⊥

-- with the `else`; where there is a branch, that is one statement
abbrev pub CarriesChain : Homes → ℕ → ℕ → Option ℕ → List Arm → syntax.Block → List Node → Type 0
CarriesChain h low high caught [] other nodes = CarriesBlock h low high caught other (tree.block nodes)
CarriesChain h low high caught (a ∷ arms) other nodes = CarriesStatement h low high caught (syntax.If a.line a.test a.body (chain arms other)) (tree.block nodes)

-- nodes carry the chain where its parts are carried
abbrev pub Chained : List Choice → ℕ → ℕ → List Node → List Node → Type 0
Chained ps old new other nodes =
    (h : Homes) (low : ℕ) (caught : Option ℕ) (arms : List Arm) (o : syntax.Block) → behind h ≤ low → low ≤ old → CarriesArms h low old caught arms ps → CarriesBlock h low old caught o (tree.block other) → CarriesChain h low new caught arms o nodes
