-- When blocks carry what goes to targets whose parts write temporaries in front of those that are drawn for the targets.
use Rattle.std.specs.Prelude.{◌⊎◌, ℕ, ◌<◌, ◌≤◌, List, [], ◌∷◌}
use Rattle.nu_value.specs.declared.value.Value.{Value}
use Rattle.code_forms.specs.declared.operand.Operand.{Operand}
use Rattle.code_forms.specs.declared.operand.Operand.TheVariants as operand
use Rattle.node_tree.specs.Blocks as tree
use Rattle.node_tree.specs.Nodes as nodes
use Rattle.py_meaning.specs.Syntax as syntax
use Rattle.py_meaning.specs.Frames as python
use Rattle.py_meaning.specs.Statements.{assign, assign_all}
use Rattle.carries_base.specs.Frames.{Homes, behind, Facts, Outside}
use Rattle.carries_base.specs.Carries.{Setting, source, target, Carried, Knows}
use Rattle.carries_base.specs.Laws.{Within}

-- the block carries what is handed a value, which the operand holds; beside those of names it writes the temporaries of parts, from low to
-- high, and those that are drawn, from `from` to `to`, alone. What is kept may lie between them
pub record CarriesDrawn (h : Homes) (low high from to : ℕ) (o : Operand) (r : python.L → Value → python.R) (b : tree.Block) : Type 0 where
  pub starts : behind h ≤ low
  pub parts : low ≤ high
  pub follows : high ≤ from
  pub draws : from ≤ to
  pub carries : (z : Setting) (fs : Facts) (v : Value) → Outside h low high fs → Outside h from to fs → Knows fs o v → Carried z h 0 (λ w. fs) fs (r (source z) v) (nodes.block_row (target z) b)

abbrev pub CarriesPlace : Homes → ℕ → ℕ → ℕ → ℕ → Operand → syntax.Target → tree.Block → Type 0
CarriesPlace h low high from to o x b = CarriesDrawn h low high from to o (λ l v. assign l v x) b

-- one value goes to all these targets
abbrev pub CarriesPlaces : Homes → ℕ → ℕ → ℕ → ℕ → Operand → syntax.Targets → tree.Block → Type 0
CarriesPlaces h low high from to o xs b = CarriesDrawn h low high from to o (λ l v. assign_all l v xs) b

-- an item of a list goes to a temporary, and from there to a target by a block
pub record Taker : Type 0 where
  pub item : ℕ
  pub block : tree.Block

-- the parts of the target write any temporaries from low to high, and others are drawn between `from` and `to`, where the item is apart
pub record CarriesItem (h : Homes) (low high from to : ℕ) (x : syntax.Target) (p : Taker) : Type 0 where
  pub left : ℕ
  pub right : ℕ
  pub first : ℕ
  pub last : ℕ
  pub parts : Within low high left right
  pub draws : Within from to first last
  pub above : from ≤ p.item
  pub below : p.item < to
  pub apart : (p.item < first) ⊎ (last ≤ p.item)
  pub place : CarriesPlace h left right first last (operand.Temp p.item) x p.block

-- items one after another, each to its target
abbrev pub CarriesItems : Homes → ℕ → ℕ → ℕ → ℕ → syntax.Targets → List Taker → Type 0
CarriesItems h low high from to syntax.NoTarget [] = Unit {0}
CarriesItems h low high from to (syntax.AlsoTo x xs) (p ∷ ps) = CarriesItem h low high from to x p × CarriesItems h low high from to xs ps
CarriesItems h low high from to xs ps = ⊥
