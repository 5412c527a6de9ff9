-- Evaluated expressions beside the expressions that they carry.
use Rattle.std.specs.Prelude.{◌⊎◌, ℕ, ◌+◌, ◌≤◌, List, [], ◌∷◌, ◌++◌, map}
use Rattle.node_tree.specs.declared.node.Node.{Node}
use Rattle.node_tree.specs.Blocks as tree
use Rattle.node_tree.specs.Contents.{total}
use Rattle.node_tree.specs.Tree.{block}
use Rattle.py_meaning.specs.Syntax as syntax
use Rattle.carries_base.specs.Frames.{Homes, behind}
use Rattle.carries_base.specs.Carries.{Carrier, CarriesExpression, CarriesAll}
use Rattle.reform_base.specs.declared.Part.{Part}

-- the temporaries from one to below another
pub record Range : Type 0 where
  pub low : ℕ
  pub high : ℕ

abbrev pub Apart : Range → Range → Type 0
Apart a b = (a.high ≤ b.low) ⊎ (b.high ≤ a.low)

abbrev pub ApartFrom : Range → List Range → Type 0
ApartFrom a [] = Unit {0}
ApartFrom a (b ∷ bs) = Apart a b × ApartFrom a bs

-- each expression is carried by its own part, which writes temporaries of its own range alone; the ranges lie from low to high, apart
-- from one another, in any order
abbrev pub CarriesEach : Homes → ℕ → ℕ → syntax.Expressions → List Part → List Range → Type 0
CarriesEach h low high syntax.NoMore [] [] = (behind h ≤ low) × (low ≤ high)
CarriesEach h low high (syntax.More x xs) (p ∷ ps) (r ∷ rs) =
    ((low ≤ r.low) × (r.high ≤ high)) × CarriesExpression h r.low r.high x (block p.block) p.value × ApartFrom r rs × CarriesEach h low high xs ps rs
CarriesEach h low high xs ps rs = ⊥

abbrev pub carrier : Part → Carrier
carrier p = record { block = block p.block; value = p.value }

-- ranges of parts one after another lie apart
abbrev pub ConsecutiveRangesLieApart : Type 0
ConsecutiveRangesLieApart = (h : Homes) (low high top : ℕ) (xs : syntax.Expressions) (ps : List Part) → CarriesAll h low high xs (map carrier ps) → high ≤ top → (rs : List Range) × CarriesEach h low top xs ps rs

-- the blocks of parts, one after another
abbrev pub blocks : List Part → List Node
blocks [] = []
blocks (p ∷ ps) = p.block ++ blocks ps

-- a sum over the statements of all parts
abbrev pub totals : (tree.Form → ℕ) → List Part → ℕ
totals count [] = 0
totals count (p ∷ ps) = total count (block p.block) + totals count ps
