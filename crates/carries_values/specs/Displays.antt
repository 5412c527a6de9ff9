-- The primitive statements of displays with stars, and of dict displays, and when parts carry what stands in them.
use Rattle.std.specs.Prelude.{ℕ, ◌+◌, List, [], ◌∷◌, codes}
use Rattle.op_forms.specs.declared.op.Op.{Op}
use Rattle.op_forms.specs.declared.op.Op.TheVariants as op
use Rattle.code_forms.specs.declared.operand.Argument.TheVariants as argument
use Rattle.node_tree.specs.Blocks.{alone, of_temp}
use Rattle.node_tree.specs.Blocks as tree
use Rattle.py_meaning.specs.Syntax as syntax
use Rattle.carries_base.specs.Frames.{Homes}
use Rattle.carries_base.specs.Carries.{Carrier}
use Rattle.carries_values.specs.Parts.{CarriesPart, CarriesBeside}

-- the parts of an item, and of an entry
pub data Item : Type 0 where
  One : (p : Carrier) → Item
  Star : (p : Carrier) → Item

pub data Entry : Type 0 where
  Pair : (key value : Carrier) → Entry
  Merge : (p : Carrier) → Entry

-- the value of a part goes into what the temporary t holds, by the temporary u
abbrev pub added_block : ℕ → ℕ → ℕ → Op → Carrier → tree.Block → tree.Block
added_block line t u o p rest = tree.append p.block (tree.Follow (tree.Do u line o (of_temp t ∷ argument.Value p.value ∷ [])) rest)

abbrev pub fill_block : ℕ → ℕ → List Item → tree.Block
fill_block line t [] = tree.Stop
fill_block line t (One p ∷ items) = added_block line t (t + 1) op.Push p (fill_block line t items)
fill_block line t (Star p ∷ items) = added_block line t (t + 1) op.Extend p (fill_block line t items)

-- a key and its value, the key first
abbrev pub pair_block : ℕ → ℕ → Carrier → Carrier → tree.Block → tree.Block
pair_block line t k p rest =
    tree.append k.block (tree.append p.block
    (tree.Follow (tree.Do (t + 1) line op.Put (of_temp t ∷ argument.Value k.value ∷ argument.Value p.value ∷ [])) rest))

abbrev pub enter_block : ℕ → ℕ → List Entry → tree.Block
enter_block line t [] = tree.Stop
enter_block line t (Pair k p ∷ entries) = pair_block line t k p (enter_block line t entries)
enter_block line t (Merge p ∷ entries) = added_block line t (t + 1) op.Merge p (enter_block line t entries)

-- a list, and its items as a tuple
abbrev pub list_block : ℕ → ℕ → List Item → tree.Block
list_block line t items = tree.Follow (tree.Do t line op.List []) (fill_block line t items)

abbrev pub tuple_block : ℕ → ℕ → tree.Block
tuple_block line t =
    tree.Follow (tree.Do (t + 1) line op.Native (argument.Name (codes "tuple") ∷ []))
    (alone (tree.Do (t + 2) line op.Call (of_temp (t + 1) ∷ of_temp t ∷ [])))

abbrev pub dict_block : ℕ → ℕ → List Entry → tree.Block
dict_block line t entries = tree.Follow (tree.Do t line op.Dict []) (enter_block line t entries)

abbrev pub CarriesDisplayed : Homes → ℕ → ℕ → syntax.Items → List Item → Type 0
CarriesDisplayed h low high syntax.NoItem [] = Unit {0}
CarriesDisplayed h low high (syntax.Single x items) (One p ∷ ps) = CarriesPart h low high x p × CarriesDisplayed h low high items ps
CarriesDisplayed h low high (syntax.Spread x items) (Star p ∷ ps) = CarriesPart h low high x p × CarriesDisplayed h low high items ps
CarriesDisplayed h low high items ps = ⊥

-- each key is kept over its value
abbrev pub CarriesEntries : Homes → ℕ → ℕ → syntax.Entries → List Entry → Type 0
CarriesEntries h low high syntax.NoEntry [] = Unit {0}
CarriesEntries h low high (syntax.Pair x y entries) (Pair k p ∷ ps) =
    CarriesPart h low high x k × CarriesBeside h low high k.value y p × CarriesEntries h low high entries ps
CarriesEntries h low high (syntax.Merge x entries) (Merge p ∷ ps) = CarriesPart h low high x p × CarriesEntries h low high entries ps
CarriesEntries h low high entries ps = ⊥
