-- The statements before the body of a code, by their temporaries.
use Rattle.std.specs.Prelude.{ℕ, zero, suc, ◌+◌, List, [], ◌∷◌, Option, Some, None}
use Rattle.op_forms.specs.declared.op.Op.TheVariants as op
use Rattle.node_tree.specs.Blocks.{alone, append, of_temp}
use Rattle.node_tree.specs.Blocks as tree

-- so many temporaries from this one on are Unset
abbrev pub unset_from : ℕ → ℕ → tree.Block
unset_from to zero = tree.Stop
unset_from to (suc n) = tree.Follow (tree.Unset to) (unset_from (to + 1) n)

-- a cell is made, and gets its parameter, if it is one's
abbrev pub cell_made : ℕ → ℕ → ℕ → Option ℕ → tree.Block
cell_made line t to None = alone (tree.Do to line op.Cell [])
cell_made line t to (Some param) = tree.Follow (tree.Do to line op.Cell []) (alone (tree.Do t line op.CellSet (of_temp to ∷ of_temp param ∷ [])))

-- cells from this temporary on
abbrev pub cells_from : ℕ → ℕ → ℕ → List (Option ℕ) → tree.Block
cells_from line t to [] = tree.Stop
cells_from line t to (x ∷ xs) = append (cell_made line t to x) (cells_from line t (to + 1) xs)
