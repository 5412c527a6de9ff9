-- Nodes with blocks in them, by the lists that code holds.
use mathlib.Core.Former.{Count}
use Rattle.std.proofs.Common.{◌≡◌, ℕ, List, refl, ap, ◌∙◌}
use Rattle.node_tree.specs.declared.node.Node.{Node, If, Loop, Loop', Catch, Row_of-Node, end_of-Node, more_of-Node, items-the_row-Node, items_hidden-the_row-Node-0}
use Rattle.code_forms.specs.declared.operand.Operand.{Operand}
use Rattle.node_tree.specs.Blocks as tree
use Rattle.node_tree.specs.Tree.{form, row_block, block}

row_is : (m : _) (row : Row_of-Node m) → row_block row ≡ block (items-the_row-Node m row)
row_is m end_of-Node = refl
row_is m (more_of-Node x xs) = ap (λ b. tree.Follow (form x) b) (row_is _ xs)

abbrev row_of : Node → (m : Count) × Row_of-Node m
row_of (Loop' _ row) = (_, row)
row_of _ = (_, end_of-Node)

abbrev row_list : List Node → tree.Block
row_list xs = row_block (row_of (Loop xs)).1

list_is : (xs : List Node) → row_list xs ≡ block xs
list_is xs = let row = row_of (Loop xs) in row_is row.0 row.1 ∙ ap block (items_hidden-the_row-Node-0 xs)

pub form_loop : (xs : List Node) → form (Loop xs) ≡ tree.Loop (block xs)
form_loop xs = ap tree.Loop (list_is xs)

pub form_if : (t : Operand) (ys zs : List Node) → form (If t ys zs) ≡ tree.If t (block ys) (block zs)
form_if t ys zs = ap (λ b. tree.If t b (row_list zs)) (list_is ys) ∙ ap (λ b. tree.If t (block ys) b) (list_is zs)

pub form_catch : (t : ℕ) (ys zs : List Node) → form (Catch t ys zs) ≡ tree.Catch t (block ys) (block zs)
form_catch t ys zs = ap (λ b. tree.Catch t b (row_list zs)) (list_is ys) ∙ ap (λ b. tree.Catch t (block ys) b) (list_is zs)
