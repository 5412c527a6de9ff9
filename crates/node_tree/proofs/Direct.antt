-- No step of a place in a block leads through an item.
use Rattle.std.proofs.Common.{◌≡◌, ℕ, ◌+◌, List, [], ◌∷◌, ◌++◌, refl, ap, arith}
use Rattle.nu_rows.specs.Rows.{End, Next, Leave, Raised, Return, Stopped, Undefined}
use Rattle.nu_rows.proofs.Direct.{Direct, act_direct, yield_direct, sub_direct, loop_direct, then_direct, next_direct, raised_direct, choose_direct, line_direct}
use Rattle.node_tree.specs.declared.node.Node.{Node}
use Rattle.node_tree.specs.Blocks as tree
use Rattle.node_tree.specs.Contents.{form_total, total}
use Rattle.node_tree.specs.Nodes.{L, stored, form_row, block_row}
use Rattle.node_tree.specs.Tree.{form, block}

stored_direct : (to : ℕ) (e : End) → Direct (stored to e)
stored_direct to (Next v) = act_direct _
stored_direct to (Leave n) = act_direct _
stored_direct to (Raised x) = act_direct _
stored_direct to (Return v) = act_direct _
stored_direct to (Stopped kind) = act_direct _
stored_direct to Undefined = act_direct _

mutual
  form_direct : (l : L) (x : tree.Form) → Direct (form_row l x)
  form_direct l (tree.Constant to c) = act_direct _
  form_direct l (tree.Copy to from) = act_direct _
  form_direct l (tree.Do to line o args) = then_direct _ _ (line_direct _ _ (sub_direct _) (λ x. act_direct _)) (stored_direct to)
  form_direct l (tree.Call to line function args) = then_direct _ _ (line_direct _ _ (sub_direct _) (λ x. act_direct _)) (stored_direct to)
  form_direct l (tree.Yield to line a) =
      then_direct _ _ (act_direct _) (next_direct _ (λ v. then_direct _ _ (line_direct _ _ (yield_direct v) (λ x. act_direct _)) (stored_direct to)))
  form_direct l (tree.If test y n) =
      then_direct _ _ (act_direct _) (next_direct _ (λ v. choose_direct v _ _ (block_direct l y) (block_direct l n)))
  form_direct l (tree.Loop body) = loop_direct _ _ (block_direct l body)
  form_direct l (tree.Leave levels) = act_direct _
  form_direct l (tree.Catch to body handler) =
      then_direct _ _ (block_direct l body) (raised_direct _ (λ x. then_direct _ _ (act_direct _) (next_direct _ (λ v. block_direct l handler))))
  form_direct l (tree.Return a) = act_direct _
  form_direct l (tree.Raise a) = then_direct _ _ (act_direct _) (next_direct _ (λ v. act_direct _))
  form_direct l (tree.Unset to) = act_direct _

  pub block_direct : (l : L) (b : tree.Block) → Direct (block_row l b)
  block_direct l tree.Stop = act_direct _
  block_direct l (tree.Follow x r) = then_direct _ _ (form_direct l x) (next_direct _ (λ v. block_direct l r))

pub block_append : (xs ys : List Node) → block (xs ++ ys) ≡ tree.append (block xs) (block ys)
block_append [] ys = refl
block_append (x ∷ xs) ys = ap (λ b. tree.Follow (form x) b) (block_append xs ys)

pub append_stop : (b : tree.Block) → tree.append b tree.Stop ≡ b
append_stop tree.Stop = refl
append_stop (tree.Follow x r) = ap (λ b. tree.Follow x b) (append_stop r)

-- a sum over both
pub total_append : (count : tree.Form → ℕ) (b c : tree.Block) → total count (tree.append b c) ≡ total count b + total count c
total_append count tree.Stop c = omega arith
total_append count (tree.Follow x r) c =
    let e : total count (tree.append r c) ≡ total count r + total count c = total_append count r c in
    let goal : form_total count x + total count (tree.append r c) ≡ (form_total count x + total count r) + total count c = omega arith in
    goal
