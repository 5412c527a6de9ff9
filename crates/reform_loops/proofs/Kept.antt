-- What stands in the blocks of branches and loops.
use Rattle.std.proofs.Common.{◌≡◌, ℕ, ◌+◌, List, [], ◌∷◌, Bool, true, false, if◌then◌else◌, refl, sym, ap, ◌∙◌, arith}
use Rattle.op_forms.specs.declared.constant.Const.{Const}
use Rattle.op_forms.specs.declared.constant.Const.TheVariants as const
use Rattle.op_forms.specs.declared.op.Op.{Op}
use Rattle.op_forms.specs.declared.op.Op.TheVariants as op
use Rattle.code_forms.specs.declared.operand.Argument.{Argument}
use Rattle.code_forms.specs.declared.operand.Argument.TheVariants as argument
use Rattle.code_forms.specs.declared.operand.Operand.{Operand}
use Rattle.code_forms.specs.declared.operand.Operand.TheVariants as operand
use Rattle.node_tree.specs.Blocks.{alone}
use Rattle.node_tree.specs.Blocks as tree
use Rattle.node_tree.specs.Contents.{total, form_operations, operations, form_constants, constants, form_yields, yields}
use Rattle.code_forms.specs.Contents.{operand_constants}
use Rattle.node_tree.proofs.Direct.{total_append}
use Rattle.carries_base.specs.Laws.{if_block, turn_block, while_block}
use Rattle.reform_loops.specs.Kept.{asks, flags}

if_total : (count : tree.Form → ℕ) (line t : ℕ) (tb : tree.Block) (o : Operand) (y n : tree.Block) → total count (if_block line t tb o y n) ≡ total count tb + (count (tree.Do t line op.Truth (argument.Value o ∷ [])) + (count (tree.If (operand.Temp t) y n) + (total count y + total count n)))
if_total count line t tb o y n =
    let e = total_append count tb (tree.Follow (tree.Do t line op.Truth (argument.Value o ∷ [])) (alone (tree.If (operand.Temp t) y n))) in omega (arith, e)

module _ (counts : Op → List Argument → Bool) where
  pub if_operations : (line t : ℕ) (tb : tree.Block) (o : Operand) (y n : tree.Block) → operations counts (if_block line t tb o y n) ≡ operations counts tb + operations counts y + operations counts n + asks counts o
  if_operations line t tb o y n = let e = if_total (form_operations counts) line t tb o y n in omega (arith, e)

  pub while_operations : (line over t : ℕ) (tb : tree.Block) (o : Operand) (b e : tree.Block) → operations counts (while_block line over t tb o b e) ≡ operations counts tb + operations counts b + operations counts e + asks counts o
  while_operations line over t tb o b e =
      let turn = if_operations line t tb o (alone (tree.Loop (tree.append b (alone (tree.Leave 1))))) (tree.Follow (tree.Constant over (const.Bool true)) (alone (tree.Leave 1))) in
      let inner = total_append (form_operations counts) b (alone (tree.Leave 1)) in
      omega (arith, turn, inner)

module _ (counts : Const → Bool) where
  pub if_constants : (line t : ℕ) (tb : tree.Block) (o : Operand) (y n : tree.Block) → constants counts (if_block line t tb o y n) ≡ constants counts tb + constants counts y + constants counts n + operand_constants counts o
  if_constants line t tb o y n = let e = if_total (form_constants counts) line t tb o y n in omega (arith, e)

  pub while_constants : (line over t : ℕ) (tb : tree.Block) (o : Operand) (b e : tree.Block) → constants counts (while_block line over t tb o b e) ≡ constants counts tb + constants counts b + constants counts e + operand_constants counts o + flags counts
  while_constants line over t tb o b e =
      let turn = if_constants line t tb o (alone (tree.Loop (tree.append b (alone (tree.Leave 1))))) (tree.Follow (tree.Constant over (const.Bool true)) (alone (tree.Leave 1))) in
      let inner = total_append (form_constants counts) b (alone (tree.Leave 1)) in
      omega (arith, turn, inner)

pub if_yields : (line t : ℕ) (tb : tree.Block) (o : Operand) (y n : tree.Block) → yields (if_block line t tb o y n) ≡ yields tb + yields y + yields n
if_yields line t tb o y n = let e = if_total form_yields line t tb o y n in omega (arith, e)

pub while_yields : (line over t : ℕ) (tb : tree.Block) (o : Operand) (b e : tree.Block) → yields (while_block line over t tb o b e) ≡ yields tb + yields b + yields e
while_yields line over t tb o b e =
    let turn = if_yields line t tb o (alone (tree.Loop (tree.append b (alone (tree.Leave 1))))) (tree.Follow (tree.Constant over (const.Bool true)) (alone (tree.Leave 1))) in
    let inner = total_append form_yields b (alone (tree.Leave 1)) in
    omega (arith, turn, inner)
