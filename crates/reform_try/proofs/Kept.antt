-- What stands in the block of a clause that always runs.
use Rattle.std.proofs.Common.{◌≡◌, ℕ, ◌+◌, Bool, true, false, refl, arith}
use Rattle.op_forms.specs.declared.constant.Const.TheVariants as const
use Rattle.code_forms.specs.declared.operand.Operand.{Operand}
use Rattle.node_tree.specs.Blocks as tree
use Rattle.node_tree.proofs.Direct.{total_append}
use Rattle.carries_control.specs.Finish.{onward, raised_or, finally_block, with_block}
use Rattle.reform_try.specs.Asks.{with_asks, managed_block}
use Rattle.reform_blocks.proofs.Kept.{redirect_standing}
use Rattle.reform_blocks.specs.Standing.{Content, form_standing, standing}
use Rattle.reform_blocks.specs.Standing as content

pub finally_standing : (test : Content → Bool) → ((b : Bool) → test (content.Constant (const.Bool b)) ≡ false) → (t : ℕ) (bb lb : tree.Block) → standing test (finally_block t bb lb) ≡ standing test bb + standing test lb
finally_standing test none t bb lb =
    let r = redirect_standing test none t 0 bb in
    let a = total_append (form_standing test) lb (raised_or t (onward t)) in
    let y : form_standing test (tree.Constant 0 (const.Bool true)) ≡ 0 = rw (none true) refl in
    let n : form_standing test (tree.Constant 0 (const.Bool false)) ≡ 0 = rw (none false) refl in
    omega (arith, r, a, y, n)

pub with_standing : (test : Content → Bool) → ((b : Bool) → test (content.Constant (const.Bool b)) ≡ false) → (line t value : ℕ) (mb ib bb : tree.Block) (o : Operand) → standing test (with_block line t value mb o ib bb) ≡ standing test mb + standing test ib + standing test bb + with_asks test t o
with_standing test hides line t value mb ib bb o =
    let r = redirect_standing test hides t 0 (tree.append ib bb) in
    let p = total_append (form_standing test) ib bb in
    let a = total_append (form_standing test) mb (managed_block line t value o (tree.append ib bb)) in
    let y : form_standing test (tree.Constant 0 (const.Bool true)) ≡ 0 = rw (hides true) refl in
    let n : form_standing test (tree.Constant 0 (const.Bool false)) ≡ 0 = rw (hides false) refl in
    omega (arith, r, p, a, y, n)
