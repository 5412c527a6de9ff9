use Rattle.std.proofs.Common.{◌≡◌, ℕ, suc, ◌+◌, ◌-◌, ◌∙◌, arith}
use Rattle.reform_blocks.proofs.Built.{leave_inside, leave_beyond, further_is, less_true, less_false}
use Rattle.reform_blocks.proofs.stores.stored_leave.Goals as goal

pub returns-then-levels-depth : goal.returns-then-levels-depth
returns-then-levels-depth c = leave_inside c.args.kept c.args.depth c.args.levels c.if-levels-depth.true

pub returns : goal.returns
returns c =
    let k : ℕ = c.args.levels - (c.args.depth + 1) in
    let e : c.args.levels ≡ suc (c.args.depth + k) = omega (arith, c.if-levels-depth.false) in
    c.in_ok-node.ensures k (further_is c.args.depth c.args.levels k _ e (less_true 1 (c.args.levels - c.args.depth)) (less_false 1 (c.args.levels - c.args.depth))) ∙ leave_beyond c.args.kept c.args.depth c.args.levels k e
