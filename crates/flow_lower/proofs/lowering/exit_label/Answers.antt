use Rattle.std.proofs.Common.{◌≡◌, suc, ◌-◌, arith}
use Rattle.flow_lower.proofs.Emitted.{exit_is, exit_none}
use Rattle.flow_lower.proofs.lowering.exit_label.Goals as goal

pub returns-then-at-exits : goal.returns-then-at-exits
returns-then-at-exits c =
    let e : c.args.levels ≡ suc (c.args.levels - 1) = omega (arith, c.if-levels-eq0.false) in
    exit_is c.args.exits.now c.args.levels (c.args.levels - 1) e

pub returns-else-at-exits : goal.returns-else-at-exits
returns-else-at-exits c =
    let e : c.args.levels ≡ suc (c.args.levels - 1) = omega (arith, c.if-levels-eq0.false) in
    exit_none c.args.exits.now c.args.levels (c.args.levels - 1) e c.if-at-exits.false
