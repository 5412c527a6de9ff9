use Rattle.std.proofs.Common.{arith, length, ◌≢◌}
use Rattle.flow_lower.proofs.Emitted.{emit_fail}
use Rattle.flow_lower.proofs.script.put_fail.Goals as goal

pub returns : goal.returns
returns c =
    let some : length c.args.nodes.now ≢ 0 = λ e. grind (arith, c.is_empty.ensures, c.if-is_empty.false, e) in
    emit_fail c.args.fail c.args.nodes.now c.args.out.now.items _ _ c.requires some c.in_ok-mark.ensures c.in_ok-put.ensures
