use Rattle.std.proofs.Common.{◌≡◌, drop}
use Rattle.op_forms.specs.Names.{op_among}
use Rattle.op_forms.proofs.op.op_among.Given as goal

abbrev pub invariant-loop-op : goal.invariant-loop-op
invariant-loop-op l = op_among (drop l.op-index l.table) l.name ≡ op_among l.table l.name
