use Rattle.op_rules.specs.Ordering.{order_row}
use Rattle.rt_seq.proofs.Arguments.{two}
use Rattle.rt_seq.proofs.Ended.{did}
use Rattle.rt_seq.proofs.apply.comparing.Goals as goal

pub returns-in-len2 : goal.returns-in-len2
returns-in-len2 c =
    rw (two c.args.args.now c.a-item.result c.b-item.result c.in-len2.len_at_least c.in-len2.len_below c.a-item.is c.b-item.is)
    (did c.order_row.result (order_row c.args.op c.args.heap.now c.a-item.result c.b-item.result) c.args.heap.now c.order_row.ensures)
