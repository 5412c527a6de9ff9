use Rattle.std.proofs.Common.{◌≡◌, ◌≤◌, drop}
use Rattle.op_rules.specs.SequenceMethods.{count_from}
use Rattle.rt_seq.proofs.search.count_of_value.Given as goal

abbrev pub invariant-loop-item : goal.invariant-loop-item
invariant-loop-item l =
    record {
      small : l.count ≤ l.item-index;
      rest : count_from l.heap l.value (drop l.item-index l.items) l.count ≡ count_from l.heap l.value l.items 0;
    }
