use Rattle.std.proofs.Common.{◌≡◌, ◌++◌, take}
use Rattle.rt_seq.proofs.lists.push_all.Given as goal

abbrev pub invariant-loop-value : goal.invariant-loop-value
invariant-loop-value l = l.items ≡ l.fn.items ++ take l.value-index l.values
