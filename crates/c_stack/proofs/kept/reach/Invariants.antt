use Rattle.std.proofs.Common.{◌≡◌, ◌+◌, ◌-◌}
use Rattle.std.specs.Prelude.{Option, vec_len}
use Rattle.nu_calls.specs.Surroundings.{keep_at}
use Rattle.c_meaning.specs.declared.state.Kept.{Kept}
use Rattle.c_stack.proofs.kept.reach.Given as goal

abbrev pub invariant-loop-list : goal.invariant-loop-list
invariant-loop-list l = (x : Option Kept) → keep_at l.list.items l.place x ≡ keep_at l.fn.list.items l.place x

abbrev pub decreases-loop-list : goal.decreases-loop-list
decreases-loop-list l = l.place + 1 - vec_len l.list
