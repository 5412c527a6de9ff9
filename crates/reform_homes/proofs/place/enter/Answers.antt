use Rattle.reform_homes.proofs.Standing.{stands}
use Rattle.reform_homes.proofs.place.enter.Goals as goal

pub invariant_of-result : goal.invariant_of-result
invariant_of-result c =
    stands c.args.layout.now c.args.this c.in_ok-scope.scope.now c.in_ok-captured.captured.now c.in_ok-free.free.now c.args.params c.in_ok-own.own c.in_ok-others.others c.in_ok-homes.homes.entries
    c.in_ok-scope.ensures c.in_ok-captured.ensures c.in_ok-free.ensures
    (rw c.as_slice-names.ensures at c.in_ok-own.ensures) (rw c.as_slice-names.ensures at c.in_ok-others.ensures) (rw c.as_slice-names.ensures at c.in_ok-homes.ensures) c.in_ok-have_room.ensures
