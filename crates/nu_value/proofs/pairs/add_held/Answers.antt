use Rattle.std.proofs.Common.{◌≡◌, None, subst}
use Rattle.nu_value.specs.Pairs.{found_at}
use Rattle.nu_value.specs.Held.{held}
use Rattle.nu_value.proofs.Absent.{lookup_absent}
use Rattle.nu_value.proofs.pairs.add_held.Goals as goal

pub add-requires : goal.add-requires
add-requires c =
    rw c.deref_mut.ensures.value (lookup_absent c.in-Some.map.value.entries c.args.key (subst (λ m. found_at (held m) c.args.key ≡ None) c.in-Some.is c.requires))
