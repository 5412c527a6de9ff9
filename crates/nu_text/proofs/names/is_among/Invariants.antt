use Rattle.std.proofs.Common.{◌≡◌, map, drop}
use Rattle.nu_text.specs.Names as spec
use Rattle.nu_text.proofs.names.is_among.Given as goal

abbrev pub invariant-loop-entry : goal.invariant-loop-entry
invariant-loop-entry l = spec.is_among (map (λ entry. entry.now) l.table) l.name ≡ spec.is_among (map (λ entry. entry.now) (drop l.entry-index l.table)) l.name
