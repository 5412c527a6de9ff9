-- Registers without a value.
use Rattle.std.proofs.Common.{◌≡◌, ℕ, ◌+◌, ◌∷◌, ◌++◌, [], Option, None, replicate}
use Rattle.std.proofs.lemmas.List.{replicate-append-replicate}
use Rattle.nu_value.specs.declared.value.Value.{Value}

abbrev nothing : Option Value
nothing = None

pub one_more : (n : ℕ) → replicate n nothing ++ nothing ∷ [] ≡ replicate (n + 1) nothing
one_more n = replicate-append-replicate n 1 nothing
