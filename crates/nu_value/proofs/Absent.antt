-- Keys that no pair has.
use Rattle.std.proofs.Common.{◌≡◌, ℕ, zero, suc, List, [], ◌∷◌, Bool, true, false, nat_lt, if◌then◌else◌, Option, Some, None, length, slice_get, option_map, refl, ap, ◌∙◌, arith}
use Rattle.std.specs.Map.{lookup}
use Rattle.std.proofs.lemmas.Bool.Decides.{nat_tests}
use Rattle.nu_value.specs.declared.key.Atom.{Atom}
use Rattle.nu_value.specs.declared.value.Value.{Value}
use Rattle.nu_value.specs.Atoms.{key_eq}
use Rattle.nu_value.specs.Pairs.{PairList, key_place, found_at}
use Rattle.nu_value.specs.Triples.{triples}
use Rattle.nu_value.proofs.Triples.{mapped_triples}

behind_all : (b : Bool) (place : ℕ) → (if b then Some place else None) ≡ None → b ≡ false
behind_all true place h = absurd (cc)
behind_all false place h = refl

nothing_behind : (ps : PairList) (place : ℕ) → nat_lt place (length ps) ≡ false → slice_get ps place ≡ None
nothing_behind [] place h = refl
nothing_behind (p ∷ ps) zero h = grind (arith, nat_tests)
nothing_behind (p ∷ ps) (suc place) h = nothing_behind ps place (grind (arith, nat_tests))

unmapped : (o : Option (Value × Value)) → option_map (λ x. x.1) o ≡ None → o ≡ None
unmapped None h = refl
unmapped (Some w) h = absurd (cc)

pub lookup_absent : (es : List (List Atom × (Value × Value))) (k : List Atom) → found_at (triples es) k ≡ None → lookup (key_eq k) es ≡ None
lookup_absent es k h =
    unmapped (lookup (key_eq k) es)
    (mapped_triples es k
    ∙ ap (λ o. option_map (λ p. p.2) o) (nothing_behind (triples es) (key_place (triples es) k) (behind_all _ (key_place (triples es) k) h)))
