-- Parameters in their order, from a place on.
use Rattle.std.proofs.Common.{◌≡◌, ℕ, suc, ◌+◌, ◌<◌, ◌≤◌, List, ◌∷◌, length, get_or, drop, drop-cons, refl, sym, ◌∙◌, ap, arith, Bool, true, false, Option, Some, None, Bor}
use Rattle.std.specs.Prelude.{nat_le, ◌&&◌, slice_get, option_map}
use Rattle.std.proofs.lemmas.Bool.Decides.{nat_tests}
use Rattle.std.proofs.lemmas.Option.{slice_get_within, get_or_from_slice_get, slice_get-get_or}
use Rattle.nu_value.specs.declared.header.ParamKind.{ParamKind}
use Rattle.c_meaning.specs.Written.{in_order, rank, rank_behind}

there : (shape : List (ParamKind × List ℕ)) (i : ℕ) (p : ParamKind × List ℕ) → slice_get shape i ≡ Some p → drop i shape ≡ p ∷ drop (i + 1) shape
there shape i p e =
    let next : suc i ≡ i + 1 = omega arith in
    drop-cons shape i p (slice_get_within shape i p e) ∙ ap (λ q. q ∷ drop (suc i) shape) (get_or_from_slice_get shape i p p e) ∙ ap (λ k. p ∷ drop k shape) next

-- the parameter that is read at a place
pub read_there : (shape : List (ParamKind × List ℕ)) (i : ℕ) (r : Option (ParamKind × Bor (List ℕ))) (kind : ParamKind) (name : Bor (List ℕ)) → option_map (λ p. (p.0, p.1.now)) r ≡ slice_get shape i → r ≡ Some (kind, name)
    → slice_get shape i ≡ Some (kind, name.now)
read_there shape i r kind name e is = sym e ∙ ap (option_map (λ p. (p.0, p.1.now))) is

pub none_there : (shape : List (ParamKind × List ℕ)) (i : ℕ) (r : Option (ParamKind × Bor (List ℕ))) → option_map (λ p. (p.0, p.1.now)) r ≡ slice_get shape i → i < length shape → (p : ParamKind × List ℕ) → r ≡ None → ⊥
none_there shape i r e h p none = go (slice_get-get_or shape i p h) (sym e ∙ ap (option_map (λ p. (p.0, p.1.now))) none)
  where
    go : slice_get shape i ≡ Some (get_or shape i p) → slice_get shape i ≡ None → ⊥
    go some none = grind (arith, some, none)

and_true : (a b : Bool) → a ≡ true → (a && b) ≡ b
and_true true b e = refl
and_true false b e = grind (arith, e)

and_false : (a b : Bool) → a ≡ false → (a && b) ≡ false
and_false true b e = grind (arith, e)
and_false false b e = refl

le_true : (m n : ℕ) → m ≤ n → nat_le m n ≡ true
le_true m n h = grind (arith, nat_tests, h)

le_false : (m n : ℕ) → n < m → nat_le m n ≡ false
le_false m n h = grind (arith, nat_tests, h)

pub order_goes_on : (shape : List (ParamKind × List ℕ)) (i least : ℕ) (p : ParamKind × List ℕ) → slice_get shape i ≡ Some p → least ≤ rank p.0 → in_order least (drop i shape) ≡ in_order (rank_behind p.0) (drop (i + 1) shape)
order_goes_on shape i least p e h = ap (in_order least) (there shape i p e) ∙ and_true (nat_le least (rank p.0)) (in_order (rank_behind p.0) (drop (i + 1) shape)) (le_true least (rank p.0) h)

pub order_ends : (shape : List (ParamKind × List ℕ)) (i least : ℕ) (p : ParamKind × List ℕ) → slice_get shape i ≡ Some p → rank p.0 < least → in_order least (drop i shape) ≡ false
order_ends shape i least p e h = ap (in_order least) (there shape i p e) ∙ and_false (nat_le least (rank p.0)) (in_order (rank_behind p.0) (drop (i + 1) shape)) (le_false least (rank p.0) h)
