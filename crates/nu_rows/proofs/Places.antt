-- The outcome from a place is what the row makes of the part's outcome from there.
use Rattle.std.proofs.Common.{◌≡◌, ℕ, List, [], ◌∷◌, ◌++◌, refl, ap}
use Rattle.nu_rows.specs.Rows.{Step, First, Second, How, Begin, Back, Row, Act, Yld, Part, Then, Loop, Sub, after, shift, turned, interp, run, does}
use Rattle.nu_rows.specs.Places.{part_at, rest_of, IsDirect, IsFirstPart}

module _ {S I : Type 0} (rows : I → Row S I) (n : ℕ) where
  pub from_begin : (r : Row S I) (p : List Step) → IsFirstPart r p → (s : S) → does rows r Begin s n ≡ rest_of rows n r p (does rows (part_at r p) Begin s n)
  from_begin r [] h s = refl
  from_begin (Then r k) (First ∷ p) h s = ap (λ o. after o (λ e t. interp (run rows n) (k e) Begin t)) (from_begin r p h s)
  from_begin (Loop r again) (x ∷ p) h s = ap (λ o. turned o (λ t. run rows n again Begin t)) (from_begin r (x ∷ p) h s)
  from_begin (Then r k) (Second e ∷ p) h s = absurd h
  from_begin (Act f) (x ∷ p) h s = absurd h
  from_begin (Yld v) (x ∷ p) h s = absurd h
  from_begin (Part i) (x ∷ p) h s = absurd h
  from_begin (Sub f) (x ∷ p) h s = absurd h

  pub from_place : (r : Row S I) (p q : List Step) → IsDirect r p → (how : How) (s : S) → does rows r (Back (p ++ q) how) s n ≡ rest_of rows n r p (does rows (part_at r p) (Back q how) s n)
  from_place r [] q h how s = refl
  from_place (Then r k) (First ∷ p) q h how s = ap (λ o. after o (λ e t. interp (run rows n) (k e) Begin t)) (from_place r p q h how s)
  from_place (Then r k) (Second e ∷ p) q h how s = ap (λ o. shift [] (Second e) o) (from_place (k e) p q h how s)
  from_place (Loop r again) (x ∷ p) q h how s = ap (λ o. turned o (λ t. run rows n again Begin t)) (from_place r (x ∷ p) q h how s)
  from_place (Act f) (x ∷ p) q h how s = refl
  from_place (Yld v) (x ∷ p) q h how s = refl
  from_place (Part i) (x ∷ p) q h how s = absurd h
  from_place (Sub f) (x ∷ p) q h how s = refl
