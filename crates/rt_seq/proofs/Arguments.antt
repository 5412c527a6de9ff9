-- Lists of two.
use Rattle.std.proofs.Common.{◌≡◌, ◌<◌, ◌≤◌, List, [], ◌∷◌, length, get_or, arith}

pub two : {A : Type 0} (xs : List A) (a b : A) → 2 ≤ length xs → length xs < 3 → a ≡ get_or xs 0 a → b ≡ get_or xs 1 b → xs ≡ a ∷ b ∷ []
two [] a b h k e f = absurd (omega arith)
two (x ∷ []) a b h k e f = absurd (omega arith)
two (x ∷ y ∷ []) a b h k e f = cc
two (x ∷ y ∷ z ∷ xs) a b h k e f = absurd (omega arith)
