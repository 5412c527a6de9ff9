-- The pieces of a text, one by one.
use Rattle.std.proofs.Common.{◌≡◌, ℕ, zero, suc, ◌+◌, ◌-◌, ◌<◌, List, [], ◌∷◌, length, take, drop, refl, ap, arith}
use Rattle.py_lexer.specs.PhysicalLines.{line_ends}
use Rattle.py_lexer.specs.Pieces.{Piece, piece_at, pieces}

pub pieces_skip : (line k : ℕ) (s : List ℕ) → pieces line k s ≡ pieces line 0 (drop k s)
pieces_skip line zero s = refl
pieces_skip line (suc k) [] = refl
pieces_skip line (suc k) (c ∷ s) = pieces_skip line k s

-- the first piece, and those behind it
pub pieces_step : (line n : ℕ) (s : List ℕ) (p : Piece) → 0 < length s → 0 < n → piece_at s ≡ (p, n)
    → pieces line 0 s ≡ record { line = line; span = take n s; piece = p } ∷ pieces (line + line_ends (take n s)) 0 (drop n s)
pieces_step line n [] p below positive e = absurd (omega arith)
pieces_step line zero (c ∷ s) p below positive e = absurd (omega arith)
pieces_step line (suc n) (c ∷ s) p below positive e =
    rw (e, minus n) (ap (λ ps. record { line = line; span = c ∷ take n s; piece = p } ∷ ps) (pieces_skip (line + line_ends (c ∷ take n s)) n s))
  where
    minus : (n : ℕ) → suc n - 1 ≡ n
    minus n = omega arith
