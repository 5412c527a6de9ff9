-- The lines of the input (library reference, `input`).
use Rattle.std.specs.Prelude.{ℕ, List, [], ◌∷◌, Option, Some, None, ◌==◌, if◌then◌else◌, nat_le, length, reverse}
use Rattle.std.specs.Str.{is_utf8}

-- the next line and what stands behind it; none is left; or the next one is no line that can be read
pub data NextLine : Type 0 where
  NoLine : NextLine
  ALine : (line rest : List ℕ) → NextLine
  -- it has 1,048,576 bytes without LF, or isn't UTF-8
  BadLine : NextLine

-- the bytes before the first LF
abbrev pub before_lf : List ℕ → List ℕ
before_lf [] = []
before_lf (byte ∷ bytes) = if byte == 10 then [] else byte ∷ before_lf bytes

-- the bytes behind the first LF, if there is one
abbrev pub behind_lf : List ℕ → Option (List ℕ)
behind_lf [] = None
behind_lf (byte ∷ bytes) = if byte == 10 then Some bytes else behind_lf bytes

abbrev pub without_first_cr : List ℕ → List ℕ
without_first_cr [] = []
without_first_cr (byte ∷ bytes) = if byte == 13 then bytes else byte ∷ bytes

-- without one CR at the end
abbrev pub without_cr : List ℕ → List ℕ
without_cr line = reverse (without_first_cr (reverse line))

abbrev pub good_line : List ℕ → Option (List ℕ) → NextLine
good_line line None = ALine line []
good_line line (Some rest) = ALine (without_cr line) rest

abbrev pub checked_line : List ℕ → Option (List ℕ) → NextLine
checked_line line rest = if nat_le 1048576 (length line) then BadLine else (if is_utf8 line then good_line line rest else BadLine)

abbrev pub line_of : List ℕ → NextLine
line_of [] = NoLine
line_of (byte ∷ bytes) = checked_line (before_lf (byte ∷ bytes)) (behind_lf (byte ∷ bytes))
