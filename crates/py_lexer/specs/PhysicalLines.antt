-- Physical lines (reference, section 2.1.2): a line ends with LF, CR LF or CR.
use Rattle.std.specs.Prelude.{ℕ, ◌+◌, not, ◌&&◌, ◌||◌, ◌==◌, if◌then◌else◌, List, [], ◌∷◌, slice_index}

-- the length of the line end at the front, or 0
unfoldable pub line_end : List ℕ → ℕ
line_end [] = 0
line_end (c ∷ s) = if c == 10 then 1 else (if c == 13 then (if slice_index s 0 == 10 then 2 else 1) else 0)

-- how many line ends a text has; each is counted at its last character
abbrev pub line_ends : List ℕ → ℕ
line_ends [] = 0
line_ends (c ∷ s) = if c == 10 || (c == 13 && not (slice_index s 0 == 10)) then line_ends s + 1 else line_ends s
