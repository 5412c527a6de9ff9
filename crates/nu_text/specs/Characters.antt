-- How long texts are.
use Rattle.std.specs.Prelude.{ℕ, ◌+◌, List, [], ◌∷◌, ◌||◌, if◌then◌else◌, nat_lt, nat_le}

-- how many characters a text in UTF-8 has: each has one byte outside 128 to 191
abbrev pub characters : List ℕ → ℕ
characters [] = 0
characters (byte ∷ bytes) = (if nat_lt byte 128 || nat_le 192 byte then 1 else 0) + characters bytes
