-- Characters as they stand between quotation marks.
use Rattle.std.specs.Prelude.{◌≡◌, ℕ, List, ◌⊎◌, if◌then◌else◌, nat_lt, encode_utf8}
use Rattle.op_rules.specs.Quoting.{quoted_byte}

-- a single quotation mark or a double one
abbrev pub IsMark : ℕ → Type 0
IsMark mark = (mark ≡ 39) ⊎ (mark ≡ 34)

-- characters past ASCII stand as themselves
abbrev pub quoted_char : ℕ → ℕ → List ℕ
quoted_char mark c = if nat_lt c 128 then quoted_byte mark c else encode_utf8 c
