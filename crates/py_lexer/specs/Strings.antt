-- String literals (reference, section 2.4.1), with no prefix or that of a raw string. An escape by name, and one that isn't listed, is refused.
use Rattle.std.specs.Prelude.{ℕ, zero, suc, ◌+◌, ◌-◌, ◌*◌, Bool, true, false, ◌&&◌, ◌||◌, ◌==◌, nat_lt, if◌then◌else◌, List, [], ◌∷◌, ◌++◌, take, drop, length, Option, Some, None, slice_index}
use Rattle.std.specs.Char.{digit_value}
use Rattle.std.specs.List.{prefix_len}
use lib.Utf8.{scalar}
use Rattle.py_lexer.specs.Characters.{begins}
use Rattle.py_lexer.specs.PhysicalLines.{line_end}
use Rattle.py_lexer.specs.declared.strings.Literal.{Literal}
use Rattle.py_lexer.specs.Numerals.{is_digit}

-- ---- escapes

-- the characters that an escape stands for, and its length
abbrev pub Escape : Type 0
Escape = List ℕ × ℕ

-- behind a backslash, this letter stands for that character
unfoldable pub simple_escape : ℕ → Option ℕ
simple_escape c =
    if c == 92 || c == 39 || c == 34 then Some c else (
    if c == 97 then Some 7 else (if c == 98 then Some 8 else (if c == 102 then Some 12 else (
    if c == 110 then Some 10 else (if c == 114 then Some 13 else (if c == 116 then Some 9 else (
    if c == 118 then Some 11 else None)))))))

-- how many hexadecimal digits stand behind the letter
unfoldable pub hex_length : ℕ → Option ℕ
hex_length c = if c == 120 then Some 2 else (if c == 117 then Some 4 else (if c == 85 then Some 8 else None))

abbrev pub all_digits : ℕ → List ℕ → Bool
all_digits base [] = true
all_digits base (c ∷ s) = is_digit base c && all_digits base s

-- the number that n and the digits after it stand for
abbrev pub number : ℕ → ℕ → List ℕ → ℕ
number base n [] = n
number base n (c ∷ s) = number base (n * base + digit_value c) s

-- the character that the digits name, which is no surrogate and at most 10ffff
unfoldable pub scalar_of : ℕ → List ℕ → Option ℕ
scalar_of base s = if all_digits base s && scalar (number base 0 s) then Some (number base 0 s) else None

abbrev pub one : Option ℕ → ℕ → Option Escape
one None n = None
one (Some c) n = Some (c ∷ [], n)

-- n hexadecimal digits
unfoldable pub hex : ℕ → List ℕ → Option Escape
hex n s = if nat_lt (length s) n then None else one (scalar_of 16 (take n s)) (n + 2)

abbrev pub octal_run : List ℕ → ℕ
octal_run s = prefix_len (is_digit 8) s

abbrev pub octal_length : List ℕ → ℕ
octal_length s = octal_run (take 3 s)

-- one to three octal digits
unfoldable pub octal : List ℕ → Option Escape
octal s = one (scalar_of 8 (take (octal_length s) s)) (octal_length s + 1)

abbrev pub hex_by : Option ℕ → List ℕ → Option Escape
hex_by None s = None
hex_by (Some n) s = hex n s

abbrev pub simple_by : Option ℕ → List ℕ → Option Escape
simple_by (Some c) s = Some (c ∷ [], 2)
simple_by None [] = None
simple_by None (c ∷ s) = if is_digit 8 c then octal (c ∷ s) else hex_by (hex_length c) s

-- An escape, from behind its backslash: a line end stands for nothing.
unfoldable pub escape : List ℕ → Option Escape
escape [] = None
escape (c ∷ s) = if nat_lt 0 (line_end (c ∷ s)) then Some ([], line_end (c ∷ s) + 1) else simple_by (simple_escape c) (c ∷ s)

-- in a raw string a backslash and the next character both stand, a line end as LF
unfoldable pub raw_escape : List ℕ → Option Escape
raw_escape [] = None
raw_escape (c ∷ s) = if nat_lt 0 (line_end (c ∷ s)) then Some (92 ∷ 10 ∷ [], line_end (c ∷ s) + 1) else Some (92 ∷ c ∷ [], 2)

-- ---- literals

-- A part of a literal: what it stands for, how far on in it the first refused escape is, and its length.
pub record Part : Type 0 where
  pub text : List ℕ
  pub refused : Option ℕ
  pub length : ℕ

abbrev pub part : List ℕ → ℕ → Part
part text n = record { text = text; refused = None; length = n }

abbrev pub earlier : Option ℕ → ℕ → Option ℕ → Option ℕ
earlier (Some k) n later = Some k
earlier None n None = None
earlier None n (Some k) = Some (n + k)

-- a part, and what comes behind it
abbrev pub join : Part → Part → Part
join p q = record { text = p.text ++ q.text; refused = earlier p.refused p.length q.refused; length = p.length + q.length }

abbrev pub behind : Part → Option Part → Option Part
behind p None = None
behind p (Some q) = Some (join p q)

-- a refused escape has a backslash and a character
abbrev pub escaped : Option Escape → Part
escaped (Some e) = part e.0 e.1
escaped None = record { text = []; refused = Some 0; length = 2 }

abbrev pub closing : Literal → List ℕ
closing l = if l.triple then l.quote ∷ l.quote ∷ l.quote ∷ [] else l.quote ∷ []

-- a backslash is never a literal's last character
abbrev pub at_backslash : Literal → List ℕ → Option Part
at_backslash l [] = None
at_backslash l (c ∷ s) = Some (escaped (if l.raw then raw_escape (c ∷ s) else escape (c ∷ s)))

-- What stands at a place that doesn't close the literal, if the literal goes on there: between three quotes a line end stands for LF.
unfoldable pub item : Literal → List ℕ → Option Part
item l [] = None
item l (c ∷ s) =
    if nat_lt 0 (line_end (c ∷ s)) then (if l.triple then Some (part (10 ∷ []) (line_end (c ∷ s))) else None)
    else (if c == 92 then at_backslash l s else Some (part (c ∷ []) 1))

abbrev pub and_then_body : Option Part → (ℕ → Option Part) → Option Part
and_then_body None more = None
and_then_body (Some p) more = behind (record p { length = 1 }) (more (p.length - 1))

-- A literal's body with its closing quotes, if it is closed. The first characters are passed over, as parts of an item before.
abbrev pub body : Literal → ℕ → List ℕ → Option Part
body l skip [] = None
body l (suc skip) (c ∷ s) = behind (part [] 1) (body l skip s)
body l zero (c ∷ s) =
    if begins (c ∷ s) (closing l) then Some (part [] (length (closing l)))
    else and_then_body (item l (c ∷ s)) (λ skip. body l skip s)

abbrev pub is_quote : ℕ → Bool
is_quote c = c == 39 || c == 34

-- the prefix of a raw string, directly before a quote
abbrev pub is_raw : List ℕ → List ℕ → Bool
is_raw [] s = false
is_raw (r ∷ more) s = (r == 114 || r == 82) && (length more == 0) && is_quote (slice_index s 0)

-- the literal that starts at a quote, of which three open one that three close
unfoldable pub literal : Bool → List ℕ → Option Part
literal raw s =
    let l : Literal = record { quote = slice_index s 0; raw = raw; triple = begins s (slice_index s 0 ∷ slice_index s 0 ∷ slice_index s 0 ∷ []) } in
    behind (part [] (length (closing l))) (body l 0 (drop (length (closing l)) s))
