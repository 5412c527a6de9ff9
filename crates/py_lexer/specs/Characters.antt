-- Characters by class, and runs of them.
use Rattle.std.specs.Prelude.{ℕ, Bool, not, ◌||◌, ◌==◌, List, take, length}
use Rattle.std.specs.Str.{bytes_eq}
use Rattle.std.specs.Char.{is_ascii_alphanumeric}
use Rattle.std.specs.List.{prefix_len}
use Rattle.unicode_ident.specs.Ident.{is_xid_continue}
use Rattle.py_lexer.specs.declared.runs.Class.{Class}
use Rattle.py_lexer.specs.declared.runs.Class.TheVariants as class

-- Blanks are spaces and tabs (reference, section 2.1.9). A comment goes on up to the line's end (2.1.3). A word goes on with XID_Continue (2.3).
-- A numeral is a run of ASCII letters, digits, underscores and dots (2.4.4).
abbrev pub belongs : Class → ℕ → Bool
belongs class.Blank c = c == 32 || c == 9
belongs class.Comment c = not (c == 10 || c == 13)
belongs class.Word c = is_xid_continue c
belongs class.Numeral c = is_ascii_alphanumeric c || c == 95 || c == 46

-- how many characters at the front are of the class
abbrev pub run_length : Class → List ℕ → ℕ
run_length class text = prefix_len (belongs class) text

abbrev pub begins : List ℕ → List ℕ → Bool
begins text front = bytes_eq (take (length front) text) front
