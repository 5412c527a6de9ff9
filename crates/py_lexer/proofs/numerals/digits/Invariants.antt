use Rattle.std.proofs.Common.{◌≡◌, false, ◌+◌, ◌<◌, ◌^◌, length}
use Rattle.py_lexer.specs.declared.runs.Class.TheVariants as class
use Rattle.py_lexer.specs.Characters.{run_length}
use Rattle.py_lexer.specs.Numerals.{are_digits, value}
use Rattle.py_lexer.specs.Seen.{run}
use Rattle.py_lexer.proofs.numerals.digits.Given as goal

abbrev pub invariant-digits : goal.invariant-digits
invariant-digits l = record {
  spelled : are_digits l.base l.behind (run class.Numeral l.rest) ≡ are_digits l.base false (run class.Numeral l.text);
  counted : value l.base l.number (run class.Numeral l.rest) ≡ value l.base 0 (run class.Numeral l.text);
  below : l.number < 2 ^ 127;
  measured : l.length + run_length class.Numeral l.rest ≡ run_length class.Numeral l.text;
}

abbrev pub decreases-digits : goal.decreases-digits
decreases-digits l = length l.rest
