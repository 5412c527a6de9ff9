use Rattle.std.proofs.Common.{◌≡◌, ◌≤◌, ◌<◌, ◌+◌, ◌^◌, length, take}
use Rattle.py_lexer.specs.Strings.{number, octal_run, octal_length}
use Rattle.py_lexer.proofs.strings.octal_number.Given as goal

abbrev pub invariant-digits : goal.invariant-digits
invariant-digits l = record {
  counted : number 8 l.number (take (octal_run l.rest) l.rest) ≡ number 8 0 (take (octal_length l.text) (take 3 l.text));
  measured : l.length + octal_run l.rest ≡ octal_length l.text;
  few : l.length + length l.rest ≤ 3;
  within : l.length + length l.rest ≤ length l.text;
  below : l.number < 8 ^ l.length;
}

abbrev pub decreases-digits : goal.decreases-digits
decreases-digits l = length l.rest
