use Rattle.std.proofs.Common.{◌≡◌, ◌<◌, drop}
use Rattle.py_lexer.specs.Strings.{all_digits, number}
use Rattle.py_lexer.proofs.strings.scalar_of.Given as goal

abbrev pub invariant-loop-c : goal.invariant-loop-c
invariant-loop-c l = record {
  spelled : all_digits l.base (drop l.c-index l.digits) ≡ all_digits l.base l.digits;
  counted : number l.base l.code (drop l.c-index l.digits) ≡ number l.base 0 l.digits;
  below : l.code < 0x1100000;
}
