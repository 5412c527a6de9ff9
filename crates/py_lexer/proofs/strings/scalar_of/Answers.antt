use Rattle.std.proofs.Common.{sym, arith, drop}
use Rattle.py_lexer.proofs.Digits.{number_grows, no_scalar}
use Rattle.py_lexer.proofs.strings.scalar_of.Goals as goal

pub returns-then-code-gt1114111 : goal.returns-then-code-gt1114111
returns-then-code-gt1114111 c =
    let more = number_grows c.args.base c.loop-c.code (drop c.loop-c.c-index c.args.digits.now) (omega arith) in
    sym (no_scalar c.args.base c.args.digits.now (omega (arith, more, c.loop-c.invariant.counted, c.if-code-gt1114111.true)))
