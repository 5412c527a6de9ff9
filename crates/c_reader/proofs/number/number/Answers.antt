use Rattle.c_reader.proofs.Numbers.{number_behind}
use Rattle.c_reader.proofs.number.number.Goals as goal

pub returns-in_err-rest-clause-none : goal.returns-in_err-rest-clause-none
returns-in_err-rest-clause-none c =
    rw c.from_residual-in_err-rest.ensures (λ n rest s.
    c.in_err-rest.ensures.none rest (number_behind c.args.limit c.args.closing.now c.args.text.now c.in_ok-value.behind.now rest c.in_ok-value.value n c.requires.limit c.requires.closing c.in_ok-value.ensures.some s))
