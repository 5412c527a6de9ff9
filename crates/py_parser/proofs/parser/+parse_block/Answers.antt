use Rattle.std.proofs.Common.{◌≡◌, List, Option, None, ap, arith}
use Rattle.py_ast.specs.declared.token.Token.{Token}
use Rattle.py_grammar.specs.declared.found.ParseEnd.{ParseEnd}
use Rattle.py_grammar.specs.declared.found.ParseEnd.TheVariants as ends
use Rattle.py_grammar.specs.Parse.{Refuses}
use Rattle.py_statements.specs.Parse.{parse}
use Rattle.py_expr.proofs.Turns.{deeper}
use Rattle.py_parser.proofs.parser.+parse_block.Goals as goal

refuses : {A : Type 0} (outcome : Option (A × List Token)) (end : ParseEnd) → outcome ≡ None → Refuses {A = Unit {0}} None end → Refuses outcome end
refuses outcome (ends.Grammar line) e h = e
refuses outcome (ends.Depth line) e h = absurd h
refuses outcome ends.Memory e h = tt

pub returns-then-fuel-eq0 : goal.returns-then-fuel-eq0
unfolding parse
returns-then-fuel-eq0 t c =
    let none : c.args.fuel ≡ 0 = omega arith in
    refuses _ c.refuse.result (ap (λ n. parse n c.args.depth c.args.tokens.now) none) c.refuse.ensures

pub returns : goal.returns
unfolding parse
returns t c = rw (deeper (λ n. parse n c.args.depth c.args.tokens.now) c.args.fuel (omega arith)) c.block.ensures
