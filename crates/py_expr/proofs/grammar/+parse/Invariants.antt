use Rattle.py_expr.proofs.grammar.+parse.Given as goal

abbrev pub decreases-parse : goal.decreases-parse
decreases-parse l = l.fuel
