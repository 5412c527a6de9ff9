use Rattle.std.proofs.Common.{◌≡◌, fold, take}
use Rattle.py_grammar.specs.declared.role.Stage.TheVariants as s
use Rattle.py_grammar.specs.Lists.{behind_param}
use Rattle.py_cursor.proofs.order.params_in_order.Given as goal

abbrev pub invariant-loop-param : goal.invariant-loop-param
invariant-loop-param l = l.stage ≡ fold behind_param s.Start (take l.param-index l.params)
