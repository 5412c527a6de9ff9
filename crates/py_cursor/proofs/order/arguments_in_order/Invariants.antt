use Rattle.std.proofs.Common.{◌≡◌, fold, take}
use Rattle.py_grammar.specs.declared.role.Arrangement.TheVariants as n
use Rattle.py_grammar.specs.Lists.{behind_argument}
use Rattle.py_cursor.proofs.order.arguments_in_order.Given as goal

abbrev pub invariant-loop-argument : goal.invariant-loop-argument
invariant-loop-argument l = l.arrangement ≡ fold behind_argument n.Positional (take l.argument-index l.arguments)
