-- The table of operations keeps law.
use Rattle.op_rules.specs.TableRules.{table_rules}
use Rattle.py_safe.specs.Rules.{KeepsLaw}

abbrev pub TheTableKeepsLaw : Type 0
TheTableKeepsLaw = KeepsLaw table_rules
