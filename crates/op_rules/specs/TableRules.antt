-- The rules that the table of operations gives to meanings.
use Rattle.std.specs.Prelude.{[]}
use Rattle.op_forms.specs.Doing.{answer}
use Rattle.op_forms.specs.Fits.{fits as args_fit}
use Rattle.op_forms.specs.Rules.{Rules}
use Rattle.op_rules.specs.Binding as binding
use Rattle.op_rules.specs.Finish.{finished}
use Rattle.op_rules.specs.Start.{start_world}
use Rattle.op_rules.specs.Table.{row}

-- the rules of the table of operations
abbrev pub table_rules : Rules
table_rules = record {
  fits = args_fit;
  apply = row;
  bind = λ w f args after. answer w (binding.bind w f args [] after);
  finish = finished;
  start = start_world;
}
