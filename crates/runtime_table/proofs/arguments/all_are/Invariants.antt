use Rattle.std.proofs.Common.{◌≡◌, drop}
use Rattle.std.specs.List.{list_all}
use Rattle.op_forms.specs.Fits.{is_of}
use Rattle.runtime_table.proofs.arguments.all_are.Given as goal

abbrev pub invariant-loop-value : goal.invariant-loop-value
invariant-loop-value l = list_all (is_of l.kind l.world) (drop l.value-index l.args) ≡ list_all (is_of l.kind l.world) l.args
