use Rattle.std.proofs.Common.{◌≡◌, drop}
use Rattle.nu_value.specs.Same.{eq}
use Rattle.op_rules.specs.Views.{among_values}
use Rattle.rt_dict.proofs.views.among_values.Given as goal

abbrev pub invariant-loop-place : goal.invariant-loop-place
invariant-loop-place l =
    among_values (λ x. eq l.heap x l.value) (drop l.place l.pairs) ≡ among_values (λ x. eq l.heap x l.value) l.pairs
