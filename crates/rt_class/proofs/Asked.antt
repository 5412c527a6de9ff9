-- Special methods that are asked.
use Rattle.std.proofs.Common.{◌≡◌, ℕ, List, [], ap, ◌∙◌}
use Rattle.nu_value.specs.declared.object.Object.{Object}
use Rattle.nu_value.specs.declared.value.Value.{Value}
use Rattle.nu_value.specs.Same.{object_of}
use Rattle.op_forms.specs.declared.end.After.{After}
use Rattle.op_forms.specs.declared.end.OpEnd.{OpEnd}
use Rattle.op_forms.specs.declared.end.OpEnd.TheVariants as opend
use Rattle.op_forms.specs.Answers.{unbuilt}
use Rattle.op_rules.specs.declared.special.Special.TheVariants as special
use Rattle.op_rules.specs.Specials.{instance_special, asks_special, by_special}

pub by_function : (h : List Object) (x : Value) (name : List ℕ) (f : ℕ) (args items : List Value) (a : After) (other e : OpEnd)
    → special.Function f ≡ instance_special h (object_of h x) name → items ≡ args → e ≡ opend.Ask f items [] a → e ≡ by_special h x name args a other
by_function h x name f args items a other e is same end = end ∙ ap (λ t. opend.Ask f t [] a) same ∙ ap (λ s. asks_special s args a other) is

pub by_other : (h : List Object) (x : Value) (name : List ℕ) (args : List Value) (a : After) (other : OpEnd) → special.Other ≡ instance_special h (object_of h x) name → unbuilt ≡ by_special h x name args a other
by_other h x name args a other is = ap (λ s. asks_special s args a other) is
