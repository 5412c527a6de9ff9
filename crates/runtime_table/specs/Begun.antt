-- How a function begins once it is bound.
use Rattle.std.specs.Prelude.{◌≡◌, ℕ, List, [], ◌∷◌, ◌++◌, Option, Some, None, length}
use Rattle.nu_value.specs.declared.object.GenState.TheVariants as gen
use Rattle.nu_value.specs.declared.object.Object.{Object}
use Rattle.nu_value.specs.declared.object.Object.TheVariants as object
use Rattle.nu_value.specs.declared.value.Value.{Value}
use Rattle.nu_value.specs.declared.value.Value.TheVariants as value
use Rattle.op_forms.specs.declared.end.After.{After}
use Rattle.op_forms.specs.declared.end.OpEnd.{OpEnd}
use Rattle.op_forms.specs.declared.end.OpEnd.TheVariants as opend
use Rattle.op_rules.specs.declared.binding.Bound.{Bound}
use Rattle.op_rules.specs.declared.binding.Bound.TheVariants.{Ready, Raise, Stop}
use Rattle.op_rules.specs.Finish.{value_after}

-- what begins behind these objects, and the objects then
abbrev pub Begun : ℕ → After → Option (ℕ × List Value) → Bound → List Object → OpEnd → List Object → Type 0
Begun f a g (Raise n args) old e new = (e ≡ opend.Raise n args) × (new ≡ old)
Begun f a g (Stop kind) old e new = (e ≡ opend.Stop kind) × (new ≡ old)
Begun f a None (Ready values) old e new = (e ≡ opend.Ask f values [] a) × (new ≡ old)
Begun f a (Some g) (Ready values) old e new = (e ≡ value_after a (value.Obj (length old))) × (new ≡ old ++ object.Generator g.0 gen.Fresh values g.1 ∷ [])
