-- Functions of the built-in text that are asked with two values, with three, or with a list of them.
use Rattle.std.specs.Prelude.{ℕ, List, [], ◌∷◌}
use Rattle.nu_value.specs.declared.object.Object.{Object}
use Rattle.nu_value.specs.declared.value.Value.{Value}
use Rattle.nu_value.specs.Names.{NameList}
use Rattle.op_forms.specs.declared.end.After.TheVariants as behind
use Rattle.op_forms.specs.declared.end.OpEnd.{OpEnd}
use Rattle.op_rules.specs.Asking.{asks}

unfoldable pub asks_two : List Object → List ℕ → Value → Value → OpEnd
asks_two h name a b = asks h name (a ∷ b ∷ []) [] behind.Plain

unfoldable pub asks_three : List Object → List ℕ → Value → Value → Value → OpEnd
asks_three h name a b c = asks h name (a ∷ b ∷ c ∷ []) [] behind.Plain

unfoldable pub asks_all : List Object → List ℕ → List Value → NameList → OpEnd
asks_all h name args names = asks h name args names behind.Plain
