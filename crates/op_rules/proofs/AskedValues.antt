-- Functions of the built-in text may be asked with values of which something is claimed.
use Rattle.std.proofs.Common.{ℕ, List, [], ◌∷◌}
use Rattle.nu_value.specs.declared.value.Value.{Value}
use Rattle.nu_value.specs.Names.{NameList}
use Rattle.op_forms.specs.declared.end.After.TheVariants as behind
use Rattle.op_forms.specs.declared.world.World.{World}
use Rattle.op_forms.specs.Parts.{AllOf, NamesOf}
use Rattle.op_forms.specs.Right.{Claim, Closed, EndOf}
use Rattle.op_forms.specs.Sound.{AreNamesDistinct}
use Rattle.op_rules.specs.AskedValues.{asks_two, asks_three, asks_all}
use Rattle.op_rules.proofs.Asks.{asks_right}

module _ (c : Claim) (w : World) (k : Closed c w) where
  pub two_right : (name : List ℕ) (a b : Value) → c.of a → c.of b → EndOf c w (asks_two w.heap name a b)
  unfolding asks_two
  two_right name a b p q = asks_right c w k name (a ∷ b ∷ []) [] behind.Plain (p, (q, tt)) tt tt tt

  pub three_right : (name : List ℕ) (a b d : Value) → c.of a → c.of b → c.of d → EndOf c w (asks_three w.heap name a b d)
  unfolding asks_three
  three_right name a b d p q r = asks_right c w k name (a ∷ b ∷ d ∷ []) [] behind.Plain (p, (q, (r, tt))) tt tt tt

  pub all_right : (name : List ℕ) (args : List Value) (names : NameList) → AllOf c.of args → NamesOf c.of names → AreNamesDistinct names → EndOf c w (asks_all w.heap name args names)
  unfolding asks_all
  all_right name args names p q d = asks_right c w k name args names behind.Plain p q d tt
