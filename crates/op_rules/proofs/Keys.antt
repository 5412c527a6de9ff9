-- A key of a value that is there, or an end that uses only what it is given.
use Rattle.std.proofs.Common.{◌≡◌, List, Ok, Err, Bool, true, false, refl, arith, length, lit<, inl}
use Rattle.std.specs.Prelude.{if◌then◌else◌}
use Rattle.std.proofs.lemmas.Bool.Decides.{nat_tests}
use Rattle.nu_value.specs.declared.keyed.KeyEnd.{KeyEnd}
use Rattle.nu_value.specs.declared.keyed.KeyEnd.TheVariants as end
use Rattle.nu_value.specs.declared.object.Object.{Object}
use Rattle.nu_value.specs.declared.value.Value.{Value}
use Rattle.nu_value.specs.declared.value.Value.TheVariants as value
use Rattle.nu_value.specs.Keyed.{Keyed, key}
use Rattle.op_forms.specs.declared.world.World.{World}
use Rattle.op_forms.specs.Answers.{unbuilt}
use Rattle.op_forms.specs.Fits.{is_in}
use Rattle.op_forms.specs.Right.{Claim, Closed, EndOf}
use Rattle.op_forms.specs.Sound.{IsIn, HasKey}
use Rattle.op_rules.specs.Keys.{no_key, KeyOr, key_or, key_or_end, key_error}
use Rattle.op_rules.proofs.Usual.{fails}

-- what is known of a value's key, or of the end in its place
abbrev pub KeyOf : Claim → World → Value → KeyOr → Type 0
KeyOf c w v (Ok k) = HasKey w.heap k v
KeyOf c w v (Err e) = EndOf c w e

is_there : (h : List Object) (v : Value) → is_in (length h) v ≡ true → IsIn h v
is_there h value.Unset e = absurd (cc)
is_there h (value.Obj n) e = grind (arith, nat_tests)
is_there h v e = tt

module _ (c : Claim) (w : World) (k : Closed c w) where
  no_key_end : (v : Value) (e : KeyEnd) → EndOf c w (no_key w.heap v e)
  no_key_end v end.Unhashable = fails c w k 35 _ (lit< tt)
  no_key_end v end.Unbuilt = tt
  no_key_end v end.Depth = tt
  no_key_end v end.Memory = tt

  key_known : (v : Value) (a : Keyed) → IsIn w.heap v → key w.heap v ≡ a → KeyOf c w v (key_or w.heap v a)
  key_known v (Ok x) p e = (p, e)
  key_known v (Err x) p e = no_key_end v x

  known_if : (b : Bool) (v : Value) → is_in (length w.heap) v ≡ b → KeyOf c w v (if b then key_or w.heap v (key w.heap v) else Err unbuilt)
  known_if true v e = key_known v (key w.heap v) (is_there w.heap v e) refl
  known_if false v e = tt

  pub key_right : (v : Value) → KeyOf c w v (key_or_end w.heap v)
  key_right v = known_if (is_in (length w.heap) v) v refl

  pub key_error_end : (v : Value) → c.of v → EndOf c w (key_error v)
  key_error_end v p = (inl (k.natives 29 (lit< tt)), (p, tt))
