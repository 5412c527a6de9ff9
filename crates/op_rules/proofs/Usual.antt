-- The usual doings are right where what they use is.
use Rattle.std.proofs.Common.{ℕ, ◌<◌, List, Bool, true, false, length, inl}
use Rattle.std.specs.Prelude.{◌⊎◌, if◌then◌else◌, slice_get}
use Rattle.nu_value.specs.declared.object.Object.{Object}
use Rattle.nu_value.specs.declared.value.Value.{Value}
use Rattle.nu_value.specs.declared.value.Value.TheVariants as value
use Rattle.nu_value.specs.Natives.{native_classes}
use Rattle.op_forms.specs.declared.end.OpEnd.{OpEnd}
use Rattle.op_forms.specs.declared.end.OpEnd.TheVariants as opend
use Rattle.op_forms.specs.declared.world.World.{World}
use Rattle.op_forms.specs.Doing.{Change, Doing, nothing, ends, gives, changes, changes_giving, makes}
use Rattle.op_forms.specs.Parts.{PartsOf}
use Rattle.op_forms.specs.Right.{Claim, Closed, EndOf, ChangeOf, KeepsTexts, NewOf, Right}
use Rattle.op_forms.specs.Sound.{LinksIn}
use Rattle.op_rules.specs.Kinds.{raised}

module _ (c : Claim) (w : World) (k : Closed c w) where
  pub ended : (e : OpEnd) → EndOf c w e → Right c w (ends e)
  ended e p = λ news. record { end = p; set = tt; made = tt }

  pub fails : (n : ℕ) (text : List ℕ) → n < length native_classes → EndOf c w (raised n text)
  fails n text small = (inl (k.natives n small), (k.plain (value.Str text) tt, tt))

  pub failed : (n : ℕ) (text : List ℕ) → n < length native_classes → Right c w (ends (raised n text))
  failed n text small = ended (raised n text) (fails n text small)

  pub idle : Right c w nothing
  idle = ended _ tt

  pub given_right : (v : Value) → c.of v → Right c w (gives v)
  given_right v p = ended (opend.Give v) p

  pub change_right : (n : ℕ) (x : Change) → ChangeOf c w x × (c.of (value.Obj n) ⊎ KeepsTexts x (slice_get w.heap n)) → Right c w (changes n x)
  change_right n x p = λ news. record { end = k.plain value.None tt; set = p; made = tt }

  pub giving_right : (n : ℕ) (x : Change) (v : Value) → ChangeOf c w x × (c.of (value.Obj n) ⊎ KeepsTexts x (slice_get w.heap n)) → c.of v → Right c w (changes_giving n x v)
  giving_right n x v p q = λ news. record { end = q; set = p; made = tt }

  pub made_right : (o : Object) → PartsOf c.of o × LinksIn (length w.codes) w.heap (length w.heap) o × NewOf c w o → Right c w (makes w.heap o)
  made_right o p = λ news. record { end = news.0; set = tt; made = (p, tt) }

  pub if_right : (b : Bool) (d e : Doing) → Right c w d → Right c w e → Right c w (if b then d else e)
  if_right true d e p q = p
  if_right false d e p q = q

  pub if_end : (b : Bool) (d e : OpEnd) → EndOf c w d → EndOf c w e → EndOf c w (if b then d else e)
  if_end true d e p q = p
  if_end false d e p q = q
