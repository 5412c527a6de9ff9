-- A function of the built-in text may be asked with arguments of which something is claimed.
use Rattle.std.proofs.Common.{ℕ, List, Option, Some, None}
use Rattle.std.specs.Prelude.{slice_get}
use Rattle.nu_value.specs.declared.object.Object.{Object}
use Rattle.nu_value.specs.declared.object.Object.TheVariants as object
use Rattle.nu_value.specs.declared.value.Value.{Value}
use Rattle.nu_value.specs.declared.value.Value.TheVariants as value
use Rattle.nu_value.specs.Names.{NameList, value_at}
use Rattle.op_forms.specs.declared.end.After.{After}
use Rattle.op_forms.specs.declared.world.World.{World}
use Rattle.op_forms.specs.Answers.{names_of}
use Rattle.op_forms.specs.Parts.{AllOf, NamesOf, ValueOf}
use Rattle.op_forms.specs.Right.{Claim, Known, Closed, AfterOf, EndOf}
use Rattle.op_forms.specs.Sound.{AFunction, IsA, AreNamesDistinct}
use Rattle.op_forms.proofs.Bindings.{value_of}
use Rattle.op_rules.specs.Asking.{built_ins, function_at, function_of, built_in, asked, asks}

module _ (c : Claim) (w : World) (k : Closed c w) where
  names_known : (n : ℕ) (o : Option Object) → Known c w n o → NamesOf c.of (names_of o)
  names_known n (Some (object.Space names)) p = p.parts
  names_known n o p = tt

  -- the value of a name in a space is one that is claimed
  pub value_known : (n : ℕ) (name : List ℕ) → ValueOf c.of (value_at (names_of (slice_get w.heap n)) name)
  value_known n name = value_of c.of (names_of (slice_get w.heap n)) name (names_known n (slice_get w.heap n) (k.objects n))

  -- a function that may be asked
  abbrev pub MayAsk : Option ℕ → Type 0
  MayAsk None = Unit {0}
  MayAsk (Some f) = IsA w.heap f AFunction × c.asked f

  function_known : (n : ℕ) (o : Option Object) → Known c w n o → c.of (value.Obj n) → MayAsk (function_at n o)
  function_known n (Some (object.Function code defaults keywords cells)) p q = (p.sort, k.asked n q)
  function_known n o p q = tt

  value_asked : (v : Option Value) → ValueOf c.of v → MayAsk (function_of w.heap v)
  value_asked (Some (value.Obj n)) p = function_known n (slice_get w.heap n) (k.objects n) p
  value_asked v p = tt

  asked_right : (f : Option ℕ) (args : List Value) (names : NameList) (a : After) → MayAsk f → AllOf c.of args → NamesOf c.of names → AreNamesDistinct names → AfterOf c w a
      → EndOf c w (asked f args names a)
  asked_right None args names a p q r d s = tt
  asked_right (Some f) args names a p q r d s = record { function = p.0; known = p.1; args = q; names = r; distinct = d; after = s }

  pub asks_right : (name : List ℕ) (args : List Value) (names : NameList) (a : After) → AllOf c.of args → NamesOf c.of names → AreNamesDistinct names → AfterOf c w a
      → EndOf c w (asks w.heap name args names a)
  asks_right name args names a q r d s =
      asked_right (built_in w.heap name) args names a (value_asked (value_at (names_of (slice_get w.heap built_ins)) name) (value_known built_ins name)) q r d s
