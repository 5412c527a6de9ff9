-- The class of a value is there, and tests of classes use nothing else.
use Rattle.std.proofs.Common.{ℕ, List, [], ◌∷◌, Option, Some, None, true, false, lit<}
use Rattle.std.specs.Prelude.{slice_get}
use Rattle.nu_value.specs.declared.object.Object.{Object}
use Rattle.nu_value.specs.declared.object.Object.TheVariants as object
use Rattle.nu_value.specs.declared.value.Value.{Value}
use Rattle.nu_value.specs.declared.value.Value.TheVariants as value
use Rattle.nu_value.specs.Same.{object_of}
use Rattle.op_forms.specs.declared.end.OpEnd.{OpEnd}
use Rattle.op_forms.specs.declared.world.World.{World}
use Rattle.op_forms.specs.Right.{Claim, Known, Closed, EndOf}
use Rattle.op_forms.specs.Sound.{AClass, IsA}
use Rattle.op_rules.specs.Comparisons.{give_bool}
use Rattle.op_rules.specs.Subclasses.{object_class, class_of, is_under_value, item_test, any_of, value_test, class_test}
use Rattle.op_rules.proofs.Usual.{fails, if_end}

module _ (c : Claim) (w : World) (k : Closed c w) where
  object_class_is : (n : ℕ) (o : Option Object) → Known c w n o → IsA w.heap (object_class o) AClass
  object_class_is n None p = k.natives 0 (lit< tt)
  object_class_is n (Some (object.Tuple items)) p = k.natives 5 (lit< tt)
  object_class_is n (Some (object.List items)) p = k.natives 6 (lit< tt)
  object_class_is n (Some (object.Dict pairs)) p = k.natives 7 (lit< tt)
  object_class_is n (Some (object.Range start stop step)) p = k.natives 8 (lit< tt)
  object_class_is n (Some (object.Function code defaults keywords cells)) p = k.natives 9 (lit< tt)
  object_class_is n (Some (object.Method receiver function)) p = k.natives 10 (lit< tt)
  object_class_is n (Some (object.Class name base own native)) p = k.natives 11 (lit< tt)
  object_class_is n (Some (object.Instance class fields)) p = p.links.0
  object_class_is n (Some (object.Generator code state given cells)) p = k.natives 12 (lit< tt)
  object_class_is n (Some (object.Iterator over place size over_now)) p = k.natives 13 (lit< tt)
  object_class_is n (Some (object.View dict kind)) p = k.natives 14 (lit< tt)
  object_class_is n (Some (object.Builtin name receiver)) p = k.natives 15 (lit< tt)
  object_class_is n (Some (object.Trace exception)) p = k.natives 16 (lit< tt)
  object_class_is n (Some (object.Cell v)) p = k.natives 17 (lit< tt)
  object_class_is n (Some (object.Space names)) p = k.natives 18 (lit< tt)
  object_class_is n (Some (object.Exception class args entries fields cause)) p = p.links.0

  pub class_is : (v : Value) → IsA w.heap (class_of w.heap v) AClass
  class_is value.Unset = k.natives 0 (lit< tt)
  class_is value.None = k.natives 1 (lit< tt)
  class_is (value.Bool b) = k.natives 2 (lit< tt)
  class_is (value.Int z) = k.natives 3 (lit< tt)
  class_is (value.Str text) = k.natives 4 (lit< tt)
  class_is (value.Obj n) = object_class_is n (slice_get w.heap n) (k.objects n)

  item_right : (own : ℕ) (v : Value) (o : Option Object) (rest : OpEnd) → EndOf c w rest → EndOf c w (item_test w.heap own v o rest)
  item_right own v (Some (object.Class name base names native)) rest p =
      if_end c w k (is_under_value w.heap own v) (give_bool true) rest (k.plain (value.Bool true) tt) p
  item_right own v (Some (object.Tuple items)) rest p = tt
  item_right own v o rest p = fails c w k 35 _ (lit< tt)

  any_right : (own : ℕ) (vs : List Value) → EndOf c w (any_of w.heap own vs)
  any_right own [] = k.plain (value.Bool false) tt
  any_right own (v ∷ vs) = item_right own v (object_of w.heap v) (any_of w.heap own vs) (any_right own vs)

  value_test_right : (own : ℕ) (x : Value) (o : Option Object) → EndOf c w (value_test w.heap own x o)
  value_test_right own x (Some (object.Tuple items)) = any_right own items
  value_test_right own x o = item_right own x o (give_bool false) (k.plain (value.Bool false) tt)

  pub class_test_right : (own : ℕ) (x : Value) → EndOf c w (class_test w.heap own x)
  class_test_right own x = value_test_right own x (object_of w.heap x)
