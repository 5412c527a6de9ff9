-- Calls of natives on classes and of the methods of generators use only what they are given, what is there and what they make.
use Rattle.std.proofs.Common.{ℕ, List, [], ◌∷◌, Option, Some, lit<}
use Rattle.std.specs.Prelude.{codes, slice_get}
use Rattle.std.specs.Str.{bytes_eq}
use Rattle.nu_value.specs.declared.object.Object.{Object}
use Rattle.nu_value.specs.declared.object.Object.TheVariants as object
use Rattle.nu_value.specs.declared.value.Value.{Value}
use Rattle.nu_value.specs.declared.value.Value.TheVariants as value
use Rattle.nu_value.specs.Same.{object_of}
use Rattle.op_forms.specs.declared.end.After.TheVariants as behind
use Rattle.op_forms.specs.declared.world.World.{World}
use Rattle.op_forms.specs.Doing.{Doing, gives, makes}
use Rattle.op_forms.specs.Parts.{AllOf, OrUnset}
use Rattle.op_forms.specs.Right.{Claim, Known, Closed, EndOf, Right}
use Rattle.op_forms.specs.Sound.{AGenerator, IsA}
use Rattle.op_rules.specs.ClassCalls.{type_row, issubclass_on, issubclass_row, isinstance_row, is_callable, callable_row, kind_of, kind_row, setattr_call, init_or_none, special_call, args_on, with_one, with_two, with_three, asking_call, native_call, send_call, close_call, throw_call, generator_call, method_on, method_call}
use Rattle.op_rules.specs.Specials.{any_special, special_length}
use Rattle.op_rules.specs.Subclasses.{class_of}
use Rattle.op_rules.proofs.Asks.{asks_right}
use Rattle.op_rules.proofs.Attributes.{setattr_right, method_of_right}
use Rattle.op_rules.proofs.Specials.{one_end, two_end, any_known, length_end}
use Rattle.op_rules.proofs.Subclasses.{class_is, class_test_right}
use Rattle.op_rules.proofs.Usual.{ended, fails, failed, idle, given_right, made_right, if_right, if_end}

module _ (c : Claim) (w : World) (k : Closed c w) where
  -- ---- what a value is

  pub type_end : (x : Value) → EndOf c w (type_row w.heap x)
  type_end x = k.classes (class_of w.heap x) (class_is c w k x)

  issubclass_at : (x : Value) (o : Option Object) (d : Value) → EndOf c w (issubclass_on w.heap x o d)
  issubclass_at (value.Obj n) (Some (object.Class name base own native)) d = class_test_right c w k n d
  issubclass_at x o d = fails c w k 35 _ (lit< tt)

  asking_right : (name : List ℕ) (args : List Value) → AllOf c.of args → EndOf c w (asking_call w.heap name args)
  asking_right name args q =
      if_end c w k (bytes_eq name (codes "isinstance")) _ _
      (two_end c w k (isinstance_row w.heap) (λ x d p r. class_test_right c w k (class_of w.heap x) d) args q)
      (if_end c w k (bytes_eq name (codes "issubclass")) _ _
      (two_end c w k (issubclass_row w.heap) (λ x d p r. issubclass_at x (object_of w.heap x) d) args q)
      (if_end c w k (bytes_eq name (codes "callable")) _ _
      (one_end c w k (callable_row w.heap) (λ x p. k.plain (value.Bool (is_callable w.heap (object_of w.heap x))) tt) args q)
      (if_end c w k (bytes_eq name (codes "type")) _ _ (one_end c w k (type_row w.heap) (λ x p. type_end x) args q)
      (if_end c w k (bytes_eq name (codes "len")) _ _ (one_end c w k (special_length w.heap) (length_end c w k) args q)
      (if_end c w k (bytes_eq name (codes "_nu_kind")) _ _
      (one_end c w k (kind_row w.heap) (λ x p. k.plain (value.Str (kind_of w.heap x)) tt) args q)
      tt)))))

  -- ---- attributes by name

  setattr_call_right : (x n v : Value) → c.of v → Right c w (setattr_call w.heap x n v)
  setattr_call_right x (value.Str name) v p = setattr_right c w k x name v p
  setattr_call_right x n v p = failed c w k 35 _ (lit< tt)

  none_right : Right c w (gives value.None)
  none_right = given_right c w k value.None (k.plain value.None tt)

  init_right : (x : Value) (o : Option Object) (name : List ℕ) → OrUnset c.of x → Right c w (init_or_none w.heap x o name)
  init_right x (Some (object.Exception class args entries fields cause)) name p =
      if_right c w k (bytes_eq name (codes "__init__")) (makes w.heap (object.Builtin name x)) (gives value.None)
      (made_right c w k (object.Builtin name x) (p, tt, tt))
      none_right
  init_right x o name p = none_right

  set_of : (v : Value) → c.of v → OrUnset c.of v
  set_of value.Unset p = tt
  set_of v p = p

  special_call_right : (x n : Value) → c.of x → Right c w (special_call w.heap x n)
  special_call_right x (value.Str name) p =
      method_of_right c w k x (any_special w.heap (object_of w.heap x) name) (init_or_none w.heap x (object_of w.heap x) name)
      (any_known c w k (object_of w.heap x) name)
      p
      (init_right x (object_of w.heap x) name (set_of x p))
  special_call_right x n p = idle c w k

  args_at : (n : ℕ) (o : Option Object) → Known c w n o → Right c w (args_on w.heap o)
  args_at n (Some (object.Exception class args entries fields cause)) p = made_right c w k (object.Tuple args) (p.parts.1, tt, tt)
  args_at n o p = idle c w k

  args_right : (e : Value) → Right c w (args_on w.heap (object_of w.heap e))
  args_right (value.Obj n) = args_at n (slice_get w.heap n) (k.objects n)
  args_right e = idle c w k

  one_right : (f : Value → Doing) → ((a : Value) → c.of a → Right c w (f a)) → (args : List Value) → AllOf c.of args → Right c w (with_one f args)
  one_right f g [] q = idle c w k
  one_right f g (a ∷ []) q = g a q.0
  one_right f g (a ∷ b ∷ vs) q = idle c w k

  two_right : (f : Value → Value → Doing) → ((a b : Value) → c.of a → c.of b → Right c w (f a b)) → (args : List Value) → AllOf c.of args → Right c w (with_two f args)
  two_right f g [] q = idle c w k
  two_right f g (a ∷ []) q = idle c w k
  two_right f g (a ∷ b ∷ []) q = g a b q.0 q.1.0
  two_right f g (a ∷ b ∷ d ∷ vs) q = idle c w k

  three_right : (f : Value → Value → Value → Doing) → ((a b d : Value) → c.of a → c.of b → c.of d → Right c w (f a b d)) → (args : List Value) → AllOf c.of args → Right c w (with_three f args)
  three_right f g [] q = idle c w k
  three_right f g (a ∷ []) q = idle c w k
  three_right f g (a ∷ b ∷ []) q = idle c w k
  three_right f g (a ∷ b ∷ d ∷ []) q = g a b d q.0 q.1.0 q.1.1.0
  three_right f g (a ∷ b ∷ d ∷ e ∷ vs) q = idle c w k

  native_right : (name : List ℕ) (args : List Value) → AllOf c.of args → Right c w (native_call w.heap name args)
  native_right name args q =
      if_right c w k (bytes_eq name (codes "setattr")) _ _ (three_right (setattr_call w.heap) (λ x n v p r s. setattr_call_right x n v s) args q)
      (if_right c w k (bytes_eq name (codes "_nu_special")) _ _ (two_right (special_call w.heap) (λ x n p r. special_call_right x n p) args q)
      (if_right c w k (bytes_eq name (codes "_nu_args")) _ _ (one_right _ (λ e p. args_right e) args q)
      (ended c w k (asking_call w.heap name args) (asking_right name args q))))

  -- ---- generators

  close_end : (n : ℕ) (args : List Value) → IsA w.heap n AGenerator → EndOf c w (close_call n args)
  close_end n [] a = (a, tt)
  close_end n (v ∷ vs) a = tt

  generator_end : (n : ℕ) (name : List ℕ) (args : List Value) → IsA w.heap n AGenerator → c.of (value.Obj n) → AllOf c.of args → EndOf c w (generator_call w.heap n name args)
  generator_end n name args a p q =
      if_end c w k (bytes_eq name (codes "send")) _ _ (one_end c w k (send_call n) (λ v r. (a, r)) args q)
      (if_end c w k (bytes_eq name (codes "close")) _ _ (close_end n args a)
      (if_end c w k (bytes_eq name (codes "throw")) _ _
      (one_end c w k (throw_call w.heap n) (λ v r. asks_right c w k (codes "_nu_throw") (value.Obj n ∷ v ∷ []) [] behind.Plain (p, (r, tt)) tt tt tt) args q)
      tt))

  method_at : (n : ℕ) (o : Option Object) (name : List ℕ) (args : List Value) → Known c w n o → c.of (value.Obj n) → AllOf c.of args → EndOf c w (method_on w.heap n o name args)
  method_at n (Some (object.Generator code state given cells)) name args p q r = generator_end n name args p.sort q r
  method_at n o name args p q r = tt

  pub method_call_right : (name : List ℕ) (receiver : Value) (args : List Value) → OrUnset c.of receiver → AllOf c.of args → Right c w (method_call w.heap name receiver args)
  method_call_right name value.Unset args p q = native_right name args q
  method_call_right name (value.Obj n) args p q =
      ended c w k (method_on w.heap n (slice_get w.heap n) name args) (method_at n (slice_get w.heap n) name args (k.objects n) p q)
  method_call_right name receiver args p q = idle c w k
