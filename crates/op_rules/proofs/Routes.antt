-- What a call is routed to gets what it may be given.
use Rattle.std.proofs.Common.{ℕ, List, [], ◌∷◌, Option, Some, Bool, true, false}
use Rattle.std.specs.Prelude.{codes, if◌then◌else◌, nat_eq, slice_get}
use Rattle.std.specs.Str.{bytes_eq}
use Rattle.nu_value.specs.declared.object.Object.{Object}
use Rattle.nu_value.specs.declared.object.Object.TheVariants as object
use Rattle.nu_value.specs.declared.value.Value.{Value}
use Rattle.nu_value.specs.declared.value.Value.TheVariants as value
use Rattle.nu_value.specs.Same.{object_of}
use Rattle.op_forms.specs.declared.op.Op.{Op}
use Rattle.op_forms.specs.declared.op.Op.TheVariants as op
use Rattle.op_forms.specs.declared.world.World.{World}
use Rattle.op_forms.specs.Parts.{AllOf, NamesOf, OrUnset}
use Rattle.op_forms.specs.Right.{Claim, Known, Closed, Given, CallOf}
use Rattle.op_rules.specs.declared.callees.Route.{Route}
use Rattle.op_rules.specs.declared.callees.Route.TheVariants.{Operation}
use Rattle.op_rules.specs.declared.family.Family.{Family}
use Rattle.op_rules.specs.declared.family.Family.TheVariants as family
use Rattle.op_rules.specs.Calls.{items_at, keywords_at, callee, given_args, given_names}
use Rattle.op_rules.specs.Families.{value_family}
use Rattle.op_rules.specs.Routes.{is_plain, by_operation, attribute_route, length_in, length_route, is_text_native, is_class_native, family_route, native_route, method_route, builtin_route, class_route, object_route, value_route, route, builtin_receiver}
use Rattle.op_rules.proofs.Calls.{Arguments, items_known, keywords_known, keywords_at_distinct}

module _ (c : Claim) (w : World) (k : Closed c w) where
  -- ---- what a call is given

  set_of : (v : Value) → c.of v → OrUnset c.of v
  set_of value.Unset p = tt
  set_of v p = p

  pub callee_known : (f : Value) (vs : List Value) → Given c op.Call (f ∷ vs) → OrUnset c.of f
  callee_known f vs q = set_of f q.0

  pub arguments_known : (f : Value) (vs : List Value) → Given c op.Call (f ∷ vs) → Arguments c w k vs []
  arguments_known f vs q = record { values = q.1; keywords = tt; distinct = tt }

  listed : (list : Value) → AllOf c.of (items_at (object_of w.heap list))
  listed (value.Obj n) = items_known c w k n (slice_get w.heap n) (k.objects n)
  listed v = tt

  named : (dict : Value) → NamesOf c.of (keywords_at (object_of w.heap dict))
  named (value.Obj n) = keywords_known c w k n (slice_get w.heap n) (k.objects n)
  named v = tt

  pub callee_listed : (f list dict : Value) → CallOf c.of (f ∷ list ∷ dict ∷ []) → OrUnset c.of f
  callee_listed f list dict q = set_of f q.0

  pub arguments_listed : (f list dict : Value) → Arguments c w k (given_args op.CallX w.heap (f ∷ list ∷ dict ∷ [])) (given_names op.CallX w.heap (f ∷ list ∷ dict ∷ []))
  arguments_listed f list dict = record { values = listed list; keywords = named dict; distinct = keywords_at_distinct (object_of w.heap dict) }

  -- ---- operations

  abbrev pub RouteOf : Route → List Value → Type 0
  RouteOf (Operation p) args = Given c p args
  RouteOf other args = Unit {0}

  if_route : (b : Bool) (r s : Route) (args : List Value) → RouteOf r args → RouteOf s args → RouteOf (if b then r else s) args
  if_route true r s args p q = p
  if_route false r s args p q = q

  by_right : (o : Op) → ((x : Value) → c.of x → Given c o (x ∷ [])) → (plain : Bool) (args : List Value) → AllOf c.of args → RouteOf (by_operation o plain args) args
  by_right o f true [] q = tt
  by_right o f true (x ∷ []) q = f x q.0
  by_right o f true (x ∷ y ∷ vs) q = tt
  by_right o f false args q = tt

  attribute_right : (plain : Bool) (args : List Value) → AllOf c.of args → RouteOf (attribute_route plain args) args
  attribute_right true (x ∷ value.Str name ∷ []) q = q
  attribute_right plain args q = tt

  length_in_right : (f : Family) (args : List Value) → RouteOf (length_in f) args
  length_in_right family.Integers args = tt
  length_in_right f args = tt

  length_right : (plain : Bool) (args : List Value) → RouteOf (length_route w.heap plain args) args
  length_right true [] = tt
  length_right true (x ∷ []) = length_in_right (value_family w.heap x) (x ∷ [])
  length_right true (x ∷ y ∷ vs) = tt
  length_right false args = tt

  family_right : (name : List ℕ) (args : List Value) → RouteOf (family_route name) args
  family_right name args =
      if_route (is_text_native name) _ _ args tt
      (if_route (is_class_native name) _ _ args tt
      (if_route (bytes_eq name (codes "_nu_order")) _ _ args tt tt))

  native_right : (name : List ℕ) (plain : Bool) (args : List Value) → AllOf c.of args → RouteOf (native_route w.heap name plain args) args
  native_right name plain args q =
      if_route (bytes_eq name (codes "len")) _ _ args (length_right plain args)
      (if_route (bytes_eq name (codes "_nu_next")) _ _ args (by_right op.Next (λ x p. (p, tt)) plain args q)
      (if_route (bytes_eq name (codes "_nu_iter")) _ _ args (by_right op.Iter (λ x p. (p, tt)) plain args q)
      (if_route (bytes_eq name (codes "_nu_getattr")) _ _ args (attribute_right plain args q)
      (if_route (bytes_eq name (codes "_nu_exc")) _ _ args (by_right op.Exc (λ x p. (p, tt)) plain args q) (family_right name args)))))

  method_right : (o : Option Object) (args : List Value) → RouteOf (method_route o) args
  method_right (Some (object.List items)) args = tt
  method_right (Some (object.Tuple items)) args = tt
  method_right (Some (object.Dict pairs)) args = tt
  method_right (Some (object.Generator code state given cells)) args = tt
  method_right o args = tt

  builtin_right : (name : List ℕ) (receiver : Value) (plain : Bool) (args : List Value) → AllOf c.of args → RouteOf (builtin_route w.heap name receiver plain args) args
  builtin_right name value.Unset plain args q = native_right name plain args q
  builtin_right name (value.Str text) plain args q = tt
  builtin_right name receiver plain args q = method_right (object_of w.heap receiver) args

  class_right : (n : ℕ) (plain : Bool) (args : List Value) → AllOf c.of args → RouteOf (class_route n plain args) args
  class_right n plain args q =
      if_route (nat_eq n 2) _ _ args (by_right op.Truth (λ x p. (p, tt)) plain args q)
      (if_route (nat_eq n 3) _ _ args tt (if_route (nat_eq n 11) _ _ args tt tt))

  object_right : (n : ℕ) (plain : Bool) (args : List Value) (o : Option Object) → AllOf c.of args → RouteOf (object_route w.heap n plain args o) args
  object_right n plain args (Some (object.Builtin name receiver)) q = builtin_right name receiver plain args q
  object_right n plain args (Some (object.Class name base own true)) q = class_right n plain args q
  object_right n plain args o q = tt

  value_right : (f : Value) (plain : Bool) (args : List Value) → AllOf c.of args → RouteOf (value_route w.heap f plain args) args
  value_right (value.Obj n) plain args q = object_right n plain args (slice_get w.heap n) q
  value_right f plain args q = tt

  pub route_right : (o : Op) (args : List Value) → AllOf c.of (given_args o w.heap args) → RouteOf (route o w.heap args) (given_args o w.heap args)
  route_right o args q = value_right (callee args) (is_plain o w.heap args) (given_args o w.heap args) q

  -- ---- the receiver of a built-in

  receiver_at : (n : ℕ) (o : Option Object) → Known c w n o → OrUnset c.of (builtin_receiver o)
  receiver_at n (Some (object.Builtin name receiver)) p = p.parts
  receiver_at n o p = tt

  pub receiver_known : (f : Value) → OrUnset c.of (builtin_receiver (object_of w.heap f))
  receiver_known (value.Obj n) = receiver_at n (slice_get w.heap n) (k.objects n)
  receiver_known f = tt
