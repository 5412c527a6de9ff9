-- Attributes are found, set and deleted with nothing but what is given, what is there and what is made.
use Rattle.std.proofs.Common.{ℕ, List, [], ◌∷◌, Option, Some, None, Bool, true, false, lit<, inr}
use Rattle.std.specs.Prelude.{◌&&◌, codes, slice_get}
use Rattle.std.specs.Str.{bytes_eq}
use Rattle.nu_text.specs.Names.{is_among}
use Rattle.nu_value.specs.declared.header.Header.{Header}
use Rattle.nu_value.specs.declared.object.Object.{Object}
use Rattle.nu_value.specs.declared.object.Object.TheVariants as object
use Rattle.nu_value.specs.declared.value.Value.{Value}
use Rattle.nu_value.specs.declared.value.Value.TheVariants as value
use Rattle.nu_value.specs.Classes.{is_under, found_in}
use Rattle.nu_value.specs.Names.{value_at}
use Rattle.nu_value.specs.Natives.{baseexception_number}
use Rattle.nu_value.specs.Same.{object_of}
use Rattle.op_forms.specs.declared.end.OpEnd.TheVariants as opend
use Rattle.op_forms.specs.declared.world.World.{World}
use Rattle.op_forms.specs.Answers.{unbuilt}
use Rattle.op_forms.specs.Doing.{Bind, Unbind, Doing, nothing, ends, changes, makes}
use Rattle.op_forms.specs.Parts.{AllOf, ValueOf}
use Rattle.op_forms.specs.Right.{Claim, Known, Closed, EndOf, Right}
use Rattle.op_forms.proofs.Bindings.{value_of}
use Rattle.op_rules.specs.declared.special.Special.{Special}
use Rattle.op_rules.specs.declared.special.Special.TheVariants as special
use Rattle.op_rules.specs.Attributes.{is_unwritten, text_methods, has_method, is_open, absent, unknown, unwritten, gives_or, method_or, bound_or, first_or_none, exception_attribute, class_attribute, scope_of, plain_attribute, object_attribute, value_attribute, attribute, may_change, may_name, set_on, setattr_row, own_names, remove_name, delete_on, delattr_row, no_manager, method_of, manager_row}
use Rattle.op_rules.specs.Specials.{any_special}
use Rattle.op_rules.specs.Subclasses.{class_of}
use Rattle.op_rules.proofs.Specials.{SpecialOf, found_known, any_known}
use Rattle.op_rules.proofs.Subclasses.{class_is}
use Rattle.op_rules.proofs.Usual.{ended, fails, failed, idle, given_right, change_right, made_right, if_right, if_end}

module _ (c : Claim) (w : World) (k : Closed c w) where
  -- ---- what isn't there

  absent_end : (find : Bool) (x : Value) (name : List ℕ) → EndOf c w (absent find w.heap x name)
  absent_end true x name = k.plain value.None tt
  absent_end false x name = fails c w k 25 _ (lit< tt)

  absent_right : (find : Bool) (x : Value) (name : List ℕ) → Right c w (ends (absent find w.heap x name))
  absent_right find x name = ended c w k (absent find w.heap x name) (absent_end find x name)

  unknown_end : (find : Bool) → EndOf c w (unknown find)
  unknown_end true = k.plain value.None tt
  unknown_end false = tt

  unknown_right : (find : Bool) → Right c w (ends (unknown find))
  unknown_right find = ended c w k (unknown find) (unknown_end find)

  unwritten_end : (find : Bool) (o : Option Object) → EndOf c w (unwritten find o)
  unwritten_end true o = if_end c w k (is_open o) unbuilt (opend.Give value.None) tt (k.plain value.None tt)
  unwritten_end false o = tt

  unwritten_right : (find : Bool) (o : Option Object) → Right c w (ends (unwritten find o))
  unwritten_right find o = ended c w k (unwritten find o) (unwritten_end find o)

  -- ---- what is there

  gives_or_right : (v : Option Value) (d : Doing) → ValueOf c.of v → Right c w d → Right c w (gives_or v d)
  gives_or_right None d p q = q
  gives_or_right (Some v) d p q = given_right c w k v p

  method_at : (x : Value) (f : ℕ) (o : Option Object) → Known c w f o → c.of x → c.of (value.Obj f) → Right c w (method_or w.heap x (value.Obj f) o)
  method_at x f (Some (object.Function code defaults keywords cells)) p q r = made_right c w k (object.Method x f) ((q, r), p.sort, tt)
  method_at x f o p q r = given_right c w k (value.Obj f) r

  method_right : (x v : Value) → c.of x → c.of v → Right c w (method_or w.heap x v (object_of w.heap v))
  method_right x (value.Obj f) q r = method_at x f (slice_get w.heap f) (k.objects f) q r
  method_right x v q r = given_right c w k v r

  bound_right : (x : Value) (v : Option Value) (d : Doing) → c.of x → ValueOf c.of v → Right c w d → Right c w (bound_or w.heap x v d)
  bound_right x None d p q r = r
  bound_right x (Some v) d p q r = method_right x v p q

  first_of_all : (vs : List Value) → AllOf c.of vs → c.of (first_or_none vs)
  first_of_all [] p = k.plain value.None tt
  first_of_all (v ∷ vs) p = p.0

  exception_right : (find : Bool) (n : ℕ) (name : List ℕ) (class : ℕ) (args : List Value) → c.of (value.Obj n) → AllOf c.of args → Right c w (exception_attribute find w.heap n name class args)
  exception_right find n name class args p q =
      if_right c w k (bytes_eq name (codes "args")) _ _ (made_right c w k (object.Tuple args) (q, tt, tt))
      (if_right c w k (bytes_eq name (codes "value") && is_under w.heap (Some class) 34) _ _
      (given_right c w k (first_or_none args) (first_of_all args q))
      (if_right c w k (bytes_eq name (codes "__init__")) _ _ (made_right c w k (object.Builtin name (value.Obj n)) (p, tt, tt)) (absent_right find (value.Obj n) name)))

  class_right : (find : Bool) (n : ℕ) (name : List ℕ) (native : Bool) → Right c w (class_attribute find w.heap n name native)
  class_right find n name native =
      if_right c w k (bytes_eq name (codes "__init__") && is_under w.heap (Some n) baseexception_number) _ _
      (made_right c w k (object.Builtin name value.Unset) (tt, tt, tt))
      (if_right c w k native (ends (unknown find)) (ends (absent find w.heap (value.Obj n) name)) (unknown_right find) (absent_right find (value.Obj n) name))

  scope_end : (h : Option Header) → EndOf c w (scope_of h)
  scope_end None = tt
  scope_end (Some h) = k.plain (value.Str h.scope) tt

  plain_right : (find : Bool) (n : ℕ) (name : List ℕ) (o : Option Object) → c.of (value.Obj n) → Right c w (plain_attribute find w.heap n name o)
  plain_right find n name o q =
      if_right c w k (has_method o name) (makes w.heap (object.Builtin name (value.Obj n))) (ends (unknown find))
      (made_right c w k (object.Builtin name (value.Obj n)) (q, tt, tt))
      (unknown_right find)

  object_right : (find : Bool) (n : ℕ) (name : List ℕ) (o : Option Object) → Known c w n o → c.of (value.Obj n) → Right c w (object_attribute find w.codes w.heap n name o)
  object_right find n name (Some (object.Instance class fields)) p q =
      gives_or_right (value_at fields name) _ (value_of c.of fields name p.parts.1)
      (bound_right (value.Obj n) (found_in w.heap class name) _ q (found_known c w k class name) (absent_right find (value.Obj n) name))
  object_right find n name (Some (object.Exception class args entries fields cause)) p q =
      gives_or_right (value_at fields name) _ (value_of c.of fields name p.parts.2)
      (bound_right (value.Obj n) (found_in w.heap class name) _ q (found_known c w k class name)
      (exception_right find n name class args q p.parts.1))
  object_right find n name (Some (object.Class own base names native)) p q =
      if_right c w k (bytes_eq name (codes "__name__")) _ _ (given_right c w k (value.Str own) (k.plain (value.Str own) tt))
      (gives_or_right (found_in w.heap n name) _ (found_known c w k n name) (class_right find n name native))
  object_right find n name (Some (object.Function code defaults keywords cells)) p q =
      if_right c w k (bytes_eq name (codes "__name__")) _ _ (ended c w k (scope_of (slice_get w.codes code)) (scope_end (slice_get w.codes code))) (unknown_right find)
  object_right find n name o p q = plain_right find n name o q

  value_right : (find : Bool) (x : Value) (name : List ℕ) → c.of x → Right c w (value_attribute find w.codes w.heap x name)
  value_right find (value.Obj n) name q = object_right find n name (slice_get w.heap n) (k.objects n) q
  value_right find (value.Str text) name q =
      if_right c w k (is_among text_methods name) _ _ (made_right c w k (object.Builtin name (value.Str text)) (q, tt, tt)) (unknown_right find)
  value_right find x name q = unknown_right find

  pub attribute_right : (find : Bool) (x : Value) (name : List ℕ) → c.of x → Right c w (attribute find w.codes w.heap x name)
  attribute_right find x name q =
      if_right c w k (is_unwritten name) _ _ (unwritten_right find (object_of w.heap x))
      (if_right c w k (bytes_eq name (codes "__class__")) _ _
      (given_right c w k (value.Obj (class_of w.heap x)) (k.classes (class_of w.heap x) (class_is c w k x)))
      (value_right find x name q))

  -- ---- setting and deleting

  set_on_right : (n : ℕ) (name : List ℕ) (v : Value) → c.of v → Right c w (set_on w.heap n name v)
  set_on_right n name v p =
      if_right c w k (may_name name && may_change w.heap name (slice_get w.heap n)) (changes n (Bind name v)) nothing
      (change_right c w k n (Bind name v) (p, inr tt))
      (idle c w k)

  pub setattr_right : (x : Value) (name : List ℕ) (v : Value) → c.of v → Right c w (setattr_row w.heap x name v)
  setattr_right (value.Obj n) name v p = set_on_right n name v p
  setattr_right x name v p = idle c w k

  remove_right : (n : ℕ) (name : List ℕ) (v : Option Value) → Right c w (remove_name w.heap n name v)
  remove_right n name None = failed c w k 25 _ (lit< tt)
  remove_right n name (Some v) = change_right c w k n (Unbind name) (tt, inr tt)

  delete_right : (n : ℕ) (name : List ℕ) → Right c w (delete_on w.heap n name)
  delete_right n name =
      if_right c w k (may_name name && may_change w.heap name (slice_get w.heap n)) (remove_name w.heap n name (value_at (own_names (slice_get w.heap n)) name)) nothing
      (remove_right n name (value_at (own_names (slice_get w.heap n)) name))
      (idle c w k)

  pub delattr_right : (x : Value) (name : List ℕ) → Right c w (delattr_row w.heap x name)
  delattr_right (value.Obj n) name = delete_right n name
  delattr_right x name = idle c w k

  -- ---- special methods by their names

  pub method_of_right : (x : Value) (s : Special) (d : Doing) → SpecialOf c w s → c.of x → Right c w d → Right c w (method_of w.heap x s d)
  method_of_right x special.Absent d p q r = r
  method_of_right x (special.Function f) d p q r = made_right c w k (object.Method x f) ((q, p.0), p.1, tt)
  method_of_right x special.Other d p q r = idle c w k

  pub manager_right : (x : Value) (name : List ℕ) → c.of x → Right c w (manager_row w.heap x name)
  manager_right x name q =
      method_of_right x (any_special w.heap (object_of w.heap x) name) (ends (no_manager w.heap x)) (any_known c w k (object_of w.heap x) name) q (failed c w k 35 _ (lit< tt))
