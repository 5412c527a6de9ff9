-- The rows on classes, instances and exceptions use only what they are given, what they find there and what they make.
use Rattle.std.proofs.Common.{ℕ, List, [], ◌∷◌, Option, Some, Bool, true, false, lit<}
use Rattle.std.specs.Prelude.{slice_get}
use Rattle.nu_value.specs.declared.object.Object.{Object}
use Rattle.nu_value.specs.declared.object.Object.TheVariants as object
use Rattle.nu_value.specs.declared.value.Value.{Value}
use Rattle.nu_value.specs.declared.value.Value.TheVariants as value
use Rattle.nu_value.specs.Names.{NameList}
use Rattle.nu_value.specs.Same.{object_of}
use Rattle.op_forms.specs.declared.op.Op.{Op}
use Rattle.op_forms.specs.declared.op.Op.TheVariants as op
use Rattle.op_forms.specs.declared.world.World.{World}
use Rattle.op_forms.specs.Answers.{names_of}
use Rattle.op_forms.specs.Doing.{nothing, makes}
use Rattle.op_forms.specs.Parts.{AllOf, NamesOf, OrUnset}
use Rattle.op_forms.specs.Right.{Claim, Known, Closed, Given, Right}
use Rattle.op_forms.specs.Sound.{AreNamesDistinct}
use Rattle.op_rules.specs.Classes.{is_base, class_under, class_made, class_row, attr_of, setattr_of, delattr_of, manager_of, class_of, attribute_row, class_call}
use Rattle.op_rules.specs.Exceptions.{raise_row, match_row}
use Rattle.op_rules.specs.ClassCalls.{type_row}
use Rattle.op_rules.specs.Specials.{special_row}
use Rattle.op_rules.proofs.Attributes.{attribute_right, setattr_right, delattr_right, manager_right}
use Rattle.op_rules.proofs.ClassCalls.{type_end, method_call_right}
use Rattle.op_rules.proofs.Exceptions.{exc_right, raise_end, match_end, trace_right}
use Rattle.op_rules.proofs.Specials.{special_end}
use Rattle.op_rules.proofs.Usual.{ended, failed, idle, made_right, if_right}

module _ (c : Claim) (w : World) (k : Closed c w) where
  -- ---- making a class

  -- names that a claim holds of, each once
  abbrev AreNames : NameList → Type 0
  AreNames names = NamesOf c.of names × AreNamesDistinct names

  space_at : (n : ℕ) (o : Option Object) → Known c w n o → AreNames (names_of o)
  space_at n (Some (object.Space names)) p = (p.parts, p.links)
  space_at n o p = (tt, tt)

  space_known : (v : Value) → AreNames (names_of (object_of w.heap v))
  space_known (value.Obj n) = space_at n (slice_get w.heap n) (k.objects n)
  space_known v = (tt, tt)

  under_right : (name : List ℕ) (base : ℕ) (o : Option Object) (space : Option Object) → Known c w base o → c.of (value.Obj base) → AreNames (names_of space) → Right c w (class_under w.heap name base o space)
  under_right name base (Some (object.Class own above names native)) space p q s =
      if_right c w k (is_base w.heap base native) (makes w.heap (object.Class name (Some base) (names_of space) false)) nothing
      (made_right c w k (object.Class name (Some base) (names_of space) false) ((q, s.0), ((p.sort, λ h. p.sort.there), s.1), tt))
      (idle c w k)
  under_right name base o space p q s = failed c w k 35 _ (lit< tt)

  class_made_right : (name : List ℕ) (base space : Value) → c.of base → Right c w (class_made w.heap name base space)
  class_made_right name (value.Obj n) space q = under_right name n (slice_get w.heap n) (object_of w.heap space) (k.objects n) q (space_known space)
  class_made_right name base space q = failed c w k 35 _ (lit< tt)

  -- ---- the rows

  pub class_right : (o : Op) (args : List Value) → Given c o args → Right c w (class_row o w.heap args)
  class_right o args q = ended c w k (special_row o w.heap args) (special_end c w k o args q)

  attr_right : (find : Bool) (x name : Value) → c.of x → Right c w (attr_of find w.codes w.heap x name)
  attr_right find x (value.Str name) p = attribute_right c w k find x name p
  attr_right find x name p = idle c w k

  setattr_of_right : (x name v : Value) → c.of v → Right c w (setattr_of w.heap x name v)
  setattr_of_right x (value.Str name) v p = setattr_right c w k x name v p
  setattr_of_right x name v p = idle c w k

  delattr_of_right : (x name : Value) → Right c w (delattr_of w.heap x name)
  delattr_of_right x (value.Str name) = delattr_right c w k x name
  delattr_of_right x name = idle c w k

  manager_of_right : (x name : Value) → c.of x → Right c w (manager_of w.heap x name)
  manager_of_right x (value.Str name) p = manager_right c w k x name p
  manager_of_right x name p = idle c w k

  class_of_right : (name base space : Value) → c.of base → Right c w (class_of w.heap name base space)
  class_of_right (value.Str name) base space p = class_made_right name base space p
  class_of_right name base space p = idle c w k

  pub attributes_right : (o : Op) (args : List Value) → Given c o args → Right c w (attribute_row o w.codes w.heap args)
  attributes_right op.Attr (x ∷ name ∷ []) q = attr_right false x name q.0
  attributes_right op.Find (x ∷ name ∷ []) q = attr_right true x name q.0
  attributes_right op.SetAttr (x ∷ name ∷ v ∷ []) q = setattr_of_right x name v q.1.1.0
  attributes_right op.DelAttr (x ∷ name ∷ []) q = delattr_of_right x name
  attributes_right op.Manager (x ∷ name ∷ []) q = manager_of_right x name q.0
  attributes_right op.Class (name ∷ base ∷ space ∷ []) q = class_of_right name base space q.1.0
  attributes_right op.ClassOf (x ∷ []) q = ended c w k (type_row w.heap x) (type_end c w k x)
  attributes_right op.Exc (x ∷ []) q = exc_right c w k x q.0
  attributes_right op.Raise (x ∷ []) q = ended c w k (raise_row w.heap x) (raise_end c w k x)
  attributes_right op.Match (e ∷ x ∷ []) q = ended c w k (match_row w.heap e x) (match_end c w k e x)
  attributes_right op.Trace (x ∷ []) q = trace_right c w k x q.0
  attributes_right o args q = idle c w k

  -- ---- calls

  pub class_call_right : (name : List ℕ) (receiver : Value) (args : List Value) (names : NameList) → OrUnset c.of receiver → AllOf c.of args → NamesOf c.of names → AreNamesDistinct names
      → Right c w (class_call w.heap name receiver args names)
  class_call_right name receiver args [] p q r d = method_call_right c w k name receiver args p q
  class_call_right name receiver args (n ∷ names) p q r d = idle c w k
