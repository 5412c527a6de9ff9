-- What is found is what the nearest class has.
use Rattle.std.proofs.Common.{◌≡◌, ℕ, List, [], ◌∷◌, Option, Some, None, Bool, true, false, refl, ap, ◌∙◌}
use Rattle.std.specs.Prelude.{if◌then◌else◌, slice_get}
use Rattle.nu_value.specs.declared.object.Object.{Object}
use Rattle.nu_value.specs.declared.object.Object.TheVariants as object
use Rattle.nu_value.specs.declared.value.Value.{Value}
use Rattle.nu_value.specs.declared.value.Value.TheVariants as value
use Rattle.nu_value.specs.Classes.{classes_from, is_under, first_of, first_named}
use Rattle.nu_value.specs.Names.{NameList}
use Rattle.op_rules.specs.ClassCalls.{isinstance_row}
use Rattle.op_rules.specs.Comparisons.{give_bool}
use Rattle.op_rules.specs.Subclasses.{class_of, value_test}
use Rattle.rt_class.specs.Laws.{own_value, AllLack, Nearest, FoundIsNearest}

nearest : (h : List Object) (classes : List ℕ) (name : List ℕ) (v : Value) → first_named h classes name ≡ Some v → Nearest h classes name v
nearest h [] name v e = absurd (cc)
nearest h (c ∷ classes) name v e = by (λ f. nearest h classes name v f) (own_value h c name) refl e
  where
    by : (first_named h classes name ≡ Some v → Nearest h classes name v) → (o : Option Value) → own_value h c name ≡ o → first_of o (first_named h classes name) ≡ Some v → Nearest h (c ∷ classes) name v
    by again (Some w) p f = record { before = []; nearest = c; behind = classes; way = refl; lack = tt; has = p ∙ f }
    by again None p f =
        let r : Nearest h classes name v = again f in
        record { before = c ∷ r.before; nearest = r.nearest; behind = r.behind; way = ap (λ t. c ∷ t) r.way; lack = (p, r.lack); has = r.has }

lacking : (h : List Object) (classes : List ℕ) (name : List ℕ) → first_named h classes name ≡ None → AllLack h classes name
lacking h [] name e = tt
lacking h (c ∷ classes) name e = by (λ f. lacking h classes name f) (own_value h c name) refl e
  where
    by : (first_named h classes name ≡ None → AllLack h classes name) → (o : Option Value) → own_value h c name ≡ o → first_of o (first_named h classes name) ≡ None → AllLack h (c ∷ classes) name
    by again (Some w) p f = absurd (cc)
    by again None p f = (p, again f)

either : (b : Bool) → (if b then give_bool true else give_bool false) ≡ give_bool b
either true = refl
either false = refl

instance_by : (h : List Object) (own n : ℕ) (o : Option Object) (name : List ℕ) (base : Option ℕ) (names : NameList) (native : Bool) → o ≡ Some (object.Class name base names native) → value_test h own (value.Obj n) o ≡ give_bool (is_under h (Some own) n)
instance_by h own n (Some (object.Class a b d e)) name base names native p = either (is_under h (Some own) n)
instance_by h own n o name base names native p = absurd (cc)

pub found_nearest : FoundIsNearest
found_nearest =
    record {
      found = λ h class name v e. nearest h (classes_from h (Some class)) name v e;
      absent = λ h class name e. lacking h (classes_from h (Some class)) name e;
      instance = λ h x n name base own native e. instance_by h (class_of h x) n (slice_get h n) name base own native e;
    }
