-- Laws of classes.
use Rattle.std.specs.Prelude.{◌≡◌, ℕ, List, [], ◌∷◌, ◌++◌, Option, Some, None, Bool, true, ◌||◌, nat_eq, slice_get}
use Rattle.nu_value.specs.declared.object.Object.{Object}
use Rattle.nu_value.specs.declared.object.Object.TheVariants as object
use Rattle.nu_value.specs.declared.value.Value.{Value}
use Rattle.nu_value.specs.declared.value.Value.TheVariants as value
use Rattle.nu_value.specs.Classes.{own_of, base_of, classes_from, is_among, is_under, found_in}
use Rattle.nu_value.specs.Names.{NameList, value_at}
use Rattle.op_forms.specs.Sound.{SoundHeap}
use Rattle.op_rules.specs.ClassCalls.{isinstance_row}
use Rattle.op_rules.specs.Comparisons.{give_bool}
use Rattle.op_rules.specs.Subclasses.{class_of}

-- what a class itself has under a name
abbrev pub own_value : List Object → ℕ → List ℕ → Option Value
own_value h class name = value_at (own_of (slice_get h class)) name

abbrev pub AllLack : List Object → List ℕ → List ℕ → Type 0
AllLack h [] name = Unit {0}
AllLack h (c ∷ classes) name = (own_value h c name ≡ None) × AllLack h classes name

-- of these classes one has the name, and none before it
pub record Nearest (h : List Object) (classes : List ℕ) (name : List ℕ) (v : Value) : Type 0 where
  pub before : List ℕ
  pub nearest : ℕ
  pub behind : List ℕ
  pub way : classes ≡ before ++ nearest ∷ behind
  pub lack : AllLack h before name
  pub has : own_value h nearest name ≡ Some v

-- A value that is found on a class is that of the nearest class outward; where none is found no class outward has one; and a value
-- is an instance of the classes outward from its own.
pub record FoundIsNearest : Type 0 where
  pub found : (h : List Object) (class : ℕ) (name : List ℕ) (v : Value) → found_in h class name ≡ Some v → Nearest h (classes_from h (Some class)) name v
  pub absent : (h : List Object) (class : ℕ) (name : List ℕ) → found_in h class name ≡ None → AllLack h (classes_from h (Some class)) name
  pub instance : (h : List Object) (x : Value) (n : ℕ) (name : List ℕ) (base : Option ℕ) (own : NameList) (native : Bool) → slice_get h n ≡ Some (object.Class name base own native)
      → isinstance_row h x (value.Obj n) ≡ give_bool (is_among (classes_from h (Some (class_of h x))) n)

-- In a sound heap a class stands under itself, under the class that it was made under, and under all that this one stands under.
pub record ClassesAreOrdered : Type 0 where
  pub reflexive : (codes : ℕ) (h : List Object) (c : ℕ) → SoundHeap codes h → is_under h (Some c) c ≡ true
  pub step : (codes : ℕ) (h : List Object) (c b d : ℕ) → SoundHeap codes h → base_of (slice_get h c) ≡ Some b → is_under h (Some c) d ≡ (nat_eq c d || is_under h (Some b) d)
  pub transitive : (codes : ℕ) (h : List Object) (a b d : ℕ) → SoundHeap codes h → is_under h (Some a) b ≡ true → is_under h (Some b) d ≡ true → is_under h (Some a) d ≡ true
