-- The world in which a run begins is sound.
use Rattle.std.proofs.Common.{◌≡◌, ℕ, zero, suc, ◌+◌, ◌<◌, ◌≤◌, List, [], ◌∷◌, ◌++◌, Some, true, refl, subst, arith, length, lit<}
use Rattle.std.specs.Prelude.{slice_get, codes}
use Rattle.nu_value.specs.declared.header.Header.{Header}
use Rattle.nu_value.specs.declared.object.Object.{Object}
use Rattle.nu_value.specs.declared.object.Object.TheVariants as object
use Rattle.nu_value.specs.Natives.{native_classes}
use Rattle.nu_value.specs.Names.{NameList, with_name}
use Rattle.op_forms.specs.Parts.{NamesOf}
use Rattle.op_rules.specs.Start.{with_all, named_classes, native_functions, numbered, builtins_of, built_in_names, module_names, first_objects, start_world}
use Rattle.op_forms.specs.Sound.{AClass, IsA, IsIn, NamesIn, ObjectIn, Sound}
use Rattle.op_forms.proofs.Bindings.{names_with, distinct_with}
use Rattle.op_forms.proofs.Grown.{before_end}

-- objects from a number on
abbrev AllObjects : ℕ → List Object → ℕ → List Object → Type 0
AllObjects codes h number [] = Unit {0}
AllObjects codes h number (o ∷ os) = ObjectIn codes h number o × AllObjects codes h (1 + number) os

at_place : (codes : ℕ) (h : List Object) (number : ℕ) (os : List Object) → AllObjects codes h number os → (n : ℕ) (o : Object) → slice_get os n ≡ Some o → ObjectIn codes h (n + number) o
at_place codes h number [] a n o e = absurd (cc)
at_place codes h number (x ∷ os) a zero o e =
    let same : x ≡ o = cc in subst (λ k. ObjectIn codes h k o) (omega arith) (subst (λ y. ObjectIn codes h number y) same a.0)
at_place codes h number (x ∷ os) a (suc n) o e =
    subst (λ k. ObjectIn codes h k o) (omega arith) (at_place codes h (1 + number) os a.1 n o e)

abbrev start : List Object
start = native_classes ++ first_objects

class_0 : IsA start 0 AClass
class_0 = record { there = lit< tt; sort = refl }

class_3 : IsA start 3 AClass
class_3 = record { there = lit< tt; sort = refl }

class_19 : IsA start 19 AClass
class_19 = record { there = lit< tt; sort = refl }

class_20 : IsA start 20 AClass
class_20 = record { there = lit< tt; sort = refl }

class_22 : IsA start 22 AClass
class_22 = record { there = lit< tt; sort = refl }

class_27 : IsA start 27 AClass
class_27 = record { there = lit< tt; sort = refl }

class_30 : IsA start 30 AClass
class_30 = record { there = lit< tt; sort = refl }

class_32 : IsA start 32 AClass
class_32 = record { there = lit< tt; sort = refl }

-- a class under another; its name is no part
under : (codes n base : ℕ) → n < 37 → IsA start base AClass → ObjectIn codes start n (object.Class [] (Some base) [] true)
under codes n base small a =
    ((a.there, tt), ((a, λ behind. let h : 37 ≤ n = behind in absurd (omega (arith, h, small))), tt))

-- names with values that are there stay such, and distinct
with_all_in : (ps qs : NameList) → NamesIn start ps → NamesOf (IsIn start) qs → NamesIn start (with_all ps qs)
with_all_in ps [] p q = p
with_all_in ps (r ∷ qs) p q =
    with_all_in (with_name ps r.0 r.1) qs (names_with (IsIn start) ps r.0 r.1 p.0 q.0, distinct_with ps r.0 r.1 p.1) q.1

below : (n : ℕ) → n < 62 → n < length start
below n h = h

numbered_in : (n : ℕ) (names : List (List ℕ)) → n + length names ≤ 61 → NamesOf (IsIn start) (numbered n names)
numbered_in n [] small = tt
numbered_in n (name ∷ names) small = (below n (omega (arith, small)), numbered_in (n + 1) names (omega (arith, small)))

classes_in : NamesOf (IsIn start) named_classes
classes_in = ((lit< tt, (lit< tt, (lit< tt, (lit< tt, (lit< tt, (lit< tt, (lit< tt, (lit< tt, (lit< tt, (lit< tt, (lit< tt, (lit< tt, (lit< tt, (lit< tt, (lit< tt, (lit< tt, (lit< tt, (lit< tt, (lit< tt, (lit< tt, (lit< tt, (lit< tt, (lit< tt, (lit< tt, (lit< tt, (lit< tt, (lit< tt, tt))))))))))))))))))))))))))))

few : 38 + length native_functions ≤ 61
few = omega arith

built_in_names_in : NamesIn start built_in_names
built_in_names_in = with_all_in (with_all [] named_classes) (numbered 38 native_functions) (with_all_in [] named_classes (tt, tt) classes_in) (numbered_in 38 native_functions few)

natives_in : (codes n : ℕ) (names : List (List ℕ)) (os : List Object) → ((m : ℕ) → AllObjects codes start m os) → AllObjects codes start n (builtins_of names ++ os)
natives_in codes n [] os p = p n
natives_in codes n (name ∷ names) os p = ((tt, tt), natives_in codes (1 + n) names os p)

all_start : (codes : ℕ) → AllObjects codes start 0 start
all_start codes = (((tt, tt), (tt, tt)), (under codes 1 0 (lit< tt) class_0, (under codes 2 3 (lit< tt) class_3, (under codes 3 0 (lit< tt) class_0, (under codes 4 0 (lit< tt) class_0, (under codes 5 0 (lit< tt) class_0, (under codes 6 0 (lit< tt) class_0, (under codes 7 0 (lit< tt) class_0, (under codes 8 0 (lit< tt) class_0, (under codes 9 0 (lit< tt) class_0, (under codes 10 0 (lit< tt) class_0, (under codes 11 0 (lit< tt) class_0, (under codes 12 0 (lit< tt) class_0, (under codes 13 0 (lit< tt) class_0, (under codes 14 0 (lit< tt) class_0, (under codes 15 0 (lit< tt) class_0, (under codes 16 0 (lit< tt) class_0, (under codes 17 0 (lit< tt) class_0, (under codes 18 0 (lit< tt) class_0, (under codes 19 0 (lit< tt) class_0, (under codes 20 19 (lit< tt) class_19, (under codes 21 19 (lit< tt) class_19, (under codes 22 20 (lit< tt) class_20, (under codes 23 22 (lit< tt) class_22, (under codes 24 20 (lit< tt) class_20, (under codes 25 20 (lit< tt) class_20, (under codes 26 20 (lit< tt) class_20, (under codes 27 20 (lit< tt) class_20, (under codes 28 27 (lit< tt) class_27, (under codes 29 27 (lit< tt) class_27, (under codes 30 20 (lit< tt) class_20, (under codes 31 30 (lit< tt) class_30, (under codes 32 20 (lit< tt) class_20, (under codes 33 32 (lit< tt) class_32, (under codes 34 20 (lit< tt) class_20, (under codes 35 20 (lit< tt) class_20, (under codes 36 20 (lit< tt) class_20, (built_in_names_in, natives_in codes 38 native_functions (object.Space module_names ∷ []) (λ m. (((tt, tt), (refl, tt)), tt))))))))))))))))))))))))))))))))))))))))

pub start_sound : (headers : List Header) → Sound (start_world headers)
start_sound headers =
    record {
      heap = record {
        objects = λ n o e. subst (λ k. ObjectIn (length headers) start k o) (omega arith) (at_place (length headers) start 0 start (all_start (length headers)) n o e);
        natives = λ n small. before_end native_classes first_objects n small;
      };
      first = refl;
      builtins = record { there = lit< tt; sort = refl };
      names = record { there = lit< tt; sort = refl };
    }
