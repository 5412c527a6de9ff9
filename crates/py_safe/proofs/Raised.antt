-- Exceptions that are made, or get an entry, leave a lawful world.
use Rattle.std.proofs.Common.{◌≡◌, ℕ, ◌<◌, ◌≤◌, List, [], ◌∷◌, ◌++◌, Option, Some, None, Bool, true, false, refl, sym, ap, ◌∙◌, arith, length, length-append, inl, inr}
use Rattle.std.specs.Prelude.{slice_get}
use Rattle.std.proofs.lemmas.Option.{slice_get_within}
use Rattle.nu_value.specs.declared.entries.Entry.{Entry}
use Rattle.nu_value.specs.declared.object.Object.{Object}
use Rattle.nu_value.specs.declared.object.Object.TheVariants as object
use Rattle.nu_value.specs.declared.value.Value.{Value}
use Rattle.nu_value.specs.Natives.{native_classes}
use Rattle.op_forms.specs.declared.world.World.{World}
use Rattle.op_forms.specs.Sound.{AClass, AnException, sort_of, IsA}
use Rattle.nu_calls.specs.Exceptions.{Thrown, made_of, exception_made, entered, put_back, with_entry}
use Rattle.nu_calls.specs.Surroundings.{world_with}
use Rattle.py_safe.specs.Rosters.{Roster}
use Rattle.py_safe.specs.Heaps.{Mark, Open, view, nature_of, Grows, KeepsGenerators, AllThere, IsThrown}
use Rattle.py_safe.specs.Rules.{MayRaise, WorldLaw}
use Rattle.py_safe.proofs.Growth.{get_end, grows_refl, all_in, all_open}
use Rattle.nu_value.specs.Keyed.{object_kind}
use Rattle.py_safe.proofs.Worlds.{IsLike, grows_end, grows_set, native_class, no_native, plain_open, open_keywords, world_end, world_set, keeps_refl, keeps_end, keeps_set}

-- objects after those of a world
pub record Follows (c : Roster) (w : World) (marks : ℕ → Mark) (h : List Object) : Type 0 where
  pub law : WorldLaw c (world_with w h) marks
  pub grows : Grows (view w.heap marks) (view h marks)
  pub generators : KeepsGenerators w.heap h

pub unchanged : (c : Roster) (w : World) (marks : ℕ → Mark) → WorldLaw c w marks → Follows c w marks w.heap
unchanged c w marks l = record { law = l; grows = grows_refl (view w.heap marks); generators = keeps_refl w.heap }

-- ---- an exception gets an entry

put_follows : (c : Roster) (w : World) (marks : ℕ → Mark) → WorldLaw c w marks → (n : ℕ) (entry : Entry) (o : Option Object) → slice_get w.heap n ≡ o → Follows c w marks (put_back w.heap n (entered entry o))
put_follows c w marks l n entry (Some (object.Exception class args entries fields cause)) e =
    let y : Object = object.Exception class args entries fields cause in
    let x : Object = object.Exception class args (entry ∷ entries) fields cause in
    let there : n < length w.heap = slice_get_within w.heap n y e in
    let a : IsA w.heap n AnException = record { there = there; sort = ap sort_of e } in
    let behind : length native_classes ≤ n = no_native (length w.codes) w.heap l.sound.heap n AnException a (λ f. absurd (cc)) in
    let same : IsLike w.heap n x = record { nature = sym (ap nature_of e); kind = λ n. sym (ap (object_kind n) e) } in
    record {
      law = world_set c w marks l n x there behind same (l.sound.heap.objects n y e) (l.law.opens n y e) (l.law.bodies n y e) (open_keywords marks n x (plain_open c (view w.heap marks) l.law n AnException tt a));
      grows = grows_set w.heap marks n x same;
      generators = keeps_set w.heap n x tt;
    }
put_follows c w marks l n entry other e = unchanged c w marks l

pub entry_follows : (c : Roster) (w : World) (marks : ℕ → Mark) → WorldLaw c w marks → (built_in : Bool) (line : ℕ) (scope : List ℕ) (n : ℕ) → Follows c w marks (with_entry built_in line scope n w.heap)
entry_follows c w marks l true line scope n = unchanged c w marks l
entry_follows c w marks l false line scope n = put_follows c w marks l n (record { line = line; scope = scope }) (slice_get w.heap n) refl

-- ---- an exception is made, or is there

pub record Throws (c : Roster) (w : World) (marks : ℕ → Mark) (t : Thrown) : Type 0 where
  pub follows : Follows c w marks t.heap
  pub is : IsThrown (view t.heap marks) t.exception

new_exception : (c : Roster) (w : World) (marks : ℕ → Mark) → WorldLaw c w marks → (n : ℕ) (args : List Value) → IsA w.heap n AClass → marks n ≡ Open → AllThere (view w.heap marks) args → Throws c w marks (record { exception = length w.heap; heap = w.heap ++ object.Exception n args [] [] None ∷ [] })
new_exception c w marks l n args a m p =
    let x : Object = object.Exception n args [] [] None in
    record {
      follows = record {
        law = world_end c w marks l x ((a.there, all_in (view w.heap marks) args p, tt, tt), (a, tt, tt)) (m, all_open (view w.heap marks) args p, tt, tt) tt;
        grows = grows_end w.heap marks x;
        generators = keeps_end w.heap x tt;
      };
      is = (
        record { there = omega (arith, length-append w.heap (x ∷ [])); sort = ap sort_of (get_end w.heap x) },
        l.law.ahead (length w.heap) (omega arith),
      );
    }

made_throws : (c : Roster) (w : World) (marks : ℕ → Mark) → WorldLaw c w marks → (n : ℕ) (args : List Value) (o : Option Object) → slice_get w.heap n ≡ o → MayRaise (view w.heap marks) n → AllThere (view w.heap marks) args → Throws c w marks (made_of n args w.heap o)
made_throws c w marks l n args (Some (object.Class name base own native)) e r p =
    new_exception c w marks l n args (record { there = slice_get_within w.heap n (object.Class name base own native) e; sort = ap sort_of e }) r.1 p
made_throws c w marks l n args other e r p =
    elim r.0 [
      | inl a ↦ let t : sort_of other ≡ AClass = sym (ap sort_of e) ∙ a.sort in absurd (cc)
      | inr a ↦ record { follows = unchanged c w marks l; is = (a, r.1) }
    ]

pub exception_throws : (c : Roster) (w : World) (marks : ℕ → Mark) → WorldLaw c w marks → (n : ℕ) (args : List Value) → MayRaise (view w.heap marks) n → AllThere (view w.heap marks) args → Throws c w marks (exception_made n args w.heap)
exception_throws c w marks l n args r p = made_throws c w marks l n args (slice_get w.heap n) refl r p

-- a class that no script makes may be raised
pub native_raises : (c : Roster) (w : World) (marks : ℕ → Mark) → WorldLaw c w marks → (n : ℕ) → n < length native_classes → MayRaise (view w.heap marks) n
native_raises c w marks l n small =
    let a : IsA w.heap n AClass = native_class (length w.codes) w.heap l.sound.heap n small in
    (inl a, plain_open c (view w.heap marks) l.law n AClass tt a)
