-- Runs of modules: how they begin and end.
use Rattle.std.proofs.Common.{◌≡◌, ℕ, List, [], Some, Bool, true, false, refl, sym, ap, ◌∙◌, subst, arith, length}
use Rattle.std.specs.Prelude.{IsTrue, slice_get}
use Rattle.nu_value.specs.declared.value.Value.TheVariants as value
use Rattle.nu_rows.specs.Rows.{End, Next, Leave, Raised, Return, Stopped, Undefined, Step, Second, Begin, Res, Spent, Paused, Ended, Act, Then, shift, after, does}
use Rattle.nu_rows.specs.Words.{on_next}
use Rattle.nu_calls.specs.Surroundings.{scene, with_scene, with_frames}
use Rattle.nu_calls.specs.Calls.{enters, given_back}
use Rattle.nu_calls.specs.Scripts.{module_begun, module_ended, module_row}
use Rattle.py_meaning.specs.Syntax as syntax
use Rattle.py_meaning.specs.Frames.{R as Rw}
use Rattle.py_meaning.specs.Bodies.{code_row, program}
use Rattle.py_safe.specs.Rosters.{OfModule}
use Rattle.py_safe.specs.Heaps.{Mark, View, Grows}
use Rattle.py_safe.specs.Rules.{WorldLaw}
use Rattle.py_safe.specs.Constructs.{IsFalse, Room, is_class, RunAs}
use Rattle.py_safe.proofs.Right.{S, Program, roster, source, rows, seen, Table, room_at, AllKept, Finished, Done}
use Rattle.py_safe.proofs.Frames.{lawful_code, yields_as, begun_of, Begins, begun_law, begun_frame_is}
use Rattle.py_safe.proofs.Scenes.{start_view, moved, gives_back}
use Rattle.py_safe.proofs.Bodies.{from_nothing}
use Rattle.py_safe.proofs.Codes.{code_right}
use Rattle.py_safe.proofs.Agreement.{tables, agree}
use Rattle.py_safe.proofs.Reports.{Shown, shown_shift, uncaught_shown}

-- where a module may begin
pub record Ready (z : Program) (s : S) : Type 0 where
  pub marks : ℕ → Mark
  pub world : WorldLaw (roster z) s.around.world marks
  pub since : Grows (start_view z) (seen marks s)
  pub kept : AllKept z (tables z) marks s

-- a body that doesn't pause
abbrev Over : Program → View → Res S → Type 0
Over z v (Spent o) = Unit {0}
Over z v (Paused o s x p) = ⊥
Over z v (Ended o s e) = Finished z (tables z) v e s

over_of : (z : Program) (R : Room) (T : Table) (v : View) (r : Res S) → (IsTrue R.yields → ⊥) → Done z (tables z) R T v r → Over z v r
over_of z R T v (Spent o) never d = tt
over_of z R T v (Paused o s x p) never d = never d.yields
over_of z R T v (Ended o s e) never d = d

over_shift : (z : Program) (v : View) (o : List ℕ) (x : Step) (r : Res S) → Over z v r → Over z v (shift o x r)
over_shift z v o x (Spent p) d = tt
over_shift z v o x (Paused p s y q) d = d
over_shift z v o x (Ended p s e) d = d

shown_after : (z : Program) (v : View) (r : Res S) (g : End → S → Res S) → Over z v r → ((e : End) (t : S) → Finished z (tables z) v e t → Shown (g e t)) → Shown (after r g)
shown_after z v (Spent o) g x f = tt
shown_after z v (Paused o s y p) g x f = absurd x
shown_after z v (Ended o s e) g x f = shown_shift o (Second e) (g e s) (f e s x)

none_is : (b : Bool) → IsFalse b → b ≡ false
none_is true p = absurd p
none_is false p = refl

module _ (z : Program) (code : ℕ) (c : syntax.Code) (at : slice_get z.codes code ≡ Some c) (role : z.role code ≡ OfModule) where
  runs_as : RunAs OfModule c
  runs_as = subst (λ i. RunAs i c) role (lawful_code z code c at).run

  begins : (v : View) → Begins z v code c [] []
  begins v = record {
    coded = at;
    count = sym (ap length runs_as.0);
    there = tt;
    frees = sym runs_as.1;
    all = (tt, tt);
    names = λ t. absurd (let b : is_class (z.role code) ≡ false = ap is_class role in let e : is_class (z.role code) ≡ true = t in cc);
  }

  never : IsTrue (room_at z code).yields → ⊥
  never y = let e : (room_at z code).yields ≡ c.header.generator = yields_as z code c at in let t : (room_at z code).yields ≡ true = y in no_generator c.header.generator runs_as.2 (sym e ∙ t)
    where
      no_generator : (b : Bool) → IsFalse b → b ≡ true → ⊥
      no_generator true p t = p
      no_generator false p t = absurd (cc)

  -- its body, from where it begins
  body_over : (s : S) (r : Ready z s) (m : ℕ) → Over z (seen r.marks s) (does (rows z) (code_row (source z) (slice_get z.codes code)) Begin (enters (source z) (with_scene s.around (with_frames (scene s.around) 0)) code (begun_of code [] [] c)) m)
  body_over s r m =
      let t : S = enters (source z) (with_scene s.around (with_frames (scene s.around) 0)) code (begun_of code [] [] c) in
      let b = code_right z code c at (lawful_code z code c at) in
      subst (λ o. Over z (seen r.marks s) (does (rows z) (code_row (source z) o) Begin t m)) (sym at)
      (over_of z (room_at z code) b.table (seen r.marks s) _ never
      ((b.body (tables z) m (agree z m)).begins r.marks t
      (record {
        world = moved z s.around.world r.marks code r.world r.since;
        since = r.since;
        frame = begun_law z (seen r.marks s) code c [] [] (begins (seen r.marks s));
        kept = r.kept;
      }) (from_nothing (seen r.marks s)) m (omega arith)))

  begun_over : (s : S) (r : Ready z s) (m : ℕ) → Over z (seen r.marks s) (does (rows z) (Then (Act (λ s. module_begun (source z) code s ((source z).frame false code [] []))) (on_next (λ v. code_row (source z) (slice_get z.codes code)))) Begin s m)
  begun_over s r m =
      subst (λ o. Over z (seen r.marks s) (does (rows z) (Then (Act (λ s. module_begun (source z) code s o)) (on_next (λ v. code_row (source z) (slice_get z.codes code)))) Begin s m))
      (sym (begun_frame_is z (seen r.marks s) false code c [] [] (none_is c.header.generator runs_as.2) (begins (seen r.marks s))))
      (over_shift z (seen r.marks s) [] (Second (Next value.None)) _ (body_over s r m))

  ended_shown : (file : List ℕ) (next : Rw) → ((t : S) → Ready z t → (m : ℕ) → Shown (does (rows z) next Begin t m)) → (v : View) (m : ℕ) (e : End) (t : S) → Finished z (tables z) v e t → Shown (does (rows z) (module_ended (source z) file next e) Begin t m)
  ended_shown file next f v m (Next x) t y = f t (record { marks = y.marks; world = y.world; since = y.since; kept = y.kept }) m
  ended_shown file next f v m (Return x) t y = f t (record { marks = y.marks; world = y.world; since = y.since; kept = y.kept }) m
  ended_shown file next f v m (Raised e) t y = uncaught_shown z file e t y.marks y.world y.since y.kept y.end m
  ended_shown file next f v m (Stopped kind) t y = tt
  ended_shown file next f v m (Leave i) t y = let e = y.end in absurd (omega (arith, e))
  ended_shown file next f v m Undefined t y = absurd y.end

  left_shown : (file : List ℕ) (next : Rw) → ((t : S) → Ready z t → (m : ℕ) → Shown (does (rows z) next Begin t m)) → (v : View) (m : ℕ) (e : End) (t : S) → Finished z (tables z) v e t → Shown (does (rows z) (module_ended (source z) file next (given_back e)) Begin t m)
  left_shown file next f v m e t y =
      ended_shown file next f v m (given_back e) t
      (record { marks = y.marks; world = y.world; since = y.since; kept = y.kept; grows = y.grows; end = gives_back (seen y.marks t) e y.end })

  pub module_shown : (file : List ℕ) (next : Rw) → ((t : S) → Ready z t → (m : ℕ) → Shown (does (rows z) next Begin t m)) → (s : S) → Ready z s → (m : ℕ) → Shown (does (rows z) (module_row (program z.rules z.scripts z.codes) file code next) Begin s m)
  module_shown file next f s r m = shown_after z (seen r.marks s) _ _ (begun_over s r m) (left_shown file next f (seen r.marks s) m)
