-- Runs of lawful codes.
use Rattle.std.proofs.Common.{◌≡◌, ℕ, zero, suc, ◌<◌, List, [], ◌∷◌, Some, Bool, true, false, if◌then◌else◌, refl, sym, subst, arith, inl, inr, length, map, nat_lt}
use Rattle.std.specs.Prelude.{slice_get}
use Rattle.std.proofs.lemmas.Bool.Decides.{nat_tests}
use Rattle.std.proofs.lemmas.Option.{slice_get_within}
use Rattle.nu_run.specs.declared.End as run_end
use Rattle.nu_run.specs.Runs as runs
use Rattle.nu_value.specs.declared.object.GenState.TheVariants as gen
use Rattle.nu_value.specs.declared.value.Value.TheVariants as value
use Rattle.nu_rows.specs.Rows.{Next, Undefined, Begin, Res, Spent, Paused, Ended, does}
use Rattle.nu_rows.specs.Words.{ends_with}
use Rattle.nu_rows.specs.Driver.{told}
use Rattle.op_forms.specs.Rules.{Rules}
use Rattle.nu_calls.specs.Scripts.{module_row, script_row, main_row, shows, start_state}
use Rattle.py_meaning.specs.Syntax as syntax
use Rattle.py_meaning.specs.Bodies.{program, codes_run}
use Rattle.py_safe.specs.Rosters.{Role}
use Rattle.py_safe.specs.Heaps.{Open}
use Rattle.py_safe.specs.Rules.{KeepsLaw}
use Rattle.py_safe.specs.Constructs.{LawfulCodes}
use Rattle.py_safe.proofs.Right.{S, Program, roster, rows}
use Rattle.py_safe.proofs.Growth.{grows_refl}
use Rattle.py_safe.proofs.Scenes.{start_view}
use Rattle.py_safe.proofs.Reports.{Shown}
use Rattle.py_safe.proofs.Modules.{Ready, module_shown}

shown_defined : (r : Res S) (out : List ℕ) (e : run_end.End) → Shown r → told shows r ≡ runs.Ended out e → runs.IsDefinedEnd e
shown_defined (Spent o) out e h is = absurd (cc)
shown_defined (Paused o s v p) out e h is = absurd h
shown_defined (Ended o s x) out e h is = let same : shows x s ≡ e = cc in subst (λ y. runs.IsDefinedEnd y) same h

-- the code of a number
record CodeAt (codes : List syntax.Code) (n : ℕ) : Type 0 where
  code : syntax.Code
  at : slice_get codes n ≡ Some code

code_at : (codes : List syntax.Code) (n : ℕ) → n < length (map (λ code. code.header) codes) → CodeAt codes n
code_at [] n le = absurd (omega (arith, le))
code_at (c ∷ cs) zero le = record { code = c; at = refl }
code_at (c ∷ cs) (suc n) le = let x = code_at cs n (omega (arith, le)) in record { code = x.code; at = x.at }

as_many : (codes : List syntax.Code) → length (map (λ code. code.header) codes) ≡ length codes
as_many [] = refl
as_many (c ∷ cs) = omega (arith, as_many cs)

module _ (z : Program) (name : List ℕ) where
  script_shown : (s : S) → Ready z s → (m : ℕ) → Shown (does (rows z) (script_row (program z.rules z.scripts z.codes) name) Begin s m)
  script_shown s r m =
      let x = code_at z.codes 0 (omega (arith, z.lawful.some, z.lawful.script.0, as_many z.codes)) in
      module_shown z 0 x.code x.at z.lawful.script.1 name (ends_with (Next value.None)) (λ t r m. tt) s r m

  both_shown : (b : Bool) → nat_lt z.scripts (length (map (λ code. code.header) z.codes)) ≡ b → (s : S) → Ready z s → (m : ℕ) → Shown (does (rows z) (if b then module_row (program z.rules z.scripts z.codes) name z.scripts (script_row (program z.rules z.scripts z.codes) name) else script_row (program z.rules z.scripts z.codes) name) Begin s m)
  both_shown true e s r m =
      let x = code_at z.codes z.scripts (grind (arith, nat_tests)) in
      module_shown z z.scripts x.code x.at (z.lawful.text (slice_get_within z.codes z.scripts x.code x.at)) name (script_row (program z.rules z.scripts z.codes) name) script_shown s r m
  both_shown false e s r m = script_shown s r m

  main_shown : (s : S) → Ready z s → (m : ℕ) → Shown (does (rows z) (main_row (program z.rules z.scripts z.codes) name) Begin s m)
  main_shown s r m =
      let some : 0 < z.scripts = z.lawful.script.0 in
      let e : nat_lt 0 z.scripts ≡ true = grind (arith, nat_tests) in
      let headers = map (λ code. code.header) z.codes in
      subst (λ b. Shown (does (rows z) (if b then (if nat_lt z.scripts (length headers) then module_row (program z.rules z.scripts z.codes) name z.scripts (script_row (program z.rules z.scripts z.codes) name) else script_row (program z.rules z.scripts z.codes) name) else ends_with Undefined) Begin s m)) (sym e)
      (both_shown (nat_lt z.scripts (length headers)) refl s r m)

  -- nothing is kept before a run begins
  idle : (input : List ℕ) → Ready z (start_state (program z.rules z.scripts z.codes) input)
  idle input = record {
    marks = λ n. Open;
    world = z.law.start (roster z);
    since = grows_refl (start_view z);
    kept = λ n code given cells e. elim (z.law.idle (roster z).headers n code gen.Paused given cells e) [
      | inl p ↦ absurd (cc)
      | inr q ↦ absurd (cc)
    ];
  }

pub codes_defined : (rules : Rules) → KeepsLaw rules → (name : List ℕ) (role : ℕ → Role) (scripts : ℕ) (codes : List syntax.Code) → LawfulCodes role scripts codes → (input : List ℕ) → runs.IsDefined (codes_run rules name scripts codes input)
codes_defined rules law name role scripts codes lawful input n out e is =
    let z : Program = record { rules = rules; law = law; role = role; scripts = scripts; codes = codes; lawful = lawful } in
    shown_defined (does (rows z) (main_row (program rules scripts codes) name) Begin (start_state (program rules scripts codes) input) n) out e
    (main_shown z name (start_state (program rules scripts codes) input) (idle z name input) n) is

pub same_defined : (one other : ℕ → runs.Run) → runs.Same one other → runs.IsDefined one → runs.IsDefined other
same_defined one other s d n out e is =
    let b = s.back n in
    d b.0 out e (subst (λ r. runs.Below r (one b.0)) is b.1)
