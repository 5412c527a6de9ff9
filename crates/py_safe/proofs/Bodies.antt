-- Bodies that operations begin or resume: how they are entered, and what the code that began one has of how it stopped.
use Rattle.std.proofs.Common.{◌≡◌, ℕ, zero, suc, ◌≤◌, List, [], ◌∷◌, Option, Some, None, Bool, true, false, refl, sym, ap, subst, ◌∙◌, arith, inl, inr}
use Rattle.std.specs.Prelude.{IsTrue, nat_eq, slice_get, codes}
use Rattle.std.proofs.lemmas.Bool.Decides.{nat_tests}
use Rattle.std.proofs.lemmas.Option.{slice_get_within}
use Rattle.nu_value.specs.declared.object.GenState.{GenState}
use Rattle.nu_value.specs.declared.object.GenState.TheVariants as gen
use Rattle.nu_value.specs.declared.object.Object.{Object}
use Rattle.nu_value.specs.declared.object.Object.TheVariants as object
use Rattle.nu_value.specs.declared.value.Value.{Value}
use Rattle.op_forms.specs.declared.end.After.{After}
use Rattle.nu_rows.specs.Rows.{Next, Step, How, Begin, Back, Res, Spent, Paused, Ended, left_by, entered, run}
use Rattle.nu_calls.specs.Surroundings.{Scene, kept_at, keep_at, with_kept}
use Rattle.nu_calls.specs.Ends.{runtime_error, state_set, with_state, paused_with}
use Rattle.nu_calls.specs.Calls.{Pause, state_of, in_scene, back_in, given_back, leave_call, leave_generator, enters, calls, starts, goes_on}
use Rattle.py_meaning.specs.Syntax as syntax
use Rattle.py_meaning.specs.Frames.{Frame, OfCode}
use Rattle.py_meaning.specs.Bodies.{begun_frame}
use Rattle.py_safe.specs.Heaps.{Mark, View, view, AGenerator, nature_of, Grows, IsThere}
use Rattle.py_safe.specs.Rules.{AfterLaw}
use Rattle.py_safe.specs.Constructs.{Room}
use Rattle.py_safe.proofs.Right.{S, Program, roster, source, rows, seen, nothing, FrameLaw, Table, Tables, nowhere, room_at, IsKept, Kind, HowIs, Pauses, Met, Done, Agree}
use Rattle.py_safe.proofs.Growth.{set_same, known_within, grows_refl, grows_trans, there_more, after_more, frame_more, kept_more}
use Rattle.py_safe.proofs.Worlds.{StateSet, state_law}
use Rattle.py_safe.proofs.Rows.{met_down}
use Rattle.py_safe.proofs.Frames.{yields_as, begun_of, Begins, begun_law, begun_frame_is}
use Rattle.py_safe.proofs.Scenes.{start_view, moved, FinishGives, gives_back, Reached, reached_goes, Comes, call_comes, got_state, text_comes, over_comes, back}

pub from_nothing : (v : View) → Grows nothing v
from_nothing v = record { longer = omega arith; natures = λ n less. absurd (omega (arith, less)); kinds = λ n less. absurd (omega (arith, less)); marks = λ n less. absurd (omega (arith, less)) }

-- ---- what is kept

kept_same : {K : Type 0} (ks : List (Option K)) (n : ℕ) (x : Option K) → kept_at (keep_at ks n x) n ≡ x
kept_same [] zero x = refl
kept_same [] (suc n) x = kept_same [] n x
kept_same (k ∷ ks) zero x = refl
kept_same (k ∷ ks) (suc n) x = kept_same ks n x

kept_other : {K : Type 0} (ks : List (Option K)) (n : ℕ) (x : Option K) (m : ℕ) → (m ≡ n → ⊥) → kept_at (keep_at ks n x) m ≡ kept_at ks m
kept_other [] zero x zero apart = absurd (apart refl)
kept_other [] zero x (suc m) apart = refl
kept_other [] (suc n) x zero apart = refl
kept_other [] (suc n) x (suc m) apart = kept_other [] n x m (λ e. apart (ap suc e))
kept_other (k ∷ ks) zero x zero apart = absurd (apart refl)
kept_other (k ∷ ks) zero x (suc m) apart = refl
kept_other (k ∷ ks) (suc n) x zero apart = refl
kept_other (k ∷ ks) (suc n) x (suc m) apart = kept_other ks n x m (λ e. apart (ap suc e))

-- a generator whose state was set has that state
set_by : (heap : List Object) (g : ℕ) (state : GenState) (o : Option Object) → slice_get heap g ≡ o → (code : ℕ) → nature_of o ≡ AGenerator code → (code' : ℕ) (now : GenState) (given cells : List Value) → slice_get (state_set heap g state o) g ≡ Some (object.Generator code' now given cells) → now ≡ state
set_by heap g state (Some (object.Generator code'' old given' cells')) e code n code' now given cells is =
    let x : Object = object.Generator code'' state given' cells' in
    let same : slice_get (state_set heap g state (Some (object.Generator code'' old given' cells'))) g ≡ Some x = set_same heap g x (slice_get_within heap g (object.Generator code'' old given' cells') e) in
    cc
set_by heap g state other e code n code' now given cells is = absurd (cc)

pub set_state : (heap : List Object) (g : ℕ) (state : GenState) (code : ℕ) → nature_of (slice_get heap g) ≡ AGenerator code → (code' : ℕ) (now : GenState) (given cells : List Value) → slice_get (state_set heap g state (slice_get heap g)) g ≡ Some (object.Generator code' now given cells) → now ≡ state
set_state heap g state code n code' now given cells is = set_by heap g state (slice_get heap g) refl code n code' now given cells is

nature_same : (heap : List Object) (n g code code' : ℕ) (now : GenState) (given cells : List Value) → n ≡ g → nature_of (slice_get heap g) ≡ AGenerator code → slice_get heap n ≡ Some (object.Generator code' now given cells) → code' ≡ code
nature_same heap n g code code' now given cells at is e =
    let a : nature_of (slice_get heap n) ≡ AGenerator code' = ap nature_of e in
    let b : nature_of (slice_get heap n) ≡ AGenerator code = subst (λ i. nature_of (slice_get heap i) ≡ AGenerator code) (sym at) is in
    code_same code' code (sym a ∙ b)
  where
    code_same : (x y : ℕ) → AGenerator x ≡ AGenerator y → x ≡ y
    code_same x y e = cc

module _ (z : Program) (tabs : Tables) where
  -- ---- a called body stopped

  pub left_call : (r R : Room) (T : Table) (h g : View) (f : Frame) (K : Kind) (after : After) (res : Res S) → FrameLaw r h f → AfterLaw h after → FinishGives z K h after → (IsTrue R.yields → ⊥) → Grows h g → Done z tabs R T g res → Met z tabs r 0 K nowhere h (left_by res (leave_call (source z) f after))
  left_call r R T h g f K after (Spent o) l k gives never w d = tt
  left_call r R T h g f K after (Paused o u x p) l k gives never w d = absurd (never d.yields)
  left_call r R T h g f K after (Ended o u e) l k gives never w d =
      let grown : Grows h (seen d.marks u) = grows_trans h g (seen d.marks u) w d.grows in
      call_comes z tabs r h (state_of f u.around) d.marks (back_in (source z) f u.around) K after (given_back e)
      (back z tabs r h f u d.marks d.world d.since d.kept grown l) (after_more h (seen d.marks u) grown after k) gives (gives_back (seen d.marks u) e d.end)

  -- ---- a resumed generator stopped

  module _ (r : Room) (h : View) (f : Frame) (g code : ℕ) (l : FrameLaw r h f) (is : nature_of (slice_get h.heap g) ≡ AGenerator code) where
    module _ (u : S) (x : Value) (p : List Step) (d : Pauses z tabs (room_at z code) (tabs code) h u x p) where
      abbrev pause : Pause Frame
      pause = record { code = code; frame = u.frame; place = p }

      abbrev behind : Scene
      behind = back_in (source z) f u.around

      abbrev now_paused : Scene
      now_paused = with_state behind g gen.Paused

      set_paused : StateSet (roster z) behind.world d.marks now_paused.world.heap
      set_paused = state_law (roster z) behind.world d.marks (moved z u.around.world d.marks f.code d.lawful.world d.lawful.since) g gen.Paused

      abbrev then_view : View
      then_view = view now_paused.world.heap d.marks

      grown : Grows h then_view
      grown = grows_trans h (seen d.marks u) then_view d.grows set_paused.grows

      is_then : nature_of (slice_get now_paused.world.heap g) ≡ AGenerator code
      is_then = grown.natures g (known_within h.heap g (AGenerator code) tt is) ∙ is

      kept_then : (n code' : ℕ) (given cells : List Value) → slice_get now_paused.world.heap n ≡ Some (object.Generator code' gen.Paused given cells) → (same : Bool) → nat_eq n g ≡ same → IsKept z tabs then_view code' (kept_at (keep_at u.around.kept g (Some pause)) n)
      kept_then n code' given cells e true at =
          let m : n ≡ g = grind (arith, nat_tests) in
          subst (λ i. IsKept z tabs then_view code' (kept_at (keep_at u.around.kept g (Some pause)) i)) (sym m)
          (subst (λ o. IsKept z tabs then_view code' o) (sym (kept_same u.around.kept g (Some pause)))
          (subst (λ c. IsKept z tabs then_view c (Some pause)) (sym (nature_same now_paused.world.heap n g code code' gen.Paused given cells m is_then e))
          (record {
            pause = pause;
            is = refl;
            same = refl;
            frame = frame_more (room_at z code) (seen d.marks u) then_view set_paused.grows u.frame d.lawful.frame;
            then = seen d.marks u;
            since = set_paused.grows;
            place = d.place;
          })))
      kept_then n code' given cells e false at =
          let apart : n ≡ g → ⊥ = λ m. absurd (grind (arith, nat_tests)) in
          subst (λ o. IsKept z tabs then_view code' o) (sym (kept_other u.around.kept g (Some pause) n apart))
          (elim (got_state z tabs behind.world.heap g gen.Paused n code' gen.Paused given cells e) [
            | inl q ↦ absurd (apart q.0)
            | inr q ↦ kept_more z tabs (seen d.marks u) then_view set_paused.grows code' (kept_at u.around.kept n) (d.lawful.kept n code' given cells q)
          ])

      reached_paused : Reached z tabs r h (state_of f (with_kept u.around g (Some pause))) d.marks now_paused
      reached_paused = record {
        lawful = record {
          world = set_paused.law;
          since = grows_trans (start_view z) (seen d.marks u) then_view d.lawful.since set_paused.grows;
          frame = frame_more r h then_view grown f l;
          kept = λ n code' given cells e. kept_then n code' given cells e (nat_eq n g) refl;
        };
        grows = grown;
      }

      paused_comes : (closing : Bool) → Comes z tabs r h (state_of f (with_kept u.around g (Some pause))) IsThere (paused_with now_paused closing x)
      paused_comes true = text_comes z tabs r h (state_of f (with_kept u.around g (Some pause))) d.marks now_paused runtime_error (codes "generator ignored GeneratorExit") reached_paused (omega arith)
      paused_comes false = reached_goes z tabs r h (state_of f (with_kept u.around g (Some pause))) d.marks now_paused IsThere (Next x) reached_paused (there_more (seen d.marks u) then_view set_paused.grows x d.value)

    pub left_generator : (closing : Bool) (res : Res S) → Done z tabs (room_at z code) (tabs code) h res → Met z tabs r 0 IsThere nowhere h (left_by res (leave_generator (source z) f g code closing))
    left_generator closing (Spent o) d = tt
    left_generator closing (Paused o u x p) d = paused_comes u x p d closing
    left_generator closing (Ended o u e) d =
        over_comes z tabs r h (state_of f u.around) d.marks (back_in (source z) f u.around) g closing (given_back e)
        (back z tabs r h f u d.marks d.world d.since d.kept d.grows l) (gives_back (seen d.marks u) e d.end)

  -- ---- entries

  -- bodies are entered within a bound within which they go right
  module _ (M : ℕ) (agree : Agree z tabs M) (b : ℕ) (le : b ≤ M) where
    module _ (r : Room) (h : View) (s : S) (marks : ℕ → Mark) where
      -- the body of a code begins
      begun_done : (a : Scene) → Reached z tabs r h s marks a → (code : ℕ) (c : syntax.Code) (given cells : List Value) → Begins z (view a.world.heap marks) code c given cells → Done z tabs (room_at z code) (tabs code) (view a.world.heap marks) (run (rows z) b (OfCode code) Begin (enters (source z) (in_scene s a).around code (begun_of code given cells c)))
      begun_done a x code c given cells k =
          (agree.bodies code c k.coded).begins marks (enters (source z) (in_scene s a).around code (begun_of code given cells c))
          (record {
            world = moved z a.world marks code x.lawful.world x.lawful.since;
            since = x.lawful.since;
            frame = begun_law z (view a.world.heap marks) code c given cells k;
            kept = x.lawful.kept;
          }) (from_nothing (view a.world.heap marks)) b le

      pub called_met : (a : Scene) → Reached z tabs r h s marks a → (code : ℕ) (c : syntax.Code) (given cells : List Value) (K : Kind) (after : After) → Begins z (view a.world.heap marks) code c given cells → c.header.generator ≡ false → AfterLaw (view a.world.heap marks) after → FinishGives z K (view a.world.heap marks) after → Met z tabs r 0 K nowhere h (entered (run (rows z) b) (calls (source z) (in_scene s a) code after (begun_frame false code given cells (slice_get z.codes code))))
      called_met a x code c given cells K after k no_generator l gives =
          let v = view a.world.heap marks in
          let never : IsTrue (room_at z code).yields → ⊥ = λ y. absurd (let e = yields_as z code c k.coded in let t : (room_at z code).yields ≡ true = y in cc) in
          subst (λ o. Met z tabs r 0 K nowhere h (entered (run (rows z) b) (calls (source z) (in_scene s a) code after o))) (sym (begun_frame_is z v false code c given cells no_generator k))
          (met_down z tabs r 0 K nowhere h v _ x.grows
          (left_call r (room_at z code) (tabs code) v v s.frame K after _ x.lawful.frame l gives never (grows_refl v) (begun_done a x code c given cells k)))

      pub started_met : (a : Scene) → Reached z tabs r h s marks a → (g code : ℕ) (c : syntax.Code) (given cells : List Value) → Begins z (view a.world.heap marks) code c given cells → c.header.generator ≡ true → nature_of (slice_get a.world.heap g) ≡ AGenerator code → Met z tabs r 0 IsThere nowhere h (entered (run (rows z) b) (starts (source z) (in_scene s a) g code (begun_frame true code given cells (slice_get z.codes code))))
      started_met a x g code c given cells k generator is =
          let v = view a.world.heap marks in
          subst (λ o. Met z tabs r 0 IsThere nowhere h (entered (run (rows z) b) (starts (source z) (in_scene s a) g code o))) (sym (begun_frame_is z v true code c given cells generator k))
          (met_down z tabs r 0 IsThere nowhere h v _ x.grows
          (left_generator r v s.frame g code x.lawful.frame is false _ (begun_done a x code c given cells k)))

      -- a generator goes on with what it kept; it isn't paused any more
      module _ (a : Scene) (x : Reached z tabs r h s marks a) (g : ℕ) (running : (code : ℕ) (given cells : List Value) → slice_get a.world.heap g ≡ Some (object.Generator code gen.Paused given cells) → ⊥) where
        kept_without : (n code : ℕ) (given cells : List Value) → slice_get a.world.heap n ≡ Some (object.Generator code gen.Paused given cells) → (same : Bool) → nat_eq n g ≡ same → IsKept z tabs (view a.world.heap marks) code (kept_at (keep_at s.around.kept g None) n)
        kept_without n code given cells e true at =
            let m : n ≡ g = grind (arith, nat_tests) in
            absurd (running code given cells (subst (λ i. slice_get a.world.heap i ≡ Some (object.Generator code gen.Paused given cells)) m e))
        kept_without n code given cells e false at =
            let apart : n ≡ g → ⊥ = λ m. absurd (grind (arith, nat_tests)) in
            subst (λ o. IsKept z tabs (view a.world.heap marks) code o) (sym (kept_other s.around.kept g None n apart)) (x.lawful.kept n code given cells e)

        woken_at : (k : Pause Frame) (c : syntax.Code) → slice_get z.codes k.code ≡ Some c → nature_of (slice_get a.world.heap g) ≡ AGenerator k.code → FrameLaw (room_at z k.code) (view a.world.heap marks) k.frame → (since : View) → Grows since (view a.world.heap marks) → tabs k.code k.place since → (how : How) (closing : Bool) → HowIs (view a.world.heap marks) how → Met z tabs r 0 IsThere nowhere h (entered (run (rows z) b) (goes_on (source z) (in_scene s a) g how closing (Some k)))
        woken_at k c coded is frame since w place how closing y =
            let v = view a.world.heap marks in
            let t : S = enters (source z) (with_kept (in_scene s a).around g None) k.code k.frame in
            let d : Done z tabs (room_at z k.code) (tabs k.code) v (run (rows z) b (OfCode k.code) (Back k.place how) t) =
            (agree.bodies k.code c coded).goes_on k.place since place (from_nothing since) how marks t
            (record {
              world = moved z a.world marks k.code x.lawful.world x.lawful.since;
              since = x.lawful.since;
              frame = frame;
              kept = λ n code given cells e. kept_without n code given cells e (nat_eq n g) refl;
            }) w y b le in
            met_down z tabs r 0 IsThere nowhere h v _ x.grows (left_generator r v s.frame g k.code x.lawful.frame is closing _ d)

        pub woken_met : (code : ℕ) (c : syntax.Code) → slice_get z.codes code ≡ Some c → nature_of (slice_get a.world.heap g) ≡ AGenerator code → IsKept z tabs (view a.world.heap marks) code (kept_at s.around.kept g) → (how : How) (closing : Bool) → HowIs (view a.world.heap marks) how → Met z tabs r 0 IsThere nowhere h (entered (run (rows z) b) (goes_on (source z) (in_scene s a) g how closing (kept_at s.around.kept g)))
        woken_met code c coded is k how closing y =
            let e : code ≡ k.pause.code = sym k.same in
            subst (λ o. Met z tabs r 0 IsThere nowhere h (entered (run (rows z) b) (goes_on (source z) (in_scene s a) g how closing o))) (sym k.is)
            (woken_at k.pause c (subst (λ i. slice_get z.codes i ≡ Some c) e coded) (subst (λ i. nature_of (slice_get a.world.heap g) ≡ AGenerator i) e is)
            (subst (λ i. FrameLaw (room_at z i) (view a.world.heap marks) k.pause.frame) e k.frame) k.then k.since (subst (λ i. tabs i k.pause.place k.then) e k.place) how closing y)
