-- The scenes that operations come to, in a lawful state, and how they end there.
use Rattle.std.proofs.Common.{◌≡◌, ℕ, ◌<◌, List, [], ◌∷◌, Option, Some, Bool, true, false, if◌then◌else◌, refl, sym, subst, arith, length, inl, inr, nat_lt}
use Rattle.std.specs.Prelude.{◌⊎◌, ◌&&◌, slice_get, codes}
use Rattle.nu_value.specs.declared.object.GenState.{GenState}
use Rattle.nu_value.specs.declared.object.GenState.TheVariants as gen
use Rattle.nu_value.specs.declared.object.Object.{Object}
use Rattle.nu_value.specs.declared.object.Object.TheVariants as object
use Rattle.nu_value.specs.declared.value.Value.{Value}
use Rattle.nu_value.specs.declared.value.Value.TheVariants as value
use Rattle.nu_value.specs.Natives.{native_classes}
use Rattle.op_forms.specs.declared.end.After.{After}
use Rattle.op_forms.specs.declared.end.OpEnd.{OpEnd}
use Rattle.op_forms.specs.declared.end.OpEnd.TheVariants as opend
use Rattle.op_forms.specs.declared.world.World.{World}
use Rattle.op_forms.specs.Answers.{Answer}
use Rattle.op_forms.specs.Sound.{ASpace as SpaceSort, IsA}
use Rattle.nu_rows.specs.Rows.{End, Next, Leave, Raised, Return, Stopped, Undefined}
use Rattle.nu_calls.specs.Exceptions.{Thrown, exception_made, is_kind}
use Rattle.nu_calls.specs.Surroundings.{Scene, with_heap, kept_at}
use Rattle.nu_calls.specs.Ends.{Gives, Raises, Ending, ending, raises, raises_text, generator_exit, runtime_error, stop_iteration, state_set, with_state, returned, generator_gave, ended_body, generator_ended, at_once, answered, call_ended, module_of, world_of}
use Rattle.nu_calls.specs.Calls.{state_of, in_scene, end_of, back_in, given_back}
use Rattle.py_meaning.specs.Frames.{Frame}
use Rattle.py_safe.specs.Heaps.{Mark, Open, View, view, Grows, KeepsGenerators, IsThere, AllThere}
use Rattle.py_safe.specs.Rules.{AfterLaw, MayRaise, EndLaw, IsAtOnce, Leaves, WorldLaw}
use Rattle.py_safe.specs.Constructs.{Room}
use Rattle.py_safe.proofs.Right.{S, heap_of, Program, roster, source, seen, Tables, FrameLaw, AllKept, Lawful, Kind, EndIs, Goes, Anything}
use Rattle.py_safe.proofs.Growth.{set_cases, grows_trans, is_a_more, frame_more, kept_more}
use Rattle.py_safe.proofs.Worlds.{world_module, world_left, state_law}
use Rattle.py_safe.proofs.Rows.{end_more}
use Rattle.py_safe.proofs.Raised.{Follows, exception_throws, native_raises}

-- ---- the names of a code's module

-- as a run begins
abbrev pub start_view : Program → View
start_view z = view (z.rules.start (roster z).headers).heap (λ n. Open)

module_is : (z : Program) (w : World) (marks : ℕ → Mark) (b : Bool) → WorldLaw (roster z) w marks → Grows (start_view z) (view w.heap marks) → IsA w.heap (if b then (z.rules.start w.codes).«module» else w.builtins) SpaceSort
module_is z w marks true l g =
    subst (λ headers. IsA w.heap (z.rules.start headers).«module» SpaceSort) (sym l.codes)
    (is_a_more (start_view z) (view w.heap marks) g (z.rules.start (roster z).headers).«module» SpaceSort (z.law.start (roster z)).sound.names)
module_is z w marks false l g = l.sound.builtins

-- a world, with the names that a code looks up
pub moved : (z : Program) (w : World) (marks : ℕ → Mark) (code : ℕ) → WorldLaw (roster z) w marks → Grows (start_view z) (view w.heap marks) → WorldLaw (roster z) (world_of z.rules z.scripts w code) marks
moved z w marks code l g = world_module (roster z) w marks l (module_of z.rules z.scripts w code) (module_is z w marks (nat_lt code z.scripts) l g)

-- what becomes of the value of an asked function is of a kind, if it is given
abbrev pub FinishGives : Program → Kind → View → After → Type 0
FinishGives z K h after =
    (w : World) (marks : ℕ → Mark) (y x : Value) → Grows h (view w.heap marks) → Grows (view w.heap marks) (view (z.rules.finish after w y).heap marks) → (z.rules.finish after w y).end ≡ opend.Give x
    → IsThere (view (z.rules.finish after w y).heap marks) x → K (view (z.rules.finish after w y).heap marks) x

-- a body gives back no Unset
pub gives_back : (v : View) (e : End) → EndIs 0 Anything v e → EndIs 0 Anything v (given_back e)
gives_back v (Return value.Unset) y = absurd y.0
gives_back v (Return value.None) y = y
gives_back v (Return (value.Bool b)) y = y
gives_back v (Return (value.Int i)) y = y
gives_back v (Return (value.Str text)) y = y
gives_back v (Return (value.Obj n)) y = y
gives_back v (Next x) y = y
gives_back v (Leave i) y = y
gives_back v (Raised x) y = y
gives_back v (Stopped kind) y = y
gives_back v Undefined y = y

-- ---- lawful states in other scenes

module _ (z : Program) (tabs : Tables) where
  scene_kept : (s : S) (a : Scene) (marks more : ℕ → Mark) → AllKept z tabs marks s → Grows (seen marks s) (view a.world.heap more) → KeepsGenerators (heap_of s) a.world.heap → AllKept z tabs more (in_scene s a)
  scene_kept s a marks more k g generators =
      λ n code given cells e. elim (generators n code gen.Paused given cells e) [
        | inl p ↦ kept_more z tabs (seen marks s) (view a.world.heap more) g code (kept_at s.around.kept n) (k n code given cells p)
        | inr q ↦ absurd (cc)
      ]

  -- the state is lawful in another scene, with all that was there
  pub scene_lawful : (r : Room) (s : S) (a : Scene) (marks more : ℕ → Mark) → Lawful z tabs r marks s → WorldLaw (roster z) a.world more → Grows (seen marks s) (view a.world.heap more) → KeepsGenerators (heap_of s) a.world.heap → Lawful z tabs r more (in_scene s a)
  scene_lawful r s a marks more l w g generators = record {
    world = w;
    since = grows_trans (start_view z) (seen marks s) (view a.world.heap more) l.since g;
    frame = frame_more r (seen marks s) (view a.world.heap more) g s.frame l.frame;
    kept = scene_kept s a marks more l.kept g generators;
  }

  -- from a view on, a lawful state in this scene
  pub record Reached (r : Room) (h : View) (s : S) (marks : ℕ → Mark) (a : Scene) : Type 0 where
    pub lawful : Lawful z tabs r marks (in_scene s a)
    pub grows : Grows h (view a.world.heap marks)

  pub reached_with : (r : Room) (h : View) (s : S) (marks : ℕ → Mark) (a : Scene) (heap : List Object) → Reached r h s marks a → Follows (roster z) a.world marks heap → Reached r h s marks (with_heap a heap)
  reached_with r h s marks a heap x f = record {
    lawful = scene_lawful r (in_scene s a) (with_heap a heap) marks marks x.lawful f.law f.grows f.generators;
    grows = grows_trans h (view a.world.heap marks) (view heap marks) x.grows f.grows;
  }

  pub reached_goes : (r : Room) (h : View) (s : S) (marks : ℕ → Mark) (a : Scene) (K : Kind) (e : End) → Reached r h s marks a → EndIs 0 K (view a.world.heap marks) e → Goes z tabs r 0 K h e (in_scene s a)
  reached_goes r h s marks a K e x y = record { marks = marks; lawful = x.lawful; grows = x.grows; end = y }

  -- ---- ends of operations

  -- an ending, as the end of a row that operates
  abbrev pub Comes : Room → View → S → Kind → Ending → Type 0
  Comes r h s K x = Goes z tabs r 0 K h (end_of x.result) (in_scene s x.scene)

  pub raises_comes : (r : Room) (h : View) (s : S) (marks : ℕ → Mark) (a : Scene) (K : Kind) (n : ℕ) (args : List Value) → Reached r h s marks a → MayRaise (view a.world.heap marks) n → AllThere (view a.world.heap marks) args → Comes r h s K (raises a n args)
  raises_comes r h s marks a K n args x m p =
      let t = exception_throws (roster z) a.world marks x.lawful.world n args m p in
      let made : Thrown = exception_made n args a.world.heap in
      reached_goes r h s marks (with_heap a made.heap) K (Raised made.exception) (reached_with r h s marks a made.heap x t.follows) t.is

  -- a class that no script makes is raised
  pub native_comes : (r : Room) (h : View) (s : S) (marks : ℕ → Mark) (a : Scene) (K : Kind) (n : ℕ) (args : List Value) → Reached r h s marks a → n < length native_classes → AllThere (view a.world.heap marks) args → Comes r h s K (raises a n args)
  native_comes r h s marks a K n args x less p =
      raises_comes r h s marks a K n args x (native_raises (roster z) a.world marks x.lawful.world n less) p

  once_comes : (r : Room) (h : View) (s : S) (marks : ℕ → Mark) (a : Scene) (K : Kind) (e : OpEnd) → Reached r h s marks a → EndLaw (roster z) (view a.world.heap marks) e → IsAtOnce e → ((v : Value) → e ≡ opend.Give v → IsThere (view a.world.heap marks) v → K (view a.world.heap marks) v) → Comes r h s K (at_once a e)
  once_comes r h s marks a K (opend.Give v) x l o f = reached_goes r h s marks a K (Next v) x (f v refl l)
  once_comes r h s marks a K (opend.Raise n args) x l o f = raises_comes r h s marks a K n args x l.0 l.1
  once_comes r h s marks a K (opend.Stop kind) x l o f = reached_goes r h s marks a K (Stopped kind) x tt
  once_comes r h s marks a K other x l o f = absurd o

  answered_comes : (r : Room) (h : View) (s : S) (marks : ℕ → Mark) (a : Scene) (K : Kind) (x : Answer) → Reached r h s marks a → Leaves (roster z) a.world marks x → IsAtOnce x.end → ((v : Value) → x.end ≡ opend.Give v → IsThere (view x.heap marks) v → K (view x.heap marks) v) → Comes r h s K (answered a x)
  answered_comes r h s marks a K x y l o f =
      once_comes r h s marks (with_heap a x.heap) K x.end
      (reached_with r h s marks a x.heap y (record { law = world_left (roster z) a.world marks x y.lawful.world l; grows = l.grows; generators = l.generators })) l.end o f

  -- a called body ended
  pub call_comes : (r : Room) (h : View) (s : S) (marks : ℕ → Mark) (a : Scene) (K : Kind) (after : After) (e : End) → Reached r h s marks a → AfterLaw (view a.world.heap marks) after → FinishGives z K h after → EndIs 0 Anything (view a.world.heap marks) e → Comes r h s K (call_ended z.rules after a e)
  call_comes r h s marks a K after (Next v) x l f y =
      let k = z.law.finish (roster z) a.world marks after value.None x.lawful.world l (tt, tt) in
      answered_comes r h s marks a K (z.rules.finish after a.world value.None) x k.0 k.1 (λ u e d. f a.world marks value.None u x.grows k.0.grows e d)
  call_comes r h s marks a K after (Return v) x l f y =
      let k = z.law.finish (roster z) a.world marks after v x.lawful.world l y in
      answered_comes r h s marks a K (z.rules.finish after a.world v) x k.0 k.1 (λ u e d. f a.world marks v u x.grows k.0.grows e d)
  call_comes r h s marks a K after (Raised e) x l f y = reached_goes r h s marks a K (Raised e) x y
  call_comes r h s marks a K after (Stopped kind) x l f y = reached_goes r h s marks a K (Stopped kind) x tt
  call_comes r h s marks a K after (Leave n) x l f y = absurd (omega (arith, y))
  call_comes r h s marks a K after Undefined x l f y = absurd y

  -- ---- generators

  -- what stands in a heap in which a generator's state is another
  got_by : (heap : List Object) (g : ℕ) (state : GenState) (o : Option Object) (n code : ℕ) (now : GenState) (given cells : List Value) → slice_get (state_set heap g state o) n ≡ Some (object.Generator code now given cells) → ((n ≡ g) × (now ≡ state)) ⊎ (slice_get heap n ≡ Some (object.Generator code now given cells))
  got_by heap g state (Some (object.Generator code' old given' cells')) n code now given cells e =
      elim (set_cases heap g (object.Generator code' state given' cells') n (object.Generator code now given cells) e) [
        | inl p ↦ inl (p.0, state_same code now given cells code' state given' cells' p.1)
        | inr q ↦ inr q
      ]
    where
      state_same : (code : ℕ) (now : GenState) (given cells : List Value) (code' : ℕ) (state : GenState) (given' cells' : List Value) → object.Generator code now given cells ≡ object.Generator code' state given' cells' → now ≡ state
      state_same code now given cells code' state given' cells' e = cc
  got_by heap g state other n code now given cells e = inr e

  pub got_state : (heap : List Object) (g : ℕ) (state : GenState) (n code : ℕ) (now : GenState) (given cells : List Value) → slice_get (state_set heap g state (slice_get heap g)) n ≡ Some (object.Generator code now given cells) → ((n ≡ g) × (now ≡ state)) ⊎ (slice_get heap n ≡ Some (object.Generator code now given cells))
  got_state heap g state n code now given cells e = got_by heap g state (slice_get heap g) n code now given cells e

  -- one that isn't paused in another state, which is no pause
  pub reached_state : (r : Room) (h : View) (s : S) (marks : ℕ → Mark) (a : Scene) (g : ℕ) (state : GenState) → (state ≡ gen.Paused → ⊥) → Reached r h s marks a → Reached r h s marks (with_state a g state)
  reached_state r h s marks a g state other x =
      let t = state_law (roster z) a.world marks x.lawful.world g state in
      let b : Scene = with_state a g state in
      record {
        lawful = record {
          world = t.law;
          since = grows_trans (start_view z) (view a.world.heap marks) (view b.world.heap marks) x.lawful.since t.grows;
          frame = frame_more r (view a.world.heap marks) (view b.world.heap marks) t.grows s.frame x.lawful.frame;
          kept = λ n code given cells e. elim (got_state a.world.heap g state n code gen.Paused given cells e) [
            | inl p ↦ absurd (other (sym p.1))
            | inr q ↦ kept_more z tabs (view a.world.heap marks) (view b.world.heap marks) t.grows code (kept_at s.around.kept n) (x.lawful.kept n code given cells q)
          ];
        };
        grows = grows_trans h (view a.world.heap marks) (view b.world.heap marks) x.grows t.grows;
      }

  returned_comes : (r : Room) (h : View) (s : S) (marks : ℕ → Mark) (a : Scene) (v : Value) → Reached r h s marks a → IsThere (view a.world.heap marks) v → Comes r h s IsThere (returned a v)
  returned_comes r h s marks a value.None x y = native_comes r h s marks a IsThere stop_iteration [] x (omega arith) tt
  returned_comes r h s marks a value.Unset x y = native_comes r h s marks a IsThere stop_iteration (value.Unset ∷ []) x (omega arith) (y, tt)
  returned_comes r h s marks a (value.Bool b) x y = native_comes r h s marks a IsThere stop_iteration (value.Bool b ∷ []) x (omega arith) (y, tt)
  returned_comes r h s marks a (value.Int i) x y = native_comes r h s marks a IsThere stop_iteration (value.Int i ∷ []) x (omega arith) (y, tt)
  returned_comes r h s marks a (value.Str text) x y = native_comes r h s marks a IsThere stop_iteration (value.Str text ∷ []) x (omega arith) (y, tt)
  returned_comes r h s marks a (value.Obj n) x y = native_comes r h s marks a IsThere stop_iteration (value.Obj n ∷ []) x (omega arith) (y, tt)

  pub text_comes : (r : Room) (h : View) (s : S) (marks : ℕ → Mark) (a : Scene) (n : ℕ) (text : List ℕ) → Reached r h s marks a → n < length native_classes → Comes r h s IsThere (raises_text a n text)
  text_comes r h s marks a n text x less = native_comes r h s marks a IsThere n (value.Str text ∷ []) x less ((tt, tt), tt)

  gave_comes : (r : Room) (h : View) (s : S) (marks : ℕ → Mark) (a : Scene) (closing : Bool) (v : Value) → Reached r h s marks a → IsThere (view a.world.heap marks) v → Comes r h s IsThere (generator_gave a closing v)
  gave_comes r h s marks a true v x y = reached_goes r h s marks a IsThere (Next value.None) x (tt, tt)
  gave_comes r h s marks a false v x y = returned_comes r h s marks a v x y

  left_comes : (r : Room) (h : View) (s : S) (marks : ℕ → Mark) (a : Scene) (is exit : Bool) (e : ℕ) → Reached r h s marks a → EndIs 0 IsThere (view a.world.heap marks) (Raised e) → Comes r h s IsThere (if is then raises_text a runtime_error (codes "generator raised StopIteration") else if exit then ending a (Gives value.None) else ending a (Raises e))
  left_comes r h s marks a true exit e x y = text_comes r h s marks a runtime_error (codes "generator raised StopIteration") x (omega arith)
  left_comes r h s marks a false true e x y = reached_goes r h s marks a IsThere (Next value.None) x (tt, tt)
  left_comes r h s marks a false false e x y = reached_goes r h s marks a IsThere (Raised e) x y

  ended_comes : (r : Room) (h : View) (s : S) (marks : ℕ → Mark) (a : Scene) (closing : Bool) (e : End) → Reached r h s marks a → EndIs 0 Anything (view a.world.heap marks) e → Comes r h s IsThere (ended_body a closing e)
  ended_comes r h s marks a closing (Next v) x y = gave_comes r h s marks a closing value.None x (tt, tt)
  ended_comes r h s marks a closing (Return v) x y = gave_comes r h s marks a closing v x y
  ended_comes r h s marks a closing (Raised e) x y = left_comes r h s marks a (is_kind a.world.heap e stop_iteration) (closing && is_kind a.world.heap e generator_exit) e x y
  ended_comes r h s marks a closing (Stopped kind) x y = reached_goes r h s marks a IsThere (Stopped kind) x tt
  ended_comes r h s marks a closing (Leave n) x y = absurd (omega (arith, y))
  ended_comes r h s marks a closing Undefined x y = absurd y

  -- a generator's body ended
  pub over_comes : (r : Room) (h : View) (s : S) (marks : ℕ → Mark) (a : Scene) (g : ℕ) (closing : Bool) (e : End) → Reached r h s marks a → EndIs 0 Anything (view a.world.heap marks) e → Comes r h s IsThere (generator_ended a g closing e)
  over_comes r h s marks a g closing e x y =
      let t = state_law (roster z) a.world marks x.lawful.world g gen.Over in
      let b : Scene = with_state a g gen.Over in
      ended_comes r h s marks b closing e (reached_state r h s marks a g gen.Over (λ e. absurd (cc)) x) (end_more 0 Anything (view a.world.heap marks) (view b.world.heap marks) e (λ v k. tt) t.grows y)

  -- the scene of a frame's code, once a body that it began has stopped
  pub back : (r : Room) (h : View) (f : Frame) (u : S) (marks : ℕ → Mark) → WorldLaw (roster z) u.around.world marks → Grows (start_view z) (seen marks u) → AllKept z tabs marks u → Grows h (seen marks u) → FrameLaw r h f → Reached r h (state_of f u.around) marks (back_in (source z) f u.around)
  back r h f u marks w since kept g l = record {
    lawful = record {
      world = moved z u.around.world marks f.code w since;
      since = since;
      frame = frame_more r h (seen marks u) g f l;
      kept = kept;
    };
    grows = g;
  }
