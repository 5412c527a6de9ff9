-- What the end of an operation begins: a function that is asked, a generator that is resumed, a line, or nothing more.
use Rattle.std.proofs.Common.{◌≡◌, ℕ, ◌<◌, ◌≤◌, List, [], Option, Some, None, Bool, true, false, if◌then◌else◌, refl, ap, ◌∙◌, arith, length}
use Rattle.std.specs.Prelude.{nat_le, slice_get, codes}
use Rattle.std.proofs.lemmas.Option.{slice_get_within}
use Rattle.nu_run.specs.declared.StopKind.TheVariants as stop
use Rattle.nu_value.specs.declared.header.Header.{Header}
use Rattle.nu_value.specs.declared.object.GenState.{GenState}
use Rattle.nu_value.specs.declared.object.GenState.TheVariants as gen
use Rattle.nu_value.specs.declared.object.Object.{Object}
use Rattle.nu_value.specs.declared.object.Object.TheVariants as object
use Rattle.nu_value.specs.declared.value.Value.{Value}
use Rattle.nu_value.specs.declared.value.Value.TheVariants as value
use Rattle.op_forms.specs.declared.end.After.{After}
use Rattle.op_forms.specs.declared.end.How as op_how
use Rattle.op_forms.specs.declared.end.How.TheVariants as how
use Rattle.op_forms.specs.declared.end.OpEnd.{OpEnd}
use Rattle.op_forms.specs.declared.end.OpEnd.TheVariants as opend
use Rattle.nu_rows.specs.Rows.{Next, Raised, Stopped, How, Send, Throw, Res, entered, run}
use Rattle.nu_calls.specs.Exceptions.{Thrown, exception_made}
use Rattle.nu_calls.specs.Lines.{NextLine, ALine, NoLine, BadLine, line_of}
use Rattle.nu_calls.specs.Surroundings.{Scene, with_heap, with_input, kept_at}
use Rattle.nu_calls.specs.Ends.{Stops, Calls, Starts, Began, raises_text, generator_exit, stop_iteration, type_error, value_error, over, ending, is_full, begins, with_state, in_scope, at_line, first_line, thrown_fresh, fresh_resumed, wakes, paused_resumed, over_resumed, resumed, asked, line_read, begun}
use Rattle.nu_calls.specs.Calls.{in_scene, began}
use Rattle.py_meaning.specs.Syntax as syntax
use Rattle.py_safe.specs.Rosters.{frees_in}
use Rattle.py_safe.specs.Heaps.{Mark, View, view, ASpace, AGenerator, nature_of, Grows, Takes, IsThere, AllThere}
use Rattle.py_safe.specs.Rules.{AfterLaw, HowLaw, GivenAs, MayBegin, EndLaw}
use Rattle.py_safe.specs.Constructs.{Room, is_class}
use Rattle.py_safe.proofs.Right.{S, Program, roster, source, rows, seen, Tables, nowhere, IsKept, Lawful, Kind, HowIs, Met, Agree}
use Rattle.py_safe.proofs.Growth.{grows_refl, all_there_more, thrown_more, cells_more, how_more, of_more, kept_more, all_there}
use Rattle.py_safe.proofs.Worlds.{state_law}
use Rattle.py_safe.proofs.Raised.{entry_follows, exception_throws, native_raises}
use Rattle.py_safe.proofs.Rows.{met_map}
use Rattle.py_safe.proofs.Frames.{CodeIs, code_is, Begins, names_given}
use Rattle.py_safe.proofs.Scenes.{FinishGives, Reached, reached_with, reached_goes, Comes, raises_comes, native_comes, reached_state, text_comes, over_comes}
use Rattle.py_safe.proofs.Bodies.{set_state, called_met, started_met, woken_met}

-- what an end gives is of a kind, at once or behind a body
abbrev pub EndGives : Program → Kind → View → OpEnd → Type 0
EndGives z K v (opend.Give x) = K v x
EndGives z K v (opend.Raise n args) = Unit {0}
EndGives z K v (opend.Ask f given names after) = FinishGives z K v after
EndGives z K v (opend.Stop kind) = Unit {0}
EndGives z K v other = (more : View) (x : Value) → IsThere more x → K more x

pub begins_more : (z : Program) (v more : View) (code : ℕ) (c : syntax.Code) (given cells : List Value) → Grows v more → Begins z v code c given cells → Begins z more code c given cells
begins_more z v more code c given cells g k = record {
  coded = k.coded;
  count = k.count;
  there = all_there_more v more g given k.there;
  frees = k.frees;
  all = cells_more v more g cells k.all;
  names = λ y. of_more v more g ASpace _ tt (k.names y);
}

-- a code that a body of some object begins
pub record Begun (z : Program) (v : View) (code : ℕ) (generator : Bool) (given cells : List Value) : Type 0 where
  pub code_of : CodeIs z code generator given
  pub begins : Begins z v code code_of.is given cells

module _ (z : Program) (tabs : Tables) where
  -- a generator that is there has a code, and what that takes
  pub generator_begins : (r : Room) (marks : ℕ → Mark) (s : S) → Lawful z tabs r marks s → (g code : ℕ) (state : GenState) (given cells : List Value) → slice_get s.around.world.heap g ≡ Some (object.Generator code state given cells) → Begun z (seen marks s) code true given cells
  generator_begins r marks s l g code state given cells e =
      let o : Object = object.Generator code state given cells in
      let inside = l.world.sound.heap.objects g o e in
      let opens = l.world.law.opens g o e in
      let bodies = l.world.law.bodies g o e in
      let k = code_is z code true given bodies.1 in
      let no_class : is_class (z.role code) ≡ false = ap is_class bodies.2 in
      record {
        code_of = k;
        begins = record {
          coded = k.at;
          count = k.count;
          there = all_there (seen marks s) given inside.0.0 opens.0;
          frees = bodies.0 ∙ ap frees_in k.at;
          all = (inside.1.1, opens.1);
          names = λ y. absurd (let e : is_class (z.role code) ≡ true = y in cc);
        };
      }

  -- so has a function
  pub function_begins : (r : Room) (marks : ℕ → Mark) (s : S) → Lawful z tabs r marks s → (f code : ℕ) (defaults : List Value) (keywords : List (List ℕ × Value)) (cells given : List Value) → slice_get s.around.world.heap f ≡ Some (object.Function code defaults keywords cells) → Takes (roster z) code false given → AllThere (seen marks s) given → GivenAs (seen marks s) (z.role code) given → Begun z (seen marks s) code false given cells
  function_begins r marks s l f code defaults keywords cells given e takes there as_given =
      let o : Object = object.Function code defaults keywords cells in
      let inside = l.world.sound.heap.objects f o e in
      let opens = l.world.law.opens f o e in
      let bodies = l.world.law.bodies f o e in
      let k = code_is z code false given takes in
      record {
        code_of = k;
        begins = record {
          coded = k.at;
          count = k.count;
          there = there;
          frees = bodies.0 ∙ ap frees_in k.at;
          all = (inside.1.2, opens.2);
          names = names_given z (seen marks s) code k.is given as_given;
        };
      }

  module _ (M : ℕ) (agree : Agree z tabs M) (b : ℕ) (le : b ≤ M) (r : Room) (h : View) (s : S) (marks : ℕ → Mark) where
    -- what an entry comes to
    abbrev pub Meets : Kind → Began → Type 0
    Meets K x = Met z tabs r 0 K nowhere h (entered (run (rows z) b) (began (source z) s x))

    abbrev At : Scene → Type 0
    At a = Reached z tabs r h s marks a

    -- a body begins, unless too many frames are live
    begins_by : (K : Kind) (a : Scene) → At a → (x : Began) → Meets K x → (full : Bool) → Meets K (if full then over (ending a (Stops stop.Depth)) else x)
    begins_by K a y x m true = reached_goes z tabs r h s marks a K (Stopped stop.Depth) y tt
    begins_by K a y x m false = m

    begins_met : (K : Kind) (a : Scene) → At a → (x : Began) → Meets K x → Meets K (begins a x)
    begins_met K a y x m = begins_by K a y x m (is_full a)

    -- ---- generators

    running : (a : Scene) (g code : ℕ) → nature_of (slice_get a.world.heap g) ≡ AGenerator code → (code' : ℕ) (given cells : List Value) → slice_get (with_state a g gen.Running).world.heap g ≡ Some (object.Generator code' gen.Paused given cells) → ⊥
    running a g code is code' given cells e = let x : gen.Paused ≡ gen.Running = set_state a.world.heap g gen.Running code is code' gen.Paused given cells e in absurd (cc)

    -- it goes on
    wakes_met : (a : Scene) (x : At a) (g code : ℕ) (c : syntax.Code) → slice_get z.codes code ≡ Some c → g < length a.world.heap → nature_of (slice_get a.world.heap g) ≡ AGenerator code → IsKept z tabs (view a.world.heap marks) code (kept_at s.around.kept g) → (how : How) (closing : Bool) → HowIs (view a.world.heap marks) how → Meets IsThere (wakes a g how closing)
    wakes_met a x g code c coded less is k how closing y =
        let t = state_law (roster z) a.world marks x.lawful.world g gen.Running in
        let a' : Scene = with_state a g gen.Running in
        woken_met z tabs M agree b le r h s marks a' (reached_state z tabs r h s marks a g gen.Running (λ e. absurd (cc)) x) g (running a g code is) code c coded (t.grows.natures g less ∙ is)
        (kept_more z tabs (view a.world.heap marks) (view a'.world.heap marks) t.grows code (kept_at s.around.kept g) k) how closing (how_more (view a.world.heap marks) (view a'.world.heap marks) t.grows how y)

    paused_met : (a : Scene) → At a → (g code : ℕ) (given cells : List Value) → slice_get a.world.heap g ≡ Some (object.Generator code gen.Paused given cells) → (y : op_how.How) → HowLaw (view a.world.heap marks) y → Meets IsThere (paused_resumed a g y)
    paused_met a x g code given cells e (how.Send v) y =
        let k = generator_begins r marks (in_scene s a) x.lawful g code gen.Paused given cells e in
        begins_met IsThere a x (wakes a g (Send v) false) (wakes_met a x g code k.code_of.is k.code_of.at (slice_get_within a.world.heap g _ e) (ap nature_of e) (x.lawful.kept g code given cells e) (Send v) false y)
    paused_met a x g code given cells e (how.Throw t) y =
        let k = generator_begins r marks (in_scene s a) x.lawful g code gen.Paused given cells e in
        begins_met IsThere a x (wakes a g (Throw t) false) (wakes_met a x g code k.code_of.is k.code_of.at (slice_get_within a.world.heap g _ e) (ap nature_of e) (x.lawful.kept g code given cells e) (Throw t) false y)
    paused_met a x g code given cells e how.Close y =
        let k = generator_begins r marks (in_scene s a) x.lawful g code gen.Paused given cells e in
        let w = x.lawful.world in
        let t = exception_throws (roster z) a.world marks w generator_exit [] (native_raises (roster z) a.world marks w generator_exit (omega arith)) tt in
        let made : Thrown = exception_made generator_exit [] a.world.heap in
        let less : g < length a.world.heap = slice_get_within a.world.heap g _ e in
        begins_met IsThere a x (wakes (with_heap a made.heap) g (Throw made.exception) true)
        (wakes_met (with_heap a made.heap) (reached_with z tabs r h s marks a made.heap x t.follows) g code k.code_of.is k.code_of.at (omega (arith, less, t.follows.grows.longer))
        (t.follows.grows.natures g less ∙ ap nature_of e) (kept_more z tabs (view a.world.heap marks) (view made.heap marks) t.follows.grows code (kept_at s.around.kept g) (x.lawful.kept g code given cells e))
        (Throw made.exception) true t.is)

    -- an exception gets an entry
    lined_by : (a : Scene) → At a → (built_in : Bool) (o : Option Header) (line e : ℕ) → At (in_scope built_in a o line e) × Grows (view a.world.heap marks) (view (in_scope built_in a o line e).world.heap marks)
    lined_by a x built_in None line e = (x, grows_refl (view a.world.heap marks))
    lined_by a x built_in (Some header) line e =
        let f = entry_follows (roster z) a.world marks x.lawful.world built_in line header.scope e in
        (reached_with z tabs r h s marks a _ x f, f.grows)

    pub lined : (a : Scene) → At a → (code line e : ℕ) → At (at_line z.scripts a code line e) × Grows (view a.world.heap marks) (view (at_line z.scripts a code line e).world.heap marks)
    lined a x code line e = lined_by a x (nat_le z.scripts code) (slice_get a.world.codes code) line e

    type_met : (a : Scene) → At a → Comes z tabs r h s IsThere (raises_text a type_error (codes "can't send non-None value to a just-started generator"))
    type_met a x = text_comes z tabs r h s marks a type_error (codes "can't send non-None value to a just-started generator") x (omega arith)

    -- it hasn't begun
    fresh_met : (a : Scene) → At a → (g code : ℕ) (given cells : List Value) → slice_get a.world.heap g ≡ Some (object.Generator code gen.Fresh given cells) → (y : op_how.How) → HowLaw (view a.world.heap marks) y → Meets IsThere (fresh_resumed z.scripts a g code given cells y)
    fresh_met a x g code given cells e (how.Send value.None) y =
        let k = generator_begins r marks (in_scene s a) x.lawful g code gen.Fresh given cells e in
        let t = state_law (roster z) a.world marks x.lawful.world g gen.Running in
        let a' : Scene = with_state a g gen.Running in
        begins_met IsThere a x (record { scene = a'; begun = Starts g code given cells })
        (started_met z tabs M agree b le r h s marks a' (reached_state z tabs r h s marks a g gen.Running (λ e. absurd (cc)) x) g code k.code_of.is given cells
        (begins_more z (view a.world.heap marks) (view a'.world.heap marks) code k.code_of.is given cells t.grows k.begins) k.code_of.kind (t.grows.natures g (slice_get_within a.world.heap g _ e) ∙ ap nature_of e))
    fresh_met a x g code given cells e (how.Send value.Unset) y = type_met a x
    fresh_met a x g code given cells e (how.Send (value.Bool v)) y = type_met a x
    fresh_met a x g code given cells e (how.Send (value.Int v)) y = type_met a x
    fresh_met a x g code given cells e (how.Send (value.Str v)) y = type_met a x
    fresh_met a x g code given cells e (how.Send (value.Obj v)) y = type_met a x
    fresh_met a x g code given cells e (how.Throw t) y =
        let line = first_line (slice_get a.world.codes code) in
        let l = lined a x code line t in
        let a' : Scene = at_line z.scripts a code line t in
        begins_met IsThere a x (over (thrown_fresh z.scripts a g code t))
        (over_comes z tabs r h s marks a' g false (Raised t) l.0 (thrown_more (view a.world.heap marks) (view a'.world.heap marks) l.1 t y))
    fresh_met a x g code given cells e how.Close y =
        reached_goes z tabs r h s marks (with_state a g gen.Over) IsThere (Next value.None) (reached_state z tabs r h s marks a g gen.Over (λ e. absurd (cc)) x) (tt, tt)

    over_met : (a : Scene) → At a → (y : op_how.How) → HowLaw (view a.world.heap marks) y → Comes z tabs r h s IsThere (over_resumed a y)
    over_met a x (how.Send v) y = native_comes z tabs r h s marks a IsThere stop_iteration [] x (omega arith) tt
    over_met a x (how.Throw t) y = reached_goes z tabs r h s marks a IsThere (Raised t) x y
    over_met a x how.Close y = reached_goes z tabs r h s marks a IsThere (Next value.None) x (tt, tt)

    resumed_met : (a : Scene) → At a → (g : ℕ) (o : Option Object) → slice_get a.world.heap g ≡ o → (code : ℕ) → nature_of o ≡ AGenerator code → (y : op_how.How) → HowLaw (view a.world.heap marks) y → Meets IsThere (resumed z.scripts a g o y)
    resumed_met a x g (Some (object.Generator code' gen.Running given cells)) e code is y k = text_comes z tabs r h s marks a value_error (codes "generator already executing") x (omega arith)
    resumed_met a x g (Some (object.Generator code' gen.Fresh given cells)) e code is y k = fresh_met a x g code' given cells e y k
    resumed_met a x g (Some (object.Generator code' gen.Paused given cells)) e code is y k = paused_met a x g code' given cells e y k
    resumed_met a x g (Some (object.Generator code' gen.Over given cells)) e code is y k = over_met a x y k
    resumed_met a x g other e code is y k = absurd (cc)

    -- ---- functions

    pub asked_met : (a : Scene) → At a → (f : ℕ) (o : Option Object) → slice_get a.world.heap f ≡ o → (given : List Value) (K : Kind) (after : After) → MayBegin (roster z) (view a.world.heap marks) o given → AfterLaw (view a.world.heap marks) after → FinishGives z K (view a.world.heap marks) after → Meets K (asked a o given after)
    asked_met a x f (Some (object.Function code defaults keywords cells)) e given K after m l gives =
        let k = function_begins r marks (in_scene s a) x.lawful f code defaults keywords cells given e m.0 m.1 m.2 in
        begins_met K a x (record { scene = a; begun = Calls code given cells after })
        (called_met z tabs M agree b le r h s marks a x code k.code_of.is given cells K after k.begins k.code_of.kind l gives)
    asked_met a x f other e given K after m l gives = absurd m

    -- ---- lines, and all ends

    reached_input : (a : Scene) (rest : List ℕ) → At a → At (with_input a rest)
    reached_input a rest x = record { lawful = record { world = x.lawful.world; since = x.lawful.since; frame = x.lawful.frame; kept = x.lawful.kept }; grows = x.grows }

    line_met : (a : Scene) → At a → (line : NextLine) → Comes z tabs r h s IsThere (line_read a line)
    line_met a x (ALine text rest) = reached_goes z tabs r h s marks (with_input a rest) IsThere (Next (value.Str text)) (reached_input a rest x) (tt, tt)
    line_met a x NoLine = reached_goes z tabs r h s marks a IsThere (Next value.None) x (tt, tt)
    line_met a x BadLine = reached_goes z tabs r h s marks a IsThere (Stopped stop.Line) x tt

    of_kind : (K : Kind) (res : Res S) → ((more : View) (v : Value) → IsThere more v → K more v) → Met z tabs r 0 IsThere nowhere h res → Met z tabs r 0 K nowhere h res
    of_kind K res f y = met_map z tabs r 0 0 IsThere K nowhere nowhere h h res (omega arith) (grows_refl h) (λ g v w k. f g v k) (λ p u w q. q) y

    pub begun_met : (a : Scene) → At a → (K : Kind) (e : OpEnd) → EndLaw (roster z) (view a.world.heap marks) e → EndGives z K (view a.world.heap marks) e → Meets K (begun z.scripts a e)
    begun_met a x K (opend.Give v) l k = reached_goes z tabs r h s marks a K (Next v) x k
    begun_met a x K (opend.Raise n args) l k = raises_comes z tabs r h s marks a K n args x l.0 l.1
    begun_met a x K (opend.Ask f given names after) l k = asked_met a x f (slice_get a.world.heap f) refl given K after l.0 l.2 k
    begun_met a x K (opend.Resume g y) l k = of_kind K _ k (resumed_met a x g (slice_get a.world.heap g) refl l.0.0 l.0.1 y l.1)
    begun_met a x K (opend.Put text) l k = reached_goes z tabs r h s marks a K (Next value.None) x (k (view a.world.heap marks) value.None (tt, tt))
    begun_met a x K opend.Line l k = of_kind K (entered (run (rows z) b) (began (source z) s (begun z.scripts a opend.Line))) k (line_met a x (line_of a.input))
    begun_met a x K (opend.Stop kind) l k = reached_goes z tabs r h s marks a K (Stopped kind) x tt
