-- A step only adds to what was printed; and when a run of functions is the same as another.
use Rattle.std.proofs.Common.{◌≡◌, ℕ, ◌≤◌, List, [], ◌∷◌, ◌++◌, Option, Some, None, Bool, true, false, slice_get, refl, sym, ◌∙◌, subst, if◌then◌else◌}
use Rattle.nu_run.specs.declared.End.TheVariants as end
use Rattle.nu_run.specs.Runs.{Run, Going, Ended, IsPrefix, IsMonotone, IsDefined, Below, Same}
use Rattle.nu_run.specs.Steps.{Stepped, More, Halt, on_step, run, Grew}
use Rattle.nu_run.proofs.Runs.{Tracks, same_from, prefix_refl, prefix_more, prefix_trans, longer}
use Rattle.nu_value.specs.declared.object.Object.{Object}
use Rattle.nu_value.specs.declared.object.Object.TheVariants as object
use Rattle.nu_value.specs.declared.value.Value.{Value}
use Rattle.nu_value.specs.declared.value.Value.TheVariants as value
use Rattle.op_forms.specs.declared.end.After.TheVariants as after
use Rattle.op_forms.specs.declared.op.Op.{Op}
use Rattle.nu_calls.specs.Surroundings.{Surroundings, scene, with_scene, with_frames, with_kept, kept_at}
use Rattle.nu_rows.specs.Rows.{End, Next, Leave, Raised, Return, Stopped, Undefined, How}
use Rattle.nu_calls.specs.Scripts.{report_function}
use Rattle.nu_calls.specs.Traceback.{head_text}
use Rattle.nu_calls.specs.Ends.{Result, Gives, Raises, Stops, Unsaid, Ending, Begun, Over, Calls, Starts, Wakes, Began, begun_by, generator_paused, generator_ended, call_ended, outside}
use Rattle.flow_code.specs.declared.statement.Statement.{Statement}
use Rattle.flow_code.specs.declared.statement.Statement.TheVariants as flat
use Rattle.flow_code.specs.Machine.{Waiting, Bottom, Builtins, Script, Report, Stack, Base, Called, Resumed, State, Functions, undefined, using, having, settles, ends, enters, told, goes_on, begins, operates, report_begins, report_began, asks_function, reports, uncaught, script_begins, module_ended, base_ended, body_ended, paused, branches, pending_exception, again, operand_value, values, acts, acts_at, step, printed}
use Rattle.flow_code.specs.Run.{begun, machine_run}

module _ {L : Type 0} (m : Functions L) (base : List ℕ) where
  abbrev Grows : Stepped (State L) → Type 0
  Grows x = Grew printed base x

  if_grows : (b : Bool) (x y : Stepped (State L)) → Grows x → Grows y → Grows (if b then x else y)
  if_grows true x y h k = h
  if_grows false x y h k = k

  having_grows : {A : Type 0} (x : Option A) (out : List ℕ) (go : A → Stepped (State L)) → IsPrefix base out → ((v : A) → Grows (go v)) → Grows (having x (undefined out) go)
  having_grows None out go p h = p
  having_grows (Some v) out go p h = h v

  using_grows : (x : Option Value) (out : List ℕ) (go : Value → Stepped (State L)) → IsPrefix base out → ((v : Value) → Grows (go v)) → Grows (using x (undefined out) go)
  using_grows None out go p h = p
  using_grows (Some value.Unset) out go p h = p
  using_grows (Some value.None) out go p h = h value.None
  using_grows (Some (value.Bool b)) out go p h = h (value.Bool b)
  using_grows (Some (value.Int z)) out go p h = h (value.Int z)
  using_grows (Some (value.Str text)) out go p h = h (value.Str text)
  using_grows (Some (value.Obj n)) out go p h = h (value.Obj n)

  settles_grows : (w : Waiting L) (below : Stack L) (a : Surroundings (Waiting L)) (out : List ℕ) (r : Result) → IsPrefix base out → Grows (settles m w below a out r)
  settles_grows w below a out (Gives v) p = p
  settles_grows w below a out (Raises e) p = p
  settles_grows w below a out (Stops kind) p = p
  settles_grows w below a out Unsaid p = p

  enters_grows : (kind : Bool) (code : ℕ) (given cells : List Value) (stack : Stack L) (a : Surroundings (Waiting L)) (out : List ℕ) → IsPrefix base out → Grows (enters m kind code given cells stack a out)
  enters_grows kind code given cells stack a out p = if_grows (m.has kind code) _ _ p p

  goes_on_grows : (w : Waiting L) (g : ℕ) (how : How) (closing : Bool) (below : Stack L) (a : Surroundings (Waiting L)) (out : List ℕ) (k : Option (Waiting L)) → IsPrefix base out → Grows (goes_on m w g how closing below a out k)
  goes_on_grows w g how closing below a out None p = p
  goes_on_grows w g how closing below a out (Some k) p = settles_grows _ _ _ out (told m how) p

  begins_grows : (w : Waiting L) (below : Stack L) (a : Surroundings (Waiting L)) (out : List ℕ) (b : Begun) → IsPrefix base out → Grows (begins m w below a out b)
  begins_grows w below a out (Over more r) p = settles_grows w below a (out ++ more) r (prefix_trans _ _ _ p (prefix_more out more))
  begins_grows w below a out (Calls code given cells after) p = enters_grows false code given cells _ a out p
  begins_grows w below a out (Starts g code given cells) p = enters_grows true code given cells _ a out p
  begins_grows w below a out (Wakes g how closing) p = goes_on_grows w g how closing below a out (kept_at a.kept g) p

  operates_grows : (w : Waiting L) (below : Stack L) (a : Surroundings (Waiting L)) (out : List ℕ) (o : Op) (args : List Value) → IsPrefix base out → Grows (operates m w below a out o args)
  operates_grows w below a out o args p =
      if_grows (m.rules.fits o a.world args) _ _ (begins_grows w below _ out (begun_by m.scripts (scene a) (m.rules.apply o a.world args)).begun p) p

  report_begins_grows : (head : List ℕ) (c : ℕ) (a : Surroundings (Waiting L)) (out : List ℕ) (b : Begun) → IsPrefix base out → Grows (report_begins m head c a out b)
  report_begins_grows head c a out (Over more r) p = prefix_trans _ _ _ p (prefix_more out more)
  report_begins_grows head c a out (Calls code given cells after) p = enters_grows false code given cells _ a out p
  report_begins_grows head c a out (Starts g code given cells) p = p
  report_begins_grows head c a out (Wakes g how closing) p = p

  report_began_grows : (head : List ℕ) (c : ℕ) (a : Surroundings (Waiting L)) (out : List ℕ) (b : Began) → IsPrefix base out → Grows (report_began m head c a out b)
  report_began_grows head c a out b p = report_begins_grows head c (with_scene a b.scene) out b.begun p

  asks_grows : (head : List ℕ) (c e : ℕ) (a : Surroundings (Waiting L)) (out : List ℕ) (f : ℕ) (x : Option Object) → IsPrefix base out → Grows (asks_function m head c e a out f x)
  asks_grows head c e a out f None p = p
  asks_grows head c e a out f (Some (object.Function code defaults keywords cells)) p = report_began_grows head c a out (begun_by m.scripts (scene a) (m.rules.bind a.world f (value.Obj e ∷ []) after.Plain)) p
  asks_grows head c e a out f (Some other) p = p

  reports_grows : (head : List ℕ) (c e : ℕ) (a : Surroundings (Waiting L)) (out : List ℕ) (f : Option Value) → IsPrefix base out → Grows (reports m head c e a out f)
  reports_grows head c e a out None p = p
  reports_grows head c e a out (Some value.Unset) p = p
  reports_grows head c e a out (Some value.None) p = p
  reports_grows head c e a out (Some (value.Bool b)) p = p
  reports_grows head c e a out (Some (value.Int z)) p = p
  reports_grows head c e a out (Some (value.Str text)) p = p
  reports_grows head c e a out (Some (value.Obj f)) p = asks_grows head c e a out f (slice_get a.world.heap f) p

  uncaught_grows : (c e : ℕ) (a : Surroundings (Waiting L)) (out : List ℕ) → IsPrefix base out → Grows (uncaught m c e a out)
  uncaught_grows c e a out p = reports_grows (head_text m.file a.world.heap e) c e (with_scene a (with_frames (scene a) 0)) out (report_function a.world) p

  script_grows : (a : Surroundings (Waiting L)) (out : List ℕ) → IsPrefix base out → Grows (script_begins m a out)
  script_grows a out p = enters_grows false 0 [] [] (Base Script) (with_scene a (with_frames (scene a) 0)) out p

  ends_grows : (w : Waiting L) (below : Stack L) (a : Surroundings (Waiting L)) (out : List ℕ) (x : Ending) → IsPrefix base out → Grows (ends m w below a out x)
  ends_grows w below a out x p = settles_grows w below (with_scene a x.scene) out x.result p

  module_ended_grows : (c : ℕ) (a : Surroundings (Waiting L)) (out : List ℕ) (next : Stepped (State L)) (e : End) → IsPrefix base out → Grows next → Grows (module_ended m c a out next e)
  module_ended_grows c a out next (Next v) p h = h
  module_ended_grows c a out next (Return v) p h = h
  module_ended_grows c a out next (Raised e) p h = uncaught_grows c e a out p
  module_ended_grows c a out next (Stopped kind) p h = p
  module_ended_grows c a out next (Leave n) p h = p
  module_ended_grows c a out next Undefined p h = p

  base_ended_grows : (b : Bottom) (c : ℕ) (a : Surroundings (Waiting L)) (out : List ℕ) (e : End) → IsPrefix base out → Grows (base_ended m b c a out e)
  base_ended_grows Builtins c a out e p = module_ended_grows c a out (script_begins m a out) e p (script_grows a out p)
  base_ended_grows Script c a out e p = module_ended_grows c a out (Halt out end.Done) e p p
  base_ended_grows (Report head caller after) c a out e p = p

  body_ended_grows : (c : ℕ) (stack : Stack L) (a : Surroundings (Waiting L)) (out : List ℕ) (e : End) → IsPrefix base out → Grows (body_ended m c stack a out e)
  body_ended_grows c (Base b) a out e p = base_ended_grows b c a out e p
  body_ended_grows c (Called w after below) a out e p = ends_grows w below a out (call_ended m.rules after (outside m.rules m.scripts (scene a) w.frame.code) e) p
  body_ended_grows c (Resumed w g code closing below) a out e p = ends_grows w below a out (generator_ended (outside m.rules m.scripts (scene a) w.frame.code) g closing e) p

  paused_grows : (k : Waiting L) (v : Value) (stack : Stack L) (a : Surroundings (Waiting L)) (out : List ℕ) → IsPrefix base out → Grows (paused m k v stack a out)
  paused_grows k v (Base b) a out p = p
  paused_grows k v (Called w after below) a out p = p
  paused_grows k v (Resumed w g code closing below) a out p = ends_grows w below (with_kept a g (Some k)) out (generator_paused (outside m.rules m.scripts (scene a) w.frame.code) g closing v) p

  branches_grows : (s : State L) (next : L) (l : ℕ) (v : Value) → IsPrefix base s.out → Grows (branches m s next l v)
  branches_grows s next l value.Unset p = p
  branches_grows s next l value.None p = p
  branches_grows s next l (value.Bool true) p = p
  branches_grows s next l (value.Bool false) p = p
  branches_grows s next l (value.Int z) p = p
  branches_grows s next l (value.Str text) p = p
  branches_grows s next l (value.Obj n) p = p

  pending_grows : (s : State L) (l e : ℕ) (x : Option Object) → IsPrefix base s.out → Grows (pending_exception m s l e x)
  pending_grows s l e None p = p
  pending_grows s l e (Some (object.Exception class args entries fields cause)) p = p
  pending_grows s l e (Some other) p = p

  again_grows : (s : State L) (l : ℕ) (v : Value) → IsPrefix base s.out → Grows (again m s l v)
  again_grows s l value.Unset p = p
  again_grows s l value.None p = p
  again_grows s l (value.Bool b) p = p
  again_grows s l (value.Int z) p = p
  again_grows s l (value.Str text) p = p
  again_grows s l (value.Obj n) p = pending_grows s l n (slice_get s.around.world.heap n) p

  acts_grows : (s : State L) (next : L) (x : Statement) → IsPrefix base s.out → Grows (acts m s next x)
  acts_grows s next (flat.Store to a) p = having_grows (operand_value s.frame a) s.out _ p (λ v. p)
  acts_grows s next (flat.Unset to) p = p
  acts_grows s next (flat.Parameter to i) p = having_grows (slice_get s.frame.given i) s.out _ p (λ v. p)
  acts_grows s next (flat.Free to i) p = having_grows (slice_get s.frame.cells i) s.out _ p (λ v. p)
  acts_grows s next (flat.Do to line o args fail) p = having_grows (values s.frame args) s.out _ p (λ vs. operates_grows _ s.stack s.around s.out o vs p)
  acts_grows s next (flat.Goto l) p = p
  acts_grows s next (flat.Branch test l) p = using_grows (operand_value s.frame test) s.out _ p (λ v. branches_grows s next l v p)
  acts_grows s next (flat.Caught to) p = having_grows s.pending s.out _ p (λ e. p)
  acts_grows s next (flat.Again a l) p = using_grows (operand_value s.frame a) s.out _ p (λ v. again_grows s l v p)
  acts_grows s next (flat.Give a) p = using_grows (operand_value s.frame a) s.out _ p (λ v. body_ended_grows s.frame.code s.stack s.around s.out (Return v) p)
  acts_grows s next flat.End p = body_ended_grows s.frame.code s.stack s.around s.out (Next value.None) p
  acts_grows s next flat.Fail p = having_grows s.pending s.out _ p (λ e. body_ended_grows s.frame.code s.stack s.around s.out (Raised e) p)
  acts_grows s next (flat.Yield to line a fail) p = using_grows (operand_value s.frame a) s.out _ p (λ v. paused_grows _ v s.stack s.around s.out p)

  acts_at_grows : (s : State L) (x : Option (Statement × L)) → IsPrefix base s.out → Grows (acts_at m s x)
  acts_at_grows s None p = p
  acts_at_grows s (Some x) p = acts_grows s x.1 x.0 p

pub step_grows : {L : Type 0} (m : Functions L) (s : State L) → Grew printed (printed s) (step m s)
step_grows m s = acts_at_grows m s.out s (m.fetch s.code s.place) (prefix_refl s.out)

stepped_monotone : {L : Type 0} (m : Functions L) (x : Stepped (State L)) (i n : ℕ) → i ≤ n → Below (on_step x (run (step m) printed i)) (on_step x (run (step m) printed n))
stepped_monotone m (More s) i n le = longer (step m) printed (step_grows m) i n le s
stepped_monotone m (Halt out e) i n le = refl

pub machine_monotone : {L : Type 0} (m : Functions L) (input : List ℕ) → IsMonotone (machine_run m input)
machine_monotone m input i n le = stepped_monotone m (begun m input) i n le

-- a machine that follows a run that is defined is the same, also where it halts at once
same_of : {S : Type 0} (step : S → Stepped S) (printed : S → List ℕ) (grows : (s : S) → Grew printed (printed s) (step s)) (P : ℕ → Run) (x : Stepped S) → IsDefined P → ((n : ℕ) → Tracks n (P n) (λ j. on_step x (run step printed j))) → Same P (λ j. on_step x (run step printed j))
same_of step printed grows P (More s) d t = same_from step printed grows P s d t
same_of step printed grows P (Halt out e) d t = record {
  there = λ n. (0, subst (λ r. Below r (Ended out e)) (sym (is n (P n) refl)) refl);
  back = λ n. (0, is 0 (P 0) refl);
}
  where
    is : (n : ℕ) (r : Run) → P n ≡ r → P n ≡ Ended out e
    is n (Going o) h = let a = (t n).goes_on o h in cc
    is n (Ended o x) h = let a = (t n).ends o x h (d n o x h) in h ∙ sym a.1

-- functions whose run follows one that is defined do the same
pub machine_same : {L : Type 0} (m : Functions L) (input : List ℕ) (P : ℕ → Run) → IsDefined P → ((n : ℕ) → Tracks n (P n) (machine_run m input)) → Same P (machine_run m input)
machine_same m input P d t = same_of (step m) printed (step_grows m) P (begun m input) d t
