-- What is told of an exception that nothing caught means something: the function that gives its text, if there is one, goes right.
use Rattle.std.proofs.Common.{◌≡◌, ℕ, zero, suc, List, [], ◌∷◌, Option, Some, None, Bool, true, false, if◌then◌else◌, refl, subst, arith, length}
use Rattle.std.specs.Prelude.{slice_get, nat_le, codes, option_map}
use Rattle.nu_run.specs.Runs.{IsDefinedEnd}
use Rattle.nu_run.specs.declared.StopKind.TheVariants as stop
use Rattle.nu_value.specs.declared.object.Object.{Object}
use Rattle.nu_value.specs.declared.object.Object.TheVariants as object
use Rattle.nu_value.specs.declared.value.Value.{Value}
use Rattle.nu_value.specs.declared.value.Value.TheVariants as value
use Rattle.nu_value.specs.Names.{NameList, place_of}
use Rattle.op_forms.specs.declared.end.After.{After}
use Rattle.op_forms.specs.declared.end.After.TheVariants as behind
use Rattle.op_forms.specs.declared.end.OpEnd.{OpEnd}
use Rattle.op_forms.specs.declared.end.OpEnd.TheVariants as opend
use Rattle.op_forms.specs.declared.world.World.{World}
use Rattle.op_forms.specs.Answers.{names_of}
use Rattle.op_forms.specs.Parts.{NamesOf}
use Rattle.op_forms.specs.Sound.{IsIn, ObjectIn}
use Rattle.nu_rows.specs.Rows.{End, Next, Leave, Raised, Return, Stopped, Undefined, Step, Second, Begin, Res, Spent, Paused, Ended, shift, after, left_by, entered, run, does}
use Rattle.nu_rows.specs.Words.{ends_with}
use Rattle.nu_calls.specs.Surroundings.{Scene, scene, with_heap}
use Rattle.nu_calls.specs.Ends.{Result, Ending, Gives, Raises, Stops, Unsaid, Calls, over, ending, asked, begun, call_ended}
use Rattle.nu_calls.specs.Calls.{state_of, in_scene, end_of, back_in, given_back, leave_call, calls}
use Rattle.nu_calls.specs.Scripts.{report_function, report_began, asks_function, asks_report, report, reported, fixes, uncaught, shows}
use Rattle.nu_calls.specs.Traceback.{head_text}
use Rattle.py_meaning.specs.Frames.{Frame}
use Rattle.py_meaning.specs.Bodies.{begun_frame}
use Rattle.py_safe.specs.Heaps.{Mark, View, view, Grows, NamesOpen, ObjectOpen, IsThere, IsThrown}
use Rattle.py_safe.specs.Rules.{MayBegin, AfterLaw, EndLaw, IsCall, WorldLaw}
use Rattle.py_safe.specs.Constructs.{Room}
use Rattle.py_safe.proofs.Right.{S, Program, roster, source, rows, seen, heap_of, FrameLaw, nowhere, AllKept, EndIs, Met, Anything}
use Rattle.py_safe.proofs.Growth.{grows_refl}
use Rattle.py_safe.proofs.Worlds.{world_left}
use Rattle.py_safe.proofs.Scenes.{start_view, Reached, reached_with}
use Rattle.py_safe.proofs.Bodies.{called_met}
use Rattle.py_safe.proofs.Begun.{Begun, function_begins}
use Rattle.py_safe.proofs.Agreement.{tables, agree}
use Rattle.py_safe.proofs.Exceptions.{thrown_there}

-- an outcome of a main row that a run shows by an end that means something
abbrev pub Shown : Res S → Type 0
Shown (Spent o) = Unit {0}
Shown (Paused o s v p) = ⊥
Shown (Ended o s e) = IsDefinedEnd (shows e s)

pub shown_shift : (o : List ℕ) (x : Step) (r : Res S) → Shown r → Shown (shift o x r)
shown_shift o x (Spent p) h = tt
shown_shift o x (Paused p s v q) h = h
shown_shift o x (Ended p s e) h = h

-- ---- replies

abbrev IsReply : End → Type 0
IsReply (Next v) = Unit {0}
IsReply (Raised x) = Unit {0}
IsReply (Stopped kind) = Unit {0}
IsReply other = ⊥

abbrev Replied : Res S → Type 0
Replied (Spent o) = Unit {0}
Replied (Paused o s v p) = ⊥
Replied (Ended o s e) = IsReply e

reply_shown : (z : Program) (head : List ℕ) (e : End) (t : S) (m : ℕ) → IsReply e → Shown (does (rows z) (ends_with (reported head e)) Begin t m)
reply_shown z head (Next (value.Str text)) t m y = tt
reply_shown z head (Next value.Unset) t m y = tt
reply_shown z head (Next value.None) t m y = tt
reply_shown z head (Next (value.Bool b)) t m y = tt
reply_shown z head (Next (value.Int i)) t m y = tt
reply_shown z head (Next (value.Obj n)) t m y = tt
reply_shown z head (Raised x) t m y = tt
reply_shown z head (Stopped kind) t m y = tt
reply_shown z head (Leave i) t m y = absurd y
reply_shown z head (Return v) t m y = absurd y
reply_shown z head Undefined t m y = absurd y

replied_shown : (z : Program) (head : List ℕ) (r : Res S) (m : ℕ) → Replied r → Shown (after r (λ e t. does (rows z) (ends_with (reported head e)) Begin t m))
replied_shown z head (Spent o) m y = tt
replied_shown z head (Paused o s v p) m y = absurd y
replied_shown z head (Ended o s e) m y = shown_shift o (Second e) (does (rows z) (ends_with (reported head e)) Begin s m) (reply_shown z head e s m y)

result_reply : (v : View) (x : Result) → EndIs 0 Anything v (end_of x) → IsReply (end_of x)
result_reply v (Gives y) e = tt
result_reply v (Raises y) e = tt
result_reply v (Stops kind) e = tt
result_reply v Unsaid e = absurd e

-- ---- the function that gives the text

-- the value of a name is there
name_at : (h : List Object) (marks : ℕ → Mark) (names : NameList) (place : ℕ) (p : List ℕ × Value) → NamesOf (IsIn h) names → NamesOpen marks names → slice_get names place ≡ Some p → IsThere (view h marks) p.1
name_at h marks [] place p a b e = absurd (cc)
name_at h marks (q ∷ names) zero p a b e = let same : q ≡ p = first q p e in subst (λ x. IsThere (view h marks) x.1) same (a.0, b.0)
  where
    first : (q p : List ℕ × Value) → Some q ≡ Some p → q ≡ p
    first q p e = cc
name_at h marks (q ∷ names) (suc place) p a b e = name_at h marks names place p a.1 b.1 e

name_found : (h : List Object) (marks : ℕ → Mark) (names : NameList) (place : ℕ) (o : Option (List ℕ × Value)) → slice_get names place ≡ o → NamesOf (IsIn h) names → NamesOpen marks names → (x : Value) → option_map (λ p. p.1) o ≡ Some x → IsThere (view h marks) x
name_found h marks names place None e a b x is = absurd (cc)
name_found h marks names place (Some p) e a b x is = let same : p.1 ≡ x = cc in subst (λ y. IsThere (view h marks) y) same (name_at h marks names place p a b e)

names_in : (codes : ℕ) (h : List Object) (marks : ℕ → Mark) (n : ℕ) (o : Option Object) → slice_get h n ≡ o → ((x : Object) → slice_get h n ≡ Some x → ObjectIn codes h n x) → ((x : Object) → slice_get h n ≡ Some x → ObjectOpen marks x) → NamesOf (IsIn h) (names_of o) × NamesOpen marks (names_of o)
names_in codes h marks n (Some (object.Space names)) e a b = ((a (object.Space names) e).0, b (object.Space names) e)
names_in codes h marks n other e a b = (tt, tt)

report_there : (z : Program) (w : World) (marks : ℕ → Mark) → WorldLaw (roster z) w marks → (x : Value) → report_function w ≡ Some x → IsThere (view w.heap marks) x
report_there z w marks law x e =
    let names : NameList = names_of (slice_get w.heap w.builtins) in
    let place : ℕ = place_of names (codes "_nu_report") in
    let p = names_in (length w.codes) w.heap marks w.builtins (slice_get w.heap w.builtins) refl (law.sound.heap.objects w.builtins) (law.law.opens w.builtins) in
    name_found w.heap marks names place (slice_get names place) refl p.0 p.1 x e

-- ---- it is called; the frame of the code that ended is of no account

abbrev plain : Frame → Frame
plain f = record { code = f.code; locals = []; owns = []; frees = []; carried = value.None }

abbrev no_room : Room
no_room = record { locals = 0; bound = 0; owns = 0; frees = 0; names = false; handler = false; yields = false }

plain_law : (v : View) (f : Frame) → FrameLaw no_room v (plain f)
plain_law v f = record {
  locals = tt;
  count = refl;
  bound = λ place less. absurd (omega (arith, less));
  names = λ t. absurd (cc);
  owns = (tt, tt);
  made = refl;
  frees = (tt, tt);
  given = refl;
  carried = (tt, tt);
}

abbrev bare : S → S
bare s = state_of (plain s.frame) s.around

module _ (z : Program) (h : View) where
  stopped_replied : (f : Frame) (after : After) (res : Res S) → Met z (tables z) no_room 0 Anything nowhere h (left_by res (leave_call (source z) (plain f) after)) → Replied (left_by res (leave_call (source z) f after))
  stopped_replied f after (Spent o) y = tt
  stopped_replied f after (Paused o u x p) y = absurd y.end
  stopped_replied f after (Ended o u e) y =
      let x : Ending = call_ended z.rules after (back_in (source z) f u.around) (given_back e) in
      result_reply (seen y.marks (state_of (plain f) (in_scene (state_of (plain f) u.around) x.scene).around)) x.result y.end

  called_replied : (m : ℕ) (s : S) (code : ℕ) (after : After) (o : Option Frame) → Met z (tables z) no_room 0 Anything nowhere h (entered (run (rows z) m) (calls (source z) (bare s) code after o)) → Replied (entered (run (rows z) m) (calls (source z) s code after o))
  called_replied m s code after None y = absurd y.end
  called_replied m s code after (Some f) y = stopped_replied s.frame after _ y

  module _ (s : S) (marks : ℕ → Mark) (a : Scene) (x : Reached z (tables z) no_room h (bare s) marks a) (m : ℕ) where
    begins_replied : (code : ℕ) (given cells : List Value) (after : After) → Begun z (view a.world.heap marks) code false given cells → AfterLaw (view a.world.heap marks) after → (full : Bool) → Replied (entered (run (rows z) m) (report_began (source z) s (if full then over (ending a (Stops stop.Depth)) else record { scene = a; begun = Calls code given cells after })))
    begins_replied code given cells after k l true = tt
    begins_replied code given cells after k l false =
        called_replied m (in_scene s a) code after (begun_frame false code given cells (slice_get z.codes code))
        (called_met z (tables z) m (agree z m) m (omega arith) no_room h (bare s) marks a x code k.code_of.is given cells Anything after k.begins k.code_of.kind l (λ w more y u g g' e d. tt))

    function_replied : (f : ℕ) (given : List Value) (after : After) (o : Option Object) → slice_get a.world.heap f ≡ o → MayBegin (roster z) (view a.world.heap marks) o given → AfterLaw (view a.world.heap marks) after → Replied (entered (run (rows z) m) (report_began (source z) s (asked a o given after)))
    function_replied f given after (Some (object.Function code defaults keywords cells)) e p l =
        begins_replied code given cells after (function_begins z (tables z) no_room marks (in_scene (bare s) a) x.lawful f code defaults keywords cells given e p.0 p.1 p.2) l (nat_le 1000 a.frames)
    function_replied f given after other e p l = absurd p

    begun_replied : (e : OpEnd) → EndLaw (roster z) (view a.world.heap marks) e → IsCall e → Replied (entered (run (rows z) m) (report_began (source z) s (begun z.scripts a e)))
    begun_replied (opend.Give v) l c = tt
    begun_replied (opend.Raise class args) l c = tt
    begun_replied (opend.Ask f given names after) l c = function_replied f given after (slice_get a.world.heap f) refl l.0 l.2
    begun_replied (opend.Stop kind) l c = tt
    begun_replied other l c = absurd c

module _ (z : Program) (s : S) (marks : ℕ → Mark) (world : WorldLaw (roster z) s.around.world marks) (since : Grows (start_view z) (seen marks s)) (kept : AllKept z (tables z) marks s) (e : ℕ) (thrown : IsThrown (seen marks s) e) where
  reached : Reached z (tables z) no_room (seen marks s) (bare s) marks (scene s.around)
  reached = record {
    lawful = record { world = world; since = since; frame = plain_law (seen marks s) s.frame; kept = kept };
    grows = grows_refl (seen marks s);
  }

  object_replied : (m f : ℕ) → IsThere (seen marks s) (value.Obj f) → (o : Option Object) → Replied (entered (run (rows z) m) (asks_function (source z) s e f o))
  object_replied m f there (Some (object.Function code defaults keywords cells)) =
      let w : World = s.around.world in
      let b = z.law.bind (roster z) w marks f (value.Obj e ∷ []) behind.Plain world there (thrown_there (seen marks s) e thrown, tt) tt in
      let answer = z.rules.bind w f (value.Obj e ∷ []) behind.Plain in
      begun_replied z (seen marks s) s marks (with_heap (scene s.around) answer.heap)
      (reached_with z (tables z) no_room (seen marks s) (bare s) marks (scene s.around) answer.heap reached (record { law = world_left (roster z) w marks answer world b.0; grows = b.0.grows; generators = b.0.generators }))
      m answer.end b.0.end b.1
  object_replied m f there other = tt

  asked_replied : (m : ℕ) (o : Option Value) → report_function s.around.world ≡ o → Replied (entered (run (rows z) m) (asks_report (source z) s e o))
  asked_replied m (Some (value.Obj f)) is = object_replied m f (report_there z s.around.world marks world (value.Obj f) is) (slice_get (heap_of s) f)
  asked_replied m (Some value.Unset) is = tt
  asked_replied m (Some value.None) is = tt
  asked_replied m (Some (value.Bool b)) is = tt
  asked_replied m (Some (value.Int i)) is = tt
  asked_replied m (Some (value.Str text)) is = tt
  asked_replied m None is = tt

pub uncaught_shown : (z : Program) (file : List ℕ) (e : ℕ) (s : S) (marks : ℕ → Mark) → WorldLaw (roster z) s.around.world marks → Grows (start_view z) (seen marks s) → AllKept z (tables z) marks s → IsThrown (seen marks s) e → (m : ℕ) → Shown (does (rows z) (uncaught (source z) file e) Begin s m)
uncaught_shown z file e s marks world since kept thrown m =
    let u : S = (fixes file e s).state in
    let head : List ℕ = head_text file (heap_of s) e in
    let r : Res S = entered (run (rows z) m) (report (source z) e u) in
    shown_shift [] (Second (Next (value.Str head))) (after r (λ x v. does (rows z) (ends_with (reported head x)) Begin v m))
    (replied_shown z head r m (asked_replied z u marks world since kept e thrown m (report_function s.around.world) refl))
