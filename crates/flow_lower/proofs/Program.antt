-- The flat code of a program does what the program's nodes do.
use Rattle.std.proofs.Common.{◌≡◌, ℕ, zero, suc, ◌≤◌, List, [], ◌∷◌, ◌++◌, length, Option, Some, None, Bool, true, false, slice_get, nat_lt, if◌then◌else◌, refl, sym, ap, ◌∙◌, subst, arith, append_assoc, append-nil}
use Rattle.nu_run.specs.declared.End as run_end
use Rattle.nu_run.specs.declared.End.TheVariants as end
use Rattle.nu_run.specs.Runs as runs
use Rattle.nu_run.specs.Steps.{Stepped, More, Halt, on_step}
use Rattle.nu_run.proofs.Runs.{Tracks, goes_comes, goes_some}
use Rattle.nu_value.specs.declared.object.Object.{Object}
use Rattle.nu_value.specs.declared.object.Object.TheVariants as object
use Rattle.nu_value.specs.declared.value.Value.{Value}
use Rattle.nu_value.specs.declared.value.Value.TheVariants as value
use Rattle.op_forms.specs.declared.end.After.{After}
use Rattle.op_forms.specs.declared.end.After.TheVariants as after_kind
use Rattle.nu_calls.specs.Surroundings.{Surroundings, scene, with_scene, with_frames}
use Rattle.nu_rows.specs.Rows.{End, Next, Leave, Raised, Return, Stopped, Undefined, Step, First, Second, Begin, Res, Spent, Paused, Ended, Row, Act, Then, Sub, Entry, Instead, after, shift, gone, left_by, entered, interp, does}
use Rattle.nu_rows.specs.Rows as rows
use Rattle.nu_rows.specs.Words.{ends_with, on_next}
use Rattle.nu_rows.specs.Driver.{told}
use Rattle.nu_calls.specs.Ends.{Result, Gives, Raises, Stops, Unsaid, Begun, Over, Calls, Starts, Wakes, begun_by, call_ended, inside}
use Rattle.nu_calls.specs.Calls.{Pause, state_of, in_scene, end_of, effect_of, back_in, given_back, leave_call, enters, calls}
use Rattle.nu_calls.specs.Scripts.{Program, report_function, report_entry, asks_function, asks_report, reported, uncaught, module_begun, module_ended, module_row, script_row, shows, start_state, program_run}
use Rattle.nu_calls.specs.Traceback.{head_text}
use Rattle.node_tree.specs.Nodes as node
use Rattle.node_tree.specs.Run.{blank}
use Rattle.flow_code.specs.declared.statement.Line.{Line}
use Rattle.flow_code.specs.Machine as machine
use Rattle.flow_code.specs.Run.{machine_run}
use Rattle.flow_code.proofs.Grows.{machine_same}
use Rattle.flow_lower.specs.Lower.{body_lines}
use Rattle.flow_lower.proofs.Ran.{NodeState, Machine, Stack, Code, mm, lang, row_of, fw, exec, C, G, Reaches, reaches_after, reaches_goes, go_at}
use Rattle.flow_lower.proofs.Bodies.{back_cases, Stands, BodyAt, body_row}
use Rattle.flow_lower.proofs.Forms.{body_runs, bodies_run}

module _ (q : Code) (stands : Stands q) where
  abbrev pub prog : Program node.Frame node.Item
  prog = record { language = lang q; rows = row_of q; body = body_row q stands; blank = blank; headers = q.headers }

  -- a run does what this says, in some more of its bound
  pub record Comes_to (E : ℕ → runs.Run) (x : Stepped Machine) : Type 0 where
    pub by : (k : ℕ) → (j : ℕ) × (k ≤ j) × (E j ≡ on_step x (exec q k))

  to_after : (E : ℕ → runs.Run) (s t : Machine) → Comes_to E (More s) → C q s t → Comes_to E (More t)
  to_after E s t h c = record { by = λ k. let b = c.by k in let a = h.by b.0 in (a.0, omega (arith, a.1, b.1), a.2 ∙ b.2) }

  to_reached : (s : Machine) (x : Stepped Machine) → Reaches q s x → Comes_to (λ j. exec q j s) x
  to_reached s x h = record { by = λ k. let a = h.by k in (a.0, omega (arith, a.1), a.2) }

  -- what a run shows, where the main row has an outcome
  abbrev MainAt : ℕ → List ℕ → (ℕ → runs.Run) → Res NodeState → Type 0
  MainAt n base E (Spent o) = (j : ℕ) × (n ≤ j) × (E j ≡ runs.Going (base ++ o))
  MainAt n base E (Paused o u v p) = Unit {0}
  MainAt n base E (Ended o u e) = runs.IsDefinedEnd (shows e u) → (j : ℕ) × (E j ≡ runs.Ended (base ++ o) (shows e u))

  main_from : (n : ℕ) (base : List ℕ) (E : ℕ → runs.Run) (s : Machine) (r : Res NodeState) → Comes_to E (More s) → MainAt n base (λ j. exec q j s) r → MainAt n base E r
  main_from n base E s (Spent o) c h = let a = c.by h.0 in (a.0, omega (arith, a.1, h.1), a.2 ∙ h.2)
  main_from n base E s (Paused o u v p) c h = tt
  main_from n base E s (Ended o u e) c h = λ d. let b = h d in let a = c.by b.0 in (a.0, a.2 ∙ b.1)

  main_shift : (n : ℕ) (base o : List ℕ) (x : Step) (E : ℕ → runs.Run) (r : Res NodeState) → MainAt n (base ++ o) E r → MainAt n base E (shift o x r)
  main_shift n base o x E (Spent p) h = subst (λ u. (j : ℕ) × (n ≤ j) × (E j ≡ runs.Going u)) (append_assoc base o p) h
  main_shift n base o x E (Paused p u v z) h = tt
  main_shift n base o x E (Ended p u e) h = subst (λ z. runs.IsDefinedEnd (shows e u) → (j : ℕ) × (E j ≡ runs.Ended z (shows e u))) (append_assoc base o p) h

  main_step : (n : ℕ) (base : List ℕ) (x : Step) (E : ℕ → runs.Run) (r : Res NodeState) (g : End → NodeState → Res NodeState) → MainAt n base E (after r g) → MainAt n base E (after (shift [] x r) g)
  main_step n base x E (Spent p) g h = h
  main_step n base x E (Paused p u v z) g h = tt
  main_step n base x E (Ended p u e) g h = h

  main_lift : (n : ℕ) (base : List ℕ) (x : Step) (E : ℕ → runs.Run) (r : Res NodeState) → MainAt n base E r → MainAt n base E (shift [] x r)
  main_lift n base x E (Spent p) h = h
  main_lift n base x E (Paused p u v z) h = tt
  main_lift n base x E (Ended p u e) h = h

  -- the end that a report leads to is the same
  report_shows : (head : List ℕ) (u : NodeState) (r : Result) → machine.reported (mm q) head r ≡ shows (reported head (end_of r)) u
  report_shows head u (Gives value.Unset) = refl
  report_shows head u (Gives value.None) = refl
  report_shows head u (Gives (value.Bool b)) = refl
  report_shows head u (Gives (value.Int z)) = refl
  report_shows head u (Gives (value.Str text)) = refl
  report_shows head u (Gives (value.Obj i)) = refl
  report_shows head u (Raises e) = refl
  report_shows head u (Stops kind) = refl
  report_shows head u Unsaid = refl

  halted_end : (s : Machine) (out out' : List ℕ) (e e' : run_end.End) → out ≡ out' → e ≡ e' → Reaches q s (Halt out e) → (j : ℕ) × (exec q j s ≡ runs.Ended out' e')
  halted_end s out out' e e' eo ee h = let a = h.by 0 in (a.0, a.2 ∙ ap (λ z. runs.Ended z e) eo ∙ ap (λ z. runs.Ended out' z) ee)

  module _ (n : ℕ) (head : List ℕ) where
    abbrev last : Res NodeState → Res NodeState
    last r = after r (λ e t. interp (rows.run (row_of q) n) (ends_with (reported head e)) Begin t)

  nils : (base o : List ℕ) → base ++ o ≡ base ++ ((o ++ []) ++ [])
  nils base o = ap (λ z. base ++ z) (sym (append-nil (o ++ []) ∙ append-nil o))

  -- the body of the report
  report_settled : (m : ℕ) (head : List ℕ) (f : node.Frame) (aft : After) (base o : List ℕ) (s s1 : Machine) (u : NodeState) (e : End) → G q s s1 → Reaches q s1 (machine.body_ended (mm q) u.frame.code (machine.Base (machine.Report head f.code aft)) (fw q u.around) (base ++ o) e) → MainAt (suc m) base (λ j. exec q j s) (last (suc m) head (gone o (effect_of (state_of f u.around) [] (call_ended q.rules aft (back_in (lang q) f u.around) e))))
  report_settled m head f aft base o s s1 u e g h =
      let x = call_ended q.rules aft (back_in (lang q) f u.around) e in
      λ d. halted_end s _ _ _ _ (nils base o) (report_shows head (state_of f (with_scene u.around x.scene)) x.result) (reaches_after q s s1 _ (goes_some _ _ _ _ g) h)

  report_body : (m : ℕ) (head : List ℕ) (c : ℕ) (f : node.Frame) (aft : After) (base : List ℕ) (s s1 : Machine) (x : Res NodeState) → G q s s1 → BodyAt q stands m c (machine.Base (machine.Report head f.code aft)) base s1 x → MainAt (suc m) base (λ j. exec q j s) (last (suc m) head (left_by x (leave_call (lang q) f aft)))
  report_body m head c f aft base s s1 (Spent o) g h = let b = g.by h.0 in (b.0, omega (arith, b.1, h.1), b.2 ∙ h.2)
  report_body m head c f aft base s s1 (Paused o u v p) g h = λ d. absurd d
  report_body m head c f aft base s s1 (Ended o u (Next v)) g h = report_settled m head f aft base o s s1 u (Next value.None) g h
  report_body m head c f aft base s s1 (Ended o u (Raised e)) g h = report_settled m head f aft base o s s1 u (Raised e) g h
  report_body m head c f aft base s s1 (Ended o u (Return v)) g h =
      back_cases (λ e. MainAt (suc m) base (λ j. exec q j s) (last (suc m) head (gone o (effect_of (state_of f u.around) [] (call_ended q.rules aft (back_in (lang q) f u.around) e))))) v (λ d. absurd d)
      (λ d. report_settled m head f aft base o s s1 u (Return v) g (h d))
  report_body m head c f aft base s s1 (Ended o u (Stopped kind)) g h =
      λ d. let b = g.by h.0 in (b.0, b.2 ∙ h.1 ∙ ap (λ z. runs.Ended z (end.Stopped kind)) (nils base o))
  report_body m head c f aft base s s1 (Ended o u (Leave k)) g h = λ d. absurd d
  report_body m head c f aft base s s1 (Ended o u Undefined) g h = λ d. absurd d

  entering : (s : Machine) (base : List ℕ) (c : ℕ) (given cells : List Value) (st : Stack) (b : Surroundings (Pause node.Frame)) → q.has false c ≡ true → Reaches q s (machine.enters (mm q) false c given cells st (fw q b) base) → Reaches q s (More (machine.at c (q.lines c) (machine.fresh c given cells) None st (with_scene (fw q b) (inside q.rules q.scripts (scene (fw q b)) c)) base))
  entering s base c given cells st b e h =
      subst (λ y. Reaches q s (if y then More (machine.at c (q.lines c) (machine.fresh c given cells) None st (with_scene (fw q b) (inside q.rules q.scripts (scene (fw q b)) c)) base) else machine.undefined base)) e h

  report_calls : (n : ℕ) (head : List ℕ) (u : NodeState) (base : List ℕ) (s : Machine) (c : ℕ) (given cells : List Value) (aft : After) (fr : Option node.Frame) → q.frames false c given cells ≡ fr → Reaches q s (machine.enters (mm q) false c given cells (machine.Base (machine.Report head u.frame.code aft)) (fw q u.around) base) → MainAt n base (λ j. exec q j s) (last n head (entered (rows.run (row_of q) n) (calls (lang q) u c aft fr)))
  report_calls n head u base s c given cells aft None e h = λ d. absurd d
  report_calls zero head u base s c given cells aft (Some g) e h =
      let a = (entering s base c given cells _ u.around (stands.is_there false c given cells g e) h).by 0 in (a.0, omega arith, a.2 ∙ ap (λ z. runs.Going z) (sym (append-nil base)))
  report_calls (suc m) head u base s c given cells aft (Some g) e h =
      let has = stands.is_there false c given cells g e in
      let st = machine.Base (machine.Report head u.frame.code aft) in
      report_body m head c u.frame aft base s _ _ (goes_comes _ _ _ _ _ (reaches_goes q s _ (entering s base c given cells st u.around has h)) (stands.opens false c given cells g e st _ base)) ((body_runs q stands m c (stands.there false c has) st (bodies_run q stands m)).begins (enters (lang q) u.around c g) base)

  report_begins : (n : ℕ) (head : List ℕ) (u : NodeState) (base : List ℕ) (s : Machine) (b : Begun) → Reaches q s (machine.report_begins (mm q) head u.frame.code (fw q u.around) base b) → MainAt n base (λ j. exec q j s) (last n head (entered (rows.run (row_of q) n) (report_entry (lang q) u b)))
  report_begins n head u base s (Over out r) h =
      λ d. halted_end s _ _ _ _ (ap (λ z. base ++ z) (sym (append-nil out))) (report_shows head u r) h
  report_begins n head u base s (Calls c given cells aft) h = report_calls n head u base s c given cells aft (q.frames false c given cells) refl h
  report_begins n head u base s (Starts g c given cells) h = λ d. absurd d
  report_begins n head u base s (Wakes g how closing) h = λ d. absurd d

  -- no function gives the text
  no_report : (n : ℕ) (head : List ℕ) (u : NodeState) (base : List ℕ) (s : Machine) → Reaches q s (Halt base (machine.reported (mm q) head (Gives value.None))) → MainAt n base (λ j. exec q j s) (last n head (Ended [] u (Next value.None)))
  no_report n head u base s h = λ d. halted_end s _ _ _ _ (sym (append-nil base)) refl h

  asks_ran : (n : ℕ) (head : List ℕ) (e : ℕ) (u : NodeState) (base : List ℕ) (s : Machine) (f : ℕ) (x : Option Object) → Reaches q s (machine.asks_function (mm q) head u.frame.code e (fw q u.around) base f x) → MainAt n base (λ j. exec q j s) (last n head (entered (rows.run (row_of q) n) (asks_function (lang q) u e f x)))
  asks_ran n head e u base s f None h = no_report n head u base s h
  asks_ran n head e u base s f (Some (object.Function code defaults keywords cells)) h =
      let b = begun_by q.scripts (scene u.around) (q.rules.bind u.around.world f (value.Obj e ∷ []) after_kind.Plain) in
      report_begins n head (in_scene u b.scene) base s b.begun h
  asks_ran n head e u base s f (Some other) h = no_report n head u base s h

  report_ran : (n : ℕ) (head : List ℕ) (e : ℕ) (u : NodeState) (base : List ℕ) (s : Machine) (f : Option Value) → Reaches q s (machine.reports (mm q) head u.frame.code e (fw q u.around) base f) → MainAt n base (λ j. exec q j s) (last n head (entered (rows.run (row_of q) n) (asks_report (lang q) u e f)))
  report_ran n head e u base s None h = no_report n head u base s h
  report_ran n head e u base s (Some value.Unset) h = no_report n head u base s h
  report_ran n head e u base s (Some value.None) h = no_report n head u base s h
  report_ran n head e u base s (Some (value.Bool b)) h = no_report n head u base s h
  report_ran n head e u base s (Some (value.Int z)) h = no_report n head u base s h
  report_ran n head e u base s (Some (value.Str text)) h = no_report n head u base s h
  report_ran n head e u base s (Some (value.Obj f)) h = asks_ran n head e u base s f (slice_get u.around.world.heap f) h

  uncaught_ran : (n e : ℕ) (u : NodeState) (base : List ℕ) (s : Machine) → Reaches q s (machine.uncaught (mm q) u.frame.code e (fw q u.around) base) → MainAt n base (λ j. exec q j s) (does (row_of q) (uncaught (lang q) q.file e) Begin u n)
  uncaught_ran n e u base s h =
      main_lift n base (Second (Next (value.Str (head_text q.file u.around.world.heap e)))) _ _
      (report_ran n (head_text q.file u.around.world.heap e) e (in_scene u (with_frames (scene u.around) 0)) base s (report_function u.around.world) h)

  -- a module, and what follows it
  module _ (n : ℕ) (bottom : machine.Bottom) (nx : Surroundings (machine.Waiting (List Line)) → List ℕ → Stepped Machine) (is : (c : ℕ) (a : Surroundings (machine.Waiting (List Line))) (out : List ℕ) (e : End) → machine.base_ended (mm q) bottom c a out e ≡ machine.module_ended (mm q) c a out (nx a out) e) (next : node.R) (follows : (u : NodeState) (out : List ℕ) (E : ℕ → runs.Run) → Comes_to E (nx (fw q u.around) out) → MainAt n out E (does (row_of q) next Begin u n)) where
    ended_ran : (c : ℕ) (base : List ℕ) (s : Machine) (u : NodeState) (o : List ℕ) (e : End) → Reaches q s (machine.module_ended (mm q) u.frame.code (fw q u.around) (base ++ o) (nx (fw q u.around) (base ++ o)) e) → MainAt n base (λ j. exec q j s) (shift o (Second e) (does (row_of q) (module_ended (lang q) q.file next e) Begin u n))
    ended_ran c base s u o (Next v) h = main_shift n base o (Second (Next v)) _ _ (follows u (base ++ o) _ (to_reached s _ h))
    ended_ran c base s u o (Return v) h = main_shift n base o (Second (Return v)) _ _ (follows u (base ++ o) _ (to_reached s _ h))
    ended_ran c base s u o (Raised e) h = main_shift n base o (Second (Raised e)) _ _ (uncaught_ran n e u (base ++ o) s h)
    ended_ran c base s u o (Stopped kind) h = λ d. halted_end s _ _ _ _ (ap (λ z. base ++ z) (sym (append-nil o))) refl h
    ended_ran c base s u o (Leave k) h = λ d. absurd d
    ended_ran c base s u o Undefined h = λ d. absurd d

    -- what follows a body's end
    abbrev module_left : End → NodeState → Res NodeState
    module_left e u = interp (rows.run (row_of q) n) (module_ended (lang q) q.file next (given_back e)) Begin u

    body_ran : (c : ℕ) (base : List ℕ) (s : Machine) (x : Res NodeState) → BodyAt q stands n c (machine.Base bottom) base s x → MainAt n base (λ j. exec q j s) (after x module_left)
    body_ran c base s (Spent o) h = h
    body_ran c base s (Paused o u v p) h = tt
    body_ran c base s (Ended o u (Next v)) h =
        ended_ran c base s u o (Next v) (subst (λ z. Reaches q s z) (is u.frame.code (fw q u.around) (base ++ o) (Next value.None)) h)
    body_ran c base s (Ended o u (Raised e)) h =
        ended_ran c base s u o (Raised e) (subst (λ z. Reaches q s z) (is u.frame.code (fw q u.around) (base ++ o) (Raised e)) h)
    body_ran c base s (Ended o u (Return v)) h =
        back_cases (λ e. MainAt n base (λ j. exec q j s) (shift o (Second (Return v)) (does (row_of q) (module_ended (lang q) q.file next e) Begin u n))) v (λ d. absurd d)
        (λ d. ended_ran c base s u o (Return v) (subst (λ z. Reaches q s z) (is u.frame.code (fw q u.around) (base ++ o) (Return v)) (h d)))
    body_ran c base s (Ended o u (Stopped kind)) h = λ d. (h.0, h.1 ∙ ap (λ z. runs.Ended (base ++ z) (end.Stopped kind)) (sym (append-nil o)))
    body_ran c base s (Ended o u (Leave k)) h = λ d. absurd d
    body_ran c base s (Ended o u Undefined) h = λ d. absurd d

    begun_ran : (c : ℕ) (u : NodeState) (base : List ℕ) (E : ℕ → runs.Run) (fr : Option node.Frame) → q.frames false c [] [] ≡ fr → Comes_to E (machine.enters (mm q) false c [] [] (machine.Base bottom) (fw q (with_scene u.around (with_frames (scene u.around) 0))) base) → MainAt n base E (after (after (Ended (module_begun (lang q) c u fr).out (module_begun (lang q) c u fr).state (module_begun (lang q) c u fr).end) (λ e t. interp (rows.run (row_of q) n) (on_next (λ v. body_row q stands c) e) Begin t)) module_left)
    begun_ran c u base E None e h = λ d. absurd d
    begun_ran c u base E (Some f) e h =
        let has = stands.is_there false c [] [] f e in
        let b = with_scene u.around (with_frames (scene u.around) 0) in
        let st = machine.Base bottom in
        let t = enters (lang q) b c f in
        let start = machine.at c (q.lines c) (machine.fresh c [] []) None st (with_scene (fw q b) (inside q.rules q.scripts (scene (fw q b)) c)) base in
        let h1 : Comes_to E (More start) = subst (λ y. Comes_to E (if y then More start else machine.undefined base)) has h in
        main_step n base (Second (Next value.None)) E (does (row_of q) (body_row q stands c) Begin t n) module_left
        (main_from n base E _ _ (to_after E start (go_at q c st (body_lines (q.blocks c)) t base) h1 (stands.opens false c [] [] f e st _ base))
        (body_ran c base _ _ ((body_runs q stands n c (stands.there false c has) st (bodies_run q stands n)).begins t base)))

    module_ran : (c : ℕ) (u : NodeState) (base : List ℕ) (E : ℕ → runs.Run) → Comes_to E (machine.enters (mm q) false c [] [] (machine.Base bottom) (fw q (with_scene u.around (with_frames (scene u.around) 0))) base) → MainAt n base E (does (row_of q) (module_row prog q.file c next) Begin u n)
    module_ran c u base E h = begun_ran c u base E (q.frames false c [] []) refl h

  -- the script
  script_ran : (n : ℕ) (u : NodeState) (base : List ℕ) (E : ℕ → runs.Run) → Comes_to E (machine.enters (mm q) false 0 [] [] (machine.Base machine.Script) (fw q (with_scene u.around (with_frames (scene u.around) 0))) base) → MainAt n base E (does (row_of q) (script_row prog q.file) Begin u n)
  script_ran n =
      module_ran n machine.Script (λ a out. Halt out end.Done) (λ c a out e. refl) (ends_with (Next value.None))
      (λ u out E h d. let a = h.by 0 in (a.0, a.2 ∙ ap (λ z. runs.Ended z end.Done) (sym (append-nil out)))) 0

  -- the built-in text, and then the script
  both_ran : (n : ℕ) (u : NodeState) (base : List ℕ) (E : ℕ → runs.Run) → Comes_to E (machine.enters (mm q) false q.scripts [] [] (machine.Base machine.Builtins) (fw q (with_scene u.around (with_frames (scene u.around) 0))) base) → MainAt n base E (does (row_of q) (module_row prog q.file q.scripts (script_row prog q.file)) Begin u n)
  both_ran n =
      module_ran n machine.Builtins (machine.script_begins (mm q)) (λ c a out e. refl) (script_row prog q.file) (λ u out E h. script_ran n u out E h) q.scripts

  whole_ran : (n : ℕ) (input : List ℕ) (x y : Bool) → MainAt n [] (λ j. on_step (if x then (if y then machine.enters (mm q) false q.scripts [] [] (machine.Base machine.Builtins) (fw q (start_state prog input).around) [] else machine.enters (mm q) false 0 [] [] (machine.Base machine.Script) (fw q (start_state prog input).around) []) else Halt [] (end.Undefined 0 0)) (exec q j)) (does (row_of q) (if x then (if y then module_row prog q.file q.scripts (script_row prog q.file) else script_row prog q.file) else ends_with Undefined) Begin (start_state prog input) n)
  whole_ran n input true true = both_ran n (start_state prog input) [] _ (record { by = λ k. (k, omega arith, refl) })
  whole_ran n input true false = script_ran n (start_state prog input) [] _ (record { by = λ k. (k, omega arith, refl) })
  whole_ran n input false y = λ d. absurd d

  tracks_of : (n : ℕ) (E : ℕ → runs.Run) (r : Res NodeState) → MainAt n [] E r → Tracks n (told shows r) E
  tracks_of n E (Spent o) h = record { goes_on = λ out e. (h.0, h.1, h.2 ∙ e); ends = λ out x e d. cc }
  tracks_of n E (Paused o u v p) h = record { goes_on = λ out e. cc; ends = λ out x e d. let z : end.Undefined 0 0 ≡ x = cc in absurd (subst runs.IsDefinedEnd (sym z) d) }
  tracks_of n E (Ended o u e) h = record {
    goes_on = λ out x. cc;
    ends = λ out x y d. let z : shows e u ≡ x = cc in let a = h (subst runs.IsDefinedEnd (sym z) d) in (a.0, a.1 ∙ y);
  }

  pub program_same : (input : List ℕ) → runs.IsDefined (program_run prog q.file input) → runs.Same (program_run prog q.file input) (machine_run (mm q) input)
  program_same input d =
      machine_same (mm q) input (program_run prog q.file input) d
      (λ n. tracks_of n _ _ (whole_ran n input (nat_lt 0 q.scripts) (nat_lt q.scripts (length q.headers))))
