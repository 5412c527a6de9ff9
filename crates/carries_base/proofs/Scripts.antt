-- A script whose codes are carried has the run of its nodes.
use Rattle.std.proofs.Common.{◌≡◌, ℕ, zero, suc, Bool, true, false, if◌then◌else◌, nat_lt, length, map, List, [], ◌∷◌, Option, Some, None, refl, ap, ◌∙◌, subst, arith}
use Rattle.std.specs.Prelude.{slice_get}
use Rattle.nu_value.specs.declared.object.Object.{Object}
use Rattle.nu_value.specs.declared.object.Object.TheVariants as object
use Rattle.nu_value.specs.declared.value.Value.{Value}
use Rattle.nu_value.specs.declared.value.Value.TheVariants as value
use Rattle.op_forms.specs.declared.end.After.TheVariants as after
use Rattle.nu_run.specs.declared.End.TheVariants as end
use Rattle.nu_run.specs.Runs.{Same}
use Rattle.nu_rows.specs.Rows.{End, Next, Leave, Raised, Return, Stopped, Undefined, Start, Begin, Back, Effect, Act, Part, Then, Sub, Instead, does}
use Rattle.nu_rows.specs.Words.{ends_with, on_next, quiet}
use Rattle.nu_rows.specs.Sim.{Places, Ends, Leads, Both, Sim, other_places, other_ends}
use Rattle.nu_rows.specs.Matching.{ThenPlaces}
use Rattle.nu_rows.proofs.Grow.{prefix_nil}
use Rattle.nu_rows.proofs.Congruence.{both_map, sim_map, act_both, then_both, sub_both}
use Rattle.nu_rows.proofs.Driving.{main_same}
use Rattle.nu_calls.specs.Surroundings.{Surroundings, scene, with_frames}
use Rattle.nu_calls.specs.Ends.{Begun, Over, Calls, Starts, Wakes, Began, begun_by, inside}
use Rattle.nu_calls.specs.Calls.{Pause, state_of, in_scene, given_back}
use Rattle.nu_calls.specs.Traceback.{head_text}
use Rattle.nu_calls.specs.Scripts.{Program, report_function, report_entry, report_began, asks_function, asks_report, report, reported, fixes, reports, uncaught, module_begun, module_ended, module_row, script_row, main_row, shows, start_state}
use Rattle.node_tree.specs.Nodes as nodes
use Rattle.node_tree.specs.Run as node_run
use Rattle.node_tree.specs.Tree.{code_block}
use Rattle.py_meaning.specs.Frames as python
use Rattle.py_meaning.specs.Bodies as bodies
use Rattle.carries_base.specs.Frames.{begun}
use Rattle.carries_base.specs.Carries.{Setting, source, target, rows, columns, S, T, Tables, AroundAs, Outer, Correspond, At, BodyEnds, BegunAs, Agree, CarriesScript}
use Rattle.carries_base.proofs.Operations.{given_as, OpEndsBy, result_as, calls_as, scene_as, Meets, nothing_as}

module _ (z : Setting) where
  -- within no bound nothing is done
  none_leads : (P : Places S T) (Q : Ends S T) (i : python.Item) (j : nodes.Item) (from to : Start) (s : S) (t : T) → Both 0 P Q (does (rows z) (Part i) from s) (does (columns z) (Part j) to t)
  none_leads P Q i j from to s t = record { there = there; back = back }
    where
      there : Leads 0 P Q (does (rows z) (Part i) from s) (does (columns z) (Part j) to t)
      there zero le = (0, prefix_nil [])
      there (suc n) le = absurd (omega arith)

      back : Leads 0 (other_places P) (other_ends Q) (does (columns z) (Part j) to t) (does (rows z) (Part i) from s)
      back zero le = (0, prefix_nil [])
      back (suc n) le = absurd (omega arith)

  -- an item costs one of the bound on both sides
  more_leads : (L : ℕ) (P : Places S T) (Q : Ends S T) (i : python.Item) (j : nodes.Item) (from to : Start) (s : S) (t : T) → Both L P Q (does (rows z) (rows z i) from s) (does (columns z) (columns z j) to t) → Both (suc L) P Q (does (rows z) (Part i) from s) (does (columns z) (Part j) to t)
  more_leads L P Q i j from to s t b = record { there = there; back = back }
    where
      there : Leads (suc L) P Q (does (rows z) (Part i) from s) (does (columns z) (Part j) to t)
      there zero le = (0, prefix_nil [])
      there (suc n) le = let a = b.there n (omega arith) in (suc a.0, a.1)

      back : Leads (suc L) (other_places P) (other_ends Q) (does (columns z) (Part j) to t) (does (rows z) (Part i) from s)
      back zero le = (0, prefix_nil [])
      back (suc n) le = let a = b.back n (omega arith) in (suc a.0, a.1)

  -- the codes agree within every bound
  module _ (c : CarriesScript z) where
    abbrev tables : Tables
    tables code = (c.codes code).places

    pub agree_at : (L : ℕ) → Agree z tables L
    agree_at zero = record {
      begins = c.begins;
      bodies = λ code. record {
        begins = λ s t x. none_leads _ _ (python.OfCode code) (nodes.OfCode code) Begin Begin s t;
        goes_on = λ p q how s t x. none_leads _ _ (python.OfCode code) (nodes.OfCode code) (Back p how) (Back q how) s t;
      };
    }
    agree_at (suc L) = record {
      begins = c.begins;
      bodies = λ code. let m = (c.codes code).sim tables L (agree_at L) in record {
        begins = λ s t x. more_leads L _ _ (python.OfCode code) (nodes.OfCode code) Begin Begin s t (m.begins s t x);
        goes_on = λ p q how s t x. more_leads L _ _ (python.OfCode code) (nodes.OfCode code) (Back p how) (Back q how) s t (m.goes_on p q how s t x);
      };
    }

  -- Main rows

  -- their ends
  abbrev EndsOfMain : Tables → Ends S T
  EndsOfMain tabs (Next v) s (Next w) t = Outer z tabs s t
  EndsOfMain tabs (Return v) s (Return w) t = v ≡ w
  EndsOfMain tabs (Stopped i) s (Stopped j) t = i ≡ j
  EndsOfMain tabs Undefined s Undefined t = Unit {0}
  EndsOfMain tabs e s e' t = ⊥

  module _ (tabs : Tables) (L : ℕ) (agree : Agree z tabs L) where
    record Main (Pre : S → T → Type 0) (Q : Ends S T) (r : python.R) (c : nodes.R) : Type 1 where
      pub places : Places S T
      pub sim : Sim (rows z) (columns z) L places Pre Q r c

    main_act : (Pre : S → T → Type 0) (Q : Ends S T) (f : S → Effect S) (g : T → Effect T) → ((s : S) (t : T) → Pre s t → ((f s).out ≡ (g t).out) × Q (f s).end (f s).state (g t).end (g t).state) → Main Pre Q (Act f) (Act g)
    main_act Pre Q f g h = record { places = λ p s q t. ⊥; sim = act_both (rows z) (columns z) L (λ p s q t. ⊥) Pre Q f g (λ p s q t x. x) (λ s t x. let a = h s t x in record { outs = a.0; ends = a.1 }) }

    main_none : (Pre : S → T → Type 0) (Q : Ends S T) (r : python.R) (c : nodes.R) → ((s : S) (t : T) → ¬ Pre s t) → Main Pre Q r c
    main_none Pre Q r c nothing = record { places = λ p s q t. ⊥; sim = record { begins = λ s t x. absurd (nothing s t x); goes_on = λ p q how s t x. absurd x } }

    main_then : (Pre : S → T → Type 0) (R Q : Ends S T) (r : python.R) (c : nodes.R) (K : End → python.R) (D : End → nodes.R) → Main Pre R r c → ((e e' : End) → Main (λ s t. R e s e' t) Q (K e) (D e')) → Main Pre Q (Then r K) (Then c D)
    main_then Pre R Q r c K D x next = record { places = ThenPlaces x.places (λ e e'. (next e e').places); sim = then_both (rows z) (columns z) L x.places (λ e e'. (next e e').places) Pre R Q r c K D x.sim (λ e e'. (next e e').sim) }

    main_less : (Pre Pre' : S → T → Type 0) (Q : Ends S T) (r : python.R) (c : nodes.R) → ((s : S) (t : T) → Pre' s t → Pre s t) → Main Pre Q r c → Main Pre' Q r c
    main_less Pre Pre' Q r c f x = record { places = x.places; sim = sim_map (rows z) (columns z) L x.places Pre Pre' Q Q r c f (λ e s e' t y. y) x.sim }

    -- what is the same on both sides
    main_alike : {A : Type 0} (v w : A) (Pre : S → T → Type 0) (Q : Ends S T) (K : A → python.R) (D : A → nodes.R) → Main Pre Q (K v) (D v) → Main (λ s t. (v ≡ w) × Pre s t) Q (K v) (D w)
    main_alike v w Pre Q K D x = record {
      places = λ p s q t. (v ≡ w) × x.places p s q t;
      sim = record {
        begins = λ s t y. subst (λ u. Both L (λ p s q t. (v ≡ w) × x.places p s q t) Q (does (rows z) (K v) Begin s) (does (columns z) (D u) Begin t)) y.0
            (both_map (rows z) (columns z) L x.places (λ p s q t. (v ≡ w) × x.places p s q t) Q Q (λ p s q t b. (y.0, b)) (λ e s e' t b. b) _ _ (x.sim.begins s t y.1));
        goes_on = λ p q how s t y. subst (λ u. Both L (λ p s q t. (v ≡ w) × x.places p s q t) Q (does (rows z) (K v) (Back p how) s) (does (columns z) (D u) (Back q how) t)) y.0
            (both_map (rows z) (columns z) L x.places (λ p s q t. (v ≡ w) × x.places p s q t) Q Q (λ p s q t b. (y.0, b)) (λ e s e' t b. b) _ _ (x.sim.goes_on p q how s t y.1));
      };
    }

    abbrev Out : S → T → Type 0
    Out = Outer z tabs

    abbrev MainEnds : Ends S T
    MainEnds = EndsOfMain tabs

    callers : (s : S) (t : T) (a : Surroundings (Pause python.Frame)) (b : Surroundings (Pause nodes.Frame)) → Out s t → AroundAs z tabs a b → Out (state_of s.frame a) (state_of t.frame b)
    callers s t a b x y = record { code = x.code; around = y }

    -- the text of an exception
    entry_reported : (s : S) (t : T) (b : Begun) (x : Out s t) → Meets z tabs Out (λ s t x. x) callers L agree s t x (report_entry (source z) s b) (report_entry (target z) t b)
    entry_reported s t (Over out r) x = record { places = λ p s q t. ⊥; ends = λ e s e' t. ⊥; entries = record { outs = refl; ends = result_as z tabs Out (λ s t x. x) callers s t r x } }
    entry_reported s t (Calls code given cells after) x = calls_as z tabs Out (λ s t x. x) callers L agree s t x code after _ _ (agree.begins false code given cells)
    entry_reported s t (Starts g code given cells) x = nothing_as z tabs Out (λ s t x. x) callers L agree s t x
    entry_reported s t (Wakes g how closing) x = nothing_as z tabs Out (λ s t x. x) callers L agree s t x

    quietly : (s : S) (t : T) (x : Out s t) → Meets z tabs Out (λ s t x. x) callers L agree s t x (Instead (quiet s)) (Instead (quiet t))
    quietly s t x = record { places = λ p s q t. ⊥; ends = λ e s e' t. ⊥; entries = record { outs = refl; ends = (refl, x) } }

    -- an object that a name is bound to is asked
    function_asked : (s : S) (t : T) (e f : ℕ) (o : Option Object) (x : Out s t) → Meets z tabs Out (λ s t x. x) callers L agree s t x (asks_function (source z) s e f o) (asks_function (target z) t e f o)
    function_asked s t e f (Some (object.Function code defaults keywords cells)) x =
        subst (λ a. Meets z tabs Out (λ s t x. x) callers L agree s t x (asks_function (source z) s e f (Some (object.Function code defaults keywords cells))) (report_began (target z) t (begun_by z.script.scripts a (z.rules.bind a.world f (value.Obj e ∷ []) after.Plain)))) x.around.scenes
        (began (begun_by z.script.scripts (scene s.around) (z.rules.bind s.around.world f (value.Obj e ∷ []) after.Plain)))
      where
        began : (b : Began) → Meets z tabs Out (λ s t x. x) callers L agree s t x (report_began (source z) s b) (report_began (target z) t b)
        began b = entry_reported (in_scene s b.scene) (in_scene t b.scene) b.begun (scene_as z tabs Out (λ s t x. x) callers s t b.scene b.scene refl x)
    function_asked s t e f o x = quietly s t x

    report_asked : (s : S) (t : T) (e : ℕ) (f : Option Value) (x : Out s t) → Meets z tabs Out (λ s t x. x) callers L agree s t x (asks_report (source z) s e f) (asks_report (target z) t e f)
    report_asked s t e (Some (value.Obj f)) x =
        subst (λ a. Meets z tabs Out (λ s t x. x) callers L agree s t x (asks_report (source z) s e (Some (value.Obj f))) (asks_function (target z) t e f (slice_get a.world.heap f))) x.around.scenes (function_asked s t e f (slice_get s.around.world.heap f) x)
    report_asked s t e (Some value.Unset) x = quietly s t x
    report_asked s t e (Some value.None) x = quietly s t x
    report_asked s t e (Some (value.Bool b)) x = quietly s t x
    report_asked s t e (Some (value.Int i)) x = quietly s t x
    report_asked s t e (Some (value.Str i)) x = quietly s t x
    report_asked s t e None x = quietly s t x

    report_as : (s : S) (t : T) (e : ℕ) (x : Out s t) → Meets z tabs Out (λ s t x. x) callers L agree s t x (report (source z) e s) (report (target z) e t)
    report_as s t e x = subst (λ a. Meets z tabs Out (λ s t x. x) callers L agree s t x (report (source z) e s) (asks_report (target z) t e (report_function a.world))) x.around.scenes (report_asked s t e (report_function s.around.world) x)

    returned_as : (head : List ℕ) (v w : Value) (s : S) (t : T) → v ≡ w → MainEnds (reported head (Next v)) s (reported head (Next w)) t
    returned_as head v w s t e = subst (λ u. MainEnds (reported head (Next v)) s (reported head (Next u)) t) e (go v)
      where
        go : (v : Value) → MainEnds (reported head (Next v)) s (reported head (Next v)) t
        go (value.Str text) = refl
        go value.Unset = refl
        go value.None = refl
        go (value.Bool b) = refl
        go (value.Int b) = refl
        go (value.Obj b) = refl

    reported_as : (head : List ℕ) (e e' : End) → Main (λ s t. OpEndsBy Out e s e' t) MainEnds (ends_with (reported head e)) (ends_with (reported head e'))
    reported_as head (Next v) (Next w) = main_act _ MainEnds _ _ (λ s t x. (refl, returned_as head v w s t x.0))
    reported_as head (Raised v) (Raised w) = main_act _ MainEnds _ _ (λ s t x. (refl, refl))
    reported_as head (Stopped v) (Stopped w) = main_act _ MainEnds _ _ (λ s t x. (refl, x))
    reported_as head Undefined Undefined = main_act _ MainEnds _ _ (λ s t x. (refl, tt))
    reported_as head e e' = main_none _ MainEnds _ _ (λ s t x. x)

    -- the ends of fixing the entries
    abbrev Fixed : Ends S T
    Fixed (Next v) s (Next w) t = (v ≡ w) × Out s t
    Fixed e s e' t = ⊥

    reports_as : (e : ℕ) (v : Value) → Main Out MainEnds (reports (source z) e (Next v)) (reports (target z) e (Next v))
    reports_as e (value.Str head) = main_then Out (OpEndsBy Out) MainEnds (Sub (report (source z) e)) (Sub (report (target z) e)) _ _
        (record { places = λ p s q t. ⊥; sim = sub_both (rows z) (columns z) L (λ p s q t. ⊥) Out (OpEndsBy Out) _ _ (λ p s q t x. x) (λ s t x. report_as s t e x) })
        (reported_as head)
    reports_as e value.Unset = main_act Out MainEnds _ _ (λ s t x. (refl, tt))
    reports_as e value.None = main_act Out MainEnds _ _ (λ s t x. (refl, tt))
    reports_as e (value.Bool b) = main_act Out MainEnds _ _ (λ s t x. (refl, tt))
    reports_as e (value.Int b) = main_act Out MainEnds _ _ (λ s t x. (refl, tt))
    reports_as e (value.Obj b) = main_act Out MainEnds _ _ (λ s t x. (refl, tt))

    fixed_as : (e : ℕ) (a b : End) → Main (λ s t. Fixed a s b t) MainEnds (reports (source z) e a) (reports (target z) e b)
    fixed_as e (Next v) (Next w) = main_alike v w Out MainEnds (λ u. reports (source z) e (Next u)) (λ u. reports (target z) e (Next u)) (reports_as e v)
    fixed_as e a b = main_none _ MainEnds _ _ (λ s t x. x)

    uncaught_as : (file : List ℕ) (e : ℕ) → Main Out MainEnds (uncaught (source z) file e) (uncaught (target z) file e)
    uncaught_as file e = main_then Out Fixed MainEnds _ _ _ _
        (main_act Out Fixed (fixes file e) (fixes file e) (λ s t x. (refl, (ap (λ a. value.Str (head_text file a.world.heap e)) x.around.scenes, scene_as z tabs Out (λ s t x. x) callers s t _ _ (ap (λ a. with_frames a 0) x.around.scenes) x))))
        (fixed_as e)

    -- a module
    abbrev Opened : ℕ → Ends S T
    Opened code (Next v) s (Next w) t = Correspond z (begun (z.homes code)) tabs [] s t
    Opened code Undefined s Undefined t = Unit {0}
    Opened code e s e' t = ⊥

    opened : (code : ℕ) (f : Option python.Frame) (g : Option nodes.Frame) (s : S) (t : T) → BegunAs (z.homes code) f g → Out s t → ((module_begun (source z) code s f).out ≡ (module_begun (target z) code t g).out) × Opened code (module_begun (source z) code s f).end (module_begun (source z) code s f).state (module_begun (target z) code t g).end (module_begun (target z) code t g).state
    opened code None None s t b x = (refl, tt)
    opened code None (Some g) s t b x = absurd b
    opened code (Some f) None s t b x = absurd b
    opened code (Some f) (Some g) s t b x = (refl, record { frames = b; around = record { scenes = ap (λ a. inside z.rules z.script.scripts (with_frames a 0) code) x.around.scenes; kept = x.around.kept } })

    module _ (c : CarriesScript z) (same : (code : ℕ) → Sim (rows z) (columns z) L (At z (z.homes code) tabs (c.codes code).places) (Correspond z (begun (z.homes code)) tabs []) (BodyEnds z tabs) (bodies.code_row (source z) (slice_get z.codes code)) (nodes.block_row (target z) (code_block z.script.codes code))) where
      body_as : (code : ℕ) (e e' : End) → Main (λ s t. Opened code e s e' t) (BodyEnds z tabs) (on_next (λ v. bodies.code_row (source z) (slice_get z.codes code)) e) (on_next (λ v. nodes.block_row (target z) (code_block z.script.codes code)) e')
      body_as code (Next v) (Next w) = record { places = At z (z.homes code) tabs (c.codes code).places; sim = same code }
      body_as code Undefined Undefined = main_act _ (BodyEnds z tabs) _ _ (λ s t x. (refl, tt))
      body_as code e e' = main_none _ (BodyEnds z tabs) _ _ (λ s t x. x)

      ended_as : (file : List ℕ) (r : python.R) (d : nodes.R) → Main Out MainEnds r d → (e e' : End) → Main (λ s t. BodyEnds z tabs e s e' t) MainEnds (module_ended (source z) file r e) (module_ended (target z) file d e')
      ended_as file r d next (Next v) (Next w) = next
      ended_as file r d next (Leave v) (Leave w) = main_act _ MainEnds _ _ (λ s t x. (refl, tt))
      ended_as file r d next (Raised v) (Raised w) = main_alike v w Out MainEnds (λ e. uncaught (source z) file e) (λ e. uncaught (target z) file e) (uncaught_as file v)
      ended_as file r d next (Return v) (Return w) = main_less Out _ MainEnds r d (λ s t x. x.1) next
      ended_as file r d next (Stopped v) (Stopped w) = main_act _ MainEnds _ _ (λ s t x. (refl, x))
      ended_as file r d next Undefined Undefined = main_act _ MainEnds _ _ (λ s t x. (refl, tt))
      ended_as file r d next e e' = main_none _ MainEnds _ _ (λ s t x. x)

      module_as : (file : List ℕ) (code : ℕ) (r : python.R) (d : nodes.R) → Main Out MainEnds r d → Main Out MainEnds (module_row (bodies.program z.rules z.script.scripts z.codes) file code r) (module_row (node_run.program z.rules z.script) file code d)
      module_as file code r d next = main_then Out (BodyEnds z tabs) MainEnds _ _ _ _
          (main_then Out (Opened code) (BodyEnds z tabs) _ _ _ _
          (main_act Out (Opened code) _ _ (λ s t x. opened code _ _ s t (c.begins false code [] []) x))
          (body_as code))
          (λ e e'. main_less (λ s t. BodyEnds z tabs (given_back e) s (given_back e') t) _ MainEnds _ _ (λ s t x. given_as z tabs e s e' t x) (ended_as file r d next (given_back e) (given_back e')))

      script_as : (file : List ℕ) → Main Out MainEnds (script_row (bodies.program z.rules z.script.scripts z.codes) file) (script_row (node_run.program z.rules z.script) file)
      script_as file = module_as file 0 _ _ (main_act Out MainEnds _ _ (λ s t x. (refl, x)))

      main_as : (file : List ℕ) → Main Out MainEnds (main_row (bodies.program z.rules z.script.scripts z.codes) file) (main_row (node_run.program z.rules z.script) file)
      main_as file =
          subst (λ hs. Main Out MainEnds (main_row (bodies.program z.rules z.script.scripts z.codes) file)
          (if nat_lt 0 z.script.scripts then (if nat_lt z.script.scripts (length hs) then module_row (node_run.program z.rules z.script) file z.script.scripts (script_row (node_run.program z.rules z.script) file) else script_row (node_run.program z.rules z.script) file) else ends_with Undefined)) c.headers
          (go (nat_lt 0 z.script.scripts) (nat_lt z.script.scripts (length (map (λ code. code.header) z.codes))))
        where
          go : (a b : Bool) → Main Out MainEnds
              (if a then (if b then module_row (bodies.program z.rules z.script.scripts z.codes) file z.script.scripts (script_row (bodies.program z.rules z.script.scripts z.codes) file) else script_row (bodies.program z.rules z.script.scripts z.codes) file) else ends_with Undefined)
              (if a then (if b then module_row (node_run.program z.rules z.script) file z.script.scripts (script_row (node_run.program z.rules z.script) file) else script_row (node_run.program z.rules z.script) file) else ends_with Undefined)
          go true true = module_as file z.script.scripts _ _ (script_as file)
          go true false = script_as file
          go false b = main_act Out MainEnds _ _ (λ s t x. (refl, tt))

  text_shown : (v : Value) (s : S) (t : T) → shows (Return v) s ≡ shows (Return v) t
  text_shown (value.Str text) s t = refl
  text_shown value.Unset s t = refl
  text_shown value.None s t = refl
  text_shown (value.Bool b) s t = refl
  text_shown (value.Int b) s t = refl
  text_shown (value.Obj b) s t = refl

  shown_as : (tabs : Tables) (e : End) (s : S) (e' : End) (t : T) → EndsOfMain tabs e s e' t → shows e s ≡ shows e' t
  shown_as tabs (Next v) s (Next w) t x = refl
  shown_as tabs (Return v) s (Return w) t x = text_shown v s t ∙ ap (λ u. shows (Return u) t) x
  shown_as tabs (Stopped v) s (Stopped w) t x = ap (λ u. end.Stopped u) x
  shown_as tabs Undefined s Undefined t x = refl
  shown_as tabs e s e' t x = absurd x

  abbrev source_program : Program python.Frame python.Item
  source_program = bodies.program z.rules z.script.scripts z.codes

  abbrev target_program : Program nodes.Frame nodes.Item
  target_program = node_run.program z.rules z.script

  -- the whole: the run of a script is that of the nodes that carry its codes
  pub script_same : CarriesScript z → (input : List ℕ) → Same (bodies.codes_run z.rules z.script.name z.script.scripts z.codes input) (node_run.node_run z.rules z.script input)
  script_same c input =
      main_same (rows z) (columns z) (λ p s q t. Unit {0}) (EndsOfMain (tables c)) shows shows (shown_as (tables c)) (main_row source_program z.script.name) (main_row target_program z.script.name) (start_state source_program input) (start_state target_program input)
      (λ L. both_map (rows z) (columns z) L _ (λ p s q t. Unit {0}) (EndsOfMain (tables c)) (EndsOfMain (tables c)) (λ p s q t x. tt) (λ e s e' t x. x) _ _
      ((main_as (tables c) L (agree_at c L) c (λ code. (c.codes code).sim (tables c) L (agree_at c L)) z.script.name).sim.begins _ _ start))
    where
      start : Outer z (tables c) (start_state source_program input) (start_state target_program input)
      start = record { code = refl; around = record { scenes = ap (λ hs. record { world = z.rules.start hs; input = input; frames = 0 }) c.headers; kept = λ g. tt } }
