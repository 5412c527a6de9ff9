-- The program of flat code follows the flat code, pauses and resumes too.
use Rattle.std.proofs.Common.{◌≡◌, ◌≢◌, inl, inr, ℕ, zero, suc, ◌+◌, ◌-◌, ◌<◌, ◌≤◌, List, [], ◌∷◌, ◌++◌, Bool, true, false, nat_lt, if◌then◌else◌, Option, Some, None, slice_get, slice_set, map, length, refl, sym, ap, ◌∙◌, subst, arith}
use Rattle.std.specs.List.{AllByRecursion}
use Rattle.std.specs.Option.{option_and_then}
use Rattle.std.proofs.lemmas.Bool.Decides.{nat_tests}
use Rattle.std.proofs.lemmas.List.{length-map}
use Rattle.nu_run.specs.declared.End as run_end
use Rattle.nu_run.specs.declared.End.TheVariants as end
use Rattle.nu_run.specs.Runs.{Ended, Below, Same, IsDefinedEnd, IsDefined}
use Rattle.nu_run.specs.Steps.{Stepped, More, Halt, on_step}
use Rattle.nu_run.proofs.Runs.{Tracks, tracks_after, same_from, same_at_end, below_end}
use Rattle.nu_value.specs.declared.object.Object.{Object}
use Rattle.nu_value.specs.declared.object.Object.TheVariants as object
use Rattle.nu_value.specs.declared.value.Value.{Value}
use Rattle.nu_value.specs.declared.value.Value.TheVariants as value
use Rattle.op_forms.specs.declared.end.After.TheVariants as after
use Rattle.nu_rows.specs.Rows.{End, Next, Leave, Raised, Return, Stopped, Undefined}
use Rattle.nu_calls.specs.Ends.{Result, Gives, Raises, Stops, Unsaid, Begun, Over, Calls, Starts, Wakes, begun_by, generator_ended, call_ended, outside}
use Rattle.op_forms.specs.Rules.{Rules}
use Rattle.nu_calls.specs.Scripts.{report_function}
use Rattle.nu_calls.specs.Surroundings.{Scene, scene, with_frames}
use Rattle.nu_calls.specs.Traceback.{head_text}
use Rattle.flow_code.specs.declared.function.FlatFunction.{FlatFunction}
use Rattle.flow_code.specs.declared.function.FlatScript.{FlatScript}
use Rattle.code_forms.specs.declared.operand.Argument.{Argument}
use Rattle.code_forms.specs.declared.operand.Argument.TheVariants as argument
use Rattle.code_forms.specs.Reading as forms
use Rattle.flow_code.specs.declared.statement.Line.{Line}
use Rattle.flow_code.specs.declared.statement.Statement.{Statement}
use Rattle.flow_code.specs.declared.statement.Statement.TheVariants as flat
use Rattle.flow_code.specs.Contents.{yields}
use Rattle.flow_code.specs.Labels.{leads}
use Rattle.flow_code.specs.Machine as machine
use Rattle.flow_code.specs.Machine.{Frame, Waiting, Bottom, Builtins, Script, Report, Stack, Base, Called, Resumed, Functions}
use Rattle.flow_code.specs.Registers.{reads, argument_reads, arguments_read}
use Rattle.flow_code.specs.Run.{find, first, header, begun, flat_run}
use Rattle.c_meaning.specs.declared.program.Line.{Line as CLine}
use Rattle.c_meaning.specs.declared.program.Line.TheVariants as c_line
use Rattle.c_meaning.specs.declared.program.Statement.{Statement as CStatement}
use Rattle.c_meaning.specs.declared.state.Activation.{Activation}
use Rattle.c_meaning.specs.declared.state.Purpose.TheVariants as purpose
use Rattle.c_meaning.specs.declared.state.Uncaught.{Uncaught}
use Rattle.c_meaning.specs.Code.{goal_in, label_of, cases_of, body_of}
use Rattle.c_meaning.specs.Run.{header_of, blank, start, c_run}
use Rattle.c_meaning.specs.State.{State, printed_in}
use Rattle.c_meaning.specs.State as here
use Rattle.c_meaning.specs.Step as c
use Rattle.c_meaning.proofs.Grows.{step_grows, c_monotone}
use Rattle.generator_cut.specs.Cut.{Plan, becomes, behind, base_of, function_of, program_of}
use Rattle.generator_cut.specs.Plan.{Unwritten, GoesOn, Works}
use Rattle.generator_cut.proofs.Places.{Stands, next_at, part_next, all_front, all_back, placed_first}
use Rattle.generator_cut.proofs.Slots.{Fine}
use Rattle.generator_cut.proofs.States.{Setting, m, code, body, lines_at, Agrees, Spot, frame_of, activation_of, Dozing, flat_around, Asleep, waiting_of, Chain, stack_of, purpose_of, below_of, Sits, around_state, c_state, Joint, one, other, flat_from, c_from, Finishes, Match, halts, go_match, kept_agrees, written_agrees, moved, works_at, lines_for, jump_to, body_is, step_is, site_for, small_at, stands_behind, landing_of, settles_match, back_match, enters_match, on_fine, on_using, on_used, held_fine, Bottommost, Calling, Resuming}
use Rattle.generator_cut.proofs.Generators.{begun_match, wakes_match, yields_match}

from_one : (n : ℕ) → nat_lt 0 n ≡ true → n ≡ suc (n - 1)
from_one n e = let h : 0 < n = grind (arith, nat_tests, e) in omega (arith, h)

module _ (z : Setting) where
  -- OPERATIONS

  begins_match : (w : Asleep z) (below : Chain z) (world : Scene) (ks : List (Option (Dozing z))) (u : Option Uncaught) (out : List ℕ) (b : Begun) → Sits z below w.spot u → Match z (machine.begins (m z) (waiting_of z w) (stack_of z below) (flat_around z ks world) out b) (c.begins z.rules (code z) (c_state z w.spot w.place below world ks u out) (site_for z (landing_of z w)) b)
  begins_match w below world ks u out (Over text r) sits = settles_match z w below world ks u (out ++ text) r sits
  begins_match w below world ks u out (Calls number given cells after) sits =
      enters_match z (activation_of z w.spot w.place (purpose_of z below)) (below_of z below) given cells world ks u out (Calling w after below) number refl sits
  begins_match w below world ks u out (Starts g number given cells) sits =
      subst (λ o. Match z (machine.begins (m z) (waiting_of z w) (stack_of z below) (flat_around z ks world) out (Starts g number given cells)) (c.begins_generator z.rules (code z) (c_state z w.spot w.place below world ks u out) g number given cells o)) (sym (body_is z number))
      (begun_match z (slice_get z.script.functions number) w below g number refl given cells world ks u out sits)
  begins_match w below world ks u out (Wakes g how closing) sits = wakes_match z w below g how closing world ks u out sits

  if_match : (b : Bool) (x : Stepped (machine.State (List Line))) (y : Stepped State) (w : Stepped State) (out : List ℕ) → Match z x y → Match z (if b then x else machine.undefined out) (if b then y else w)
  if_match true x y w out h = h
  if_match false x y w out h = λ d. absurd d

  abbrev FineAll : Option (List Value) → Option (List Value) → Type 0
  FineAll None ws = Unit {0}
  FineAll (Some vs) ws = ws ≡ Some vs

  argument_fine : (a : Spot z) (o : Argument) → AllByRecursion (z.Live a.function a.left) (argument_reads o) → Fine (forms.argument_value (frame_of z a).registers o) (c.argument_value a.registers o)
  argument_fine a (argument.Value o) all = held_fine z a o all
  argument_fine a (argument.Name name) all = refl

  both_fine : (x w : Option Value) (xs ws : Option (List Value)) → Fine x w → FineAll xs ws → FineAll (forms.both x xs) (forms.both w ws)
  both_fine None w xs ws f g = tt
  both_fine (Some v) w None ws f g = tt
  both_fine (Some v) w (Some vs) ws f g = ap (λ w. forms.both w ws) f ∙ ap (forms.both (Some v)) g

  values_fine : (a : Spot z) (args : List Argument) → AllByRecursion (z.Live a.function a.left) (arguments_read args) → FineAll (machine.values (frame_of z a) args) (c.values a.registers args)
  values_fine a [] all = refl
  values_fine a (o ∷ args) all =
      both_fine (forms.argument_value (frame_of z a).registers o) (c.argument_value a.registers o) (machine.values (frame_of z a) args) (c.values a.registers args)
      (argument_fine a o (all_front _ (argument_reads o) (arguments_read args) all)) (values_fine a args (all_back _ (argument_reads o) (arguments_read args) all))

  operates_match : (w : Asleep z) (below : Chain z) (world : Scene) (ks : List (Option (Dozing z))) (u : Option Uncaught) (out : List ℕ) (args given : Option (List Value)) → FineAll args given → Sits z below w.spot u → Match z (machine.having args (machine.undefined out) (λ vs. machine.operates (m z) (waiting_of z w) (stack_of z below) (flat_around z ks world) out w.op vs)) (c.operates z.rules (code z) (c_state z w.spot w.place below world ks u out) (site_for z (landing_of z w)) w.op given)
  operates_match w below world ks u out None given fine sits = λ d. absurd d
  operates_match w below world ks u out (Some vs) given fine sits =
      let b = begun_by z.script.scripts (scene (flat_around z ks world)) (z.rules.apply w.op world.world vs) in
      subst (λ vs'. Match z (machine.operates (m z) (waiting_of z w) (stack_of z below) (flat_around z ks world) out w.op vs) (c.operates z.rules (code z) (c_state z w.spot w.place below world ks u out) (site_for z (landing_of z w)) w.op vs')) (sym fine)
      (if_match (z.rules.fits w.op world.world vs) _ _ _ out (begins_match w below b.scene ks u out b.begun sits))

  -- THE END OF THE MODULES

  abbrev report_of : List ℕ → ℕ → ℕ → Uncaught
  report_of head number e = record { exception = e; function = number; head = head }

  ends_so : (out : List ℕ) (e e' : run_end.End) → e' ≡ e → Finishes z (Halt out e') out e
  ends_so out e e' s = record { by = (0, ap (λ x. Ended out x) s) }

  reported_is : (head : List ℕ) (number e : ℕ) (r : Result) → IsDefinedEnd (machine.reported (m z) head r) → c.reported z.rules (code z) (report_of head number e) r ≡ machine.reported (m z) head r
  reported_is head number e (Gives value.Unset) d = refl
  reported_is head number e (Gives value.None) d = refl
  reported_is head number e (Gives (value.Bool b)) d = refl
  reported_is head number e (Gives (value.Int i)) d = refl
  reported_is head number e (Gives (value.Str text)) d = refl
  reported_is head number e (Gives (value.Obj n)) d = refl
  reported_is head number e (Raises x) d = refl
  reported_is head number e (Stops kind) d = refl
  reported_is head number e Unsaid d = absurd d

  report_begins_match : (running : Activation) (others : List Activation) (head : List ℕ) (number e : ℕ) (world : Scene) (ks : List (Option (Dozing z))) (out : List ℕ) (b : Begun) → Match z (machine.report_begins (m z) head number (flat_around z ks world) out b) (c.report_begins z.rules (code z) (around_state z running others world ks (Some (report_of head number e)) out) (report_of head number e) b)
  report_begins_match running others head number e world ks out (Over text r) = λ d. ends_so (out ++ text) _ _ (reported_is head number e r d)
  report_begins_match running others head number e world ks out (Calls called given cells after) =
      enters_match z running others given cells world ks (Some (report_of head number e)) out (Bottommost (Report head number after)) called refl (e, refl)
  report_begins_match running others head number e world ks out (Starts g called given cells) = λ d. absurd d
  report_begins_match running others head number e world ks out (Wakes g how closing) = λ d. absurd d

  function_match : (running : Activation) (head : List ℕ) (number e : ℕ) (world : Scene) (ks : List (Option (Dozing z))) (out : List ℕ) (f : ℕ) (x : Option Object) → Match z (machine.asks_function (m z) head number e (flat_around z ks world) out f x) (c.asks_function z.rules (code z) (around_state z running [] world ks (Some (report_of head number e)) out) (report_of head number e) f x)
  function_match running head number e world ks out f None = λ d. halts z _ _
  function_match running head number e world ks out f (Some (object.Function called defaults keywords cells)) =
      let b = begun_by z.script.scripts (scene (flat_around z ks world)) (z.rules.bind world.world f (value.Obj e ∷ []) after.Plain) in
      report_begins_match running [] head number e b.scene ks out b.begun
  function_match running head number e world ks out f (Some o) = λ d. halts z _ _

  asks_match : (running : Activation) (head : List ℕ) (number e : ℕ) (world : Scene) (ks : List (Option (Dozing z))) (out : List ℕ) (f : Option Value) → Match z (machine.reports (m z) head number e (flat_around z ks world) out f) (c.asks_report z.rules (code z) (around_state z running [] world ks (Some (report_of head number e)) out) (report_of head number e) f)
  asks_match running head number e world ks out None = λ d. halts z _ _
  asks_match running head number e world ks out (Some value.Unset) = λ d. halts z _ _
  asks_match running head number e world ks out (Some value.None) = λ d. halts z _ _
  asks_match running head number e world ks out (Some (value.Bool b)) = λ d. halts z _ _
  asks_match running head number e world ks out (Some (value.Int i)) = λ d. halts z _ _
  asks_match running head number e world ks out (Some (value.Str text)) = λ d. halts z _ _
  asks_match running head number e world ks out (Some (value.Obj f)) = function_match running head number e world ks out f (slice_get world.world.heap f)

  uncaught_match : (a : Spot z) (n : ℕ) (chain : Chain z) (world : Scene) (ks : List (Option (Dozing z))) (u : Option Uncaught) (out : List ℕ) (e : ℕ) → Match z (machine.uncaught (m z) a.number e (flat_around z ks world) out) (c.leaves z.rules (code z) (c_state z a n chain world ks u out) (c.uncaught z.rules (code z) (c_state z a n chain world ks u out) e))
  uncaught_match a n chain world ks u out e =
      asks_match (activation_of z a n (purpose_of z chain)) (head_text z.script.name world.world.heap e) a.number e (with_frames (scene (flat_around z ks world)) 0) ks out (report_function world.world)

  module_match : (a : Spot z) (n : ℕ) (chain : Chain z) (world : Scene) (ks : List (Option (Dozing z))) (u : Option Uncaught) (out : List ℕ) (next : Stepped (machine.State (List Line))) → Match z next (c.module_over z.rules (code z) (c_state z a n chain world ks u out) a.number) → (e : End) → Match z (machine.module_ended (m z) a.number (flat_around z ks world) out next e) (c.module_ended z.rules (code z) (c_state z a n chain world ks u out) e)
  module_match a n chain world ks u out next h (Next v) = h
  module_match a n chain world ks u out next h (Return v) = h
  module_match a n chain world ks u out next h (Raised e) = uncaught_match a n chain world ks u out e
  module_match a n chain world ks u out next h (Stopped kind) = λ d. halts z _ _
  module_match a n chain world ks u out next h (Leave k) = λ d. absurd d
  module_match a n chain world ks u out next h Undefined = λ d. absurd d

  -- an activation ends
  ended_match : (a : Spot z) (n : ℕ) (chain : Chain z) (world : Scene) (ks : List (Option (Dozing z))) (u : Option Uncaught) (out : List ℕ) (e : End) → Sits z chain a u → Match z (machine.body_ended (m z) a.number (stack_of z chain) (flat_around z ks world) out e) (c.body_ended z.rules (code z) (c_state z a n chain world ks u out) e)
  ended_match a n (Bottommost Builtins) world ks u out e sits =
      module_match a n (Bottommost Builtins) world ks u out (machine.script_begins (m z) (flat_around z ks world) out)
      (subst (λ k. Match z (machine.script_begins (m z) (flat_around z ks world) out) (c.module_over z.rules (code z) (c_state z a n (Bottommost Builtins) world ks u out) k)) (sym sits.1.1)
      (enters_match z (activation_of z a n purpose.Module) [] [] [] (with_frames (scene (flat_around z ks world)) 0) ks u out (Bottommost Script) 0 refl refl)) e
  ended_match a n (Bottommost Script) world ks u out e sits =
      module_match a n (Bottommost Script) world ks u out (Halt out end.Done)
      (subst (λ k. Match z (Halt out end.Done) (c.module_over z.rules (code z) (c_state z a n (Bottommost Script) world ks u out) k)) (sym sits.1) (λ d. halts z _ _)) e
  ended_match a n (Bottommost (Report head caller after)) world ks u out e sits =
      subst (λ v. Match z (machine.body_ended (m z) a.number (Base (Report head caller after)) (flat_around z ks world) out e) (c.report_ended z.rules (code z) (c_state z a n (Bottommost (Report head caller after)) world ks u out) after e v)) (sym sits.1.1)
      (λ d. ends_so out _ _ (reported_is head caller sits.1.0 (call_ended z.rules after (outside z.rules z.script.scripts (scene (flat_around z ks world)) caller) e).result d))
  ended_match a n (Calling w after below) world ks u out e sits =
      back_match z (activation_of z a n (purpose.Call after)) (below_of z (Calling w after below)) w below world ks u out (call_ended z.rules after (outside z.rules z.script.scripts (scene (flat_around z ks world)) w.spot.number) e) sits.1
  ended_match a n (Resuming w g number closing what resumed below) world ks u out e sits =
      back_match z (activation_of z a n (purpose.Resume g what closing resumed)) (below_of z (Resuming w g number closing what resumed below)) w below world ks u out
      (generator_ended (outside z.rules z.script.scripts (scene (flat_around z ks world)) w.spot.number) g closing e) sits.1

  -- a function that returns None has ended as one whose end was reached
  none_given : (a : Spot z) (n : ℕ) (chain : Chain z) (world : Scene) (ks : List (Option (Dozing z))) (u : Option Uncaught) (out : List ℕ) → c.body_ended z.rules (code z) (c_state z a n chain world ks u out) (Next value.None) ≡ c.body_ended z.rules (code z) (c_state z a n chain world ks u out) (Return value.None)
  none_given a n (Bottommost Builtins) world ks u out = refl
  none_given a n (Bottommost Script) world ks u out = refl
  none_given a n (Bottommost (Report head caller after)) world ks None out = refl
  none_given a n (Bottommost (Report head caller after)) world ks (Some u) out = refl
  none_given a n (Calling w after below) world ks u out = refl
  none_given a n (Resuming w g number closing what resumed below) world ks u out = refl

  -- STATEMENTS

  module _ (j : Joint z) where
    abbrev f : FlatFunction
    f = j.spot.function

    -- a state of the running activation
    abbrev now : ℕ → List (Option Value) → Option ℕ → State
    now n registers pending =
        around_state z (record { function = j.spot.number; place = n; registers = registers; slots = j.spot.slots; arguments = j.spot.given; cells = j.spot.cells; pending = pending; purpose = purpose_of z j.chain }) (below_of z j.chain) j.world j.kept j.uncaught j.out

    abbrev flat_now : List Line → (ℕ → Option Value) → Option ℕ → machine.State (List Line)
    flat_now left frame pending =
        machine.at j.spot.number left (record { code = j.spot.number; given = j.spot.given; cells = j.spot.cells; registers = frame }) pending (stack_of z j.chain) (flat_around z j.kept j.world) j.out

    -- control goes on behind a statement, or at a label
    onward : (x : Statement) (next : List Line) → first j.spot.left ≡ Some (x, next) → Stands (body z f) (lines_at z f (behind j.spot.pause x) next) (j.place + 1) → (registers : List (Option Value)) (frame : ℕ → Option Value) (pending : Option ℕ) → Agrees z f next registers frame → Match z (More (flat_now next frame pending)) (More (now (j.place + 1) registers pending))
    onward x next e stands registers frame pending agrees =
        go_match z (moved z j.spot pending registers frame next (behind j.spot.pause x) (part_next f.body j.spot.left x next e j.spot.part) agrees (placed_first (body z f) (base_of f) (yields f.body) (z.plan f).saved j.spot.pause j.spot.left x next e j.spot.placed).1) (j.place + 1) j.chain j.world j.kept j.uncaught j.out stands j.sits

    jumps_match : (l : ℕ) (pending : Option ℕ) → Agrees z f (find l f.body) j.spot.registers j.spot.frame → Match z (More (flat_now ((m z).label j.spot.number l) j.spot.frame pending)) (here.jumps (now j.place j.spot.registers pending) (goal_in 0 (body z f) l))
    jumps_match l pending agrees =
        subst (λ ls. Match z (More (flat_now (find l ls) j.spot.frame pending)) (here.jumps (now j.place j.spot.registers pending) (goal_in 0 (body z f) l))) (sym (lines_for z j.spot))
        (jump_to z j.spot pending j.spot.registers j.spot.frame j.place j.chain j.world j.kept j.uncaught j.out l (goal_in 0 (body z f) l) refl agrees j.sits)

    wrote : (x : Statement) (next : List Line) → first j.spot.left ≡ Some (x, next) → GoesOn x → (to : ℕ) (v : Value) → to < f.registers → ((r : ℕ) → r ≢ to → Unwritten r x) → Agrees z f next (slice_set j.spot.registers to (Some v)) (machine.put j.spot.frame to v)
    wrote x next e on to v small free =
        written_agrees z f j.spot.left next j.spot.registers j.spot.frame to v small (λ r ne q. (works_at z j.spot).live.next j.spot.left x next j.spot.part e on r (free r ne) q) (λ r ne q. (works_at z j.spot).held.next j.spot.left x next j.spot.part e on r (free r ne) q) j.spot.agrees

    stayed : (x : Statement) (next : List Line) → first j.spot.left ≡ Some (x, next) → GoesOn x → ((r : ℕ) → Unwritten r x) → Agrees z f next j.spot.registers j.spot.frame
    stayed x next e on free =
        kept_agrees z f j.spot.left next j.spot.registers j.spot.frame (λ r q. (works_at z j.spot).live.next j.spot.left x next j.spot.part e on r (free r) q) (λ r q. (works_at z j.spot).held.next j.spot.left x next j.spot.part e on r (free r) q) j.spot.agrees

    jump_stayed : (x : Statement) (next : List Line) → first j.spot.left ≡ Some (x, next) → (l : ℕ) → leads x ≡ l ∷ [] → ((r : ℕ) → Unwritten r x) → Agrees z f (find l f.body) j.spot.registers j.spot.frame
    jump_stayed x next e l one_label free =
        kept_agrees z f j.spot.left (find l f.body) j.spot.registers j.spot.frame
        (λ r q. (subst (AllByRecursion (λ l. z.Live f (find l f.body) r → z.Live f j.spot.left r)) one_label ((works_at z j.spot).live.jump j.spot.left x next j.spot.part e r (free r))).0 q)
        (λ r q. (subst (AllByRecursion (λ l. z.Held f (find l f.body) r → z.Held f j.spot.left r)) one_label ((works_at z j.spot).held.jump j.spot.left x next j.spot.part e r (free r))).0 q) j.spot.agrees

    branches_match : (next : List Line) (l : ℕ) → Match z (More (flat_now next j.spot.frame j.spot.pending)) (More (now (j.place + 1) j.spot.registers j.spot.pending)) → Match z (More (flat_now ((m z).label j.spot.number l) j.spot.frame j.spot.pending)) (here.jumps (now j.place j.spot.registers j.spot.pending) (goal_in 0 (body z f) l)) → (v : Value) → Match z (machine.branches (m z) (one z j) next l v) (c.branches (other z j) (goal_in 0 (body z f) l) (Some v))
    branches_match next l on jump value.Unset = λ d. absurd d
    branches_match next l on jump value.None = λ d. absurd d
    branches_match next l on jump (value.Bool true) = jump
    branches_match next l on jump (value.Bool false) = on
    branches_match next l on jump (value.Int i) = λ d. absurd d
    branches_match next l on jump (value.Str text) = λ d. absurd d
    branches_match next l on jump (value.Obj n) = λ d. absurd d

    pends_match : (l e : ℕ) → Agrees z f (find l f.body) j.spot.registers j.spot.frame → (x : Option Object) → Match z (machine.pending_exception (m z) (one z j) l e x) (c.pends (other z j) (goal_in 0 (body z f) l) e x)
    pends_match l e agrees None = λ d. absurd d
    pends_match l e agrees (Some (object.Exception class args entries fields cause)) = jumps_match l (Some e) agrees
    pends_match l e agrees (Some o) = λ d. absurd d

    again_match : (l : ℕ) → Agrees z f (find l f.body) j.spot.registers j.spot.frame → (v : Value) → Match z (machine.again (m z) (one z j) l v) (c.again (other z j) (goal_in 0 (body z f) l) (Some v))
    again_match l agrees value.Unset = λ d. absurd d
    again_match l agrees value.None = λ d. absurd d
    again_match l agrees (value.Bool b) = λ d. absurd d
    again_match l agrees (value.Int i) = λ d. absurd d
    again_match l agrees (value.Str text) = λ d. absurd d
    again_match l agrees (value.Obj e) = pends_match l e agrees (slice_get j.world.world.heap e)

    takes_match : (next : List Line) (to : ℕ) → ((e : ℕ) → Match z (More (flat_now next (machine.put j.spot.frame to (value.Obj e)) None)) (More (now (j.place + 1) (slice_set j.spot.registers to (Some (value.Obj e))) None))) → (p : Option ℕ) → Match z (machine.having p (machine.undefined j.out) (λ e. More (flat_now next (machine.put j.spot.frame to (value.Obj e)) None))) (c.takes (other z j) to p)
    takes_match next to h None = λ d. absurd d
    takes_match next to h (Some e) = h e

    fails_match : (p : Option ℕ) → Match z (machine.having p (machine.undefined j.out) (λ e. machine.body_ended (m z) j.spot.number (stack_of z j.chain) (flat_around z j.kept j.world) j.out (Raised e))) (c.fails z.rules (code z) (other z j) p)
    fails_match None = λ d. absurd d
    fails_match (Some e) = ended_match j.spot j.place j.chain j.world j.kept j.uncaught j.out (Raised e) j.sits

    -- a statement that is one of C
    as_one : (x : Statement) (next : List Line) (s : CStatement) (rest : List CLine) → first j.spot.left ≡ Some (x, next) → becomes (base_of f) ((z.plan f).saved x next) j.spot.pause x (lines_at z f (behind j.spot.pause x) next) ≡ c_line.Do s ∷ rest → Match z (machine.acts (m z) (one z j) next x) (c.statement_step z.rules (code z) (other z j) s (option_and_then (goal_in 0 (body z f)) (label_of s)) (map (goal_in 0 (body z f)) (cases_of s))) → Match z (machine.acts (m z) (one z j) next x) (c.step z.rules (code z) (other z j))
    as_one x next s rest e is h =
        subst (Match z (machine.acts (m z) (one z j) next x)) (sym (step_is z (other z j) f j.spot.is s rest (subst (λ ls. Stands (body z f) ls j.place) is (stands_behind z j.spot j.place x next e j.stands)))) h

    next_stands : (x : Statement) (next : List Line) (s : CStatement) → first j.spot.left ≡ Some (x, next) → becomes (base_of f) ((z.plan f).saved x next) j.spot.pause x (lines_at z f (behind j.spot.pause x) next) ≡ c_line.Do s ∷ lines_at z f (behind j.spot.pause x) next → Stands (body z f) (lines_at z f (behind j.spot.pause x) next) (j.place + 1)
    next_stands x next s e is = next_at (body z f) j.place s _ (subst (λ ls. Stands (body z f) ls j.place) is (stands_behind z j.spot j.place x next e j.stands))

    reads_live : (x : Statement) (next : List Line) → first j.spot.left ≡ Some (x, next) → AllByRecursion (z.Live f j.spot.left) (reads x)
    reads_live x next e = (works_at z j.spot).reads j.spot.left x next j.spot.part e

    -- a value is stored
    puts_match : (x : Statement) (next : List Line) (s : CStatement) → first j.spot.left ≡ Some (x, next) → GoesOn x → becomes (base_of f) ((z.plan f).saved x next) j.spot.pause x (lines_at z f (behind j.spot.pause x) next) ≡ c_line.Do s ∷ lines_at z f (behind j.spot.pause x) next → (to : ℕ) → to < f.registers → ((r : ℕ) → r ≢ to → Unwritten r x) → (v : Value) (pending : Option ℕ) → Match z (More (flat_now next (machine.put j.spot.frame to v) pending)) (More (now (j.place + 1) (slice_set j.spot.registers to (Some v)) pending))
    puts_match x next s e on is to small free v pending =
        onward x next e (next_stands x next s e is) (slice_set j.spot.registers to (Some v)) (machine.put j.spot.frame to v) pending (wrote x next e on to v small free)

    acts_match : (x : Statement) (next : List Line) → first j.spot.left ≡ Some (x, next) → Match z (machine.acts (m z) (one z j) next x) (c.step z.rules (code z) (other z j))
    acts_match (flat.Store to a) next e =
        let x = flat.Store to a in
        as_one x next _ _ e refl
        (on_fine z j.out _ (c.stores (other z j) to) (λ v. puts_match x next _ e tt refl to (small_at z j.spot x next e).0 (λ r ne. (ne, tt)) v j.spot.pending) (machine.operand_value (frame_of z j.spot) a) (c.operand_value j.spot.registers a) (held_fine z j.spot a (reads_live x next e)))
    acts_match (flat.Unset to) next e =
        let x = flat.Unset to in
        as_one x next _ _ e refl (puts_match x next _ e tt refl to (small_at z j.spot x next e).0 (λ r ne. (ne, tt)) value.Unset j.spot.pending)
    acts_match (flat.Parameter to i) next e =
        let x = flat.Parameter to i in
        as_one x next _ _ e refl
        (on_fine z j.out _ (c.stores (other z j) to) (λ v. puts_match x next _ e tt refl to (small_at z j.spot x next e).0 (λ r ne. (ne, tt)) v j.spot.pending) (slice_get j.spot.given i) (slice_get j.spot.given i) (fine_self (slice_get j.spot.given i)))
      where
        fine_self : (v : Option Value) → Fine v v
        fine_self None = tt
        fine_self (Some v) = refl
    acts_match (flat.Free to i) next e =
        let x = flat.Free to i in
        as_one x next _ _ e refl
        (on_fine z j.out _ (c.stores (other z j) to) (λ v. puts_match x next _ e tt refl to (small_at z j.spot x next e).0 (λ r ne. (ne, tt)) v j.spot.pending) (slice_get j.spot.cells i) (slice_get j.spot.cells i) (fine_self (slice_get j.spot.cells i)))
      where
        fine_self : (v : Option Value) → Fine v v
        fine_self None = tt
        fine_self (Some v) = refl
    acts_match (flat.Do to at o args fail) next e =
        let w : Asleep z = record { spot = j.spot; place = j.place; to = to; line = at; op = o; args = args; fail = fail; next = next; first = e; stands = j.stands } in
        as_one (flat.Do to at o args fail) next _ _ e refl
        (operates_match w j.chain j.world j.kept j.uncaught j.out (machine.values (frame_of z j.spot) args) (c.values j.spot.registers args) (values_fine j.spot args (reads_live (flat.Do to at o args fail) next e)) j.sits)
    acts_match (flat.Goto l) next e =
        as_one (flat.Goto l) next _ _ e refl (jumps_match l j.spot.pending (jump_stayed (flat.Goto l) next e l refl (λ r. tt)))
    acts_match (flat.Branch test l) next e =
        let x = flat.Branch test l in
        as_one x next _ _ e refl
        (on_using z j.out _ (c.branches (other z j) (goal_in 0 (body z f) l))
        (branches_match next l (onward x next e (next_stands x next _ e refl) j.spot.registers j.spot.frame j.spot.pending (stayed x next e tt (λ r. tt))) (jumps_match l j.spot.pending (jump_stayed x next e l refl (λ r. tt))))
        (machine.operand_value (frame_of z j.spot) test) (c.operand_value j.spot.registers test) (held_fine z j.spot test (reads_live x next e)))
    acts_match (flat.Caught to) next e =
        let x = flat.Caught to in
        as_one x next _ _ e refl (takes_match next to (λ n. puts_match x next _ e tt refl to (small_at z j.spot x next e).0 (λ r ne. (ne, tt)) (value.Obj n) None) j.spot.pending)
    acts_match (flat.Again a l) next e =
        let x = flat.Again a l in
        as_one x next _ _ e refl
        (on_using z j.out _ (c.again (other z j) (goal_in 0 (body z f) l)) (again_match l (jump_stayed x next e l refl (λ r. tt))) (machine.operand_value (frame_of z j.spot) a) (c.operand_value j.spot.registers a) (held_fine z j.spot a (reads_live x next e)))
    acts_match (flat.Give a) next e =
        as_one (flat.Give a) next _ _ e refl
        (on_used z j.out _ (c.returns z.rules (code z) (other z j)) (λ v. ended_match j.spot j.place j.chain j.world j.kept j.uncaught j.out (Return v) j.sits) (machine.operand_value (frame_of z j.spot) a) (c.operand_value j.spot.registers a) (held_fine z j.spot a (reads_live (flat.Give a) next e)))
    acts_match flat.End next e =
        as_one flat.End next _ _ e refl
        (subst (Match z (machine.acts (m z) (one z j) next flat.End)) (none_given j.spot j.place j.chain j.world j.kept j.uncaught j.out)
        (ended_match j.spot j.place j.chain j.world j.kept j.uncaught j.out (Next value.None) j.sits))
    acts_match flat.Fail next e = as_one flat.Fail next _ _ e refl (fails_match j.spot.pending)
    acts_match (flat.Yield to at a fail) next e = yields_match z j.spot j.place j.chain j.world j.kept j.uncaught j.out to at a fail next e j.stands j.sits

    step_match : Match z (machine.step (m z) (one z j)) (c.step z.rules (code z) (other z j))
    step_match = go (first j.spot.left) refl
      where
        go : (o : Option (Statement × List Line)) → first j.spot.left ≡ o → Match z (machine.acts_at (m z) (one z j) o) (c.step z.rules (code z) (other z j))
        go None e = λ d. absurd d
        go (Some x) e = acts_match x.0 x.1 e

  -- RUNS

  follows : (n : ℕ) (j : Joint z) → IsDefined (λ k. flat_from z k (one z j)) → Tracks n (flat_from z n (one z j)) (λ k. c_from z k (other z j))
  follows zero j d = record { goes_on = λ out e. (0, omega arith, e); ends = λ out x e ne. cc }
  follows (suc n) j d = go (machine.step (m z) (one z j)) (step_match j) (λ k out e h. d (suc k) out e h) (follows n)
    where
      go : (x : Stepped (machine.State (List Line))) → Match z x (c.step z.rules (code z) (other z j)) → IsDefined (λ k. on_step x (flat_from z k)) → ((i : Joint z) → IsDefined (λ k. flat_from z k (one z i)) → Tracks n (flat_from z n (one z i)) (λ k. c_from z k (other z i))) → Tracks (suc n) (on_step x (flat_from z n)) (λ k. c_from z k (other z j))
      go (More s) (inl dead) d ih = absurd (d 1 s.out (end.Undefined 0 0) (ap (λ o. on_step (machine.acts_at (m z) s o) (flat_from z 0)) dead))
      go (More s) (inr h) d ih =
          let r = ih h.0 (subst (λ s. IsDefined (λ k. flat_from z k s)) h.1 d) in
          let e = ap (flat_from z n) h.1 in
          record {
            goes_on = λ out y. let b = r.goes_on out (sym e ∙ y) in let a = h.2.by b.0 in (suc a.0, omega (arith, a.1, b.1), a.2 ∙ b.2);
            ends = λ out x y ne. let b = r.ends out x (sym e ∙ y) ne in let a = h.2.by b.0 in (suc a.0, a.2 ∙ b.1);
          }
      go (Halt out x) h d ih = record {
        goes_on = λ out' y. cc;
        ends = λ out' x' y ne. let sx : x ≡ x' = cc in let b = (h (subst IsDefinedEnd (sym sx) ne)).by in (suc b.0, b.1 ∙ y);
      }

  -- THE START

  headers_are : (fs : List FlatFunction) → map header_of (map (λ f. function_of (z.plan f) f) fs) ≡ map header fs
  headers_are [] = refl
  headers_are (f ∷ fs) = ap (λ hs. header f ∷ hs) (headers_are fs)

  module _ (input : List ℕ) where
    abbrev start_scene : Scene
    start_scene = record { world = z.rules.start (map header z.script.functions); input = input; frames = 0 }

    abbrev unbegun : Activation
    unbegun = (blank z.rules [] input).running

    first_match : (some more : Bool) → nat_lt 0 z.script.scripts ≡ some → Match z (if some then (if more then machine.enters (m z) false z.script.scripts [] [] (Base Builtins) (flat_around z [] start_scene) [] else machine.enters (m z) false 0 [] [] (Base Script) (flat_around z [] start_scene) []) else Halt [] (end.Undefined 0 0)) (c.module_begins z.rules (code z) (blank z.rules (map header z.script.functions) input) (if more then z.script.scripts else 0))
    first_match true true e = enters_match z unbegun [] [] [] start_scene [] None [] (Bottommost Builtins) z.script.scripts refl (z.script.scripts - 1, from_one z.script.scripts e)
    first_match true false e = enters_match z unbegun [] [] [] start_scene [] None [] (Bottommost Script) 0 refl refl
    first_match false more e = λ d. absurd d

    as_many : length (code z).bodies ≡ length (map header z.script.functions)
    as_many = length-map (map (λ f. function_of (z.plan f) f) z.script.functions) body_of ∙ length-map z.script.functions (λ f. function_of (z.plan f) f) ∙ sym (length-map z.script.functions header)

    start_match : Match z (begun (m z) input) (start z.rules (program_of z.plan z.script) input)
    start_match =
        subst (λ hs. Match z (begun (m z) input) (c.module_begins z.rules (code z) (blank z.rules hs input) (if nat_lt z.script.scripts (length (code z).bodies) then z.script.scripts else 0))) (sym (headers_are z.script.functions))
        (subst (λ k. Match z (begun (m z) input) (c.module_begins z.rules (code z) (blank z.rules (map header z.script.functions) input) (if nat_lt z.script.scripts k then z.script.scripts else 0))) (sym as_many)
        (first_match (nat_lt 0 z.script.scripts) (nat_lt z.script.scripts (length (map header z.script.functions))) refl))

    both_run : (x : Stepped (machine.State (List Line))) (y : Stepped State) → start z.rules (program_of z.plan z.script) input ≡ y → Match z x y → IsDefined (λ n. on_step x (flat_from z n)) → Same (λ n. on_step x (flat_from z n)) (λ n. on_step y (c_from z n))
    both_run (More s) y e (inl dead) d = absurd (d 1 s.out (end.Undefined 0 0) (ap (λ o. on_step (machine.acts_at (m z) s o) (flat_from z 0)) dead))
    both_run (More s) (Halt out x) e (inr h) d = let a = h.2.by 0 in cc
    both_run (More s) (More t) e (inr h) d =
        same_from (c.step z.rules (code z)) printed_in (step_grows z.rules (code z)) (λ n. flat_from z n s) t d
        (λ n. tracks_after _ _ n t (other z h.0) (flat_from z n s) (record { by = h.2.by }) (subst (λ s. Tracks n (flat_from z n s) (λ k. c_from z k (other z h.0))) (sym h.1) (follows n h.0 (subst (λ s. IsDefined (λ k. flat_from z k s)) h.1 d))))
    both_run (Halt out x) y e h d =
        let b = (h (d 0 out x refl)).by in
        let mono = subst (λ y. (i n : ℕ) → i ≤ n → Below (on_step y (c_from z i)) (on_step y (c_from z n))) e (c_monotone z.rules (program_of z.plan z.script) input) in
        same_at_end (λ n. Ended out x) (λ n. on_step y (c_from z n)) out x (λ n. refl) 0 refl (below_end (λ n. on_step y (c_from z n)) out x mono b.0 b.1) b.0 b.1

    runs_are_same : IsDefined (flat_run z.rules z.script input) → Same (flat_run z.rules z.script input) (c_run z.rules (program_of z.plan z.script) input)
    runs_are_same d = both_run (begun (m z) input) (start z.rules (program_of z.plan z.script) input) refl start_match d

-- over a plan that saves enough the program does what the flat code does
pub runs_same : (rules : Rules) (script : FlatScript) (plan : FlatFunction → Plan) (Live Held : FlatFunction → List Line → ℕ → Type 0) (works : (k : ℕ) (f : FlatFunction) → slice_get script.functions k ≡ Some f → Works (plan f) (Live f) (Held f) f) (input : List ℕ) → IsDefined (flat_run rules script input) → Same (flat_run rules script input) (c_run rules (program_of plan script) input)
runs_same rules script plan Live Held works input d =
    let z : Setting = record { rules = rules; script = script; plan = plan; Live = Live; Held = Held; works = works } in
    runs_are_same z input d
