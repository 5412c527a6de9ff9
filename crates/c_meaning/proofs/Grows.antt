-- A step only adds to what was printed.
use Rattle.std.proofs.Common.{ℕ, zero, suc, ◌≤◌, List, [], ◌∷◌, ◌++◌, Option, Some, None, Bool, true, false, slice_get, length, nat_lt, refl, if◌then◌else◌}
use Rattle.std.specs.Option.{option_flatten}
use Rattle.nu_run.specs.declared.End.TheVariants as end
use Rattle.nu_run.specs.Runs.{IsPrefix, IsMonotone, Below}
use Rattle.nu_run.specs.Steps.{Stepped, More, Halt, on_step, run, Grew}
use Rattle.nu_run.proofs.Runs.{prefix_refl, prefix_more, prefix_trans, longer}
use Rattle.nu_value.specs.declared.object.Object.{Object}
use Rattle.nu_value.specs.declared.object.Object.TheVariants as object
use Rattle.nu_value.specs.declared.value.Value.{Value}
use Rattle.nu_value.specs.declared.value.Value.TheVariants as value
use Rattle.op_forms.specs.declared.end.After.{After}
use Rattle.op_forms.specs.declared.end.After.TheVariants as after
use Rattle.op_forms.specs.declared.op.Op.{Op}
use Rattle.nu_rows.specs.Rows.{End, Next, Leave, Raised, Return, Stopped, Undefined}
use Rattle.op_forms.specs.Rules.{Rules}
use Rattle.nu_calls.specs.Surroundings.{scene, with_scene, with_frames, kept_at}
use Rattle.nu_calls.specs.Scripts.{report_function}
use Rattle.nu_calls.specs.Ends.{Result, Gives, Raises, Stops, Unsaid, Ending, Begun, Over, Calls, Starts, Wakes, Began, begun_by, generator_paused, generator_ended, call_ended, outside}
use Rattle.c_meaning.specs.declared.program.CProgram as program
use Rattle.c_meaning.specs.declared.program.Stored.{Stored}
use Rattle.c_meaning.specs.declared.program.Stored.TheVariants as stored
use Rattle.c_meaning.specs.declared.program.Statement.{Statement}
use Rattle.c_meaning.specs.declared.program.Statement.TheVariants as statement
use Rattle.c_meaning.specs.declared.code.Placed.{Placed}
use Rattle.c_meaning.specs.declared.code.Body.{Body}
use Rattle.c_meaning.specs.declared.code.Code.{Code}
use Rattle.c_meaning.specs.declared.state.Activation.{Activation}
use Rattle.c_meaning.specs.declared.state.Kept.{Kept}
use Rattle.c_meaning.specs.declared.state.Purpose.{Purpose}
use Rattle.c_meaning.specs.declared.state.Purpose.TheVariants as purpose
use Rattle.c_meaning.specs.declared.state.Told.{Told}
use Rattle.c_meaning.specs.declared.state.Told.TheVariants as told
use Rattle.c_meaning.specs.declared.state.Uncaught.{Uncaught}
use Rattle.c_meaning.specs.Code.{code_of}
use Rattle.c_meaning.specs.State.{State, printed_in, keeping, in_scene, printing, jumps}
use Rattle.c_meaning.specs.Step.{operand_value, used, values, number_of, told_of, Site, site_in, placed_at, stores, branches, takes, pends, again, saves, switches, raised, settles, settles_at, begins_body, enters, begins_generator, wakes, begins, began, operates, back, report_begins, report_began, asks_function, asks_report, leaves, uncaught, module_begins, module_over, module_ended, report_ended, ended, body_ended, returns, fails, kept_of, pauses, receives, stored_step, statement_step, placed_step, step}
use Rattle.c_meaning.specs.Run.{start, c_run}

module _ (base : List ℕ) where
  abbrev Grows : Stepped State → Type 0
  Grows x = Grew printed_in base x

  if_grows : (b : Bool) (x y : Stepped State) → Grows x → Grows y → Grows (if b then x else y)
  if_grows true x y h k = h
  if_grows false x y h k = k

  jumps_grows : (s : State) (goal : Option ℕ) → IsPrefix base s.printed → Grows (jumps s goal)
  jumps_grows s None p = p
  jumps_grows s (Some n) p = p

  stores_grows : (s : State) (to : ℕ) (v : Option Value) → IsPrefix base s.printed → Grows (stores s to v)
  stores_grows s to None p = p
  stores_grows s to (Some v) p = p

  branches_grows : (s : State) (goal : Option ℕ) (v : Option Value) → IsPrefix base s.printed → Grows (branches s goal v)
  branches_grows s goal None p = p
  branches_grows s goal (Some value.Unset) p = p
  branches_grows s goal (Some value.None) p = p
  branches_grows s goal (Some (value.Bool true)) p = jumps_grows s goal p
  branches_grows s goal (Some (value.Bool false)) p = p
  branches_grows s goal (Some (value.Int z)) p = p
  branches_grows s goal (Some (value.Str text)) p = p
  branches_grows s goal (Some (value.Obj n)) p = p

  takes_grows : (s : State) (to : ℕ) (e : Option ℕ) → IsPrefix base s.printed → Grows (takes s to e)
  takes_grows s to None p = p
  takes_grows s to (Some e) p = p

  pends_grows : (s : State) (goal : Option ℕ) (e : ℕ) (x : Option Object) → IsPrefix base s.printed → Grows (pends s goal e x)
  pends_grows s goal e None p = p
  pends_grows s goal e (Some (object.Exception class args entries fields cause)) p = jumps_grows _ goal p
  pends_grows s goal e (Some other) p = p

  again_grows : (s : State) (goal : Option ℕ) (v : Option Value) → IsPrefix base s.printed → Grows (again s goal v)
  again_grows s goal None p = p
  again_grows s goal (Some value.Unset) p = p
  again_grows s goal (Some value.None) p = p
  again_grows s goal (Some (value.Bool b)) p = p
  again_grows s goal (Some (value.Int z)) p = p
  again_grows s goal (Some (value.Str text)) p = p
  again_grows s goal (Some (value.Obj e)) p = pends_grows s goal e (slice_get s.around.world.heap e) p

  saves_grows : (s : State) (slot : ℕ) (v : Option Value) → IsPrefix base s.printed → Grows (saves s slot v)
  saves_grows s slot None p = p
  saves_grows s slot (Some v) p = if_grows (nat_lt slot (length s.running.slots)) _ _ p p

  switches_grows : (s : State) (cases : List (Option ℕ)) (n : Option ℕ) → IsPrefix base s.printed → Grows (switches s cases n)
  switches_grows s cases None p = p
  switches_grows s cases (Some n) p = jumps_grows s (option_flatten (slice_get cases n)) p

  module _ (rules : Rules) (c : Code) where
    settles_grows : (s : State) (x : Site) (r : Result) → IsPrefix base s.printed → Grows (settles rules c s x r)
    settles_grows s x (Gives v) p = p
    settles_grows s x (Raises e) p = jumps_grows _ x.goal p
    settles_grows s x (Stops kind) p = p
    settles_grows s x Unsaid p = p

    settles_at_grows : (s : State) (x : Option Site) (r : Result) → IsPrefix base s.printed → Grows (settles_at rules c s x r)
    settles_at_grows s None r p = p
    settles_at_grows s (Some x) r p = settles_grows s x r p

    begins_body_grows : (s : State) (number : ℕ) (given cells : List Value) (slots : List (Option Value)) (x : Purpose) (below : List Activation) (b : Option Body) → IsPrefix base s.printed → Grows (begins_body rules c s number given cells slots x below b)
    begins_body_grows s number given cells slots x below None p = p
    begins_body_grows s number given cells slots x below (Some body) p = p

    enters_grows : (s : State) (number : ℕ) (given cells : List Value) (x : Purpose) (below : List Activation) → IsPrefix base s.printed → Grows (enters rules c s number given cells x below)
    enters_grows s number given cells x below p = begins_body_grows s number given cells [] x below (slice_get c.bodies number) p

    generator_grows : (s : State) (g number : ℕ) (given cells : List Value) (b : Option Body) → IsPrefix base s.printed → Grows (begins_generator rules c s g number given cells b)
    generator_grows s g number given cells None p = p
    generator_grows s g number given cells (Some body) p = p

    wakes_grows : (s : State) (g : ℕ) (what : Told) (closing : Bool) (k : Option Kept) → IsPrefix base s.printed → Grows (wakes rules c s g what closing k)
    wakes_grows s g what closing None p = p
    wakes_grows s g what closing (Some k) p =
        begins_body_grows (keeping s g None) k.function k.arguments k.cells k.slots (purpose.Resume g what closing k.number) (s.running ∷ s.below) (slice_get c.bodies k.function) p

    begins_grows : (s : State) (x : Site) (b : Begun) → IsPrefix base s.printed → Grows (begins rules c s x b)
    begins_grows s x (Over text r) p = settles_grows (printing s text) x r (prefix_trans _ _ _ p (prefix_more s.printed text))
    begins_grows s x (Calls number given cells after) p = enters_grows s number given cells _ _ p
    begins_grows s x (Starts g number given cells) p = generator_grows s g number given cells (slice_get c.bodies number) p
    begins_grows s x (Wakes g how closing) p = wakes_grows s g (told_of how) closing (kept_at s.around.kept g) p

    operates_grows : (s : State) (x : Site) (o : Op) (args : Option (List Value)) → IsPrefix base s.printed → Grows (operates rules c s x o args)
    operates_grows s x o None p = p
    operates_grows s x o (Some args) p =
        if_grows (rules.fits o s.around.world args) _ _ (begins_grows _ x (begun_by c.scripts (scene s.around) (rules.apply o s.around.world args)).begun p) p

    back_grows : (s : State) (w : Activation) (below : List Activation) (x : Ending) → IsPrefix base s.printed → Grows (back rules c s w below x)
    back_grows s w below x p = settles_at_grows _ (site_in (placed_at c w)) x.result p

    report_begins_grows : (s : State) (u : Uncaught) (b : Begun) → IsPrefix base s.printed → Grows (report_begins rules c s u b)
    report_begins_grows s u (Over text r) p = prefix_trans _ _ _ p (prefix_more s.printed text)
    report_begins_grows s u (Calls number given cells after) p = enters_grows s number given cells _ _ p
    report_begins_grows s u (Starts g number given cells) p = p
    report_begins_grows s u (Wakes g how closing) p = p

    report_began_grows : (s : State) (u : Uncaught) (b : Began) → IsPrefix base s.printed → Grows (report_began rules c s u b)
    report_began_grows s u b p = report_begins_grows (in_scene s b.scene) u b.begun p

    asks_function_grows : (s : State) (u : Uncaught) (f : ℕ) (o : Option Object) → IsPrefix base s.printed → Grows (asks_function rules c s u f o)
    asks_function_grows s u f (Some (object.Function code defaults keywords cells)) p =
        report_began_grows s u (begun_by c.scripts (scene s.around) (rules.bind s.around.world f (value.Obj u.exception ∷ []) after.Plain)) p
    asks_function_grows s u f other p = p

    asks_report_grows : (s : State) (u : Uncaught) (f : Option Value) → IsPrefix base s.printed → Grows (asks_report rules c s u f)
    asks_report_grows s u None p = p
    asks_report_grows s u (Some value.Unset) p = p
    asks_report_grows s u (Some value.None) p = p
    asks_report_grows s u (Some (value.Bool b)) p = p
    asks_report_grows s u (Some (value.Int z)) p = p
    asks_report_grows s u (Some (value.Str text)) p = p
    asks_report_grows s u (Some (value.Obj f)) p = asks_function_grows s u f (slice_get s.around.world.heap f) p

    leaves_grows : (s : State) (u : Uncaught) → IsPrefix base s.printed → Grows (leaves rules c s u)
    leaves_grows s u p =
        asks_report_grows (record { running = s.running; below = []; around = with_scene s.around (with_frames (scene s.around) 0); uncaught = Some u; printed = s.printed })
        u (report_function s.around.world) p

    module_begins_grows : (s : State) (number : ℕ) → IsPrefix base s.printed → Grows (module_begins rules c s number)
    module_begins_grows s number p = enters_grows (in_scene s (with_frames (scene s.around) 0)) number [] [] purpose.Module [] p

    module_over_grows : (s : State) (number : ℕ) → IsPrefix base s.printed → Grows (module_over rules c s number)
    module_over_grows s zero p = p
    module_over_grows s (suc number) p = module_begins_grows s 0 p

    module_ended_grows : (s : State) (e : End) → IsPrefix base s.printed → Grows (module_ended rules c s e)
    module_ended_grows s (Next v) p = module_over_grows s s.running.function p
    module_ended_grows s (Return v) p = module_over_grows s s.running.function p
    module_ended_grows s (Raised e) p = leaves_grows s (uncaught rules c s e) p
    module_ended_grows s (Stopped kind) p = p
    module_ended_grows s (Leave n) p = p
    module_ended_grows s Undefined p = p

    report_ended_grows : (s : State) (x : After) (e : End) (u : Option Uncaught) → IsPrefix base s.printed → Grows (report_ended rules c s x e u)
    report_ended_grows s x e None p = p
    report_ended_grows s x e (Some u) p = p

    ended_grows : (s : State) (e : End) (x : Purpose) (below : List Activation) → IsPrefix base s.printed → Grows (ended rules c s e x below)
    ended_grows s e purpose.Module below p = module_ended_grows s e p
    ended_grows s e (purpose.Call x) [] p = report_ended_grows s x e s.uncaught p
    ended_grows s e (purpose.Call x) (w ∷ below) p = back_grows s w below (call_ended rules x (outside rules c.scripts (scene s.around) w.function) e) p
    ended_grows s e (purpose.Resume g what closing number) [] p = p
    ended_grows s e (purpose.Resume g what closing number) (w ∷ below) p =
        back_grows s w below (generator_ended (outside rules c.scripts (scene s.around) w.function) g closing e) p

    body_ended_grows : (s : State) (e : End) → IsPrefix base s.printed → Grows (body_ended rules c s e)
    body_ended_grows s e p = ended_grows s e s.running.purpose s.below p

    returns_grows : (s : State) (v : Option Value) → IsPrefix base s.printed → Grows (returns rules c s v)
    returns_grows s None p = p
    returns_grows s (Some v) p = body_ended_grows s (Return v) p

    fails_grows : (s : State) (e : Option ℕ) → IsPrefix base s.printed → Grows (fails rules c s e)
    fails_grows s None p = p
    fails_grows s (Some e) p = body_ended_grows s (Raised e) p

    pauses_grows : (s : State) (number : ℕ) (v : Option Value) (x : Purpose) (below : List Activation) → IsPrefix base s.printed → Grows (pauses rules c s number v x below)
    pauses_grows s number None x below p = p
    pauses_grows s number (Some v) purpose.Module below p = p
    pauses_grows s number (Some v) (purpose.Call x) below p = p
    pauses_grows s number (Some v) (purpose.Resume g what closing old) [] p = p
    pauses_grows s number (Some v) (purpose.Resume g what closing old) (w ∷ below) p =
        back_grows (keeping s g (Some (kept_of rules c s.running number))) w below (generator_paused (outside rules c.scripts (scene s.around) w.function) g closing v) p

    receives_grows : (s : State) (x : Site) (y : Purpose) → IsPrefix base s.printed → Grows (receives rules c s x y)
    receives_grows s x purpose.Module p = p
    receives_grows s x (purpose.Call y) p = p
    receives_grows s x (purpose.Resume g (told.Sent v) closing number) p = p
    receives_grows s x (purpose.Resume g (told.Thrown e) closing number) p = settles_grows s x (Raises e) p

    stored_grows : (s : State) (to : ℕ) (what : Stored) (goal : Option ℕ) → IsPrefix base s.printed → Grows (stored_step rules c s to what goal)
    stored_grows s to (stored.Value a) goal p = stores_grows s to (operand_value s.running.registers a) p
    stored_grows s to stored.Unset goal p = p
    stored_grows s to (stored.Parameter n) goal p = stores_grows s to (slice_get s.running.arguments n) p
    stored_grows s to (stored.Free n) goal p = stores_grows s to (slice_get s.running.cells n) p
    stored_grows s to (stored.Load slot) goal p = stores_grows s to (option_flatten (slice_get s.running.slots slot)) p
    stored_grows s to stored.Caught goal p = takes_grows s to s.running.pending p
    stored_grows s to (stored.Sent at fail) goal p = receives_grows s (record { to = to; line = at; goal = goal }) s.running.purpose p
    stored_grows s to (stored.Operation o at arguments fail) goal p =
        operates_grows s (record { to = to; line = at; goal = goal }) o (values s.running.registers arguments) p

    statement_grows : (s : State) (x : Statement) (goal : Option ℕ) (cases : List (Option ℕ)) → IsPrefix base s.printed → Grows (statement_step rules c s x goal cases)
    statement_grows s (statement.Store to what) goal cases p = stored_grows s to what goal p
    statement_grows s (statement.Goto label) goal cases p = jumps_grows s goal p
    statement_grows s (statement.Branch test label) goal cases p = branches_grows s goal (operand_value s.running.registers test) p
    statement_grows s (statement.Again exception label) goal cases p = again_grows s goal (operand_value s.running.registers exception) p
    statement_grows s (statement.Give a) goal cases p = returns_grows s (used (operand_value s.running.registers a)) p
    statement_grows s statement.End goal cases p = body_ended_grows s (Return value.None) p
    statement_grows s statement.Fail goal cases p = fails_grows s s.running.pending p
    statement_grows s (statement.Switch labels) goal cases p = switches_grows s cases (number_of s.running.purpose) p
    statement_grows s (statement.Save slot a) goal cases p = saves_grows s slot (operand_value s.running.registers a) p
    statement_grows s (statement.Pause number a) goal cases p = pauses_grows s number (used (operand_value s.running.registers a)) s.running.purpose s.below p

    placed_grows : (s : State) (x : Option Placed) → IsPrefix base s.printed → Grows (placed_step rules c s x)
    placed_grows s None p = p
    placed_grows s (Some x) p = statement_grows s x.statement x.goal x.cases p

pub step_grows : (rules : Rules) (c : Code) (s : State) → Grew printed_in (printed_in s) (step rules c s)
step_grows rules c s = placed_grows s.printed rules c s (placed_at c s.running) (prefix_refl s.printed)

stepped_monotone : (rules : Rules) (c : Code) (x : Stepped State) (i n : ℕ) → i ≤ n → Below (on_step x (run (step rules c) printed_in i)) (on_step x (run (step rules c) printed_in n))
stepped_monotone rules c (More s) i n le = longer (step rules c) printed_in (step_grows rules c) i n le s
stepped_monotone rules c (Halt out e) i n le = refl

pub c_monotone : (rules : Rules) (p : program.CProgram) (input : List ℕ) → IsMonotone (c_run rules p input)
c_monotone rules p input i n le = stepped_monotone rules (code_of p) (start rules p input) i n le
