-- States of flat code and of its program that belong together, and steps that lead to such states again.
use Rattle.std.proofs.Common.{◌≡◌, ◌≢◌, ◌⊎◌, inl, inr, ⊎_elim, ℕ, suc, ◌+◌, ◌<◌, ◌≤◌, List, [], ◌∷◌, Bool, true, false, if◌then◌else◌, Option, Some, None, slice_get, slice_set, map, length, option_map, replicate, refl, sym, ap, ◌∙◌, subst, arith}
use Rattle.std.specs.List.{AllByRecursion}
use Rattle.std.specs.Option.{option_and_then}
use Rattle.std.proofs.lemmas.Bool.{cases_lt}
use Rattle.std.proofs.lemmas.List.{length-set, length-replicate}
use Rattle.std.proofs.lemmas.Option.{slice_get-map}
use Rattle.nu_run.specs.declared.End as run_end
use Rattle.nu_run.specs.Runs.{Run, Ended, IsDefinedEnd}
use Rattle.nu_run.specs.Steps.{Stepped, More, Halt, on_step, run}
use Rattle.nu_run.proofs.Runs.{Comes}
use Rattle.nu_value.specs.declared.value.Value.{Value}
use Rattle.nu_value.specs.declared.value.Value.TheVariants as value
use Rattle.op_forms.specs.declared.end.After.{After}
use Rattle.op_forms.specs.declared.op.Op.{Op}
use Rattle.nu_calls.specs.Calls.{of_kind}
use Rattle.nu_calls.specs.Ends.{Result, Gives, Raises, Stops, Unsaid, Ending, inside, at_line}
use Rattle.op_forms.specs.Rules.{Rules}
use Rattle.nu_calls.specs.Surroundings.{Surroundings, Scene, scene}
use Rattle.flow_code.specs.declared.function.FlatFunction.{FlatFunction}
use Rattle.flow_code.specs.declared.function.FlatScript.{FlatScript}
use Rattle.code_forms.specs.declared.operand.Argument.{Argument}
use Rattle.flow_code.specs.declared.statement.Line.{Line}
use Rattle.code_forms.specs.declared.operand.Operand.{Operand}
use Rattle.code_forms.specs.declared.operand.Operand.TheVariants as operand
use Rattle.flow_code.specs.declared.statement.Statement.{Statement}
use Rattle.flow_code.specs.declared.statement.Statement.TheVariants as flat
use Rattle.flow_code.specs.Contents.{yields}
use Rattle.flow_code.specs.Machine as machine
use Rattle.flow_code.specs.Machine.{Frame, Waiting, Bottom, Builtins, Script, Report, Stack, Base, Called, Resumed, Functions}
use Rattle.flow_code.specs.Registers.{writes, operand_reads}
use Rattle.flow_code.specs.Run.{find, first, lines_of, is_there, functions}
use Rattle.c_meaning.specs.declared.program.Line.{Line as CLine}
use Rattle.c_meaning.specs.declared.program.Line.TheVariants as c_line
use Rattle.c_meaning.specs.declared.program.Statement.{Statement as CStatement}
use Rattle.c_meaning.specs.declared.code.Code.{Code}
use Rattle.c_meaning.specs.declared.state.Activation.{Activation}
use Rattle.c_meaning.specs.declared.state.Kept.{Kept}
use Rattle.c_meaning.specs.declared.state.Purpose.{Purpose}
use Rattle.c_meaning.specs.declared.state.Purpose.TheVariants as purpose
use Rattle.c_meaning.specs.declared.state.Told.{Told}
use Rattle.c_meaning.specs.declared.state.Uncaught.{Uncaught}
use Rattle.c_meaning.specs.Code.{goal_in, label_of, cases_of, placed, body_of, code_of}
use Rattle.c_meaning.specs.State.{State, printed_in}
use Rattle.c_meaning.specs.State as here
use Rattle.c_meaning.specs.Step as c
use Rattle.generator_cut.specs.Cut.{Plan, becomes, behind, lines, base_of, body_of_kind, cut_body, function_of, program_of}
use Rattle.generator_cut.specs.Plan.{IsPart, Works}
use Rattle.generator_cut.proofs.Places.{c_first, c_find, from, Stands, first_at, next_at, goal_at, no_goal, placed_is, part_next, part_find, part_whole, written_at, low, unfound, Placed, placed_first, front, first_none, Jumped, jumped, body_find, body_placed}
use Rattle.generator_cut.proofs.Slots.{item, Fine, HasValue, fine_written, value_written, Holds}

-- a script of flat code under some rules, and for each of its functions a plan that saves enough
pub record Setting : Type 1 where
  pub rules : Rules
  pub script : FlatScript
  pub plan : FlatFunction → Plan
  pub Live : FlatFunction → List Line → ℕ → Type 0
  pub Held : FlatFunction → List Line → ℕ → Type 0
  pub works : (k : ℕ) (f : FlatFunction) → slice_get script.functions k ≡ Some f → Works (plan f) (Live f) (Held f) f

module _ (z : Setting) where
  abbrev pub m : Functions (List Line)
  m = functions z.rules z.script

  abbrev pub code : Code
  code = code_of (program_of z.plan z.script)

  abbrev pub body : FlatFunction → List CLine
  body f = cut_body (z.plan f) f

  abbrev pub lines_at : FlatFunction → ℕ → List Line → List CLine
  lines_at f i left = lines (base_of f) (z.plan f).saved i left

  abbrev PlacedIn : FlatFunction → ℕ → List Line → Type 0
  PlacedIn f i left = Placed (body f) (base_of f) (yields f.body) (z.plan f).saved i left

  -- the registers of both, where these lines are left
  pub record Agrees (f : FlatFunction) (left : List Line) (registers : List (Option Value)) (frame : ℕ → Option Value) : Type 0 where
    pub many : length registers ≡ f.registers
    pub live : (r : ℕ) → z.Live f left r → Fine (frame r) (item registers r)
    pub held : (r : ℕ) → z.Held f left r → HasValue (item registers r)

  -- an activation of a function
  pub record Spot : Type 0 where
    pub number : ℕ
    pub function : FlatFunction
    pub given : List Value
    pub cells : List Value
    pub pending : Option ℕ
    pub registers : List (Option Value)
    pub frame : ℕ → Option Value
    pub slots : List (Option Value)
    pub left : List Line
    pub pause : ℕ
    pub is : slice_get z.script.functions number ≡ Some function
    pub part : IsPart function.body left
    pub agrees : Agrees function left registers frame
    pub placed : PlacedIn function pause left
    pub room : function.header.generator ≡ true → length slots ≡ (z.plan function).slots

  abbrev pub frame_of : Spot → Frame
  frame_of a = record { code = a.number; given = a.given; cells = a.cells; registers = a.frame }

  abbrev pub activation_of : Spot → ℕ → Purpose → Activation
  activation_of a n why = record { function = a.number; place = n; registers = a.registers; slots = a.slots; arguments = a.given; cells = a.cells; pending = a.pending; purpose = why }

  abbrev pub StandsAt : Spot → ℕ → Type 0
  StandsAt a n = Stands (body a.function) (lines_at a.function a.pause a.left) n

  -- a paused generator
  pub record Dozing : Type 0 where
    pub spot : Spot
    pub to : ℕ
    pub line : ℕ
    pub value : Operand
    pub fail : ℕ
    pub next : List Line
    pub first : first spot.left ≡ Some (flat.Yield to line value fail, next)
    pub saved : Holds 0 ((z.plan spot.function).saved (flat.Yield to line value fail) next) spot.registers spot.slots
    pub generator : spot.function.header.generator ≡ true

  abbrev pub waiting_at : Spot → ℕ → ℕ → ℕ → List Line → Waiting (List Line)
  waiting_at a to line fail next = record { code = a.number; frame = frame_of a; pending = a.pending; to = to; line = line; fail = fail; next = next }

  -- nothing is pending in a paused generator
  abbrev pub idle : Spot → Spot
  idle a = record {
    number = a.number;
    function = a.function;
    given = a.given;
    cells = a.cells;
    pending = None;
    registers = a.registers;
    frame = a.frame;
    slots = a.slots;
    left = a.left;
    pause = a.pause;
    is = a.is;
    part = a.part;
    agrees = a.agrees;
    placed = a.placed;
    room = a.room;
  }

  abbrev pub flat_keeps : Dozing → Waiting (List Line)
  flat_keeps d = waiting_at (idle d.spot) d.to d.line d.fail d.next

  abbrev pub c_keeps : Dozing → Kept
  c_keeps d = record { function = d.spot.number; arguments = d.spot.given; cells = d.spot.cells; slots = d.spot.slots; number = d.spot.pause + 1 }

  abbrev pub flat_around : List (Option Dozing) → Scene → Surroundings (Waiting (List Line))
  flat_around ks a = record { world = a.world; kept = map (option_map flat_keeps) ks; input = a.input; frames = a.frames }

  abbrev c_around : List (Option Dozing) → Scene → Surroundings Kept
  c_around ks a = record { world = a.world; kept = map (option_map c_keeps) ks; input = a.input; frames = a.frames }

  -- an activation that waits at an operation
  pub record Asleep : Type 0 where
    pub spot : Spot
    pub place : ℕ
    pub to : ℕ
    pub line : ℕ
    pub op : Op
    pub args : List Argument
    pub fail : ℕ
    pub next : List Line
    pub first : first spot.left ≡ Some (flat.Do to line op args fail, next)
    pub stands : StandsAt spot place

  abbrev pub waiting_of : Asleep → Waiting (List Line)
  waiting_of w = waiting_at w.spot w.to w.line w.fail w.next

  -- what the running activation was begun for, and the activations that wait
  pub data Chain : Type 0 where
    Bottommost : (bottom : Bottom) → Chain
    Calling : (waits : Asleep) (after : After) (below : Chain) → Chain
    Resuming : (waits : Asleep) (generator number : ℕ) (closing : Bool) (what : Told) (resumed : ℕ) (below : Chain) → Chain

  abbrev pub stack_of : Chain → Stack (List Line)
  stack_of (Bottommost b) = Base b
  stack_of (Calling w after below) = Called (waiting_of w) after (stack_of below)
  stack_of (Resuming w g number closing what resumed below) = Resumed (waiting_of w) g number closing (stack_of below)

  abbrev bottom_purpose : Bottom → Purpose
  bottom_purpose Builtins = purpose.Module
  bottom_purpose Script = purpose.Module
  bottom_purpose (Report head number after) = purpose.Call after

  abbrev pub purpose_of : Chain → Purpose
  purpose_of (Bottommost b) = bottom_purpose b
  purpose_of (Calling w after below) = purpose.Call after
  purpose_of (Resuming w g number closing what resumed below) = purpose.Resume g what closing resumed

  abbrev pub below_of : Chain → List Activation
  below_of (Bottommost b) = []
  below_of (Calling w after below) = activation_of w.spot w.place (purpose_of below) ∷ below_of below
  below_of (Resuming w g number closing what resumed below) = activation_of w.spot w.place (purpose_of below) ∷ below_of below

  abbrev resumes : Chain → Bool
  resumes (Bottommost b) = false
  resumes (Calling w after below) = false
  resumes (Resuming w g number closing what resumed below) = true

  -- the module of the built-in text isn't function 0, that of the script is; and the report is of the exception that is kept
  abbrev SitsOn : Chain → ℕ → Option Uncaught → Type 0
  SitsOn (Bottommost Builtins) number u = (k : ℕ) × (number ≡ suc k)
  SitsOn (Bottommost Script) number u = number ≡ 0
  SitsOn (Bottommost (Report head caller after)) number u = (e : ℕ) × (u ≡ Some (record { exception = e; function = caller; head = head }))
  SitsOn (Calling w after below) number u = (w.spot.function.header.generator ≡ resumes below) × SitsOn below w.spot.number u
  SitsOn (Resuming w g called closing what resumed below) number u = (w.spot.function.header.generator ≡ resumes below) × SitsOn below w.spot.number u

  -- and generators are resumed, other functions are not
  abbrev pub Sits : Chain → Spot → Option Uncaught → Type 0
  Sits chain a u = (a.function.header.generator ≡ resumes chain) × SitsOn chain a.number u

  abbrev pub flat_state : Spot → Chain → Scene → List (Option Dozing) → List ℕ → machine.State (List Line)
  flat_state a chain world ks out = machine.at a.number a.left (frame_of a) a.pending (stack_of chain) (flat_around ks world) out

  abbrev pub around_state : Activation → List Activation → Scene → List (Option Dozing) → Option Uncaught → List ℕ → State
  around_state running below world ks u out = record { running = running; below = below; around = c_around ks world; uncaught = u; printed = out }

  abbrev pub c_state : Spot → ℕ → Chain → Scene → List (Option Dozing) → Option Uncaught → List ℕ → State
  c_state a n chain world ks u out = around_state (activation_of a n (purpose_of chain)) (below_of chain) world ks u out

  -- states of both that belong together
  pub record Joint : Type 0 where
    pub spot : Spot
    pub place : ℕ
    pub chain : Chain
    pub world : Scene
    pub kept : List (Option Dozing)
    pub uncaught : Option Uncaught
    pub out : List ℕ
    pub stands : StandsAt spot place
    pub sits : Sits chain spot uncaught

  abbrev pub one : Joint → machine.State (List Line)
  one j = flat_state j.spot j.chain j.world j.kept j.out

  abbrev pub other : Joint → State
  other j = c_state j.spot j.place j.chain j.world j.kept j.uncaught j.out

  abbrev pub flat_from : ℕ → machine.State (List Line) → Run
  flat_from n s = run (machine.step m) machine.printed n s

  abbrev pub c_from : ℕ → State → Run
  c_from n s = run (c.step z.rules code) printed_in n s

  -- what a step gives comes to a state, or to an end
  pub record Arrives (y : Stepped State) (u : State) : Type 0 where
    pub by : (k : ℕ) → (j : ℕ) × (k ≤ j) × (on_step y (c_from j) ≡ c_from k u)

  pub record Finishes (y : Stepped State) (out : List ℕ) (e : run_end.End) : Type 0 where
    pub by : (j : ℕ) × (on_step y (c_from j) ≡ Ended out e)

  -- flat code goes to a label that isn't there, or the next states belong together, or both end so
  abbrev pub Match : Stepped (machine.State (List Line)) → Stepped State → Type 0
  Match (More s) y = (first s.place ≡ None) ⊎ ((j : Joint) × (s ≡ one j) × Arrives y (other j))
  Match (Halt out e) y = IsDefinedEnd e → Finishes y out e

  at_once : (s : State) → Arrives (More s) s
  at_once s = record { by = λ k. (k, omega arith, refl) }

  pub halts : (out : List ℕ) (e : run_end.End) → Finishes (Halt out e) out e
  halts out e = record { by = (0, refl) }

  -- states from which the program comes to a step that matches
  pub match_later : (x : Stepped (machine.State (List Line))) (t u : State) → Comes (c.step z.rules code) printed_in t u → Match x (c.step z.rules code u) → Match x (More t)
  match_later (More s) t u p (inl dead) = inl dead
  match_later (More s) t u p (inr h) =
      inr (h.0, h.1, record { by = λ k. let a = h.2.by k in let b = p.by (suc a.0) in (b.0, omega (arith, a.1, b.1), b.2 ∙ a.2) })
  match_later (Halt out e) t u p h = λ d. record { by = let a = (h d).by in let b = p.by (suc a.0) in (b.0, b.2 ∙ a.1) }

  pub go_match : (a : Spot) (n : ℕ) (chain : Chain) (world : Scene) (ks : List (Option Dozing)) (u : Option Uncaught) (out : List ℕ) → StandsAt a n → Sits chain a u → Match (More (flat_state a chain world ks out)) (More (c_state a n chain world ks u out))
  go_match a n chain world ks u out stands sits =
      inr (record { spot = a; place = n; chain = chain; world = world; kept = ks; uncaught = u; out = out; stands = stands; sits = sits }, refl, at_once _)

  -- WHERE AN ACTIVATION GOES ON

  pub kept_agrees : (f : FlatFunction) (left more : List Line) (registers : List (Option Value)) (frame : ℕ → Option Value) → ((r : ℕ) → z.Live f more r → z.Live f left r) → ((r : ℕ) → z.Held f more r → z.Held f left r) → Agrees f left registers frame → Agrees f more registers frame
  kept_agrees f left more registers frame l h a = record { many = a.many; live = λ r q. a.live r (l r q); held = λ r q. a.held r (h r q) }

  pub written_agrees : (f : FlatFunction) (left more : List Line) (registers : List (Option Value)) (frame : ℕ → Option Value) (to : ℕ) (v : Value) → to < f.registers → ((r : ℕ) → r ≢ to → z.Live f more r → z.Live f left r) → ((r : ℕ) → r ≢ to → z.Held f more r → z.Held f left r) → Agrees f left registers frame → Agrees f more (slice_set registers to (Some v)) (machine.put frame to v)
  written_agrees f left more registers frame to v small l h a =
      let s : to < length registers = subst (λ n. to < n) (sym a.many) small in
      record {
        many = length-set registers to (Some v) ∙ a.many;
        live = λ r q. fine_written registers frame to v r s (λ ne. a.live r (l r ne q));
        held = λ r q. value_written registers to v r s (λ ne. a.held r (h r ne q));
      }

  -- the same activation with other registers and at other lines
  abbrev pub moved : (a : Spot) (pending : Option ℕ) (registers : List (Option Value)) (frame : ℕ → Option Value) (left : List Line) (pause : ℕ) → IsPart a.function.body left → Agrees a.function left registers frame → PlacedIn a.function pause left → Spot
  moved a pending registers frame left pause part agrees placed = record {
    number = a.number;
    function = a.function;
    given = a.given;
    cells = a.cells;
    pending = pending;
    registers = registers;
    frame = frame;
    slots = a.slots;
    left = left;
    pause = pause;
    is = a.is;
    part = part;
    agrees = agrees;
    placed = placed;
    room = a.room;
  }

  pub works_at : (a : Spot) → Works (z.plan a.function) (z.Live a.function) (z.Held a.function) a.function
  works_at a = z.works a.number a.function a.is

  pub lines_for : (a : Spot) → lines_of (slice_get z.script.functions a.number) ≡ a.function.body
  lines_for a = ap lines_of a.is

  -- a label that stands in the flat code leads to the same lines; elsewhere nothing follows
  pub jump_to : (a : Spot) (pending : Option ℕ) (registers : List (Option Value)) (frame : ℕ → Option Value) (n : ℕ) (chain : Chain) (world : Scene) (ks : List (Option Dozing)) (u : Option Uncaught) (out : List ℕ) (l : ℕ) (goal : Option ℕ) → goal_in 0 (body a.function) l ≡ goal → Agrees a.function (find l a.function.body) registers frame → Sits chain a u → Match (More (machine.at a.number (find l a.function.body) (record { code = a.number; given = a.given; cells = a.cells; registers = frame }) pending (stack_of chain) (flat_around ks world) out)) (here.jumps (around_state (record { function = a.number; place = n; registers = registers; slots = a.slots; arguments = a.given; cells = a.cells; pending = pending; purpose = purpose_of chain }) (below_of chain) world ks u out) goal)
  jump_to a pending registers frame n chain world ks u out l goal e agrees sits = ⊎_elim (λ lt. inside goal e lt) (λ le. inl (ap first (unfound a.function.labels l a.function.body (low a.function.labels a.function.body (works_at a).numbered) le))) (cases_lt l a.function.labels)
    where
      inside : (goal : Option ℕ) → goal_in 0 (body a.function) l ≡ goal → l < a.function.labels → Match (More (machine.at a.number (find l a.function.body) (record { code = a.number; given = a.given; cells = a.cells; registers = frame }) pending (stack_of chain) (flat_around ks world) out)) (here.jumps (around_state (record { function = a.number; place = n; registers = registers; slots = a.slots; arguments = a.given; cells = a.cells; pending = pending; purpose = purpose_of chain }) (below_of chain) world ks u out) goal)
      inside goal e lt =
          let b = body_placed (z.plan a.function) a.function (works_at a).numbered in
          let j = jumped (body a.function) (base_of a.function) (yields a.function.body) (z.plan a.function).saved 0 a.function.body l (omega (arith, lt)) b in
          let is : c_find l (body a.function) ≡ lines_at a.function j.pause (find l a.function.body) = body_find a.function.header.generator (z.plan a.function) a.function l (λ s. omega (arith, s, lt)) ∙ j.is in
          go goal e j is
        where
          go : (goal : Option ℕ) → goal_in 0 (body a.function) l ≡ goal → (j : Jumped (body a.function) (base_of a.function) (yields a.function.body) (z.plan a.function).saved 0 a.function.body l) → c_find l (body a.function) ≡ lines_at a.function j.pause (find l a.function.body) → Match (More (machine.at a.number (find l a.function.body) (record { code = a.number; given = a.given; cells = a.cells; registers = frame }) pending (stack_of chain) (flat_around ks world) out)) (here.jumps (around_state (record { function = a.number; place = n; registers = registers; slots = a.slots; arguments = a.given; cells = a.cells; pending = pending; purpose = purpose_of chain }) (below_of chain) world ks u out) goal)
          go None e j is =
              inl (first_none (body a.function) (base_of a.function) (yields a.function.body) (z.plan a.function).saved j.pause (find l a.function.body) (ap c_first (sym is ∙ no_goal (body a.function) l e)))
          go (Some k) e j is =
              go_match (moved a pending registers frame (find l a.function.body) j.pause (part_find a.function.body a.function.body l (part_whole a.function.body)) agrees j.placed) k chain world ks u out
              (subst (λ ls. Stands (body a.function) ls k) is (goal_at (body a.function) l k e)) sits

  -- WHAT THE CODE OF A NUMBER IS

  pub body_is : (number : ℕ) → slice_get code.bodies number ≡ option_map body_of (option_map (λ f. function_of (z.plan f) f) (slice_get z.script.functions number))
  body_is number =
      slice_get-map body_of (map (λ f. function_of (z.plan f) f) z.script.functions) number ∙ ap (option_map body_of) (slice_get-map (λ f. function_of (z.plan f) f) z.script.functions number)

  placed_for : (number : ℕ) (f : FlatFunction) → slice_get z.script.functions number ≡ Some f → (n : ℕ) (s : CStatement) (rest : List CLine) → Stands (body f) (c_line.Do s ∷ rest) n → c.placed_in (slice_get code.bodies number) n ≡ Some (placed (body f) s)
  placed_for number f is n s rest stands =
      ap (λ o. c.placed_in o n) (body_is number ∙ ap (λ o. option_map body_of (option_map (λ f. function_of (z.plan f) f) o)) is)
      ∙ placed_is (body f) (body f) n ∙ ap (option_map (λ x. placed (body f) x.0)) (sym (first_at (body f) (c_line.Do s ∷ rest) n stands))

  -- the step at a statement
  pub step_is : (t : State) (f : FlatFunction) → slice_get z.script.functions t.running.function ≡ Some f → (s : CStatement) (rest : List CLine) → Stands (body f) (c_line.Do s ∷ rest) t.running.place → c.step z.rules code t ≡ c.statement_step z.rules code t s (option_and_then (goal_in 0 (body f)) (label_of s)) (map (goal_in 0 (body f)) (cases_of s))
  step_is t f is s rest stands = ap (c.placed_step z.rules code t) (placed_for t.running.function f is t.running.place s rest stands)

  -- WHERE A VALUE COMES

  -- an activation that gets a value in a register, or an exception: its registers, and that both ways out agree
  pub record Landing : Type 0 where
    pub spot : Spot
    pub registers : List (Option Value)
    pub place : ℕ
    pub to : ℕ
    pub line : ℕ
    pub fail : ℕ
    pub next : List Line
    pub pause : ℕ
    pub part : IsPart spot.function.body next
    pub placed : PlacedIn spot.function pause next
    pub stands : Stands (body spot.function) (lines_at spot.function pause next) (place + 1)
    pub given : (v : Value) → Agrees spot.function next (slice_set registers to (Some v)) (machine.put spot.frame to v)
    pub thrown : (v : Value) → Agrees spot.function (find fail spot.function.body) (slice_set registers to (Some v)) (machine.put spot.frame to v)

  abbrev pub landing_activation : Landing → Purpose → Activation
  landing_activation l why = record { function = l.spot.number; place = l.place; registers = l.registers; slots = l.spot.slots; arguments = l.spot.given; cells = l.spot.cells; pending = l.spot.pending; purpose = why }

  abbrev pub site_for : Landing → c.Site
  site_for l = record { to = l.to; line = l.line; goal = goal_in 0 (body l.spot.function) l.fail }

  pub lands : (l : Landing) (below : Chain) (world : Scene) (ks : List (Option Dozing)) (u : Option Uncaught) (out : List ℕ) (r : Result) → Sits below l.spot u → Match (machine.settles m (waiting_at l.spot l.to l.line l.fail l.next) (stack_of below) (flat_around ks world) out r) (c.settles z.rules code (around_state (landing_activation l (purpose_of below)) (below_of below) world ks u out) (site_for l) r)
  lands l below world ks u out (Gives v) sits =
      go_match (moved l.spot l.spot.pending (slice_set l.registers l.to (Some v)) (machine.put l.spot.frame l.to v) l.next l.pause l.part (l.given v) l.placed) (l.place + 1) below world ks u out l.stands sits
  lands l below world ks u out (Raises e) sits =
      subst (λ ls. Match (More (machine.at l.spot.number (find l.fail ls) (machine.write (frame_of l.spot) l.to value.Unset) (Some e) (stack_of below) (flat_around ks (at_line z.script.scripts (scene (flat_around ks world)) l.spot.number l.line e)) out)) (c.raised z.rules code (around_state (landing_activation l (purpose_of below)) (below_of below) world ks u out) (site_for l) e)) (sym (lines_for l.spot))
      (jump_to l.spot (Some e) (slice_set l.registers l.to (Some value.Unset)) (machine.put l.spot.frame l.to value.Unset) l.place below (at_line z.script.scripts (scene (flat_around ks world)) l.spot.number l.line e) ks u out l.fail (goal_in 0 (body l.spot.function) l.fail) refl (l.thrown value.Unset) sits)
  lands l below world ks u out (Stops kind) sits = λ d. halts _ _
  lands l below world ks u out Unsaid sits = λ d. absurd d

  -- an operation's
  pub small_at : (a : Spot) (x : Statement) (more : List Line) → first a.left ≡ Some (x, more) → AllByRecursion (λ r. r < a.function.registers) (writes x)
  small_at a x more e = written_at a.function.registers a.function.body a.left x more e a.part (works_at a).declared

  pub stands_behind : (a : Spot) (n : ℕ) (x : Statement) (more : List Line) → first a.left ≡ Some (x, more) → StandsAt a n → Stands (body a.function) (becomes (base_of a.function) ((z.plan a.function).saved x more) a.pause x (lines_at a.function (behind a.pause x) more)) n
  stands_behind a n x more e s = sym (front (body a.function) (base_of a.function) (yields a.function.body) (z.plan a.function).saved a.pause a.left x more e) ∙ s

  abbrev pub landing_of : Asleep → Landing
  landing_of w =
      let a = w.spot in
      let x = flat.Do w.to w.line w.op w.args w.fail in
      let small = (small_at a x w.next w.first).0 in
      record {
        spot = a;
        registers = a.registers;
        place = w.place;
        to = w.to;
        line = w.line;
        fail = w.fail;
        next = w.next;
        pause = a.pause;
        part = part_next a.function.body a.left x w.next w.first a.part;
        placed = (placed_first (body a.function) (base_of a.function) (yields a.function.body) (z.plan a.function).saved a.pause a.left x w.next w.first a.placed).1;
        stands = next_at (body a.function) w.place _ (lines_at a.function a.pause w.next) (stands_behind a w.place x w.next w.first w.stands);
        given = λ v. written_agrees a.function a.left w.next a.registers a.frame w.to v small (λ r ne q. (works_at a).live.next a.left x w.next a.part w.first tt r (ne, tt) q) (λ r ne q. (works_at a).held.next a.left x w.next a.part w.first tt r (ne, tt) q) a.agrees;
        thrown = λ v. written_agrees a.function a.left (find w.fail a.function.body) a.registers a.frame w.to v small (λ r ne q. ((works_at a).live.jump a.left x w.next a.part w.first r (ne, tt)).0 q) (λ r ne q. ((works_at a).held.jump a.left x w.next a.part w.first r (ne, tt)).0 q) a.agrees;
      }

  site_is : (w : Asleep) (why : Purpose) → c.site_in (c.placed_at code (activation_of w.spot w.place why)) ≡ Some (site_for (landing_of w))
  site_is w why =
      ap c.site_in (placed_for w.spot.number w.spot.function w.spot.is w.place _ (lines_at w.spot.function w.spot.pause w.next) (stands_behind w.spot w.place (flat.Do w.to w.line w.op w.args w.fail) w.next w.first w.stands))

  pub settles_match : (w : Asleep) (below : Chain) (world : Scene) (ks : List (Option Dozing)) (u : Option Uncaught) (out : List ℕ) (r : Result) → Sits below w.spot u → Match (machine.settles m (waiting_of w) (stack_of below) (flat_around ks world) out r) (c.settles z.rules code (c_state w.spot w.place below world ks u out) (site_for (landing_of w)) r)
  settles_match w below world ks u out r sits = lands (landing_of w) below world ks u out r sits

  pub back_match : (running : Activation) (others : List Activation) (w : Asleep) (below : Chain) (world : Scene) (ks : List (Option Dozing)) (u : Option Uncaught) (out : List ℕ) (x : Ending) → Sits below w.spot u → Match (machine.ends m (waiting_of w) (stack_of below) (flat_around ks world) out x) (c.back z.rules code (around_state running others world ks u out) (activation_of w.spot w.place (purpose_of below)) (below_of below) x)
  back_match running others w below world ks u out x sits =
      subst (λ o. Match (machine.ends m (waiting_of w) (stack_of below) (flat_around ks world) out x) (c.settles_at z.rules code (c_state w.spot w.place below x.scene ks u out) o x.result)) (sym (site_is w (purpose_of below)))
      (settles_match w below x.scene ks u out x.result sits)

  -- WHAT BEGINS

  not_both : {b : Bool} → b ≡ true → b ≡ false → ⊥
  not_both e f = let c : true ≡ false = sym e ∙ f in cc

  -- an activation that begins, with these registers and slots
  abbrev pub beginning : (number : ℕ) (f : FlatFunction) → slice_get z.script.functions number ≡ Some f → List Value → List Value → (registers slots : List (Option Value)) → Agrees f f.body registers (λ r. None) → (f.header.generator ≡ true → length slots ≡ (z.plan f).slots) → Spot
  beginning number f is given cells registers slots agrees room = record {
    number = number;
    function = f;
    given = given;
    cells = cells;
    pending = None;
    registers = registers;
    frame = λ r. None;
    slots = slots;
    left = f.body;
    pause = 0;
    is = is;
    part = part_whole f.body;
    agrees = agrees;
    placed = body_placed (z.plan f) f (z.works number f is).numbered;
    room = room;
  }

  blank_agrees : (number : ℕ) (f : FlatFunction) → slice_get z.script.functions number ≡ Some f → f.header.generator ≡ false → Agrees f f.body (replicate f.registers None) (λ r. None)
  blank_agrees number f is e = record { many = length-replicate f.registers None; live = λ r q. tt; held = λ r q. absurd (not_both ((z.works number f is).begins r q).0 e) }

  module _ (running : Activation) (others : List Activation) (given cells : List Value) (world : Scene) (ks : List (Option Dozing)) (u : Option Uncaught) (out : List ℕ) where
    abbrev inside_of : ℕ → Scene
    inside_of number = inside z.rules z.script.scripts (scene (flat_around ks world)) number

    entered_kind : (chain : Chain) (number : ℕ) (f : FlatFunction) → slice_get z.script.functions number ≡ Some f → resumes chain ≡ false → SitsOn chain number u → (b : Bool) → f.header.generator ≡ b → Match (if of_kind false b then More (machine.at number f.body (machine.fresh number given cells) None (stack_of chain) (flat_around ks (inside_of number)) out) else machine.undefined out) (c.begins_body z.rules code (around_state running others world ks u out) number given cells [] (purpose_of chain) (below_of chain) (Some (body_of (function_of (z.plan f) f))))
    entered_kind chain number f is called sits true e = λ d. absurd d
    entered_kind chain number f is called sits false e =
        go_match (beginning number f is given cells (replicate f.registers None) [] (blank_agrees number f is e) (λ t. absurd (not_both t e))) 0 chain (inside_of number) ks u out
        (ap (λ b. from (body_of_kind b (z.plan f) f) 0) (sym e)) (e ∙ sym called, sits)

    entered : (chain : Chain) (number : ℕ) (o : Option FlatFunction) → slice_get z.script.functions number ≡ o → resumes chain ≡ false → SitsOn chain number u → Match (if is_there false o then More (machine.at number (lines_of o) (machine.fresh number given cells) None (stack_of chain) (flat_around ks (inside_of number)) out) else machine.undefined out) (c.begins_body z.rules code (around_state running others world ks u out) number given cells [] (purpose_of chain) (below_of chain) (option_map body_of (option_map (λ f. function_of (z.plan f) f) o)))
    entered chain number None is called sits = λ d. absurd d
    entered chain number (Some f) is called sits = entered_kind chain number f is called sits f.header.generator refl

    pub enters_match : (chain : Chain) (number : ℕ) → resumes chain ≡ false → SitsOn chain number u → Match (machine.enters m false number given cells (stack_of chain) (flat_around ks world) out) (c.enters z.rules code (around_state running others world ks u out) number given cells (purpose_of chain) (below_of chain))
    enters_match chain number called sits =
        subst (λ o. Match (machine.enters m false number given cells (stack_of chain) (flat_around ks world) out) (c.begins_body z.rules code (around_state running others world ks u out) number given cells [] (purpose_of chain) (below_of chain) o)) (sym (body_is number))
        (entered chain number (slice_get z.script.functions number) refl called sits)

  -- WHAT STATEMENTS READ

  pub on_fine : (out : List ℕ) (F : Value → Stepped (machine.State (List Line))) (G : Option Value → Stepped State) → ((v : Value) → Match (F v) (G (Some v))) → (v w : Option Value) → Fine v w → Match (machine.having v (machine.undefined out) F) (G w)
  on_fine out F G h None w fine = λ d. absurd d
  on_fine out F G h (Some v) w fine = subst (λ w. Match (F v) (G w)) (sym fine) (h v)

  pub on_using : (out : List ℕ) (F : Value → Stepped (machine.State (List Line))) (G : Option Value → Stepped State) → ((v : Value) → Match (F v) (G (Some v))) → (v w : Option Value) → Fine v w → Match (machine.using v (machine.undefined out) F) (G w)
  on_using out F G h None w fine = λ d. absurd d
  on_using out F G h (Some value.Unset) w fine = λ d. absurd d
  on_using out F G h (Some value.None) w fine = subst (λ w. Match (F value.None) (G w)) (sym fine) (h value.None)
  on_using out F G h (Some (value.Bool b)) w fine = subst (λ w. Match (F (value.Bool b)) (G w)) (sym fine) (h (value.Bool b))
  on_using out F G h (Some (value.Int i)) w fine = subst (λ w. Match (F (value.Int i)) (G w)) (sym fine) (h (value.Int i))
  on_using out F G h (Some (value.Str text)) w fine = subst (λ w. Match (F (value.Str text)) (G w)) (sym fine) (h (value.Str text))
  on_using out F G h (Some (value.Obj n)) w fine = subst (λ w. Match (F (value.Obj n)) (G w)) (sym fine) (h (value.Obj n))

  pub on_used : (out : List ℕ) (F : Value → Stepped (machine.State (List Line))) (G : Option Value → Stepped State) → ((v : Value) → Match (F v) (G (Some v))) → (v w : Option Value) → Fine v w → Match (machine.using v (machine.undefined out) F) (G (c.used w))
  on_used out F G h None w fine = λ d. absurd d
  on_used out F G h (Some value.Unset) w fine = λ d. absurd d
  on_used out F G h (Some value.None) w fine = subst (λ w. Match (F value.None) (G (c.used w))) (sym fine) (h value.None)
  on_used out F G h (Some (value.Bool b)) w fine = subst (λ w. Match (F (value.Bool b)) (G (c.used w))) (sym fine) (h (value.Bool b))
  on_used out F G h (Some (value.Int i)) w fine = subst (λ w. Match (F (value.Int i)) (G (c.used w))) (sym fine) (h (value.Int i))
  on_used out F G h (Some (value.Str text)) w fine = subst (λ w. Match (F (value.Str text)) (G (c.used w))) (sym fine) (h (value.Str text))
  on_used out F G h (Some (value.Obj n)) w fine = subst (λ w. Match (F (value.Obj n)) (G (c.used w))) (sym fine) (h (value.Obj n))

  pub held_fine : (a : Spot) (o : Operand) → AllByRecursion (z.Live a.function a.left) (operand_reads o) → Fine (machine.operand_value (frame_of a) o) (c.operand_value a.registers o)
  held_fine a (operand.Temp r) all = a.agrees.live r all.0
  held_fine a (operand.Const c) all = refl
