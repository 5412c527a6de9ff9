-- Generators begin, pause and go on as in flat code: what a pause saves, the program loads where it goes on.
use Rattle.std.proofs.Common.{◌≡◌, ◌≢◌, ◌⊎◌, inl, inr, ℕ, zero, suc, ◌+◌, ◌<◌, ◌≤◌, List, [], ◌∷◌, Bool, true, false, nat_lt, if◌then◌else◌, Option, Some, None, slice_get, slice_set, map, length, option_map, replicate, refl, sym, ap, ◌∙◌, subst, arith}
use Rattle.std.specs.List.{AllByRecursion}
use Rattle.std.specs.Option.{option_flatten}
use Rattle.std.proofs.lemmas.Bool.Decides.{nat_tests}
use Rattle.std.proofs.lemmas.List.{length-set, length-replicate}
use Rattle.std.proofs.lemmas.Option.{slice_get-map}
use Rattle.nu_run.specs.Runs.{Run}
use Rattle.nu_run.specs.Steps.{Stepped, More, Halt, on_step}
use Rattle.nu_run.proofs.Runs.{Comes, comes_refl, one_step, goes_comes, goes_some}
use Rattle.nu_value.specs.declared.value.Value.{Value}
use Rattle.nu_value.specs.declared.value.Value.TheVariants as value
use Rattle.nu_rows.specs.Rows.{How, Send, Throw}
use Rattle.nu_calls.specs.Calls.{of_kind}
use Rattle.nu_calls.specs.Ends.{Gives, Raises, generator_paused, inside, outside}
use Rattle.nu_calls.specs.Surroundings.{Scene, scene, kept_at, keep_at}
use Rattle.flow_code.specs.declared.function.FlatFunction.{FlatFunction}
use Rattle.flow_code.specs.declared.statement.Line.{Line}
use Rattle.code_forms.specs.declared.operand.Operand.{Operand}
use Rattle.code_forms.specs.declared.operand.Operand.TheVariants as operand
use Rattle.flow_code.specs.declared.statement.Statement.{Statement}
use Rattle.flow_code.specs.declared.statement.Statement.TheVariants as flat
use Rattle.flow_code.specs.Contents.{yields}
use Rattle.flow_code.specs.Machine as machine
use Rattle.flow_code.specs.Machine.{Frame, Waiting, Bottom, Builtins, Script, Report, Stack, Base, Called, Resumed, Functions}
use Rattle.flow_code.specs.Run.{find, first, lines_of, is_there}
use Rattle.c_meaning.specs.declared.program.Line.{Line as CLine}
use Rattle.c_meaning.specs.declared.program.Line.TheVariants as c_line
use Rattle.c_meaning.specs.declared.program.Statement.TheVariants as statement
use Rattle.c_meaning.specs.declared.program.Stored.TheVariants as stored
use Rattle.c_meaning.specs.declared.state.Activation.{Activation}
use Rattle.c_meaning.specs.declared.state.Purpose.{Purpose}
use Rattle.c_meaning.specs.declared.state.Purpose.TheVariants as purpose
use Rattle.c_meaning.specs.declared.state.Told.{Told}
use Rattle.c_meaning.specs.declared.state.Told.TheVariants as told
use Rattle.c_meaning.specs.declared.state.Uncaught.{Uncaught}
use Rattle.c_meaning.specs.Code.{goal_in, body_of}
use Rattle.c_meaning.specs.State.{State, printed_in}
use Rattle.c_meaning.specs.State as here
use Rattle.c_meaning.specs.Step as c
use Rattle.generator_cut.specs.Cut.{saves, loads, clears, resumption, counted, base_of, body_lines, body_of_kind, slots_of_kind, function_of}
use Rattle.generator_cut.specs.Plan.{Has}
use Rattle.generator_cut.proofs.Places.{c_find, from, Stands, next_at, goal_at, no_goal, loads_some, part_next, placed_first, counted_at, equal_self}
use Rattle.generator_cut.proofs.Slots.{item, Fine, HasValue, item_blank, fine_written, value_written, cleared, Holds, stored_length, loaded_length, cleared_length, stored_holds, loaded_right, cleared_has}
use Rattle.generator_cut.proofs.Slots as copies
use Rattle.generator_cut.proofs.States.{Setting, m, code, body, lines_at, Agrees, Spot, frame_of, activation_of, StandsAt, Dozing, waiting_at, idle, flat_keeps, c_keeps, flat_around, Asleep, waiting_of, Chain, stack_of, purpose_of, below_of, Sits, flat_state, around_state, c_state, c_from, Match, match_later, works_at, body_is, step_is, Landing, landing_activation, site_for, lands, small_at, stands_behind, back_match, beginning, on_used, held_fine, Bottommost, Calling, Resuming}

-- what paused generators keep, on both sides
kept_map : {A B : Type 0} (f : A → B) (ks : List (Option A)) (g : ℕ) → kept_at (map (option_map f) ks) g ≡ option_map f (kept_at ks g)
kept_map f [] g = refl
kept_map f (k ∷ ks) zero = refl
kept_map f (k ∷ ks) (suc g) = kept_map f ks g

keep_map : {A B : Type 0} (f : A → B) (ks : List (Option A)) (g : ℕ) (x : Option A) → keep_at (map (option_map f) ks) g (option_map f x) ≡ map (option_map f) (keep_at ks g x)
keep_map f [] zero x = refl
keep_map f [] (suc g) x = ap (λ ks. None ∷ ks) (keep_map f [] g x)
keep_map f (k ∷ ks) zero x = refl
keep_map f (k ∷ ks) (suc g) x = ap (λ ks. option_map f k ∷ ks) (keep_map f ks g x)

module _ (z : Setting) where
  -- SAVES, LOADS, CLEARS

  -- an activation of a function, with these registers and slots
  module _ (number : ℕ) (f : FlatFunction) (is : slice_get z.script.functions number ≡ Some f) (given cells : List Value) (pending : Option ℕ) (why : Purpose) (below : List Activation) (world : Scene) (ks : List (Option (Dozing z))) (u : Option Uncaught) (out : List ℕ) where
    abbrev with_values : ℕ → List (Option Value) → List (Option Value) → State
    with_values n registers slots =
        around_state z (record { function = number; place = n; registers = registers; slots = slots; arguments = given; cells = cells; pending = pending; purpose = why }) below world ks u out

    abbrev Filled : List (Option Value) → List ℕ → Type 0
    Filled registers rs = AllByRecursion (λ r. HasValue (item registers r)) rs

    lt_true : (a b : ℕ) → a < b → nat_lt a b ≡ true
    lt_true a b h = grind (arith, nat_tests, h)

    save_step : (n k r : ℕ) (registers slots : List (Option Value)) (rest : List CLine) → Stands (body z f) (c_line.Do (statement.Save k (operand.Temp r)) ∷ rest) n → HasValue (item registers r) → k < length slots → c.step z.rules (code z) (with_values n registers slots) ≡ More (with_values (n + 1) registers (slice_set slots k (item registers r)))
    save_step n k r registers slots rest stands h lt =
        step_is z (with_values n registers slots) f is (statement.Save k (operand.Temp r)) rest stands
        ∙ ap (c.saves (with_values n registers slots) k) h.is
        ∙ ap (λ b. if b then More (with_values (n + 1) registers (slice_set slots k (Some h.value))) else here.undefined (with_values n registers slots)) (lt_true k (length slots) lt)
        ∙ ap (λ o. More (with_values (n + 1) registers (slice_set slots k o))) (sym h.is)

    record Ran (from_state : State) (to_state : ℕ → State) (rest : List CLine) : Type 0 where
      place : ℕ
      stands : Stands (body z f) rest place
      comes : Comes (c.step z.rules (code z)) printed_in from_state (to_state place)

    ran_more : (s t : State) (to_state : ℕ → State) (rest : List CLine) → c.step z.rules (code z) s ≡ More t → Ran t to_state rest → Ran s to_state rest
    ran_more s t to_state rest e r =
        record { place = r.place; stands = r.stands; comes = goes_some _ _ _ _ (goes_comes _ _ _ _ _ (one_step _ _ s t e) r.comes) }

    saves_run : (k : ℕ) (rs : List ℕ) (n : ℕ) (registers slots : List (Option Value)) (rest : List CLine) → Stands (body z f) (saves k rs rest) n → Filled registers rs → k + length rs ≤ length slots → Ran (with_values n registers slots) (λ n. with_values n registers (copies.stored k rs registers slots)) rest
    saves_run k [] n registers slots rest stands filled le = record { place = n; stands = stands; comes = comes_refl _ _ _ }
    saves_run k (r ∷ rs) n registers slots rest stands filled le =
        ran_more _ _ _ rest (save_step n k r registers slots (saves (k + 1) rs rest) stands filled.0 (omega (arith, le)))
        (saves_run (k + 1) rs (n + 1) registers (slice_set slots k (item registers r)) rest (next_at (body z f) n _ (saves (k + 1) rs rest) stands) filled.1 (omega (arith, le, length-set slots k (item registers r))))

    -- the slots that are loaded have values
    abbrev Loadable : ℕ → List ℕ → List (Option Value) → Type 0
    Loadable k [] slots = Unit {0}
    Loadable k (r ∷ rs) slots = HasValue (item slots k) × Loadable (k + 1) rs slots

    loadable : (k : ℕ) (rs : List ℕ) (registers slots : List (Option Value)) → Holds k rs registers slots → Filled registers rs → Loadable k rs slots
    loadable k [] registers slots h filled = tt
    loadable k (r ∷ rs) registers slots h filled = (record { value = filled.0.value; is = h.0 ∙ filled.0.is }, loadable (k + 1) rs registers slots h.1 filled.1)

    load_step : (n k r : ℕ) (registers slots : List (Option Value)) (rest : List CLine) → Stands (body z f) (c_line.Do (statement.Store r (stored.Load k)) ∷ rest) n → HasValue (item slots k) → c.step z.rules (code z) (with_values n registers slots) ≡ More (with_values (n + 1) (slice_set registers r (item slots k)) slots)
    load_step n k r registers slots rest stands h =
        step_is z (with_values n registers slots) f is (statement.Store r (stored.Load k)) rest stands
        ∙ ap (c.stores (with_values n registers slots) r) h.is
        ∙ ap (λ o. More (with_values (n + 1) (slice_set registers r o) slots)) (sym h.is)

    loads_run : (k : ℕ) (rs : List ℕ) (n : ℕ) (registers slots : List (Option Value)) (rest : List CLine) → Stands (body z f) (loads k rs rest) n → Loadable k rs slots → Ran (with_values n registers slots) (λ n. with_values n (copies.loaded k rs slots registers) slots) rest
    loads_run k [] n registers slots rest stands full = record { place = n; stands = stands; comes = comes_refl _ _ _ }
    loads_run k (r ∷ rs) n registers slots rest stands full =
        ran_more _ _ _ rest (load_step n k r registers slots (loads (k + 1) rs rest) stands full.0)
        (loads_run (k + 1) rs (n + 1) (slice_set registers r (item slots k)) slots rest (next_at (body z f) n _ (loads (k + 1) rs rest) stands) full.1)

    clears_run : (rs : List ℕ) (n : ℕ) (registers slots : List (Option Value)) (rest : List CLine) → Stands (body z f) (clears rs rest) n → Ran (with_values n registers slots) (λ n. with_values n (cleared rs registers) slots) rest
    clears_run [] n registers slots rest stands = record { place = n; stands = stands; comes = comes_refl _ _ _ }
    clears_run (r ∷ rs) n registers slots rest stands =
        ran_more _ _ _ rest (step_is z (with_values n registers slots) f is (statement.Store r stored.Unset) (clears rs rest) stands)
        (clears_run rs (n + 1) (slice_set registers r (Some value.Unset)) slots rest (next_at (body z f) n _ (clears rs rest) stands))

    -- the switch of a generator, where it goes to such a label
    switch_step : (registers slots : List (Option Value)) → f.header.generator ≡ true → (k : ℕ) → c.number_of why ≡ Some k → (goal : Option ℕ) → option_flatten (slice_get (map (goal_in 0 (body z f)) (f.labels ∷ counted (yields f.body) (base_of f))) k) ≡ goal → (n : ℕ) → goal ≡ Some n → c.step z.rules (code z) (with_values 0 registers slots) ≡ More (with_values n registers slots)
    switch_step registers slots generator k number goal at n e =
        step_is z (with_values 0 registers slots) f is (statement.Switch (f.labels ∷ counted (yields f.body) (base_of f))) (c_line.Label f.labels ∷ clears (z.plan f).cleared (body_lines (z.plan f) f)) (ap (λ b. from (body_of_kind b (z.plan f) f) 0) (sym generator))
        ∙ ap (c.switches (with_values 0 registers slots) (map (goal_in 0 (body z f)) (f.labels ∷ counted (yields f.body) (base_of f)))) number
        ∙ ap (here.jumps (with_values 0 registers slots)) (at ∙ e)

  -- A GENERATOR BEGINS

  go_later : (a : Spot z) (n : ℕ) (chain : Chain z) (world : Scene) (ks : List (Option (Dozing z))) (u : Option Uncaught) (out : List ℕ) (t : State) → StandsAt z a n → Sits z chain a u → Comes (c.step z.rules (code z)) printed_in t (c_state z a n chain world ks u out) → Match z (More (flat_state z a chain world ks out)) (More t)
  go_later a n chain world ks u out t stands sits p =
      inr (record { spot = a; place = n; chain = chain; world = world; kept = ks; uncaught = u; out = out; stands = stands; sits = sits }, refl, record { by = p.by })

  cleared_agrees : (number : ℕ) (f : FlatFunction) → slice_get z.script.functions number ≡ Some f → Agrees z f f.body (cleared (z.plan f).cleared (replicate f.registers None)) (λ r. None)
  cleared_agrees number f is =
      let w = z.works number f is in
      let n = length-replicate f.registers None in
      record {
        many = cleared_length (z.plan f).cleared (replicate f.registers None) ∙ n;
        live = λ r q. tt;
        held = λ r q. cleared_has (z.plan f).cleared (replicate f.registers None) r (subst (λ k. AllByRecursion (λ x. x < k) (z.plan f).cleared) (sym n) w.cleared) (inl (w.begins r q).1);
      }

  -- a generator begins: the switch goes to the label of its beginning, and registers are cleared
  start_goal : (f : FlatFunction) → f.header.generator ≡ true → goal_in 0 (body z f) f.labels ≡ Some 1
  start_goal f e =
      ap (λ b. goal_in 0 (body_of_kind b (z.plan f) f) f.labels) e ∙ ap (λ b. if b then Some 1 else goal_in 1 (clears (z.plan f).cleared (body_lines (z.plan f) f)) f.labels) (equal_self f.labels)

  begun_kind : (w : Asleep z) (below : Chain z) (g number : ℕ) (f : FlatFunction) → slice_get z.script.functions number ≡ Some f → (given cells : List Value) (world : Scene) (ks : List (Option (Dozing z))) (u : Option Uncaught) (out : List ℕ) → Sits z below w.spot u → (b : Bool) → f.header.generator ≡ b → Match z (if of_kind true b then More (machine.at number f.body (machine.fresh number given cells) None (stack_of z (Resuming w g number false (told.Sent value.None) 0 below)) (flat_around z ks (inside z.rules z.script.scripts (scene (flat_around z ks world)) number)) out) else machine.undefined out) (c.begins_generator z.rules (code z) (c_state z w.spot w.place below world ks u out) g number given cells (Some (body_of (function_of (z.plan f) f))))
  begun_kind w below g number f is given cells world ks u out sits false e = λ d. absurd d
  begun_kind w below g number f is given cells world ks u out sits true e =
      let chain = Resuming w g number false (told.Sent value.None) 0 below in
      let inner = inside z.rules z.script.scripts (scene (flat_around z ks world)) number in
      let blank = replicate f.registers None in
      let many = slots_of_kind f.header.generator (z.plan f) in
      let slots = replicate many None in
      let clear = clears_run number f is given cells None (purpose_of z chain) (below_of z chain) inner ks u out (z.plan f).cleared 1 blank slots (body_lines (z.plan f) f) (ap (λ b. from (body_of_kind b (z.plan f) f) 1) (sym e)) in
      let switch = switch_step number f is given cells None (purpose_of z chain) (below_of z chain) inner ks u out blank slots e 0 refl (goal_in 0 (body z f) f.labels) refl 1 (start_goal f e) in
      go_later (beginning z number f is given cells (cleared (z.plan f).cleared blank) slots (cleared_agrees number f is) (λ t. length-replicate many None ∙ ap (λ b. slots_of_kind b (z.plan f)) e)) clear.place chain inner ks u out _ clear.stands (e, sits)
      (goes_some _ _ _ _ (goes_comes _ _ _ _ _ (one_step _ _ _ _ switch) clear.comes))

  pub begun_match : (o : Option FlatFunction) (w : Asleep z) (below : Chain z) (g number : ℕ) → slice_get z.script.functions number ≡ o → (given cells : List Value) (world : Scene) (ks : List (Option (Dozing z))) (u : Option Uncaught) (out : List ℕ) → Sits z below w.spot u → Match z (if is_there true o then More (machine.at number (lines_of o) (machine.fresh number given cells) None (stack_of z (Resuming w g number false (told.Sent value.None) 0 below)) (flat_around z ks (inside z.rules z.script.scripts (scene (flat_around z ks world)) number)) out) else machine.undefined out) (c.begins_generator z.rules (code z) (c_state z w.spot w.place below world ks u out) g number given cells (option_map body_of (option_map (λ f. function_of (z.plan f) f) o)))
  begun_match None w below g number is given cells world ks u out sits = λ d. absurd d
  begun_match (Some f) w below g number is given cells world ks u out sits = begun_kind w below g number f is given cells world ks u out sits f.header.generator refl

  -- A PAUSED GENERATOR GOES ON

  abbrev yield_of : Dozing z → Statement
  yield_of d = flat.Yield d.to d.line d.value d.fail

  abbrev saved_of : Dozing z → List ℕ
  saved_of d = (z.plan d.spot.function).saved (yield_of d) d.next

  saved_fit : (d : Dozing z) → AllByRecursion (λ r. (r < d.spot.function.registers) × z.Held d.spot.function d.spot.left r) (saved_of d)
  saved_fit d = (works_at z d.spot).saved d.generator d.spot.left (yield_of d) d.next d.spot.part d.first

  all_filled : (f : FlatFunction) (left : List Line) (registers : List (Option Value)) (frame : ℕ → Option Value) → Agrees z f left registers frame → (rs : List ℕ) → AllByRecursion (λ r. (r < f.registers) × z.Held f left r) rs → AllByRecursion (λ r. HasValue (item registers r)) rs
  all_filled f left registers frame a [] all = tt
  all_filled f left registers frame a (r ∷ rs) all = (a.held r all.0.1, all_filled f left registers frame a rs all.1)

  all_small : (n : ℕ) (f : FlatFunction) (left : List Line) → n ≡ f.registers → (rs : List ℕ) → AllByRecursion (λ r. (r < f.registers) × z.Held f left r) rs → AllByRecursion (λ r. r < n) rs
  all_small n f left e [] all = tt
  all_small n f left e (r ∷ rs) all = (subst (λ k. r < k) (sym e) all.0.0, all_small n f left e rs all.1)

  -- the registers behind the loads
  abbrev reloaded : Dozing z → List (Option Value)
  reloaded d = copies.loaded 0 (saved_of d) d.spot.slots (replicate d.spot.function.registers None)

  reloaded_is : (d : Dozing z) (r : ℕ) → Has r (saved_of d) → item (reloaded d) r ≡ item d.spot.registers r
  reloaded_is d r has =
      loaded_right 0 (saved_of d) d.spot.registers d.spot.slots (replicate d.spot.function.registers None) r d.saved
      (all_small _ d.spot.function d.spot.left (length-replicate d.spot.function.registers None) (saved_of d) (saved_fit d)) (inl has)

  reloaded_agrees : (d : Dozing z) (more : List Line) (v : Value) → ((r : ℕ) → r ≢ d.to → z.Live d.spot.function more r ⊎ z.Held d.spot.function more r → Has r (saved_of d)) → ((r : ℕ) → r ≢ d.to → z.Live d.spot.function more r → z.Live d.spot.function d.spot.left r) → ((r : ℕ) → r ≢ d.to → z.Held d.spot.function more r → z.Held d.spot.function d.spot.left r) → Agrees z d.spot.function more (slice_set (reloaded d) d.to (Some v)) (machine.put d.spot.frame d.to v)
  reloaded_agrees d more v has live held =
      let many : length (reloaded d) ≡ d.spot.function.registers = loaded_length 0 (saved_of d) d.spot.slots (replicate d.spot.function.registers None) ∙ length-replicate d.spot.function.registers None in
      let small : d.to < length (reloaded d) = subst (λ n. d.to < n) (sym many) (small_at z d.spot (yield_of d) d.next d.first).0 in
      record {
        many = length-set (reloaded d) d.to (Some v) ∙ many;
        live = λ r q. fine_written (reloaded d) d.spot.frame d.to v r small (λ ne. subst (Fine (d.spot.frame r)) (sym (reloaded_is d r (has r ne (inl q)))) (d.spot.agrees.live r (live r ne q)));
        held = λ r q. value_written (reloaded d) d.to v r small (λ ne. subst HasValue (sym (reloaded_is d r (has r ne (inr q)))) (d.spot.agrees.held r (held r ne q)));
      }

  -- what a pause's label leads to
  resume_goal : (d : Dozing z) (goal : Option ℕ) → goal_in 0 (body z d.spot.function) (base_of d.spot.function + d.spot.pause) ≡ goal → (n : ℕ) × (goal ≡ Some n) × Stands (body z d.spot.function) (resumption (saved_of d) d.to d.line d.fail (lines_at z d.spot.function (d.spot.pause + 1) d.next)) n
  resume_goal d goal e =
      let p = (placed_first (body z d.spot.function) (base_of d.spot.function) (yields d.spot.function.body) (z.plan d.spot.function).saved d.spot.pause d.spot.left (yield_of d) d.next d.first d.spot.placed).0.0 in
      go goal e p
    where
      go : (goal : Option ℕ) → goal_in 0 (body z d.spot.function) (base_of d.spot.function + d.spot.pause) ≡ goal → c_find (base_of d.spot.function + d.spot.pause) (body z d.spot.function) ≡ resumption (saved_of d) d.to d.line d.fail (lines_at z d.spot.function (d.spot.pause + 1) d.next) → (n : ℕ) × (goal ≡ Some n) × Stands (body z d.spot.function) (resumption (saved_of d) d.to d.line d.fail (lines_at z d.spot.function (d.spot.pause + 1) d.next)) n
      go None e p = absurd (loads_some 0 (saved_of d) _ _ (sym p ∙ no_goal (body z d.spot.function) (base_of d.spot.function + d.spot.pause) e))
      go (Some n) e p = (n, refl, subst (λ ls. Stands (body z d.spot.function) ls n) p (goal_at (body z d.spot.function) (base_of d.spot.function + d.spot.pause) n e))

  resume_case : (d : Dozing z) → option_flatten (slice_get (map (goal_in 0 (body z d.spot.function)) (d.spot.function.labels ∷ counted (yields d.spot.function.body) (base_of d.spot.function))) (d.spot.pause + 1)) ≡ goal_in 0 (body z d.spot.function) (base_of d.spot.function + d.spot.pause)
  resume_case d =
      let f = d.spot.function in
      let e : d.spot.pause + 1 ≡ suc d.spot.pause = omega arith in
      let few = (placed_first (body z f) (base_of f) (yields f.body) (z.plan f).saved d.spot.pause d.spot.left (yield_of d) d.next d.first d.spot.placed).0.1 in
      ap (λ k. option_flatten (slice_get (map (goal_in 0 (body z f)) (f.labels ∷ counted (yields f.body) (base_of f))) k)) e
      ∙ ap option_flatten (slice_get-map (goal_in 0 (body z f)) (counted (yields f.body) (base_of f)) d.spot.pause)
      ∙ ap (λ o. option_flatten (option_map (goal_in 0 (body z f)) o)) (counted_at (yields f.body) (base_of f) d.spot.pause few)

  abbrev resumed_landing : (d : Dozing z) (n : ℕ) → Stands (body z d.spot.function) (c_line.Do (statement.Store d.to (stored.Sent d.line d.fail)) ∷ lines_at z d.spot.function (d.spot.pause + 1) d.next) n → Landing z
  resumed_landing d n stands =
      let a = d.spot in
      let x = yield_of d in
      record {
        spot = idle z a;
        registers = reloaded d;
        place = n;
        to = d.to;
        line = d.line;
        fail = d.fail;
        next = d.next;
        pause = a.pause + 1;
        part = part_next a.function.body a.left x d.next d.first a.part;
        placed = (placed_first (body z a.function) (base_of a.function) (yields a.function.body) (z.plan a.function).saved a.pause a.left x d.next d.first a.placed).1;
        stands = next_at (body z a.function) n _ (lines_at z a.function (a.pause + 1) d.next) stands;
        given = λ v. reloaded_agrees d d.next v (λ r ne q. (works_at z a).next d.generator a.left d.to d.line d.value d.fail d.next a.part d.first r ne q) (λ r ne q. (works_at z a).live.next a.left x d.next a.part d.first tt r (ne, tt) q) (λ r ne q. (works_at z a).held.next a.left x d.next a.part d.first tt r (ne, tt) q);
        thrown = λ v. reloaded_agrees d (find d.fail a.function.body) v (λ r ne q. (works_at z a).thrown d.generator a.left d.to d.line d.value d.fail d.next a.part d.first r ne q) (λ r ne q. ((works_at z a).live.jump a.left x d.next a.part d.first r (ne, tt)).0 q) (λ r ne q. ((works_at z a).held.jump a.left x d.next a.part d.first r (ne, tt)).0 q);
      }

  -- what was sent comes
  sent_match : (l : Landing z) (w : Asleep z) (g number : ℕ) (how : How) (closing : Bool) (resumed : ℕ) (below : Chain z) (world : Scene) (ks : List (Option (Dozing z))) (u : Option Uncaught) (out : List ℕ) → l.spot.function.header.generator ≡ true → Sits z below w.spot u → Match z (machine.settles (m z) (waiting_at z l.spot l.to l.line l.fail l.next) (stack_of z (Resuming w g number closing (c.told_of how) resumed below)) (flat_around z ks world) out (machine.told (m z) how)) (c.receives z.rules (code z) (around_state z (landing_activation z l (purpose.Resume g (c.told_of how) closing resumed)) (activation_of z w.spot w.place (purpose_of z below) ∷ below_of z below) world ks u out) (site_for z l) (purpose.Resume g (c.told_of how) closing resumed))
  sent_match l w g number (Send v) closing resumed below world ks u out generator sits =
      lands z l (Resuming w g number closing (told.Sent v) resumed below) world ks u out (Gives v) (generator, sits)
  sent_match l w g number (Throw e) closing resumed below world ks u out generator sits =
      lands z l (Resuming w g number closing (told.Thrown e) resumed below) world ks u out (Raises e) (generator, sits)

  wake_match : (d : Dozing z) (w : Asleep z) (g : ℕ) (how : How) (closing : Bool) (below : Chain z) (world : Scene) (ks : List (Option (Dozing z))) (u : Option Uncaught) (out : List ℕ) → Sits z below w.spot u → Match z (machine.settles (m z) (flat_keeps z d) (stack_of z (Resuming w g d.spot.number closing (c.told_of how) (d.spot.pause + 1) below)) (flat_around z ks world) out (machine.told (m z) how)) (More (around_state z (record { function = d.spot.number; place = 0; registers = replicate d.spot.function.registers None; slots = d.spot.slots; arguments = d.spot.given; cells = d.spot.cells; pending = None; purpose = purpose.Resume g (c.told_of how) closing (d.spot.pause + 1) }) (activation_of z w.spot w.place (purpose_of z below) ∷ below_of z below) world ks u out))
  wake_match d w g how closing below world ks u out sits =
      let f = d.spot.function in
      let chain = Resuming w g d.spot.number closing (c.told_of how) (d.spot.pause + 1) below in
      let goal = resume_goal d (goal_in 0 (body z f) (base_of f + d.spot.pause)) refl in
      let blank = replicate f.registers None in
      let switch = switch_step d.spot.number f d.spot.is d.spot.given d.spot.cells None (purpose_of z chain) (below_of z chain) world ks u out blank d.spot.slots d.generator (d.spot.pause + 1) refl (goal_in 0 (body z f) (base_of f + d.spot.pause)) (resume_case d) goal.0 goal.1 in
      let load = loads_run d.spot.number f d.spot.is d.spot.given d.spot.cells None (purpose_of z chain) (below_of z chain) world ks u out 0 (saved_of d) goal.0 blank d.spot.slots _ goal.2 (loadable d.spot.number f d.spot.is d.spot.given d.spot.cells None (purpose_of z chain) (below_of z chain) world ks u out 0 (saved_of d) d.spot.registers d.spot.slots d.saved (all_filled f d.spot.left d.spot.registers d.spot.frame d.spot.agrees (saved_of d) (saved_fit d))) in
      let t : State = around_state z (landing_activation z (resumed_landing d load.place load.stands) (purpose_of z chain)) (below_of z chain) world ks u out in
      match_later z _ _ t (goes_some _ _ _ _ (goes_comes _ _ _ _ _ (one_step _ _ _ _ switch) load.comes))
      (subst (Match z (machine.settles (m z) (flat_keeps z d) (stack_of z chain) (flat_around z ks world) out (machine.told (m z) how))) (sym (step_is z t f d.spot.is _ _ load.stands))
      (sent_match (resumed_landing d load.place load.stands) w g d.spot.number how closing (d.spot.pause + 1) below world ks u out d.generator sits))

  goes_on_match : (w : Asleep z) (below : Chain z) (g : ℕ) (how : How) (closing : Bool) (world : Scene) (ks : List (Option (Dozing z))) (u : Option Uncaught) (out : List ℕ) (o : Option (Dozing z)) → Sits z below w.spot u → Match z (machine.goes_on (m z) (waiting_of z w) g how closing (stack_of z below) (flat_around z ks world) out (option_map (flat_keeps z) o)) (c.wakes z.rules (code z) (c_state z w.spot w.place below world ks u out) g (c.told_of how) closing (option_map (c_keeps z) o))
  goes_on_match w below g how closing world ks u out None sits = λ d. absurd d
  goes_on_match w below g how closing world ks u out (Some d) sits =
      let number = d.spot.number in
      let f = d.spot.function in
      let inner = inside z.rules z.script.scripts (scene (flat_around z ks world)) number in
      let why = purpose.Resume g (c.told_of how) closing (d.spot.pause + 1) in
      let others = activation_of z w.spot w.place (purpose_of z below) ∷ below_of z below in
      let run : Activation = record { function = number; place = 0; registers = replicate f.registers None; slots = d.spot.slots; arguments = d.spot.given; cells = d.spot.cells; pending = None; purpose = why } in
      let before = c_state z w.spot w.place below world ks u out in
      subst (λ fk. Match z (machine.settles (m z) (flat_keeps z d) (stack_of z (Resuming w g number closing (c.told_of how) (d.spot.pause + 1) below)) (record { world = inner.world; kept = fk; input = inner.input; frames = inner.frames }) out (machine.told (m z) how)) (c.wakes z.rules (code z) before g (c.told_of how) closing (Some (c_keeps z d)))) (sym (keep_map (flat_keeps z) ks g None))
      (subst (λ o. Match z (machine.settles (m z) (flat_keeps z d) (stack_of z (Resuming w g number closing (c.told_of how) (d.spot.pause + 1) below)) (flat_around z (keep_at ks g None) inner) out (machine.told (m z) how)) (c.begins_body z.rules (code z) (here.keeping before g None) number d.spot.given d.spot.cells d.spot.slots why others o)) (sym (body_is z number ∙ ap (λ o. option_map body_of (option_map (λ f. function_of (z.plan f) f) o)) d.spot.is))
      (subst (λ ck. Match z (machine.settles (m z) (flat_keeps z d) (stack_of z (Resuming w g number closing (c.told_of how) (d.spot.pause + 1) below)) (flat_around z (keep_at ks g None) inner) out (machine.told (m z) how)) (More (record { running = run; below = others; around = record { world = inner.world; kept = ck; input = inner.input; frames = inner.frames }; uncaught = u; printed = out }))) (sym (keep_map (c_keeps z) ks g None))
      (wake_match d w g how closing below inner (keep_at ks g None) u out sits)))

  pub wakes_match : (w : Asleep z) (below : Chain z) (g : ℕ) (how : How) (closing : Bool) (world : Scene) (ks : List (Option (Dozing z))) (u : Option Uncaught) (out : List ℕ) → Sits z below w.spot u → Match z (machine.goes_on (m z) (waiting_of z w) g how closing (stack_of z below) (flat_around z ks world) out (kept_at (map (option_map (flat_keeps z)) ks) g)) (c.wakes z.rules (code z) (c_state z w.spot w.place below world ks u out) g (c.told_of how) closing (kept_at (map (option_map (c_keeps z)) ks) g))
  wakes_match w below g how closing world ks u out sits =
      subst (λ o. Match z (machine.goes_on (m z) (waiting_of z w) g how closing (stack_of z below) (flat_around z ks world) out o) (c.wakes z.rules (code z) (c_state z w.spot w.place below world ks u out) g (c.told_of how) closing (kept_at (map (option_map (c_keeps z)) ks) g))) (sym (kept_map (flat_keeps z) ks g))
      (subst (λ o. Match z (machine.goes_on (m z) (waiting_of z w) g how closing (stack_of z below) (flat_around z ks world) out (option_map (flat_keeps z) (kept_at ks g))) (c.wakes z.rules (code z) (c_state z w.spot w.place below world ks u out) g (c.told_of how) closing o)) (sym (kept_map (c_keeps z) ks g))
      (goes_on_match w below g how closing world ks u out (kept_at ks g) sits))

  -- A GENERATOR PAUSES

  down : (t : State) (n k : ℕ) (r : Run) → suc k ≤ n → c_from z n t ≡ r → (j : ℕ) × (k ≤ j) × (on_step (c.step z.rules (code z) t) (c_from z j) ≡ r)
  down t zero k r le e = absurd (omega (arith, le))
  down t (suc n) k r le e = (n, omega (arith, le), e)

  match_before : (x : Stepped (machine.State (List Line))) (t u : State) → Comes (c.step z.rules (code z)) printed_in t u → Match z x (c.step z.rules (code z) u) → Match z x (c.step z.rules (code z) t)
  match_before (More s) t u p (inl dead) = inl dead
  match_before (More s) t u p (inr h) =
      inr (h.0, h.1, record { by = λ k. let a = h.2.by k in let b = p.by (suc a.0) in let d = down t b.0 a.0 _ b.1 b.2 in (d.0, omega (arith, a.1, d.1), d.2 ∙ a.2) })
  match_before (Halt out e) t u p h = λ d. record { by = let a = (h d).by in let b = p.by (suc a.0) in let x = down t b.0 a.0 _ b.1 b.2 in (x.0, x.2 ∙ a.1) }

  abbrev stocked : (a : Spot z) → List ℕ → Spot z
  stocked a rs = record {
    number = a.number;
    function = a.function;
    given = a.given;
    cells = a.cells;
    pending = a.pending;
    registers = a.registers;
    frame = a.frame;
    slots = copies.stored 0 rs a.registers a.slots;
    left = a.left;
    pause = a.pause;
    is = a.is;
    part = a.part;
    agrees = a.agrees;
    placed = a.placed;
    room = λ t. stored_length 0 rs a.registers a.slots ∙ a.room t;
  }

  paused_match : (d : Dozing z) (n : ℕ) (w : Asleep z) (g number : ℕ) (closing : Bool) (what : Told) (resumed : ℕ) (below : Chain z) (world : Scene) (ks : List (Option (Dozing z))) (u : Option Uncaught) (out : List ℕ) (v : Value) → Sits z below w.spot u → Match z (machine.paused (m z) (flat_keeps z d) v (stack_of z (Resuming w g number closing what resumed below)) (flat_around z ks world) out) (c.pauses z.rules (code z) (c_state z d.spot n (Resuming w g number closing what resumed below) world ks u out) (d.spot.pause + 1) (Some v) (purpose.Resume g what closing resumed) (below_of z (Resuming w g number closing what resumed below)))
  paused_match d n w g number closing what resumed below world ks u out v sits =
      let chain = Resuming w g number closing what resumed below in
      let x = generator_paused (outside z.rules z.script.scripts (scene (flat_around z ks world)) w.spot.number) g closing v in
      let run = activation_of z d.spot n (purpose_of z chain) in
      let waits = activation_of z w.spot w.place (purpose_of z below) in
      subst (λ fk. Match z (machine.ends (m z) (waiting_of z w) (stack_of z below) (record { world = world.world; kept = fk; input = world.input; frames = world.frames }) out x) (c.pauses z.rules (code z) (c_state z d.spot n chain world ks u out) (d.spot.pause + 1) (Some v) (purpose_of z chain) (below_of z chain))) (sym (keep_map (flat_keeps z) ks g (Some d)))
      (subst (λ ck. Match z (machine.ends (m z) (waiting_of z w) (stack_of z below) (flat_around z (keep_at ks g (Some d)) world) out x) (c.back z.rules (code z) (record { running = run; below = below_of z chain; around = record { world = world.world; kept = ck; input = world.input; frames = world.frames }; uncaught = u; printed = out }) waits (below_of z below) x)) (sym (keep_map (c_keeps z) ks g (Some d)))
      (back_match z run (below_of z chain) w below world (keep_at ks g (Some d)) u out x sits))

  nothing_said : (out : List ℕ) (v : Option Value) (y : Stepped State) → Match z (machine.using v (machine.undefined out) (λ w. machine.undefined out)) y
  nothing_said out None y = λ d. absurd d
  nothing_said out (Some value.Unset) y = λ d. absurd d
  nothing_said out (Some value.None) y = λ d. absurd d
  nothing_said out (Some (value.Bool b)) y = λ d. absurd d
  nothing_said out (Some (value.Int i)) y = λ d. absurd d
  nothing_said out (Some (value.Str text)) y = λ d. absurd d
  nothing_said out (Some (value.Obj n)) y = λ d. absurd d

  pub yields_match : (a : Spot z) (n : ℕ) (chain : Chain z) (world : Scene) (ks : List (Option (Dozing z))) (u : Option Uncaught) (out : List ℕ) (to at : ℕ) (v : Operand) (fail : ℕ) (next : List Line) → first a.left ≡ Some (flat.Yield to at v fail, next) → StandsAt z a n → Sits z chain a u → Match z (machine.using (machine.operand_value (frame_of z a) v) (machine.undefined out) (λ w. machine.paused (m z) (waiting_at z (idle z a) to at fail next) w (stack_of z chain) (flat_around z ks world) out)) (c.step z.rules (code z) (c_state z a n chain world ks u out))
  yields_match a n (Bottommost b) world ks u out to at v fail next e stands sits = nothing_said out _ _
  yields_match a n (Calling w after below) world ks u out to at v fail next e stands sits = nothing_said out _ _
  yields_match a n (Resuming w g number closing what resumed below) world ks u out to at v fail next e stands sits =
      let f = a.function in
      let x = flat.Yield to at v fail in
      let chain = Resuming w g number closing what resumed below in
      let rs = (z.plan f).saved x next in
      let fits = (works_at z a).saved sits.0 a.left x next a.part e in
      let room : 0 + length rs ≤ length a.slots = omega (arith, a.room sits.0, (works_at z a).room x next) in
      let run = saves_run a.number f a.is a.given a.cells a.pending (purpose_of z chain) (below_of z chain) world ks u out 0 rs n a.registers a.slots _ (stands_behind z a n x next e stands) (all_filled f a.left a.registers a.frame a.agrees rs fits) room in
      let d : Dozing z = record { spot = stocked a rs; to = to; line = at; value = v; fail = fail; next = next; first = e; saved = stored_holds 0 rs a.registers a.slots room; generator = sits.0 } in
      let t = c_state z (stocked a rs) run.place chain world ks u out in
      match_before _ _ t run.comes
      (subst (Match z (machine.using (machine.operand_value (frame_of z a) v) (machine.undefined out) (λ w. machine.paused (m z) (flat_keeps z d) w (stack_of z chain) (flat_around z ks world) out))) (sym (step_is z t f a.is _ _ run.stands))
      (on_used z out (λ w. machine.paused (m z) (flat_keeps z d) w (stack_of z chain) (flat_around z ks world) out) (λ o. c.pauses z.rules (code z) t (a.pause + 1) o (purpose_of z chain) (below_of z chain))
      (λ w'. paused_match d run.place w g number closing what resumed below world ks u out w' sits.1)
      (machine.operand_value (frame_of z a) v) (c.operand_value a.registers v) (held_fine z a v ((works_at z a).reads a.left x next a.part e))))
