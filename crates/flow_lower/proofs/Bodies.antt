-- Blocks run as their rows do, with all that they call and resume.
use Rattle.std.proofs.Common.{◌≡◌, ◌≢◌, ℕ, zero, suc, ◌<◌, List, [], ◌∷◌, ◌++◌, Option, Some, None, Bool, true, false, option_map, if◌then◌else◌, refl, sym, ap, ◌∙◌, subst, arith, append-nil}
use Rattle.nu_run.specs.declared.End.TheVariants as end
use Rattle.nu_run.specs.Runs as runs
use Rattle.nu_run.specs.Steps.{More}
use Rattle.nu_run.proofs.Runs.{goes_some, goes_comes}
use Rattle.nu_value.specs.declared.value.Value.{Value}
use Rattle.nu_value.specs.declared.value.Value.TheVariants as value
use Rattle.op_forms.specs.declared.end.After.{After}
use Rattle.op_forms.specs.declared.op.Op.{Op}
use Rattle.nu_calls.specs.Surroundings.{Surroundings, scene, with_scene, kept_at, with_kept}
use Rattle.nu_rows.specs.Rows.{End, Next, Leave, Raised, Return, Stopped, Undefined, Step, How, Send, Throw, Start, Begin, Back, Res, Spent, Paused, Ended, Act, Instead, after, gone, left_by, entered, interp, does}
use Rattle.nu_rows.specs.Words.{on_raised}
use Rattle.nu_calls.specs.Ends.{Result, Gives, Raises, Stops, Unsaid, Begun, Over, Calls, Starts, Wakes, Began, begun_by, generator_paused, generator_ended, call_ended, inside}
use Rattle.nu_calls.specs.Calls.{Pause, state_of, end_of, effect_of, back_in, given_back, leave_call, leave_generator, enters, calls, starts, goes_on, entry, began, enlisted, unsaid}
use Rattle.node_tree.specs.Blocks as tree
use Rattle.node_tree.specs.Nodes as node
use Rattle.flow_code.specs.declared.statement.Line.{Line}
use Rattle.flow_code.specs.declared.statement.Line.TheVariants.{Do}
use Rattle.flow_code.specs.declared.statement.Statement.TheVariants as flat
use Rattle.flow_code.specs.Machine as machine
use Rattle.flow_code.specs.Run.{find}
use Rattle.flow_lower.specs.Lower.{body_lines}
use Rattle.flow_lower.proofs.Labels.{Fails}
use Rattle.flow_lower.proofs.Points.{Lay, lay, Point, none, top, body_points, Owns}
use Rattle.flow_lower.proofs.Ran.{NodeState, Machine, Stack, Waiting, flat_frame, waiting, kept_map, Code, mm, lang, row_of, keeps, fw, fw_kept, mstep, C, G, Reaches, reaches_step, reaches_after, reaches_goes, reaches_comes, reaches_is, Halted, halted_after, halted_by, SpentAt, go_at, fail_at, resume_at, PausedAt, Ran}
use Rattle.flow_lower.proofs.Parts.{run_rows}

-- what holds where nothing is said, and of the return of each value but Unset, holds of how a body ended for what began it
pub back_cases : (P : End → Type 0) (v : Value) → P Undefined → (v ≢ value.Unset → P (Return v)) → P (given_back (Return v))
back_cases P value.Unset u h = u
back_cases P value.None u h = h (λ e. cc)
back_cases P (value.Bool b) u h = h (λ e. cc)
back_cases P (value.Int z) u h = h (λ e. cc)
back_cases P (value.Str text) u h = h (λ e. cc)
back_cases P (value.Obj n) u h = h (λ e. cc)

-- the code of functions stands for their blocks: their labels and fail label stand where they have to, and what a
-- function was handed comes to its first registers
pub record Stands (q : Code) : Type 0 where
  pub owns : (c : ℕ) → q.there c ≡ true → Owns (q.lines c) (q.blocks c) 1 (top (q.blocks c))
  pub fails : (c : ℕ) → q.there c ≡ true → Fails (q.blocks c) (find 0 (q.lines c))
  pub absent : (c : ℕ) → q.there c ≡ false → q.blocks c ≡ tree.Stop
  pub is_there : (kind : Bool) (c : ℕ) (given cells : List Value) (f : node.Frame) → q.frames kind c given cells ≡ Some f → q.has kind c ≡ true
  pub there : (kind : Bool) (c : ℕ) → q.has kind c ≡ true → q.there c ≡ true
  pub opens : (kind : Bool) (c : ℕ) (given cells : List Value) (f : node.Frame) → q.frames kind c given cells ≡ Some f → (stack : Stack) (a : Surroundings Waiting) (out : List ℕ) → C q (machine.at c (q.lines c) (machine.fresh c given cells) None stack a out) (machine.at c (body_lines (q.blocks c)) (flat_frame f) None stack a out)

module _ (q : Code) (stands : Stands q) where
  -- what the machine does from a state, where a whole body has an outcome
  abbrev pub BodyAt : ℕ → ℕ → Stack → List ℕ → Machine → Res NodeState → Type 0
  BodyAt m c stack base s (Spent o) = SpentAt q m s (base ++ o)
  BodyAt m c stack base s (Paused o t v p) = PausedAt q c stack s t v (body_points (q.blocks c) p) (base ++ o)
  BodyAt m c stack base s (Ended o t (Next v)) = Reaches q s (machine.body_ended (mm q) t.frame.code stack (fw q t.around) (base ++ o) (Next value.None))
  BodyAt m c stack base s (Ended o t (Raised e)) = Reaches q s (machine.body_ended (mm q) t.frame.code stack (fw q t.around) (base ++ o) (Raised e))
  BodyAt m c stack base s (Ended o t (Return v)) = v ≢ value.Unset → Reaches q s (machine.body_ended (mm q) t.frame.code stack (fw q t.around) (base ++ o) (Return v))
  BodyAt m c stack base s (Ended o t (Stopped kind)) = Halted q s (base ++ o) (end.Stopped kind)
  BodyAt m c stack base s (Ended o t (Leave n)) = Unit {0}
  BodyAt m c stack base s (Ended o t Undefined) = Unit {0}

  -- a block without statements raises nothing
  pub raised_fails : (b : tree.Block) (behind : List Line) → Fails b behind → (start : Start) (t : NodeState) (n : ℕ) (o : List ℕ) (u : NodeState) (e : ℕ) → does (row_of q) (node.block_row (lang q) b) start t n ≡ Ended o u (Raised e) → behind ≡ Do flat.Fail ∷ []
  raised_fails tree.Stop behind h Begin t n o u e r = let z : Ended [] t (Next value.None) ≡ Ended o u (Raised e) = r in cc
  raised_fails tree.Stop behind h (Back p how) t n o u e r = let z : Ended [] t Undefined ≡ Ended o u (Raised e) = r in cc
  raised_fails (tree.Follow x y) behind h start t n o u e r = h

  pub body_of_ran : (m c : ℕ) (stack : Stack) (base : List ℕ) (s : Machine) (x : Res NodeState) → ((o : List ℕ) (u : NodeState) (e : ℕ) → x ≡ Ended o u (Raised e) → find 0 (q.lines c) ≡ Do flat.Fail ∷ []) → Ran q c stack m (top (q.blocks c)) (body_points (q.blocks c)) base s x → BodyAt m c stack base s x
  body_of_ran m c stack base s (Spent o) e h = h
  body_of_ran m c stack base s (Paused o t v p) e h = h
  body_of_ran m c stack base s (Ended o t (Next v)) e h = reaches_after q s _ _ h (reaches_step q _ _ refl)
  body_of_ran m c stack base s (Ended o t (Raised x)) e h =
      reaches_after q s _ _ h (reaches_step q _ _ (ap (λ ls. mstep q (machine.at c ls (flat_frame t.frame) (Some x) stack (fw q t.around) (base ++ o))) (e o t x refl)))
  body_of_ran m c stack base s (Ended o t (Return v)) e h = h
  body_of_ran m c stack base s (Ended o t (Stopped kind)) e h = h
  body_of_ran m c stack base s (Ended o t (Leave n)) e h = tt
  body_of_ran m c stack base s (Ended o t Undefined) e h = tt

  abbrev pub body_row : ℕ → node.R
  body_row c = node.block_row (lang q) (q.blocks c)

  pub record BodyRuns (m c : ℕ) (stack : Stack) : Type 0 where
    pub begins : (t : NodeState) (base : List ℕ) → BodyAt m c stack base (go_at q c stack (body_lines (q.blocks c)) t base) (does (row_of q) (body_row c) Begin t m)
    pub goes_on : (p : List Step) (how : How) (t : NodeState) (base : List ℕ) → BodyAt m c stack base (resume_at q c stack (body_points (q.blocks c) p) how t base) (does (row_of q) (body_row c) (Back p how) t m)

  -- the bodies of all codes run within each smaller bound, whoever began them
  abbrev pub BodiesRun : ℕ → Type 0
  BodiesRun n = (m : ℕ) → m < n → (c : ℕ) → q.there c ≡ true → (stack : Stack) → BodyRuns m c stack

  nils : (o : List ℕ) → (o ++ []) ++ [] ≡ o
  nils o = append-nil (o ++ []) ∙ append-nil o

  -- what an operation of a frame begins, and how it is stored
  module _ (kc : ℕ) (stack : Stack) (to line : ℕ) (a : Lay) (mid : List Line) (f : node.Frame) where
    abbrev w : Waiting
    w = waiting kc f (record { to = to; line = line; fail = a.fail; next = mid })

    abbrev Wrote : ℕ → List ℕ → Machine → Res NodeState → Type 0
    Wrote n base s r =
        Ran q kc stack n (lay a.fail a.exits mid) none base s
        (after (after r (λ e u. interp (run_rows q kc stack n) (on_raised (λ x. Act (λ s. record { out = []; state = enlisted (lang q) line x s; end = Raised x })) e) Begin u)) (λ e u. interp (run_rows q kc stack n) (node.stored to e) Begin u))

    settled : (n : ℕ) (base o : List ℕ) (s : Machine) (b : Surroundings (Pause node.Frame)) (r : Result) → Reaches q s (machine.settles (mm q) w stack (fw q b) (base ++ o) r) → Wrote n base s (Ended o (state_of f b) (end_of r))
    settled n base o s b (Gives v) h =
        subst (λ u. C q s (go_at q kc stack mid (node.writes (state_of f b) to v) (base ++ u))) (sym (nils o)) (reaches_comes q s _ h)
    settled n base o s b (Raises e) h =
        subst (λ u. C q s (fail_at q kc stack a.fail (node.writes (enlisted (lang q) line e (state_of f b)) to value.Unset) e (base ++ u))) (sym (nils o)) (reaches_comes q s _ h)
    settled n base o s b (Stops kind) h = subst (λ u. Halted q s (base ++ u) (end.Stopped kind)) (sym (nils o)) (halted_by q s _ _ h)
    settled n base o s b Unsaid h = tt

    -- the same, where a body printed before
    settled_body : (n : ℕ) (base o : List ℕ) (s : Machine) (b : Surroundings (Pause node.Frame)) (r : Result) → Reaches q s (machine.settles (mm q) w stack (fw q b) (base ++ o) r) → Wrote n base s (Ended (o ++ []) (state_of f b) (end_of r))
    settled_body n base o s b r h =
        settled n base (o ++ []) s b r (subst (λ u. Reaches q s (machine.settles (mm q) w stack (fw q b) (base ++ u) r)) (sym (append-nil o)) h)

    -- a called body that ended so, for its caller
    abbrev called : After → List ℕ → NodeState → End → Res NodeState
    called aft o u e = gone o (effect_of (state_of f u.around) [] (call_ended q.rules aft (back_in (lang q) f u.around) e))

    call_settled : (m : ℕ) (aft : After) (base o : List ℕ) (s s1 : Machine) (u : NodeState) (e : End) → G q s s1 → Reaches q s1 (machine.body_ended (mm q) u.frame.code (machine.Called w aft stack) (fw q u.around) (base ++ o) e) → Wrote (suc m) base s (called aft o u e)
    call_settled m aft base o s s1 u e g h =
        let x = call_ended q.rules aft (back_in (lang q) f u.around) e in
        settled_body (suc m) base o s (with_scene u.around x.scene) x.result (reaches_after q s s1 _ (goes_some _ _ _ _ g) h)

    body_called : (m c : ℕ) (aft : After) (base : List ℕ) (s s1 : Machine) (x : Res NodeState) → G q s s1 → BodyAt m c (machine.Called w aft stack) base s1 x → Wrote (suc m) base s (left_by x (leave_call (lang q) f aft))
    body_called m c aft base s s1 (Spent o) g h = let b = g.by h.0 in (b.0, omega (arith, b.1, h.1), b.2 ∙ h.2)
    body_called m c aft base s s1 (Paused o u v p) g h = tt
    body_called m c aft base s s1 (Ended o u (Next v)) g h = call_settled m aft base o s s1 u (Next value.None) g h
    body_called m c aft base s s1 (Ended o u (Raised e)) g h = call_settled m aft base o s s1 u (Raised e) g h
    body_called m c aft base s s1 (Ended o u (Return v)) g h =
        back_cases (λ e. Wrote (suc m) base s (called aft o u e)) v tt (λ d. call_settled m aft base o s s1 u (Return v) g (h d))
    body_called m c aft base s s1 (Ended o u (Stopped kind)) g h =
        subst (λ z. Halted q s (base ++ z) (end.Stopped kind)) (sym (nils (o ++ []) ∙ append-nil o)) (halted_after q s s1 _ _ (goes_some _ _ _ _ g) h)
    body_called m c aft base s s1 (Ended o u (Leave n)) g h = tt
    body_called m c aft base s s1 (Ended o u Undefined) g h = tt

    -- a resumed generator's body that ended so, for what resumed it
    abbrev resumed : ℕ → Bool → List ℕ → NodeState → End → Res NodeState
    resumed g closing o u e = gone o (effect_of (state_of f u.around) [] (generator_ended (back_in (lang q) f u.around) g closing e))

    resume_settled : (m c g : ℕ) (closing : Bool) (base o : List ℕ) (s s1 : Machine) (u : NodeState) (e : End) → G q s s1 → Reaches q s1 (machine.body_ended (mm q) u.frame.code (machine.Resumed w g c closing stack) (fw q u.around) (base ++ o) e) → Wrote (suc m) base s (resumed g closing o u e)
    resume_settled m c g closing base o s s1 u e z h =
        let x = generator_ended (back_in (lang q) f u.around) g closing e in
        settled_body (suc m) base o s (with_scene u.around x.scene) x.result (reaches_after q s s1 _ (goes_some _ _ _ _ z) h)

    body_resumed : (m c g : ℕ) (closing : Bool) (base : List ℕ) (s s1 : Machine) (x : Res NodeState) → G q s s1 → BodyAt m c (machine.Resumed w g c closing stack) base s1 x → Wrote (suc m) base s (left_by x (leave_generator (lang q) f g c closing))
    body_resumed m c g closing base s s1 (Spent o) z h = let b = z.by h.0 in (b.0, omega (arith, b.1, h.1), b.2 ∙ h.2)
    body_resumed m c g closing base s s1 (Paused o u v p) z h =
        let k : Pause node.Frame = record { code = c; frame = u.frame; place = p } in
        let x = generator_paused (back_in (lang q) f u.around) g closing v in
        settled_body (suc m) base o s (with_scene (with_kept u.around g (Some k)) x.scene) x.result
        (subst (λ y. Reaches q s (machine.settles (mm q) w stack (with_scene y x.scene) (base ++ o) x.result)) (fw_kept q u.around g (Some k)) (reaches_after q s s1 _ (goes_some _ _ _ _ z) h))
    body_resumed m c g closing base s s1 (Ended o u (Next v)) z h = resume_settled m c g closing base o s s1 u (Next value.None) z h
    body_resumed m c g closing base s s1 (Ended o u (Raised e)) z h = resume_settled m c g closing base o s s1 u (Raised e) z h
    body_resumed m c g closing base s s1 (Ended o u (Return v)) z h =
        back_cases (λ e. Wrote (suc m) base s (resumed g closing o u e)) v tt (λ d. resume_settled m c g closing base o s s1 u (Return v) z (h d))
    body_resumed m c g closing base s s1 (Ended o u (Stopped kind)) z h =
        subst (λ y. Halted q s (base ++ y) (end.Stopped kind)) (sym (nils (o ++ []) ∙ append-nil o)) (halted_after q s s1 _ _ (goes_some _ _ _ _ z) h)
    body_resumed m c g closing base s s1 (Ended o u (Leave n)) z h = tt
    body_resumed m c g closing base s s1 (Ended o u Undefined) z h = tt

    -- nothing of a body is done within bound 0
    spent_now : (base : List ℕ) (s s1 : Machine) → Reaches q s (More s1) → s1.out ≡ base → SpentAt q 0 s (base ++ [])
    spent_now base s s1 h e = let d = h.by 0 in (d.0, omega arith, d.2 ∙ ap (λ u. runs.Going u) (e ∙ sym (append-nil base)))

    -- a function that is there begins
    entering : (kind : Bool) (s : Machine) (base : List ℕ) (c : ℕ) (given cells : List Value) (st : Stack) (b : Surroundings (Pause node.Frame)) → q.has kind c ≡ true → Reaches q s (machine.enters (mm q) kind c given cells st (fw q b) base) → Reaches q s (More (machine.at c (q.lines c) (machine.fresh c given cells) None st (with_scene (fw q b) (inside q.rules q.scripts (scene (fw q b)) c)) base))
    entering kind s base c given cells st b e h =
        subst (λ y. Reaches q s (if y then More (machine.at c (q.lines c) (machine.fresh c given cells) None st (with_scene (fw q b) (inside q.rules q.scripts (scene (fw q b)) c)) base) else machine.undefined base)) e h

    calls_ran : (n : ℕ) → BodiesRun n → (base : List ℕ) (s : Machine) (b : Surroundings (Pause node.Frame)) (c : ℕ) (given cells : List Value) (aft : After) (fr : Option node.Frame) → q.frames false c given cells ≡ fr → Reaches q s (machine.enters (mm q) false c given cells (machine.Called w aft stack) (fw q b) base) → Wrote n base s (entered (run_rows q kc stack n) (calls (lang q) (state_of f b) c aft fr))
    calls_ran n bodies base s b c given cells aft None e h = tt
    calls_ran zero bodies base s b c given cells aft (Some g) e h =
        spent_now base s _ (entering false s base c given cells _ b (stands.is_there false c given cells g e) h) refl
    calls_ran (suc m) bodies base s b c given cells aft (Some g) e h =
        let has = stands.is_there false c given cells g e in
        let st = machine.Called w aft stack in
        body_called m c aft base s _ _ (goes_comes _ _ _ _ _ (reaches_goes q s _ (entering false s base c given cells st b has h)) (stands.opens false c given cells g e st _ base)) ((bodies m (omega arith) c (stands.there false c has) st).begins (enters (lang q) b c g) base)

    starts_ran : (n : ℕ) → BodiesRun n → (base : List ℕ) (s : Machine) (b : Surroundings (Pause node.Frame)) (g c : ℕ) (given cells : List Value) (fr : Option node.Frame) → q.frames true c given cells ≡ fr → Reaches q s (machine.enters (mm q) true c given cells (machine.Resumed w g c false stack) (fw q b) base) → Wrote n base s (entered (run_rows q kc stack n) (starts (lang q) (state_of f b) g c fr))
    starts_ran n bodies base s b g c given cells None e h = tt
    starts_ran zero bodies base s b g c given cells (Some x) e h =
        spent_now base s _ (entering true s base c given cells _ b (stands.is_there true c given cells x e) h) refl
    starts_ran (suc m) bodies base s b g c given cells (Some x) e h =
        let has = stands.is_there true c given cells x e in
        let st = machine.Resumed w g c false stack in
        body_resumed m c g false base s _ _ (goes_comes _ _ _ _ _ (reaches_goes q s _ (entering true s base c given cells st b has h)) (stands.opens true c given cells x e st _ base)) ((bodies m (omega arith) c (stands.there true c has) st).begins (enters (lang q) b c x) base)

    resumes_is : (k : Pause node.Frame) (st : Stack) (b : Surroundings (Pause node.Frame)) (base : List ℕ) (how : How) → machine.settles (mm q) (keeps q k) st (fw q b) base (machine.told (mm q) how) ≡ More (resume_at q k.code st (body_points (q.blocks k.code) k.place) how (state_of k.frame b) base)
    resumes_is k st b base (Send v) = refl
    resumes_is k st b base (Throw e) = refl

    resumed_out : (c : ℕ) (st : Stack) (pt : Point) (how : How) (t : NodeState) (base : List ℕ) → (resume_at q c st pt how t base).out ≡ base
    resumed_out c st pt (Send v) t base = refl
    resumed_out c st pt (Throw e) t base = refl

    -- a place in a code that isn't there
    absent_ran : (m : ℕ) (blk : tree.Block) → blk ≡ tree.Stop → (base : List ℕ) (s : Machine) (p : List Step) (how : How) (t : NodeState) (g c : ℕ) (closing : Bool) → Wrote (suc m) base s (left_by (does (row_of q) (node.block_row (lang q) blk) (Back p how) t m) (leave_generator (lang q) f g c closing))
    absent_ran m blk e base s p how t g c closing =
        subst (λ z. Wrote (suc m) base s (left_by (does (row_of q) (node.block_row (lang q) z) (Back p how) t m) (leave_generator (lang q) f g c closing))) (sym e) tt

    woken_ran : (m : ℕ) → BodiesRun (suc m) → (base : List ℕ) (s : Machine) (b : Surroundings (Pause node.Frame)) (g : ℕ) (how : How) (closing : Bool) (k : Pause node.Frame) (x : Bool) → q.there k.code ≡ x → Reaches q s (More (resume_at q k.code (machine.Resumed w g k.code closing stack) (body_points (q.blocks k.code) k.place) how (state_of k.frame b) base)) → Wrote (suc m) base s (left_by (does (row_of q) (body_row k.code) (Back k.place how) (state_of k.frame b) m) (leave_generator (lang q) f g k.code closing))
    woken_ran m bodies base s b g how closing k true e h =
        body_resumed m k.code g closing base s _ _ (reaches_goes q s _ h) ((bodies m (omega arith) k.code e _).goes_on k.place how (state_of k.frame b) base)
    woken_ran m bodies base s b g how closing k false e h =
        absent_ran m (q.blocks k.code) (stands.absent k.code e) base s k.place how (state_of k.frame b) g k.code closing

    goes_ran : (n : ℕ) → BodiesRun n → (base : List ℕ) (s : Machine) (b : Surroundings (Pause node.Frame)) (g : ℕ) (how : How) (closing : Bool) (k : Option (Pause node.Frame)) → Reaches q s (machine.goes_on (mm q) w g how closing stack (fw q b) base (option_map (keeps q) k)) → Wrote n base s (entered (run_rows q kc stack n) (goes_on (lang q) (state_of f b) g how closing k))
    goes_ran n bodies base s b g how closing None h = tt
    goes_ran zero bodies base s b g how closing (Some k) h =
        let b' = with_scene (with_kept b g None) (inside q.rules q.scripts (scene b) k.code) in
        let st = machine.Resumed w g k.code closing stack in
        let r = subst (λ y. Reaches q s (machine.settles (mm q) (keeps q k) st (with_scene y (inside q.rules q.scripts (scene b) k.code)) base (machine.told (mm q) how))) (fw_kept q b g None) h in
        spent_now base s _ (reaches_is q s _ _ (resumes_is k st b' base how) r) (resumed_out k.code st (body_points (q.blocks k.code) k.place) how (state_of k.frame b') base)
    goes_ran (suc m) bodies base s b g how closing (Some k) h =
        let b' = with_scene (with_kept b g None) (inside q.rules q.scripts (scene b) k.code) in
        let st = machine.Resumed w g k.code closing stack in
        let r = subst (λ y. Reaches q s (machine.settles (mm q) (keeps q k) st (with_scene y (inside q.rules q.scripts (scene b) k.code)) base (machine.told (mm q) how))) (fw_kept q b g None) h in
        woken_ran m bodies base s b' g how closing k (q.there k.code) refl (reaches_is q s _ _ (resumes_is k st b' base how) r)

    begins_ran : (n : ℕ) → BodiesRun n → (base : List ℕ) (s : Machine) (b : Surroundings (Pause node.Frame)) (x : Begun) → Reaches q s (machine.begins (mm q) w stack (fw q b) base x) → Wrote n base s (entered (run_rows q kc stack n) (entry (lang q) (state_of f b) x))
    begins_ran n bodies base s b (Over out r) h = settled n base out s b r h
    begins_ran n bodies base s b (Calls c given cells aft) h = calls_ran n bodies base s b c given cells aft (q.frames false c given cells) refl h
    begins_ran n bodies base s b (Starts g c given cells) h = starts_ran n bodies base s b g c given cells (q.frames true c given cells) refl h
    begins_ran n bodies base s b (Wakes g how closing) h =
        goes_ran n bodies base s b g how closing (kept_at b.kept g) (subst (λ y. Reaches q s (machine.goes_on (mm q) w g how closing stack (fw q b) base y)) (kept_map (keeps q) b.kept g) h)

    began_ran : (n : ℕ) → BodiesRun n → (base : List ℕ) (s : Machine) (b : Surroundings (Pause node.Frame)) (x : Began) → Reaches q s (machine.began (mm q) w stack (fw q b) base x) → Wrote n base s (entered (run_rows q kc stack n) (began (lang q) (state_of f b) x))
    began_ran n bodies base s b x h = begins_ran n bodies base s (with_scene b x.scene) x.begun h

    -- where the arguments fit
    fit_ran : (n : ℕ) → BodiesRun n → (base : List ℕ) (s : Machine) (b : Surroundings (Pause node.Frame)) (x : Began) (y : Bool) → Reaches q s (if y then machine.began (mm q) w stack (fw q b) base x else machine.undefined base) → Wrote n base s (entered (run_rows q kc stack n) (if y then began (lang q) (state_of f b) x else Instead (unsaid (state_of f b))))
    fit_ran n bodies base s b x true h = began_ran n bodies base s b x h
    fit_ran n bodies base s b x false h = tt

    pub operates_ran : (n : ℕ) → BodiesRun n → (base : List ℕ) (s : Machine) (b : Surroundings (Pause node.Frame)) (o : Op) (vs : Option (List Value)) → Reaches q s (machine.having vs (machine.undefined base) (λ vs. machine.operates (mm q) w stack (fw q b) base o vs)) → Wrote n base s (entered (run_rows q kc stack n) (node.operates_on (lang q) o (state_of f b) vs))
    operates_ran n bodies base s b o None h = tt
    operates_ran n bodies base s b o (Some vs) h =
        fit_ran n bodies base s b (begun_by q.scripts (scene b) (q.rules.apply o b.world vs)) (q.rules.fits o b.world vs) h
