-- The lines of every statement and block run as its row does; and so do the bodies of all codes.
use Rattle.std.proofs.Common.{◌≡◌, ◌≢◌, ℕ, zero, suc, ◌+◌, List, [], ◌∷◌, ◌++◌, map, Option, Some, None, true, slice_get, refl, sym, ap, ◌∙◌, subst, arith, append-nil}
use Rattle.nu_run.specs.Steps.{Stepped, More}
use Rattle.nu_run.proofs.Runs.{comes_refl, goes_some}
use Rattle.nu_value.specs.declared.object.Object.{Object}
use Rattle.nu_value.specs.declared.object.Object.TheVariants as object
use Rattle.nu_value.specs.declared.value.Value.{Value}
use Rattle.nu_value.specs.declared.value.Value.TheVariants as value
use Rattle.op_forms.specs.declared.op.Op.{Op}
use Rattle.op_forms.specs.declared.op.Op.TheVariants as op
use Rattle.op_forms.specs.Constants.{value_of}
use Rattle.nu_rows.specs.Rows.{Next, Leave, Raised, Return, Stopped, Undefined, Step, First, Second, How, Send, Throw, Begin, Back, Effect, Act, does}
use Rattle.nu_rows.specs.Words.{ends_with}
use Rattle.nu_calls.specs.Calls.{enlisted, yields}
use Rattle.code_forms.specs.declared.operand.Argument.{Argument}
use Rattle.code_forms.specs.declared.operand.Argument.TheVariants as argument
use Rattle.code_forms.specs.declared.operand.Operand.{Operand}
use Rattle.code_forms.specs.declared.operand.Operand.TheVariants as operand
use Rattle.node_tree.specs.Blocks as tree
use Rattle.node_tree.specs.Nodes as node
use Rattle.flow_code.specs.declared.statement.Line.{Line}
use Rattle.flow_code.specs.declared.statement.Line.TheVariants.{Do}
use Rattle.flow_code.specs.declared.statement.Statement.TheVariants as flat
use Rattle.flow_code.specs.Machine as machine
use Rattle.flow_code.specs.Run.{find}
use Rattle.flow_lower.specs.Lower.{exit, exit_of, labels, form_labels, form_lines}
use Rattle.flow_lower.proofs.Points.{Lay, lay, code_of, Point, none, read_points, yield_points, if_yes, if_no, loop_body, catch_body, first_lay, form_points, points, top, Owns, OwnsForm, owns_first, owns_rest, if_then, if_end, owns_no, owns_yes, loop_head, loop_end, owns_body, catch_head, catch_end, owns_guarded, owns_handler}
use Rattle.flow_lower.proofs.Ran.{NodeState, Machine, Stack, flat_frame, waiting, Code, mm, lang, row_of, fw, mstep, C, Reaches, reaches_step, one, go_at, fail_at, resume_at, EndedAt, Ran, Runs}
use Rattle.flow_lower.proofs.Mute.{Mute, act_mute, sub_mute, then_mute, next_mute, raised_mute, stored_mute}
use Rattle.flow_lower.proofs.Parts.{mute_ran, mute_runs, followed_runs, reading_begins, reading_back, mark_comes, goto_goes, tail_runs, if_runs, loop_runs, catch_runs}
use Rattle.flow_lower.proofs.Bodies.{Stands, raised_fails, body_of_ran, BodyRuns, BodiesRun, operates_ran}

module _ (q : Code) (stands : Stands q) (kc : ℕ) (stack : Stack) where
  -- one act, one statement
  act_runs : (n : ℕ) (f : NodeState → Effect NodeState) (x : Line) (mid : List Line) (a : Lay) → ((t : NodeState) (base : List ℕ) → EndedAt q kc stack (lay a.fail a.exits mid) (go_at q kc stack (x ∷ mid) t base) (f t).state (f t).end (base ++ (f t).out)) → Runs q kc stack n (Act f) (x ∷ mid) (lay a.fail a.exits mid) none
  act_runs n f x mid a h = record { begins = h; goes_on = λ p how t base. tt }

  -- a temporary is written
  write_runs : (n to : ℕ) (v : Value) (x : Line) (mid : List Line) (a : Lay) → ((t : NodeState) (base : List ℕ) → mstep q (go_at q kc stack (x ∷ mid) t base) ≡ More (go_at q kc stack mid (node.writes t to v) base)) → Runs q kc stack n (node.write_row to v) (x ∷ mid) (lay a.fail a.exits mid) none
  write_runs n to v x mid a h =
      act_runs n _ x mid a (λ t base. subst (λ u. C q (go_at q kc stack (x ∷ mid) t base) (go_at q kc stack mid (node.writes t to v) u)) (sym (append-nil base)) (one q _ _ (h t base)))

  copied_ran : (to : ℕ) (mid : List Line) (a : Lay) (t : NodeState) (base : List ℕ) (s : Machine) (x : Option Value) → mstep q s ≡ machine.having x (machine.undefined base) (λ v. More (go_at q kc stack mid (node.writes t to v) base)) → EndedAt q kc stack (lay a.fail a.exits mid) s (node.copied t to x).state (node.copied t to x).end (base ++ (node.copied t to x).out)
  copied_ran to mid a t base s None e = tt
  copied_ran to mid a t base s (Some v) e = subst (λ u. C q s (go_at q kc stack mid (node.writes t to v) u)) (sym (append-nil base)) (one q _ _ e)

  copy_runs : (n to from : ℕ) (mid : List Line) (a : Lay) → Runs q kc stack n (node.copy_row to from) (Do (flat.Store to (operand.Temp from)) ∷ mid) (lay a.fail a.exits mid) none
  copy_runs n to from mid a = act_runs n _ _ mid a (λ t base. copied_ran to mid a t base _ (t.frame.temps from) refl)

  -- an operation
  do_mute : (to line : ℕ) (o : Op) (args : List Argument) → Mute (row_of q) (node.do_row (lang q) to line o args)
  do_mute to line o args =
      then_mute (row_of q) _ _ (then_mute (row_of q) _ _ (sub_mute (row_of q) _) refl (raised_mute (row_of q) _ (λ x. act_mute (row_of q) _))) refl (stored_mute (row_of q) to)

  do_runs : (n to line : ℕ) (o : Op) (args : List Argument) (mid : List Line) (a : Lay) → BodiesRun q stands n → Runs q kc stack n (node.do_row (lang q) to line o args) (Do (flat.Do to line o args a.fail) ∷ mid) (lay a.fail a.exits mid) none
  do_runs n to line o args mid a bodies =
      mute_runs q kc stack n _ _ (lay a.fail a.exits mid) (do_mute to line o args)
      (λ t base. operates_ran q stands kc stack to line a mid t.frame n bodies base _ t.around o (node.values t.frame args)
      (reaches_step q _ _ refl))

  -- a pause
  module _ (n to line : ℕ) (x : Operand) (mid : List Line) (a : Lay) where
    abbrev point : Point
    point = record { to = to; line = line; fail = a.fail; next = mid }

    abbrev pausing : Value → node.R
    pausing v = node.storing to (yields (lang q) line v)

    yield_back : (v : Value) (p : List Step) (how : How) (t : NodeState) (base : List ℕ) → Ran q kc stack n (lay a.fail a.exits mid) (yield_points point) base (resume_at q kc stack (yield_points point p) how t base) (does (row_of q) (pausing v) (Back p how) t n)
    yield_back v [] how t base = tt
    yield_back v (First ∷ []) how t base = tt
    yield_back v (First ∷ First ∷ []) (Send u) t base =
        subst (λ z. C q (go_at q kc stack mid (node.writes t to u) base) (go_at q kc stack mid (node.writes t to u) z)) (sym (append-nil base)) (comes_refl _ _ _)
    yield_back v (First ∷ First ∷ []) (Throw e) t base =
        subst (λ z. C q (fail_at q kc stack a.fail (node.writes (enlisted (lang q) line e t) to value.Unset) e base) (fail_at q kc stack a.fail (node.writes (enlisted (lang q) line e t) to value.Unset) e z)) (sym (append-nil base)) (comes_refl _ _ _)
    yield_back v (First ∷ First ∷ y ∷ p) how t base = tt
    yield_back v (First ∷ Second (Next u) ∷ p) how t base = tt
    yield_back v (First ∷ Second (Leave u) ∷ p) how t base = tt
    yield_back v (First ∷ Second (Raised u) ∷ p) how t base = tt
    yield_back v (First ∷ Second (Return u) ∷ p) how t base = tt
    yield_back v (First ∷ Second (Stopped u) ∷ p) how t base = tt
    yield_back v (First ∷ Second Undefined ∷ p) how t base = tt
    yield_back v (Second (Next u) ∷ p) how t base = tt
    yield_back v (Second (Leave u) ∷ p) how t base = tt
    yield_back v (Second (Raised u) ∷ p) how t base = tt
    yield_back v (Second (Return u) ∷ p) how t base = tt
    yield_back v (Second (Stopped u) ∷ p) how t base = tt
    yield_back v (Second Undefined ∷ p) how t base = tt

    yield_runs : Runs q kc stack n (node.reading x pausing) (Do (flat.Yield to line x a.fail) ∷ mid) (lay a.fail a.exits mid) (read_points (λ v. yield_points point))
    yield_runs = record {
      begins = λ t base. reading_begins q kc stack n x (lay a.fail a.exits mid) (λ v. yield_points point) pausing base _ t
          (λ v u. subst (λ z. Reaches q (go_at q kc stack (Do (flat.Yield to line x a.fail) ∷ mid) t base) (machine.paused (mm q) (waiting kc t.frame point) v stack (fw q t.around) z)) (sym (append-nil base)) (reaches_step q _ _ (u _ _)));
      goes_on = reading_back q kc stack n x pausing (lay a.fail a.exits mid) (λ v. yield_points point) yield_back;
    }

  -- an operand is read, and an act follows
  reading_mute : (x : Operand) (f : Value → NodeState → Effect NodeState) → Mute (row_of q) (node.reading x (λ v. Act (f v)))
  reading_mute x f =
      then_mute (row_of q) _ _ (act_mute (row_of q) (λ s. record { out = []; state = s; end = node.used (node.operand_value s.frame x) })) refl (next_mute (row_of q) _ (λ v. act_mute (row_of q) (f v)))

  reading_runs : (n : ℕ) (x : Operand) (f : Value → NodeState → Effect NodeState) (entry : List Line) (a : Lay) → ((t : NodeState) (base : List ℕ) (v : Value) → ((other : Stepped Machine) (go : Value → Stepped Machine) → machine.using (machine.operand_value (flat_frame t.frame) x) other go ≡ go v) → EndedAt q kc stack a (go_at q kc stack entry t base) (f v t).state (f v t).end (base ++ (f v t).out)) → Runs q kc stack n (node.reading x (λ v. Act (f v))) entry a (read_points (λ v. none))
  reading_runs n x f entry a h = record {
    begins = λ t base. reading_begins q kc stack n x a (λ v. none) (λ v. Act (f v)) base _ t (λ v u. h t base v u);
    goes_on = λ p how t base. mute_ran q kc stack n a (read_points (λ v. none)) base _ _ (reading_mute x f) p how t;
  }

  -- a value is given back, and flat code uses it
  uses : (v : Value) (other : Stepped Machine) (go : Value → Stepped Machine) → v ≢ value.Unset → machine.using (Some v) other go ≡ go v
  uses value.Unset other go d = absurd (d refl)
  uses value.None other go d = refl
  uses (value.Bool b) other go d = refl
  uses (value.Int z) other go d = refl
  uses (value.Str text) other go d = refl
  uses (value.Obj n) other go d = refl

  given_ran : (mid : List Line) (a : Lay) (t : NodeState) (base : List ℕ) (s : Machine) (x : Option Value) → mstep q s ≡ machine.using x (machine.undefined base) (λ v. machine.body_ended (mm q) t.frame.code stack (fw q t.around) base (Return v)) → EndedAt q kc stack (lay a.fail a.exits mid) s t (node.given x) (base ++ [])
  given_ran mid a t base s None e = tt
  given_ran mid a t base s (Some v) e =
      λ d. subst (λ z. Reaches q s (machine.body_ended (mm q) t.frame.code stack (fw q t.around) z (Return v))) (sym (append-nil base)) (reaches_step q s _ (e ∙ uses v _ _ d))

  return_runs : (n : ℕ) (x : Operand) (mid : List Line) (a : Lay) → Runs q kc stack n (Act (λ s. record { out = []; state = s; end = node.given (node.operand_value s.frame x) })) (Do (flat.Give x) ∷ mid) (lay a.fail a.exits mid) none
  return_runs n x mid a =
      act_runs n _ _ mid a (λ t base. given_ran mid a t base _ (node.operand_value t.frame x) refl)

  -- an exception is raised as it stands
  pending_ran : (a : Lay) (ls mid : List Line) (t : NodeState) (base : List ℕ) (s : Machine) (e : ℕ) (x : Option Object) → mstep q s ≡ machine.pending_exception (mm q) (go_at q kc stack ls t base) a.fail e x → EndedAt q kc stack (lay a.fail a.exits mid) s t (node.exception_end e x) (base ++ [])
  pending_ran a ls mid t base s e None st = tt
  pending_ran a ls mid t base s e (Some (object.Exception class args entries fields cause)) st =
      subst (λ z. C q s (fail_at q kc stack a.fail t e z)) (sym (append-nil base)) (one q _ _ st)
  pending_ran a ls mid t base s e (Some other) st = tt

  raise_ran : (a : Lay) (ls mid : List Line) (t : NodeState) (base : List ℕ) (s : Machine) (v : Value) → mstep q s ≡ machine.again (mm q) (go_at q kc stack ls t base) a.fail v → EndedAt q kc stack (lay a.fail a.exits mid) s t (node.raise_end t.around.world.heap v) (base ++ [])
  raise_ran a ls mid t base s value.Unset st = tt
  raise_ran a ls mid t base s value.None st = tt
  raise_ran a ls mid t base s (value.Bool b) st = tt
  raise_ran a ls mid t base s (value.Int z) st = tt
  raise_ran a ls mid t base s (value.Str text) st = tt
  raise_ran a ls mid t base s (value.Obj e) st = pending_ran a ls mid t base s e (slice_get t.around.world.heap e) st

  raise_runs : (n : ℕ) (x : Operand) (mid : List Line) (a : Lay) → Runs q kc stack n (node.reading x node.raise_row) (Do (flat.Again x a.fail) ∷ mid) (lay a.fail a.exits mid) (read_points (λ v. none))
  raise_runs n x mid a =
      reading_runs n x (λ v s. record { out = []; state = s; end = node.raise_end s.around.world.heap v }) (Do (flat.Again x a.fail) ∷ mid) (lay a.fail a.exits mid)
      (λ t base v u. raise_ran a (Do (flat.Again x a.fail) ∷ mid) mid t base _ v (u _ _))

  -- so many loops are left
  leave_runs : (n levels : ℕ) (mid : List Line) (a : Lay) → Runs q kc stack n (ends_with (node.leave_end levels)) (Do (flat.Goto (exit_of a.exits levels)) ∷ mid) (lay a.fail a.exits mid) none
  leave_runs n zero mid a = act_runs n _ _ mid a (λ t base. tt)
  leave_runs n (suc k) mid a =
      act_runs n _ _ mid a (λ t base. subst (λ u. C q (go_at q kc stack (Do (flat.Goto (exit a.exits k)) ∷ mid) t base) (go_at q kc stack (find (exit a.exits k) (q.lines kc)) t u)) (sym (append-nil base)) (one q _ _ refl))

  -- the lines of a statement, and of a block, run as its row does
  mutual
    form_runs : (x : tree.Form) (k : ℕ) (m : Lay) → OwnsForm (q.lines kc) x k m → (n : ℕ) → BodiesRun q stands n → Runs q kc stack n (node.form_row (lang q) x) (form_lines x k m.fail m.exits m.tail) m (form_points x k m)
    form_runs (tree.Constant to c) k m o n bodies = write_runs n to (value_of c) _ m.tail m (λ t base. refl)
    form_runs (tree.Copy to from) k m o n bodies = copy_runs n to from m.tail m
    form_runs (tree.Do to line op args) k m o n bodies = do_runs n to line op args m.tail m bodies
    form_runs (tree.Call to line function args) k m o n bodies = do_runs n to line op.Call (argument.Value function ∷ map argument.Value args) m.tail m bodies
    form_runs (tree.Yield to line a) k m o n bodies = yield_runs n to line a m.tail m
    form_runs (tree.If t y z) k m o n bodies =
        if_runs q kc stack n t k _ _ (code_of y (k + 2 + labels z) (if_yes k m)) (code_of z (k + 2) (if_no k y z m)) m _ _ (if_then (q.lines kc) t y z k m o)
        (tail_runs q kc stack n _ _ _ m _ (λ u out. mark_comes q kc stack (k + 1) m.tail u out) (block_runs y _ _ (owns_yes (q.lines kc) t y z k m o) n bodies))
        (tail_runs q kc stack n _ _ _ m _ (λ u out. goes_some _ _ _ _ (goto_goes q kc stack (k + 1) _ m.tail u out (if_end (q.lines kc) t y z k m o))) (block_runs z _ _ (owns_no (q.lines kc) t y z k m o) n bodies))
    form_runs (tree.Loop b) k m o n bodies =
        loop_runs q kc stack k b (code_of b (k + 2) (loop_body k m)) m.tail m _ n (loop_head (q.lines kc) b k m o) (loop_end (q.lines kc) b k m o)
        (λ i le. block_runs b _ _ (owns_body (q.lines kc) b k m o) i (λ j lt. bodies j (omega arith)))
    form_runs (tree.Leave levels) k m o n bodies = leave_runs n levels m.tail m
    form_runs (tree.Catch t b h) k m o n bodies =
        catch_runs q kc stack n k t _ _ (code_of b (k + 2) (catch_body k t b h m)) (code_of h (k + 2 + labels b) (if_yes k m)) m.tail m _ _ (catch_head (q.lines kc) t b h k m o) (catch_end (q.lines kc) t b h k m o)
        (block_runs b _ _ (owns_guarded (q.lines kc) t b h k m o) n bodies)
        (tail_runs q kc stack n _ _ _ m _ (λ u out. mark_comes q kc stack (k + 1) m.tail u out) (block_runs h _ _ (owns_handler (q.lines kc) t b h k m o) n bodies))
    form_runs (tree.Return a) k m o n bodies = return_runs n a m.tail m
    form_runs (tree.Raise a) k m o n bodies = raise_runs n a m.tail m
    form_runs (tree.Unset to) k m o n bodies = write_runs n to value.Unset _ m.tail m (λ t base. refl)

    pub block_runs : (b : tree.Block) (k : ℕ) (a : Lay) → Owns (q.lines kc) b k a → (n : ℕ) → BodiesRun q stands n → Runs q kc stack n (node.block_row (lang q) b) (code_of b k a) a (points b k a)
    block_runs tree.Stop k a o n bodies = record {
      begins = λ t base. subst (λ u. C q (go_at q kc stack a.tail t base) (go_at q kc stack a.tail t u)) (sym (append-nil base)) (comes_refl _ _ _);
      goes_on = λ p how t base. tt;
    }
    block_runs (tree.Follow x r) k a o n bodies =
        followed_runs q kc stack n _ _ _ (code_of r (k + form_labels x) a) a _ _ (form_runs x k (first_lay x r k a) (owns_first (q.lines kc) x r k a o) n bodies) (block_runs r _ a (owns_rest (q.lines kc) x r k a o) n bodies)

module _ (q : Code) (stands : Stands q) where
  -- a body runs, where the bodies that it begins do
  pub body_runs : (m c : ℕ) → q.there c ≡ true → (stack : Stack) → BodiesRun q stands m → BodyRuns q stands m c stack
  body_runs m c has stack bodies =
      let r = block_runs q stands c stack (q.blocks c) 1 (top (q.blocks c)) (stands.owns c has) m bodies in
      let fails = raised_fails q stands (q.blocks c) _ (stands.fails c has) in
      record {
        begins = λ t base. body_of_ran q stands m c stack base _ _ (fails Begin t m) (r.begins t base);
        goes_on = λ p how t base. body_of_ran q stands m c stack base _ _ (fails (Back p how) t m) (r.goes_on p how t base);
      }

  -- all bodies, within each bound
  pub bodies_run : (n : ℕ) → BodiesRun q stands n
  bodies_run zero m lt c has stack = absurd (omega arith)
  bodies_run (suc n) m lt c has stack = body_runs m c has stack (λ i li. bodies_run n i (omega (arith, lt, li)))
