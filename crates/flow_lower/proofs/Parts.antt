-- The rows of statements run as their lines do, by combinator.
use Rattle.std.proofs.Common.{◌≡◌, ℕ, zero, suc, ◌+◌, ◌≤◌, List, [], ◌∷◌, ◌++◌, Option, Some, None, true, false, refl, sym, ap, ◌∙◌, subst, arith, append-nil}
use Rattle.nu_run.specs.Steps.{Stepped, More}
use Rattle.nu_run.proofs.Runs.{comes_trans, one_step, goes_some}
use Rattle.nu_value.specs.declared.value.Value.{Value}
use Rattle.nu_value.specs.declared.value.Value.TheVariants as value
use Rattle.nu_rows.specs.Rows.{End, Next, Leave, Raised, Return, Stopped, Undefined, Step, First, Second, How, Send, Throw, Start, Begin, Back, Res, Spent, Paused, Ended, Effect, Row, Act, Yld, Then, Loop, Sub, after, shift, before, turned, interp, does}
use Rattle.nu_rows.specs.Rows as rows
use Rattle.nu_rows.specs.Words.{on_next, on_raised, choose}
use Rattle.code_forms.specs.declared.operand.Operand.{Operand}
use Rattle.node_tree.specs.Blocks as tree
use Rattle.node_tree.specs.Nodes as node
use Rattle.flow_code.specs.declared.statement.Line.{Line}
use Rattle.flow_code.specs.declared.statement.Line.TheVariants.{Label, Do}
use Rattle.flow_code.specs.declared.statement.Statement.TheVariants as flat
use Rattle.flow_code.specs.Machine as machine
use Rattle.flow_code.specs.Run.{find}
use Rattle.flow_lower.proofs.Points.{Lay, lay, Points, none, then_points, read_points, choose_points, catch_points}
use Rattle.flow_lower.proofs.Ran.{NodeState, Machine, Stack, flat_frame, Code, mm, lang, row_of, fw, mstep, exec, C, G, one, SpentAt, go_at, resume_at, EndedAt, Ran, ran_from, ran_goes, ran_before, ran_step, ran_tail, ran_after, Runs}
use Rattle.flow_lower.proofs.Mute.{Mute}

module _ (q : Code) (kc : ℕ) (stack : Stack) where
  abbrev pub run_rows : ℕ → node.Item → Start → NodeState → Res NodeState
  run_rows n = rows.run (row_of q) n

  -- an end that isn't a value passes
  pub passes : (n : ℕ) (a : Lay) (mid : List Line) (pts : Value → Points) (k : Value → node.R) (base : List ℕ) (s : Machine) (t : NodeState) (e : End) → EndedAt q kc stack (lay a.fail a.exits mid) s t e base → ((v : Value) → C q s (go_at q kc stack mid t base) → Ran q kc stack n a (pts v) base s (does (row_of q) (k v) Begin t n)) → Ran q kc stack n a (λ p. read_points pts (Second e ∷ p)) base s (does (row_of q) (on_next k e) Begin t n)
  passes n a mid pts k base s t (Next v) h next = next v h
  passes n a mid pts k base s t (Leave l) h next = subst (λ u. EndedAt q kc stack a s t (Leave l) u) (sym (append-nil base)) h
  passes n a mid pts k base s t (Raised e) h next = subst (λ u. EndedAt q kc stack a s t (Raised e) u) (sym (append-nil base)) h
  passes n a mid pts k base s t (Return v) h next = subst (λ u. EndedAt q kc stack a s t (Return v) u) (sym (append-nil base)) h
  passes n a mid pts k base s t (Stopped kind) h next = subst (λ u. EndedAt q kc stack a s t (Stopped kind) u) (sym (append-nil base)) h
  passes n a mid pts k base s t Undefined h next = tt

  -- the outcome from a place where nothing is said
  pub mute_ran : (n : ℕ) (a : Lay) (pts : Points) (base : List ℕ) (s : Machine) (r : node.R) → Mute (row_of q) r → (p : List Step) (how : How) (t : NodeState) → Ran q kc stack n a pts base s (does (row_of q) r (Back p how) t n)
  mute_ran n a pts base s r h p how t = let x = h.by p how t n in subst (λ u. Ran q kc stack n a pts base s u) (sym x.1) tt

  -- a row that has no place
  pub mute_runs : (n : ℕ) (r : node.R) (entry : List Line) (a : Lay) → Mute (row_of q) r → ((t : NodeState) (base : List ℕ) → Ran q kc stack n a none base (go_at q kc stack entry t base) (does (row_of q) r Begin t n)) → Runs q kc stack n r entry a none
  mute_runs n r entry a h b = record { begins = b; goes_on = λ p how t base. mute_ran n a none base _ r h p how t }

  passed : (n : ℕ) (a : Lay) (mid : List Line) (g : Points) (r : node.R) (base : List ℕ) (s : Machine) (t : NodeState) (e : End) → EndedAt q kc stack (lay a.fail a.exits mid) s t e base → (C q s (go_at q kc stack mid t base) → Ran q kc stack n a g base s (does (row_of q) r Begin t n)) → Ran q kc stack n a g base s (does (row_of q) (on_next (λ v. r) e) Begin t n)
  passed n a mid g r base s t (Next v) h next = next h
  passed n a mid g r base s t (Leave l) h next = subst (λ u. EndedAt q kc stack a s t (Leave l) u) (sym (append-nil base)) h
  passed n a mid g r base s t (Raised e) h next = subst (λ u. EndedAt q kc stack a s t (Raised e) u) (sym (append-nil base)) h
  passed n a mid g r base s t (Return v) h next = subst (λ u. EndedAt q kc stack a s t (Return v) u) (sym (append-nil base)) h
  passed n a mid g r base s t (Stopped kind) h next = subst (λ u. EndedAt q kc stack a s t (Stopped kind) u) (sym (append-nil base)) h
  passed n a mid g r base s t Undefined h next = tt

  -- a statement and what follows it
  pub followed_runs : (n : ℕ) (x r : node.R) (entry mid : List Line) (a : Lay) (f g : Points) → Runs q kc stack n x entry (lay a.fail a.exits mid) f → Runs q kc stack n r mid a g → Runs q kc stack n (node.followed x r) entry a (then_points f g)
  followed_runs n x r entry mid a f g hx hr = record { begins = λ t base. go base _ _ (hx.begins t base); goes_on = λ p how t base. back p how t base }
    where
      go : (base : List ℕ) (s : Machine) (y : Res NodeState) → Ran q kc stack n (lay a.fail a.exits mid) f base s y → Ran q kc stack n a (then_points f g) base s (after y (λ e u. interp (run_rows n) (on_next (λ v. r) e) Begin u))
      go base s y h = ran_after q kc stack n (lay a.fail a.exits mid) a (then_points f g) base s y _ h (λ o u e z. passed n a mid g r (base ++ o) s u e z (λ c. ran_from q kc stack n a g (base ++ o) s _ _ c (hr.begins u (base ++ o))))

      back : (p : List Step) (how : How) (t : NodeState) (base : List ℕ) → Ran q kc stack n a (then_points f g) base (resume_at q kc stack (then_points f g p) how t base) (does (row_of q) (node.followed x r) (Back p how) t n)
      back [] how t base = tt
      back (First ∷ p) how t base = go base _ _ (hx.goes_on p how t base)
      back (Second (Next v) ∷ p) how t base = ran_step q kc stack n a (then_points f g) base (Second (Next v)) _ _ (hr.goes_on p how t base)
      back (Second (Leave v) ∷ p) how t base = tt
      back (Second (Raised v) ∷ p) how t base = tt
      back (Second (Return v) ∷ p) how t base = tt
      back (Second (Stopped v) ∷ p) how t base = tt
      back (Second Undefined ∷ p) how t base = tt

  -- an operand is read
  abbrev Uses : Option Value → Value → Type 0
  Uses x v = (other : Stepped Machine) (go : Value → Stepped Machine) → machine.using x other go ≡ go v

  reading_ran : (n : ℕ) (a : Lay) (pts : Value → Points) (k : Value → node.R) (base : List ℕ) (s : Machine) (t : NodeState) (x : Option Value) → ((v : Value) → Uses x v → Ran q kc stack n a (pts v) base s (does (row_of q) (k v) Begin t n)) → Ran q kc stack n a (read_points pts) base s (shift [] (Second (node.used x)) (does (row_of q) (on_next k (node.used x)) Begin t n))
  reading_ran n a pts k base s t None h = tt
  reading_ran n a pts k base s t (Some value.Unset) h = tt
  reading_ran n a pts k base s t (Some value.None) h = ran_step q kc stack n a (read_points pts) base _ s _ (h value.None (λ o go. refl))
  reading_ran n a pts k base s t (Some (value.Bool b)) h = ran_step q kc stack n a (read_points pts) base _ s _ (h (value.Bool b) (λ o go. refl))
  reading_ran n a pts k base s t (Some (value.Int z)) h = ran_step q kc stack n a (read_points pts) base _ s _ (h (value.Int z) (λ o go. refl))
  reading_ran n a pts k base s t (Some (value.Str text)) h = ran_step q kc stack n a (read_points pts) base _ s _ (h (value.Str text) (λ o go. refl))
  reading_ran n a pts k base s t (Some (value.Obj m)) h = ran_step q kc stack n a (read_points pts) base _ s _ (h (value.Obj m) (λ o go. refl))

  pub reading_begins : (n : ℕ) (x : Operand) (a : Lay) (pts : Value → Points) (k : Value → node.R) (base : List ℕ) (s : Machine) (t : NodeState) → ((v : Value) → ((other : Stepped Machine) (go : Value → Stepped Machine) → machine.using (machine.operand_value (flat_frame t.frame) x) other go ≡ go v) → Ran q kc stack n a (pts v) base s (does (row_of q) (k v) Begin t n)) → Ran q kc stack n a (read_points pts) base s (does (row_of q) (node.reading x k) Begin t n)
  reading_begins n x a pts k base s t h =
      reading_ran n a pts k base s t (node.operand_value t.frame x) h

  pub reading_back : (n : ℕ) (x : Operand) (k : Value → node.R) (a : Lay) (pts : Value → Points) → ((v : Value) (p : List Step) (how : How) (t : NodeState) (base : List ℕ) → Ran q kc stack n a (pts v) base (resume_at q kc stack (pts v p) how t base) (does (row_of q) (k v) (Back p how) t n)) → (p : List Step) (how : How) (t : NodeState) (base : List ℕ) → Ran q kc stack n a (read_points pts) base (resume_at q kc stack (read_points pts p) how t base) (does (row_of q) (node.reading x k) (Back p how) t n)
  reading_back n x k a pts hg [] how t base = tt
  reading_back n x k a pts hg (First ∷ p) how t base = tt
  reading_back n x k a pts hg (Second (Next v) ∷ p) how t base = ran_step q kc stack n a (read_points pts) base (Second (Next v)) _ _ (hg v p how t base)
  reading_back n x k a pts hg (Second (Leave v) ∷ p) how t base = tt
  reading_back n x k a pts hg (Second (Raised v) ∷ p) how t base = tt
  reading_back n x k a pts hg (Second (Return v) ∷ p) how t base = tt
  reading_back n x k a pts hg (Second (Stopped v) ∷ p) how t base = tt
  reading_back n x k a pts hg (Second Undefined ∷ p) how t base = tt

  pub mark_comes : (l : ℕ) (ls : List Line) (t : NodeState) (out : List ℕ) → C q (go_at q kc stack (Label l ∷ ls) t out) (go_at q kc stack ls t out)
  mark_comes l ls t out = record { by = λ k. (k, omega arith, go k) }
    where
      go : (k : ℕ) → exec q k (go_at q kc stack (Label l ∷ ls) t out) ≡ exec q k (go_at q kc stack ls t out)
      go zero = refl
      go (suc k) = refl

  pub goto_goes : (l : ℕ) (ls to : List Line) (t : NodeState) (out : List ℕ) → find l (q.lines kc) ≡ to → G q (go_at q kc stack (Do (flat.Goto l) ∷ ls) t out) (go_at q kc stack to t out)
  goto_goes l ls to t out e = one_step _ _ _ _ (ap (λ u. More (go_at q kc stack u t out)) e)

  pub tail_runs : (n : ℕ) (r : node.R) (entry tail : List Line) (a : Lay) (pts : Points) → ((t : NodeState) (out : List ℕ) → C q (go_at q kc stack tail t out) (go_at q kc stack a.tail t out)) → Runs q kc stack n r entry (lay a.fail a.exits tail) pts → Runs q kc stack n r entry a pts
  tail_runs n r entry tail a pts f h = record {
    begins = λ t base. ran_tail q kc stack n a tail pts base _ _ f (h.begins t base);
    goes_on = λ p how t base. ran_tail q kc stack n a tail pts base _ _ f (h.goes_on p how t base);
  }

  -- a choice
  choose_begins : (n : ℕ) (v : Value) (y z : node.R) (ey ez : List Line) (a : Lay) (fy fz : Points) (s : Machine) (t : NodeState) (base : List ℕ) (k : ℕ) → Runs q kc stack n y ey a fy → Runs q kc stack n z ez a fz → find k (q.lines kc) ≡ ey → mstep q s ≡ machine.branches (mm q) (go_at q kc stack ez t base) ez k v → Ran q kc stack n a (choose_points v fy fz) base s (does (row_of q) (choose v y z) Begin t n)
  choose_begins n value.Unset y z ey ez a fy fz s t base k hy hz e st = tt
  choose_begins n value.None y z ey ez a fy fz s t base k hy hz e st = tt
  choose_begins n (value.Bool true) y z ey ez a fy fz s t base k hy hz e st =
      ran_from q kc stack n a fy base s _ _ (one q _ _ (st ∙ ap (λ u. More (go_at q kc stack u t base)) e)) (hy.begins t base)
  choose_begins n (value.Bool false) y z ey ez a fy fz s t base k hy hz e st = ran_from q kc stack n a fz base s _ _ (one q _ _ st) (hz.begins t base)
  choose_begins n (value.Int i) y z ey ez a fy fz s t base k hy hz e st = tt
  choose_begins n (value.Str text) y z ey ez a fy fz s t base k hy hz e st = tt
  choose_begins n (value.Obj i) y z ey ez a fy fz s t base k hy hz e st = tt

  choose_back : (n : ℕ) (v : Value) (y z : node.R) (ey ez : List Line) (a : Lay) (fy fz : Points) (p : List Step) (how : How) (t : NodeState) (base : List ℕ) → Runs q kc stack n y ey a fy → Runs q kc stack n z ez a fz → Ran q kc stack n a (choose_points v fy fz) base (resume_at q kc stack (choose_points v fy fz p) how t base) (does (row_of q) (choose v y z) (Back p how) t n)
  choose_back n value.Unset y z ey ez a fy fz p how t base hy hz = tt
  choose_back n value.None y z ey ez a fy fz p how t base hy hz = tt
  choose_back n (value.Bool true) y z ey ez a fy fz p how t base hy hz = hy.goes_on p how t base
  choose_back n (value.Bool false) y z ey ez a fy fz p how t base hy hz = hz.goes_on p how t base
  choose_back n (value.Int i) y z ey ez a fy fz p how t base hy hz = tt
  choose_back n (value.Str text) y z ey ez a fy fz p how t base hy hz = tt
  choose_back n (value.Obj i) y z ey ez a fy fz p how t base hy hz = tt

  pub if_runs : (n : ℕ) (x : Operand) (k : ℕ) (y z : node.R) (ey ez : List Line) (a : Lay) (fy fz : Points) → find k (q.lines kc) ≡ ey → Runs q kc stack n y ey a fy → Runs q kc stack n z ez a fz → Runs q kc stack n (node.reading x (λ v. choose v y z)) (Do (flat.Branch x k) ∷ ez) a (read_points (λ v. choose_points v fy fz))
  if_runs n x k y z ey ez a fy fz e hy hz = record {
    begins = λ t base. reading_begins n x a (λ v. choose_points v fy fz) (λ v. choose v y z) base _ t (λ v u. choose_begins n v y z ey ez a fy fz _ t base k hy hz e (u _ _));
    goes_on = reading_back n x (λ v. choose v y z) a (λ v. choose_points v fy fz) (λ v p how t base. choose_back n v y z ey ez a fy fz p how t base hy hz);
  }

  -- a loop: a turn, and the further turns
  module _ (k : ℕ) (b : tree.Block) (body mid : List Line) (a : Lay) (f : Points) (n : ℕ) (e1 : find k (q.lines kc) ≡ body) (e2 : find (k + 1) (q.lines kc) ≡ mid) (turns : (m : ℕ) → m ≤ n → Runs q kc stack m (node.block_row (lang q) b) body (lay a.fail ((k + 1) ∷ a.exits) (Do (flat.Goto k) ∷ Label (k + 1) ∷ mid)) f) where
    abbrev inside : Lay
    inside = lay a.fail ((k + 1) ∷ a.exits) (Do (flat.Goto k) ∷ Label (k + 1) ∷ mid)

    abbrev outside : Lay
    outside = lay a.fail a.exits mid

    again : (m : ℕ) → m ≤ n → (base : List ℕ) (s : Machine) (x : Res NodeState) → Ran q kc stack m inside f base s x → Ran q kc stack m outside f base s (turned x (λ u. run_rows m (node.OfLoop b) Begin u))
    again m le base s (Spent o) h = h
    again m le base s (Paused o t v p) h = h
    again zero le base s (Ended o t (Next v)) h = let d = h.by 0 in subst (λ u. SpentAt q 0 s (base ++ u)) (sym (append-nil o)) (d.0, d.1, d.2)
    again (suc m) le base s (Ended o t (Next v)) h =
        ran_before q kc stack (suc m) outside f base o s _
        (ran_from q kc stack (suc m) outside f (base ++ o) s _ _ h
        (ran_goes q kc stack m outside f (base ++ o) _ _ _ (goto_goes k _ body t (base ++ o) e1)
        (again m (omega arith) (base ++ o) _ _ ((turns m (omega arith)).begins t (base ++ o)))))
    again m le base s (Ended o t (Leave zero)) h = subst (λ u. C q s (go_at q kc stack u t (base ++ o))) e2 h
    again m le base s (Ended o t (Leave (suc l))) h = h
    again m le base s (Ended o t (Raised e)) h = h
    again m le base s (Ended o t (Return v)) h = h
    again m le base s (Ended o t (Stopped kind)) h = h
    again m le base s (Ended o t Undefined) h = tt

    pub loop_runs : Runs q kc stack n (Loop (node.block_row (lang q) b) (node.OfLoop b)) (Label k ∷ body) outside f
    loop_runs = record {
      begins = λ t base. ran_from q kc stack n outside f base _ _ _ (mark_comes k body t base) (again n (omega arith) base _ _ ((turns n (omega arith)).begins t base));
      goes_on = λ p how t base. again n (omega arith) base _ _ ((turns n (omega arith)).goes_on p how t base);
    }

  -- a guarded body
  abbrev guarded_by : ℕ → ℕ → List Line → Lay → Lay
  guarded_by k d eh a = lay k a.exits (Do (flat.Goto (k + 1)) ∷ Label k ∷ Do (flat.Caught d) ∷ eh)

  pub catch_runs : (n k d : ℕ) (b h : node.R) (eb eh mid : List Line) (a : Lay) (fb fh : Points) → find k (q.lines kc) ≡ Do (flat.Caught d) ∷ eh → find (k + 1) (q.lines kc) ≡ mid → Runs q kc stack n b eb (lay k a.exits (Do (flat.Goto (k + 1)) ∷ Label k ∷ Do (flat.Caught d) ∷ eh)) fb → Runs q kc stack n h eh (lay a.fail a.exits mid) fh → Runs q kc stack n (Then b (on_raised (node.handled d h))) eb (lay a.fail a.exits mid) (catch_points fb fh)
  catch_runs n k d b h eb eh mid a fb fh e1 e2 hb hh = record { begins = λ t base. go base _ _ (hb.begins t base); goes_on = back }
    where
      next : (base : List ℕ) (s : Machine) (t : NodeState) (e : End) → EndedAt q kc stack (guarded_by k d eh a) s t e base → Ran q kc stack n (lay a.fail a.exits mid) (λ p. catch_points fb fh (Second e ∷ p)) base s (does (row_of q) (on_raised (node.handled d h) e) Begin t n)
      next base s t (Next v) c = subst (λ u. C q s (go_at q kc stack mid t u)) (sym (append-nil base)) (comes_trans _ _ _ _ _ c (goes_some _ _ _ _ (goto_goes (k + 1) _ mid t base e2)))
      next base s t (Leave l) c = subst (λ u. EndedAt q kc stack (lay a.fail a.exits mid) s t (Leave l) u) (sym (append-nil base)) c
      next base s t (Raised x) c =
          ran_step q kc stack n (lay a.fail a.exits mid) (λ p. catch_points fb fh (Second (Raised x) ∷ p)) base (Second (Next value.None)) s _
          (ran_from q kc stack n (lay a.fail a.exits mid) fh base s _ _ (comes_trans _ _ _ _ _ c (one q _ _ (ap (λ u. mstep q (machine.at kc u (flat_frame t.frame) (Some x) stack (fw q t.around) base)) e1))) (hh.begins (node.writes t d (value.Obj x)) base))
      next base s t (Return v) c = subst (λ u. EndedAt q kc stack (lay a.fail a.exits mid) s t (Return v) u) (sym (append-nil base)) c
      next base s t (Stopped kind) c = subst (λ u. EndedAt q kc stack (lay a.fail a.exits mid) s t (Stopped kind) u) (sym (append-nil base)) c
      next base s t Undefined c = tt

      go : (base : List ℕ) (s : Machine) (y : Res NodeState) → Ran q kc stack n (guarded_by k d eh a) fb base s y → Ran q kc stack n (lay a.fail a.exits mid) (catch_points fb fh) base s (after y (λ e u. interp (run_rows n) (on_raised (node.handled d h) e) Begin u))
      go base s y c = ran_after q kc stack n (guarded_by k d eh a) (lay a.fail a.exits mid) (catch_points fb fh) base s y _ c (λ o u e z. next (base ++ o) s u e z)

      back : (p : List Step) (how : How) (t : NodeState) (base : List ℕ) → Ran q kc stack n (lay a.fail a.exits mid) (catch_points fb fh) base (resume_at q kc stack (catch_points fb fh p) how t base) (does (row_of q) (Then b (on_raised (node.handled d h))) (Back p how) t n)
      back [] how t base = tt
      back (First ∷ p) how t base = go base _ _ (hb.goes_on p how t base)
      back (Second (Next v) ∷ p) how t base = tt
      back (Second (Leave v) ∷ p) how t base = tt
      back (Second (Return v) ∷ p) how t base = tt
      back (Second (Stopped v) ∷ p) how t base = tt
      back (Second Undefined ∷ p) how t base = tt
      back (Second (Raised v) ∷ []) how t base = tt
      back (Second (Raised v) ∷ First ∷ p) how t base = tt
      back (Second (Raised v) ∷ Second (Next w) ∷ p) how t base =
          ran_step q kc stack n (lay a.fail a.exits mid) (catch_points fb fh) base (Second (Raised v)) _ _ (ran_step q kc stack n (lay a.fail a.exits mid) (λ p. catch_points fb fh (Second (Raised v) ∷ p)) base (Second (Next w)) _ _ (hh.goes_on p how t base))
      back (Second (Raised v) ∷ Second (Leave w) ∷ p) how t base = tt
      back (Second (Raised v) ∷ Second (Raised w) ∷ p) how t base = tt
      back (Second (Raised v) ∷ Second (Return w) ∷ p) how t base = tt
      back (Second (Raised v) ∷ Second (Stopped w) ∷ p) how t base = tt
      back (Second (Raised v) ∷ Second Undefined ∷ p) how t base = tt
