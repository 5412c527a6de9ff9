-- What the flat machine does where the row of a block has an outcome.
use Rattle.std.proofs.Common.{◌≡◌, ◌≢◌, ℕ, zero, suc, ◌<◌, ◌≤◌, List, [], ◌∷◌, ◌++◌, Option, Some, None, Bool, option_map, refl, ap, ◌∙◌, subst, arith, append_assoc}
use Rattle.nu_run.specs.declared.End as run_end
use Rattle.nu_run.specs.declared.End.TheVariants as end
use Rattle.nu_run.specs.Runs as runs
use Rattle.nu_run.specs.Steps.{Stepped, More, Halt, on_step, run}
use Rattle.nu_run.proofs.Runs.{Comes, Goes, comes_trans, one_step, goes_some}
use Rattle.nu_value.specs.declared.header.Header.{Header}
use Rattle.nu_value.specs.declared.value.Value.{Value}
use Rattle.nu_value.specs.declared.value.Value.TheVariants as value
use Rattle.nu_calls.specs.Surroundings.{Surroundings, kept_at, keep_at, with_kept}
use Rattle.nu_rows.specs.Rows.{End, Next, Leave, Raised, Return, Stopped, Undefined, Step, First, Second, How, Send, Throw, Begin, Back, Res, Spent, Paused, Ended, after, shift, before, does}
use Rattle.op_forms.specs.Rules.{Rules}
use Rattle.nu_calls.specs.Calls.{Pause, State, enlisted}
use Rattle.node_tree.specs.Blocks as tree
use Rattle.node_tree.specs.Nodes as node
use Rattle.flow_code.specs.declared.statement.Line.{Line}
use Rattle.flow_code.specs.Machine as machine
use Rattle.flow_code.specs.Run.{find, with_lines}
use Rattle.flow_lower.specs.Lower.{exit}
use Rattle.flow_lower.proofs.Points.{Lay, lay, Point, Points, body_points}

abbrev pub NodeState : Type 0
NodeState = State node.Frame

abbrev pub Machine : Type 0
Machine = machine.State (List Line)

abbrev pub Waiting : Type 0
Waiting = machine.Waiting (List Line)

abbrev pub Stack : Type 0
Stack = machine.Stack (List Line)

-- a frame of the nodes as one of the flat code
abbrev pub flat_frame : node.Frame → machine.Frame
flat_frame f = record { code = f.code; given = f.given; cells = f.cells; registers = f.temps }

abbrev pub waiting : ℕ → node.Frame → Point → Waiting
waiting c f pt = record { code = c; frame = flat_frame f; pending = None; to = pt.to; line = pt.line; fail = pt.fail; next = pt.next }

-- a map over what paused generators keep
abbrev pub map_kept : {K J : Type 0} → (K → J) → List (Option K) → List (Option J)
map_kept f [] = []
map_kept f (k ∷ ks) = option_map f k ∷ map_kept f ks

pub kept_map : {K J : Type 0} (f : K → J) (ks : List (Option K)) (n : ℕ) → kept_at (map_kept f ks) n ≡ option_map f (kept_at ks n)
kept_map f [] n = refl
kept_map f (k ∷ ks) zero = refl
kept_map f (k ∷ ks) (suc n) = kept_map f ks n

pub keep_map : {K J : Type 0} (f : K → J) (ks : List (Option K)) (n : ℕ) (x : Option K) → keep_at (map_kept f ks) n (option_map f x) ≡ map_kept f (keep_at ks n x)
keep_map f [] zero x = refl
keep_map f [] (suc n) x = ap (λ u. None ∷ u) (keep_map f [] n x)
keep_map f (k ∷ ks) zero x = refl
keep_map f (k ∷ ks) (suc n) x = ap (λ u. option_map f k ∷ u) (keep_map f ks n x)

-- the code of functions and the blocks that it stands for
pub record Code : Type 0 where
  pub rules : Rules
  pub scripts : ℕ
  pub file : List ℕ
  pub headers : List Header
  pub has : Bool → ℕ → Bool
  pub there : ℕ → Bool
  pub lines : ℕ → List Line
  pub blocks : ℕ → tree.Block
  pub frames : Bool → ℕ → List Value → List Value → Option node.Frame

module _ (q : Code) where
  abbrev pub mm : machine.Functions (List Line)
  mm = with_lines q.rules q.scripts q.file q.headers q.has q.lines

  abbrev pub lang : node.L
  lang = record { rules = q.rules; scripts = q.scripts; body = node.OfCode; frame = q.frames; code = λ f. f.code }

  abbrev pub row_of : node.Item → node.R
  row_of = node.item_row lang q.blocks

  -- what a paused generator of the nodes keeps, as flat code does
  abbrev pub keeps : Pause node.Frame → Waiting
  keeps k = waiting k.code k.frame (body_points (q.blocks k.code) k.place)

  -- surroundings of the nodes as those of the flat code: a place is where it stands in the code
  abbrev pub fw : Surroundings (Pause node.Frame) → Surroundings Waiting
  fw a = record { world = a.world; kept = map_kept keeps a.kept; input = a.input; frames = a.frames }

  pub fw_kept : (a : Surroundings (Pause node.Frame)) (g : ℕ) (x : Option (Pause node.Frame)) → with_kept (fw a) g (option_map keeps x) ≡ fw (with_kept a g x)
  fw_kept a g x = ap (λ u. record { world = a.world; kept = u; input = a.input; frames = a.frames }) (keep_map keeps a.kept g x)

  abbrev pub mstep : Machine → Stepped Machine
  mstep = machine.step mm

  abbrev pub exec : ℕ → Machine → runs.Run
  exec = run mstep machine.printed

  abbrev pub C : Machine → Machine → Type 0
  C s t = Comes mstep machine.printed s t

  abbrev pub G : Machine → Machine → Type 0
  G s t = Goes mstep machine.printed s t

  -- in a step or more the machine does what this says
  pub record Reaches (s : Machine) (x : Stepped Machine) : Type 0 where
    pub by : (k : ℕ) → (j : ℕ) × (k < j) × (exec j s ≡ on_step x (exec k))

  pub reaches_step : (s : Machine) (x : Stepped Machine) → mstep s ≡ x → Reaches s x
  reaches_step s x e = record { by = λ k. (suc k, omega arith, ap (λ y. on_step y (exec k)) e) }

  pub reaches_after : (s t : Machine) (x : Stepped Machine) → C s t → Reaches t x → Reaches s x
  reaches_after s t x p r = record { by = λ k. let b = r.by k in let a = p.by b.0 in (a.0, omega (arith, a.1, b.1), a.2 ∙ b.2) }

  pub reaches_goes : (s t : Machine) → Reaches s (More t) → G s t
  reaches_goes s t r = record { by = r.by }

  pub reaches_comes : (s t : Machine) → Reaches s (More t) → C s t
  reaches_comes s t r = goes_some _ _ _ _ (reaches_goes s t r)

  pub reaches_is : (s : Machine) (x y : Stepped Machine) → x ≡ y → Reaches s x → Reaches s y
  reaches_is s x y e r = subst (λ u. Reaches s u) e r

  pub one : (s t : Machine) → mstep s ≡ More t → C s t
  one s t e = goes_some _ _ _ _ (one_step _ _ _ _ e)

  -- the machine has ended so within some bound
  abbrev pub Halted : Machine → List ℕ → run_end.End → Type 0
  Halted s out e = (j : ℕ) × (exec j s ≡ runs.Ended out e)

  pub halted_after : (s t : Machine) (out : List ℕ) (e : run_end.End) → C s t → Halted t out e → Halted s out e
  halted_after s t out e p h = let a = p.by h.0 in (a.0, a.2 ∙ h.1)

  pub halted_by : (s : Machine) (out : List ℕ) (e : run_end.End) → Reaches s (Halt out e) → Halted s out e
  halted_by s out e r = let a = r.by 0 in (a.0, a.2)

  abbrev pub SpentAt : ℕ → Machine → List ℕ → Type 0
  SpentAt m s out = (j : ℕ) × (m ≤ j) × (exec j s ≡ runs.Going out)

  module _ (kc : ℕ) (stack : Stack) where
    abbrev pub code : List Line
    code = q.lines kc

    abbrev pub go_at : List Line → NodeState → List ℕ → Machine
    go_at ls t out = machine.at kc ls (flat_frame t.frame) None stack (fw t.around) out

    abbrev pub fail_at : ℕ → NodeState → ℕ → List ℕ → Machine
    fail_at l t e out = machine.at kc (find l code) (flat_frame t.frame) (Some e) stack (fw t.around) out

    -- the state in which a pause goes on
    abbrev pub resume_at : Point → How → NodeState → List ℕ → Machine
    resume_at pt (Send v) t out = go_at pt.next (node.writes t pt.to v) out
    resume_at pt (Throw e) t out =
        fail_at pt.fail (node.writes (enlisted lang pt.line e t) pt.to value.Unset) e out

    abbrev pub PausedAt : Machine → NodeState → Value → Point → List ℕ → Type 0
    PausedAt s t v pt out = Reaches s (machine.paused mm (waiting kc t.frame pt) v stack (fw t.around) out)

    -- nothing is said of a body that gives back Unset
    abbrev pub EndedAt : Lay → Machine → NodeState → End → List ℕ → Type 0
    EndedAt a s t (Next v) out = C s (go_at a.tail t out)
    EndedAt a s t (Leave k) out = C s (go_at (find (exit a.exits k) code) t out)
    EndedAt a s t (Raised e) out = C s (fail_at a.fail t e out)
    EndedAt a s t (Return v) out = v ≢ value.Unset → Reaches s (machine.body_ended mm t.frame.code stack (fw t.around) out (Return v))
    EndedAt a s t (Stopped kind) out = Halted s out (end.Stopped kind)
    EndedAt a s t Undefined out = Unit {0}

    abbrev pub Ran : ℕ → Lay → Points → List ℕ → Machine → Res NodeState → Type 0
    Ran m a pts base s (Spent o) = SpentAt m s (base ++ o)
    Ran m a pts base s (Paused o t v p) = PausedAt s t v (pts p) (base ++ o)
    Ran m a pts base s (Ended o t e) = EndedAt a s t e (base ++ o)

    pub spent_from : (m : ℕ) (s s' : Machine) (out : List ℕ) → C s s' → SpentAt m s' out → SpentAt m s out
    spent_from m s s' out p r = let b = p.by r.0 in (b.0, omega (arith, b.1, r.1), b.2 ∙ r.2)

    pub ended_from : (a : Lay) (s s' : Machine) (u : NodeState) (e : End) (out : List ℕ) → C s s' → EndedAt a s' u e out → EndedAt a s u e out
    ended_from a s s' u (Next v) out p r = comes_trans _ _ _ _ _ p r
    ended_from a s s' u (Leave k) out p r = comes_trans _ _ _ _ _ p r
    ended_from a s s' u (Raised e) out p r = comes_trans _ _ _ _ _ p r
    ended_from a s s' u (Return v) out p r = λ d. reaches_after s s' _ p (r d)
    ended_from a s s' u (Stopped kind) out p r = halted_after s s' out (end.Stopped kind) p r
    ended_from a s s' u Undefined out p r = tt

    pub ran_from : (m : ℕ) (a : Lay) (pts : Points) (base : List ℕ) (s s' : Machine) (r : Res NodeState) → C s s' → Ran m a pts base s' r → Ran m a pts base s r
    ran_from m a pts base s s' (Spent o) p r = spent_from m s s' (base ++ o) p r
    ran_from m a pts base s s' (Paused o t v x) p r = reaches_after s s' _ p r
    ran_from m a pts base s s' (Ended o t e) p r = ended_from a s s' t e (base ++ o) p r

    pub ran_goes : (m : ℕ) (a : Lay) (pts : Points) (base : List ℕ) (s s' : Machine) (r : Res NodeState) → G s s' → Ran m a pts base s' r → Ran (suc m) a pts base s r
    ran_goes m a pts base s s' (Spent o) p r = let b = p.by r.0 in (b.0, omega (arith, b.1, r.1), b.2 ∙ r.2)
    ran_goes m a pts base s s' (Paused o t v x) p r = reaches_after s s' _ (goes_some _ _ _ _ p) r
    ran_goes m a pts base s s' (Ended o t e) p r = ended_from a s s' t e (base ++ o) (goes_some _ _ _ _ p) r

    -- what was printed before, and a step in front of a place
    pub ran_shift : (m : ℕ) (a : Lay) (pts : Points) (base o : List ℕ) (x : Step) (s : Machine) (r : Res NodeState) → Ran m a (λ p. pts (x ∷ p)) (base ++ o) s r → Ran m a pts base s (shift o x r)
    ran_shift m a pts base o x s (Spent p) h = subst (λ u. SpentAt m s u) (append_assoc base o p) h
    ran_shift m a pts base o x s (Paused z t v p) h = subst (λ u. PausedAt s t v (pts (x ∷ p)) u) (append_assoc base o z) h
    ran_shift m a pts base o x s (Ended z t e) h = subst (λ u. EndedAt a s t e u) (append_assoc base o z) h

    pub ran_before : (m : ℕ) (a : Lay) (pts : Points) (base o : List ℕ) (s : Machine) (r : Res NodeState) → Ran m a pts (base ++ o) s r → Ran m a pts base s (before o r)
    ran_before m a pts base o s (Spent p) h = subst (λ u. SpentAt m s u) (append_assoc base o p) h
    ran_before m a pts base o s (Paused z t v p) h = subst (λ u. PausedAt s t v (pts p) u) (append_assoc base o z) h
    ran_before m a pts base o s (Ended z t e) h = subst (λ u. EndedAt a s t e u) (append_assoc base o z) h

    -- nothing printed, and a step in front of a place
    pub ran_step : (m : ℕ) (a : Lay) (pts : Points) (base : List ℕ) (x : Step) (s : Machine) (r : Res NodeState) → Ran m a (λ p. pts (x ∷ p)) base s r → Ran m a pts base s (shift [] x r)
    ran_step m a pts base x s (Spent p) h = h
    ran_step m a pts base x s (Paused z t v p) h = h
    ran_step m a pts base x s (Ended z t e) h = h

    pub ran_tail : (m : ℕ) (a : Lay) (tail : List Line) (pts : Points) (base : List ℕ) (s : Machine) (r : Res NodeState) → ((t : NodeState) (out : List ℕ) → C (go_at tail t out) (go_at a.tail t out)) → Ran m (lay a.fail a.exits tail) pts base s r → Ran m a pts base s r
    ran_tail m a tail pts base s (Spent o) f h = h
    ran_tail m a tail pts base s (Paused o t v p) f h = h
    ran_tail m a tail pts base s (Ended o t (Next v)) f h = comes_trans _ _ _ _ _ h (f t (base ++ o))
    ran_tail m a tail pts base s (Ended o t (Leave k)) f h = h
    ran_tail m a tail pts base s (Ended o t (Raised e)) f h = h
    ran_tail m a tail pts base s (Ended o t (Return v)) f h = h
    ran_tail m a tail pts base s (Ended o t (Stopped kind)) f h = h
    ran_tail m a tail pts base s (Ended o t Undefined) f h = tt

    -- a row and what follows it
    pub ran_after : (m : ℕ) (a' a : Lay) (pts : Points) (base : List ℕ) (s : Machine) (r : Res NodeState) (g : End → NodeState → Res NodeState) → Ran m a' (λ p. pts (First ∷ p)) base s r → ((o : List ℕ) (t : NodeState) (e : End) → EndedAt a' s t e (base ++ o) → Ran m a (λ p. pts (Second e ∷ p)) (base ++ o) s (g e t)) → Ran m a pts base s (after r g)
    ran_after m a' a pts base s (Spent o) g h next = h
    ran_after m a' a pts base s (Paused o t v p) g h next = h
    ran_after m a' a pts base s (Ended o t e) g h next = ran_shift m a pts base o (Second e) s (g e t) (next o t e h)

    -- the lines run as the row does, from the beginning and from each place
    pub record Runs (n : ℕ) (r : node.R) (entry : List Line) (a : Lay) (pts : Points) : Type 0 where
      pub begins : (t : NodeState) (base : List ℕ) → Ran n a pts base (go_at entry t base) (does row_of r Begin t n)
      pub goes_on : (p : List Step) (how : How) (t : NodeState) (base : List ℕ) → Ran n a pts base (resume_at (pts p) how t base) (does row_of r (Back p how) t n)
