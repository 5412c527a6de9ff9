-- Operations go right where their arguments fit, and so do lines and pauses.
use Rattle.std.proofs.Common.{◌≡◌, ℕ, ◌≤◌, List, [], ◌∷◌, Option, Some, None, true, if◌then◌else◌, sym, subst, inl}
use Rattle.std.specs.Prelude.{IsTrue}
use Rattle.nu_value.specs.declared.value.Value.{Value}
use Rattle.nu_value.specs.declared.value.Value.TheVariants as value
use Rattle.nu_value.specs.Names.{NameList}
use Rattle.op_forms.specs.declared.end.After.{After}
use Rattle.op_forms.specs.declared.end.After.TheVariants as behind
use Rattle.op_forms.specs.declared.end.How.{How}
use Rattle.op_forms.specs.declared.end.OpEnd.{OpEnd}
use Rattle.op_forms.specs.declared.end.OpEnd.TheVariants as opend
use Rattle.op_forms.specs.declared.op.Op.{Op}
use Rattle.op_forms.specs.declared.op.Op.TheVariants as op
use Rattle.op_forms.specs.declared.world.World.{World}
use Rattle.op_forms.specs.Fits.{fits as args_fit}
use Rattle.op_forms.specs.Answers.{Answer}
use Rattle.nu_rows.specs.Rows.{End, Next, Leave, Raised, Return, Stopped, Undefined, Begin, Act, Yld, Sub, Entry, Instead, entered, run, does}
use Rattle.nu_rows.specs.Words.{on_raised}
use Rattle.nu_calls.specs.Surroundings.{Scene, scene, with_heap}
use Rattle.nu_calls.specs.Ends.{begun_by}
use Rattle.nu_calls.specs.Calls.{unsaid, began, operates, operation, enlisted, on_line, operate, yields}
use Rattle.py_meaning.specs.Frames.{Item, R as Rw}
use Rattle.py_safe.specs.Heaps.{Mark, View, view, Nature, Grows, KeepsGenerators, IsOpen, AllOpen, IsThere, IsLoose}
use Rattle.py_safe.specs.Rules.{GivesTruth, IsTruth, EndIsTruth, gives_nature, IsOf, OfBehind, EndIsOf, EndIsThis, EndLaw, AfterLaw, Leaves, Handed, WorldLaw}
use Rattle.py_safe.specs.Constructs.{Room}
use Rattle.py_safe.proofs.Right.{S, heap_of, Program, roster, source, rows, seen, MayBeThere, AllMaybe, Tables, nowhere, Lawful, Kind, Goes, Met, Agree, RightBy}
use Rattle.py_safe.proofs.Growth.{grows_trans, thrown_more, all_maybe_more}
use Rattle.py_safe.proofs.Worlds.{world_left}
use Rattle.py_safe.proofs.Rows.{yield_right, then_ends}
use Rattle.py_safe.proofs.Scenes.{Reached, scene_lawful}
use Rattle.py_safe.proofs.Begun.{EndGives, lined, begun_met}

-- ---- what operations give

abbrev pub GivesOf : View → Option Nature → Value → Type 0
GivesOf v None x = Unit {0}
GivesOf v (Some s) x = IsOf v.heap s x

-- what an operation gives
pub record OpGives (o : Op) (v : View) (x : Value) : Type 0 where
  pub there : IsThere v x
  pub truth : GivesTruth o → IsTruth x
  pub object : GivesOf v (gives_nature o) x

-- an object of some nature, that is there, keeps it
of_there : (v more : View) → Grows v more → (s : Nature) (x : Value) → IsThere v x → IsOf v.heap s x → IsOf more.heap s x
of_there v more g s (value.Obj n) t p = subst (λ a. a ≡ s) (sym (g.natures n t.0)) p
of_there v more g s value.Unset t p = absurd p
of_there v more g s value.None t p = absurd p
of_there v more g s (value.Bool b) t p = absurd p
of_there v more g s (value.Int i) t p = absurd p
of_there v more g s (value.Str text) t p = absurd p

given_of : (v : View) (s : Option Nature) (x : Value) → EndIsOf v.heap s (opend.Give x) → GivesOf v s x
given_of v None x p = tt
given_of v (Some s) x p = p

-- where an end gives nothing of a nature
line_of_nature : (h : View) (s : Option Nature) (v : View) (x : Value) → EndIsOf h.heap s opend.Line → GivesOf v s x
line_of_nature h None v x p = tt
line_of_nature h (Some s) v x p = absurd p

put_of : (h : View) (s : Option Nature) (text : List ℕ) → EndIsOf h.heap s (opend.Put text) → EndIsOf h.heap s opend.Line
put_of h None text p = tt
put_of h (Some s) text p = absurd p

module _ (z : Program) where
  truth_behind : (after : After) (w : World) (y x : Value) → EndIsTruth (z.rules.finish after w y).end → (z.rules.finish after w y).end ≡ opend.Give x → IsTruth x
  truth_behind after w y x p is = subst EndIsTruth is p

  made_behind : (h : View) (s : Nature) (after : After) → OfBehind h.heap s after → AfterLaw h after → (w : World) (marks : ℕ → Mark) (y x : Value) → Grows h (view w.heap marks) → Grows (view w.heap marks) (view (z.rules.finish after w y).heap marks) → (z.rules.finish after w y).end ≡ opend.Give x → IsOf (z.rules.finish after w y).heap s x
  made_behind h s (behind.Made made) p l w marks y x g k is =
      let same : x ≡ made = subst (EndIsThis made) is (z.law.finish_made made w y) in
      let grown = grows_trans h (view w.heap marks) (view (z.rules.finish (behind.Made made) w y).heap marks) g k in
      subst (λ u. IsOf (z.rules.finish (behind.Made made) w y).heap s u) (sym same) (of_there h (view (z.rules.finish (behind.Made made) w y).heap marks) grown s made l p)
  made_behind h s other p l w marks y x g k is = absurd p

  of_behind : (h : View) (s : Option Nature) (f : ℕ) (given : List Value) (names : NameList) (after : After) → EndIsOf h.heap s (opend.Ask f given names after) → AfterLaw h after → (w : World) (marks : ℕ → Mark) (y x : Value) → Grows h (view w.heap marks) → Grows (view w.heap marks) (view (z.rules.finish after w y).heap marks) → (z.rules.finish after w y).end ≡ opend.Give x → GivesOf (view (z.rules.finish after w y).heap marks) s x
  of_behind h None f given names after p l w marks y x g k is = tt
  of_behind h (Some s) f given names after p l w marks y x g k is = made_behind h s after p l w marks y x g k is

  ends_give : (o : Op) (v : View) (e : OpEnd) → EndLaw (roster z) v e → (GivesTruth o → EndIsTruth e) → EndIsOf v.heap (gives_nature o) e → EndGives z (OpGives o) v e
  ends_give o v (opend.Give x) l t p = record { there = l; truth = t; object = given_of v (gives_nature o) x p }
  ends_give o v (opend.Raise n args) l t p = tt
  ends_give o v (opend.Stop kind) l t p = tt
  ends_give o v (opend.Ask f given names after) l t p =
      λ w marks y x g k is there. record {
        there = there;
        truth = λ q. truth_behind after w y x (z.law.finish_truth after w y (t q)) is;
        object = of_behind v (gives_nature o) f given names after p l.2 w marks y x g k is;
      }
  ends_give o v (opend.Resume g how) l t p = λ more x there. record { there = there; truth = λ q. absurd (t q); object = resume_of v (gives_nature o) more x g how p }
    where
      resume_of : (h : View) (s : Option Nature) (v : View) (x : Value) (g : ℕ) (how : How) → EndIsOf h.heap s (opend.Resume g how) → GivesOf v s x
      resume_of h None v x g how p = tt
      resume_of h (Some s) v x g how p = absurd p
  ends_give o v (opend.Put text) l t p = λ more x there. record { there = there; truth = λ q. absurd (t q); object = line_of_nature v (gives_nature o) more x (put_of v (gives_nature o) text p) }
  ends_give o v opend.Line l t p = λ more x there. record { there = there; truth = λ q. absurd (t q); object = line_of_nature v (gives_nature o) more x p }

  -- ---- rows that enter

  -- a row that enters, in every lawful state
  pub sub_right : (r : Room) (K : Kind) (v : View) (enter : S → Entry S Item) → ((tabs : Tables) (M : ℕ) → Agree z tabs M → (b : ℕ) → b ≤ M → (marks : ℕ → Mark) (s : S) → Lawful z tabs r marks s → Grows v (seen marks s) → Met z tabs r 0 K nowhere (seen marks s) (entered (run (rows z) b) (enter s))) → RightBy z r r 0 K v (Sub enter)
  sub_right r K v enter f = record {
    table = nowhere;
    right = λ tabs M agree. record { begins = λ marks s law w b le. f tabs M agree b le marks s law w; goes_on = λ p u q w how marks s law w' h b le. absurd q };
  }

  module _ (tabs : Tables) (M : ℕ) (agree : Agree z tabs M) (b : ℕ) (le : b ≤ M) (r : Room) where
    -- a scene with other objects and marks, in a lawful state
    pub reached_by : (s : S) (marks more : ℕ → Mark) (a : Scene) → Lawful z tabs r marks s → WorldLaw (roster z) a.world more → Grows (seen marks s) (view a.world.heap more) → KeepsGenerators (heap_of s) a.world.heap → Reached z tabs r (seen marks s) s more a
    reached_by s marks more a law w g k = record { lawful = scene_lawful z tabs r s a marks more law w g k; grows = g }

    -- an operation whose arguments fit
    pub fitting_met : (K : Kind) (o : Op) (args : List Value) (marks : ℕ → Mark) (s : S) → Lawful z tabs r marks s → args_fit o s.around.world args ≡ true → Met z tabs r 0 K nowhere (seen marks s) (entered (run (rows z) b) (began (source z) s (begun_by z.scripts (scene s.around) (z.rules.apply o s.around.world args)))) → Met z tabs r 0 K nowhere (seen marks s) (entered (run (rows z) b) (operates (source z) o args s))
    fitting_met K o args marks s law f m =
        subst (λ fit. Met z tabs r 0 K nowhere (seen marks s) (entered (run (rows z) b) (if fit then began (source z) s (begun_by z.scripts (scene s.around) (z.rules.apply o s.around.world args)) else Instead (unsaid s))))
        (sym (z.law.fits o s.around.world args law.world.sound f)) m

    -- and that leaves a lawful world, without new marks
    pub operated_met : (K : Kind) (o : Op) (args : List Value) (marks : ℕ → Mark) (s : S) → Lawful z tabs r marks s → args_fit o s.around.world args ≡ true → Leaves (roster z) s.around.world marks (z.rules.apply o s.around.world args) → EndGives z K (view (z.rules.apply o s.around.world args).heap marks) (z.rules.apply o s.around.world args).end → Met z tabs r 0 K nowhere (seen marks s) (entered (run (rows z) b) (operates (source z) o args s))
    operated_met K o args marks s law f k gives =
        let x : Answer = z.rules.apply o s.around.world args in
        let a : Scene = with_heap (scene s.around) x.heap in
        fitting_met K o args marks s law f
        (begun_met z tabs M agree b le r (seen marks s) s marks a (reached_by s marks marks a law (world_left (roster z) s.around.world marks x law.world k) k.grows k.generators) K x.end k.end gives)

-- ---- arguments

-- arguments that fit from a view on
abbrev pub FitFrom : Program → View → Op → List Value → Type 0
FitFrom z v o args = (w : World) (marks : ℕ → Mark) → WorldLaw (roster z) w marks → Grows v (view w.heap marks) → args_fit o w args ≡ true

-- functions are made in a way of their own
abbrev pub NoFunc : Op → Type 0
NoFunc op.Func = ⊥
NoFunc other = Unit {0}

pub open_loose : (marks : ℕ → Mark) (x : Value) → IsOpen marks x → IsLoose marks x
open_loose marks (value.Obj n) p = inl p
open_loose marks value.Unset p = tt
open_loose marks value.None p = tt
open_loose marks (value.Bool b) p = tt
open_loose marks (value.Int i) p = tt
open_loose marks (value.Str text) p = tt

maybe_open : (v : View) (x : Value) → MayBeThere v x → IsOpen v.marks x
maybe_open v value.Unset p = tt
maybe_open v value.None p = tt
maybe_open v (value.Bool b) p = tt
maybe_open v (value.Int i) p = tt
maybe_open v (value.Str text) p = tt
maybe_open v (value.Obj n) p = p.1

all_maybe_open : (v : View) (xs : List Value) → AllMaybe v xs → AllOpen v.marks xs
all_maybe_open v [] p = tt
all_maybe_open v (x ∷ xs) p = (maybe_open v x p.0, all_maybe_open v xs p.1)

put_open : (marks : ℕ → Mark) (d x : Value) (rest : List Value) → IsOpen marks d → AllOpen marks (x ∷ rest) → Handed marks op.Put (d ∷ x ∷ rest)
put_open marks d (value.Str text) rest p q = (open_loose marks d p, q.1)
put_open marks d value.Unset rest p q = (p, q)
put_open marks d value.None rest p q = (p, q)
put_open marks d (value.Bool b) rest p q = (p, q)
put_open marks d (value.Int i) rest p q = (p, q)
put_open marks d (value.Obj n) rest p q = (p, q)

-- what may be named may be handed to any operation
handed_open : (marks : ℕ → Mark) (o : Op) (args : List Value) → NoFunc o → AllOpen marks args → Handed marks o args
handed_open marks op.KeyPut [] n p = p
handed_open marks op.KeyPut (d ∷ rest) n p = (open_loose marks d p.0, p.1)
handed_open marks op.KeyMerge [] n p = p
handed_open marks op.KeyMerge (d ∷ rest) n p = (open_loose marks d p.0, p.1)
handed_open marks op.Put [] n p = p
handed_open marks op.Put (d ∷ []) n p = p
handed_open marks op.Put (d ∷ x ∷ rest) n p = put_open marks d x rest p.0 p.1
handed_open marks op.CallX [] n p = p
handed_open marks op.CallX (f ∷ []) n p = p
handed_open marks op.CallX (f ∷ list ∷ []) n p = p
handed_open marks op.CallX (f ∷ list ∷ d ∷ rest) n p =
    let q : AllOpen marks (list ∷ d ∷ rest) = p.1 in
    let u : AllOpen marks (d ∷ rest) = q.1 in
    (p.0, q.0, open_loose marks d u.0, u.1)
handed_open marks op.Func args n p = absurd n
handed_open marks other args n p = p

module _ (z : Program) where
  -- ---- lines

  enlisted_goes : (tabs : Tables) (M : ℕ) → Agree z tabs M → (b : ℕ) → b ≤ M → (r : Room) (n : ℕ) (K : Kind) (h : View) (line x : ℕ) (t : S) → Goes z tabs r n K h (Raised x) t → Goes z tabs r n K h (Raised x) (enlisted (source z) line x t)
  enlisted_goes tabs M agree b le r n K h line x t y =
      let law = y.lawful in
      let a : Scene = scene t.around in
      let l = lined z tabs M agree b le r h t y.marks a (record { lawful = record { world = law.world; since = law.since; frame = law.frame; kept = law.kept }; grows = y.grows }) t.frame.code line x in
      let reached = l.0 in
      record { marks = y.marks; lawful = reached.lawful; grows = reached.grows; end = thrown_more (seen y.marks t) _ l.1 x y.end }

  line_ended : (tabs : Tables) (M : ℕ) → Agree z tabs M → (b : ℕ) → b ≤ M → (r : Room) (n : ℕ) (K : Kind) (h : View) (line : ℕ) (e : End) (t : S) → Goes z tabs r n K h e t → Met z tabs r n K nowhere h (does (rows z) (on_raised (λ e. Act (λ s. record { out = []; state = enlisted (source z) line e s; end = Raised e })) e) Begin t b)
  line_ended tabs M agree b le r n K h line (Raised x) t y = enlisted_goes tabs M agree b le r n K h line x t y
  line_ended tabs M agree b le r n K h line (Next v) t y = y
  line_ended tabs M agree b le r n K h line (Leave i) t y = y
  line_ended tabs M agree b le r n K h line (Return v) t y = y
  line_ended tabs M agree b le r n K h line (Stopped kind) t y = y
  line_ended tabs M agree b le r n K h line Undefined t y = y

  pub on_line_right : (r R : Room) (n : ℕ) (K : Kind) (line : ℕ) (v : View) (row : Rw) → RightBy z r R n K v row → RightBy z r R n K v (on_line (source z) line row)
  on_line_right r R n K line v row x = then_ends z r R n n K K v row _ x (λ tabs M agree e g t y b le. line_ended tabs M agree b le R n K g line e t y)

  pub yields_right : (r : Room) (n line : ℕ) (v : View) (x : Value) → IsTrue r.yields → IsThere v x → RightBy z r r n IsThere v (yields (source z) line x)
  yields_right r n line v x y t = on_line_right r r n IsThere line v (Yld x) (yield_right z r n v x y t)

  -- ---- operations

  -- on arguments that it may be handed
  pub handed_right : (r : Room) (line : ℕ) (o : Op) (args : List Value) (v : View) → FitFrom z v o args → ((more : View) → Grows v more → Handed more.marks o args) → RightBy z r r 0 (OpGives o) v (operate (source z) line o args)
  handed_right r line o args v f k =
      on_line_right r r 0 (OpGives o) line v (operation (source z) o args)
      (sub_right z r (OpGives o) v (operates (source z) o args)
      (λ tabs M agree b le marks s law w.
      let w0 : World = s.around.world in
      let fit = f w0 marks law.world w in
      let l = z.law.apply (roster z) o w0 marks args law.world fit (k (seen marks s) w) in
      let x : Answer = z.rules.apply o w0 args in
      operated_met z tabs M agree b le r (OpGives o) o args marks s law fit l (ends_give z o (view x.heap marks) x.end l.end (λ t. z.law.truth o w0 args t fit) (z.law.makes o w0 args fit))))

  pub operate_right : (r : Room) (line : ℕ) (o : Op) (args : List Value) (v : View) → FitFrom z v o args → AllMaybe v args → NoFunc o → RightBy z r r 0 (OpGives o) v (operate (source z) line o args)
  operate_right r line o args v f all n = handed_right r line o args v f (λ more g. handed_open more.marks o args n (all_maybe_open more args (all_maybe_more v more g args all)))
