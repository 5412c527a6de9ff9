-- The sets of paths: what may be read, and what surely has a value, where exactly the live registers are saved.
use Rattle.std.proofs.Common.{◌≡◌, ◌≢◌, ◌⊎◌, inl, inr, ⊎_elim, ℕ, ◌≤◌, ◌<◌, List, [], ◌∷◌, true, Some, slice_get, length, refl}
use Rattle.std.specs.List.{AllByRecursion}
use Rattle.flow_code.specs.declared.function.FlatFunction.{FlatFunction}
use Rattle.flow_code.specs.declared.statement.Line.{Line}
use Rattle.code_forms.specs.declared.operand.Operand.{Operand}
use Rattle.flow_code.specs.declared.statement.Statement.{Statement}
use Rattle.flow_code.specs.declared.statement.Statement.TheVariants as flat
use Rattle.flow_code.specs.Labels.{LabelsNumbered, leads}
use Rattle.flow_code.specs.Registers.{reads, RegistersDeclared}
use Rattle.flow_code.specs.Run.{find, first}
use Rattle.flow_code.specs.declared.function.FlatScript.{FlatScript}
use Rattle.flow_code.specs.WellFormed.{WellFormed}
use Rattle.generator_cut.specs.Cut.{Plan, program_of}
use Rattle.generator_cut.specs.Correct.{DoesTheSame}
use Rattle.generator_cut.proofs.Machines.{runs_same}
use Rattle.generator_cut.proofs.AllSaved.{all_at}
use Rattle.generator_cut.specs.Plan.{Has, Unwritten, GoesOn, IsPart, Closed, Works}

all_has : (P : ℕ → Type 0) (xs : List ℕ) → ((x : ℕ) → Has x xs → P x) → AllByRecursion P xs
all_has P [] h = tt
all_has P (x ∷ xs) h = (h x (inl refl), all_has P xs (λ y i. h y (inr i)))

module _ (body : List Line) (saved : Statement → List Line → List ℕ) where
  -- a path from here reads it before a store of it
  pub data Live : List Line → ℕ → Type 0 where
    Read : (left : List Line) (x : Statement) (more : List Line) (r : ℕ) → first left ≡ Some (x, more) → Has r (reads x) → Live left r
    On : (left : List Line) (x : Statement) (more : List Line) (r : ℕ) → first left ≡ Some (x, more) → GoesOn x → Unwritten r x → Live more r → Live left r
    To : (left : List Line) (x : Statement) (more : List Line) (r l : ℕ) → first left ≡ Some (x, more) → Has l (leads x) → Unwritten r x → Live (find l body) r → Live left r

  -- a path from here leads, without a store of it, to a pause that saves it
  pub data Held : List Line → ℕ → Type 0 where
    Saved : (left : List Line) (x : Statement) (more : List Line) (r : ℕ) → first left ≡ Some (x, more) → Has r (saved x more) → Held left r
    Further : (left : List Line) (x : Statement) (more : List Line) (r : ℕ) → first left ≡ Some (x, more) → GoesOn x → Unwritten r x → Held more r → Held left r
    Away : (left : List Line) (x : Statement) (more : List Line) (r l : ℕ) → first left ≡ Some (x, more) → Has l (leads x) → Unwritten r x → Held (find l body) r → Held left r

  live_closed : Closed body Live
  live_closed = record { next = λ left x more p e on r free q. On left x more r e on free q; jump = λ left x more p e r free. all_has _ (leads x) (λ l i q. To left x more r l e i free q) }

  held_closed : Closed body Held
  held_closed = record { next = λ left x more p e on r free q. Further left x more r e on free q; jump = λ left x more p e r free. all_has _ (leads x) (λ l i q. Away left x more r l e i free q) }

-- exactly the registers that are live behind a pause, but that of its value, are saved, by no other statement, and those that
-- a path without a store leads from the beginning to a pause are cleared
pub record IsExact (f : FlatFunction) (plan : Plan) : Type 0 where
  pub all : f.header.generator ≡ true → (left : List Line) (to at : ℕ) (a : Operand) (fail : ℕ) (more : List Line) → IsPart f.body left → first left ≡ Some (flat.Yield to at a fail, more) → (r : ℕ) → r ≢ to → Live f.body plan.saved more r ⊎ Live f.body plan.saved (find fail f.body) r → Has r (plan.saved (flat.Yield to at a fail) more)
  pub live : (left : List Line) (x : Statement) (more : List Line) → first left ≡ Some (x, more) → (r : ℕ) → Has r (plan.saved x more) → Live f.body plan.saved left r
  pub small : (x : Statement) (more : List Line) → AllByRecursion (λ r. r < f.registers) (plan.saved x more)
  pub begins : (r : ℕ) → Held f.body plan.saved f.body r → (f.header.generator ≡ true) × Has r plan.cleared
  pub cleared : AllByRecursion (λ r. r < f.registers) plan.cleared
  pub room : (x : Statement) (more : List Line) → length (plan.saved x more) ≤ plan.slots

held_live : (f : FlatFunction) (plan : Plan) → IsExact f plan → (left : List Line) (r : ℕ) → Held f.body plan.saved left r → Live f.body plan.saved left r
held_live f plan x _ _ (Saved left s more r e i) = x.live left s more e r i
held_live f plan x _ _ (Further left s more r e on free q) = On left s more r e on free (held_live f plan x more r q)
held_live f plan x _ _ (Away left s more r l e i free q) = To left s more r l e i free (held_live f plan x (find l f.body) r q)

both_all : (P Q : ℕ → Type 0) (xs : List ℕ) → AllByRecursion P xs → AllByRecursion Q xs → AllByRecursion (λ x. P x × Q x) xs
both_all P Q [] p q = tt
both_all P Q (x ∷ xs) p q = ((p.0, q.0), both_all P Q xs p.1 q.1)

pub exact_works : (f : FlatFunction) (plan : Plan) → RegistersDeclared f.registers f.body → LabelsNumbered f.labels f.body → IsExact f plan → Works plan (Live f.body plan.saved) (Held f.body plan.saved) f
exact_works f plan declared numbered x = record {
  declared = declared;
  numbered = numbered;
  live = live_closed f.body plan.saved;
  held = held_closed f.body plan.saved;
  reads = λ left s more p e. all_has _ (reads s) (λ r i. Read left s more r e i);
  begins = x.begins;
  cleared = x.cleared;
  next = λ g left to at a fail more p e r ne q. x.all g left to at a fail more p e r ne (inl (⊎_elim (λ l. l) (λ h. held_live f plan x more r h) q));
  thrown = λ g left to at a fail more p e r ne q. x.all g left to at a fail more p e r ne (inr (⊎_elim (λ l. l) (λ h. held_live f plan x (find fail f.body) r h) q));
  saved = λ g left s more p e. both_all _ _ (plan.saved s more) (x.small s more) (all_has _ (plan.saved s more) (λ r i. Saved left s more r e i));
  room = x.room;
}

-- a program that saves exactly what is live does what the flat code does
pub exact_same : (script : FlatScript) (plan : FlatFunction → Plan) → AllByRecursion WellFormed script.functions → ((k : ℕ) (f : FlatFunction) → slice_get script.functions k ≡ Some f → IsExact f (plan f)) → DoesTheSame script (program_of plan script)
exact_same script plan formed exact rules input d =
    runs_same rules script plan (λ f. Live f.body (plan f).saved) (λ f. Held f.body (plan f).saved)
    (λ k f is. let w = all_at WellFormed script.functions k f formed is in exact_works f (plan f) w.declared w.numbered (exact k f is)) input d
