-- When a plan saves enough: it goes by two sets of registers at each place, those that may be read later, and those that
-- certainly have a value.
use Rattle.std.specs.Prelude.{◌≡◌, ◌≢◌, ◌⊎◌, ℕ, ◌≤◌, ◌<◌, List, [], ◌∷◌, ◌++◌, Some, true, length}
use Rattle.std.specs.List.{AllByRecursion}
use Rattle.flow_code.specs.declared.function.FlatFunction.{FlatFunction}
use Rattle.flow_code.specs.declared.statement.Line.{Line}
use Rattle.code_forms.specs.declared.operand.Operand.{Operand}
use Rattle.flow_code.specs.declared.statement.Statement.{Statement}
use Rattle.flow_code.specs.declared.statement.Statement.TheVariants as flat
use Rattle.flow_code.specs.Registers.{reads, writes, RegistersDeclared}
use Rattle.flow_code.specs.Labels.{LabelsNumbered, leads}
use Rattle.flow_code.specs.Run.{find, first}
use Rattle.generator_cut.specs.Cut.{Plan}

abbrev pub Has : ℕ → List ℕ → Type 0
Has r [] = ⊥
Has r (x ∷ xs) = (r ≡ x) ⊎ Has r xs

-- a register that a statement doesn't write
abbrev pub Unwritten : ℕ → Statement → Type 0
Unwritten r x = AllByRecursion (λ to. r ≢ to) (writes x)

-- whether control may go on behind a statement
abbrev pub GoesOn : Statement → Type 0
GoesOn (flat.Goto l) = ⊥
GoesOn (flat.Again a l) = ⊥
GoesOn (flat.Give a) = ⊥
GoesOn flat.End = ⊥
GoesOn flat.Fail = ⊥
GoesOn other = Unit {0}

-- lines with which a body ends
pub record IsPart (body left : List Line) : Type 0 where
  pub front : List Line
  pub is : body ≡ front ++ left

-- what holds of a register behind a statement that doesn't write it, holds before
pub record Closed (body : List Line) (P : List Line → ℕ → Type 0) : Type 0 where
  pub next : (left : List Line) (x : Statement) (more : List Line) → IsPart body left → first left ≡ Some (x, more) → GoesOn x → (r : ℕ) → Unwritten r x → P more r → P left r
  pub jump : (left : List Line) (x : Statement) (more : List Line) → IsPart body left → first left ≡ Some (x, more) → (r : ℕ) → Unwritten r x → AllByRecursion (λ l. P (find l body) r → P left r) (leads x)

pub record Works (plan : Plan) (Live Held : List Line → ℕ → Type 0) (f : FlatFunction) : Type 0 where
  pub declared : RegistersDeclared f.registers f.body
  pub numbered : LabelsNumbered f.labels f.body
  pub live : Closed f.body Live
  pub held : Closed f.body Held
  -- what is read is live
  pub reads : (left : List Line) (x : Statement) (more : List Line) → IsPart f.body left → first left ≡ Some (x, more) → AllByRecursion (Live left) (reads x)
  -- at the beginning only cleared registers have a value
  pub begins : (r : ℕ) → Held f.body r → (f.header.generator ≡ true) × Has r plan.cleared
  pub cleared : AllByRecursion (λ r. r < f.registers) plan.cleared
  -- a pause saves what is live or has a value behind it; that has a value there
  pub next : f.header.generator ≡ true → (left : List Line) (to at : ℕ) (a : Operand) (fail : ℕ) (more : List Line) → IsPart f.body left → first left ≡ Some (flat.Yield to at a fail, more) → (r : ℕ) → r ≢ to → Live more r ⊎ Held more r → Has r (plan.saved (flat.Yield to at a fail) more)
  pub thrown : f.header.generator ≡ true → (left : List Line) (to at : ℕ) (a : Operand) (fail : ℕ) (more : List Line) → IsPart f.body left → first left ≡ Some (flat.Yield to at a fail, more) → (r : ℕ) → r ≢ to → Live (find fail f.body) r ⊎ Held (find fail f.body) r → Has r (plan.saved (flat.Yield to at a fail) more)
  pub saved : f.header.generator ≡ true → (left : List Line) (x : Statement) (more : List Line) → IsPart f.body left → first left ≡ Some (x, more) → AllByRecursion (λ r. (r < f.registers) × Held left r) (plan.saved x more)
  pub room : (x : Statement) (more : List Line) → length (plan.saved x more) ≤ plan.slots
