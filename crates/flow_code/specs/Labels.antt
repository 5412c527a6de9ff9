-- The labels of code: where they stand, and where statements lead.
use Rattle.std.specs.Prelude.{ℕ, ◌+◌, ◌≤◌, ◌<◌, List, [], ◌∷◌, nat_eq, if◌then◌else◌}
use Rattle.std.specs.List.{AllByRecursion}
use Rattle.flow_code.specs.declared.statement.Line.{Line}
use Rattle.flow_code.specs.declared.statement.Line.TheVariants as line
use Rattle.flow_code.specs.declared.statement.Statement.{Statement}
use Rattle.flow_code.specs.declared.statement.Statement.TheVariants as flat

-- how often a label stands
abbrev pub stands : ℕ → List Line → ℕ
stands l [] = 0
stands l (line.Label k ∷ lines) = (if nat_eq l k then 1 else 0) + stands l lines
stands l (line.Do x ∷ lines) = stands l lines

-- the labels to which a statement leads, also after an exception
abbrev pub leads : Statement → List ℕ
leads (flat.Store to a) = []
leads (flat.Unset to) = []
leads (flat.Parameter to i) = []
leads (flat.Free to i) = []
leads (flat.Do to line o args fail) = fail ∷ []
leads (flat.Goto l) = l ∷ []
leads (flat.Branch test l) = l ∷ []
leads (flat.Caught to) = []
leads (flat.Again a l) = l ∷ []
leads (flat.Give a) = []
leads flat.End = []
leads flat.Fail = []
leads (flat.Yield to line a fail) = fail ∷ []

-- each label to which lines lead is such a one
abbrev pub Lead : (ℕ → Type 0) → List Line → Type 0
Lead P [] = Unit {0}
Lead P (line.Label k ∷ lines) = Lead P lines
Lead P (line.Do x ∷ lines) = AllByRecursion P (leads x) × Lead P lines

-- no label stands twice
abbrev pub LabelsOnce : List Line → Type 0
LabelsOnce lines = (l : ℕ) → stands l lines ≤ 1

-- labels are numbered below this
abbrev pub LabelsNumbered : ℕ → List Line → Type 0
LabelsNumbered n lines = (l : ℕ) → 0 < stands l lines → l < n

-- each label to which a statement leads stands
abbrev pub LabelsThere : List Line → Type 0
LabelsThere lines = Lead (λ l. 0 < stands l lines) lines
