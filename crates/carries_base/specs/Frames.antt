-- When a frame of a script's code and one of its nodes correspond.
use Rattle.std.specs.Prelude.{◌≡◌, ◌⊎◌, ℕ, ◌+◌, ◌<◌, ◌≤◌, List, [], ◌∷◌, length, Some, nat_lt, if◌then◌else◌}
use Rattle.nu_value.specs.declared.value.Value.{Value}
use Rattle.nu_value.specs.declared.value.Value.TheVariants as value
use Rattle.code_forms.specs.declared.operand.Operand.{Operand}
use Rattle.code_forms.specs.declared.operand.Operand.TheVariants as operand
use Rattle.node_tree.specs.Nodes as nodes
use Rattle.py_meaning.specs.Frames as python

-- where the names of a code are among its temporaries: its parameters first, then the cells that it has of enclosing functions, then
-- its own cells, then its other local variables. `filled` and `made` say how many local variables and own cells have theirs yet
pub record Homes : Type 0 where
  pub params : ℕ
  pub frees : ℕ
  pub owns : ℕ
  -- with the parameters
  pub locals : ℕ
  pub filled : ℕ
  pub made : ℕ

-- there is room for them
pub record HaveRoom (h : Homes) : Type 0 where
  pub params : h.params ≤ h.locals
  pub filled : h.filled ≤ h.locals
  pub made : h.made ≤ h.owns

abbrev pub local_at : Homes → ℕ → ℕ
local_at h place = if nat_lt place h.params then place else h.frees + h.owns + place

abbrev pub free_at : Homes → ℕ → ℕ
free_at h place = h.params + place

abbrev pub own_at : Homes → ℕ → ℕ
own_at h place = h.params + h.frees + place

-- the first temporary behind them
abbrev pub behind : Homes → ℕ
behind h = h.frees + h.owns + h.locals

-- as a code begins: it has its parameters
abbrev pub begun : Homes → Homes
begun h = record h { filled = h.params; made = 0 }

-- what is known: an operand holds this value; these two values are the same; this temporary holds what a `yield from` carries from turn
-- to turn; nothing is so
pub data Fact : Type 0 where
  Holds : (o : Operand) (v : Value) → Fact
  Alike : (v w : Value) → Fact
  Keeps : (temp : ℕ) → Fact
  Never : Fact

abbrev pub Facts : Type 0
Facts = List Fact

-- the facts are so, in a frame of nodes beside one that carries this value
abbrev pub Fits : Facts → Value → nodes.Frame → Type 0
Fits [] c g = Unit {0}
Fits (Holds o v ∷ fs) c g = (nodes.operand_value g o ≡ Some v) × Fits fs c g
Fits (Alike v w ∷ fs) c g = (v ≡ w) × Fits fs c g
Fits (Keeps t ∷ fs) c g = (g.temps t ≡ Some c) × Fits fs c g
Fits (Never ∷ fs) c g = ⊥

-- two frames correspond: they belong to one code, each name that has its temporary has its value there, each other is Unset, and the
-- facts are so
pub record FramesAs (h : Homes) (fs : Facts) (f : python.Frame) (g : nodes.Frame) : Type 0 where
  pub room : HaveRoom h
  pub code : f.code ≡ g.code
  pub count : length f.locals ≡ h.locals
  pub made : length f.owns ≡ h.made
  pub rest : (place : ℕ) → h.filled ≤ place → python.at f.locals place ≡ value.Unset
  pub locals : (place : ℕ) → place < h.filled → g.temps (local_at h place) ≡ Some (python.at f.locals place)
  pub owns : (place : ℕ) → place < h.made → g.temps (own_at h place) ≡ Some (python.at f.owns place)
  pub frees : (place : ℕ) → place < h.frees → g.temps (free_at h place) ≡ Some (python.at f.frees place)
  pub facts : Fits fs f.carried g

-- a temporary lies in this range, or the operand is a constant
abbrev pub IsWithin : ℕ → ℕ → Operand → Type 0
IsWithin low high (operand.Temp t) = (low ≤ t) × (t < high)
IsWithin low high (operand.Const c) = Unit {0}

-- a temporary lies outside of this range, and is no home of a name
abbrev pub IsOff : Homes → ℕ → ℕ → Operand → Type 0
IsOff h low high (operand.Temp t) = (behind h ≤ t) × ((t < low) ⊎ (high ≤ t))
IsOff h low high (operand.Const c) = Unit {0}

-- no fact speaks of a temporary in this range, of a home, or of what is carried
abbrev pub Outside : Homes → ℕ → ℕ → Facts → Type 0
Outside h low high [] = Unit {0}
Outside h low high (Holds o v ∷ fs) = IsOff h low high o × Outside h low high fs
Outside h low high (Alike v w ∷ fs) = Outside h low high fs
Outside h low high (Keeps t ∷ fs) = ⊥
Outside h low high (Never ∷ fs) = Outside h low high fs
