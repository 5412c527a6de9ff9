-- When a block of primitive statements carries a construct of a script: from corresponding states, and from corresponding places, the
-- two do the same.
use Rattle.std.specs.Prelude.{◌≡◌, ℕ, ◌<◌, ◌≤◌, Bool, List, [], ◌∷◌, map, Option, Some, None, slice_get}
use Rattle.nu_value.specs.declared.value.Value.{Value}
use Rattle.nu_value.specs.declared.value.Value.TheVariants as value
use Rattle.nu_rows.specs.Rows.{Next, Leave, Raised, Return, Stopped, Undefined, Step, Part}
use Rattle.nu_rows.specs.Sim.{Places, Ends, Sim}
use Rattle.op_forms.specs.Rules.{Rules}
use Rattle.nu_calls.specs.Surroundings.{Surroundings, scene, kept_at}
use Rattle.nu_calls.specs.Calls.{State, Pause}
use Rattle.code_forms.specs.declared.operand.Operand.{Operand}
use Rattle.code_forms.specs.declared.operand.Operand.TheVariants as operand
use Rattle.node_tree.specs.declared.script.NodeScript.{NodeScript}
use Rattle.node_tree.specs.Blocks.{Block, append}
use Rattle.node_tree.specs.Nodes as nodes
use Rattle.node_tree.specs.Run as node_run
use Rattle.node_tree.specs.Tree.{code_block}
use Rattle.py_meaning.specs.Syntax as syntax
use Rattle.py_meaning.specs.Frames as python
use Rattle.py_meaning.specs.Expressions.{expression}
use Rattle.py_meaning.specs.Statements.{assign, statement, block}
use Rattle.py_meaning.specs.Bodies as bodies
use Rattle.carries_base.specs.Frames.{Homes, begun, behind, Holds, Facts, Fits, FramesAs, IsWithin, Outside}

-- the codes of a script and of nodes, with the homes of each code's names, under some rules of operations
pub record Setting : Type 0 where
  pub rules : Rules
  pub codes : List syntax.Code
  pub script : NodeScript
  pub homes : ℕ → Homes

abbrev pub source : Setting → python.L
source z = bodies.language z.rules z.script.scripts z.codes

abbrev pub target : Setting → nodes.L
target z = node_run.language z.rules z.script

abbrev pub rows : Setting → python.Item → python.R
rows z = bodies.item_row (source z) z.codes

abbrev pub columns : Setting → nodes.Item → nodes.R
columns z = nodes.item_row (target z) (code_block z.script.codes)

abbrev pub S : Type 0
S = State python.Frame

abbrev pub T : Type 0
T = State nodes.Frame

-- for two places what is known there, and that for each code
abbrev pub Table : Type 0
Table = List Step → List Step → Facts

abbrev pub Tables : Type 0
Tables = ℕ → Table

-- what two paused generators keep corresponds: one code, frames and places
abbrev pub KeptAs : Setting → Tables → Option (Pause python.Frame) → Option (Pause nodes.Frame) → Type 0
KeptAs z tabs None None = Unit {0}
KeptAs z tabs (Some a) (Some b) = (a.code ≡ b.code) × FramesAs (z.homes a.code) (tabs a.code a.place b.place) a.frame b.frame
KeptAs z tabs a b = ⊥

-- the surroundings are the same but for what paused generators keep, which corresponds
pub record AroundAs (z : Setting) (tabs : Tables) (a : Surroundings (Pause python.Frame)) (b : Surroundings (Pause nodes.Frame)) : Type 0 where
  pub scenes : scene a ≡ scene b
  pub kept : (g : ℕ) → KeptAs z tabs (kept_at a.kept g) (kept_at b.kept g)

pub record Correspond (z : Setting) (h : Homes) (tabs : Tables) (fs : Facts) (s : S) (t : T) : Type 0 where
  pub frames : FramesAs h fs s.frame t.frame
  pub around : AroundAs z tabs s.around t.around

-- corresponding places, by a table
abbrev pub At : Setting → Homes → Tables → Table → Places S T
At z h tabs table p s q t = Correspond z h tabs (table p q) s t

-- corresponding ends, by what is known after a value, and after any other end. A construct leaves fewer than so many loops, expressions
-- none, and statements the two that a loop of a script is; after a stop, and where nothing is said, nothing goes on
abbrev pub EndsAs : Setting → Homes → ℕ → (Value → Facts) → Facts → Tables → Ends S T
EndsAs z h n k fs tabs (Next v) s (Next w) t = Correspond z h tabs (k v) s t
EndsAs z h n k fs tabs (Leave i) s (Leave j) t = (i ≡ j) × (i < n) × Correspond z h tabs fs s t
EndsAs z h n k fs tabs (Raised x) s (Raised y) t = (x ≡ y) × Correspond z h tabs fs s t
EndsAs z h n k fs tabs (Return v) s (Return w) t = (v ≡ w) × Correspond z h tabs fs s t
EndsAs z h n k fs tabs (Stopped i) s (Stopped j) t = i ≡ j
EndsAs z h n k fs tabs Undefined s Undefined t = Unit {0}
EndsAs z h n k fs tabs e s e' t = ⊥

-- what is left of two states, once the frames are done with: they belong to one code
pub record Outer (z : Setting) (tabs : Tables) (s : S) (t : T) : Type 0 where
  pub code : s.frame.code ≡ t.frame.code
  pub around : AroundAs z tabs s.around t.around

-- corresponding ends of bodies, whose frames are done with: what a body ends with that returns nothing is of no account, and a leave out of it
-- has no meaning
abbrev pub BodyEnds : Setting → Tables → Ends S T
BodyEnds z tabs (Next v) s (Next w) t = Outer z tabs s t
BodyEnds z tabs (Leave i) s (Leave j) t = Unit {0}
BodyEnds z tabs (Raised x) s (Raised y) t = (x ≡ y) × Outer z tabs s t
BodyEnds z tabs (Return v) s (Return w) t = (v ≡ w) × Outer z tabs s t
BodyEnds z tabs (Stopped i) s (Stopped j) t = i ≡ j
BodyEnds z tabs Undefined s Undefined t = Unit {0}
BodyEnds z tabs e s e' t = ⊥

-- two frames as a code begins
abbrev pub BegunAs : Homes → Option python.Frame → Option nodes.Frame → Type 0
BegunAs h None None = Unit {0}
BegunAs h (Some f) (Some g) = FramesAs (begun h) [] f g
BegunAs h f g = ⊥

-- the codes agree: each begins in both alike, and within each bound up to L the bodies of the same code correspond, from the beginning
-- and from corresponding places
pub record Agree (z : Setting) (tabs : Tables) (L : ℕ) : Type 0 where
  pub begins : (kind : Bool) (code : ℕ) (given cells : List Value) → BegunAs (z.homes code) ((source z).frame kind code given cells) ((target z).frame kind code given cells)
  pub bodies : (code : ℕ) → Sim (rows z) (columns z) L (At z (z.homes code) tabs (tabs code)) (Correspond z (begun (z.homes code)) tabs []) (BodyEnds z tabs) (Part (python.OfCode code)) (Part (nodes.OfCode code))

-- two rows correspond by some table of places, from such states and with such ends, whatever the other codes, within each bound up to
-- which these agree
pub record CarriedBy (z : Setting) (h : Homes) (Pre : Tables → S → T → Type 0) (Q : Tables → Ends S T) (r : python.R) (c : nodes.R) : Type 0 where
  pub places : Table
  pub sim : (tabs : Tables) (L : ℕ) → Agree z tabs L → Sim (rows z) (columns z) L (At z h tabs places) (Pre tabs) (Q tabs) r c

-- from states of which this is known
abbrev pub CarriedTo : Setting → Homes → (Tables → Ends S T) → Facts → python.R → nodes.R → Type 0
CarriedTo z h Q fs r c = CarriedBy z h (λ tabs. Correspond z h tabs fs) Q r c

-- and with the ends of a construct
abbrev pub Carried : Setting → Homes → ℕ → (Value → Facts) → Facts → python.R → nodes.R → Type 0
Carried z h n k fs r c = CarriedTo z h (EndsAs z h n k fs) fs r c

-- the block carries what has this row in each language, and leaves its value in the operand; it writes temporaries from `low` to `high`
-- alone, beside those of names, and keeps all that is known of others
pub record CarriesValue (h : Homes) (low high : ℕ) (r : python.L → python.R) (b : Block) (o : Operand) : Type 0 where
  pub starts : behind h ≤ low
  pub grows : low ≤ high
  pub within : IsWithin low high o
  pub carries : (z : Setting) (fs : Facts) → Outside h low high fs → Carried z h 0 (λ v. Holds o v ∷ fs) fs (r (source z)) (nodes.block_row (target z) b)

-- what an operand holds is known
abbrev pub Knows : Facts → Operand → Value → Type 0
Knows fs o v = (c : Value) (g : nodes.Frame) → Fits fs c g → nodes.operand_value g o ≡ Some v

-- the exception of the `except` clause around a construct, and the temporary that holds it
abbrev pub Handles : Facts → Option ℕ → Option ℕ → Type 0
Handles fs None None = Unit {0}
Handles fs (Some temp) (Some x) = Knows fs (operand.Temp temp) (value.Obj x)
Handles fs a b = ⊥

-- the same of what has no value of its own, but maybe stands in an `except` clause
pub record CarriesRow (h : Homes) (low high : ℕ) (caught : Option ℕ) (r : python.L → Option ℕ → python.R) (b : Block) : Type 0 where
  pub starts : behind h ≤ low
  pub grows : low ≤ high
  pub carries : (z : Setting) (fs : Facts) (handled : Option ℕ) → Outside h low high fs → Handles fs caught handled → Carried z h 2 (λ v. fs) fs (r (source z) handled) (nodes.block_row (target z) b)

-- and of what is handed a value, which the operand holds, as a target is
pub record CarriesGiven (h : Homes) (low high : ℕ) (o : Operand) (r : python.L → Value → python.R) (b : Block) : Type 0 where
  pub starts : behind h ≤ low
  pub grows : low ≤ high
  pub carries : (z : Setting) (fs : Facts) (v : Value) → Outside h low high fs → Knows fs o v → Carried z h 0 (λ w. fs) fs (r (source z) v) (nodes.block_row (target z) b)

-- Constructs of each kind

abbrev pub CarriesExpression : Homes → ℕ → ℕ → syntax.Expression → Block → Operand → Type 0
CarriesExpression h low high x b o = CarriesValue h low high (λ l. expression l x) b o

abbrev pub CarriesTarget : Homes → ℕ → ℕ → Operand → syntax.Target → Block → Type 0
CarriesTarget h low high o x b = CarriesGiven h low high o (λ l v. assign l v x) b

abbrev pub CarriesStatement : Homes → ℕ → ℕ → Option ℕ → syntax.Statement → Block → Type 0
CarriesStatement h low high caught s b = CarriesRow h low high caught (λ l handled. statement l handled s) b

abbrev pub CarriesBlock : Homes → ℕ → ℕ → Option ℕ → syntax.Block → Block → Type 0
CarriesBlock h low high caught s b = CarriesRow h low high caught (λ l handled. block l handled s) b

-- a block, and the operand that it leaves its value in
pub record Carrier : Type 0 where
  pub block : Block
  pub value : Operand

-- expressions one after another, each by its own block
abbrev pub CarriesAll : Homes → ℕ → ℕ → syntax.Expressions → List Carrier → Type 0
CarriesAll h low high syntax.NoMore [] = (behind h ≤ low) × (low ≤ high)
CarriesAll h low high (syntax.More x xs) (p ∷ ps) = (mid : ℕ) × CarriesExpression h low mid x p.block p.value × CarriesAll h mid high xs ps
CarriesAll h low high xs ps = ⊥

-- these blocks, one after another, and a last one
abbrev pub joined : List Carrier → Block → Block
joined [] b = b
joined (p ∷ ps) b = append p.block (joined ps b)

-- Codes

-- the code of this number is carried: its body, from where it begins
abbrev pub CarriesCode : Setting → ℕ → Type 0
CarriesCode z code =
    CarriedBy z (z.homes code) (λ tabs. Correspond z (begun (z.homes code)) tabs []) (BodyEnds z) (bodies.code_row (source z) (slice_get z.codes code)) (nodes.block_row (target z) (code_block z.script.codes code))

-- each code begins in both alike and is carried, and both say the same of it before it runs
pub record CarriesScript (z : Setting) : Type 0 where
  pub headers : map (λ code. code.header) z.codes ≡ map node_run.header z.script.codes
  pub begins : (kind : Bool) (code : ℕ) (given cells : List Value) → BegunAs (z.homes code) ((source z).frame kind code given cells) ((target z).frame kind code given cells)
  pub codes : (code : ℕ) → CarriesCode z code
