-- What is known between the turns of a `yield from`, and how they end.
use Rattle.std.specs.Prelude.{ℕ, ◌+◌, ◌∷◌}
use Rattle.nu_value.specs.declared.value.Value.{Value}
use Rattle.nu_value.specs.declared.value.Value.TheVariants as value
use Rattle.code_forms.specs.declared.operand.Operand.TheVariants as operand
use Rattle.node_tree.specs.Blocks as tree
use Rattle.node_tree.specs.Nodes as nodes
use Rattle.nu_rows.specs.Sim.{Ends}
use Rattle.py_meaning.specs.Expressions.{sends, thrown}
use Rattle.carries_base.specs.Frames.{Homes, Holds, Keeps, Facts, Outside}
use Rattle.carries_base.specs.Carries.{Setting, source, target, S, T, Tables, Correspond, EndsAs, CarriedTo}
use Rattle.carries_base.specs.Turns.{TurnedEnds}

-- known before each turn: what is carried, and the iterator
abbrev pub BeforeTurn : ℕ → Value → Facts → Facts
BeforeTurn t iterator fs = Keeps (t + 1) ∷ Holds (operand.Temp t) iterator ∷ fs

-- the ends of the loop, behind which the exception that ended it is carried; and those of its turns
abbrev pub DelegateEnds : Setting → Homes → ℕ → Facts → Tables → Ends S T
DelegateEnds z h t fs = EndsAs z h 0 (λ v. Keeps (t + 1) ∷ fs) fs

abbrev pub DelegateTurns : Setting → Homes → ℕ → Value → Facts → Tables → Ends S T
DelegateTurns z h t iterator fs tabs = TurnedEnds (Correspond z h tabs (BeforeTurn t iterator fs)) (DelegateEnds z h t fs tabs)

-- the block carries what follows a value that is sent
abbrev pub CarriesSent : Homes → ℕ → ℕ → ℕ → ℕ → tree.Block → Type 0
CarriesSent h low high t line b =
    (z : Setting) (fs : Facts) (iterator v : Value) → Outside h low high fs → CarriedTo z h (DelegateTurns z h t iterator fs) (Holds (operand.Temp (t + 4)) v ∷ Holds (operand.Temp t) iterator ∷ fs) (sends (source z) line iterator v) (nodes.block_row (target z) b)

-- and what follows an exception that is thrown
abbrev pub CarriesThrown : Homes → ℕ → ℕ → ℕ → ℕ → tree.Block → Type 0
CarriesThrown h low high t line b =
    (z : Setting) (fs : Facts) (iterator : Value) (x : ℕ) → Outside h low high fs → CarriedTo z h (DelegateTurns z h t iterator fs) (Holds (operand.Temp (t + 3)) (value.Obj x) ∷ Holds (operand.Temp t) iterator ∷ fs) (thrown (source z) line iterator x) (nodes.block_row (target z) b)
