-- The primitive statements of `def` and `class`: decorators, what is defined, and its decorators' calls.
use Rattle.std.specs.Prelude.{ℕ, ◌+◌, ◌≤◌, List, [], ◌∷◌, length}
use Rattle.op_forms.specs.declared.op.Op.TheVariants as op
use Rattle.code_forms.specs.declared.operand.Argument.TheVariants as argument
use Rattle.code_forms.specs.declared.operand.Operand.{Operand}
use Rattle.code_forms.specs.declared.operand.Operand.TheVariants as operand
use Rattle.node_tree.specs.Blocks.{alone, of_temp}
use Rattle.node_tree.specs.Blocks as tree
use Rattle.py_meaning.specs.Syntax as syntax
use Rattle.carries_base.specs.Frames.{Homes, behind}
use Rattle.carries_base.specs.Carries.{Carrier, CarriesExpression, joined}
use Rattle.carries_names.specs.Functions.{function_block}

-- decorators one after another, each by its own block
abbrev pub CarriesDecorators : Homes → ℕ → ℕ → List syntax.Decorator → List Carrier → Type 0
CarriesDecorators h low high [] [] = (behind h ≤ low) × (low ≤ high)
CarriesDecorators h low high (d ∷ ds) (p ∷ ps) = (mid : ℕ) × CarriesExpression h low mid d.is p.block p.value × CarriesDecorators h mid high ds ps
CarriesDecorators h low high ds ps = ⊥

-- where a value is, once all these decorators are called, the last of them first, by temporaries from this one on
abbrev pub decorated_at : ℕ → List syntax.Decorator → Operand → Operand
decorated_at t [] o = o
decorated_at t (d ∷ ds) o = operand.Temp (t + length ds)

-- their calls
abbrev pub decorated_block : ℕ → List syntax.Decorator → List Carrier → Operand → tree.Block
decorated_block t (d ∷ ds) (p ∷ ps) o =
    tree.append (decorated_block t ds ps o) (alone (tree.Do (t + length ds) d.line op.Call (argument.Value p.value ∷ argument.Value (decorated_at t ds o) ∷ [])))
decorated_block t ds ps o = tree.Stop

-- a function, whose value is in o, is decorated; one temporary for each decorator
abbrev pub definition_block : ℕ → List syntax.Decorator → List Carrier → tree.Block → Operand → tree.Block
definition_block t ds ps fb o = joined ps (tree.append fb (decorated_block t ds ps o))

-- a function of a code without defaults, by three temporaries, the last for the function
abbrev pub bare_block : Homes → ℕ → ℕ → ℕ → List syntax.CellPlace → tree.Block
bare_block h t line code cells = function_block h t line code [] syntax.NoKeyword [] cells

-- a class: its names, the function of its code, which is called with them, and the class, by six temporaries
abbrev pub class_made_block : Homes → ℕ → ℕ → List ℕ → ℕ → List syntax.CellPlace → Operand → tree.Block
class_made_block h t line name code cells base =
    tree.Follow (tree.Do t line op.Space []) (tree.append (bare_block h (t + 1) line code cells)
    (tree.Follow (tree.Do (t + 4) line op.Call (of_temp (t + 1 + 2) ∷ of_temp t ∷ [])) (alone (tree.Do (t + 5) line op.Class (argument.Name name ∷ argument.Value base ∷ of_temp t ∷ [])))))

-- a class, whose base is in o, is made and decorated
abbrev pub class_block : Homes → ℕ → ℕ → List syntax.Decorator → List Carrier → List ℕ → tree.Block → Operand → ℕ → List syntax.CellPlace → tree.Block
class_block h t line ds ps name bb o code cells =
    joined ps (tree.append bb (tree.append (class_made_block h t line name code cells o) (decorated_block (t + 6) ds ps (operand.Temp (t + 5)))))
