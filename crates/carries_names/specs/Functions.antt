-- The primitive statements that make a function: its defaults, the cells that it has of this frame, and the function.
use Rattle.std.specs.Prelude.{ℕ, ◌+◌, ◌<◌, ◌≤◌, pos, List, [], ◌∷◌, map}
use Rattle.op_forms.specs.declared.constant.Const.TheVariants as const
use Rattle.op_forms.specs.declared.op.Op.TheVariants as op
use Rattle.code_forms.specs.declared.operand.Argument.TheVariants as argument
use Rattle.code_forms.specs.declared.operand.Operand.TheVariants as operand
use Rattle.node_tree.specs.Blocks.{alone, of_temp}
use Rattle.node_tree.specs.Blocks as tree
use Rattle.py_meaning.specs.Syntax as syntax
use Rattle.carries_base.specs.Frames.{Homes, own_at, free_at, behind}
use Rattle.carries_base.specs.Carries.{Carrier, CarriesExpression, joined}

-- a cell that an inner function gets has its temporary
abbrev pub HasCell : Homes → syntax.CellPlace → Type 0
HasCell h (syntax.OwnCell place) = place < h.made
HasCell h (syntax.FreeCell place) = place < h.frees

abbrev pub HasCells : Homes → List syntax.CellPlace → Type 0
HasCells h [] = Unit {0}
HasCells h (c ∷ cs) = HasCell h c × HasCells h cs

abbrev pub cell_at : Homes → syntax.CellPlace → ℕ
cell_at h (syntax.OwnCell place) = own_at h place
cell_at h (syntax.FreeCell place) = free_at h place

-- defaults of keyword-only parameters one after another, each by its own block
abbrev pub CarriesNamed : Homes → ℕ → ℕ → syntax.Keywords → List Carrier → Type 0
CarriesNamed h low high syntax.NoKeyword [] = (behind h ≤ low) × (low ≤ high)
CarriesNamed h low high (syntax.Default name x keywords) (p ∷ ps) = (mid : ℕ) × CarriesExpression h low mid x p.block p.value × CarriesNamed h mid high keywords ps
CarriesNamed h low high keywords ps = ⊥

-- they go into a dict under their names, by temporaries from this one on, and the last temporary is for what follows
abbrev pub put_block : ℕ → ℕ → ℕ → syntax.Keywords → List Carrier → (ℕ → tree.Block) → tree.Block
put_block line dict to (syntax.Default name x keywords) (p ∷ ps) last =
    tree.Follow (tree.Do to line op.Put (of_temp dict ∷ argument.Value (operand.Const (const.Str name)) ∷ argument.Value p.value ∷ [])) (put_block line dict (to + 1) keywords ps last)
put_block line dict to keywords ps last = last to

abbrev pub put_end : ℕ → syntax.Keywords → ℕ
put_end to syntax.NoKeyword = to
put_end to (syntax.Default name x keywords) = put_end (to + 1) keywords

-- a function of a code
abbrev pub function_form : Homes → ℕ → ℕ → ℕ → ℕ → ℕ → List syntax.CellPlace → tree.Form
function_form h to line code defaults keywords cells =
    tree.Do to line op.Func (argument.Value (operand.Const (const.Int (pos code))) ∷ of_temp defaults ∷ of_temp keywords ∷ map (λ c. of_temp (cell_at h c)) cells)

-- the defaults of a function, and the function
abbrev pub function_block : Homes → ℕ → ℕ → ℕ → List Carrier → syntax.Keywords → List Carrier → List syntax.CellPlace → tree.Block
function_block h high line code ps keywords ks cells =
    joined ps (joined ks (tree.Follow (tree.Do high line op.Tuple (map (λ p. argument.Value p.value) ps)) (tree.Follow (tree.Do (high + 1) line op.Dict [])
    (put_block line (high + 1) (high + 2) keywords ks (λ to. alone (function_form h to line code high (high + 1) cells))))))
