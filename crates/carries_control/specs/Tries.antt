-- The primitive statements of a `try` with `except` clauses, and when blocks carry the clauses.
use Rattle.std.specs.Prelude.{ℕ, ◌+◌, ◌≤◌, [], ◌∷◌, Option, Some, false}
use Rattle.nu_value.specs.declared.value.Value.TheVariants as value
use Rattle.op_forms.specs.declared.constant.Const.TheVariants as const
use Rattle.op_forms.specs.declared.op.Op.TheVariants as op
use Rattle.code_forms.specs.declared.operand.Argument.TheVariants as argument
use Rattle.code_forms.specs.declared.operand.Operand.{Operand}
use Rattle.code_forms.specs.declared.operand.Operand.TheVariants as operand
use Rattle.node_tree.specs.Blocks.{alone, of_temp}
use Rattle.node_tree.specs.Blocks as tree
use Rattle.node_tree.specs.Nodes as nodes
use Rattle.py_meaning.specs.Syntax as syntax
use Rattle.py_meaning.specs.Frames as python
use Rattle.py_meaning.specs.Statements.{block, handler, caught}
use Rattle.carries_base.specs.Frames.{Homes, behind, Facts, Outside}
use Rattle.carries_base.specs.Carries.{Setting, source, target, Carried, Knows}
use Rattle.carries_control.specs.Loops.{attempt}

-- by two temporaries: of the exception, and whether there was one
abbrev pub try_block : ℕ → tree.Block → tree.Block → tree.Block → tree.Block
try_block t bb hb ob =
    tree.Follow (tree.Constant (t + 1) (const.Bool false)) (tree.Follow (attempt t (t + 1) bb) (alone (tree.If (operand.Temp (t + 1)) hb ob)))

-- a clause's class, whether it fits the exception in x, and what follows
abbrev pub clause_block : ℕ → ℕ → ℕ → tree.Block → Operand → tree.Block → tree.Block → tree.Block
clause_block line x t cb o bb rb =
    tree.append cb (tree.Follow (tree.Do t line op.Match (of_temp x ∷ argument.Value o ∷ [])) (alone (tree.If (operand.Temp t) bb rb)))

-- the block carries what follows an exception, which a temporary holds
pub record CarriesCaught (h : Homes) (low high temp : ℕ) (r : python.L → Option ℕ → ℕ → python.R) (b : tree.Block) : Type 0 where
  pub starts : behind h ≤ low
  pub grows : low ≤ high
  pub carries : (z : Setting) (fs : Facts) (handled : Option ℕ) (x : ℕ) → Outside h low high fs → Knows fs (operand.Temp temp) (value.Obj x) → Carried z h 2 (λ v. fs) fs (r (source z) handled x) (nodes.block_row (target z) b)

abbrev pub CarriesHandlers : Homes → ℕ → ℕ → ℕ → syntax.Handlers → tree.Block → Type 0
CarriesHandlers h low high temp hs b = CarriesCaught h low high temp (λ l handled. handler l handled hs) b

-- the body of a clause, with its name, if it has one
abbrev pub CarriesClause : Homes → ℕ → ℕ → ℕ → Option syntax.Caught → syntax.Block → tree.Block → Type 0
CarriesClause h low high temp name body b = CarriesCaught h low high temp (λ l handled x. caught l x name (block l (Some x) body)) b
