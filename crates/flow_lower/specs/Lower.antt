-- The flat code of node trees.
use Rattle.std.specs.Prelude.{ℕ, zero, suc, ◌+◌, List, [], ◌∷◌, map, length}
use Rattle.op_forms.specs.declared.op.Op.TheVariants as op
use Rattle.code_forms.specs.declared.operand.Argument.TheVariants as argument
use Rattle.code_forms.specs.declared.operand.Operand.TheVariants as operand
use Rattle.node_tree.specs.declared.script.NodeCode.{NodeCode}
use Rattle.node_tree.specs.Blocks as tree
use Rattle.node_tree.specs.Tree.{block}
use Rattle.flow_code.specs.declared.statement.Line.{Line}
use Rattle.flow_code.specs.declared.statement.Line.TheVariants.{Label, Do}
use Rattle.flow_code.specs.declared.statement.Statement.{Statement}
use Rattle.flow_code.specs.declared.statement.Statement.TheVariants as flat

-- how many labels a statement, and a block, has
abbrev mutual
  pub form_labels : tree.Form → ℕ
  form_labels (tree.Constant to c) = 0
  form_labels (tree.Copy to from) = 0
  form_labels (tree.Do to line o args) = 0
  form_labels (tree.Call to line function args) = 0
  form_labels (tree.Yield to line a) = 0
  form_labels (tree.If test y n) = 2 + labels n + labels y
  form_labels (tree.Loop body) = 2 + labels body
  form_labels (tree.Leave levels) = 0
  form_labels (tree.Catch to body handler) = 2 + labels body + labels handler
  form_labels (tree.Return a) = 0
  form_labels (tree.Raise a) = 0
  form_labels (tree.Unset to) = 0

  pub labels : tree.Block → ℕ
  labels tree.Stop = 0
  labels (tree.Follow x r) = form_labels x + labels r

-- the label behind the loop that so many more than one leaves end
abbrev pub exit : List ℕ → ℕ → ℕ
exit [] n = 0
exit (l ∷ ls) zero = l
exit (l ∷ ls) (suc n) = exit ls n

abbrev pub exit_of : List ℕ → ℕ → ℕ
exit_of ls zero = 0
exit_of ls (suc n) = exit ls n

-- the lines of a statement, and of a block, whose labels are numbered from k on, within loops with these exits; an
-- exception leads to the label `fail`. A temporary is the register of its number. The lines that follow come last
abbrev mutual
  pub form_lines : tree.Form → ℕ → ℕ → List ℕ → List Line → List Line
  form_lines (tree.Constant to c) k fail exits mid = Do (flat.Store to (operand.Const c)) ∷ mid
  form_lines (tree.Copy to from) k fail exits mid = Do (flat.Store to (operand.Temp from)) ∷ mid
  form_lines (tree.Do to line o args) k fail exits mid = Do (flat.Do to line o args fail) ∷ mid
  form_lines (tree.Call to line function args) k fail exits mid =
      Do (flat.Do to line op.Call (argument.Value function ∷ map argument.Value args) fail) ∷ mid
  form_lines (tree.Yield to line a) k fail exits mid = Do (flat.Yield to line a fail) ∷ mid
  form_lines (tree.If test y n) k fail exits mid =
      Do (flat.Branch test k) ∷ block_lines n (k + 2) fail exits (Do (flat.Goto (k + 1)) ∷ Label k ∷ block_lines y (k + 2 + labels n) fail exits (Label (k + 1) ∷ mid))
  form_lines (tree.Loop body) k fail exits mid =
      Label k ∷ block_lines body (k + 2) fail ((k + 1) ∷ exits) (Do (flat.Goto k) ∷ Label (k + 1) ∷ mid)
  form_lines (tree.Leave levels) k fail exits mid = Do (flat.Goto (exit_of exits levels)) ∷ mid
  form_lines (tree.Catch to body handler) k fail exits mid =
      block_lines body (k + 2) k exits (Do (flat.Goto (k + 1)) ∷ Label k ∷ Do (flat.Caught to) ∷ block_lines handler (k + 2 + labels body) fail exits (Label (k + 1) ∷ mid))
  form_lines (tree.Return a) k fail exits mid = Do (flat.Give a) ∷ mid
  form_lines (tree.Raise a) k fail exits mid = Do (flat.Again a fail) ∷ mid
  form_lines (tree.Unset to) k fail exits mid = Do (flat.Unset to) ∷ mid

  pub block_lines : tree.Block → ℕ → ℕ → List ℕ → List Line → List Line
  block_lines tree.Stop k fail exits tail = tail
  block_lines (tree.Follow x r) k fail exits tail =
      form_lines x k fail exits (block_lines r (k + form_labels x) fail exits tail)

-- an exception leaves a function; it can where the block has a statement
abbrev pub fail_lines : tree.Block → List Line
fail_lines tree.Stop = []
fail_lines (tree.Follow x r) = Label 0 ∷ Do flat.Fail ∷ []

-- the lines behind a function's block: it gives None, or its exception leaves
abbrev pub last_lines : tree.Block → List Line
last_lines b = Do flat.End ∷ fail_lines b

-- so many statements, which copy what a function was handed, from number i on, to registers from `to` on
abbrev pub copies : (ℕ → ℕ → Statement) → ℕ → ℕ → ℕ → List Line → List Line
copies x zero to i tail = tail
copies x (suc n) to i tail = Do (x to i) ∷ copies x n (suc to) (suc i) tail

-- the lines of a function: its parameters, its free cells, its block
abbrev pub body_lines : tree.Block → List Line
body_lines b = block_lines b 1 0 [] (last_lines b)

abbrev pub function_lines : ℕ → ℕ → tree.Block → List Line
function_lines params free b = copies flat.Parameter params 0 0 (copies flat.Free free params 0 (body_lines b))

abbrev pub code_lines : NodeCode → List Line
code_lines code = function_lines (length code.header.params) code.free (block code.body)
