-- Expressions and operations, and what follows their values, to any ends.
use Rattle.std.proofs.Common.{◌≡◌, ℕ, ◌+◌, ◌≤◌, List, [], ◌∷◌, Some, ap, arith}
use Rattle.nu_value.specs.declared.value.Value.{Value}
use Rattle.op_forms.specs.declared.op.Op.{Op}
use Rattle.op_forms.specs.declared.op.Op.TheVariants as op
use Rattle.nu_rows.specs.Words.{then_value}
use Rattle.nu_calls.specs.Calls.{operate}
use Rattle.code_forms.specs.declared.operand.Argument.{Argument}
use Rattle.code_forms.specs.declared.operand.Argument.TheVariants as argument
use Rattle.code_forms.specs.declared.operand.Operand.{Operand}
use Rattle.code_forms.specs.declared.operand.Operand.TheVariants as operand
use Rattle.node_tree.specs.Blocks.{alone, of_temp}
use Rattle.node_tree.specs.Blocks as tree
use Rattle.node_tree.specs.Nodes as nodes
use Rattle.py_meaning.specs.Syntax as syntax
use Rattle.py_meaning.specs.Frames as python
use Rattle.py_meaning.specs.Expressions.{expression}
use Rattle.py_meaning.specs.Statements.{raise}
use Rattle.carries_base.specs.Frames.{Homes, behind, Holds, Facts, Fits, Outside}
use Rattle.carries_base.specs.Carries.{Setting, source, target, EndsAs, CarriedTo, CarriesExpression}
use Rattle.carries_base.proofs.Facts.{Off}
use Rattle.carries_base.proofs.Carry.{AllEnds}
use Rattle.carries_base.proofs.Sequence.{Passes, lessen, passes_to, seq_to, then_to, unvalued, one_by}
use Rattle.carries_base.proofs.Operations.{operate_carried}
use Rattle.carries_names.proofs.Functions.{Extends}
use Rattle.carries_control.specs.Raises.{raise_block}

module _ (z : Setting) (h : Homes) (fs : Facts) (Q : AllEnds) (pass : Passes z h 0 (λ v. fs) fs Q) where
  -- where more is known, the ends of expressions pass too
  pub passed : (m : Value → Facts) (gs : Facts) → Extends gs fs → Passes z h 0 m gs Q
  passed m gs more tabs e s e' t over x = pass tabs e s e' t over (passes_to z h 0 0 m (λ v. fs) gs fs (omega arith) more tabs e s e' t over x)

  pub value_then : (gs : Facts) (low high : ℕ) (x : syntax.Expression) (b : tree.Block) (o : Operand) (K : Value → python.R) (rest : tree.Block) → Extends gs fs → CarriesExpression h low high x b o → Outside h low high gs → ((v : Value) → CarriedTo z h Q (Holds o v ∷ gs) (K v) (nodes.block_row (target z) rest)) → CarriedTo z h Q gs (then_value (expression (source z) x) K) (nodes.block_row (target z) (tree.append b rest))
  value_then gs low high x b o K rest more c out next = seq_to z h 0 (λ v. Holds o v ∷ gs) gs Q _ K b rest (passed (λ v. Holds o v ∷ gs) gs more) (c.carries z gs out) next

  pub do_then : (gs : Facts) (line to : ℕ) (o : Op) (vs : List Value) (args : List Argument) (K : Value → python.R) (d : nodes.R) → Extends gs fs → behind h ≤ to → Off to gs → ((c : Value) (g : nodes.Frame) → Fits gs c g → nodes.values g args ≡ Some vs) → ((v : Value) → CarriedTo z h Q (Holds (operand.Temp to) v ∷ gs) (K v) d) → CarriedTo z h Q gs (then_value (operate (source z) line o vs) K) (nodes.followed (nodes.do_row (target z) to line o args) d)
  do_then gs line to o vs args K d more above off known next =
      then_to z h 0 (λ u. Holds (operand.Temp to) u ∷ gs) gs Q _ _ K d (passed (λ u. Holds (operand.Temp to) u ∷ gs) gs more) (operate_carried z h 0 gs line o vs to args above off known) next

module _ (z : Setting) (h : Homes) (n : ℕ) (fs : Facts) where
  abbrev Q : AllEnds
  Q = EndsAs z h n (λ v. fs) fs

  pub passing : Passes z h 0 (λ v. fs) fs Q
  passing = passes_to z h 0 n (λ v. fs) (λ v. fs) fs fs (omega arith) (λ c g y. y)

  -- an operation at the end of a statement
  pub do_last : (gs : Facts) (line to : ℕ) (o : Op) (vs : List Value) (args : List Argument) → Extends gs fs → behind h ≤ to → Off to gs → ((c : Value) (g : nodes.Frame) → Fits gs c g → nodes.values g args ≡ Some vs) → CarriedTo z h Q gs (operate (source z) line o vs) (nodes.block_row (target z) (alone (tree.Do to line o args)))
  do_last gs line to o vs args more above off known =
      one_by z h n _ Q _ _ (unvalued z h n (λ v. fs) fs)
      (lessen z h n (λ u. Holds (operand.Temp to) u ∷ gs) (λ v. fs) fs gs _ _ (λ u c g y. more c g y.1) more (operate_carried z h n gs line o vs to args above off known))

  pub raise_by : (gs : Facts) (line t : ℕ) (o : Operand) (v : Value) → Extends gs fs → behind h ≤ t → Off t gs → Off (t + 1) gs → ((c : Value) (g : nodes.Frame) → Fits gs c g → nodes.operand_value g o ≡ Some v) → CarriedTo z h Q gs (raise (source z) line v) (nodes.block_row (target z) (raise_block line t o))
  raise_by gs line t o v more above off₁ off₂ known =
      do_then z h fs Q passing gs line t op.Exc (v ∷ []) (argument.Value o ∷ []) _ _ more above off₁ (λ c g y. ap (λ u. nodes.both u (Some [])) (known c g y))
      (λ x. do_last (Holds (operand.Temp t) x ∷ gs) line (t + 1) op.Raise (x ∷ []) (of_temp t ∷ []) (λ c g y. more c g y.1) (omega arith) (λ e. let e₁ : t ≡ t + 1 = e in omega arith, off₂) (λ c g y. ap (λ u. nodes.both u (Some [])) y.0))
