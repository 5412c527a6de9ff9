-- Values of parts that go into a list or dict.
use Rattle.std.proofs.Common.{◌≡◌, ℕ, ◌≤◌, List, [], ◌∷◌, Some, ap, ◌∙◌}
use Rattle.nu_value.specs.declared.value.Value.{Value}
use Rattle.op_forms.specs.declared.op.Op.{Op}
use Rattle.nu_rows.specs.Words.{then_value}
use Rattle.nu_calls.specs.Calls.{operate}
use Rattle.code_forms.specs.declared.operand.Argument.{Argument}
use Rattle.code_forms.specs.declared.operand.Argument.TheVariants as argument
use Rattle.code_forms.specs.declared.operand.Operand.TheVariants as operand
use Rattle.node_tree.specs.Blocks.{of_temp}
use Rattle.node_tree.specs.Blocks as tree
use Rattle.node_tree.specs.Nodes as nodes
use Rattle.py_meaning.specs.Syntax as syntax
use Rattle.py_meaning.specs.Frames as python
use Rattle.py_meaning.specs.Expressions.{expression}
use Rattle.carries_base.specs.Frames.{Homes, behind, Holds, Facts, Fits, Outside}
use Rattle.carries_base.specs.Carries.{Setting, source, target, CarriedTo, Carrier, Knows}
use Rattle.carries_base.proofs.Facts.{Off}
use Rattle.carries_base.proofs.Carry.{AllEnds}
use Rattle.carries_base.proofs.Sequence.{Passes, strengthen}
use Rattle.carries_names.proofs.Functions.{Extends}
use Rattle.carries_control.proofs.Steps.{value_then, do_then}
use Rattle.carries_values.specs.Parts.{CarriesPart}
use Rattle.carries_values.specs.Displays.{added_block}
use Rattle.carries_values.proofs.Parts.{off_part}

-- an argument that is known, before others
pub known_then : (gs : Facts) (a : Argument) (v : Value) (args : List Argument) (vs : List Value) → ((c : Value) (g : nodes.Frame) → Fits gs c g → nodes.argument_value g a ≡ Some v) → ((c : Value) (g : nodes.Frame) → Fits gs c g → nodes.values g args ≡ Some vs) → (c : Value) (g : nodes.Frame) → Fits gs c g → nodes.values g (a ∷ args) ≡ Some (v ∷ vs)
known_then gs a v args vs first rest c g y = ap (λ q. nodes.both q (nodes.values g args)) (first c g y) ∙ ap (λ q. nodes.both (Some v) q) (rest c g y)

module _ (z : Setting) (h : Homes) (fs : Facts) (Q : AllEnds) (pass : Passes z h 0 (λ v. fs) fs Q) (low high line u : ℕ) (above : behind h ≤ u) (le : high ≤ u) (gs : Facts) (more : Extends gs fs) (off : Off u gs) where
  -- a part, and an operation on its value, which itself is of no account
  pub used_by : (x : syntax.Expression) (p : Carrier) (o : Op) (vs : Value → List Value) (args : List Argument) (r : python.R) (rest : tree.Block) → (c : CarriesPart h low high x p) → Outside h c.from c.to gs → ((v c : Value) (g : nodes.Frame) → Fits (Holds p.value v ∷ gs) c g → nodes.values g args ≡ Some (vs v)) → CarriedTo z h Q gs r (nodes.block_row (target z) rest) → CarriedTo z h Q gs (then_value (expression (source z) x) (λ v. then_value (operate (source z) line o (vs v)) (λ w. r))) (nodes.block_row (target z) (tree.append p.block (tree.Follow (tree.Do u line o args) rest)))
  used_by x p o vs args r rest c out known next =
      value_then z h fs Q pass gs c.from c.to x p.block p.value _ _ more c.carries out
      (λ v. do_then z h fs Q pass (Holds p.value v ∷ gs) line u o (vs v) args _ _ (λ c g y. more c g y.1) above (off_part h low high u x p v gs c le off) (known v)
      (λ w. strengthen z h 0 gs (Holds (operand.Temp u) w ∷ Holds p.value v ∷ gs) Q _ _ (λ c g y. y.1.1) next))

  -- it goes into what a temporary holds
  pub added_by : (t : ℕ) (into : Value) (x : syntax.Expression) (p : Carrier) (o : Op) (r : python.R) (rest : tree.Block) → Knows gs (operand.Temp t) into → (c : CarriesPart h low high x p) → Outside h c.from c.to gs → CarriedTo z h Q gs r (nodes.block_row (target z) rest) → CarriedTo z h Q gs (then_value (expression (source z) x) (λ v. then_value (operate (source z) line o (into ∷ v ∷ [])) (λ w. r))) (nodes.block_row (target z) (added_block line t u o p rest))
  added_by t into x p o r rest known c out next =
      used_by x p o (λ v. into ∷ v ∷ []) (of_temp t ∷ argument.Value p.value ∷ []) r rest c out
      (λ v. known_then (Holds p.value v ∷ gs) (of_temp t) into (argument.Value p.value ∷ []) (v ∷ []) (λ c g y. known c g y.1) (λ c g y. ap (λ q. nodes.both q (Some [])) y.0))
      next
