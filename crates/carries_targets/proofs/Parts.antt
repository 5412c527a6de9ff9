-- The parts of an index, and arguments that are known.
use Rattle.std.proofs.Common.{◌≡◌, inl, ℕ, ◌<◌, ◌≤◌, [], ◌∷◌, Some, ap, ◌∙◌, arith}
use Rattle.nu_value.specs.declared.value.Value.{Value}
use Rattle.nu_rows.specs.Words.{then_value}
use Rattle.code_forms.specs.declared.operand.Argument.{Argument}
use Rattle.code_forms.specs.declared.operand.Operand.{Operand}
use Rattle.code_forms.specs.declared.operand.Operand.TheVariants as operand
use Rattle.node_tree.specs.Blocks as tree
use Rattle.node_tree.specs.Nodes as nodes
use Rattle.py_meaning.specs.Syntax as syntax
use Rattle.py_meaning.specs.Frames as python
use Rattle.py_meaning.specs.Expressions.{expression}
use Rattle.carries_base.specs.Frames.{Homes, behind, Holds, Facts, IsWithin, IsOff, Outside}
use Rattle.carries_base.specs.Carries.{Setting, source, target, CarriedTo, CarriesExpression}
use Rattle.carries_base.specs.Laws.{Within}
use Rattle.carries_base.proofs.Facts.{Off, outside_less}
use Rattle.carries_base.proofs.Carry.{AllEnds}
use Rattle.carries_base.proofs.Sequence.{Passes}
use Rattle.carries_base.proofs.Small.{within_off}
use Rattle.carries_control.proofs.Steps.{value_then}

-- an operand of one range lies outside of any range behind it
pub off_behind : (h : Homes) (l r low high : ℕ) (o : Operand) → behind h ≤ l → r ≤ low → IsWithin l r o → IsOff h low high o
off_behind h l r low high (operand.Temp t) st le x = let a : l ≤ t = x.0 in let b : t < r = x.1 in (omega arith, inl (omega arith))
off_behind h l r low high (operand.Const c) st le x = tt

pub two_values : (g : nodes.Frame) (a b : Argument) (u v : Value) → nodes.argument_value g a ≡ Some u → nodes.argument_value g b ≡ Some v → nodes.values g (a ∷ b ∷ []) ≡ Some (u ∷ v ∷ [])
two_values g a b u v x y = ap (λ q. nodes.both q (nodes.both (nodes.argument_value g b) (Some []))) x ∙ ap (λ q. nodes.both (Some u) (nodes.both q (Some []))) y

pub three_values : (g : nodes.Frame) (a b c : Argument) (u v w : Value) → nodes.argument_value g a ≡ Some u → nodes.argument_value g b ≡ Some v → nodes.argument_value g c ≡ Some w → nodes.values g (a ∷ b ∷ c ∷ []) ≡ Some (u ∷ v ∷ w ∷ [])
three_values g a b c u v w x y z = ap (λ q. nodes.both q (nodes.values g (b ∷ c ∷ []))) x ∙ ap (λ q. nodes.both (Some u) q) (two_values g b c v w y z)

pub parts_off : (xl xh yl yh d : ℕ) (a i : Operand) (u w : Value) (fs : Facts) → IsWithin xl xh a → IsWithin yl yh i → xh ≤ d → yh ≤ d → Off d fs → Off d (Holds i w ∷ Holds a u ∷ fs)
parts_off xl xh yl yh d a i u w fs wa wi la li off = within_off yl yh d i w (Holds a u ∷ fs) wi li (within_off xl xh d a u fs wa la off)

-- the object of an index is kept over the block of what stands in brackets
pub index_then : (z : Setting) (h : Homes) (fs : Facts) (Q : AllEnds) (low high xl xh yl yh : ℕ) (x y : syntax.Expression) (xb yb : tree.Block) (a i : Operand) (K : Value → Value → python.R) (rest : tree.Block) → Passes z h 0 (λ v. fs) fs Q → Within low high xl xh → Within low high yl yh → IsOff h yl yh a → CarriesExpression h xl xh x xb a → CarriesExpression h yl yh y yb i → Outside h low high fs → ((u w : Value) → CarriedTo z h Q (Holds i w ∷ Holds a u ∷ fs) (K u w) (nodes.block_row (target z) rest)) → CarriedTo z h Q fs (then_value (expression (source z) x) (λ u. then_value (expression (source z) y) (K u))) (nodes.block_row (target z) (tree.append xb (tree.append yb rest)))
index_then z h fs Q low high xl xh yl yh x y xb yb a i K rest pass wx wy kept cx cy out next =
    value_then z h fs Q pass fs xl xh x xb a _ (tree.append yb rest) (λ c g q. q) cx (outside_less h low high xl xh fs wx.0 wx.1 out)
    (λ u. value_then z h fs Q pass (Holds a u ∷ fs) yl yh y yb i (K u) rest (λ c g q. q.1) cy (kept, outside_less h low high yl yh fs wy.0 wy.1 out) (next u))
