-- `yield from`, with all that follows what is sent and thrown.
use Rattle.std.proofs.Common.{ℕ, ◌+◌, ◌≤◌, arith}
use Rattle.code_forms.specs.declared.operand.Operand.{Operand}
use Rattle.code_forms.specs.declared.operand.Operand.TheVariants as operand
use Rattle.node_tree.specs.Blocks as tree
use Rattle.py_meaning.specs.Syntax as syntax
use Rattle.carries_base.specs.Frames.{Homes, behind}
use Rattle.carries_base.specs.Carries.{CarriesExpression}
use Rattle.carries_base.proofs.Facts.{outside_less}
use Rattle.carries_definitions.specs.Delegated.{delegate_block}
use Rattle.carries_definitions.specs.Told.{sent_block, thrown_block}
use Rattle.carries_definitions.proofs.Delegated.{delegate_carried}
use Rattle.carries_definitions.proofs.Told.{sent_carried, thrown_carried}

pub yield_from_carried : (h : Homes) (low high line : ℕ) (x : syntax.Expression) (b : tree.Block) (o : Operand) → CarriesExpression h low high x b o → CarriesExpression h low (high + 13) (syntax.YieldFrom line x) (delegate_block line high b o (sent_block line high) (thrown_block line high)) (operand.Temp (high + 7))
yield_from_carried h low t line x b o c =
    let st = c.starts in
    let le = c.grows in
    let above : behind h ≤ t = omega arith in
    delegate_carried h low t (t + 13) line x b (sent_block line t) (thrown_block line t) o (omega arith) c
    (λ z fs iterator v out. sent_carried h t line above z fs iterator v (outside_less h low (t + 13) t (t + 10) fs le (omega arith) out))
    (λ z fs iterator e out. thrown_carried h t line above z fs iterator e (outside_less h low (t + 13) t (t + 13) fs le (omega arith) out))
