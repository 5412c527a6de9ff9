-- Laws of the rows on integers, in the words of arithmetic.
use Rattle.std.specs.Prelude.{◌≡◌, ℤ, pos, ◌+ℤ◌, ◌*ℤ◌, ◌≤ℤ◌, ◌<ℤ◌, ◌↔◌, IsTrue}
use Rattle.std.specs.Ordering.{int_cmp}
use Rattle.op_forms.specs.declared.op.Op.TheVariants as op
use Rattle.op_rules.specs.Comparisons.{holds}
use Rattle.op_rules.specs.Numbers.{floor_quotient, floor_rest}

-- floor division: the rest has the divisor's sign, and is smaller
pub record DivisionIsFloored : Type 0 where
  pub whole : (a b : ℤ) → floor_quotient a b *ℤ b +ℤ floor_rest a b ≡ a
  pub by_positive : (a b : ℤ) → pos 0 <ℤ b → (pos 0 ≤ℤ floor_rest a b) × (floor_rest a b <ℤ b)
  pub by_negative : (a b : ℤ) → b <ℤ pos 0 → (b <ℤ floor_rest a b) × (floor_rest a b ≤ℤ pos 0)

pub record ComparisonsAreTheOrder : Type 0 where
  pub less : (a b : ℤ) → IsTrue (holds op.Lt (int_cmp a b)) ↔ (a <ℤ b)
  pub at_most : (a b : ℤ) → IsTrue (holds op.Le (int_cmp a b)) ↔ (a ≤ℤ b)
  pub greater : (a b : ℤ) → IsTrue (holds op.Gt (int_cmp a b)) ↔ (b <ℤ a)
  pub at_least : (a b : ℤ) → IsTrue (holds op.Ge (int_cmp a b)) ↔ (b ≤ℤ a)
