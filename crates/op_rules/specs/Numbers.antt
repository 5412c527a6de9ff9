-- Operations on integers (library reference, "Numeric Types" and "Bitwise Operations on Integer Types").
use Rattle.std.specs.Prelude.{suc, ◌^◌, ℤ, pos, negsuc, neg_ℤ, ◌+ℤ◌, ◌-ℤ◌, ◌*ℤ◌, Option, Some, None, codes, if◌then◌else◌, nat_lt, int_lt, unsigned_abs, Bool}
use Rattle.std.specs.Ordering.{int_eq}
use Rattle.std.specs.Int.{w128, int_pow, int_div_euclid, int_bit_and, int_bit_or, int_bit_xor}
use Rattle.nu_run.specs.declared.StopKind.TheVariants as stop
use Rattle.nu_value.specs.declared.value.Value.TheVariants as value
use Rattle.op_rules.specs.declared.arithmetic.Computed.{Computed}
use Rattle.op_rules.specs.declared.arithmetic.Computed.TheVariants as computed
use Rattle.op_forms.specs.declared.end.OpEnd.{OpEnd}
use Rattle.op_forms.specs.declared.end.OpEnd.TheVariants as opend
use Rattle.op_forms.specs.declared.op.Op.{Op}
use Rattle.op_forms.specs.declared.op.Op.TheVariants as op
use Rattle.op_rules.specs.Kinds.{zero_division_error, value_error}

-- from -2^127 to 2^127 - 1
abbrev pub fits_int : ℤ → Bool
fits_int (pos n) = nat_lt n (2 ^ 127)
fits_int (negsuc n) = nat_lt n (2 ^ 127)

abbrev pub in_range : ℤ → Computed
in_range z = if fits_int z then computed.Int z else computed.TooLarge

abbrev pub sum : ℤ → ℤ → Computed
sum a b = in_range (a +ℤ b)

abbrev pub difference : ℤ → ℤ → Computed
difference a b = in_range (a -ℤ b)

abbrev pub product : ℤ → ℤ → Computed
product a b = in_range (a *ℤ b)

-- The quotient, rounded toward minus infinity: a number over -b is its negative over b.
abbrev pub floor_quotient : ℤ → ℤ → ℤ
floor_quotient a (pos b) = int_div_euclid a (pos b)
floor_quotient a (negsuc b) = int_div_euclid (neg_ℤ a) (pos (suc b))

-- what the quotient times the divisor leaves
abbrev pub floor_rest : ℤ → ℤ → ℤ
floor_rest a b = a -ℤ floor_quotient a b *ℤ b

-- a quotient or a rest
abbrev pub divided : ℤ → ℤ → Computed
divided b z = if int_eq b (pos 0) then computed.ZeroDivision else in_range z

-- a negative power is no integer
abbrev pub power : ℤ → ℤ → Computed
power a b =
    if int_lt b (pos 0) then (if int_eq a (pos 0) then computed.ZeroPower else computed.Float) else in_range (int_pow a (unsigned_abs b))

-- a number shifted by a count
abbrev pub shifted : ℤ → ℤ → Computed
shifted b z = if int_lt b (pos 0) then computed.NegativeCount else in_range z

-- An operation on two integers. A shift to the left multiplies by a power of two, one to the right divides by it and rounds
-- toward minus infinity; `&`, `|` and `^` are those of two's complements.
abbrev pub int_op : Op → ℤ → ℤ → Computed
int_op op.Add a b = sum a b
int_op op.Sub a b = difference a b
int_op op.Mul a b = product a b
int_op op.FloorDiv a b = divided b (floor_quotient a b)
int_op op.Mod a b = divided b (floor_rest a b)
int_op op.Pow a b = power a b
int_op op.LShift a b = shifted b (a *ℤ pos (2 ^ unsigned_abs b))
int_op op.RShift a b = shifted b (floor_quotient a (pos (2 ^ unsigned_abs b)))
int_op op.And a b = computed.Int (int_bit_and w128 a b)
int_op op.Or a b = computed.Int (int_bit_or w128 a b)
int_op op.Xor a b = computed.Int (int_bit_xor w128 a b)
int_op op.IAdd a b = sum a b
int_op op.IMul a b = product a b
int_op other a b = computed.NoOperation

-- an operation on one integer: `~a` is -1 - a
abbrev pub unary_op : Op → ℤ → Computed
unary_op op.Neg a = in_range (neg_ℤ a)
unary_op op.Pos a = in_range a
unary_op op.Inv a = in_range (negsuc 0 -ℤ a)
unary_op other a = computed.NoOperation

-- what an operation on integers gives, raises or stops with
abbrev pub computed_end : Computed → OpEnd
computed_end (computed.Int z) = opend.Give (value.Int z)
computed_end computed.TooLarge = opend.Stop stop.Int
computed_end computed.Float = opend.Stop stop.Float
computed_end computed.ZeroDivision = zero_division_error (codes "integer division or modulo by zero")
computed_end computed.ZeroPower = zero_division_error (codes "zero to a negative power")
computed_end computed.NegativeCount = value_error (codes "negative shift count")
computed_end computed.NoOperation = opend.Stop stop.Unbuilt

-- what a sum, product or power that may be too large comes to
abbrev pub checked : Option ℤ → Computed
checked (Some z) = computed.Int z
checked None = computed.TooLarge
