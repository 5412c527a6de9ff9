-- Foldable operations by cases are the rows of the table.
use Rattle.std.proofs.Common.{◌≡◌, ℕ, ◌+◌, ◌*◌, List, [], ◌∷◌, ◌++◌, Option, Some, None, Bool, true, false, refl, sym, ap, ◌∙◌}
use Rattle.std.specs.Prelude.{nat_le, not, ◌&&◌, ◌||◌, if◌then◌else◌}
use Rattle.nu_run.specs.declared.StopKind.TheVariants as stop
use Rattle.nu_value.specs.declared.same.Sameness.TheVariants as same
use Rattle.nu_value.specs.declared.value.Value.TheVariants as value
use Rattle.nu_value.specs.Same.{eq, identical, number_of, numbers_eq, verdict}
use Rattle.op_forms.specs.declared.constant.Const.{Const}
use Rattle.op_forms.specs.declared.constant.Const.TheVariants as const
use Rattle.op_forms.specs.declared.end.OpEnd.TheVariants as opend
use Rattle.op_forms.specs.declared.op.Op.{Op}
use Rattle.op_forms.specs.declared.op.Op.TheVariants as op
use Rattle.op_rules.specs.Comparisons.{same_end}
use Rattle.op_forms.specs.Fits.{is_in}
use Rattle.op_forms.specs.Constants.{value_of}
use Rattle.op_rules.specs.Foldable.{folded, given}
use Rattle.op_rules.specs.Folding.{const_eq, order_folded, pair_folded, two_folded, one_folded, folded_by}
use Rattle.op_rules.specs.Table.{by_family}
use Rattle.nu_text.specs.Characters.{characters}
use Rattle.op_rules.specs.TextRows.{sized, size_limit, copies, copy_count}

in_const : (a : Const) → is_in 0 (value_of a) ≡ true
in_const const.None = refl
in_const (const.Bool b) = refl
in_const (const.Int z) = refl
in_const (const.Str text) = refl

both : (a b : Const) → (is_in 0 (value_of a) && (is_in 0 (value_of b) && true)) ≡ true
both a b = rw (in_const a, in_const b) refl

one_false : (a : Const) → (is_in 0 (value_of a) && false) ≡ false
one_false a = rw (in_const a) refl

taken : (b : Bool) (x : Option Const) → b ≡ true → (if true && b then x else None) ≡ x
taken b x e = rw e refl

left : (b : Bool) (x : Option Const) → b ≡ false → (if true && b then x else None) ≡ None
left b x e = rw e refl

-- ---- equality

if_or : (b c : Bool) → (if b then same.Equal else verdict c) ≡ verdict (b || c)
if_or true c = refl
if_or false c = refl

eq_const : (a b : Const) → eq [] (value_of a) (value_of b) ≡ verdict (const_eq a b)
eq_const const.None const.None = if_or (identical (value_of const.None) (value_of const.None)) (numbers_eq (number_of (value_of const.None)) (number_of (value_of const.None)))
eq_const const.None (const.Bool y) = if_or (identical (value_of const.None) (value_of (const.Bool y))) (numbers_eq (number_of (value_of const.None)) (number_of (value_of (const.Bool y))))
eq_const const.None (const.Int y) = if_or (identical (value_of const.None) (value_of (const.Int y))) (numbers_eq (number_of (value_of const.None)) (number_of (value_of (const.Int y))))
eq_const const.None (const.Str y) = if_or (identical (value_of const.None) (value_of (const.Str y))) (numbers_eq (number_of (value_of const.None)) (number_of (value_of (const.Str y))))
eq_const (const.Bool x) const.None = if_or (identical (value_of (const.Bool x)) (value_of const.None)) (numbers_eq (number_of (value_of (const.Bool x))) (number_of (value_of const.None)))
eq_const (const.Bool x) (const.Bool y) = if_or (identical (value_of (const.Bool x)) (value_of (const.Bool y))) (numbers_eq (number_of (value_of (const.Bool x))) (number_of (value_of (const.Bool y))))
eq_const (const.Bool x) (const.Int y) = if_or (identical (value_of (const.Bool x)) (value_of (const.Int y))) (numbers_eq (number_of (value_of (const.Bool x))) (number_of (value_of (const.Int y))))
eq_const (const.Bool x) (const.Str y) = if_or (identical (value_of (const.Bool x)) (value_of (const.Str y))) (numbers_eq (number_of (value_of (const.Bool x))) (number_of (value_of (const.Str y))))
eq_const (const.Int x) const.None = if_or (identical (value_of (const.Int x)) (value_of const.None)) (numbers_eq (number_of (value_of (const.Int x))) (number_of (value_of const.None)))
eq_const (const.Int x) (const.Bool y) = if_or (identical (value_of (const.Int x)) (value_of (const.Bool y))) (numbers_eq (number_of (value_of (const.Int x))) (number_of (value_of (const.Bool y))))
eq_const (const.Int x) (const.Int y) = if_or (identical (value_of (const.Int x)) (value_of (const.Int y))) (numbers_eq (number_of (value_of (const.Int x))) (number_of (value_of (const.Int y))))
eq_const (const.Int x) (const.Str y) = if_or (identical (value_of (const.Int x)) (value_of (const.Str y))) (numbers_eq (number_of (value_of (const.Int x))) (number_of (value_of (const.Str y))))
eq_const (const.Str x) const.None = if_or (identical (value_of (const.Str x)) (value_of const.None)) (numbers_eq (number_of (value_of (const.Str x))) (number_of (value_of const.None)))
eq_const (const.Str x) (const.Bool y) = if_or (identical (value_of (const.Str x)) (value_of (const.Bool y))) (numbers_eq (number_of (value_of (const.Str x))) (number_of (value_of (const.Bool y))))
eq_const (const.Str x) (const.Int y) = if_or (identical (value_of (const.Str x)) (value_of (const.Int y))) (numbers_eq (number_of (value_of (const.Str x))) (number_of (value_of (const.Int y))))
eq_const (const.Str x) (const.Str y) = if_or (identical (value_of (const.Str x)) (value_of (const.Str y))) (numbers_eq (number_of (value_of (const.Str x))) (number_of (value_of (const.Str y))))

same_given : (f : Bool → Bool) (c : Bool) → given (same_end f (verdict c)) ≡ Some (const.Bool (f c))
same_given f true = refl
same_given f false = refl

eq_given : (f : Bool → Bool) (a b : Const) → given (same_end f (eq [] (value_of a) (value_of b))) ≡ Some (const.Bool (f (const_eq a b)))
eq_given f a b = ap (λ s. given (same_end f s)) (eq_const a b) ∙ same_given f (const_eq a b)

-- ---- texts give no integer and no bool

no_if : (b : Bool) (text : List ℕ) → given (if b then opend.Give (value.Str text) else opend.Stop stop.Size) ≡ None
no_if true text = refl
no_if false text = refl

no_sized : (n : ℕ) (text : List ℕ) → given (sized n (opend.Give (value.Str text))) ≡ None
no_sized n text = no_if (nat_le n size_limit) text

order_lt : (a b : Const) → given (by_family op.Lt [] (value_of a ∷ value_of b ∷ [])).end ≡ order_folded op.Lt a b
order_lt const.None const.None = refl
order_lt const.None (const.Bool true) = refl
order_lt const.None (const.Bool false) = refl
order_lt const.None (const.Int y) = refl
order_lt const.None (const.Str y) = refl
order_lt (const.Bool true) const.None = refl
order_lt (const.Bool true) (const.Bool true) = refl
order_lt (const.Bool true) (const.Bool false) = refl
order_lt (const.Bool true) (const.Int y) = refl
order_lt (const.Bool true) (const.Str y) = refl
order_lt (const.Bool false) const.None = refl
order_lt (const.Bool false) (const.Bool true) = refl
order_lt (const.Bool false) (const.Bool false) = refl
order_lt (const.Bool false) (const.Int y) = refl
order_lt (const.Bool false) (const.Str y) = refl
order_lt (const.Int x) const.None = refl
order_lt (const.Int x) (const.Bool true) = refl
order_lt (const.Int x) (const.Bool false) = refl
order_lt (const.Int x) (const.Int y) = refl
order_lt (const.Int x) (const.Str y) = refl
order_lt (const.Str x) const.None = refl
order_lt (const.Str x) (const.Bool true) = refl
order_lt (const.Str x) (const.Bool false) = refl
order_lt (const.Str x) (const.Int y) = refl
order_lt (const.Str x) (const.Str y) = refl

order_le : (a b : Const) → given (by_family op.Le [] (value_of a ∷ value_of b ∷ [])).end ≡ order_folded op.Le a b
order_le const.None const.None = refl
order_le const.None (const.Bool true) = refl
order_le const.None (const.Bool false) = refl
order_le const.None (const.Int y) = refl
order_le const.None (const.Str y) = refl
order_le (const.Bool true) const.None = refl
order_le (const.Bool true) (const.Bool true) = refl
order_le (const.Bool true) (const.Bool false) = refl
order_le (const.Bool true) (const.Int y) = refl
order_le (const.Bool true) (const.Str y) = refl
order_le (const.Bool false) const.None = refl
order_le (const.Bool false) (const.Bool true) = refl
order_le (const.Bool false) (const.Bool false) = refl
order_le (const.Bool false) (const.Int y) = refl
order_le (const.Bool false) (const.Str y) = refl
order_le (const.Int x) const.None = refl
order_le (const.Int x) (const.Bool true) = refl
order_le (const.Int x) (const.Bool false) = refl
order_le (const.Int x) (const.Int y) = refl
order_le (const.Int x) (const.Str y) = refl
order_le (const.Str x) const.None = refl
order_le (const.Str x) (const.Bool true) = refl
order_le (const.Str x) (const.Bool false) = refl
order_le (const.Str x) (const.Int y) = refl
order_le (const.Str x) (const.Str y) = refl

order_gt : (a b : Const) → given (by_family op.Gt [] (value_of a ∷ value_of b ∷ [])).end ≡ order_folded op.Gt a b
order_gt const.None const.None = refl
order_gt const.None (const.Bool true) = refl
order_gt const.None (const.Bool false) = refl
order_gt const.None (const.Int y) = refl
order_gt const.None (const.Str y) = refl
order_gt (const.Bool true) const.None = refl
order_gt (const.Bool true) (const.Bool true) = refl
order_gt (const.Bool true) (const.Bool false) = refl
order_gt (const.Bool true) (const.Int y) = refl
order_gt (const.Bool true) (const.Str y) = refl
order_gt (const.Bool false) const.None = refl
order_gt (const.Bool false) (const.Bool true) = refl
order_gt (const.Bool false) (const.Bool false) = refl
order_gt (const.Bool false) (const.Int y) = refl
order_gt (const.Bool false) (const.Str y) = refl
order_gt (const.Int x) const.None = refl
order_gt (const.Int x) (const.Bool true) = refl
order_gt (const.Int x) (const.Bool false) = refl
order_gt (const.Int x) (const.Int y) = refl
order_gt (const.Int x) (const.Str y) = refl
order_gt (const.Str x) const.None = refl
order_gt (const.Str x) (const.Bool true) = refl
order_gt (const.Str x) (const.Bool false) = refl
order_gt (const.Str x) (const.Int y) = refl
order_gt (const.Str x) (const.Str y) = refl

order_ge : (a b : Const) → given (by_family op.Ge [] (value_of a ∷ value_of b ∷ [])).end ≡ order_folded op.Ge a b
order_ge const.None const.None = refl
order_ge const.None (const.Bool true) = refl
order_ge const.None (const.Bool false) = refl
order_ge const.None (const.Int y) = refl
order_ge const.None (const.Str y) = refl
order_ge (const.Bool true) const.None = refl
order_ge (const.Bool true) (const.Bool true) = refl
order_ge (const.Bool true) (const.Bool false) = refl
order_ge (const.Bool true) (const.Int y) = refl
order_ge (const.Bool true) (const.Str y) = refl
order_ge (const.Bool false) const.None = refl
order_ge (const.Bool false) (const.Bool true) = refl
order_ge (const.Bool false) (const.Bool false) = refl
order_ge (const.Bool false) (const.Int y) = refl
order_ge (const.Bool false) (const.Str y) = refl
order_ge (const.Int x) const.None = refl
order_ge (const.Int x) (const.Bool true) = refl
order_ge (const.Int x) (const.Bool false) = refl
order_ge (const.Int x) (const.Int y) = refl
order_ge (const.Int x) (const.Str y) = refl
order_ge (const.Str x) const.None = refl
order_ge (const.Str x) (const.Bool true) = refl
order_ge (const.Str x) (const.Bool false) = refl
order_ge (const.Str x) (const.Int y) = refl
order_ge (const.Str x) (const.Str y) = refl

pair_add : (a b : Const) → given (by_family op.Add [] (value_of a ∷ value_of b ∷ [])).end ≡ pair_folded op.Add a b
pair_add const.None const.None = refl
pair_add const.None (const.Bool true) = refl
pair_add const.None (const.Bool false) = refl
pair_add const.None (const.Int y) = refl
pair_add const.None (const.Str y) = refl
pair_add (const.Bool true) const.None = refl
pair_add (const.Bool true) (const.Bool true) = refl
pair_add (const.Bool true) (const.Bool false) = refl
pair_add (const.Bool true) (const.Int y) = refl
pair_add (const.Bool true) (const.Str y) = refl
pair_add (const.Bool false) const.None = refl
pair_add (const.Bool false) (const.Bool true) = refl
pair_add (const.Bool false) (const.Bool false) = refl
pair_add (const.Bool false) (const.Int y) = refl
pair_add (const.Bool false) (const.Str y) = refl
pair_add (const.Int x) const.None = refl
pair_add (const.Int x) (const.Bool true) = refl
pair_add (const.Int x) (const.Bool false) = refl
pair_add (const.Int x) (const.Int y) = refl
pair_add (const.Int x) (const.Str y) = refl
pair_add (const.Str x) const.None = refl
pair_add (const.Str x) (const.Bool true) = refl
pair_add (const.Str x) (const.Bool false) = refl
pair_add (const.Str x) (const.Int y) = refl
pair_add (const.Str x) (const.Str y) = no_sized (characters x + characters y) (x ++ y)

pair_sub : (a b : Const) → given (by_family op.Sub [] (value_of a ∷ value_of b ∷ [])).end ≡ pair_folded op.Sub a b
pair_sub const.None const.None = refl
pair_sub const.None (const.Bool true) = refl
pair_sub const.None (const.Bool false) = refl
pair_sub const.None (const.Int y) = refl
pair_sub const.None (const.Str y) = refl
pair_sub (const.Bool true) const.None = refl
pair_sub (const.Bool true) (const.Bool true) = refl
pair_sub (const.Bool true) (const.Bool false) = refl
pair_sub (const.Bool true) (const.Int y) = refl
pair_sub (const.Bool true) (const.Str y) = refl
pair_sub (const.Bool false) const.None = refl
pair_sub (const.Bool false) (const.Bool true) = refl
pair_sub (const.Bool false) (const.Bool false) = refl
pair_sub (const.Bool false) (const.Int y) = refl
pair_sub (const.Bool false) (const.Str y) = refl
pair_sub (const.Int x) const.None = refl
pair_sub (const.Int x) (const.Bool true) = refl
pair_sub (const.Int x) (const.Bool false) = refl
pair_sub (const.Int x) (const.Int y) = refl
pair_sub (const.Int x) (const.Str y) = refl
pair_sub (const.Str x) const.None = refl
pair_sub (const.Str x) (const.Bool true) = refl
pair_sub (const.Str x) (const.Bool false) = refl
pair_sub (const.Str x) (const.Int y) = refl
pair_sub (const.Str x) (const.Str y) = refl

pair_mul : (a b : Const) → given (by_family op.Mul [] (value_of a ∷ value_of b ∷ [])).end ≡ pair_folded op.Mul a b
pair_mul const.None const.None = refl
pair_mul const.None (const.Bool true) = refl
pair_mul const.None (const.Bool false) = refl
pair_mul const.None (const.Int y) = refl
pair_mul const.None (const.Str y) = refl
pair_mul (const.Bool true) const.None = refl
pair_mul (const.Bool true) (const.Bool true) = refl
pair_mul (const.Bool true) (const.Bool false) = refl
pair_mul (const.Bool true) (const.Int y) = refl
pair_mul (const.Bool true) (const.Str y) = no_sized (characters y * 1) (copies 1 y)
pair_mul (const.Bool false) const.None = refl
pair_mul (const.Bool false) (const.Bool true) = refl
pair_mul (const.Bool false) (const.Bool false) = refl
pair_mul (const.Bool false) (const.Int y) = refl
pair_mul (const.Bool false) (const.Str y) = no_sized (characters y * 0) (copies 0 y)
pair_mul (const.Int x) const.None = refl
pair_mul (const.Int x) (const.Bool true) = refl
pair_mul (const.Int x) (const.Bool false) = refl
pair_mul (const.Int x) (const.Int y) = refl
pair_mul (const.Int x) (const.Str y) = no_sized (characters y * copy_count x) (copies (copy_count x) y)
pair_mul (const.Str x) const.None = refl
pair_mul (const.Str x) (const.Bool true) = no_sized (characters x * 1) (copies 1 x)
pair_mul (const.Str x) (const.Bool false) = no_sized (characters x * 0) (copies 0 x)
pair_mul (const.Str x) (const.Int y) = no_sized (characters x * copy_count y) (copies (copy_count y) x)
pair_mul (const.Str x) (const.Str y) = refl

pair_floordiv : (a b : Const) → given (by_family op.FloorDiv [] (value_of a ∷ value_of b ∷ [])).end ≡ pair_folded op.FloorDiv a b
pair_floordiv const.None const.None = refl
pair_floordiv const.None (const.Bool true) = refl
pair_floordiv const.None (const.Bool false) = refl
pair_floordiv const.None (const.Int y) = refl
pair_floordiv const.None (const.Str y) = refl
pair_floordiv (const.Bool true) const.None = refl
pair_floordiv (const.Bool true) (const.Bool true) = refl
pair_floordiv (const.Bool true) (const.Bool false) = refl
pair_floordiv (const.Bool true) (const.Int y) = refl
pair_floordiv (const.Bool true) (const.Str y) = refl
pair_floordiv (const.Bool false) const.None = refl
pair_floordiv (const.Bool false) (const.Bool true) = refl
pair_floordiv (const.Bool false) (const.Bool false) = refl
pair_floordiv (const.Bool false) (const.Int y) = refl
pair_floordiv (const.Bool false) (const.Str y) = refl
pair_floordiv (const.Int x) const.None = refl
pair_floordiv (const.Int x) (const.Bool true) = refl
pair_floordiv (const.Int x) (const.Bool false) = refl
pair_floordiv (const.Int x) (const.Int y) = refl
pair_floordiv (const.Int x) (const.Str y) = refl
pair_floordiv (const.Str x) const.None = refl
pair_floordiv (const.Str x) (const.Bool true) = refl
pair_floordiv (const.Str x) (const.Bool false) = refl
pair_floordiv (const.Str x) (const.Int y) = refl
pair_floordiv (const.Str x) (const.Str y) = refl

pair_mod : (a b : Const) → given (by_family op.Mod [] (value_of a ∷ value_of b ∷ [])).end ≡ pair_folded op.Mod a b
pair_mod const.None const.None = refl
pair_mod const.None (const.Bool true) = refl
pair_mod const.None (const.Bool false) = refl
pair_mod const.None (const.Int y) = refl
pair_mod const.None (const.Str y) = refl
pair_mod (const.Bool true) const.None = refl
pair_mod (const.Bool true) (const.Bool true) = refl
pair_mod (const.Bool true) (const.Bool false) = refl
pair_mod (const.Bool true) (const.Int y) = refl
pair_mod (const.Bool true) (const.Str y) = refl
pair_mod (const.Bool false) const.None = refl
pair_mod (const.Bool false) (const.Bool true) = refl
pair_mod (const.Bool false) (const.Bool false) = refl
pair_mod (const.Bool false) (const.Int y) = refl
pair_mod (const.Bool false) (const.Str y) = refl
pair_mod (const.Int x) const.None = refl
pair_mod (const.Int x) (const.Bool true) = refl
pair_mod (const.Int x) (const.Bool false) = refl
pair_mod (const.Int x) (const.Int y) = refl
pair_mod (const.Int x) (const.Str y) = refl
pair_mod (const.Str x) const.None = refl
pair_mod (const.Str x) (const.Bool true) = refl
pair_mod (const.Str x) (const.Bool false) = refl
pair_mod (const.Str x) (const.Int y) = refl
pair_mod (const.Str x) (const.Str y) = refl

pair_lshift : (a b : Const) → given (by_family op.LShift [] (value_of a ∷ value_of b ∷ [])).end ≡ pair_folded op.LShift a b
pair_lshift const.None const.None = refl
pair_lshift const.None (const.Bool true) = refl
pair_lshift const.None (const.Bool false) = refl
pair_lshift const.None (const.Int y) = refl
pair_lshift const.None (const.Str y) = refl
pair_lshift (const.Bool true) const.None = refl
pair_lshift (const.Bool true) (const.Bool true) = refl
pair_lshift (const.Bool true) (const.Bool false) = refl
pair_lshift (const.Bool true) (const.Int y) = refl
pair_lshift (const.Bool true) (const.Str y) = refl
pair_lshift (const.Bool false) const.None = refl
pair_lshift (const.Bool false) (const.Bool true) = refl
pair_lshift (const.Bool false) (const.Bool false) = refl
pair_lshift (const.Bool false) (const.Int y) = refl
pair_lshift (const.Bool false) (const.Str y) = refl
pair_lshift (const.Int x) const.None = refl
pair_lshift (const.Int x) (const.Bool true) = refl
pair_lshift (const.Int x) (const.Bool false) = refl
pair_lshift (const.Int x) (const.Int y) = refl
pair_lshift (const.Int x) (const.Str y) = refl
pair_lshift (const.Str x) const.None = refl
pair_lshift (const.Str x) (const.Bool true) = refl
pair_lshift (const.Str x) (const.Bool false) = refl
pair_lshift (const.Str x) (const.Int y) = refl
pair_lshift (const.Str x) (const.Str y) = refl

pair_rshift : (a b : Const) → given (by_family op.RShift [] (value_of a ∷ value_of b ∷ [])).end ≡ pair_folded op.RShift a b
pair_rshift const.None const.None = refl
pair_rshift const.None (const.Bool true) = refl
pair_rshift const.None (const.Bool false) = refl
pair_rshift const.None (const.Int y) = refl
pair_rshift const.None (const.Str y) = refl
pair_rshift (const.Bool true) const.None = refl
pair_rshift (const.Bool true) (const.Bool true) = refl
pair_rshift (const.Bool true) (const.Bool false) = refl
pair_rshift (const.Bool true) (const.Int y) = refl
pair_rshift (const.Bool true) (const.Str y) = refl
pair_rshift (const.Bool false) const.None = refl
pair_rshift (const.Bool false) (const.Bool true) = refl
pair_rshift (const.Bool false) (const.Bool false) = refl
pair_rshift (const.Bool false) (const.Int y) = refl
pair_rshift (const.Bool false) (const.Str y) = refl
pair_rshift (const.Int x) const.None = refl
pair_rshift (const.Int x) (const.Bool true) = refl
pair_rshift (const.Int x) (const.Bool false) = refl
pair_rshift (const.Int x) (const.Int y) = refl
pair_rshift (const.Int x) (const.Str y) = refl
pair_rshift (const.Str x) const.None = refl
pair_rshift (const.Str x) (const.Bool true) = refl
pair_rshift (const.Str x) (const.Bool false) = refl
pair_rshift (const.Str x) (const.Int y) = refl
pair_rshift (const.Str x) (const.Str y) = refl

pair_and : (a b : Const) → given (by_family op.And [] (value_of a ∷ value_of b ∷ [])).end ≡ pair_folded op.And a b
pair_and const.None const.None = refl
pair_and const.None (const.Bool true) = refl
pair_and const.None (const.Bool false) = refl
pair_and const.None (const.Int y) = refl
pair_and const.None (const.Str y) = refl
pair_and (const.Bool true) const.None = refl
pair_and (const.Bool true) (const.Bool true) = refl
pair_and (const.Bool true) (const.Bool false) = refl
pair_and (const.Bool true) (const.Int y) = refl
pair_and (const.Bool true) (const.Str y) = refl
pair_and (const.Bool false) const.None = refl
pair_and (const.Bool false) (const.Bool true) = refl
pair_and (const.Bool false) (const.Bool false) = refl
pair_and (const.Bool false) (const.Int y) = refl
pair_and (const.Bool false) (const.Str y) = refl
pair_and (const.Int x) const.None = refl
pair_and (const.Int x) (const.Bool true) = refl
pair_and (const.Int x) (const.Bool false) = refl
pair_and (const.Int x) (const.Int y) = refl
pair_and (const.Int x) (const.Str y) = refl
pair_and (const.Str x) const.None = refl
pair_and (const.Str x) (const.Bool true) = refl
pair_and (const.Str x) (const.Bool false) = refl
pair_and (const.Str x) (const.Int y) = refl
pair_and (const.Str x) (const.Str y) = refl

pair_or : (a b : Const) → given (by_family op.Or [] (value_of a ∷ value_of b ∷ [])).end ≡ pair_folded op.Or a b
pair_or const.None const.None = refl
pair_or const.None (const.Bool true) = refl
pair_or const.None (const.Bool false) = refl
pair_or const.None (const.Int y) = refl
pair_or const.None (const.Str y) = refl
pair_or (const.Bool true) const.None = refl
pair_or (const.Bool true) (const.Bool true) = refl
pair_or (const.Bool true) (const.Bool false) = refl
pair_or (const.Bool true) (const.Int y) = refl
pair_or (const.Bool true) (const.Str y) = refl
pair_or (const.Bool false) const.None = refl
pair_or (const.Bool false) (const.Bool true) = refl
pair_or (const.Bool false) (const.Bool false) = refl
pair_or (const.Bool false) (const.Int y) = refl
pair_or (const.Bool false) (const.Str y) = refl
pair_or (const.Int x) const.None = refl
pair_or (const.Int x) (const.Bool true) = refl
pair_or (const.Int x) (const.Bool false) = refl
pair_or (const.Int x) (const.Int y) = refl
pair_or (const.Int x) (const.Str y) = refl
pair_or (const.Str x) const.None = refl
pair_or (const.Str x) (const.Bool true) = refl
pair_or (const.Str x) (const.Bool false) = refl
pair_or (const.Str x) (const.Int y) = refl
pair_or (const.Str x) (const.Str y) = refl

pair_xor : (a b : Const) → given (by_family op.Xor [] (value_of a ∷ value_of b ∷ [])).end ≡ pair_folded op.Xor a b
pair_xor const.None const.None = refl
pair_xor const.None (const.Bool true) = refl
pair_xor const.None (const.Bool false) = refl
pair_xor const.None (const.Int y) = refl
pair_xor const.None (const.Str y) = refl
pair_xor (const.Bool true) const.None = refl
pair_xor (const.Bool true) (const.Bool true) = refl
pair_xor (const.Bool true) (const.Bool false) = refl
pair_xor (const.Bool true) (const.Int y) = refl
pair_xor (const.Bool true) (const.Str y) = refl
pair_xor (const.Bool false) const.None = refl
pair_xor (const.Bool false) (const.Bool true) = refl
pair_xor (const.Bool false) (const.Bool false) = refl
pair_xor (const.Bool false) (const.Int y) = refl
pair_xor (const.Bool false) (const.Str y) = refl
pair_xor (const.Int x) const.None = refl
pair_xor (const.Int x) (const.Bool true) = refl
pair_xor (const.Int x) (const.Bool false) = refl
pair_xor (const.Int x) (const.Int y) = refl
pair_xor (const.Int x) (const.Str y) = refl
pair_xor (const.Str x) const.None = refl
pair_xor (const.Str x) (const.Bool true) = refl
pair_xor (const.Str x) (const.Bool false) = refl
pair_xor (const.Str x) (const.Int y) = refl
pair_xor (const.Str x) (const.Str y) = refl

pair_iadd : (a b : Const) → given (by_family op.IAdd [] (value_of a ∷ value_of b ∷ [])).end ≡ pair_folded op.IAdd a b
pair_iadd const.None const.None = refl
pair_iadd const.None (const.Bool true) = refl
pair_iadd const.None (const.Bool false) = refl
pair_iadd const.None (const.Int y) = refl
pair_iadd const.None (const.Str y) = refl
pair_iadd (const.Bool true) const.None = refl
pair_iadd (const.Bool true) (const.Bool true) = refl
pair_iadd (const.Bool true) (const.Bool false) = refl
pair_iadd (const.Bool true) (const.Int y) = refl
pair_iadd (const.Bool true) (const.Str y) = refl
pair_iadd (const.Bool false) const.None = refl
pair_iadd (const.Bool false) (const.Bool true) = refl
pair_iadd (const.Bool false) (const.Bool false) = refl
pair_iadd (const.Bool false) (const.Int y) = refl
pair_iadd (const.Bool false) (const.Str y) = refl
pair_iadd (const.Int x) const.None = refl
pair_iadd (const.Int x) (const.Bool true) = refl
pair_iadd (const.Int x) (const.Bool false) = refl
pair_iadd (const.Int x) (const.Int y) = refl
pair_iadd (const.Int x) (const.Str y) = refl
pair_iadd (const.Str x) const.None = refl
pair_iadd (const.Str x) (const.Bool true) = refl
pair_iadd (const.Str x) (const.Bool false) = refl
pair_iadd (const.Str x) (const.Int y) = refl
pair_iadd (const.Str x) (const.Str y) = no_sized (characters x + characters y) (x ++ y)

pair_imul : (a b : Const) → given (by_family op.IMul [] (value_of a ∷ value_of b ∷ [])).end ≡ pair_folded op.IMul a b
pair_imul const.None const.None = refl
pair_imul const.None (const.Bool true) = refl
pair_imul const.None (const.Bool false) = refl
pair_imul const.None (const.Int y) = refl
pair_imul const.None (const.Str y) = refl
pair_imul (const.Bool true) const.None = refl
pair_imul (const.Bool true) (const.Bool true) = refl
pair_imul (const.Bool true) (const.Bool false) = refl
pair_imul (const.Bool true) (const.Int y) = refl
pair_imul (const.Bool true) (const.Str y) = no_sized (characters y * 1) (copies 1 y)
pair_imul (const.Bool false) const.None = refl
pair_imul (const.Bool false) (const.Bool true) = refl
pair_imul (const.Bool false) (const.Bool false) = refl
pair_imul (const.Bool false) (const.Int y) = refl
pair_imul (const.Bool false) (const.Str y) = no_sized (characters y * 0) (copies 0 y)
pair_imul (const.Int x) const.None = refl
pair_imul (const.Int x) (const.Bool true) = refl
pair_imul (const.Int x) (const.Bool false) = refl
pair_imul (const.Int x) (const.Int y) = refl
pair_imul (const.Int x) (const.Str y) = no_sized (characters y * copy_count x) (copies (copy_count x) y)
pair_imul (const.Str x) const.None = refl
pair_imul (const.Str x) (const.Bool true) = no_sized (characters x * 1) (copies 1 x)
pair_imul (const.Str x) (const.Bool false) = no_sized (characters x * 0) (copies 0 x)
pair_imul (const.Str x) (const.Int y) = no_sized (characters x * copy_count y) (copies (copy_count y) x)
pair_imul (const.Str x) (const.Str y) = refl

-- ---- operations on two constants and on one

two_is : (o : Op) (a b : Const) → folded o (a ∷ b ∷ []) ≡ two_folded o a b
two_is op.Eq a b = taken _ _ (both a b) ∙ eq_given (λ c. c) a b
two_is op.Ne a b = taken _ _ (both a b) ∙ eq_given not a b
two_is op.Is a b = taken _ _ (both a b)
two_is op.IsNot a b = taken _ _ (both a b)
two_is op.Lt a b = taken _ _ (both a b) ∙ order_lt a b
two_is op.Le a b = taken _ _ (both a b) ∙ order_le a b
two_is op.Gt a b = taken _ _ (both a b) ∙ order_gt a b
two_is op.Ge a b = taken _ _ (both a b) ∙ order_ge a b
two_is op.Add a b = taken _ _ (both a b) ∙ pair_add a b
two_is op.Sub a b = taken _ _ (both a b) ∙ pair_sub a b
two_is op.Mul a b = taken _ _ (both a b) ∙ pair_mul a b
two_is op.FloorDiv a b = taken _ _ (both a b) ∙ pair_floordiv a b
two_is op.Mod a b = taken _ _ (both a b) ∙ pair_mod a b
two_is op.LShift a b = taken _ _ (both a b) ∙ pair_lshift a b
two_is op.RShift a b = taken _ _ (both a b) ∙ pair_rshift a b
two_is op.And a b = taken _ _ (both a b) ∙ pair_and a b
two_is op.Or a b = taken _ _ (both a b) ∙ pair_or a b
two_is op.Xor a b = taken _ _ (both a b) ∙ pair_xor a b
two_is op.IAdd a b = taken _ _ (both a b) ∙ pair_iadd a b
two_is op.IMul a b = taken _ _ (both a b) ∙ pair_imul a b
two_is op.Neg a b = left _ _ (one_false a)
two_is op.Pos a b = left _ _ (one_false a)
two_is op.Inv a b = left _ _ (one_false a)
two_is op.Truth a b = left _ _ (one_false a)
two_is op.Not const.None b = refl
two_is op.Not (const.Bool x) b = refl
two_is op.Not (const.Int x) b = refl
two_is op.Not (const.Str x) b = refl
two_is other a b = refl

one_is : (o : Op) (a : Const) → folded o (a ∷ []) ≡ one_folded o a
one_is op.Neg const.None = refl
one_is op.Neg (const.Bool true) = refl
one_is op.Neg (const.Bool false) = refl
one_is op.Neg (const.Int x) = refl
one_is op.Neg (const.Str x) = refl
one_is op.Pos const.None = refl
one_is op.Pos (const.Bool true) = refl
one_is op.Pos (const.Bool false) = refl
one_is op.Pos (const.Int x) = refl
one_is op.Pos (const.Str x) = refl
one_is op.Inv const.None = refl
one_is op.Inv (const.Bool true) = refl
one_is op.Inv (const.Bool false) = refl
one_is op.Inv (const.Int x) = refl
one_is op.Inv (const.Str x) = refl
one_is op.Not const.None = refl
one_is op.Not (const.Bool x) = refl
one_is op.Not (const.Int x) = refl
one_is op.Not (const.Str x) = refl
one_is op.Truth const.None = refl
one_is op.Truth (const.Bool x) = refl
one_is op.Truth (const.Int x) = refl
one_is op.Truth (const.Str x) = refl
one_is op.Eq a = left _ _ (one_false a)
one_is op.Ne a = left _ _ (one_false a)
one_is op.Is a = left _ _ (one_false a)
one_is op.IsNot a = left _ _ (one_false a)
one_is op.Lt a = left _ _ (one_false a)
one_is op.Le a = left _ _ (one_false a)
one_is op.Gt a = left _ _ (one_false a)
one_is op.Ge a = left _ _ (one_false a)
one_is op.Add a = left _ _ (one_false a)
one_is op.Sub a = left _ _ (one_false a)
one_is op.Mul a = left _ _ (one_false a)
one_is op.FloorDiv a = left _ _ (one_false a)
one_is op.Mod a = left _ _ (one_false a)
one_is op.LShift a = left _ _ (one_false a)
one_is op.RShift a = left _ _ (one_false a)
one_is op.And a = left _ _ (one_false a)
one_is op.Or a = left _ _ (one_false a)
one_is op.Xor a = left _ _ (one_false a)
one_is op.IAdd a = left _ _ (one_false a)
one_is op.IMul a = left _ _ (one_false a)
one_is other a = refl

none_is : (o : Op) → folded o [] ≡ None
none_is op.Add = refl
none_is other = refl

two_false : (a b : Const) → (is_in 0 (value_of a) && (is_in 0 (value_of b) && false)) ≡ false
two_false a b = rw (in_const a, in_const b) refl

more_is : (o : Op) (a b c : Const) (more : List Const) → folded o (a ∷ b ∷ c ∷ more) ≡ None
more_is op.Eq a b c more = left _ _ (two_false a b)
more_is op.Ne a b c more = left _ _ (two_false a b)
more_is op.Is a b c more = left _ _ (two_false a b)
more_is op.IsNot a b c more = left _ _ (two_false a b)
more_is op.Lt a b c more = left _ _ (two_false a b)
more_is op.Le a b c more = left _ _ (two_false a b)
more_is op.Gt a b c more = left _ _ (two_false a b)
more_is op.Ge a b c more = left _ _ (two_false a b)
more_is op.Add a b c more = left _ _ (two_false a b)
more_is op.Sub a b c more = left _ _ (two_false a b)
more_is op.Mul a b c more = left _ _ (two_false a b)
more_is op.FloorDiv a b c more = left _ _ (two_false a b)
more_is op.Mod a b c more = left _ _ (two_false a b)
more_is op.LShift a b c more = left _ _ (two_false a b)
more_is op.RShift a b c more = left _ _ (two_false a b)
more_is op.And a b c more = left _ _ (two_false a b)
more_is op.Or a b c more = left _ _ (two_false a b)
more_is op.Xor a b c more = left _ _ (two_false a b)
more_is op.IAdd a b c more = left _ _ (two_false a b)
more_is op.IMul a b c more = left _ _ (two_false a b)
more_is op.Neg a b c more = left _ _ (one_false a)
more_is op.Pos a b c more = left _ _ (one_false a)
more_is op.Inv a b c more = left _ _ (one_false a)
more_is op.Truth a b c more = left _ _ (one_false a)
more_is op.Not const.None b c more = refl
more_is op.Not (const.Bool x) b c more = refl
more_is op.Not (const.Int x) b c more = refl
more_is op.Not (const.Str x) b c more = refl
more_is other a b c more = refl

folded_is : (o : Op) (args : List Const) → folded o args ≡ folded_by o args
folded_is o [] = none_is o
folded_is o (a ∷ []) = one_is o a
folded_is o (a ∷ b ∷ []) = two_is o a b
folded_is o (a ∷ b ∷ c ∷ more) = more_is o a b c more

pub folded_from : (o : Op) (args : List Const) (r : Option Const) → r ≡ folded_by o args → r ≡ folded o args
folded_from o args r e = e ∙ sym (folded_is o args)
