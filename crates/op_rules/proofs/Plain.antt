-- Ends that name no objects but the classes that no script makes.
use Rattle.std.proofs.Common.{ℕ, ◌+◌, ◌*◌, ◌<◌, List, [], ◌∷◌, ◌++◌, Option, Some, None, Bool, true, false, length, lit<, inl}
use Rattle.std.specs.Prelude.{ℤ, if◌then◌else◌, slice_get}
use Rattle.std.specs.Prelude.{codes, nat_le, not, int_lt, pos}
use Rattle.nu_value.specs.declared.object.Object.{Object}
use Rattle.nu_value.specs.declared.object.Object.TheVariants as object
use Rattle.nu_value.specs.declared.same.Sameness.{Sameness}
use Rattle.nu_value.specs.declared.same.Sameness.TheVariants as same
use Rattle.nu_value.specs.declared.value.Value.{Value}
use Rattle.nu_value.specs.declared.value.Value.TheVariants as value
use Rattle.nu_value.specs.Natives.{native_classes}
use Rattle.nu_value.specs.Same.{eq, number_of}
use Rattle.op_rules.specs.declared.arithmetic.Computed.{Computed}
use Rattle.op_rules.specs.declared.arithmetic.Computed.TheVariants as computed
use Rattle.op_forms.specs.declared.end.OpEnd.{OpEnd}
use Rattle.op_forms.specs.declared.end.OpEnd.TheVariants as opend
use Rattle.op_forms.specs.declared.op.Op.{Op}
use Rattle.op_forms.specs.declared.op.Op.TheVariants as op
use Rattle.op_rules.specs.Numbers.{int_op, unary_op, computed_end}
use Rattle.op_rules.specs.Comparisons.{same_end, not_row, truth_row, object_truth}
use Rattle.op_rules.specs.IntRows.{of_one, of_two, on_number, on_numbers, bool_op, bool_or, number_pair, number_order, number_one, int_row}
use Rattle.nu_text.specs.Characters.{characters}
use Rattle.op_rules.specs.TextRows.{sized, size_limit, repeated_by, copy_count, copies, text_add, text_mul, text_mod, text_pair, text_operation, on_texts, text_order, text_row}
use Rattle.op_rules.specs.Finish.{truth_after, length_after}
use Rattle.op_rules.specs.Kinds.{value_error}
use Rattle.op_forms.specs.declared.world.World.{World}
use Rattle.op_forms.specs.Doing.{ends}
use Rattle.op_forms.specs.Parts.{AllOf}
use Rattle.op_forms.specs.Right.{Claim, IsPlainValue, Closed, EndOf, Right}
use Rattle.op_rules.proofs.Usual.{ended}

abbrev IsPlainText : List Value → Type 0
IsPlainText (value.Str text ∷ []) = Unit {0}
IsPlainText args = ⊥

abbrev pub IsPlain : OpEnd → Type 0
IsPlain (opend.Give v) = IsPlainValue v
IsPlain (opend.Raise n args) = (n < length native_classes) × IsPlainText args
IsPlain (opend.Ask function items names after) = ⊥
IsPlain (opend.Resume generator how) = ⊥
IsPlain (opend.Put text) = Unit {0}
IsPlain opend.Line = ⊥
IsPlain (opend.Stop kind) = Unit {0}

-- they are right
module _ (c : Claim) (w : World) (k : Closed c w) where
  texts_of : (args : List Value) → IsPlainText args → AllOf c.of args
  texts_of (value.Str text ∷ []) p = (k.plain (value.Str text) tt, tt)
  texts_of args p = absurd p

  pub plain_end : (e : OpEnd) → IsPlain e → EndOf c w e
  plain_end (opend.Give v) p = k.plain v p
  plain_end (opend.Raise n args) p = (inl (k.natives n p.0), texts_of args p.1)
  plain_end (opend.Put text) p = tt
  plain_end (opend.Stop kind) p = tt
  plain_end e p = absurd p

  pub plain_right : (e : OpEnd) → IsPlain e → Right c w (ends e)
  plain_right e p = ended c w k e (plain_end e p)

-- ---- shapes of rows

one_plain : (f : Value → OpEnd) → ((a : Value) → IsPlain (f a)) → (args : List Value) → IsPlain (of_one f args)
one_plain f p [] = tt
one_plain f p (a ∷ []) = p a
one_plain f p (a ∷ b ∷ vs) = tt

two_plain : (f : Value → Value → OpEnd) → ((a b : Value) → IsPlain (f a b)) → (args : List Value) → IsPlain (of_two f args)
two_plain f p [] = tt
two_plain f p (a ∷ []) = tt
two_plain f p (a ∷ b ∷ []) = p a b
two_plain f p (a ∷ b ∷ c ∷ vs) = tt

pub if_plain : (b : Bool) (e f : OpEnd) → IsPlain e → IsPlain f → IsPlain (if b then e else f)
if_plain true e f p q = p
if_plain false e f p q = q

-- ---- integers

pub computed_plain : (c : Computed) → IsPlain (computed_end c)
computed_plain (computed.Int z) = tt
computed_plain computed.TooLarge = tt
computed_plain computed.Float = tt
computed_plain computed.ZeroDivision = (lit< tt, tt)
computed_plain computed.ZeroPower = (lit< tt, tt)
computed_plain computed.NegativeCount = (lit< tt, tt)
computed_plain computed.NoOperation = tt

number_plain : (f : ℤ → OpEnd) (other : OpEnd) (x : Option ℤ) → ((a : ℤ) → IsPlain (f a)) → IsPlain other → IsPlain (on_number f other x)
number_plain f other None p q = q
number_plain f other (Some a) p q = p a

pub numbers_plain : (f : ℤ → ℤ → OpEnd) (other : OpEnd) (x y : Option ℤ) → ((a b : ℤ) → IsPlain (f a b)) → IsPlain other → IsPlain (on_numbers f other x y)
numbers_plain f other None y p q = q
numbers_plain f other (Some a) None p q = q
numbers_plain f other (Some a) (Some b) p q = p a b

bool_or_plain : (b : Option Bool) (e : OpEnd) → IsPlain e → IsPlain (bool_or b e)
bool_or_plain None e p = p
bool_or_plain (Some b) e p = tt

pair_plain : (o : Op) (h : List Object) (a b : Value) → IsPlain (number_pair o h a b)
pair_plain o h a b =
    bool_or_plain (bool_op o a b) _ (numbers_plain (λ x y. computed_end (int_op o x y)) _ (number_of a) (number_of b) (λ x y. computed_plain (int_op o x y)) (lit< tt, tt))

order_plain : (o : Op) (h : List Object) (a b : Value) → IsPlain (number_order o h a b)
order_plain o h a b = numbers_plain _ _ (number_of a) (number_of b) (λ x y. tt) (lit< tt, tt)

unary_plain : (o : Op) (h : List Object) (a : Value) → IsPlain (number_one o h a)
unary_plain o h a = number_plain (λ x. computed_end (unary_op o x)) _ (number_of a) (λ x. computed_plain (unary_op o x)) (lit< tt, tt)

same_plain : (f : Bool → Bool) (s : Sameness) → IsPlain (same_end f s)
same_plain f same.Equal = tt
same_plain f same.Different = tt
same_plain f same.Depth = tt
same_plain f same.Unbuilt = tt

not_plain : (a : Value) → IsPlain (not_row a)
not_plain (value.Bool b) = tt
not_plain value.Unset = tt
not_plain value.None = tt
not_plain (value.Int z) = tt
not_plain (value.Str text) = tt
not_plain (value.Obj n) = tt

object_truth_plain : (h : List Object) (o : Option Object) → IsPlain (object_truth h o)
object_truth_plain h (Some (object.Tuple items)) = tt
object_truth_plain h (Some (object.List items)) = tt
object_truth_plain h (Some (object.Dict pairs)) = tt
object_truth_plain h (Some (object.Range start stop step)) = tt
object_truth_plain h (Some (object.View dict kind)) = tt
object_truth_plain h (Some (object.Instance class fields)) = tt
object_truth_plain h other = tt

truth_plain : (h : List Object) (a : Value) → IsPlain (truth_row h a)
truth_plain h value.Unset = tt
truth_plain h value.None = tt
truth_plain h (value.Bool b) = tt
truth_plain h (value.Int z) = tt
truth_plain h (value.Str text) = tt
truth_plain h (value.Obj n) = object_truth_plain h (slice_get h n)

pub int_plain : (o : Op) (h : List Object) (args : List Value) → IsPlain (int_row o h args)
int_plain op.Add h args = two_plain _ (pair_plain op.Add h) args
int_plain op.Sub h args = two_plain _ (pair_plain op.Sub h) args
int_plain op.Mul h args = two_plain _ (pair_plain op.Mul h) args
int_plain op.FloorDiv h args = two_plain _ (pair_plain op.FloorDiv h) args
int_plain op.Mod h args = two_plain _ (pair_plain op.Mod h) args
int_plain op.Pow h args = two_plain _ (pair_plain op.Pow h) args
int_plain op.LShift h args = two_plain _ (pair_plain op.LShift h) args
int_plain op.RShift h args = two_plain _ (pair_plain op.RShift h) args
int_plain op.And h args = two_plain _ (pair_plain op.And h) args
int_plain op.Or h args = two_plain _ (pair_plain op.Or h) args
int_plain op.Xor h args = two_plain _ (pair_plain op.Xor h) args
int_plain op.IAdd h args = two_plain _ (pair_plain op.IAdd h) args
int_plain op.IMul h args = two_plain _ (pair_plain op.IMul h) args
int_plain op.Lt h args = two_plain _ (order_plain op.Lt h) args
int_plain op.Le h args = two_plain _ (order_plain op.Le h) args
int_plain op.Gt h args = two_plain _ (order_plain op.Gt h) args
int_plain op.Ge h args = two_plain _ (order_plain op.Ge h) args
int_plain op.Neg h args = one_plain _ (unary_plain op.Neg h) args
int_plain op.Pos h args = one_plain _ (unary_plain op.Pos h) args
int_plain op.Inv h args = one_plain _ (unary_plain op.Inv h) args
int_plain op.Eq h args = two_plain _ (λ a b. same_plain (λ b. b) (eq h a b)) args
int_plain op.Ne h args = two_plain _ (λ a b. same_plain not (eq h a b)) args
int_plain op.Is h args = two_plain _ (λ a b. tt) args
int_plain op.IsNot h args = two_plain _ (λ a b. tt) args
int_plain op.Not h args = one_plain _ not_plain args
int_plain op.Truth h args = one_plain _ (truth_plain h) args
int_plain other h args = tt

-- ---- texts

pub sized_plain : (n : ℕ) (e : OpEnd) → IsPlain e → IsPlain (sized n e)
sized_plain n e p = if_plain (nat_le n size_limit) e _ p tt

repeated_plain : (text : List ℕ) (other : OpEnd) (n : Option ℤ) → IsPlain other → IsPlain (repeated_by text other n)
repeated_plain text other None p = p
repeated_plain text other (Some z) p = sized_plain (characters text * copy_count z) (opend.Give (value.Str (copies (copy_count z) text))) tt

add_plain : (other : OpEnd) (a b : Value) → IsPlain other → IsPlain (text_add other a b)
add_plain other (value.Str s) (value.Str t) p = sized_plain (characters s + characters t) (opend.Give (value.Str (s ++ t))) tt
add_plain other (value.Str s) value.Unset p = p
add_plain other (value.Str s) value.None p = p
add_plain other (value.Str s) (value.Bool b) p = p
add_plain other (value.Str s) (value.Int z) p = p
add_plain other (value.Str s) (value.Obj n) p = p
add_plain other value.Unset b p = p
add_plain other value.None b p = p
add_plain other (value.Bool x) b p = p
add_plain other (value.Int z) b p = p
add_plain other (value.Obj n) b p = p

mul_plain : (other : OpEnd) (a b : Value) → IsPlain other → IsPlain (text_mul other a b)
mul_plain other (value.Str s) b p = repeated_plain s other (number_of b) p
mul_plain other value.Unset (value.Str t) p = p
mul_plain other value.None (value.Str t) p = p
mul_plain other (value.Bool x) (value.Str t) p = repeated_plain t other (number_of (value.Bool x)) p
mul_plain other (value.Int z) (value.Str t) p = repeated_plain t other (Some z) p
mul_plain other (value.Obj n) (value.Str t) p = p
mul_plain other a b p = p

mod_plain : (other : OpEnd) (a : Value) → IsPlain other → IsPlain (text_mod other a)
mod_plain other (value.Str s) p = tt
mod_plain other value.Unset p = p
mod_plain other value.None p = p
mod_plain other (value.Bool b) p = p
mod_plain other (value.Int z) p = p
mod_plain other (value.Obj n) p = p

text_pair_plain : (o : Op) (other : OpEnd) (a b : Value) → IsPlain other → IsPlain (text_pair o other a b)
text_pair_plain op.Add other a b p = add_plain other a b p
text_pair_plain op.IAdd other a b p = add_plain other a b p
text_pair_plain op.Mul other a b p = mul_plain other a b p
text_pair_plain op.IMul other a b p = mul_plain other a b p
text_pair_plain op.Mod other a b p = mod_plain other a p
text_pair_plain o other a b p = p

operation_plain : (o : Op) (h : List Object) (a b : Value) → IsPlain (text_operation o h a b)
operation_plain o h a b = text_pair_plain o _ a b (lit< tt, tt)

pub texts_plain : (f : List ℕ → List ℕ → OpEnd) (other : OpEnd) (a b : Value) → ((s t : List ℕ) → IsPlain (f s t)) → IsPlain other → IsPlain (on_texts f other a b)
texts_plain f other (value.Str s) (value.Str t) p q = p s t
texts_plain f other (value.Str s) value.Unset p q = q
texts_plain f other (value.Str s) value.None p q = q
texts_plain f other (value.Str s) (value.Bool b) p q = q
texts_plain f other (value.Str s) (value.Int z) p q = q
texts_plain f other (value.Str s) (value.Obj n) p q = q
texts_plain f other value.Unset b p q = q
texts_plain f other value.None b p q = q
texts_plain f other (value.Bool x) b p q = q
texts_plain f other (value.Int z) b p q = q
texts_plain f other (value.Obj n) b p q = q

text_order_plain : (o : Op) (h : List Object) (a b : Value) → IsPlain (text_order o h a b)
text_order_plain o h a b = texts_plain _ _ a b (λ s t. tt) (lit< tt, tt)

pub text_plain : (o : Op) (h : List Object) (args : List Value) → IsPlain (text_row o h args)
text_plain op.Add h args = two_plain _ (operation_plain op.Add h) args
text_plain op.Sub h args = two_plain _ (operation_plain op.Sub h) args
text_plain op.Mul h args = two_plain _ (operation_plain op.Mul h) args
text_plain op.FloorDiv h args = two_plain _ (operation_plain op.FloorDiv h) args
text_plain op.Mod h args = two_plain _ (operation_plain op.Mod h) args
text_plain op.Pow h args = two_plain _ (operation_plain op.Pow h) args
text_plain op.LShift h args = two_plain _ (operation_plain op.LShift h) args
text_plain op.RShift h args = two_plain _ (operation_plain op.RShift h) args
text_plain op.And h args = two_plain _ (operation_plain op.And h) args
text_plain op.Or h args = two_plain _ (operation_plain op.Or h) args
text_plain op.Xor h args = two_plain _ (operation_plain op.Xor h) args
text_plain op.IAdd h args = two_plain _ (operation_plain op.IAdd h) args
text_plain op.IMul h args = two_plain _ (operation_plain op.IMul h) args
text_plain op.Lt h args = two_plain _ (text_order_plain op.Lt h) args
text_plain op.Le h args = two_plain _ (text_order_plain op.Le h) args
text_plain op.Gt h args = two_plain _ (text_order_plain op.Gt h) args
text_plain op.Ge h args = two_plain _ (text_order_plain op.Ge h) args
text_plain op.Neg h args = one_plain _ (λ a. (lit< tt, tt)) args
text_plain op.Pos h args = one_plain _ (λ a. (lit< tt, tt)) args
text_plain op.Inv h args = one_plain _ (λ a. (lit< tt, tt)) args
text_plain other h args = tt

-- ---- the values of asked functions

pub truth_after_plain : (v : Value) → IsPlain (truth_after v)
truth_after_plain (value.Bool b) = tt
truth_after_plain v = (lit< tt, tt)

pub length_after_plain : (f : ℤ → OpEnd) (n : Option ℤ) → ((z : ℤ) → IsPlain (f z)) → IsPlain (length_after f n)
length_after_plain f None p = (lit< tt, tt)
length_after_plain f (Some z) p = if_plain (int_lt z (pos 0)) (value_error (codes "__len__() should return >= 0")) (f z) (lit< tt, tt) (p z)
