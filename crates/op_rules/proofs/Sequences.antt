-- The rows on tuples, lists, ranges and iterators use only what they are given, what they find there and what they make.
use Rattle.std.proofs.Common.{ℕ, List, [], ◌∷◌, lit<}
use Rattle.std.specs.Prelude.{codes, slice_get}
use Rattle.std.specs.Str.{bytes_eq}
use Rattle.nu_value.specs.declared.value.Value.{Value}
use Rattle.nu_value.specs.declared.value.Value.TheVariants as value
use Rattle.nu_value.specs.Names.{NameList}
use Rattle.op_forms.specs.declared.op.Op.{Op}
use Rattle.op_forms.specs.declared.signature.ArgumentKind.{ArgumentKind}
use Rattle.op_forms.specs.declared.signature.ArgumentKind.TheVariants as kind
use Rattle.op_forms.specs.Signature.{arguments}
use Rattle.op_forms.specs.declared.op.Op.TheVariants as op
use Rattle.op_forms.specs.declared.world.World.{World}
use Rattle.op_forms.specs.Doing.{Doing, ends}
use Rattle.op_forms.specs.Parts.{AllOf, NamesOf, OrUnset}
use Rattle.op_forms.specs.Right.{Claim, Closed, GivenBy, Given, Right}
use Rattle.op_forms.specs.Sound.{AreNamesDistinct}
use Rattle.op_rules.specs.Ordering.{order_row}
use Rattle.op_rules.specs.Sequences.{sequence_pair, on_one, on_two, on_three, on_four, sequence_row, plain_native, sequence_call}
use Rattle.op_rules.proofs.AskedValues.{two_right as asked_two, three_right as asked_three}
use Rattle.op_rules.proofs.Items.{tuple_row_right, list_row_right, push_right, index_right, setindex_right, delindex_right, len_right}
use Rattle.op_rules.proofs.Iteration.{iter_right, next_right}
use Rattle.op_rules.proofs.Order.{order_right}
use Rattle.op_rules.proofs.Ordering.{order_plain}
use Rattle.op_rules.proofs.Plain.{plain_right}
use Rattle.op_rules.proofs.SequenceMethods.{without_right, method_right}
use Rattle.op_rules.proofs.SequenceOperators.{add_right, iadd_right, mul_right, imul_right, mod_right, in_right}
use Rattle.op_rules.proofs.Slices.{slice_right}
use Rattle.op_rules.proofs.Usual.{ended, failed, idle, if_right}

module _ (c : Claim) (w : World) (k : Closed c w) where
  pair_right : (o : Op) (a b : Value) → c.of a → c.of b → Right c w (sequence_pair o w.heap a b)
  pair_right op.Add a b p q = add_right c w k op.Add a b
  pair_right op.IAdd a b p q = iadd_right c w k a b p q
  pair_right op.Mul a b p q = mul_right c w k op.Mul a b
  pair_right op.IMul a b p q = imul_right c w k a b p
  pair_right op.Mod a b p q = mod_right c w k a b
  pair_right o a b p q = failed c w k 35 _ (lit< tt)

  -- as many arguments as an operation takes
  one_right : (f : Value → Doing) → ((a : Value) → c.of a → Right c w (f a)) → (args : List Value) → AllOf c.of args → Right c w (on_one f args)
  one_right f p [] q = idle c w k
  one_right f p (a ∷ []) q = p a q.0
  one_right f p (a ∷ b ∷ args) q = idle c w k

  two_right : (f : Value → Value → Doing) → ((a b : Value) → c.of a → c.of b → Right c w (f a b)) → (args : List Value) → AllOf c.of args → Right c w (on_two f args)
  two_right f p [] q = idle c w k
  two_right f p (a ∷ []) q = idle c w k
  two_right f p (a ∷ b ∷ []) q = p a b q.0 q.1.0
  two_right f p (a ∷ b ∷ d ∷ args) q = idle c w k

  three_right : (f : Value → Value → Value → Doing) → ((a b d : Value) → c.of a → c.of b → c.of d → Right c w (f a b d)) → (args : List Value) → AllOf c.of args → Right c w (on_three f args)
  three_right f p [] q = idle c w k
  three_right f p (a ∷ []) q = idle c w k
  three_right f p (a ∷ b ∷ []) q = idle c w k
  three_right f p (a ∷ b ∷ d ∷ []) q = p a b d q.0 q.1.0 q.1.1.0
  three_right f p (a ∷ b ∷ d ∷ e ∷ args) q = idle c w k

  four_right : (f : Value → Value → Value → Value → Doing) → ((a b d e : Value) → Right c w (f a b d e)) → (args : List Value) → Right c w (on_four f args)
  four_right f p [] = idle c w k
  four_right f p (a ∷ []) = idle c w k
  four_right f p (a ∷ b ∷ []) = idle c w k
  four_right f p (a ∷ b ∷ d ∷ []) = idle c w k
  four_right f p (a ∷ b ∷ d ∷ e ∷ []) = p a b d e
  four_right f p (a ∷ b ∷ d ∷ e ∷ g ∷ args) = idle c w k

  -- no local variable is among them
  abbrev AllValues : List ArgumentKind → Type 0
  AllValues [] = Unit {0}
  AllValues (kind.Any ∷ ks) = ⊥
  AllValues (x ∷ ks) = AllValues ks

  all_given : (ks : List ArgumentKind) (args : List Value) → AllValues ks → GivenBy c.of ks args → AllOf c.of args
  all_given [] args n q = q
  all_given (x ∷ ks) [] n q = tt
  all_given (kind.Any ∷ ks) (a ∷ args) n q = absurd n
  all_given (x ∷ ks) (a ∷ args) n q = (q.0, all_given ks args n q.1)

  operator_right : (o : Op) (args : List Value) → AllOf c.of args → Right c w (on_two (sequence_pair o w.heap) args)
  operator_right o args q = two_right (sequence_pair o w.heap) (pair_right o) args q

  compared_right : (o : Op) (args : List Value) → AllOf c.of args → Right c w (on_two (λ a b. ends (order_row o w.heap a b)) args)
  compared_right o args q = two_right _ (λ a b p r. plain_right c w k _ (order_plain o w.heap a b)) args q

  pub sequence_right : (o : Op) (args : List Value) → Given c o args → Right c w (sequence_row o w.heap args)
  sequence_right op.Tuple args q = tuple_row_right c w k args q
  sequence_right op.List args q = list_row_right c w k args q
  sequence_right op.Push args q = two_right _ (λ l v p r. push_right c w k l v r) args (all_given (arguments op.Push) args tt q)
  sequence_right op.Extend args q =
      two_right _ (λ l x p r. ended c w k _ (asked_two c w k (codes "_nu_extend") l x p r)) args (all_given (arguments op.Extend) args tt q)
  sequence_right op.Unpack args q =
      two_right _ (λ x n p r. ended c w k _ (asked_two c w k (codes "_nu_unpack") x n p r)) args (all_given (arguments op.Unpack) args tt q)
  sequence_right op.UnpackStar args q =
      three_right _ (λ x a b p r s. ended c w k _ (asked_three c w k (codes "_nu_unpackstar") x a b p r s)) args
      (all_given (arguments op.UnpackStar) args tt q)
  sequence_right op.Index args q = two_right _ (λ x i p r. index_right c w k x i) args (all_given (arguments op.Index) args tt q)
  sequence_right op.SetIndex args q = three_right _ (λ x i v p r s. setindex_right c w k x i v s) args (all_given (arguments op.SetIndex) args tt q)
  sequence_right op.DelIndex args q = two_right _ (λ x i p r. delindex_right c w k x i) args (all_given (arguments op.DelIndex) args tt q)
  sequence_right op.Slice args q = four_right _ (slice_right c w k) args
  sequence_right op.Iter args q = one_right _ (iter_right c w k) args (all_given (arguments op.Iter) args tt q)
  sequence_right op.Next args q = one_right _ (λ x p. next_right c w k x) args (all_given (arguments op.Next) args tt q)
  sequence_right op.In args q = two_right _ (λ v x p r. in_right c w k v x p r) args (all_given (arguments op.In) args tt q)
  sequence_right op.Add args q = operator_right op.Add args (all_given (arguments op.Add) args tt q)
  sequence_right op.Sub args q = operator_right op.Sub args (all_given (arguments op.Sub) args tt q)
  sequence_right op.Mul args q = operator_right op.Mul args (all_given (arguments op.Mul) args tt q)
  sequence_right op.FloorDiv args q = operator_right op.FloorDiv args (all_given (arguments op.FloorDiv) args tt q)
  sequence_right op.Mod args q = operator_right op.Mod args (all_given (arguments op.Mod) args tt q)
  sequence_right op.Pow args q = operator_right op.Pow args (all_given (arguments op.Pow) args tt q)
  sequence_right op.LShift args q = operator_right op.LShift args (all_given (arguments op.LShift) args tt q)
  sequence_right op.RShift args q = operator_right op.RShift args (all_given (arguments op.RShift) args tt q)
  sequence_right op.And args q = operator_right op.And args (all_given (arguments op.And) args tt q)
  sequence_right op.Or args q = operator_right op.Or args (all_given (arguments op.Or) args tt q)
  sequence_right op.Xor args q = operator_right op.Xor args (all_given (arguments op.Xor) args tt q)
  sequence_right op.IAdd args q = operator_right op.IAdd args (all_given (arguments op.IAdd) args tt q)
  sequence_right op.IMul args q = operator_right op.IMul args (all_given (arguments op.IMul) args tt q)
  sequence_right op.Lt args q = compared_right op.Lt args (all_given (arguments op.Lt) args tt q)
  sequence_right op.Le args q = compared_right op.Le args (all_given (arguments op.Le) args tt q)
  sequence_right op.Gt args q = compared_right op.Gt args (all_given (arguments op.Gt) args tt q)
  sequence_right op.Ge args q = compared_right op.Ge args (all_given (arguments op.Ge) args tt q)
  sequence_right op.Neg args q = one_right _ (λ a p. failed c w k 35 _ (lit< tt)) args (all_given (arguments op.Neg) args tt q)
  sequence_right op.Pos args q = one_right _ (λ a p. failed c w k 35 _ (lit< tt)) args (all_given (arguments op.Pos) args tt q)
  sequence_right op.Inv args q = one_right _ (λ a p. failed c w k 35 _ (lit< tt)) args (all_given (arguments op.Inv) args tt q)
  sequence_right o args q = idle c w k

  -- ---- calls

  native_right : (name : List ℕ) (args : List Value) → Right c w (plain_native name w.heap args)
  native_right name [] = idle c w k
  native_right name (x ∷ []) = if_right c w k (bytes_eq name (codes "len")) _ _ (len_right c w k x) (idle c w k)
  native_right name (l ∷ r ∷ []) = if_right c w k (bytes_eq name (codes "_nu_order")) _ _ (order_right c w k l r) (idle c w k)
  native_right name (l ∷ r ∷ a ∷ args) = idle c w k

  pub sequence_call_right : (name : List ℕ) (receiver : Value) (args : List Value) (names : NameList) → OrUnset c.of receiver → AllOf c.of args → NamesOf c.of names → AreNamesDistinct names
      → Right c w (sequence_call w.heap name receiver args names)
  sequence_call_right name value.Unset args names p q r d = without_right c w k names _ (native_right name args)
  sequence_call_right name (value.Obj n) args names p q r d = method_right c w k name n args names (slice_get w.heap n) (k.objects n) p q r d
  sequence_call_right name receiver args names p q r d = idle c w k
