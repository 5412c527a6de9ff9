-- Special methods are functions that may be asked; the rows that go by them use only what they are given and what they find.
use Rattle.std.proofs.Common.{ℕ, List, [], ◌∷◌, Option, Some, None, true, lit<}
use Rattle.std.specs.Prelude.{codes, slice_get}
use Rattle.nu_value.specs.declared.object.Object.{Object}
use Rattle.nu_value.specs.declared.object.Object.TheVariants as object
use Rattle.nu_value.specs.declared.value.Value.{Value}
use Rattle.nu_value.specs.declared.value.Value.TheVariants as value
use Rattle.nu_value.specs.Classes.{own_of, classes_from, first_of, first_named, found_in}
use Rattle.nu_value.specs.Same.{object_of}
use Rattle.nu_value.specs.View.{is_text}
use Rattle.op_forms.specs.declared.end.After.{After}
use Rattle.op_forms.specs.declared.end.After.TheVariants as behind
use Rattle.op_forms.specs.declared.end.OpEnd.{OpEnd}
use Rattle.op_forms.specs.declared.op.Op.{Op}
use Rattle.op_forms.specs.declared.op.Op.TheVariants as op
use Rattle.op_forms.specs.declared.signature.ArgumentKind.{ArgumentKind}
use Rattle.op_forms.specs.declared.signature.ArgumentKind.TheVariants as kind
use Rattle.op_forms.specs.declared.world.World.{World}
use Rattle.op_forms.specs.Answers.{unbuilt}
use Rattle.op_forms.specs.Fits.{is_list}
use Rattle.op_forms.specs.Parts.{AllOf, NamesOf, ValueOf}
use Rattle.op_forms.specs.Right.{Claim, Known, Closed, GivenBy, Given, AfterOf, EndOf}
use Rattle.op_forms.specs.Signature.{arguments}
use Rattle.op_forms.specs.Signs.{sign_of}
use Rattle.op_forms.specs.Sound.{AFunction, IsA}
use Rattle.op_forms.proofs.Bindings.{value_of}
use Rattle.op_rules.specs.declared.special.Special.{Special}
use Rattle.op_rules.specs.declared.special.Special.TheVariants as special
use Rattle.op_rules.specs.Access.{asks_iterator, asks_in}
use Rattle.op_rules.specs.Asking.{asks}
use Rattle.op_rules.specs.Comparisons.{give_bool}
use Rattle.op_rules.specs.IntRows.{of_one, of_two}
use Rattle.op_rules.specs.Kinds.{no_operand, no_operands, no_order}
use Rattle.op_rules.specs.Specials.{found_object, special_as, special_in, instance_special, any_special, asks_special, by_special, special_index, special_setindex, special_delindex, slice_on, special_next, special_truth, special_length, has_view, may_unite, plain_pair, special_pair, special_order, of_three, of_four, special_row}
use Rattle.op_rules.proofs.Asks.{asks_right}
use Rattle.op_rules.proofs.Usual.{fails, if_end}

-- a special method that is a function is one of which something is claimed
abbrev pub SpecialOf : Claim → World → Special → Type 0
SpecialOf c w (special.Function f) = c.of (value.Obj f) × IsA w.heap f AFunction
SpecialOf c w s = Unit {0}

-- places at which any values stand
abbrev pub AreValues : List ArgumentKind → Type 0
AreValues [] = Unit {0}
AreValues (kind.Value ∷ ks) = AreValues ks
AreValues (k ∷ ks) = ⊥

module _ (c : Claim) (w : World) (k : Closed c w) where
  -- ---- arguments

  pub all_given : (ks : List ArgumentKind) (vs : List Value) → AreValues ks → GivenBy c.of ks vs → AllOf c.of vs
  all_given [] vs s p = p
  all_given (kind.Value ∷ ks) [] s p = tt
  all_given (kind.Value ∷ ks) (v ∷ vs) s p = (p.0, all_given ks vs s p.1)
  all_given (x ∷ ks) vs s p = absurd s

  pub one_end : (f : Value → OpEnd) → ((a : Value) → c.of a → EndOf c w (f a)) → (args : List Value) → AllOf c.of args → EndOf c w (of_one f args)
  one_end f g [] q = tt
  one_end f g (a ∷ []) q = g a q.0
  one_end f g (a ∷ b ∷ vs) q = tt

  pub two_end : (f : Value → Value → OpEnd) → ((a b : Value) → c.of a → c.of b → EndOf c w (f a b)) → (args : List Value) → AllOf c.of args → EndOf c w (of_two f args)
  two_end f g [] q = tt
  two_end f g (a ∷ []) q = tt
  two_end f g (a ∷ b ∷ []) q = g a b q.0 q.1.0
  two_end f g (a ∷ b ∷ d ∷ vs) q = tt

  three_end : (f : Value → Value → Value → OpEnd) → ((a b d : Value) → c.of a → c.of b → c.of d → EndOf c w (f a b d)) → (args : List Value) → AllOf c.of args → EndOf c w (of_three f args)
  three_end f g [] q = tt
  three_end f g (a ∷ []) q = tt
  three_end f g (a ∷ b ∷ []) q = tt
  three_end f g (a ∷ b ∷ d ∷ []) q = g a b d q.0 q.1.0 q.1.1.0
  three_end f g (a ∷ b ∷ d ∷ e ∷ vs) q = tt

  four_end : (f : Value → Value → Value → Value → OpEnd) → ((a b d e : Value) → EndOf c w (f a b d e)) → (args : List Value) → EndOf c w (of_four f args)
  four_end f g [] = tt
  four_end f g (a ∷ []) = tt
  four_end f g (a ∷ b ∷ []) = tt
  four_end f g (a ∷ b ∷ d ∷ []) = tt
  four_end f g (a ∷ b ∷ d ∷ e ∷ []) = g a b d e
  four_end f g (a ∷ b ∷ d ∷ e ∷ x ∷ vs) = tt

  -- ---- what is found on a class

  own_known : (n : ℕ) (o : Option Object) → Known c w n o → NamesOf c.of (own_of o)
  own_known n (Some (object.Class name base own native)) p = p.parts.1
  own_known n o p = tt

  first_right : (a b : Option Value) → ValueOf c.of a → ValueOf c.of b → ValueOf c.of (first_of a b)
  first_right None b p q = q
  first_right (Some v) b p q = p

  first_known : (classes : List ℕ) (name : List ℕ) → ValueOf c.of (first_named w.heap classes name)
  first_known [] name = tt
  first_known (n ∷ classes) name =
      first_right _ _ (value_of c.of (own_of (slice_get w.heap n)) name (own_known n (slice_get w.heap n) (k.objects n))) (first_known classes name)

  pub found_known : (class : ℕ) (name : List ℕ) → ValueOf c.of (found_in w.heap class name)
  found_known class name = first_known (classes_from w.heap (Some class)) name

  special_at : (f : ℕ) (o : Option Object) → Known c w f o → c.of (value.Obj f) → SpecialOf c w (special_as (Some (value.Obj f)) o)
  special_at f (Some (object.Function code defaults keywords cells)) p q = (q, p.sort)
  special_at f o p q = tt

  special_value : (v : Value) → c.of v → SpecialOf c w (special_as (Some v) (object_of w.heap v))
  special_value (value.Obj f) q = special_at f (slice_get w.heap f) (k.objects f) q
  special_value v q = tt

  special_found : (v : Option Value) → ValueOf c.of v → SpecialOf c w (special_as v (found_object w.heap v))
  special_found None p = tt
  special_found (Some v) p = special_value v p

  special_known : (class : ℕ) (name : List ℕ) → SpecialOf c w (special_in w.heap class name)
  special_known class name = special_found (found_in w.heap class name) (found_known class name)

  instance_known : (o : Option Object) (name : List ℕ) → SpecialOf c w (instance_special w.heap o name)
  instance_known (Some (object.Instance class fields)) name = special_known class name
  instance_known o name = tt

  pub any_known : (o : Option Object) (name : List ℕ) → SpecialOf c w (any_special w.heap o name)
  any_known (Some (object.Instance class fields)) name = special_known class name
  any_known (Some (object.Exception class args entries fields cause)) name = special_known class name
  any_known o name = tt

  asks_end : (s : Special) (args : List Value) (a : After) (other : OpEnd) → SpecialOf c w s → AllOf c.of args → AfterOf c w a → EndOf c w other → EndOf c w (asks_special s args a other)
  asks_end special.Absent args a other p q r t = t
  asks_end (special.Function f) args a other p q r t =
      record { function = p.1; known = k.asked f p.0; args = q; names = tt; distinct = tt; after = r }
  asks_end special.Other args a other p q r t = tt

  by_end : (x : Value) (name : List ℕ) (args : List Value) (a : After) (other : OpEnd) → AllOf c.of args → AfterOf c w a → EndOf c w other → EndOf c w (by_special w.heap x name args a other)
  by_end x name args a other q r t =
      asks_end (instance_special w.heap (object_of w.heap x) name) args a other (instance_known (object_of w.heap x) name) q r t

  -- ---- items, iteration, truth and length

  index_end : (x i : Value) → c.of x → c.of i → EndOf c w (special_index w.heap x i)
  index_end x i p q = by_end x (codes "__getitem__") (x ∷ i ∷ []) behind.Plain _ (p, (q, tt)) tt (fails c w k 35 _ (lit< tt))

  setindex_end : (x i v : Value) → c.of x → c.of i → c.of v → EndOf c w (special_setindex w.heap x i v)
  setindex_end x i v p q r = by_end x (codes "__setitem__") (x ∷ i ∷ v ∷ []) behind.Plain _ (p, (q, (r, tt))) tt (fails c w k 35 _ (lit< tt))

  delindex_end : (x i : Value) → c.of x → c.of i → EndOf c w (special_delindex w.heap x i)
  delindex_end x i p q = by_end x (codes "__delitem__") (x ∷ i ∷ []) behind.Plain _ (p, (q, tt)) tt (fails c w k 35 _ (lit< tt))

  slice_end : (x : Value) (o : Option Object) → EndOf c w (slice_on w.heap x o)
  slice_end x (Some (object.Instance class fields)) = tt
  slice_end x o = fails c w k 35 _ (lit< tt)

  next_end : (x : Value) → c.of x → EndOf c w (special_next w.heap x)
  next_end x p = by_end x (codes "__next__") (x ∷ []) behind.Plain _ (p, tt) tt (fails c w k 35 _ (lit< tt))

  truth_end : (x : Value) → c.of x → EndOf c w (special_truth w.heap x)
  truth_end x p =
      by_end x (codes "__bool__") (x ∷ []) behind.Truth _ (p, tt) tt
      (by_end x (codes "__len__") (x ∷ []) behind.Some (give_bool true) (p, tt) tt (k.plain (value.Bool true) tt))

  pub length_end : (x : Value) → c.of x → EndOf c w (special_length w.heap x)
  length_end x p = by_end x (codes "__len__") (x ∷ []) behind.Length _ (p, tt) tt (fails c w k 35 _ (lit< tt))

  -- ---- operators

  plain_pair_end : (o : Op) (a b : Value) → c.of a → c.of b → EndOf c w (plain_pair o w.heap a b)
  plain_pair_end op.Mod a b p q = if_end c w k (is_text a) unbuilt (no_operands (sign_of op.Mod) w.heap a b) tt (fails c w k 35 _ (lit< tt))
  plain_pair_end op.Or a b p q = if_end c w k (may_unite w.heap a b) unbuilt (no_operands (sign_of op.Or) w.heap a b) tt (fails c w k 35 _ (lit< tt))
  plain_pair_end op.IAdd a b p q =
      if_end c w k (is_list (object_of w.heap a)) (asks w.heap (codes "_nu_addto") (a ∷ b ∷ []) [] behind.Plain) (no_operands (sign_of op.IAdd) w.heap a b)
      (asks_right c w k (codes "_nu_addto") (a ∷ b ∷ []) [] behind.Plain (p, (q, tt)) tt tt tt)
      (fails c w k 35 _ (lit< tt))
  plain_pair_end o a b p q = fails c w k 35 _ (lit< tt)

  pair_end : (o : Op) (a b : Value) → c.of a → c.of b → EndOf c w (special_pair o w.heap a b)
  pair_end o a b p q = if_end c w k (has_view w.heap a b) unbuilt (plain_pair o w.heap a b) tt (plain_pair_end o a b p q)

  order_end : (o : Op) (a b : Value) → EndOf c w (special_order o w.heap a b)
  order_end o a b = if_end c w k (has_view w.heap a b) unbuilt (no_order (sign_of o) w.heap a b) tt (fails c w k 35 _ (lit< tt))

  -- ---- the rows

  pairs_end : (o : Op) (args : List Value) → AllOf c.of args → EndOf c w (of_two (special_pair o w.heap) args)
  pairs_end o args q = two_end (special_pair o w.heap) (pair_end o) args q

  orders_end : (o : Op) (args : List Value) → AllOf c.of args → EndOf c w (of_two (special_order o w.heap) args)
  orders_end o args q = two_end (special_order o w.heap) (λ a b p r. order_end o a b) args q

  pub special_end : (o : Op) (args : List Value) → Given c o args → EndOf c w (special_row o w.heap args)
  special_end op.Index args q = two_end (special_index w.heap) index_end args (all_given (arguments op.Index) args tt q)
  special_end op.SetIndex args q = three_end (special_setindex w.heap) setindex_end args (all_given (arguments op.SetIndex) args tt q)
  special_end op.DelIndex args q = two_end (special_delindex w.heap) delindex_end args (all_given (arguments op.DelIndex) args tt q)
  special_end op.Slice args q = four_end (λ x a b d. slice_on w.heap x (object_of w.heap x)) (λ x a b d. slice_end x (object_of w.heap x)) args
  special_end op.Iter args q =
      one_end (asks_iterator w.heap) (λ x p. asks_right c w k (codes "_nu_iterof") (x ∷ []) [] behind.Plain (p, tt) tt tt tt) args (all_given (arguments op.Iter) args tt q)
  special_end op.Next args q = one_end (special_next w.heap) next_end args (all_given (arguments op.Next) args tt q)
  special_end op.In args q =
      two_end (asks_in w.heap) (λ v x p r. asks_right c w k (codes "_nu_in") (v ∷ x ∷ []) [] behind.Truth (p, (r, tt)) tt tt tt) args
      (all_given (arguments op.In) args tt q)
  special_end op.Truth args q = one_end (special_truth w.heap) truth_end args (all_given (arguments op.Truth) args tt q)
  special_end op.Add args q = pairs_end op.Add args (all_given (arguments op.Add) args tt q)
  special_end op.Sub args q = pairs_end op.Sub args (all_given (arguments op.Sub) args tt q)
  special_end op.Mul args q = pairs_end op.Mul args (all_given (arguments op.Mul) args tt q)
  special_end op.FloorDiv args q = pairs_end op.FloorDiv args (all_given (arguments op.FloorDiv) args tt q)
  special_end op.Mod args q = pairs_end op.Mod args (all_given (arguments op.Mod) args tt q)
  special_end op.Pow args q = pairs_end op.Pow args (all_given (arguments op.Pow) args tt q)
  special_end op.LShift args q = pairs_end op.LShift args (all_given (arguments op.LShift) args tt q)
  special_end op.RShift args q = pairs_end op.RShift args (all_given (arguments op.RShift) args tt q)
  special_end op.And args q = pairs_end op.And args (all_given (arguments op.And) args tt q)
  special_end op.Or args q = pairs_end op.Or args (all_given (arguments op.Or) args tt q)
  special_end op.Xor args q = pairs_end op.Xor args (all_given (arguments op.Xor) args tt q)
  special_end op.IAdd args q = pairs_end op.IAdd args (all_given (arguments op.IAdd) args tt q)
  special_end op.IMul args q = pairs_end op.IMul args (all_given (arguments op.IMul) args tt q)
  special_end op.Lt args q = orders_end op.Lt args (all_given (arguments op.Lt) args tt q)
  special_end op.Le args q = orders_end op.Le args (all_given (arguments op.Le) args tt q)
  special_end op.Gt args q = orders_end op.Gt args (all_given (arguments op.Gt) args tt q)
  special_end op.Ge args q = orders_end op.Ge args (all_given (arguments op.Ge) args tt q)
  special_end op.Neg args q = one_end (no_operand (sign_of op.Neg) w.heap) (λ a p. fails c w k 35 _ (lit< tt)) args (all_given (arguments op.Neg) args tt q)
  special_end op.Pos args q = one_end (no_operand (sign_of op.Pos) w.heap) (λ a p. fails c w k 35 _ (lit< tt)) args (all_given (arguments op.Pos) args tt q)
  special_end op.Inv args q = one_end (no_operand (sign_of op.Inv) w.heap) (λ a p. fails c w k 35 _ (lit< tt)) args (all_given (arguments op.Inv) args tt q)
  special_end o args q = tt
