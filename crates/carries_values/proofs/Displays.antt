-- Displays with stars, and dict displays, where their parts are carried.
use Rattle.std.proofs.Common.{◌≡◌, inr, ℕ, ◌+◌, ◌<◌, ◌≤◌, true, false, List, [], ◌∷◌, Some, codes, refl, ap, subst, arith}
use Rattle.nu_value.specs.declared.value.Value.{Value}
use Rattle.nu_value.specs.declared.value.Value.TheVariants as value
use Rattle.op_forms.specs.declared.op.Op.{Op}
use Rattle.op_forms.specs.declared.op.Op.TheVariants as op
use Rattle.nu_rows.specs.Words.{then_value}
use Rattle.nu_calls.specs.Calls.{operate}
use Rattle.code_forms.specs.declared.operand.Argument.TheVariants as argument
use Rattle.code_forms.specs.declared.operand.Operand.TheVariants as operand
use Rattle.node_tree.specs.Blocks.{of_temp}
use Rattle.node_tree.specs.Blocks as tree
use Rattle.node_tree.specs.Nodes as nodes
use Rattle.node_tree.proofs.Direct.{append_stop}
use Rattle.py_meaning.specs.Syntax as syntax
use Rattle.py_meaning.specs.Frames as python
use Rattle.py_meaning.specs.Expressions.{expression, gives, fill, enter}
use Rattle.carries_base.specs.Frames.{Homes, behind, Holds, Facts, Outside}
use Rattle.carries_base.specs.Carries.{Setting, source, target, EndsAs, CarriedTo, Carried, Carrier, CarriesExpression}
use Rattle.carries_base.proofs.Facts.{Off, outside_off, outside_less}
use Rattle.carries_base.proofs.Carry.{AllEnds, act_by}
use Rattle.carries_base.proofs.Sequence.{strengthen, seq_to, gives_carried}
use Rattle.carries_control.proofs.Steps.{passed, passing, value_then, do_then}
use Rattle.carries_values.specs.Parts.{CarriesPart, CarriesBeside}
use Rattle.carries_values.specs.Displays.{Item, One, Star, Entry, Pair, Merge, added_block, pair_block, fill_block, enter_block, list_block, tuple_block, dict_block, CarriesDisplayed, CarriesEntries}
use Rattle.carries_values.proofs.Parts.{Into, into_passes, outside_part, off_part, operate_into}
use Rattle.carries_values.proofs.Added.{known_then, used_by, added_by}

module _ (z : Setting) (h : Homes) (low high line : ℕ) (fs : Facts) (into : Value) (st : behind h ≤ low) (le : low ≤ high) (out : Outside h low high fs) (off : Off (high + 1) fs) where
  abbrev gs : Facts
  gs = Holds (operand.Temp high) into ∷ fs

  abbrev E : AllEnds
  E = EndsAs z h 0 (λ v. gs) gs

  out_of : Outside h low high gs
  out_of = ((omega arith, inr (omega arith)), out)

  off_of : Off (high + 1) gs
  off_of = (λ q. let e₁ : high ≡ high + 1 = q in omega arith, off)

  added : (x : syntax.Expression) (p : Carrier) (o : Op) (r : python.R) (rest : tree.Block) → CarriesPart h low high x p → CarriedTo z h E gs r (nodes.block_row (target z) rest) → CarriedTo z h E gs (then_value (expression (source z) x) (λ v. then_value (operate (source z) line o (into ∷ v ∷ [])) (λ w. r))) (nodes.block_row (target z) (added_block line high (high + 1) o p rest))
  added x p o r rest c next =
      added_by z h gs E (passing z h 0 gs) low high line (high + 1) (omega arith) (omega arith) gs (λ c g y. y) off_of high into x p o r rest (λ c g y. y.0) c
      (outside_part h low high x p gs c out_of) next

  fill_by : (items : syntax.Items) (ps : List Item) → CarriesDisplayed h low high items ps → CarriedTo z h E gs (fill (source z) line into items) (nodes.block_row (target z) (fill_block line high ps))
  fill_by syntax.NoItem [] c = gives_carried z h 0 (λ v. gs) gs value.None (λ c g y. y)
  fill_by (syntax.Single x items) (One p ∷ ps) c = added x p op.Push _ _ c.0 (fill_by items ps c.1)
  fill_by (syntax.Spread x items) (Star p ∷ ps) c = added x p op.Extend _ _ c.0 (fill_by items ps c.1)
  fill_by items ps c = absurd c

  -- a key, over whose value it is kept
  pair_by : (x y : syntax.Expression) (k p : Carrier) (r : python.R) (rest : tree.Block) → CarriesPart h low high x k → CarriesBeside h low high k.value y p → CarriedTo z h E gs r (nodes.block_row (target z) rest) → CarriedTo z h E gs (then_value (expression (source z) x) (λ v. then_value (expression (source z) y) (λ w. then_value (operate (source z) line op.Put (into ∷ v ∷ w ∷ [])) (λ u. r)))) (nodes.block_row (target z) (pair_block line high k p rest))
  pair_by x y k p r rest ck cp next =
      value_then z h gs E (passing z h 0 gs) gs ck.from ck.to x k.block k.value _ _ (λ c g y. y) ck.carries (outside_part h low high x k gs ck out_of)
      (λ v. let hs : Facts = Holds k.value v ∷ gs in
      used_by z h gs E (passing z h 0 gs) low high line (high + 1) (omega arith) (omega arith) hs (λ c g y. y.1) (off_part h low high (high + 1) x k v gs ck (omega arith) off_of)
      y p op.Put (λ w. into ∷ v ∷ w ∷ []) (of_temp high ∷ argument.Value k.value ∷ argument.Value p.value ∷ []) r rest cp.0 (cp.1, outside_part h low high y p gs cp.0 out_of)
      (λ w. let is : Facts = Holds p.value w ∷ hs in
      known_then is (of_temp high) into (argument.Value k.value ∷ argument.Value p.value ∷ []) (v ∷ w ∷ []) (λ c g y. y.1.1.0)
      (known_then is (argument.Value k.value) v (argument.Value p.value ∷ []) (w ∷ []) (λ c g y. y.1.0) (λ c g y. ap (λ q. nodes.both q (Some [])) y.0)))
      (strengthen z h 0 gs hs E _ _ (λ c g y. y.1) next))

  enter_by : (entries : syntax.Entries) (ps : List Entry) → CarriesEntries h low high entries ps → CarriedTo z h E gs (enter (source z) line into entries) (nodes.block_row (target z) (enter_block line high ps))
  enter_by syntax.NoEntry [] c = gives_carried z h 0 (λ v. gs) gs value.None (λ c g y. y)
  enter_by (syntax.Pair x y entries) (Pair k p ∷ ps) c = pair_by x y k p _ _ c.0 c.1 (enter_by entries ps c.2)
  enter_by (syntax.Merge x entries) (Merge p ∷ ps) c = added x p op.Merge _ _ c.0 (enter_by entries ps c.1)
  enter_by entries ps c = absurd c

-- what is made first is filled, and the rest follows, to any ends
made_by : (z : Setting) (h : Homes) (low high line to : ℕ) (fs : Facts) (o : Op) (K : Value → python.R) (then : Value → python.R) (b rest : tree.Block) → behind h ≤ high → Off high fs → ((into : Value) → Carried z h 0 (λ v. Holds (operand.Temp high) into ∷ fs) (Holds (operand.Temp high) into ∷ fs) (K into) (nodes.block_row (target z) b)) → ((into : Value) → CarriedTo z h (Into z h to fs) (Holds (operand.Temp high) into ∷ fs) (then into) (nodes.block_row (target z) rest)) → CarriedTo z h (Into z h to fs) fs (then_value (operate (source z) line o []) (λ into. then_value (K into) (λ v. then into))) (nodes.block_row (target z) (tree.Follow (tree.Do high line o []) (tree.append b rest)))
made_by z h low high line to fs o K then b rest above off fills next =
    let Q : AllEnds = Into z h to fs in
    do_then z h fs Q (into_passes z h to fs) fs line high o [] [] _ _ (λ c g y. y) above off (λ c g y. refl)
    (λ into. let gs : Facts = Holds (operand.Temp high) into ∷ fs in
    seq_to z h 0 (λ v. gs) gs Q _ _ b rest (passed z h fs Q (into_passes z h to fs) (λ v. gs) gs (λ c g y. y.1)) (fills into) (λ v. next into))

-- what was made is the value
itself : (z : Setting) (h : Homes) (high : ℕ) (fs : Facts) (into : Value) → CarriedTo z h (Into z h high fs) (Holds (operand.Temp high) into ∷ fs) (gives into) (nodes.block_row (target z) tree.Stop)
itself z h high fs into = act_by z h _ (Into z h high fs) _ _ (λ tabs s t y. (refl, y))

pub list_carried : (h : Homes) (low high line : ℕ) (items : syntax.Items) (ps : List Item) → behind h ≤ low → low ≤ high → CarriesDisplayed h low high items ps → CarriesExpression h low (high + 2) (syntax.Starred line false items) (list_block line high ps) (operand.Temp high)
list_carried h low high line items ps st le c =
    subst (λ b. CarriesExpression h low (high + 2) (syntax.Starred line false items) (tree.Follow (tree.Do high line op.List []) b) (operand.Temp high)) (append_stop (fill_block line high ps))
    (record {
      starts = st;
      grows = omega arith;
      within = (le, omega arith);
      carries = λ z fs out.
          let off : (d : ℕ) → low ≤ d → d < high + 2 → Off d fs = (λ d a b. outside_off h low (high + 2) d fs a b out) in
          let below : Outside h low high fs = outside_less h low (high + 2) low high fs (omega arith) (omega arith) out in
          made_by z h low high line high fs op.List _ _ (fill_block line high ps) tree.Stop (omega arith) (off high le (omega arith))
          (λ into. fill_by z h low high line fs into st le below (off (high + 1) (omega arith) (omega arith)) items ps c) (itself z h high fs);
    })

pub tuple_carried : (h : Homes) (low high line : ℕ) (items : syntax.Items) (ps : List Item) → behind h ≤ low → low ≤ high → CarriesDisplayed h low high items ps → CarriesExpression h low (high + 3) (syntax.Starred line true items) (tree.append (list_block line high ps) (tuple_block line high)) (operand.Temp (high + 2))
tuple_carried h low high line items ps st le c = record {
  starts = st;
  grows = omega arith;
  within = (omega arith, omega arith);
  carries = λ z fs out.
      let Q : AllEnds = Into z h (high + 2) fs in
      let off : (d : ℕ) → low ≤ d → d < high + 3 → Off d fs = (λ d a b. outside_off h low (high + 3) d fs a b out) in
      let below : Outside h low high fs = outside_less h low (high + 3) low high fs (omega arith) (omega arith) out in
      made_by z h low high line (high + 2) fs op.List _ _ (fill_block line high ps) (tuple_block line high) (omega arith) (off high le (omega arith))
      (λ into. fill_by z h low high line fs into st le below (off (high + 1) (omega arith) (omega arith)) items ps c)
      (λ into. let gs : Facts = Holds (operand.Temp high) into ∷ fs in
      do_then z h fs Q (into_passes z h (high + 2) fs) gs line (high + 1) op.Native (python.text (codes "tuple") ∷ []) (argument.Name (codes "tuple") ∷ []) _ _ (λ c g y. y.1) (omega arith)
      (λ q. let e₁ : high ≡ high + 1 = q in omega arith, off (high + 1) (omega arith) (omega arith)) (λ c g y. refl)
      (λ class. let hs : Facts = Holds (operand.Temp (high + 1)) class ∷ gs in
      operate_into z h (high + 2) fs (omega arith) hs (λ c g y. y.1.1) line op.Call (class ∷ into ∷ []) (of_temp (high + 1) ∷ of_temp high ∷ [])
      (λ q. let e₁ : high + 1 ≡ high + 2 = q in omega arith, (λ q. let e₁ : high ≡ high + 2 = q in omega arith, off (high + 2) (omega arith) (omega arith)))
      (known_then hs (of_temp (high + 1)) class (of_temp high ∷ []) (into ∷ []) (λ c g y. y.0) (λ c g y. ap (λ q. nodes.both q (Some [])) y.1.0))));
}

pub dict_carried : (h : Homes) (low high line : ℕ) (entries : syntax.Entries) (ps : List Entry) → behind h ≤ low → low ≤ high → CarriesEntries h low high entries ps → CarriesExpression h low (high + 2) (syntax.Dict line entries) (dict_block line high ps) (operand.Temp high)
dict_carried h low high line entries ps st le c =
    subst (λ b. CarriesExpression h low (high + 2) (syntax.Dict line entries) (tree.Follow (tree.Do high line op.Dict []) b) (operand.Temp high)) (append_stop (enter_block line high ps))
    (record {
      starts = st;
      grows = omega arith;
      within = (le, omega arith);
      carries = λ z fs out.
          let off : (d : ℕ) → low ≤ d → d < high + 2 → Off d fs = (λ d a b. outside_off h low (high + 2) d fs a b out) in
          let below : Outside h low high fs = outside_less h low (high + 2) low high fs (omega arith) (omega arith) out in
          made_by z h low high line high fs op.Dict _ _ (enter_block line high ps) tree.Stop (omega arith) (off high le (omega arith))
          (λ into. enter_by z h low high line fs into st le below (off (high + 1) (omega arith) (omega arith)) entries ps c) (itself z h high fs);
    })
