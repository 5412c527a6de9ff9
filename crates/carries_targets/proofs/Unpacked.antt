-- Values that are unpacked, and whose items go to targets.
use Rattle.std.proofs.Common.{inl, inr, ℕ, ◌+◌, ◌≤◌, List, [], ◌∷◌, Some, ap, arith}
use Rattle.nu_value.specs.declared.value.Value.{Value}
use Rattle.op_forms.specs.declared.op.Op.TheVariants as op
use Rattle.nu_rows.specs.Words.{then_value}
use Rattle.nu_calls.specs.Calls.{operate}
use Rattle.code_forms.specs.declared.operand.Argument.TheVariants as argument
use Rattle.code_forms.specs.declared.operand.Operand.{Operand}
use Rattle.code_forms.specs.declared.operand.Operand.TheVariants as operand
use Rattle.node_tree.specs.Blocks.{of_temp}
use Rattle.node_tree.specs.Blocks as tree
use Rattle.node_tree.specs.Nodes as nodes
use Rattle.py_meaning.specs.Syntax as syntax
use Rattle.py_meaning.specs.Frames as python
use Rattle.py_meaning.specs.Statements.{count, number, assign, assign_each}
use Rattle.carries_base.specs.Frames.{Homes, behind, Holds, Facts, Outside}
use Rattle.carries_base.specs.Carries.{Setting, source, target, EndsAs, Carried, Knows}
use Rattle.carries_base.proofs.Facts.{outside_off, outside_less}
use Rattle.carries_base.proofs.Sequence.{lessen, seq_carried, gives_carried}
use Rattle.carries_control.proofs.Steps.{passing, do_then}
use Rattle.carries_targets.specs.Places.{CarriesPlace, Taker, CarriesItem, CarriesItems}
use Rattle.carries_targets.specs.Targets.{numeral, items_block, each_block, starred_block}

module _ (z : Setting) (h : Homes) (low high from to list line : ℕ) (lv : Value) (fs : Facts) (st : behind h ≤ low) (le : low ≤ high) (follows : high ≤ from) (out : Outside h low high fs) (drawn : Outside h from to fs) (knows : Knows fs (operand.Temp list) lv) where
  -- an item of the list goes to its target
  item_carried : (n : ℕ) (x : syntax.Target) (p : Taker) (K : Value → python.R) (last : tree.Block) → CarriesItem h low high from to x p → ((w : Value) → Carried z h 0 (λ w. fs) fs (K w) (nodes.block_row (target z) last)) → Carried z h 0 (λ w. fs) fs (then_value (then_value (operate (source z) line op.Index (lv ∷ number n ∷ [])) (λ v. assign (source z) v x)) K) (nodes.block_row (target z) (items_block line list n (p ∷ []) last))
  item_carried n x p K last c next =
      let l₁ : from ≤ p.item = c.above in
      let l₂ : c.right ≤ high = c.parts.1 in
      let above : behind h ≤ p.item = omega arith in
      let behind_parts : c.right ≤ p.item = omega arith in
      let known : Value → Facts = λ v. Holds (operand.Temp p.item) v ∷ fs in
      seq_carried z h 0 (λ w. fs) (λ w. fs) fs _ K (tree.Follow (tree.Do p.item line op.Index (of_temp list ∷ numeral n ∷ [])) p.block) last (λ w c g y. y)
      (do_then z h fs (EndsAs z h 0 (λ w. fs) fs) (passing z h 0 fs) fs line p.item op.Index (lv ∷ number n ∷ []) (of_temp list ∷ numeral n ∷ []) _ _ (λ c g y. y) above (outside_off h from to p.item fs c.above c.below drawn)
      (λ c g y. ap (λ u. nodes.both u (Some (number n ∷ []))) (knows c g y))
      (λ v. lessen z h 0 (λ w. known v) (λ w. fs) fs (known v) _ _ (λ w c g y. y.1) (λ c g y. y.1)
      (c.place.carries z (known v) v
      ((above, inr behind_parts), outside_less h low high c.left c.right fs c.parts.0 c.parts.1 out)
      ((above, c.apart), outside_less h from to c.first c.last fs c.draws.0 c.draws.1 drawn)
      (λ c g y. y.0))))
      next

  items_carried : (n : ℕ) (xs : syntax.Targets) (ps : List Taker) (r : python.R) (last : tree.Block) → CarriesItems h low high from to xs ps → Carried z h 0 (λ w. fs) fs r (nodes.block_row (target z) last) → Carried z h 0 (λ w. fs) fs (assign_each (source z) line lv n xs r) (nodes.block_row (target z) (items_block line list n ps last))
  items_carried n syntax.NoTarget [] r last c next = next
  items_carried n syntax.NoTarget (p ∷ ps) r last c next = absurd c
  items_carried n (syntax.AlsoTo x xs) [] r last c next = absurd c
  items_carried n (syntax.AlsoTo x xs) (p ∷ ps) r last c next =
      item_carried n x p _ (items_block line list (n + 1) ps last) c.0 (λ w. items_carried (n + 1) xs ps r last c.1 next)

pub each_placed : (h : Homes) (low high list to line : ℕ) (o : Operand) (xs : syntax.Targets) (ps : List Taker) → behind h ≤ low → low ≤ high → high ≤ list → list + 1 ≤ to → CarriesItems h low high (list + 1) to xs ps → CarriesPlace h low high list to o (syntax.ToEach line xs) (each_block line list (count xs) o ps)
each_placed h low high list to line o xs ps st le follows l c =
    let above : behind h ≤ list = omega arith in
    record {
      starts = st;
      parts = le;
      follows = follows;
      draws = omega arith;
      carries = λ z fs v out drawn knows.
          let known : Value → Facts = λ u. Holds (operand.Temp list) u ∷ fs in
          do_then z h fs (EndsAs z h 0 (λ w. fs) fs) (passing z h 0 fs) fs line list op.Unpack (v ∷ number (count xs) ∷ []) (argument.Value o ∷ numeral (count xs) ∷ []) _ _ (λ c g y. y) above (outside_off h list to list fs (omega arith) (omega arith) drawn)
          (λ c g y. ap (λ u. nodes.both u (Some (number (count xs) ∷ []))) (knows c g y))
          (λ u. lessen z h 0 (λ w. known u) (λ w. fs) fs (known u) _ _ (λ w c g y. y.1) (λ c g y. y.1)
          (items_carried z h low high (list + 1) to list line u (known u) st le (omega arith)
          ((above, inr follows), out) ((above, inl (omega arith)), outside_less h list to (list + 1) to fs (omega arith) (omega arith) drawn) (λ c g y. y.0)
          0 xs ps _ tree.Stop c (gives_carried z h 0 (λ w. known u) (known u) _ (λ c g y. y))));
    }

pub starred_placed : (h : Homes) (low high list to line : ℕ) (o : Operand) (xs ys : syntax.Targets) (star : syntax.Target) (ps qs : List Taker) (p : Taker) → behind h ≤ low → low ≤ high → high ≤ list → list + 1 ≤ to → CarriesItems h low high (list + 1) to xs ps → CarriesItem h low high (list + 1) to star p → CarriesItems h low high (list + 1) to ys qs → CarriesPlace h low high list to o (syntax.ToStarred line xs star ys) (starred_block line list (count xs) (count ys) o ps p qs)
starred_placed h low high list to line o xs ys star ps qs p st le follows l cp c cq =
    let above : behind h ≤ list = omega arith in
    record {
      starts = st;
      parts = le;
      follows = follows;
      draws = omega arith;
      carries = λ z fs v out drawn knows.
          let known : Value → Facts = λ u. Holds (operand.Temp list) u ∷ fs in
          do_then z h fs (EndsAs z h 0 (λ w. fs) fs) (passing z h 0 fs) fs line list op.UnpackStar (v ∷ number (count xs) ∷ number (count ys) ∷ []) (argument.Value o ∷ numeral (count xs) ∷ numeral (count ys) ∷ []) _ _ (λ c g y. y) above (outside_off h list to list fs (omega arith) (omega arith) drawn)
          (λ c g y. ap (λ u. nodes.both u (Some (number (count xs) ∷ number (count ys) ∷ []))) (knows c g y))
          (λ u.
          let apart : Outside h low high (known u) = ((above, inr follows), out) in
          let behind_list : Outside h (list + 1) to (known u) = ((above, inl (omega arith)), outside_less h list to (list + 1) to fs (omega arith) (omega arith) drawn) in
          lessen z h 0 (λ w. known u) (λ w. fs) fs (known u) _ _ (λ w c g y. y.1) (λ c g y. y.1)
          (items_carried z h low high (list + 1) to list line u (known u) st le (omega arith) apart behind_list (λ c g y. y.0) 0 xs ps _ _ cp
          (item_carried z h low high (list + 1) to list line u (known u) st le (omega arith) apart behind_list (λ c g y. y.0) (count xs) star p _ _ c
          (λ w. items_carried z h low high (list + 1) to list line u (known u) st le (omega arith) apart behind_list (λ c g y. y.0) (count xs + 1) ys qs _ tree.Stop cq
          (gives_carried z h 0 (λ w. known u) (known u) _ (λ c g y. y))))));
    }
