-- Augmented assignments to names, from blocks that read the name, evaluate the right side and store.
use Rattle.std.proofs.Common.{◌≡◌, ◌⊎◌, inl, inr, ℕ, ◌+◌, ◌<◌, ◌≤◌, List, [], ◌∷◌, ◌++◌, Option, Some, None, refl, sym, ap, ◌∙◌, subst, arith, append_assoc}
use Rattle.nu_value.specs.declared.value.Value.{Value}
use Rattle.op_forms.specs.declared.op.Op.{Op}
use Rattle.code_forms.specs.declared.operand.Argument.{Argument}
use Rattle.code_forms.specs.declared.operand.Argument.TheVariants as argument
use Rattle.node_tree.specs.declared.node.Node.{Node, Do}
use Rattle.code_forms.specs.declared.operand.Operand.{Operand}
use Rattle.code_forms.specs.declared.operand.Operand.TheVariants as operand
use Rattle.node_tree.specs.Blocks as tree
use Rattle.node_tree.proofs.Direct.{block_append, total_append}
use Rattle.node_tree.specs.Contents.{form_total, total}
use Rattle.node_tree.specs.Nodes as nodes
use Rattle.node_tree.specs.Tree.{form, block}
use Rattle.py_meaning.specs.Syntax as syntax
use Rattle.carries_base.specs.Frames.{Homes, behind, Fact, Holds, Facts}
use Rattle.carries_base.specs.Carries.{CarriesExpression, CarriesTarget, CarriesStatement}
use Rattle.carries_base.proofs.Facts.{outside_off, outside_less, forget}
use Rattle.carries_base.proofs.Sequence.{weaken, more_leaves, seq_carried, then_carried}
use Rattle.carries_base.proofs.Operations.{operate_carried}
use Rattle.carries_base.proofs.Small.{within_off}
use Rattle.reform_expr.specs.declared.home.Home.{Home}
use Rattle.reform_expr.proofs.Operands.{within_apart}
use Rattle.reform_unpack.specs.declared.place.Place.{Place}
use Rattle.reform_unpack.specs.declared.place.Place.TheVariants as place
use Rattle.reform_unpack.specs.Places.{value_of, target_of, reads, stores}

pub augmented : (h : Homes) (low mid from to high line at : ℕ) (caught : Option ℕ) (o : Op) (name : syntax.Home) (x : syntax.Expression) (a b c : tree.Block) (av bv : Operand) → mid ≤ from → CarriesExpression h low mid x b bv → CarriesExpression h from to (syntax.Name at name) a av → CarriesTarget h (to + 1) high (operand.Temp to) (syntax.ToName at name) c → CarriesStatement h low high caught (syntax.Augment line o (syntax.ToName at name) x) (tree.append a (tree.append b (tree.Follow (tree.Do to line o (argument.Value av ∷ argument.Value bv ∷ [])) c)))
augmented h low mid from to high line at caught o name x a b c av bv apart cb ca cs =
    let st : behind h ≤ low = cb.starts in
    let l₁ : low ≤ mid = cb.grows in
    let l₂ : from ≤ to = ca.grows in
    let l₃ : to + 1 ≤ high = cs.grows in
    let above : behind h ≤ to = omega arith in
    let top : behind h ≤ from = omega arith in
    let before : mid ≤ to = omega arith in
    record {
      starts = st;
      grows = omega arith;
      carries = λ z fs handled off hd.
          let k : Value → Facts = λ v. fs in
          let fa : Value → Facts = λ v. Holds av v ∷ fs in
          let fb : Value → Value → Facts = λ v w. Holds bv w ∷ fa v in
          let fo : Value → Value → Value → Facts = λ v w u. Holds (operand.Temp to) u ∷ fb v w in
          seq_carried z h 2 fa k fs _ _ a _ (λ v. forget (Holds av v) fs)
          (more_leaves z h 0 2 fa fs _ _ (omega arith) (ca.carries z fs (outside_less h low high from to fs (omega arith) (omega arith) off)))
          (λ v. seq_carried z h 2 (fb v) k (fa v) _ _ b _ (λ w. forget (Holds bv w) (fa v))
          (more_leaves z h 0 2 (fb v) (fa v) _ _ (omega arith) (cb.carries z (fa v)
          (within_apart h (record { low = from; high = to }) (record { low = low; high = mid }) av top ca.within (inr apart), outside_less h low high low mid fs (omega arith) (omega arith) off)))
          (λ w. then_carried z h 2 (fo v w) k (fb v w) _ _ _ _ (λ u. forget (Holds (operand.Temp to) u) (fb v w))
          (operate_carried z h 2 (fb v w) line o (v ∷ w ∷ []) to (argument.Value av ∷ argument.Value bv ∷ []) above
          (within_off low mid to bv w (fa v) cb.within before (within_off from to to av v fs ca.within (omega arith) (outside_off h low high to fs (omega arith) (omega arith) off)))
          (λ c g y. ap (λ q. nodes.both q (nodes.both (nodes.operand_value g bv) (Some []))) y.1.0 ∙ ap (λ q. nodes.both (Some v) (nodes.both q (Some []))) y.0))
          (λ u. more_leaves z h 0 2 k (fo v w u) _ _ (omega arith)
          (weaken z h 0 (λ r. fo v w u) k (fo v w u) _ _ (λ r c g y. y.1.1.1)
          (cs.carries z (fo v w u) u (
            (above, inl (omega arith)),
            (
              within_apart h (record { low = low; high = mid }) (record { low = to + 1; high = high }) bv st cb.within (inl (omega arith)),
              (
                within_apart h (record { low = from; high = to }) (record { low = to + 1; high = high }) av top ca.within (inl (omega arith)),
                outside_less h low high (to + 1) high fs (omega arith) (omega arith) off,
              ),
            ),
          )
          (λ c g y. y.0))))));
    }

-- a block, another, a statement and a third, as code puts them together
pub block_around : (a b c : List Node) (x : Node) → block (((a ++ b) ++ x ∷ []) ++ c) ≡ tree.append (block a) (tree.append (block b) (block (x ∷ c)))
block_around a b c x =
    ap (λ l. block l) (append_assoc (a ++ b) (x ∷ []) c ∙ append_assoc a b (x ∷ c))
    ∙ block_append a (b ++ x ∷ c) ∙ ap (λ r. tree.append (block a) r) (block_append b (x ∷ c))

pub augments : (h : Homes) (low mid from m to n high line : ℕ) (caught : Option ℕ) (o : Op) (at : Place) (x : syntax.Expression) (a b c : List Node) (av bv : Operand) → to ≡ m → n ≡ to + 1 → mid ≤ from → CarriesExpression h low mid x (block b) bv → ((start : ℕ) → behind h ≤ start → start ≤ from → CarriesExpression h start m (value_of at) (block a) av) → ((start : ℕ) → behind h ≤ start → start ≤ n → CarriesTarget h start high (operand.Temp to) (target_of at) (block c)) → CarriesStatement h low high caught (syntax.Augment line o (target_of at) x) (block (((a ++ b) ++ Do to line o (argument.Value av ∷ argument.Value bv ∷ []) ∷ []) ++ c))
augments h low mid from m to n high line caught o (place.Name name l) x a b c av bv em en apart cb read store =
    let st : behind h ≤ low = cb.starts in
    let l₁ : low ≤ mid = cb.grows in
    let ca : CarriesExpression h from to (value_of (place.Name name l)) (block a) av = subst (λ i. CarriesExpression h from i (value_of (place.Name name l)) (block a) av) (sym em) (read from (omega arith) (omega arith)) in
    let l₂ : from ≤ to = ca.grows in
    subst (λ d. CarriesStatement h low high caught (syntax.Augment line o (target_of (place.Name name l)) x) d) (sym (block_around a b c (Do to line o (argument.Value av ∷ argument.Value bv ∷ []))))
    (augmented h low mid from to high line l caught o _ x (block a) (block b) (block c) av bv apart cb ca (store (to + 1) (omega arith) (omega arith)))

total_around : (count : tree.Form → ℕ) (a b c : List Node) (x : Node) (n m k : ℕ) → total count (block a) ≡ n → form_total count (form x) ≡ m → total count (block c) ≡ k → total count (block (((a ++ b) ++ x ∷ []) ++ c)) ≡ n + total count (block b) + m + k
total_around count a b c x n m k ea ex ec =
    let e₂ : total count (tree.append (block a) (tree.append (block b) (block (x ∷ c)))) ≡ total count (block a) + total count (tree.append (block b) (block (x ∷ c))) = total_append count (block a) _ in
    let e₃ : total count (tree.append (block b) (block (x ∷ c))) ≡ total count (block b) + (form_total count (form x) + total count (block c)) = total_append count (block b) _ in
    let goal : total count (tree.append (block a) (tree.append (block b) (block (x ∷ c)))) ≡ n + total count (block b) + m + k = omega arith in
    ap (λ d. total count d) (block_around a b c x) ∙ goal

pub augment_totals : (count : tree.Form → ℕ) (t m to n line : ℕ) (o : Op) (at : Place) (a b c : List Node) (av bv : Operand) → m ≡ t + 1 → to ≡ m → n ≡ to + 1 → av ≡ operand.Temp t → total count (block a) ≡ count (reads t at) → total count (block c) ≡ count (stores n (operand.Temp to) at) → total count (block (((a ++ b) ++ Do to line o (argument.Value av ∷ argument.Value bv ∷ []) ∷ []) ++ c)) ≡ count (reads t at) + total count (block b) + count (tree.Do (t + 1) line o (argument.Value (operand.Temp t) ∷ argument.Value bv ∷ [])) + count (stores (t + 2) (operand.Temp (t + 1)) at)
augment_totals count t m to n line o at a b c av bv em eto en eav ea ec =
    let e₁ : to ≡ t + 1 = omega arith in
    let e₂ : n ≡ t + 2 = omega arith in
    total_around count a b c (Do to line o (argument.Value av ∷ argument.Value bv ∷ [])) _ _ _ ea
    (ap (λ i. count (tree.Do i line o (argument.Value av ∷ argument.Value bv ∷ []))) e₁ ∙ ap (λ v. count (tree.Do (t + 1) line o (argument.Value v ∷ argument.Value bv ∷ []))) eav)
    (ec ∙ ap (λ i. count (stores i (operand.Temp to) at)) e₂ ∙ ap (λ i. count (stores (t + 2) (operand.Temp i) at)) e₁)
