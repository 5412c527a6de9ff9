-- Blocks of parts, one after another, and sums over them.
use Rattle.std.proofs.Common.{◌≡◌, ℕ, suc, ◌+◌, length, map, List, [], ◌∷◌, ◌++◌, refl, sym, ap, ◌∙◌, arith, Some, append_assoc, append-nil}
use Rattle.std.specs.Prelude.{slice_get}
use Rattle.op_forms.specs.declared.signature.ArgumentKind.{ArgumentKind}
use Rattle.node_tree.specs.declared.node.Node.{Node}
use Rattle.code_forms.specs.declared.operand.Argument.TheVariants as argument
use Rattle.node_tree.specs.Blocks as tree
use Rattle.node_tree.specs.Contents.{form_total, total}
use Rattle.node_tree.specs.Tree.{form, block}
use Rattle.node_tree.proofs.Direct.{block_append, total_append}
use Rattle.carries_base.specs.Carries.{joined}
use Rattle.reform_base.specs.declared.Part.{Part}
use Rattle.reform_expr.specs.Parts.{carrier, blocks, totals}
use Rattle.reform_expr.specs.Arguments.{is_name, argument_of, given}

pub blocks_push : (ps : List Part) (p : Part) → blocks (ps ++ p ∷ []) ≡ blocks ps ++ p.block
blocks_push [] p = append-nil p.block
blocks_push (q ∷ ps) p = ap (λ l. q.block ++ l) (blocks_push ps p) ∙ sym (append_assoc q.block (blocks ps) p.block)

pub behind_push : (first : List Node) (ps : List Part) (p : Part) → first ++ blocks (ps ++ p ∷ []) ≡ (first ++ blocks ps) ++ p.block
behind_push first ps p = ap (λ l. first ++ l) (blocks_push ps p) ∙ sym (append_assoc first (blocks ps) p.block)

pub values_push : (ps : List Part) (p : Part) → map (λ a. a.value) (ps ++ p ∷ []) ≡ map (λ a. a.value) ps ++ p.value ∷ []
values_push [] p = refl
values_push (q ∷ ps) p = ap (λ l. q.value ∷ l) (values_push ps p)

pub given_length : (kinds : List ArgumentKind) (ps : List Part) → length (given kinds ps) ≡ length ps
given_length kinds [] = refl
given_length [] (p ∷ ps) = ap (λ n. suc n) (given_length [] ps)
given_length (k ∷ kinds) (p ∷ ps) = ap (λ n. suc n) (given_length kinds ps)

pub given_push : (kinds : List ArgumentKind) (ps : List Part) (p : Part) → given kinds (ps ++ p ∷ []) ≡ given kinds ps ++ argument_of (is_name (slice_get kinds (length ps))) p.value ∷ []
given_push [] [] p = refl
given_push (k ∷ kinds) [] p = refl
given_push [] (q ∷ ps) p = ap (λ l. argument.Value q.value ∷ l) (given_push [] ps p)
given_push (k ∷ kinds) (q ∷ ps) p = ap (λ l. argument_of (is_name (Some k)) q.value ∷ l) (given_push kinds ps p)

-- as a block of the meaning
pub blocks_joined : (ps : List Part) (rest : List Node) → block (blocks ps ++ rest) ≡ joined (map carrier ps) (block rest)
blocks_joined [] rest = refl
blocks_joined (p ∷ ps) rest =
    ap (λ l. block l) (append_assoc p.block (blocks ps) rest) ∙ block_append p.block (blocks ps ++ rest) ∙ ap (λ b. tree.append (block p.block) b) (blocks_joined ps rest)

module _ (count : tree.Form → ℕ) where
  pub total_joined : (ps : List Part) (last : tree.Block) → total count (joined (map carrier ps) last) ≡ totals count ps + total count last
  total_joined [] last = omega arith
  total_joined (p ∷ ps) last =
      let a : total count (tree.append (block p.block) (joined (map carrier ps) last)) ≡ total count (block p.block) + total count (joined (map carrier ps) last) = total_append count (block p.block) (joined (map carrier ps) last) in
      let e : total count (joined (map carrier ps) last) ≡ totals count ps + total count last = total_joined ps last in
      let goal : total count (tree.append (block p.block) (joined (map carrier ps) last)) ≡ (total count (block p.block) + totals count ps) + total count last = omega arith in
      goal

  -- parts, and a statement behind them
  pub total_one : (ps : List Part) (x : Node) (n : ℕ) → form_total count (form x) ≡ n → total count (block (blocks ps ++ x ∷ [])) ≡ totals count ps + n
  total_one ps x n is =
      let a : total count (joined (map carrier ps) (block (x ∷ []))) ≡ totals count ps + total count (block (x ∷ [])) = total_joined ps (block (x ∷ [])) in
      let goal : total count (joined (map carrier ps) (block (x ∷ []))) ≡ totals count ps + n = omega arith in
      ap (λ b. total count b) (blocks_joined ps (x ∷ [])) ∙ goal
