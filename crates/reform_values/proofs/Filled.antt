-- What stands in displays, one after another.
use Rattle.std.proofs.Common.{◌≡◌, ℕ, ◌+◌, map, List, [], ◌∷◌, ◌++◌, refl, sym, ap, ◌∙◌}
use Rattle.op_forms.specs.declared.op.Op.TheVariants as op
use Rattle.node_tree.specs.Blocks as tree
use Rattle.node_tree.proofs.Direct.{append_stop}
use Rattle.carries_values.specs.Displays.{Item, One, Star, Entry, Pair, Merge, fill_block, enter_block, added_block, pair_block}
use Rattle.reform_values.specs.declared.displays.Item as code
use Rattle.reform_values.specs.declared.displays.Entry as codes
use Rattle.reform_values.specs.Filling.{item_of, entry_of}
use Rattle.reform_values.proofs.Joined.{append_block, mapped_last}

fill_append : (line t : ℕ) (xs ys : List Item) → fill_block line t (xs ++ ys) ≡ tree.append (fill_block line t xs) (fill_block line t ys)
fill_append line t [] ys = refl
fill_append line t (One p ∷ xs) ys =
    ap (λ b. added_block line t (t + 1) op.Push p b) (fill_append line t xs ys) ∙ sym (append_block p.block _ (fill_block line t ys))
fill_append line t (Star p ∷ xs) ys =
    ap (λ b. added_block line t (t + 1) op.Extend p b) (fill_append line t xs ys) ∙ sym (append_block p.block _ (fill_block line t ys))

enter_append : (line t : ℕ) (xs ys : List Entry) → enter_block line t (xs ++ ys) ≡ tree.append (enter_block line t xs) (enter_block line t ys)
enter_append line t [] ys = refl
enter_append line t (Pair k p ∷ xs) ys =
    ap (λ b. pair_block line t k p b) (enter_append line t xs ys)
    ∙ sym (append_block k.block (tree.append p.block _) (enter_block line t ys) ∙ ap (tree.append k.block) (append_block p.block _ (enter_block line t ys)))
enter_append line t (Merge p ∷ xs) ys =
    ap (λ b. added_block line t (t + 1) op.Merge p b) (enter_append line t xs ys) ∙ sym (append_block p.block _ (enter_block line t ys))

-- behind a block, one more
next_behind : {X : Type 0} (f : List X → tree.Block) → ((xs ys : List X) → f (xs ++ ys) ≡ tree.append (f xs) (f ys)) → (xs : List X) (x : X) (first b one c : tree.Block) → b ≡ tree.append first (f xs) → one ≡ f (x ∷ []) → c ≡ tree.append b one → c ≡ tree.append first (f (xs ++ x ∷ []))
next_behind f law xs x first b one c eb eo ec =
    ec ∙ ap (λ z. tree.append z one) eb ∙ append_block first (f xs) one ∙ ap (tree.append first) (ap (tree.append (f xs)) eo ∙ sym (law xs (x ∷ [])))

pub next_filled : (line t : ℕ) (is : List code.Item) (i : code.Item) (first b one c : tree.Block) → b ≡ tree.append first (fill_block line t (map item_of is)) → one ≡ fill_block line t (item_of i ∷ []) → c ≡ tree.append b one → c ≡ tree.append first (fill_block line t (map item_of (is ++ i ∷ [])))
next_filled line t is i first b one c eb eo ec =
    next_behind (fill_block line t) (fill_append line t) (map item_of is) (item_of i) first b one c eb eo ec
    ∙ ap (λ l. tree.append first (fill_block line t l)) (sym (mapped_last item_of is i))

pub next_entered : (line t : ℕ) (es : List codes.Entry) (e : codes.Entry) (first b one c : tree.Block) → b ≡ tree.append first (enter_block line t (map entry_of es)) → one ≡ enter_block line t (entry_of e ∷ []) → c ≡ tree.append b one → c ≡ tree.append first (enter_block line t (map entry_of (es ++ e ∷ [])))
next_entered line t es e first b one c eb eo ec =
    next_behind (enter_block line t) (enter_append line t) (map entry_of es) (entry_of e) first b one c eb eo ec
    ∙ ap (λ l. tree.append first (enter_block line t l)) (sym (mapped_last entry_of es e))

pub none_behind : (b : tree.Block) → b ≡ tree.append b tree.Stop
none_behind b = sym (append_stop b)
