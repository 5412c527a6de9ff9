-- The items of a list, one after another.
use Rattle.std.proofs.Common.{◌≡◌, ℕ, ◌+◌, map, length, List, [], ◌∷◌, ◌++◌, refl, sym, ap, ◌∙◌, arith}
use Rattle.std.proofs.lemmas.List.{length-map}
use Rattle.op_forms.specs.declared.op.Op.TheVariants as op
use Rattle.code_forms.specs.declared.operand.Argument.TheVariants as argument
use Rattle.code_forms.specs.declared.operand.Operand.{Operand}
use Rattle.code_forms.specs.declared.operand.Operand.TheVariants as operand
use Rattle.node_tree.specs.Blocks.{alone, of_temp}
use Rattle.node_tree.specs.Blocks as tree
use Rattle.node_tree.proofs.Direct.{append_stop}
use Rattle.carries_targets.specs.Places as targets
use Rattle.carries_targets.specs.Targets.{numeral, items_block}
use Rattle.carries_definitions.proofs.Decorated.{append_again}
use Rattle.carried_codes.specs.Places.{Places, NoPlace, Also, count, takes, assign, assign_each, assign_starred}
use Rattle.carried_codes.specs.Places as places
use Rattle.reform_targets.specs.declared.unpacking.Taker.{Taker}
use Rattle.reform_targets.specs.Takers.{taker_of, taking}

abbrev take_block : ℕ → ℕ → ℕ → targets.Taker → tree.Block
take_block line list n k = tree.Follow (tree.Do k.item line op.Index (of_temp list ∷ numeral n ∷ [])) k.block

items_last : (line list n m : ℕ) (ks : List Taker) (k : Taker) → m ≡ n + length ks → items_block line list n (map taker_of (ks ++ k ∷ [])) tree.Stop ≡ tree.append (items_block line list n (map taker_of ks) tree.Stop) (take_block line list m (taker_of k))
items_last line list n m [] k e =
    let same : n ≡ m = omega (arith, e) in
    ap (λ i. items_block line list i (taker_of k ∷ []) tree.Stop) same ∙ append_stop (take_block line list m (taker_of k))
items_last line list n m (j ∷ ks) k e =
    ap (λ b. items_block line list n (taker_of j ∷ []) b) (items_last line list (n + 1) m ks k (omega (arith, e)))
    ∙ sym (append_again (take_block line list n (taker_of j)) (items_block line list (n + 1) (map taker_of ks) tree.Stop) (take_block line list m (taker_of k)))

pub first_items : (b : tree.Block) → b ≡ tree.append b tree.Stop
first_items b = sym (append_stop b)

pub next_items : (line list n at : ℕ) (ks : List Taker) (k : Taker) (first whole one more : tree.Block) → whole ≡ tree.append first (items_block line list n (map taker_of ks) tree.Stop) → at ≡ n + length ks → one ≡ take_block line list at (taker_of k) → more ≡ tree.append whole one → more ≡ tree.append first (items_block line list n (map taker_of (ks ++ k ∷ [])) tree.Stop)
next_items line list n at ks k first whole one more ew ea eo em =
    let all = items_block line list n (map taker_of ks) tree.Stop in
    em ∙ ap (λ b. tree.append b one) ew ∙ append_again first all one ∙ ap (λ b. tree.append first (tree.append all b)) eo
    ∙ ap (tree.append first) (sym (items_last line list n at ks k ea))

pub next_number : (n at more : ℕ) (ks : List Taker) (k : Taker) → at ≡ n + length ks → more ≡ at + 1 → more ≡ n + length (ks ++ k ∷ [])
next_number n at more ks k ea em = let longer = counted ks k in omega (arith, ea, em, longer)
  where
    counted : (xs : List Taker) (x : Taker) → length (xs ++ x ∷ []) ≡ length xs + 1
    counted [] x = refl
    counted (y ∷ xs) x = let h : length (xs ++ x ∷ []) ≡ length xs + 1 = counted xs x in omega (arith, h)

items_onto : (line list n : ℕ) (ks : List targets.Taker) (last : tree.Block) → items_block line list n ks last ≡ tree.append (items_block line list n ks tree.Stop) last
items_onto line list n [] last = refl
items_onto line list n (k ∷ ks) last =
    ap (λ b. items_block line list n (k ∷ []) b) (items_onto line list (n + 1) ks last)
    ∙ sym (append_again (take_block line list n k) (items_block line list (n + 1) ks tree.Stop) last)

-- with the star between
pub starred : (line list i j n m next : ℕ) (o : Operand) (ps : List targets.Taker) (p : targets.Taker) (qs : List targets.Taker) (first before star middle whole : tree.Block) → i ≡ n → j ≡ m → next ≡ i + 1 → first ≡ alone (tree.Do list line op.UnpackStar (argument.Value o ∷ numeral i ∷ numeral j ∷ [])) → before ≡ tree.append first (items_block line list 0 ps tree.Stop) → star ≡ take_block line list i p → middle ≡ tree.append before star → whole ≡ tree.append middle (items_block line list next qs tree.Stop) → whole ≡ assign_starred line n m ps p qs o list
unfolding assign_starred
starred line list i j n m next o ps p qs first before star middle whole ei ej en ef eb es em ew =
    let head = tree.Do list line op.UnpackStar (argument.Value o ∷ numeral i ∷ numeral j ∷ []) in
    let all = items_block line list 0 ps tree.Stop in
    let last = items_block line list (i + 1) qs tree.Stop in
    ew ∙ ap (λ k. tree.append middle (items_block line list k qs tree.Stop)) en
    ∙ ap (λ b. tree.append b last) (em ∙ ap (tree.append before) es ∙ ap (λ b. tree.append b (take_block line list i p)) (eb ∙ ap (λ b. tree.append b all) ef))
    ∙ ap (λ b. tree.Follow head b) (append_again all (take_block line list i p) last ∙ sym (items_onto line list 0 ps (items_block line list i (p ∷ []) last)))
    ∙ ap (λ x. assign_starred line x j ps p qs o list) ei ∙ ap (λ x. assign_starred line n x ps p qs o list) ej

-- as many items as targets
takes_count : (t : ℕ) (ps : Places) → length (takes t ps).parts ≡ count ps
takes_count t NoPlace = refl
takes_count t (Also p ps) =
    let u = (assign (t + 1) (operand.Temp t) p).next in
    let h : length (takes u ps).parts ≡ count ps = takes_count u ps in
    omega (arith, h)

taken_count : (t : ℕ) (ps : Places) (ks : List Taker) → map taker_of ks ≡ (takes t ps).parts → length ks ≡ count ps
taken_count t ps ks e = sym (length-map ks taker_of) ∙ ap length e ∙ takes_count t ps

-- A list of targets

pub each_block_is : (t : ℕ) (o : Operand) (p : places.Place) (line : ℕ) (ps : Places) (ks : List Taker) (b : tree.Block) → p ≡ places.Each line ps → map taker_of ks ≡ (takes (t + 1) ps).parts → b ≡ assign_each line (length ks) (map taker_of ks) o t → b ≡ (assign t o p).block
each_block_is t o p line ps ks b ep ek eb =
    eb ∙ ap (λ n. assign_each line n (map taker_of ks) o t) (taken_count (t + 1) ps ks ek) ∙ ap (λ l. assign_each line (count ps) l o t) ek
    ∙ sym (ap (λ q. (assign t o q).block) ep)

pub each_next_is : (t : ℕ) (o : Operand) (p : places.Place) (line : ℕ) (ps : Places) (u : ℕ) → p ≡ places.Each line ps → u ≡ (takes (t + 1) ps).next → u ≡ (assign t o p).next
each_next_is t o p line ps u ep eu = eu ∙ sym (ap (λ q. (assign t o q).next) ep)

pub starred_block_is : (t v w : ℕ) (o : Operand) (p : places.Place) (line : ℕ) (ps : Places) (star : places.Place) (qs : Places) (ks : List Taker) (k : Taker) (js : List Taker) (b : tree.Block) → p ≡ places.Starred line ps star qs → map taker_of ks ≡ (takes (t + 1) ps).parts → v ≡ (takes (t + 1) ps).next → taker_of k ≡ taking v star → w ≡ (assign (v + 1) (operand.Temp v) star).next → map taker_of js ≡ (takes w qs).parts → b ≡ assign_starred line (length ks) (length js) (map taker_of ks) (taker_of k) (map taker_of js) o t → b ≡ (assign t o p).block
starred_block_is t v w o p line ps star qs ks k js b ep ek ev em ew ej eb =
    let x = (takes (t + 1) ps).next in
    let y = (assign (x + 1) (operand.Temp x) star).next in
    let ew' : w ≡ y = ew ∙ ap (λ i. (assign (i + 1) (operand.Temp i) star).next) ev in
    let ej' : map taker_of js ≡ (takes y qs).parts = ej ∙ ap (λ i. (takes i qs).parts) ew' in
    eb ∙ ap (λ n. assign_starred line n (length js) (map taker_of ks) (taker_of k) (map taker_of js) o t) (taken_count (t + 1) ps ks ek)
    ∙ ap (λ n. assign_starred line (count ps) n (map taker_of ks) (taker_of k) (map taker_of js) o t) (taken_count y qs js ej')
    ∙ ap (λ l. assign_starred line (count ps) (count qs) l (taker_of k) (map taker_of js) o t) ek
    ∙ ap (λ z. assign_starred line (count ps) (count qs) (takes (t + 1) ps).parts z (map taker_of js) o t) (em ∙ ap (λ i. taking i star) ev)
    ∙ ap (λ l. assign_starred line (count ps) (count qs) (takes (t + 1) ps).parts (taking x star) l o t) ej'
    ∙ sym (ap (λ q. (assign t o q).block) ep)

pub starred_next_is : (t v w u : ℕ) (o : Operand) (p : places.Place) (line : ℕ) (ps : Places) (star : places.Place) (qs : Places) → p ≡ places.Starred line ps star qs → v ≡ (takes (t + 1) ps).next → w ≡ (assign (v + 1) (operand.Temp v) star).next → u ≡ (takes w qs).next → u ≡ (assign t o p).next
starred_next_is t v w u o p line ps star qs ep ev ew eu =
    eu ∙ ap (λ i. (takes i qs).next) (ew ∙ ap (λ i. (assign (i + 1) (operand.Temp i) star).next) ev) ∙ sym (ap (λ q. (assign t o q).next) ep)
