-- Two blocks, one after another, are one block.
use Rattle.std.proofs.Common.{◌≡◌, ℕ, List, [], ◌∷◌, ◌++◌, refl, sym, ap, ◌∙◌, subst, append_assoc, append-nil}
use Rattle.nu_value.specs.declared.value.Value.{Value}
use Rattle.nu_value.specs.declared.value.Value.TheVariants as value
use Rattle.nu_rows.specs.Rows.{End, Next, Step, First, Second, How, Start, Begin, Back, Res, Spent, Paused, Ended, Row, Then, shift, after, before, interp, run, does}
use Rattle.nu_rows.specs.Words.{on_next}
use Rattle.nu_rows.specs.Sim.{Places, Ends, Below, other_places, other_ends, Both, Sim}
use Rattle.node_tree.specs.Blocks.{Block, Stop, Follow, append}
use Rattle.node_tree.specs.Nodes.{Item, R, L, followed, form_row, block_row, item_row}
use Rattle.carries_base.specs.Carries.{T}

-- the place among two blocks of a place in the one block
abbrev pub hoist : End → List Step → List Step
hoist e [] = []
hoist e (First ∷ r) = First ∷ Second e ∷ r
hoist e (Second e' ∷ r) = Second e' ∷ r

-- a place behind a first node, where f is the place among two blocks of a place in what follows it
abbrev pub beside : (List Step → List Step) → List Step → List Step
beside f [] = []
beside f (First ∷ q) = First ∷ First ∷ q
beside f (Second (Next v) ∷ q) = hoist (Next v) (f q)
beside f (Second e ∷ q) = []

abbrev pub split : Block → List Step → List Step
split Stop q = Second (Next value.None) ∷ q
split (Follow x r) q = beside (split r) q

abbrev pub relocate : {S : Type 0} → (List Step → List Step) → Res S → Res S
relocate f (Spent o) = Spent o
relocate f (Paused o s v p) = Paused o s v (f p)
relocate f (Ended o s e) = Ended o s e

abbrev pub relocate_start : (List Step → List Step) → Start → Start
relocate_start f Begin = Begin
relocate_start f (Back p how) = Back (f p) how

relocate_step : (x : Step) (r : Res T) → relocate (λ q. x ∷ q) r ≡ shift [] x r
relocate_step x (Spent o) = refl
relocate_step x (Paused o s v p) = refl
relocate_step x (Ended o s e) = refl

beside_shift : (f : List Step → List Step) (o : List ℕ) (v : Value) (r : Res T) → relocate (beside f) (shift o (Second (Next v)) r) ≡ relocate (λ q. hoist (Next v) q) (before o (relocate f r))
beside_shift f o v (Spent p) = refl
beside_shift f o v (Paused p s w q) = refl
beside_shift f o v (Ended p s e) = refl

hoist_ended : (e e' : End) (o p : List ℕ) (r : Res T) → relocate (λ q. hoist e q) (before o (shift p (Second e') r)) ≡ shift (o ++ p) (Second e') r
hoist_ended e e' o p (Spent a) = ap (λ u. Spent u) (sym (append_assoc o p a))
hoist_ended e e' o p (Paused a s v q) = ap (λ u. Paused u s v (Second e' ∷ q)) (sym (append_assoc o p a))
hoist_ended e e' o p (Ended a s e'') = ap (λ u. Ended u s e'') (sym (append_assoc o p a))

hoist_after : (e : End) (o : List ℕ) (r : Res T) (g : End → T → Res T) → relocate (λ q. hoist e q) (before o (after r g)) ≡ after (shift o (Second e) r) g
hoist_after e o (Spent p) g = refl
hoist_after e o (Paused p s v q) g = refl
hoist_after e o (Ended p s e') g = hoist_ended e e' o p (g e' s)

module _ (rec : Item → Start → T → Res T) (last : R) where
  abbrev next_block : End → T → Res T
  next_block e u = interp rec (on_next (λ w. last) e) Begin u

  abbrev two : R → R
  two x = Then x (on_next (λ w. last))

  -- whatever the first row x is, if `whole` is `rest` and then `last`, `x; whole` is `x; rest` and then `last`
  module _ (x rest whole : R) (f : List Step → List Step) (ih : (start : Start) (t : T) → relocate f (interp rec whole start t) ≡ interp rec (two rest) (relocate_start f start) t) where
    hoist_back : (v : Value) (how : How) (t : T) (z : List Step) → relocate (λ q. hoist (Next v) q) (before [] (interp rec (two rest) (Back z how) t)) ≡ interp rec (two (followed x rest)) (Back (hoist (Next v) z) how) t
    hoist_back v how t [] = refl
    hoist_back v how t (First ∷ r) = hoist_after (Next v) [] (interp rec rest (Back r how) t) next_block
    hoist_back v how t (Second e ∷ r) = hoist_ended (Next v) e [] [] (interp rec (on_next (λ w. last) e) (Back r how) t)

    join_at : (r : Res T) → relocate (beside f) (after r (λ e u. interp rec (on_next (λ w. whole) e) Begin u)) ≡ after (after r (λ e u. interp rec (on_next (λ w. rest) e) Begin u)) next_block
    join_at (Spent o) = refl
    join_at (Paused o s v p) = refl
    join_at (Ended o s (Next v)) =
        beside_shift f o v (interp rec whole Begin s)
        ∙ ap (λ u. relocate (λ q. hoist (Next v) q) (before o u)) (ih Begin s)
        ∙ hoist_after (Next v) o (interp rec rest Begin s) next_block
    join_at (Ended o s e) = ap (λ u. Ended u s e) (sym (append-nil (o ++ [])))

    beside_joined : (start : Start) (t : T) → relocate (beside f) (interp rec (followed x whole) start t) ≡ interp rec (two (followed x rest)) (relocate_start (beside f) start) t
    beside_joined Begin t = join_at (interp rec x Begin t)
    beside_joined (Back [] how) t = refl
    beside_joined (Back (First ∷ p) how) t = join_at (interp rec x (Back p how) t)
    beside_joined (Back (Second (Next v) ∷ p) how) t =
        beside_shift f [] v (interp rec whole (Back p how) t)
        ∙ ap (λ u. relocate (λ q. hoist (Next v) q) (before [] u)) (ih (Back p how) t)
        ∙ hoist_back v how t (f p)
    beside_joined (Back (Second e ∷ p) how) t = refl

  pub joined : (l : L) (ys : Block) → last ≡ block_row l ys → (xs : Block) (start : Start) (t : T) → relocate (split xs) (interp rec (block_row l (append xs ys)) start t) ≡ interp rec (two (block_row l xs)) (relocate_start (split xs) start) t
  joined l ys e Stop Begin t = relocate_step (Second (Next value.None)) (interp rec (block_row l ys) Begin t) ∙ ap (λ u. shift [] (Second (Next value.None)) (interp rec u Begin t)) (sym e)
  joined l ys e Stop (Back p how) t = relocate_step (Second (Next value.None)) (interp rec (block_row l ys) (Back p how) t) ∙ ap (λ u. shift [] (Second (Next value.None)) (interp rec u (Back p how) t)) (sym e)
  joined l ys e (Follow x r) start t = beside_joined (form_row l x) (block_row l r) (block_row l (append r ys)) (split r) (joined l ys e r) start t

below_from : {S : Type 0} (f : List Step → List Step) (P : Places S T) (Q : Ends S T) (r : Res S) (c : Res T) → Below P Q r (relocate f c) → Below (λ p s q t. P p s (f q) t) Q r c
below_from f P Q (Spent o) (Spent o') h = h
below_from f P Q (Spent o) (Paused o' t v q) h = h
below_from f P Q (Spent o) (Ended o' t e) h = h
below_from f P Q (Paused o s v p) (Spent o') h = absurd h
below_from f P Q (Paused o s v p) (Paused o' t w q) h = h
below_from f P Q (Paused o s v p) (Ended o' t e) h = absurd h
below_from f P Q (Ended o s e) (Spent o') h = absurd h
below_from f P Q (Ended o s e) (Paused o' t w q) h = absurd h
below_from f P Q (Ended o s e) (Ended o' t e') h = h

back_from : {S : Type 0} (f : List Step → List Step) (P : Places S T) (Q : Ends S T) (c : Res T) (r : Res S) → Below (other_places P) (other_ends Q) (relocate f c) r → Below (λ q t p s. P p s (f q) t) (other_ends Q) c r
back_from f P Q (Spent o) r h = h
back_from f P Q (Paused o t v q) (Spent o') h = absurd h
back_from f P Q (Paused o t v q) (Paused o' s w p) h = h
back_from f P Q (Paused o t v q) (Ended o' s e) h = absurd h
back_from f P Q (Ended o t e') (Spent o') h = absurd h
back_from f P Q (Ended o t e') (Paused o' s w p) h = absurd h
back_from f P Q (Ended o t e') (Ended o' s e) h = h

-- what carries two blocks, one after the other, carries their concatenation
pub sim_append : {S I : Type 0} (l : L) (code : ℕ → Block) (rows : I → Row S I) (L : ℕ) (P : Places S T) (Pre : S → T → Type 0) (Q : Ends S T) (r : Row S I) (xs ys : Block) → Sim rows (item_row l code) L P Pre Q r (Then (block_row l xs) (on_next (λ w. block_row l ys))) → Sim rows (item_row l code) L (λ p s q t. P p s (split xs q) t) Pre Q r (block_row l (append xs ys))
sim_append l code rows L P Pre Q r xs ys h = record {
  begins = λ s t pre. both Begin Begin s t (h.begins s t pre);
  goes_on = λ p q how s t x. both (Back p how) (Back q how) s t (h.goes_on p (split xs q) how s t x);
}
  where
    both : (from to : Start) (s : _) (t : T) → Both L P Q (does rows r from s) (does (item_row l code) (Then (block_row l xs) (on_next (λ w. block_row l ys))) (relocate_start (λ q. split xs q) to) t) → Both L (λ p s q t. P p s (split xs q) t) Q (does rows r from s) (does (item_row l code) (block_row l (append xs ys)) to t)
    both from to s t b = record {
      there = λ n le. let a = b.there n le in (a.0, below_from (λ q. split xs q) P Q (does rows r from s n) (does (item_row l code) (block_row l (append xs ys)) to t a.0) (subst (λ u. Below P Q (does rows r from s n) u) (sym (joined (run (item_row l code) a.0) (block_row l ys) l ys refl xs to t)) a.1));
      back = λ n le. let a = b.back n le in (a.0, back_from (λ q. split xs q) P Q (does (item_row l code) (block_row l (append xs ys)) to t n) (does rows r from s a.0) (subst (λ u. Below (other_places P) (other_ends Q) u (does rows r from s a.0)) (sym (joined (run (item_row l code) n) (block_row l ys) l ys refl xs to t)) a.1));
    }
