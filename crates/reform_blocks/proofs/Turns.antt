-- A block is rewritten node by node, from its end.
use denote.Param.Weighed.{most, most-append}
use Rattle.std.proofs.Common.{◌≡◌, ◌≤◌, ℕ, List, [], ◌∷◌, ◌++◌, reverse, refl, sym, ap, ◌∙◌, arith}
use Rattle.std.proofs.lemmas.List.{reverse-append}
use Rattle.node_tree.specs.declared.node.Node.{Node}
use Rattle.node_tree.specs.Blocks as tree
use Rattle.node_tree.specs.Tree.{form, block}
use Rattle.node_tree.proofs.Direct.{block_append}
use Rattle.node_tree.specs.Blocks.{alone}
use Rattle.node_redirect.specs.Redirect.{redirect, redirect_form}

redirect_append : (t d : ℕ) (x y : tree.Block) → redirect t (tree.append x y) d ≡ tree.append (redirect t x d) (redirect t y d)
redirect_append t d tree.Stop y = refl
redirect_append t d (tree.Follow f x) y = ap (λ r. tree.Follow (redirect_form t f d) r) (redirect_append t d x y)

-- a statement moves from the end of one block to the head of the next
moved : (x : tree.Block) (f : tree.Form) (y : tree.Block) → tree.append (tree.append x (alone f)) y ≡ tree.append x (tree.Follow f y)
moved tree.Stop f y = refl
moved (tree.Follow g x) f y = ap (λ r. tree.Follow g r) (moved x f y)

pub first_turn : (b : tree.Block) (done : List Node) → done ≡ [] → tree.append b (block (reverse done)) ≡ b
first_turn b done e = ap (λ l. tree.append b (block (reverse l))) e ∙ whole b
  where
    whole : (x : tree.Block) → tree.append x tree.Stop ≡ x
    whole tree.Stop = refl
    whole (tree.Follow f x) = ap (λ r. tree.Follow f r) (whole x)

pub next_turn : (t d : ℕ) (left rest done more : List Node) (x y : Node) → left ≡ rest ++ x ∷ [] → more ≡ done ++ y ∷ [] → form y ≡ redirect_form t (form x) d → tree.append (redirect t (block rest) d) (block (reverse more)) ≡ tree.append (redirect t (block left) d) (block (reverse done))
next_turn t d left rest done more x y el em ey =
    ap (λ l. tree.append (redirect t (block rest) d) (block l)) (ap reverse em ∙ reverse-append done (y ∷ []))
    ∙ ap (λ f. tree.append (redirect t (block rest) d) (tree.Follow f (block (reverse done)))) ey
    ∙ sym (moved (redirect t (block rest) d) (redirect_form t (form x) d) (block (reverse done)))
    ∙ ap (λ b. tree.append b (block (reverse done))) (sym (redirect_append t d (block rest) (alone (form x))))
    ∙ ap (λ b. tree.append (redirect t b d) (block (reverse done))) (sym (ap block el ∙ block_append rest (x ∷ [])))

pub last_turn : (t d : ℕ) (left : List Node) (b whole : tree.Block) → left ≡ [] → tree.append (redirect t (block left) d) b ≡ whole → b ≡ whole
last_turn t d left b whole el e = ap (λ l. tree.append (redirect t (block l) d) b) (sym el) ∙ e

-- what is left of a list is no deeper
pub no_deeper : {X : Type 0} (depth : X → ℕ) (n : ℕ) (left rest : List X) (x : X) → left ≡ rest ++ x ∷ [] → most depth left ≤ n → most depth rest ≤ n
no_deeper depth n left rest x e l =
    let whole : most depth left ≡ most depth (rest ++ x ∷ []) = ap (most depth) e in
    let parts = most-append depth rest (x ∷ []) in
    omega (arith, whole, parts, l)
