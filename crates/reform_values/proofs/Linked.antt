-- The comparisons of a chain, from the first to the last, and nested from the last to the first.
use Rattle.std.proofs.Common.{◌≡◌, ℕ, ◌+◌, map, List, [], ◌∷◌, ◌++◌, refl, sym, ap, ◌∙◌}
use Rattle.code_forms.specs.declared.operand.Operand.{Operand}
use Rattle.code_forms.specs.declared.operand.Operand.TheVariants as operand
use Rattle.node_tree.specs.declared.node.Node.{Node}
use Rattle.node_tree.specs.Blocks as tree
use Rattle.node_tree.specs.Tree.{block}
use Rattle.carries_base.specs.Carries.{Carrier}
use Rattle.carries_values.specs.Choices.{Linked, compared_block, further_block, links_block}
use Rattle.carried_codes.specs.Parts.{Valued, valued}
use Rattle.carried_codes.specs.Expressions as expressions
use Rattle.reform_values.specs.declared.chains.Link.{Link}
use Rattle.reform_values.specs.Linking.{linked_of, step_block, step_blocks, last_value, nested}
use Rattle.reform_values.proofs.Joined.{append_block}

-- one link more
steps_last : (line t : ℕ) (a : Operand) (ls : List Link) (l : Link) → step_blocks line t a (map linked_of (ls ++ l ∷ [])) ≡ step_blocks line t a (map linked_of ls) ++ step_block line t (last_value a (map linked_of ls)) (linked_of l) ∷ []
steps_last line t a [] l = refl
steps_last line t a (k ∷ ls) l = ap (λ bs. step_block line t a (linked_of k) ∷ bs) (steps_last line t k.right.value ls l)

value_last : (a : Operand) (ls : List Link) (l : Link) → last_value a (map linked_of (ls ++ l ∷ [])) ≡ l.right.value
value_last a [] l = refl
value_last a (k ∷ ls) l = value_last k.right.value ls l

blocks_last : (bs : List (List Node)) (b : List Node) → map block (bs ++ b ∷ []) ≡ map block bs ++ block b ∷ []
blocks_last [] b = refl
blocks_last (c ∷ bs) b = ap (λ l. block c ∷ l) (blocks_last bs b)

pub next_steps : (line t : ℕ) (a left : Operand) (ls : List Link) (l : Link) (bs cs : List (List Node)) (b : List Node) → map block bs ≡ step_blocks line t a (map linked_of ls) → left ≡ last_value a (map linked_of ls) → block b ≡ step_block line t left (linked_of l) → cs ≡ bs ++ b ∷ [] → map block cs ≡ step_blocks line t a (map linked_of (ls ++ l ∷ []))
next_steps line t a left ls l bs cs b es ev eb ec =
    ap (map block) ec ∙ blocks_last bs b ∙ ap (λ x. x ++ block b ∷ []) es
    ∙ ap (λ x. step_blocks line t a (map linked_of ls) ++ x ∷ []) (eb ∙ ap (λ v. step_block line t v (linked_of l)) ev)
    ∙ sym (steps_last line t a ls l)

pub next_value : (a : Operand) (ls : List Link) (l : Link) (right : Operand) → right ≡ l.right.value → right ≡ last_value a (map linked_of (ls ++ l ∷ []))
next_value a ls l right e = e ∙ sym (value_last a ls l)

-- the last of two comes behind the other
nested_two : (line t : ℕ) (bs : List tree.Block) (b c : tree.Block) → nested line t (bs ++ tree.append b (further_block line t c) ∷ []) ≡ nested line t (bs ++ b ∷ c ∷ [])
nested_two line t [] b c = refl
nested_two line t (a ∷ []) b c = refl
nested_two line t (a ∷ d ∷ bs) b c = ap (λ x. tree.append a (further_block line t x)) (nested_two line t (d ∷ bs) b c)

two_more : (bs : List (List Node)) (b : List Node) (c : tree.Block) → map block (bs ++ b ∷ []) ++ c ∷ [] ≡ map block bs ++ block b ∷ c ∷ []
two_more [] b c = refl
two_more (a ∷ bs) b c = ap (λ l. block a ∷ l) (two_more bs b c)

-- the blocks that are left, and what is nested already
pub next_nested : (line t : ℕ) (left less : List (List Node)) (b rest more : List Node) → left ≡ less ++ b ∷ [] → block more ≡ tree.append (block b) (further_block line t (block rest)) → nested line t (map block less ++ block more ∷ []) ≡ nested line t (map block left ++ block rest ∷ [])
next_nested line t left less b rest more el em =
    ap (λ x. nested line t (map block less ++ x ∷ [])) em ∙ nested_two line t (map block less) (block b) (block rest)
    ∙ ap (nested line t) (sym (ap (λ l. map block l ++ block rest ∷ []) el ∙ two_more less b (block rest)))

pub first_nested : (line t : ℕ) (bs : List (List Node)) (b : List Node) → nested line t (map block bs ++ block b ∷ []) ≡ nested line t (map block (bs ++ b ∷ []))
first_nested line t bs b = ap (nested line t) (sym (blocks_last bs b))

pub last_nested : (line t : ℕ) (left : List (List Node)) (b : List Node) (whole : tree.Block) → left ≡ [] → nested line t (map block left ++ block b ∷ []) ≡ whole → block b ≡ whole
last_nested line t left b whole el e = ap (λ l. nested line t (map block l ++ block b ∷ [])) (sym el) ∙ e

-- the links of the law
links_nested : (line t : ℕ) (a : Operand) (xs : List Linked) → links_block line t a xs ≡ nested line t (step_blocks line t a xs)
links_nested line t a [] = refl
links_nested line t a (x ∷ []) = refl
links_nested line t a (x ∷ y ∷ xs) =
    sym (append_block x.right.block (compared_block line t x.op x.negated a x.right.value) (further_block line t (links_block line t x.right.value (y ∷ xs))))
    ∙ ap (λ b. tree.append (step_block line t a x) (further_block line t b)) (links_nested line t x.right.value (y ∷ xs))

pub chained : (line t : ℕ) (p : Carrier) (xs : List Linked) (whole rest : tree.Block) (bs : List tree.Block) → whole ≡ tree.append p.block rest → rest ≡ nested line t bs → bs ≡ step_blocks line t p.value xs → valued whole (operand.Temp t) (t + 2) ≡ expressions.chain line p xs t
unfolding expressions.chain
chained line t p xs whole rest bs ew er eb =
    ap (λ b. valued b (operand.Temp t) (t + 2))
    (ew ∙ ap (tree.append p.block) (er ∙ ap (nested line t) eb ∙ sym (links_nested line t p.value xs)))
