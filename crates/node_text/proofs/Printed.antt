-- Lists that are written one after another.
use Rattle.std.proofs.Common.{◌≡◌, ℕ, List, [], ◌∷◌, ◌++◌, sym, ◌∙◌, ap, subst, append_assoc, decimal, OnOk, Result}
use Rattle.std.specs.Prelude.{codes}
use Rattle.nu_text.specs.Pieces.{joined}
use Rattle.nu_text.proofs.Pieces.{before_is}
use Rattle.code_forms.specs.declared.operand.Operand.{Operand}
use Rattle.c_emit.proofs.Pushes.{numbered_drop}
use Rattle.node_tree.specs.declared.node.Node.{Node, If, Loop, Catch}
use Rattle.node_tree.proofs.Forms.{form_if, form_loop, form_catch}
use Rattle.node_tree.specs.Blocks as tree
use Rattle.node_tree.specs.Tree.{form, block}
use Rattle.node_text.specs.Text.{operand_text, inner, form_text, block_text}

-- a first line, and blocks with a word behind each
one_block : (t one two head b indent : List ℕ) → one ≡ t ++ head → two ≡ one ++ b → two ++ joined (indent ∷ codes "end\n" ∷ []) ≡ t ++ (head ++ joined (b ∷ indent ∷ codes "end\n" ∷ []))
one_block t one two head b indent p q =
    ap (λ l. l ++ joined (indent ∷ codes "end\n" ∷ [])) (q ∙ ap (λ l. l ++ b) p) ∙ append_assoc (t ++ head) b (joined (indent ∷ codes "end\n" ∷ [])) ∙ append_assoc t head (b ++ joined (indent ∷ codes "end\n" ∷ []))

two_blocks : (t one two three four head b c indent word : List ℕ) → one ≡ t ++ head → two ≡ one ++ b → three ≡ two ++ joined (indent ∷ word ∷ []) → four ≡ three ++ c
    → four ++ joined (indent ∷ codes "end\n" ∷ []) ≡ t ++ (head ++ joined (b ∷ indent ∷ word ∷ c ∷ indent ∷ codes "end\n" ∷ []))
two_blocks t one two three four head b c indent word p q r s =
    let last = joined (indent ∷ codes "end\n" ∷ []) in
    let middle = joined (indent ∷ word ∷ []) in
    ap (λ l. l ++ last) (s ∙ ap (λ l. l ++ c) (r ∙ ap (λ l. l ++ middle) (q ∙ ap (λ l. l ++ b) p)))
    ∙ append_assoc (((t ++ head) ++ b) ++ middle) c last ∙ append_assoc ((t ++ head) ++ b) middle (c ++ last) ∙ append_assoc (t ++ head) b (middle ++ (c ++ last)) ∙ append_assoc t head (b ++ (middle ++ (c ++ last)))
    ∙ ap (λ l. t ++ (head ++ (b ++ l))) (before_is (indent ∷ word ∷ []) (c ++ last))

pub printed_if : {E A : Type 0} (r : Result A E) (t one two three four all indent within : List ℕ) (test : Operand) (ys zs first second : List Node) (node : Node) → one ≡ t ++ joined (codes "if " ∷ operand_text test ∷ codes "\n" ∷ []) → two ≡ one ++ block_text within (block ys)
    → three ≡ two ++ joined (indent ∷ codes "else\n" ∷ []) → four ≡ three ++ block_text within (block zs) → OnOk r (all ≡ four ++ joined (indent ∷ codes "end\n" ∷ [])) → within ≡ inner indent → ys ≡ first → zs ≡ second → node ≡ If test first second → OnOk r (all ≡ t ++ form_text indent (form node))
printed_if r t one two three four all indent within test ys zs first second node p q s u h w y z n =
    let head = joined (codes "if " ∷ operand_text test ∷ codes "\n" ∷ []) in
    let e = two_blocks t one two three four head (block_text within (block ys)) (block_text within (block zs)) indent (codes "else\n") p q s u
    ∙ ap (λ l. t ++ (head ++ joined (block_text l (block ys) ∷ indent ∷ codes "else\n" ∷ block_text l (block zs) ∷ indent ∷ codes "end\n" ∷ []))) w
    ∙ ap (λ l. t ++ form_text indent (tree.If test (block l) (block zs))) y ∙ ap (λ l. t ++ form_text indent (tree.If test (block first) (block l))) z
    ∙ ap (λ x. t ++ form_text indent x) (sym (form_if test first second) ∙ ap form (sym n)) in
    subst (λ l. OnOk r (all ≡ l)) e h

pub printed_catch : {E A : Type 0} (r : Result A E) (t one two three four all indent within : List ℕ) (to : ℕ) (ys zs first second : List Node) (node : Node) → one ≡ t ++ joined (codes "catch t" ∷ decimal to ∷ codes "\n" ∷ []) → two ≡ one ++ block_text within (block ys)
    → three ≡ two ++ joined (indent ∷ codes "handler\n" ∷ []) → four ≡ three ++ block_text within (block zs) → OnOk r (all ≡ four ++ joined (indent ∷ codes "end\n" ∷ [])) → within ≡ inner indent → ys ≡ first → zs ≡ second → node ≡ Catch to first second → OnOk r (all ≡ t ++ form_text indent (form node))
printed_catch r t one two three four all indent within to ys zs first second node p q s u h w y z n =
    let head = joined (codes "catch t" ∷ decimal to ∷ codes "\n" ∷ []) in
    let e = two_blocks t one two three four head (block_text within (block ys)) (block_text within (block zs)) indent (codes "handler\n") p q s u
    ∙ ap (λ l. t ++ (head ++ joined (block_text l (block ys) ∷ indent ∷ codes "handler\n" ∷ block_text l (block zs) ∷ indent ∷ codes "end\n" ∷ []))) w
    ∙ ap (λ l. t ++ form_text indent (tree.Catch to (block l) (block zs))) y ∙ ap (λ l. t ++ form_text indent (tree.Catch to (block first) (block l))) z
    ∙ ap (λ x. t ++ form_text indent x) (sym (form_catch to first second) ∙ ap form (sym n)) in
    subst (λ l. OnOk r (all ≡ l)) e h

pub printed_loop : {E A : Type 0} (r : Result A E) (t one two all indent within : List ℕ) (ys body : List Node) (node : Node) → one ≡ t ++ codes "loop\n" → two ≡ one ++ block_text within (block ys) → OnOk r (all ≡ two ++ joined (indent ∷ codes "end\n" ∷ [])) → within ≡ inner indent → ys ≡ body → node ≡ Loop body
    → OnOk r (all ≡ t ++ form_text indent (form node))
printed_loop r t one two all indent within ys body node p q h w y n =
    let e = one_block t one two (codes "loop\n") (block_text within (block ys)) indent p q
    ∙ ap (λ l. t ++ (codes "loop\n" ++ joined (block_text l (block ys) ∷ indent ∷ codes "end\n" ∷ []))) w
    ∙ ap (λ l. t ++ form_text indent (tree.Loop (block l))) y ∙ ap (λ x. t ++ form_text indent x) (sym (form_loop body) ∙ ap form (sym n)) in
    subst (λ l. OnOk r (all ≡ l)) e h

pub ruleset sequences = (numbered_drop, append_assoc)
