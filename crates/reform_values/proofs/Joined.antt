-- Parts one after another, and what is done with their values.
use Rattle.std.proofs.Common.{◌≡◌, ℕ, suc, ◌+◌, length, map, Bool, List, [], ◌∷◌, ◌++◌, refl, sym, ap, ◌∙◌}
use Rattle.op_forms.specs.declared.op.Op.{Op}
use Rattle.op_forms.specs.declared.signature.ArgumentKind.{ArgumentKind}
use Rattle.code_forms.specs.declared.operand.Argument.TheVariants as argument
use Rattle.code_forms.specs.declared.operand.Operand.{Operand}
use Rattle.code_forms.specs.declared.operand.Operand.TheVariants as operand
use Rattle.node_tree.specs.Blocks.{alone}
use Rattle.node_tree.specs.Blocks as tree
use Rattle.node_tree.specs.Tree.{block}
use Rattle.node_tree.proofs.Direct.{append_stop}
use Rattle.carries_base.specs.Carries.{Carrier, joined}
use Rattle.carried_codes.specs.Operations.{is_name, argument_of, given, does}
use Rattle.carried_codes.specs.Parts.{Valued, valued}
use Rattle.carried_codes.specs.Expressions as expressions
use Rattle.reform_base.specs.declared.Part.{Part}
use Rattle.reform_blocks.specs.Parts.{carrier}
use Rattle.reform_values.specs.Names.{names_at}

pub append_block : (x y z : tree.Block) → tree.append (tree.append x y) z ≡ tree.append x (tree.append y z)
append_block tree.Stop y z = refl
append_block (tree.Follow f x) y z = ap (λ r. tree.Follow f r) (append_block x y z)

pub joined_append : (ps : List Carrier) (b c : tree.Block) → tree.append (joined ps b) c ≡ joined ps (tree.append b c)
joined_append [] b c = refl
joined_append (p ∷ ps) b c = append_block p.block (joined ps b) c ∙ ap (tree.append p.block) (joined_append ps b c)

joined_last : (ps : List Part) (p : Part) → joined (map carrier (ps ++ p ∷ [])) tree.Stop ≡ tree.append (joined (map carrier ps) tree.Stop) (block p.block)
joined_last [] p = append_stop (block p.block)
joined_last (q ∷ ps) p = ap (tree.append (block q.block)) (joined_last ps p) ∙ sym (append_block (block q.block) (joined (map carrier ps) tree.Stop) (block p.block))

pub mapped_last : {X Y : Type 0} (f : X → Y) (xs : List X) (x : X) → map f (xs ++ x ∷ []) ≡ map f xs ++ f x ∷ []
mapped_last f [] x = refl
mapped_last f (y ∷ xs) x = ap (λ l. f y ∷ l) (mapped_last f xs x)

-- one part more
pub next_joined : (ps : List Part) (p : Part) (b c : tree.Block) → b ≡ joined (map carrier ps) tree.Stop → c ≡ tree.append b (block p.block) → c ≡ joined (map carrier (ps ++ p ∷ [])) tree.Stop
next_joined ps p b c eb ec = ec ∙ ap (λ x. tree.append x (block p.block)) eb ∙ sym (joined_last ps p)

values_last : (ps : List Part) (p : Part) → map (λ q. q.value) (map carrier (ps ++ p ∷ [])) ≡ map (λ q. q.value) (map carrier ps) ++ p.value ∷ []
values_last [] p = refl
values_last (q ∷ ps) p = ap (λ l. q.value ∷ l) (values_last ps p)

pub next_values : (ps : List Part) (p : Part) (vs ws : List Operand) → vs ≡ map (λ q. q.value) (map carrier ps) → ws ≡ vs ++ p.value ∷ [] → ws ≡ map (λ q. q.value) (map carrier (ps ++ p ∷ []))
next_values ps p vs ws ev ew = ew ∙ ap (λ l. l ++ p.value ∷ []) ev ∙ sym (values_last ps p)

given_length : (kinds : List ArgumentKind) (os : List Operand) → length (given kinds os) ≡ length os
given_length kinds [] = refl
given_length [] (o ∷ os) = ap (λ n. suc n) (given_length [] os)
given_length (k ∷ kinds) (o ∷ os) = ap (λ n. suc n) (given_length kinds os)

given_last : (kinds : List ArgumentKind) (os : List Operand) (o : Operand) → given kinds (os ++ o ∷ []) ≡ given kinds os ++ argument_of (names_at kinds (length os)) o ∷ []
given_last [] [] o = refl
given_last (k ∷ kinds) [] o = refl
given_last [] (q ∷ os) o = ap (λ l. argument.Value q ∷ l) (given_last [] os o)
given_last (k ∷ kinds) (q ∷ os) o = ap (λ l. argument_of (is_name k) q ∷ l) (given_last kinds os o)

-- one operand more, at the place behind the others
pub next_given : (kinds : List ArgumentKind) (os : List Operand) (o : Operand) (args more : List _) (place : ℕ) (named : Bool) (a : _) → args ≡ given kinds os → place ≡ length args → named ≡ names_at kinds place → a ≡ argument_of named o → more ≡ args ++ a ∷ [] → more ≡ given kinds (os ++ o ∷ [])
next_given kinds os o args more place named a ea ep en eo em =
    em ∙ ap (λ l. l ++ a ∷ []) ea
    ∙ ap (λ x. given kinds os ++ x ∷ []) (eo ∙ ap (λ b. argument_of b o) (en ∙ ap (names_at kinds) (ep ∙ ap length ea ∙ given_length kinds os)))
    ∙ sym (given_last kinds os o)

pub operated : (t line : ℕ) (o : Op) (ps : List Carrier) (vs : List Operand) (f : tree.Form) (b first : tree.Block) → b ≡ tree.append first (alone f) → first ≡ joined ps tree.Stop → vs ≡ map (λ p. p.value) ps → f ≡ does t line o vs → valued b (operand.Temp t) (t + 1) ≡ expressions.operate line o ps t
unfolding expressions.operate
operated t line o ps vs f b first eb ef ev en =
    ap (λ x. valued x (operand.Temp t) (t + 1))
    (eb ∙ ap (λ x. tree.append x (alone f)) ef ∙ joined_append ps tree.Stop (alone f) ∙ ap (λ x. joined ps (alone x)) (en ∙ ap (does t line o) ev))
