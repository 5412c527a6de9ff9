-- The arguments of calls, one after another.
use Rattle.std.proofs.Common.{◌≡◌, ℕ, ◌+◌, map, Bool, true, false, List, [], ◌∷◌, ◌++◌, refl, sym, ap, ◌∙◌}
use Rattle.op_forms.specs.declared.constant.Const.TheVariants as const
use Rattle.op_forms.specs.declared.op.Op.TheVariants as op
use Rattle.code_forms.specs.declared.operand.Argument.TheVariants as argument
use Rattle.code_forms.specs.declared.operand.Operand.{Operand}
use Rattle.code_forms.specs.declared.operand.Operand.TheVariants as operand
use Rattle.node_tree.specs.Blocks.{alone, of_temp}
use Rattle.node_tree.specs.Blocks as tree
use Rattle.node_tree.proofs.Direct.{append_stop}
use Rattle.carries_base.specs.Carries.{Carrier}
use Rattle.carries_values.specs.Calls.{Passed, Plain, Star, Key, Merge, keywords_block, pass_block}
use Rattle.carried_codes.specs.Parts.{Valued, valued}
use Rattle.carried_codes.specs.Expressions as expressions
use Rattle.reform_values.specs.declared.calls.Passed as code
use Rattle.reform_values.specs.Passing.{passed_of, pass_one, pass_all, begun_by, begun_by_all}
use Rattle.reform_values.proofs.Joined.{append_block, mapped_last}

all_last : (line t : ℕ) (b : Bool) (xs : List Passed) (x : Passed) → pass_all line t b (xs ++ x ∷ []) ≡ tree.append (pass_all line t b xs) (pass_one line t (begun_by_all b xs) x)
all_last line t b [] x = append_stop (pass_one line t b x)
all_last line t b (y ∷ xs) x =
    ap (tree.append (pass_one line t b y)) (all_last line t (begun_by b y) xs x) ∙ sym (append_block (pass_one line t b y) (pass_all line t (begun_by b y) xs) _)

begun_last : (b : Bool) (xs : List Passed) (x : Passed) → begun_by_all b (xs ++ x ∷ []) ≡ begun_by (begun_by_all b xs) x
begun_last b [] x = refl
begun_last b (y ∷ xs) x = begun_last (begun_by b y) xs x

pub next_handed : (line t : ℕ) (qs : List code.Passed) (a : code.Passed) (begun : Bool) (first b one c : tree.Block) → b ≡ tree.append first (pass_all line t false (map passed_of qs)) → begun ≡ begun_by_all false (map passed_of qs) → one ≡ pass_one line t begun (passed_of a) → c ≡ tree.append b one → c ≡ tree.append first (pass_all line t false (map passed_of (qs ++ a ∷ [])))
next_handed line t qs a begun first b one c eb eg eo ec =
    ec ∙ ap (λ z. tree.append z one) eb ∙ append_block first (pass_all line t false (map passed_of qs)) one
    ∙ ap (tree.append first)
    (ap (tree.append (pass_all line t false (map passed_of qs))) (eo ∙ ap (λ g. pass_one line t g (passed_of a)) eg)
    ∙ sym (ap (pass_all line t false) (mapped_last passed_of qs a) ∙ all_last line t false (map passed_of qs) (passed_of a)))

pub next_begun : (qs : List code.Passed) (a : code.Passed) (begun there : Bool) → begun ≡ begun_by_all false (map passed_of qs) → there ≡ begun_by begun (passed_of a) → there ≡ begun_by_all false (map passed_of (qs ++ a ∷ []))
next_begun qs a begun there eg et =
    et ∙ ap (λ g. begun_by g (passed_of a)) eg ∙ sym (ap (begun_by_all false) (mapped_last passed_of qs a) ∙ begun_last false (map passed_of qs) (passed_of a))

-- the call behind them
abbrev ends : ℕ → ℕ → Operand → tree.Block
ends line t f = alone (tree.Do (t + 3) line op.CallX (argument.Value f ∷ of_temp t ∷ of_temp (t + 1) ∷ []))

keywords_append : (line to : ℕ) (b : Bool) (x y : tree.Block) → tree.append (keywords_block line to b x) y ≡ keywords_block line to b (tree.append x y)
keywords_append line to true x y = refl
keywords_append line to false x y = refl

pass_ended : (line t : ℕ) (f : Operand) (b : Bool) (xs : List Passed) → tree.append (pass_all line t b xs) (keywords_block line (t + 1) (begun_by_all b xs) (ends line t f)) ≡ pass_block line t f b xs
pass_ended line t f b [] = refl
pass_ended line t f b (Plain p ∷ xs) =
    append_block (pass_one line t b (Plain p)) (pass_all line t b xs) _
    ∙ append_block p.block _ _ ∙ ap (λ r. tree.append p.block (tree.Follow (tree.Do (t + 2) line op.Push (of_temp t ∷ argument.Value p.value ∷ [])) r)) (pass_ended line t f b xs)
pass_ended line t f b (Star p ∷ xs) =
    append_block (pass_one line t b (Star p)) (pass_all line t b xs) _
    ∙ append_block p.block _ _ ∙ ap (λ r. tree.append p.block (tree.Follow (tree.Do (t + 2) line op.Extend (of_temp t ∷ argument.Value p.value ∷ [])) r)) (pass_ended line t f b xs)
pass_ended line t f b (Key name p ∷ xs) =
    append_block (pass_one line t b (Key name p)) (pass_all line t true xs) _
    ∙ keywords_append line (t + 1) b _ _
    ∙ ap (keywords_block line (t + 1) b) (append_block p.block _ _ ∙ ap (λ r. tree.append p.block (tree.Follow (tree.Do (t + 2) line op.KeyPut (of_temp (t + 1) ∷ argument.Value (operand.Const (const.Str name)) ∷ argument.Value p.value ∷ [])) r)) (pass_ended line t f true xs))
pass_ended line t f b (Merge p ∷ xs) =
    append_block (pass_one line t b (Merge p)) (pass_all line t true xs) _
    ∙ keywords_append line (t + 1) b _ _
    ∙ ap (keywords_block line (t + 1) b) (append_block p.block _ _ ∙ ap (λ r. tree.append p.block (tree.Follow (tree.Do (t + 2) line op.KeyMerge (of_temp (t + 1) ∷ argument.Value p.value ∷ [])) r)) (pass_ended line t f true xs))

pub called : (line t : ℕ) (f : Carrier) (xs : List Passed) (begun : Bool) (list handed last end whole : tree.Block) → whole ≡ tree.append handed last → handed ≡ tree.append list (pass_all line t false xs) → list ≡ tree.append f.block (alone (tree.Do t line op.List [])) → begun ≡ begun_by_all false xs → last ≡ keywords_block line (t + 1) begun end → end ≡ ends line t f.value → valued whole (operand.Temp (t + 3)) (t + 4) ≡ expressions.call line f xs t
unfolding expressions.call
called line t f xs begun list handed last end whole ew eh el eb ek ee =
    ap (λ b. valued b (operand.Temp (t + 3)) (t + 4))
    (ew ∙ ap (λ b. tree.append b last) (eh ∙ ap (λ b. tree.append b (pass_all line t false xs)) el ∙ append_block f.block _ _)
    ∙ append_block f.block _ last
    ∙ ap (λ b. tree.append f.block (tree.Follow (tree.Do t line op.List []) b))
    (ap (tree.append (pass_all line t false xs)) (ek ∙ ap (λ g. keywords_block line (t + 1) g end) eb ∙ ap (keywords_block line (t + 1) (begun_by_all false xs)) ee)
    ∙ pass_ended line t f.value false xs))
