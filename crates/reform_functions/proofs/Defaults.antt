-- The defaults of functions, one after another.
use Rattle.std.proofs.Common.{◌≡◌, ℕ, ◌+◌, length, map, List, [], ◌∷◌, ◌++◌, refl, sym, ap, ◌∙◌, arith, append_assoc}
use Rattle.op_forms.specs.declared.constant.Const.TheVariants as const
use Rattle.op_forms.specs.declared.op.Op.TheVariants as op
use Rattle.code_forms.specs.declared.operand.Argument.{Argument}
use Rattle.code_forms.specs.declared.operand.Argument.TheVariants as argument
use Rattle.code_forms.specs.declared.operand.Operand.{Operand}
use Rattle.code_forms.specs.declared.operand.Operand.TheVariants as operand
use Rattle.node_tree.specs.Blocks.{alone, of_temp}
use Rattle.node_tree.specs.Blocks as tree
use Rattle.node_tree.specs.Tree.{block}
use Rattle.node_tree.proofs.Direct.{append_stop}
use Rattle.carries_base.specs.Carries.{Carrier, joined}
use Rattle.carried_codes.specs.Parts.{Valued, valued}
use Rattle.carried_codes.specs.Parts as parts
use Rattle.carried_codes.specs.Expressions as expressions
use Rattle.reform_blocks.specs.Parts.{carrier}
use Rattle.reform_values.proofs.Joined.{append_block, joined_append, mapped_last}
use Rattle.reform_functions.specs.declared.functions.Named.{Named}
use Rattle.reform_functions.specs.Names.{named_of}

pub next_mapped : {X Y : Type 0} (f : X → Y) (head : List Y) (xs : List X) (x : X) (args more : List Y) (y : Y) → args ≡ head ++ map f xs → y ≡ f x → more ≡ args ++ y ∷ [] → more ≡ head ++ map f (xs ++ x ∷ [])
next_mapped f head xs x args more y ea ey em =
    em ∙ ap (λ l. l ++ y ∷ []) ea ∙ append_assoc head (map f xs) (y ∷ [])
    ∙ ap (λ l. head ++ l) (ap (λ z. map f xs ++ z ∷ []) ey ∙ sym (mapped_last f xs x))

joined_last : (ps : List Carrier) (p : Carrier) → joined (ps ++ p ∷ []) tree.Stop ≡ tree.append (joined ps tree.Stop) p.block
joined_last [] p = append_stop p.block
joined_last (q ∷ ps) p = ap (tree.append q.block) (joined_last ps p) ∙ sym (append_block q.block (joined ps tree.Stop) p.block)

pub next_joined : {X : Type 0} (f : X → Carrier) (xs : List X) (x : X) (first b c : tree.Block) → b ≡ tree.append first (joined (map f xs) tree.Stop) → c ≡ tree.append b (f x).block → c ≡ tree.append first (joined (map f (xs ++ x ∷ [])) tree.Stop)
next_joined f xs x first b c eb ec =
    ec ∙ ap (λ z. tree.append z (f x).block) eb ∙ append_block first (joined (map f xs) tree.Stop) (f x).block
    ∙ ap (tree.append first) (sym (ap (λ l. joined l tree.Stop) (mapped_last f xs x) ∙ joined_last (map f xs) (f x)))

-- parts with names
parts_of : (ks : List Named) → map (λ k. k.part) (map named_of ks) ≡ map (λ k. carrier k.part) ks
parts_of [] = refl
parts_of (k ∷ ks) = ap (λ l. carrier k.part ∷ l) (parts_of ks)

pub first_named : (first : tree.Block) → first ≡ tree.append first tree.Stop
first_named first = sym (append_stop first)

pub next_named : (ks : List Named) (k : Named) (first b c : tree.Block) → b ≡ tree.append first (joined (map (λ k. k.part) (map named_of ks)) tree.Stop) → c ≡ tree.append b (block k.part.block) → c ≡ tree.append first (joined (map (λ k. k.part) (map named_of (ks ++ k ∷ []))) tree.Stop)
next_named ks k first b c eb ec =
    next_joined (λ k. carrier k.part) ks k first b c (eb ∙ ap (λ l. tree.append first (joined l tree.Stop)) (parts_of ks)) ec
    ∙ ap (λ l. tree.append first (joined l tree.Stop)) (sym (parts_of (ks ++ k ∷ [])))

abbrev put_form : ℕ → ℕ → ℕ → Named → tree.Form
put_form line dict to k = tree.Do to line op.Put (of_temp dict ∷ argument.Value (operand.Const (const.Str k.name)) ∷ argument.Value k.part.value ∷ [])

puts_last : (line dict to : ℕ) (ks : List Named) (k : Named) → expressions.puts line dict to (map named_of (ks ++ k ∷ [])) ≡ tree.append (expressions.puts line dict to (map named_of ks)) (alone (put_form line dict (to + length ks) k))
puts_last line dict to [] k = ap (λ n. alone (put_form line dict n k)) none
  where
    none : to ≡ to + 0
    none = omega arith
puts_last line dict to (j ∷ ks) k =
    ap (tree.Follow (put_form line dict to j))
    (puts_last line dict (to + 1) ks k ∙ ap (λ n. tree.append (expressions.puts line dict (to + 1) (map named_of ks)) (alone (put_form line dict n k))) one)
  where
    one : to + 1 + length ks ≡ to + length (j ∷ ks)
    one = omega arith

pub next_puts : (line dict from next : ℕ) (ks : List Named) (k : Named) (b c : tree.Block) (f : tree.Form) → b ≡ expressions.puts line dict from (map named_of ks) → next ≡ from + length ks → f ≡ put_form line dict next k → c ≡ tree.append b (alone f) → c ≡ expressions.puts line dict from (map named_of (ks ++ k ∷ []))
next_puts line dict from next ks k b c f eb en ef ec =
    ec ∙ ap (λ z. tree.append z (alone f)) eb
    ∙ ap (λ g. tree.append (expressions.puts line dict from (map named_of ks)) (alone g)) (ef ∙ ap (λ n. put_form line dict n k) en)
    ∙ sym (puts_last line dict from ks k)

length_last : {X : Type 0} (xs : List X) (x : X) → length (xs ++ x ∷ []) ≡ length xs + 1
length_last [] x = refl
length_last (y ∷ xs) x = let e : length (xs ++ x ∷ []) ≡ length xs + 1 = length_last xs x in omega (arith, e)

pub next_place : {X : Type 0} (from next behind : ℕ) (xs : List X) (x : X) → next ≡ from + length xs → behind ≡ next + 1 → behind ≡ from + length (xs ++ x ∷ [])
next_place from next behind xs x en eb = let e = length_last xs x in omega (arith, e, en, eb)

-- what stands behind the values of defaults
abbrev form_block : ℕ → ℕ → ℕ → ℕ → List ℕ → List Argument → tree.Block → tree.Block
form_block to line code t cells args puts =
    tree.Follow (tree.Do t line op.Tuple args) (tree.Follow (tree.Do (t + 1) line op.Dict []) (tree.append puts (alone (expressions.function_form to line code t (t + 1) cells))))

-- a function without defaults
pub bare_is : (line code t : ℕ) (cells : List ℕ) (args : List Argument) (puts whole : tree.Block) → args ≡ [] → puts ≡ tree.Stop → whole ≡ form_block (t + 2) line code t cells args puts → whole ≡ expressions.function_block line code [] [] cells t
bare_is line code t cells args puts whole ea ep e =
    e ∙ ap (λ a. form_block (t + 2) line code t cells a puts) ea ∙ ap (form_block (t + 2) line code t cells []) ep
    ∙ ap (λ n. form_block n line code t cells [] tree.Stop) none
  where
    none : t + 2 ≡ t + 2 + 0
    none = omega arith

-- the values of parts as arguments
pub values_given : (ps : List Carrier) → map argument.Value (map (λ p. p.value) ps) ≡ map (λ p. argument.Value p.value) ps
values_given [] = refl
values_given (p ∷ ps) = ap (λ l. argument.Value p.value ∷ l) (values_given ps)

lengths : (ks : List Named) → length ks ≡ length (map named_of ks)
lengths [] = refl
lengths (k ∷ ks) = let e : length ks ≡ length (map named_of ks) = lengths ks in omega (arith, e)

pub functions_are : (line code t to end : ℕ) (ps : List Carrier) (ks : List Named) (cells : List ℕ) (first whole puts last both : tree.Block) (os : List Operand) (args : List Argument) → first ≡ joined ps tree.Stop → os ≡ map (λ p. p.value) ps → args ≡ map argument.Value os → whole ≡ tree.append first (joined (map (λ k. k.part) (map named_of ks)) tree.Stop) → puts ≡ expressions.puts line (t + 1) (t + 2) (map named_of ks) → to ≡ t + 2 + length ks → last ≡ form_block to line code t cells args puts → both ≡ tree.append whole last → end ≡ to + 1
    → valued both (operand.Temp to) end ≡ expressions.function line code ps (map named_of ks) cells t
unfolding expressions.function
functions_are line code t to end ps ks cells first whole puts last both os args ef eo ea ew ep et el eb ee =
    let n : to ≡ t + 2 + length (map named_of ks) = et ∙ ap (λ m. t + 2 + m) (lengths ks) in
    let qs = map (λ k. k.part) (map named_of ks) in
    let l : last ≡ expressions.function_block line code ps (map named_of ks) cells t =
    el ∙ ap (λ m. form_block m line code t cells args puts) n
    ∙ ap (λ a. form_block (t + 2 + length (map named_of ks)) line code t cells a puts) (ea ∙ ap (map argument.Value) eo ∙ values_given ps)
    ∙ ap (form_block (t + 2 + length (map named_of ks)) line code t cells (map (λ p. argument.Value p.value) ps)) ep in
    let b : both ≡ joined ps (joined qs (expressions.function_block line code ps (map named_of ks) cells t)) =
    eb ∙ ap (λ x. tree.append x last) (ew ∙ ap (λ x. tree.append x (joined qs tree.Stop)) ef) ∙ append_block (joined ps tree.Stop) (joined qs tree.Stop) last
    ∙ joined_append ps tree.Stop _ ∙ ap (joined ps) (joined_append qs tree.Stop last ∙ ap (joined qs) l) in
    ap (λ x. valued x (operand.Temp to) end) b
    ∙ ap (λ m. valued (joined ps (joined qs (expressions.function_block line code ps (map named_of ks) cells t))) (operand.Temp m) end) n
    ∙ ap (valued (joined ps (joined qs (expressions.function_block line code ps (map named_of ks) cells t))) (operand.Temp (t + 2 + length (map named_of ks)))) (ee ∙ ap (λ m. m + 1) n)
