-- How many characters joined texts have.
use Rattle.std.proofs.Common.{◌≡◌, ℕ, ◌+◌, List, [], ◌∷◌, ◌++◌, refl, arith}
use Rattle.std.specs.List.{flat_map}
use Rattle.nu_text.specs.Characters.{characters}
use Rattle.nu_value.specs.declared.value.Value.{Value}
use Rattle.op_rules.specs.TextParts.{text_in, joined}
use Rattle.rt_text.specs.Sizes.{rest_size, joined_size}

pub characters_append : (xs ys : List ℕ) → characters (xs ++ ys) ≡ characters xs + characters ys
characters_append [] ys = omega arith
characters_append (x ∷ xs) ys = let more = characters_append xs ys in omega (arith, more)

rest_characters : (between : List ℕ) (texts : List Value) → characters (flat_map (λ v. between ++ text_in v) texts) ≡ rest_size (characters between) texts
rest_characters between [] = refl
rest_characters between (v ∷ vs) =
    let outer = characters_append (between ++ text_in v) (flat_map (λ v. between ++ text_in v) vs) in
    let inner = characters_append between (text_in v) in
    let more = rest_characters between vs in
    omega (arith, outer, inner, more)

pub joined_characters : (between : List ℕ) (texts : List Value) → characters (joined between texts) ≡ joined_size (characters between) texts
joined_characters between [] = refl
joined_characters between (v ∷ vs) =
    let outer = characters_append (text_in v) (flat_map (λ v. between ++ text_in v) vs) in
    let more = rest_characters between vs in
    omega (arith, outer, more)
