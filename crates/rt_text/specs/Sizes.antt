-- How many characters joined texts have, counted text by text.
use Rattle.std.specs.Prelude.{ℕ, ◌+◌, List, [], ◌∷◌}
use Rattle.nu_text.specs.Characters.{characters}
use Rattle.nu_value.specs.declared.value.Value.{Value}
use Rattle.op_rules.specs.TextParts.{text_in}

-- of texts with so many characters before each
abbrev pub rest_size : ℕ → List Value → ℕ
rest_size between [] = 0
rest_size between (v ∷ vs) = between + characters (text_in v) + rest_size between vs

-- of texts with so many characters between them
abbrev pub joined_size : ℕ → List Value → ℕ
joined_size between [] = 0
joined_size between (v ∷ vs) = characters (text_in v) + rest_size between vs
