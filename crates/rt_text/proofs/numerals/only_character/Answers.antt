use Rattle.std.proofs.Common.{◌≡◌, [], ◌∷◌, ◌++◌, sym, ap, ◌∙◌, rules, arith}
use Rattle.std.proofs.lemmas.Grind.{common_steps}
use Rattle.std.proofs.lemmas.Str.{IsUtf8-past_char, encodes-chars}
use Rattle.std.specs.Char.{encode_utf8}
use Rattle.std.specs.Str.{chars}
use Rattle.op_rules.specs.Numerals.{number_of_one, no_character}
use Rattle.rt_text.proofs.Ascii.{no_chars, empty_chars, two_chars}
use Rattle.rt_text.proofs.numerals.only_character.Goals as goal

pub returns-in_err-character : goal.returns-in_err-character
returns-in_err-character c =
    let empty : c.args.text.now ≡ [] = first_of (search rules, grind (arith, common_steps)) in
    let none : number_of_one (chars c.args.text.now) ≡ no_character = ap number_of_one (no_chars c.args.text.now empty) in
    first_of (search rules, grind (arith, common_steps))

pub returns-then-is_empty : goal.returns-then-is_empty
returns-then-is_empty c =
    let step : chars c.args.text.now ≡ c.in_ok-character.character ∷ chars c.in_ok-character.rest.now = first_of (search rules, grind (arith, common_steps)) in
    ap number_of_one (step ∙ ap (λ l. c.in_ok-character.character ∷ l) (empty_chars c.in_ok-character.rest.now (sym c.is_empty.ensures ∙ c.if-is_empty.true)))

pub returns-else-is_empty : goal.returns-else-is_empty
returns-else-is_empty c =
    let step : chars c.args.text.now ≡ c.in_ok-character.character ∷ chars c.in_ok-character.rest.now = first_of (search rules, grind (arith, common_steps)) in
    let parts : c.args.text.now ≡ encode_utf8 c.in_ok-character.character ++ c.in_ok-character.rest.now = first_of (search rules, grind (arith, common_steps)) in
    let text = IsUtf8-past_char c.args.text.now c.in_ok-character.rest.now c.in_ok-character.character c.utf8.text parts in
    ap number_of_one step
    ∙ two_chars c.in_ok-character.character c.in_ok-character.rest.now (chars c.in_ok-character.rest.now) (encodes-chars c.in_ok-character.rest.now text) (sym c.is_empty.ensures ∙ c.if-is_empty.false)
