use Rattle.std.proofs.Common.{◌≡◌, pos, [], ◌∷◌, to_z, sym, ap, ◌∙◌, rules, arith}
use Rattle.std.proofs.lemmas.Grind.{common_steps}
use Rattle.std.proofs.lemmas.Int.{ints}
use Rattle.std.specs.Int.{w128}
use Rattle.nu_text.specs.Characters.{characters}
use Rattle.op_rules.specs.TextParts.{pieces_from}
use Rattle.rt_text.proofs.Places.{found_there}
use Rattle.rt_text.proofs.methods.found_at.Goals as goal

pub returns-in-Some : goal.returns-in-Some
returns-in-Some c =
    let cut : pieces_from c.args.part.now 0 [] c.args.text.now ≡ c.in-Some.front.now ∷ pieces_from c.args.part.now 0 [] c.in-Some.field-0-1.now = first_of (search rules, grind (arith, common_steps)) in
    let there = found_there c.args.part.now c.args.text.now c.in-Some.front.now c.in-Some.field-0-1.now (sym c.is_empty.ensures ∙ c.if-is_empty.false) cut in
    let wide : to_z w128 c.characters.result ≡ pos c.characters.result = omega (arith, ints) in
    wide ∙ ap pos (c.characters.ensures ∙ ap characters c.as_bytes.ensures.value) ∙ sym there
