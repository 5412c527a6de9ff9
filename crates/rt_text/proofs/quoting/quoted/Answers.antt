use Rattle.std.proofs.Common.{◌≡◌, ◌++◌, rules, arith}
use Rattle.std.proofs.lemmas.Grind.{common_steps}
use Rattle.std.specs.Char.{encode_utf8}
use Rattle.rt_text.proofs.Quotes.{quoted_first}
use Rattle.rt_text.proofs.quoting.quoted.Goals as goal

pub characters-preserved : goal.characters-preserved
characters-preserved c =
    let parts : c.characters.rest.now ≡ encode_utf8 c.in-Some.character ++ c.in-Some.back.now = first_of (search rules, grind (arith, common_steps)) in
    let first = quoted_first c.args.mark c.in-Some.character c.characters.rest.now c.in-Some.back.now c.requires parts in
    record { shown = grind (arith, common_steps, first); text = search rules }
