use Rattle.std.proofs.Common.{◌≡◌, ◌++◌, rules, arith}
use Rattle.std.proofs.lemmas.Grind.{common_steps}
use Rattle.std.proofs.lemmas.Str.{chars_past_char}
use Rattle.std.specs.Char.{encode_utf8}
use Rattle.rt_text.proofs.parts.first_char.Goals as goal

pub returns-clause-characters : goal.returns-clause-characters
returns-clause-characters c =
    let parts : c.args.text.now ≡ encode_utf8 c.in_ok-first.first ++ c.as_str.result.now = first_of (search rules, grind (arith, common_steps)) in
    chars_past_char c.args.text.now c.as_str.result.now c.in_ok-first.first c.utf8.text parts
