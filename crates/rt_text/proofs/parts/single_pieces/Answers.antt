use Rattle.std.proofs.Common.{◌≡◌, [], rules, arith}
use Rattle.std.proofs.lemmas.Grind.{common_steps}
use Rattle.rt_text.proofs.Ascii.{no_chars}
use Rattle.rt_text.proofs.parts.single_pieces.Goals as goal

pub returns : goal.returns
returns c =
    let empty : c.characters.rest.now ≡ [] = first_of (search rules, grind (arith, common_steps)) in
    let none = no_chars c.characters.rest.now empty in
    let cut = rw none at c.characters.invariant.cut in
    first_of (search rules, grind (arith, common_steps))
