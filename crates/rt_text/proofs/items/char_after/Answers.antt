use Rattle.std.proofs.Common.{◌≡◌, [], slice_get, sym, ap, ◌∙◌, rules, arith}
use Rattle.std.proofs.lemmas.Grind.{common_steps}
use Rattle.rt_text.proofs.Ascii.{no_chars}
use Rattle.rt_text.proofs.items.char_after.Goals as goal

pub returns : goal.returns
returns c =
    let empty : c.characters.rest.now ≡ [] = first_of (search rules, grind (arith, common_steps)) in
    sym (ap (λ l. slice_get l c.characters.left) (no_chars c.characters.rest.now empty)) ∙ c.characters.invariant.same
