use Rattle.std.proofs.Common.{◌≡◌, ◌+◌, pos, ◌+ℤ◌, List, ℕ, to_z, of_z, sym, ap, ◌∙◌, subst, arith}
use Rattle.std.proofs.lemmas.Int.{ints}
use Rattle.std.specs.Int.{w128}
use Rattle.std.specs.Prelude.{IsUtf8}
use Rattle.rt_text.proofs.Places.{count_empty}
use Rattle.rt_text.proofs.methods.part_count.Goals as goal

pub returns-then-is_empty : goal.returns-then-is_empty
returns-then-is_empty c =
    let text : IsUtf8 c.args.text.now = subst (λ (l : List ℕ). IsUtf8 l) c.as_str-all.ensures c.as_str-all.utf8 in
    let count = count_empty c.args.part.now c.args.text.now text (sym c.is_empty.ensures ∙ c.if-is_empty.true) in
    let wide : to_z w128 (of_z w128 (to_z w128 c.length.result +ℤ pos 1)) ≡ pos (c.length.result + 1) = omega (arith, ints) in
    wide ∙ ap pos (ap (λ n. n + 1) c.length.ensures ∙ sym count)
