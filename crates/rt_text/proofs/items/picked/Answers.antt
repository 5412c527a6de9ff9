use Rattle.std.proofs.Common.{◌≡◌, ◌++◌, ◌+ℤ◌, ◌-◌, ◌<◌, ◌^◌, length, FitsSigned, string_bytes, refl, sym, ap, ◌∙◌, rules, arith}
use Rattle.std.proofs.lemmas.Grind.{common_steps}
use Rattle.std.proofs.lemmas.Int.{ints, to_z-of_z}
use Rattle.std.proofs.lemmas.List.{append-nil}
use Rattle.std.specs.Int.{w128}
use Rattle.std.specs.Prelude.{encode_utf8_all}
use Rattle.std.specs.Option.{option_to_list}
use Rattle.op_rules.specs.TextAccess.{character_from, picked}
use Rattle.rt_text.proofs.Picked.{one_pushed, picked_past}
use Rattle.rt_text.proofs.items.picked.Goals as goal

pub loop-left-preserved : goal.loop-left-preserved
loop-left-preserved c =
    let first = to_z-of_z w128 c.args.first c.ranges.first in
    let step = to_z-of_z w128 c.args.step c.ranges.step in
    let fits : FitsSigned w128 c.in-Some.next = first_of (search rules, grind (arith, ints, common_steps)) in
    let next = to_z-of_z w128 c.in-Some.next fits in
    let is : c.in-Some.next ≡ c.loop-left.place +ℤ c.args.step = first_of (search rules, grind (arith, common_steps)) in
    let pushed : string_bytes c.push_from.new.all ≡ string_bytes c.loop-left.all ++ encode_utf8_all (option_to_list (character_from c.args.characters.now c.loop-left.place)) = first_of (search rules, grind (arith, common_steps)) in
    let before : string_bytes c.loop-left.all ++ encode_utf8_all (picked c.args.characters.now c.loop-left.place c.args.step c.loop-left.left) ≡ encode_utf8_all (picked c.args.characters.now c.args.first c.args.step c.args.count) = cc (c.loop-left.invariant, c.loop-left.place-is) in
    let after = one_pushed (string_bytes c.loop-left.all) (string_bytes c.push_from.new.all) c.args.characters.now (encode_utf8_all (picked c.args.characters.now c.args.first c.args.step c.args.count)) c.loop-left.place c.args.step c.in-Some.next c.loop-left.left (omega arith) is pushed before in
    cc

pub returns-in-None : goal.returns-in-None
returns-in-None c =
    let first = to_z-of_z w128 c.args.first c.ranges.first in
    let step = to_z-of_z w128 c.args.step c.ranges.step in
    let far : FitsSigned w128 (c.loop-left.place +ℤ c.args.step) → ⊥ = first_of (search rules, grind (arith, common_steps)) in
    let pushed : string_bytes c.push_from.new.all ≡ string_bytes c.loop-left.all ++ encode_utf8_all (option_to_list (character_from c.args.characters.now c.loop-left.place)) = first_of (search rules, grind (arith, common_steps)) in
    let before : string_bytes c.loop-left.all ++ encode_utf8_all (picked c.args.characters.now c.loop-left.place c.args.step c.loop-left.left) ≡ encode_utf8_all (picked c.args.characters.now c.args.first c.args.step c.args.count) = cc (c.loop-left.invariant, c.loop-left.place-is) in
    let after = one_pushed (string_bytes c.loop-left.all) (string_bytes c.push_from.new.all) c.args.characters.now (encode_utf8_all (picked c.args.characters.now c.args.first c.args.step c.args.count)) c.loop-left.place c.args.step (c.loop-left.place +ℤ c.args.step) c.loop-left.left (omega arith) refl pushed before in
    let short : length c.args.characters.now < 2 ^ 64 = first_of (search rules, omega arith) in
    let place : FitsSigned w128 c.loop-left.place = first_of (search rules, grind (arith, ints, common_steps)) in
    let past = picked_past c.args.characters.now c.loop-left.place c.args.step (c.loop-left.left - 1) short place c.ranges.step far in
    sym (append-nil (string_bytes c.push_from.new.all)) ∙ ap (λ l. string_bytes c.push_from.new.all ++ l) (sym past) ∙ after
