use Rattle.std.proofs.Common.{◌≡◌, ◌++◌, drop, string_bytes}
use Rattle.std.specs.List.{flat_map}
use Rattle.op_rules.specs.TextParts.{text_in}
use Rattle.rt_text.proofs.joins.joined.Given as goal

abbrev pub invariant-loop-text : goal.invariant-loop-text
invariant-loop-text l =
    string_bytes l.all ++ flat_map (λ v. l.between ++ text_in v) (drop l.text-index l.rest) ≡ string_bytes l.initial.all ++ flat_map (λ v. l.between ++ text_in v) l.rest
