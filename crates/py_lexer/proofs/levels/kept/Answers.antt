use Rattle.std.proofs.Common.{◌≡◌, false, length, nat_eq, refl, sym, ◌∙◌}
use Rattle.std.specs.Str.{bytes_eq}
use Rattle.py_lexer.proofs.Positions.{position_map}
use Rattle.py_lexer.proofs.levels.kept.Goals as goal

pub returns-in-Some-clause-value : goal.returns-in-Some-clause-value
returns-in-Some-clause-value c =
    let filled : nat_eq (length c.args.blank.now) 0 ≡ false = sym c.is_empty.ensures ∙ c.if-is_empty.false in
    rw (filled, position_map (λ level. bytes_eq level c.args.blank.now) (λ l. l.now) c.args.levels.now, ← c.in-Some.ensures.value) refl

pub returns-in-None-clause-value : goal.returns-in-None-clause-value
returns-in-None-clause-value c =
    let filled : nat_eq (length c.args.blank.now) 0 ≡ false = sym c.is_empty.ensures ∙ c.if-is_empty.false in
    rw (filled, position_map (λ level. bytes_eq level c.args.blank.now) (λ l. l.now) c.args.levels.now, ← c.in-None.ensures.value) refl
