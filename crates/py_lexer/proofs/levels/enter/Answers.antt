use Rattle.std.proofs.Common.{◌≡◌, ℕ, false, List, length, map, Bor, Vec, vec_len, arith, Some, sym, ◌∙◌}
use Rattle.std.proofs.lemmas.List.{take-map, length-map}
use Rattle.std.specs.Str.{bytes_eq}
use Rattle.py_lexer.specs.Indentation.{top, is_front, kept}
use Rattle.py_lexer.specs.Machine.{start_at}
use Rattle.py_lexer.proofs.Positions.{lay_back}
use Rattle.py_lexer.proofs.levels.enter.Goals as goal

counted : {X Z : Type 0} (v : Vec X Z) (n : ℕ) → n ≡ vec_len v → length v.items ≡ n
counted v n e = omega (arith, e)

pub returns : goal.returns
returns c =
    let now : Bor (List ℕ) → List ℕ = λ l. l.now in
    let levels : List (List ℕ) = map now c.args.levels.now.items in
    let highest : c.top-top.result.now ≡ top levels = rw (← c.deref.ensures.value) c.top-top.ensures in
    let other : bytes_eq c.args.start.blank.now (top levels) ≡ false = rw (← highest) (sym c.eq.ensures ∙ c.if-eq.false) in
    let differs : is_front (top levels) c.args.start.blank.now ≡ false = rw (← highest) (sym c.starts_with.ensures.value ∙ c.if-starts_with.false) in
    let keeps : Some c.in-Some.keep ≡ kept levels c.args.start.blank.now = rw (← c.deref-2.ensures.value) c.in-Some.ensures.value in
    let size : length levels ≡ c.len.result = length-map c.args.levels.now.items now ∙ counted c.args.levels.now c.len.result c.len.ensures in
    let back = lay_back levels c.args.tokens.now.items (start_at c.args.start.line c.args.start.blank.now) c.args.first c.in-Some.keep other differs keeps in
    rw (c.in_ok-dedent.ensures, c.truncate.ensures.items, ← take-map now c.in-Some.keep c.args.levels.now.items, ← size) back
