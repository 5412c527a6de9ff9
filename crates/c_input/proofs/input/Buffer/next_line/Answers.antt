use Rattle.std.proofs.Common.{◌≡◌, ◌<◌, ◌+◌, ◌++◌, true, length, drop, rules, ap, sym, ◌∙◌}
use Rattle.nu_calls.specs.Lines as lines
use Rattle.c_input.specs.Lines.{is_good}
use Rattle.c_input.proofs.Lined.{before_most, behind_is, line_first}
use Rattle.c_input.proofs.input.Buffer.next_line.Goals as goal

pub returns-clause-line : goal.returns-clause-line
returns-clause-line c = λ rest h.
    let left = c.args.self.now.left in
    let first : c.first_line-first.result.now ≡ lines.before_lf left = search rules in
    let fine : is_good (lines.before_lf left) ≡ true = search rules in
    let most = before_most left in
    let less : length (lines.before_lf left) < length left = search rules in
    let line : c.in_ok-line-2.line ≡ lines.without_cr (lines.before_lf left) = search rules in
    let whole : c.as_slice-bytes.result.now ≡ left = search rules in
    let behind = behind_is left c.as_slice-bytes.result.now c.first_line-first.result.now c.in_ok-left.left whole first c.in_ok-left.ensures in
    line_first left rest fine less ∙ ap (λ l. lines.ALine l (drop (length (lines.before_lf left) + 1) left ++ rest)) (sym line) ∙ ap (λ l. lines.ALine c.in_ok-line-2.line (l ++ rest)) (sym behind)
