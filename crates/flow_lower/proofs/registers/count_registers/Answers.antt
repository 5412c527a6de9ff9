use Rattle.std.proofs.Common.{◌≡◌, ◌+◌, suc, List, ◌∷◌, drop, sym, ap, ◌∙◌, arith}
use Rattle.std.proofs.Math.Seq.{drop-cons}
use Rattle.flow_code.specs.declared.statement.Line.{Line}
use Rattle.flow_lower.proofs.Greatest.{registers_more}
use Rattle.flow_lower.proofs.registers.count_registers.Goals as goal

pub loop-line-preserved : goal.loop-line-preserved
loop-line-preserved c =
    let lines : List Line = c.args.lines.now in
    let i = c.loop-line.line-index in
    let s : i + 1 ≡ suc i = omega arith in
    let e : drop i lines ≡ c.line-item.result ∷ drop (i + 1) lines =
    drop-cons lines i c.line-item.result c.loop-line-test.true ∙ ap (λ x. x ∷ drop (suc i) lines) (sym c.line-item.is) ∙ ap (λ n. c.line-item.result ∷ drop n lines) (sym s) in
    registers_more c.loop-line.count c.in_ok-line_count.field-0 c.greater_of-count.result c.line-item.result (drop (i + 1) lines) (drop i lines) c.greater_of-count.ensures c.in_ok-line_count.ensures e ∙ c.loop-line.invariant
