use Rattle.std.proofs.Common.{◌≡◌, suc, ◌+◌, ◌∷◌, ◌++◌, drop, arith, ap, sym, subst, ◌∙◌}
use Rattle.std.specs.List.{AllByRecursion}
use Rattle.std.proofs.Math.Seq.{drop-cons}
use Rattle.flow_code.specs.Contents.{yields}
use Rattle.generator_cut.specs.Cut.{lines}
use Rattle.generator_cut.specs.Fits.{LineFits}
use Rattle.generator_cut.proofs.Emitted.{yields_more}
use Rattle.generator_cut.proofs.statements.put_lines.Goals as goal

pub loop-one-preserved : goal.loop-one-preserved
loop-one-preserved c =
    let i = c.loop-one.one-index in
    let body = c.args.body.now in
    let s : i + 1 ≡ suc i = omega arith in
    let e : drop i body ≡ c.one-item.result ∷ drop (i + 1) body = drop-cons body i c.one-item.result c.loop-one-test.true ∙ ap (λ x. x ∷ drop (suc i) body) (sym c.one-item.is) ∙ ap (λ n. c.one-item.result ∷ drop n body) (sym s) in
    record {
      lines = c.in_ok-pauses.ensures.lines (drop (i + 1) body) ∙ ap (λ l. c.loop-one.out.items ++ lines c.args.base (λ x left. c.args.saved.now) c.loop-one.pauses l) (sym e) ∙ c.loop-one.invariant.lines;
      fit = λ left. c.loop-one.invariant.fit (subst (AllByRecursion LineFits) (sym e) (c.in_ok-pauses.ensures.fits, left));
      many = ap (λ n. n + yields (drop (i + 1) body)) c.in_ok-pauses.ensures.pauses ∙ yields_more c.loop-one.pauses c.one-item.result (drop (i + 1) body) ∙ ap (λ l. c.loop-one.pauses + yields l) (sym e) ∙ c.loop-one.invariant.many;
    }
