use Rattle.std.proofs.Common.{◌∷◌, [], ◌++◌, ◌∙◌, ap}
use Rattle.code_forms.specs.Fits.{ParamFits}
use Rattle.code_forms.proofs.Copied.{all_with, copy_more}
use Rattle.code_forms.proofs.header.share_params.Goals as goal

pub loop-place-preserved : goal.loop-place-preserved
loop-place-preserved c =
    let more = c.in_ok-push.ensures.ok ∙ ap (λ n. c.loop-place.copy ++ (c.in-Some.kind, n) ∷ []) c.in_ok-share_text.ensures.is in
    record {
      made = copy_more c.loop-place.copy c.args.params.now c.push.new.self c.loop-place.place (c.in-Some.kind, c.in-Some.name.now) more c.loop-place.invariant.made c.in-Some.ensures;
      fit = all_with ParamFits c.loop-place.copy c.push.new.self (c.in-Some.kind, c.in_ok-share_text.field-0) c.in_ok-push.ensures.ok c.loop-place.invariant.fit c.in_ok-share_text.ensures.fits;
    }
