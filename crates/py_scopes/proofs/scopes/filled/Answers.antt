use Rattle.std.proofs.Common.{rules, subst, sym, ◌∙◌, ap, take, get_or}
use Rattle.py_scopes.specs.Resolve.{filled}
use Rattle.py_scopes.specs.Filling.{changed, change}
use Rattle.py_scopes.specs.Rules.{variable}
use Rattle.py_scopes.specs.Seen.{Lists}
use Rattle.py_scopes.proofs.Filled.{filled_snoc, filled_nil}
use Rattle.py_scopes.proofs.Turns.{take_site, gained}
use Rattle.py_scopes.proofs.scopes.filled.Goals as goal

pub loop-site-init : goal.loop-site-init
loop-site-init c = record {
  scopes = c.in_ok-scopes.ensures ∙ sym (filled_nil c.args.survey.now 0 c.args.survey.now.scopes);
  named = search rules;
}

pub loop-site-preserved : goal.loop-site-preserved
loop-site-preserved c =
    let more = take_site c.args.survey.now.sites c.loop-site.site-index c.site-item.result (search rules) (c.site-item.is ∙ ap (λ xs. get_or xs c.loop-site.site-index c.site-item.result) c.as_slice-site-items.ensures) in
    record {
      scopes = c.in_ok-note.ensures.scopes
          ∙ ap (λ xs. changed (change c.args.survey.now c.loop-site.named.keys c.site-item.result.place.scope c.site-item.result.what) c.site-item.result.place.scope 0 xs) c.loop-site.invariant.scopes
          ∙ sym (filled_snoc c.args.survey.now c.loop-site.named.keys (take c.loop-site.site-index c.args.survey.now.sites) c.site-item.result 0 c.args.survey.now.scopes c.loop-site.invariant.named)
          ∙ ap (λ sites. filled c.args.survey.now sites 0 c.args.survey.now.scopes) (sym more);
      named = subst (Lists c.note.new.named.keys variable) (sym more)
          (gained c.loop-site.named.keys c.note.new.named.keys variable _ c.site-item.result c.loop-site.invariant.named c.in_ok-note.ensures.named);
    }
