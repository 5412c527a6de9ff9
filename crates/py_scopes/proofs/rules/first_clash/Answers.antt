use Rattle.std.proofs.Common.{rules, take, sym, subst, ◌∙◌, ap, get_or}
use Rattle.py_scopes.specs.Rules.{fault, Declare}
use Rattle.py_scopes.specs.Seen.{Sees}
use Rattle.py_scopes.proofs.Turns.{take_site, sees_more, passed, caught}
use Rattle.py_scopes.proofs.rules.first_clash.Goals as goal

pub returns-then-clashes : goal.returns-then-clashes
returns-then-clashes c = sym (c.loop-site.invariant.found
    ∙ caught (fault Declare c.args.survey.now) c.args.survey.now.sites c.loop-site.site-index c.site-item.result (search rules) (c.site-item.is ∙ ap (λ xs. get_or xs c.loop-site.site-index c.site-item.result) c.as_slice-site-items.ensures)
    (sym (c.clashes.ensures (take c.loop-site.site-index c.args.survey.now.sites) c.loop-site.invariant.before) ∙ c.if-clashes.true))

pub loop-site-preserved : goal.loop-site-preserved
loop-site-preserved c = record {
  found = c.loop-site.invariant.found
      ∙ passed (fault Declare c.args.survey.now) c.args.survey.now.sites c.loop-site.site-index c.site-item.result (search rules) (c.site-item.is ∙ ap (λ xs. get_or xs c.loop-site.site-index c.site-item.result) c.as_slice-site-items.ensures)
      (sym (c.clashes.ensures (take c.loop-site.site-index c.args.survey.now.sites) c.loop-site.invariant.before) ∙ c.if-clashes.false);
  before = subst (Sees c.note.new.self) (sym (take_site c.args.survey.now.sites c.loop-site.site-index c.site-item.result (search rules) (c.site-item.is ∙ ap (λ xs. get_or xs c.loop-site.site-index c.site-item.result) c.as_slice-site-items.ensures)))
      (sees_more c.loop-site.before c.note.new.self _ c.site-item.result c.loop-site.invariant.before c.in_ok-note.ensures);
}
