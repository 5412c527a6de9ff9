use Rattle.std.proofs.Common.{rules, take, sym, subst, ◌∙◌, ap, get_or}
use Rattle.py_scopes.specs.Passes.{Holds}
use Rattle.py_scopes.specs.Rules.{fault, Repeat}
use Rattle.py_scopes.proofs.Repeats.{listed_is}
use Rattle.py_scopes.proofs.Turns.{take_site, holds_more, passed, caught}
use Rattle.py_scopes.proofs.rules.first_repeat.Goals as goal

pub loop-site-preserved : goal.loop-site-preserved
loop-site-preserved c = record {
  found = c.loop-site.invariant.found
      ∙ passed (fault Repeat c.args.survey.now) c.args.survey.now.sites c.loop-site.site-index c.site-item.result (search rules) (c.site-item.is ∙ ap (λ xs. get_or xs c.loop-site.site-index c.site-item.result) c.as_slice-site-items.ensures)
      (sym (listed_is c.loop-site.listed (take c.loop-site.site-index c.args.survey.now.sites) c.loop-site.invariant.holds c.site-item.result.place.scope c.site-item.result.what) ∙ sym c.in_ok-note.ensures.repeats ∙ c.if-branch.false);
  holds = subst (Holds c.note.new.self) (sym (take_site c.args.survey.now.sites c.loop-site.site-index c.site-item.result (search rules) (c.site-item.is ∙ ap (λ xs. get_or xs c.loop-site.site-index c.site-item.result) c.as_slice-site-items.ensures)))
      (holds_more c.loop-site.listed c.note.new.self _ c.site-item.result c.loop-site.invariant.holds c.in_ok-note.ensures.notes);
}

pub returns-then-branch : goal.returns-then-branch
returns-then-branch c = sym (c.loop-site.invariant.found
    ∙ caught (fault Repeat c.args.survey.now) c.args.survey.now.sites c.loop-site.site-index c.site-item.result (search rules) (c.site-item.is ∙ ap (λ xs. get_or xs c.loop-site.site-index c.site-item.result) c.as_slice-site-items.ensures)
    (sym (listed_is c.loop-site.listed (take c.loop-site.site-index c.args.survey.now.sites) c.loop-site.invariant.holds c.site-item.result.place.scope c.site-item.result.what) ∙ sym c.in_ok-note.ensures.repeats ∙ c.if-branch.true))
