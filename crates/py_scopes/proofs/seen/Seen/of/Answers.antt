use Rattle.std.proofs.Common.{rules, subst, sym}
use Rattle.py_scopes.specs.Seen.{Sees}
use Rattle.py_scopes.proofs.Turns.{take_site, sees_more}
use Rattle.py_scopes.proofs.seen.Seen.of.Goals as goal

pub loop-site-preserved : goal.loop-site-preserved
loop-site-preserved c =
    subst (Sees c.note.new.self) (sym (take_site c.args.sites.now c.loop-site.site-index c.site-item.result (search rules) c.site-item.is))
    (sees_more c.loop-site.seen c.note.new.self _ c.site-item.result c.loop-site.invariant c.in_ok-note.ensures)
