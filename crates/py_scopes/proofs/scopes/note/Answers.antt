use Rattle.std.proofs.Common.{rules}
use Rattle.py_scopes.proofs.Filled.{no_change, old_name}
use Rattle.py_scopes.proofs.scopes.note.Goals as goal

pub returns-in_default-clause-scopes : goal.returns-in_default-clause-scopes
returns-in_default-clause-scopes c =
    no_change c.args.survey.now c.args.named.now.keys c.args.site.now.place.scope c.args.site.now.what c.args.site.now.place.scope c.args.scopes.now.items (search rules) c.in_default.ensures

pub returns-then-not-branch-clause-scopes : goal.returns-then-not-branch-clause-scopes
returns-then-not-branch-clause-scopes c =
    old_name c.args.survey.now c.args.named.now.keys c.args.site.now.place.scope c.args.site.now.what c.args.site.now.place.scope c.args.scopes.now.items c.in-Some.name.now (search rules) c.in-Some.ensures (search rules)
