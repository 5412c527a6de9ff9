use Rattle.py_scopes.proofs.seen.enlist.Goals as goal

pub returns-clause-adds : goal.returns-clause-adds
returns-clause-adds c = λ s x. c.in_ok-is_new.ensures.updates.0 (s, record c.args.name { now = x })
