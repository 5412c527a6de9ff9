use Rattle.std.proofs.Common.{rules, ap}
use Rattle.py_scopes.specs.Filling.{with_name}
use Rattle.py_scopes.proofs.Changed.{changed_at, changed_behind}
use Rattle.py_scopes.proofs.scopes.add_name.Goals as goal

pub returns-in_ok-push : goal.returns-in_ok-push
returns-in_ok-push c =
    changed_at (with_name c.args.name) c.args.at c.args.scopes.now.items c.index_mut.result.now _ (search rules) c.index_mut.ensures.value (ap (λ names. record c.index_mut.result.now { names = names }) c.in_ok-push.ensures.ok)

pub returns-else-at-len : goal.returns-else-at-len
returns-else-at-len c = changed_behind (with_name c.args.name) c.args.at c.args.scopes.now.items (search rules)
