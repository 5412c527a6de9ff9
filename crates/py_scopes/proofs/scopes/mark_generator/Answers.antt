use Rattle.std.proofs.Common.{rules, refl}
use Rattle.py_scopes.specs.Filling.{as_generator}
use Rattle.py_scopes.proofs.Changed.{changed_at, changed_behind}
use Rattle.py_scopes.proofs.scopes.mark_generator.Goals as goal

pub returns-then-at-len : goal.returns-then-at-len
returns-then-at-len c =
    changed_at as_generator c.args.at c.args.scopes.now.items c.index_mut.result.now _ (search rules) (search rules) refl

pub returns-else-at-len : goal.returns-else-at-len
returns-else-at-len c = changed_behind as_generator c.args.at c.args.scopes.now.items (search rules)
