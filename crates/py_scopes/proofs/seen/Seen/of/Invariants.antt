use Rattle.std.proofs.Common.{take}
use Rattle.py_scopes.specs.Seen.{Sees}
use Rattle.py_scopes.proofs.seen.Seen.of.Given as goal

abbrev pub invariant-loop-site : goal.invariant-loop-site
invariant-loop-site l = Sees l.seen (take l.site-index l.sites)
