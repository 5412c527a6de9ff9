use Rattle.std.proofs.Common.{◌≡◌, drop}
use Rattle.std.specs.List.{list_any}
use Rattle.py_meaning.specs.Resolved as meaning
use Rattle.reform_walk.proofs.shapes.has_slash.Given as goal

abbrev pub invariant-loop-param : goal.invariant-loop-param
invariant-loop-param l = list_any meaning.is_slash l.params ≡ list_any meaning.is_slash (drop l.param-index l.params)
