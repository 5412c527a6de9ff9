use Rattle.std.proofs.Common.{◌≡◌, ◌++◌, map, drop}
use Rattle.py_meaning.specs.Resolved as meaning
use Rattle.reform_walk.proofs.shapes.shape.Given as goal

abbrev pub invariant-loop-param : goal.invariant-loop-param
invariant-loop-param g l = meaning.shape (g.H.Here.context l.here) l.params ≡ l.shape ++ map (λ p. (p.0, meaning.name_in (g.H.Here.context l.here) p.1)) (meaning.kinds l.kind (drop l.param-index l.params))
