use Rattle.std.proofs.Common.{◌≡◌, ◌+◌, map, drop}
use Rattle.node_tree.specs.Blocks.{append}
use Rattle.node_tree.specs.Tree.{block}
use Rattle.py_meaning.specs.Scopes.{parameter_of}
use Rattle.reform_homes.specs.Unset.{cells_from}
use Rattle.reform_homes.proofs.begun.with_cells.Given as goal

abbrev pub invariant-loop-number : goal.invariant-loop-number
invariant-loop-number l =
    append (block l.made) (cells_from l.line l.spare (l.first + l.number) (map (parameter_of l.params) (drop l.number l.own)))
    ≡ append (block l.fn.nodes) (cells_from l.line l.spare l.first (map (parameter_of l.params) l.own))
