use Rattle.std.proofs.Common.{rules, ap, ◌∙◌, map}
use Rattle.node_tree.specs.Blocks.{append}
use Rattle.node_tree.specs.Tree.{block}
use Rattle.py_meaning.specs.Scopes.{parameter_of}
use Rattle.reform_homes.specs.Unset.{cells_from}
use Rattle.reform_homes.proofs.Before.{cells_step, cells_end}
use Rattle.reform_homes.proofs.begun.with_cells.Goals as goal

pub loop-number-preserved : goal.loop-number-preserved
loop-number-preserved c =
    cells_step c.args.line c.args.spare c.args.first c.loop-number.number (parameter_of c.args.params.now) c.args.own.now c.index-own-number.result (block c.loop-number.made) (block c.in_ok-made.made)
    (append (block c.args.nodes) (cells_from c.args.line c.args.spare c.args.first (map (parameter_of c.args.params.now) c.args.own.now)))
    (search rules) c.index-own-number.is c.loop-number.invariant (c.in_ok-made.ensures ∙ ap (append (block c.loop-number.made)) c.in_ok-cell.ensures)

pub returns : goal.returns
returns c =
    cells_end c.args.line c.args.spare c.args.first c.loop-number.number (parameter_of c.args.params.now) c.args.own.now (block c.loop-number.made)
    (append (block c.args.nodes) (cells_from c.args.line c.args.spare c.args.first (map (parameter_of c.args.params.now) c.args.own.now))) (search rules) c.loop-number.invariant
