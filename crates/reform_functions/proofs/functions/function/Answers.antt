use Rattle.std.proofs.Common.{◌∙◌, refl, map}
use Rattle.node_tree.specs.Tree.{block}
use Rattle.reform_blocks.specs.Parts.{carrier}
use Rattle.reform_functions.proofs.Defaults.{functions_are}
use Rattle.reform_functions.proofs.functions.function.Goals as goal

pub returns : goal.returns
returns c =
    c.left_in.ensures
    ∙ functions_are c.args.line c.args.code c.args.next c.in_ok-puts.puts.next _ (map carrier c.args.defaults.items) c.args.keywords.items c.args.cells.items (block c.in_ok-first.first) (block c.in_ok-puts.puts.whole) (block c.in_ok-puts.puts.puts) (block c.in_ok-made.made) (block c.in_ok-whole.whole) c.in_ok-first.values.items c.in_ok-values.values c.in_ok-first.ensures.0 c.in_ok-first.ensures.1 c.in_ok-values.ensures c.in_ok-puts.ensures.whole c.in_ok-puts.ensures.puts c.in_ok-puts.ensures.next c.in_ok-made.ensures c.in_ok-whole.ensures refl
