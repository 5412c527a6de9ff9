-- Nodes in which each operation takes what it is given, and no pause stands.
use Rattle.std.specs.Prelude.{◌≡◌, List, [], ◌∷◌}
use Rattle.node_tree.specs.declared.node.Node.{Node}
use Rattle.node_tree.specs.Contents as contents
use Rattle.node_tree.specs.Tree.{block}
use Rattle.reform_all.specs.declared.choices.Choice.{Choice}
use Rattle.reform_all.specs.Taken.{refused}

pub record Quiet (nodes : List Node) : Type 0 where
  pub taken : refused (block nodes) ≡ 0
  pub yields : contents.yields (block nodes) ≡ 0

-- tests and bodies of branches
abbrev pub AllQuiet : List Choice → Type 0
AllQuiet [] = Unit {0}
AllQuiet (p ∷ ps) = (Quiet p.test.block × Quiet p.body) × AllQuiet ps
