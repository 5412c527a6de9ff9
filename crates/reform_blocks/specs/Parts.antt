-- Evaluated expressions, as the laws read them.
use Rattle.node_tree.specs.Tree.{block}
use Rattle.carries_base.specs.Carries.{Carrier}
use Rattle.reform_base.specs.declared.Part.{Part}

abbrev pub carrier : Part → Carrier
carrier p = record { block = block p.block; value = p.value }
