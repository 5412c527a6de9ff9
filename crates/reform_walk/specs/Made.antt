-- Parts of constructs, as the laws read them.
use Rattle.std.specs.Prelude.{map}
use Rattle.node_tree.specs.Tree.{block}
use Rattle.reform_blocks.specs.Parts.{carrier}
use Rattle.reform_functions.specs.Names.{named_of}
use Rattle.reform_targets.specs.Places.{place_of}
use Rattle.walk_laws.specs.Expressions as walk
use Rattle.reform_walk.specs.declared.parts.Aim.{Aim}
use Rattle.reform_walk.specs.declared.parts.Turn.{Turn}
use Rattle.reform_walk.specs.declared.parts.Turn.TheVariants as turn
use Rattle.reform_walk.specs.declared.parts.Defaults.{Defaults}

abbrev pub aim_of : Aim → walk.Aim
aim_of a = walk.aim a.starred (place_of a.place)

abbrev pub turn_of : Turn → walk.Turn
turn_of (turn.Ranges item bind over) = walk.Ranges item (block bind) (carrier over)
turn_of (turn.Filters test) = walk.Filters (carrier test)

abbrev pub defaults_of : Defaults → walk.Defaults
defaults_of d = record { positional = map carrier d.positional.items; named = map named_of d.named.items }
