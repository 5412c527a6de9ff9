-- What stands in displays, as the laws read it.
use Rattle.carries_values.specs.Displays as displays
use Rattle.reform_blocks.specs.Parts.{carrier}
use Rattle.reform_values.specs.declared.displays.Item.{Item}
use Rattle.reform_values.specs.declared.displays.Item.TheVariants as item
use Rattle.reform_values.specs.declared.displays.Entry.{Entry}
use Rattle.reform_values.specs.declared.displays.Entry.TheVariants as entry

abbrev pub item_of : Item → displays.Item
item_of (item.One p) = displays.One (carrier p)
item_of (item.Star p) = displays.Star (carrier p)

abbrev pub entry_of : Entry → displays.Entry
entry_of (entry.Pair k p) = displays.Pair (carrier k) (carrier p)
entry_of (entry.Merge p) = displays.Merge (carrier p)
