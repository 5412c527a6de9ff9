-- Parts with names, as the laws read them.
use Rattle.carried_codes.specs.Parts as parts
use Rattle.reform_blocks.specs.Parts.{carrier}
use Rattle.reform_functions.specs.declared.functions.Named.{Named}

abbrev pub named_of : Named → parts.Named
named_of k = record { name = k.name; part = carrier k.part }
