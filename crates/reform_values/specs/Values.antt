-- Expressions with the next temporary, as the laws read them.
use Rattle.carried_codes.specs.Parts as parts
use Rattle.reform_blocks.specs.Parts.{carrier}
use Rattle.reform_values.specs.declared.made.Valued.{Valued}

abbrev pub valued_of : Valued → parts.Valued
valued_of v = record { part = carrier v.part; next = v.next }
