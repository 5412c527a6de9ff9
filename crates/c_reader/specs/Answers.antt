-- When an answer is NotC.
use Rattle.c_reader.specs.declared.end.ReadEnd.{ReadEnd}
use Rattle.c_reader.specs.declared.end.ReadEnd.TheVariants as end
use Rattle.c_reader.specs.declared.end.Miss.{Miss}
use Rattle.c_reader.specs.declared.end.Miss.TheVariants as miss

-- the fact holds where the end is NotC
abbrev pub OnNotC : ReadEnd → Type 0 → Type 0
OnNotC (end.NotC line) fact = fact
OnNotC end.Memory fact = Unit {0}

-- the same inside the reader
abbrev pub OnMiss : Miss → Type 0 → Type 0
OnMiss (miss.NotC left) fact = fact
OnMiss miss.Memory fact = Unit {0}
