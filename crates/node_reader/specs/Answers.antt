-- When an answer is NotNodes.
use Rattle.node_reader.specs.declared.end.NodeEnd.{NodeEnd}
use Rattle.node_reader.specs.declared.end.NodeEnd.TheVariants as end
use Rattle.node_reader.specs.declared.end.Miss.{Miss}
use Rattle.node_reader.specs.declared.end.Miss.TheVariants as miss

-- the fact holds where the end is NotNodes
abbrev pub OnNotNodes : NodeEnd → Type 0 → Type 0
OnNotNodes (end.NotNodes line) fact = fact
OnNotNodes end.Memory fact = Unit {0}

-- the same inside the reader
abbrev pub OnMiss : Miss → Type 0 → Type 0
OnMiss (miss.NotNodes left) fact = fact
OnMiss miss.Memory fact = Unit {0}
