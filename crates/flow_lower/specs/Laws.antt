-- The law of lowering.
use Rattle.node_tree.specs.declared.script.NodeScript.{NodeScript}
use Rattle.flow_code.specs.declared.function.FlatScript.{FlatScript}
use Rattle.flow_lower.specs.Correct.{Lowers, DoesTheSame}

-- flat code that is that of a node tree does what the tree does
abbrev pub LoweredDoesTheSame : Type 0
LoweredDoesTheSame = (script : NodeScript) (flat : FlatScript) → Lowers script flat → DoesTheSame script flat
