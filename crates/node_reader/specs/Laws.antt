-- The laws of the text relation.
use Rattle.std.specs.Prelude.{◌≡◌, ℕ, List}
use Rattle.node_tree.specs.declared.script.NodeScript.{NodeScript}
use Rattle.node_text.specs.Written.{IsNodeText}

-- a text is that of one tree at most
abbrev pub OneTree : Type 0
OneTree = (text : List ℕ) (s t : NodeScript) → IsNodeText text s → IsNodeText text t → s ≡ t

-- a tree has one text at most
abbrev pub OneText : Type 0
OneText = (text other : List ℕ) (s : NodeScript) → IsNodeText text s → IsNodeText other s → text ≡ other
