-- When flat code is that of a node tree, and does what it does.
use Rattle.std.specs.Prelude.{ℕ, ◌+◌, List, [], ◌∷◌, ◌≡◌}
use Rattle.nu_run.specs.Runs.{IsDefined, Same}
use Rattle.op_forms.specs.Rules.{Rules}
use Rattle.node_tree.specs.declared.script.NodeCode.{NodeCode}
use Rattle.node_tree.specs.declared.script.NodeScript.{NodeScript}
use Rattle.node_tree.specs.Run.{node_run}
use Rattle.node_tree.specs.Tree.{block}
use Rattle.flow_code.specs.declared.function.FlatFunction.{FlatFunction}
use Rattle.flow_code.specs.declared.function.FlatScript.{FlatScript}
use Rattle.flow_code.specs.Registers.{registers, above}
use Rattle.flow_code.specs.Run.{flat_run}
use Rattle.flow_lower.specs.Lower.{labels, code_lines}

-- a function is that of a code: the same header, and the code's lines, with as many registers as stand in them
pub record LowersCode (code : NodeCode) (f : FlatFunction) : Type 0 where
  pub header : f.header ≡ code.header
  pub labels : f.labels ≡ 1 + labels (block code.body)
  pub registers : f.registers ≡ above (registers f.body)
  pub body : f.body ≡ code_lines code

-- one function for each code
abbrev pub LowersEach : List NodeCode → List FlatFunction → Type 0
LowersEach [] [] = Unit {0}
LowersEach (c ∷ cs) (f ∷ fs) = LowersCode c f × LowersEach cs fs
LowersEach cs fs = ⊥

-- the same name and number of script functions, and one function for each code
pub record Lowers (script : NodeScript) (flat : FlatScript) : Type 0 where
  pub name : flat.name ≡ script.name
  pub scripts : flat.scripts ≡ script.scripts
  pub functions : LowersEach script.codes flat.functions

-- under all rules of operations and over every input, flat code does what the nodes do, where those never end Undefined
abbrev pub DoesTheSame : NodeScript → FlatScript → Type 0
DoesTheSame script flat = (rules : Rules) (input : List ℕ) → IsDefined (node_run rules script input) → Same (node_run rules script input) (flat_run rules flat input)
