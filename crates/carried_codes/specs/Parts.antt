-- What stands for the parts of a construct, with the next temporary.
use Rattle.std.specs.Prelude.{ℕ, List}
use Rattle.code_forms.specs.declared.operand.Operand.{Operand}
use Rattle.node_tree.specs.Blocks as tree
use Rattle.carries_base.specs.Carries.{Carrier}

-- an expression
pub record Valued : Type 0 where
  pub part : Carrier
  pub next : ℕ

-- several parts
pub record Several (A : Type 0) : Type 0 where
  pub parts : List A
  pub next : ℕ

-- what has no value
pub record Made : Type 0 where
  pub block : tree.Block
  pub next : ℕ

abbrev pub part : tree.Block → Operand → Carrier
part b o = record { block = b; value = o }

-- a block that leaves its value in an operand
abbrev pub valued : tree.Block → Operand → ℕ → Valued
valued b o n = record { part = part b o; next = n }

abbrev pub several : {A : Type 0} → List A → ℕ → Several A
several ps n = record { parts = ps; next = n }

abbrev pub made : tree.Block → ℕ → Made
made b n = record { block = b; next = n }

-- a part with a name
pub record Named : Type 0 where
  pub name : List ℕ
  pub part : Carrier

-- a decorator, with the line of its expression
pub record Decorator : Type 0 where
  pub line : ℕ
  pub part : Carrier
