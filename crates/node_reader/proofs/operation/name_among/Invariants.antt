use Rattle.std.proofs.Common.{ℕ, List, drop}
use Rattle.std.specs.List.{AllByRecursion}
use Rattle.node_reader.specs.Lines.{NameStands}
use Rattle.node_reader.proofs.operation.name_among.Given as goal

-- where none of what is left stands there, none of the table does
abbrev pub invariant-loop-op : goal.invariant-loop-op
invariant-loop-op l = AllByRecursion (λ o. (rest : List ℕ) → NameStands l.text o rest → ⊥) (drop l.op-index l.table) → AllByRecursion (λ o. (rest : List ℕ) → NameStands l.text o rest → ⊥) l.table
