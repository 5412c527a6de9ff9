use Rattle.std.proofs.Common.{◌≡◌, ◌-◌, List, ◌++◌, length}
use Rattle.flow_code.specs.declared.statement.Line.{Line}
use Rattle.flow_code.specs.declared.statement.Statement.TheVariants as flat
use Rattle.flow_lower.specs.Lower.{copies}
use Rattle.flow_lower.proofs.script.put_free.Given as goal

abbrev pub invariant-loop-index : goal.invariant-loop-index
invariant-loop-index l = (tail : List Line) → l.out.items ++ copies flat.Free (l.count - l.index) (length l.out.items) l.index tail ≡ l.fn.out.items ++ copies flat.Free l.count (length l.fn.out.items) 0 tail
