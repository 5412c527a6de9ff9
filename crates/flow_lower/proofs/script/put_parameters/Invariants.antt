use Rattle.std.proofs.Common.{◌≡◌, ◌-◌, List, ◌++◌, length}
use Rattle.flow_code.specs.declared.statement.Line.{Line}
use Rattle.flow_code.specs.declared.statement.Statement.TheVariants as flat
use Rattle.flow_lower.specs.Lower.{copies}
use Rattle.flow_lower.proofs.script.put_parameters.Given as goal

abbrev pub invariant-loop-index : goal.invariant-loop-index
invariant-loop-index l = record {
  lines : (tail : List Line) → l.out.items ++ copies flat.Parameter (l.count - l.index) l.index l.index tail ≡ copies flat.Parameter l.count 0 0 tail;
  many : length l.out.items ≡ l.index;
}
