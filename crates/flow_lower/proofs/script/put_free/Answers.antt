use Rattle.std.proofs.Common.{◌∙◌}
use Rattle.flow_code.specs.declared.statement.Statement.TheVariants as flat
use Rattle.flow_lower.proofs.Emitted.{copies_step}
use Rattle.flow_lower.proofs.script.put_free.Goals as goal

pub loop-index-preserved : goal.loop-index-preserved
loop-index-preserved c = λ tail.
    copies_step flat.Free c.args.count c.loop-index.index _ c.loop-index.out.items c.put.new.out.items c.loop-index-test.true (c.len-to.ensures ∙ c.loop-index.out.ok.0) c.in_ok-put.ensures tail
    ∙ c.loop-index.invariant tail
