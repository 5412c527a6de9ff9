use Rattle.std.proofs.Common.{◌+◌, ◌-◌, ◌++◌, sym, ap, ◌∙◌}
use Rattle.flow_code.specs.declared.statement.Statement.TheVariants as flat
use Rattle.flow_lower.specs.Lower.{copies}
use Rattle.flow_lower.proofs.Emitted.{copies_step, put_length}
use Rattle.flow_lower.proofs.script.put_parameters.Goals as goal

pub loop-index-preserved : goal.loop-index-preserved
loop-index-preserved c =
    let many = put_length c.loop-index.out.items c.put.new.out.items _ c.in_ok-put.ensures ∙ ap (λ n. n + 1) c.loop-index.invariant.many in
    record {
      lines = λ tail.
          ap (λ n. c.put.new.out.items ++ copies flat.Parameter (c.args.count - (c.loop-index.index + 1)) n (c.loop-index.index + 1) tail) (sym many)
          ∙ copies_step flat.Parameter c.args.count c.loop-index.index _ c.loop-index.out.items c.put.new.out.items c.loop-index-test.true (sym c.loop-index.invariant.many) c.in_ok-put.ensures tail
          ∙ ap (λ n. c.loop-index.out.items ++ copies flat.Parameter (c.args.count - c.loop-index.index) n c.loop-index.index tail) c.loop-index.invariant.many
          ∙ c.loop-index.invariant.lines tail;
      many = many;
    }
