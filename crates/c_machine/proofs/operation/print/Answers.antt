use Rattle.std.proofs.Common.{refl, subst}
use Rattle.nu_base.specs.Outside.{AddsFront}
use Rattle.c_machine.proofs.operation.print.Goals as goal

pub returns-in-Err-Failed-clause-comes : goal.returns-in-Err-Failed-clause-comes
returns-in-Err-Failed-clause-comes g c = record {
  piece = c.args.text.now;
  prints = λ w. refl;
  adds = subst (λ t. AddsFront (g.O.Sink.held c.args.out.now) (g.O.Sink.held c.put.new.self) t) c.as_bytes.ensures.value (rw c.in-Err-Failed.field-0-is at c.in-Err-Failed.ensures).bytes;
}
