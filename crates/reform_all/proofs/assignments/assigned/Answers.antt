use Rattle.std.proofs.Common.{Ok, subst, sym}
use Rattle.reform_all.specs.Assignments.{Assigned}
use Rattle.reform_all.proofs.Assigns.{assigns}
use Rattle.reform_all.proofs.assignments.assigned.Goals as goal

pub returns : goal.returns
returns c = λ names holds.
    subst (λ l. Assigned names c.args.targets.now c.args.x.now c.args.temps.now c.stored.new.temps (Ok l)) (sym c.in_ok-whole.ensures)
    (assigns names c.args.targets.now c.args.x.now c.args.temps.now c.expression.new.temps c.stored.new.temps c.in_ok-block.field-0 c.in_ok-stores.stores (c.in_ok-block.ensures names holds) c.in_ok-stores.ensures)
