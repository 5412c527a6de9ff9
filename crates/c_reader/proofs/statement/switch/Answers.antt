use Rattle.std.proofs.Common.{sym, ◌∙◌, ◌++◌}
use Rattle.std.specs.Prelude.{codes}
use Rattle.c_reader.proofs.Statements.{switch_cases, switch_same, no_empty_switch}
use Rattle.c_reader.proofs.statement.switch.Goals as goal

pub returns-in_default-clause-none : goal.returns-in_default-clause-none
returns-in_default-clause-none c = λ labels rest s. c.in_default.ensures.none _ s.spelled

pub returns-in_default-2-clause-none : goal.returns-in_default-2-clause-none
returns-in_default-2-clause-none c = λ labels rest s.
    (rw c.in_default-2.is at c.in_ok-labels.ensures.none) labels (codes " }\n" ++ rest) (switch_cases c.args.registers c.args.text.now c.in-Some.behind.now labels rest c.in-Some.ensures.some s)

pub returns-in_default-after-clause-none : goal.returns-in_default-after-clause-none
returns-in_default-after-clause-none c = λ labels rest s.
    c.in_default-after.ensures.none rest
    (switch_same c.args.registers c.args.text.now c.in-Some.behind.now c.in-Some-2.behind.now c.in-Some-2.labels labels rest c.in-Some.ensures.some (rw c.in-Some-2.is at c.in_ok-labels.ensures.some) s).1

pub returns-then-len-eq0-clause-none : goal.returns-then-len-eq0-clause-none
returns-then-len-eq0-clause-none c =
    no_empty_switch c.args.registers c.args.text.now c.in-Some.behind.now c.in-Some-2.behind.now c.in-Some-2.labels c.in-Some.ensures.some (rw c.in-Some-2.is at c.in_ok-labels.ensures.some) (sym c.len.ensures ∙ c.if-len-eq0.true)
