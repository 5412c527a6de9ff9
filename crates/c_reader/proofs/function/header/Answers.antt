use Rattle.c_reader.proofs.Heads.{no_front, header_back, header_opening, header_brace, header_declared, header_of}
use Rattle.c_reader.proofs.function.header.Goals as goal

pub returns-in_default-clause-not_c : goal.returns-in_default-clause-not_c
returns-in_default-clause-not_c c = no_front c.args.value c.args.text.now (rw c.in_default.is at c.in_ok-scope.ensures.none)

pub returns-in_default-back-clause-not_c : goal.returns-in_default-back-clause-not_c
returns-in_default-back-clause-not_c c = λ h slots registers rest s.
    c.in_default-back.ensures.none h.generator slots h.line _ (header_back c.args.value c.args.text.now c.in-Some.behind.now c.in-Some.scope c.in-Some.params h slots registers rest (rw c.in-Some.is at c.in_ok-scope.ensures.some) s)

pub returns-in_default-given_number-clause-not_c : goal.returns-in_default-given_number-clause-not_c
returns-in_default-given_number-clause-not_c c = λ h slots registers rest s.
    c.in_default-given_number.ensures.none _
    (header_opening c.args.value c.args.text.now c.in-Some.behind.now c.in-Some-back.behind.now c.in-Some.scope c.in-Some.params c.in-Some-back.generator c.in-Some-back.slots c.in-Some-back.line h slots registers rest (rw c.in-Some.is at c.in_ok-scope.ensures.some)
    c.in-Some-back.ensures.some s)

pub returns-in_default-after-clause-not_c : goal.returns-in_default-after-clause-not_c
returns-in_default-after-clause-not_c c = λ h slots registers rest s.
    c.in_default-after.ensures.none _
    (header_brace c.args.value c.args.text.now c.in-Some.behind.now c.in-Some-back.behind.now c.in-Some-given_number.opened.now c.in-Some.scope c.in-Some.params c.in-Some-back.generator c.in-Some-back.slots c.in-Some-back.line h slots registers rest
    (rw c.in-Some.is at c.in_ok-scope.ensures.some) c.in-Some-back.ensures.some c.in-Some-given_number.ensures.some s)

pub returns-in_default-declaration-clause-not_c : goal.returns-in_default-declaration-clause-not_c
returns-in_default-declaration-clause-not_c c = λ h slots registers rest s.
    c.in_default-declaration.ensures.none registers rest
    (header_declared c.args.value c.args.text.now c.in-Some.behind.now c.in-Some-back.behind.now c.in-Some-given_number.opened.now c.in-Some-after.declared.now c.in-Some.scope c.in-Some.params c.in-Some-back.generator c.in-Some-back.slots c.in-Some-back.line h slots registers rest
    (rw c.in-Some.is at c.in_ok-scope.ensures.some) c.in-Some-back.ensures.some c.in-Some-given_number.ensures.some c.in-Some-after.ensures.some s)

pub returns-clause-ok : goal.returns-clause-ok
returns-clause-ok c =
    header_of c.args.value c.args.text.now c.in-Some.behind.now c.in-Some-back.behind.now c.in-Some-given_number.opened.now c.in-Some-after.declared.now c.in-Some.scope c.in-Some.params c.in-Some-back.generator c.in-Some-back.slots c.in-Some-back.line c.in-Some-declaration.registers
    c.in-Some-declaration.rest.now (rw c.in-Some.is at c.in_ok-scope.ensures.some) c.in-Some-back.ensures.some c.in-Some-given_number.ensures.some c.in-Some-after.ensures.some c.in-Some-declaration.ensures.some
