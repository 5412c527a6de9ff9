use Rattle.std.proofs.Common.{◌==◌, not, rules, refl}
use Rattle.reform_homes.specs.Gaining.{captured_names}
use Rattle.reform_homes.proofs.Gaining.{scope_step}
use Rattle.reform_homes.proofs.Standing.{scopes_end}
use Rattle.reform_homes.proofs.captured.capture.Goals as goal

pub loop-number-init : goal.loop-number-init
loop-number-init c = λ a. refl

pub loop-number-preserved : goal.loop-number-preserved
loop-number-preserved c =
    scope_step (λ a n. n.home == a) (λ a scope. not (scope == a)) c.loop-number.number c.args.scopes.now c.index-scopes-number.result
    c.args.lists.now.items c.loop-number.lists.items c.lend_all.new.lists.items (captured_names c.args.scopes.now)
    (search rules) c.index-scopes-number.is c.loop-number.invariant (rw c.as_slice-names.ensures at c.in_ok-lend_all.ensures)

pub returns : goal.returns
returns c =
    scopes_end (λ a n. n.home == a) (λ a scope. not (scope == a)) c.loop-number.number c.args.scopes.now c.args.lists.now.items c.loop-number.lists.items (captured_names c.args.scopes.now)
    (search rules) c.loop-number.invariant
