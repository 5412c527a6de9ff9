use Rattle.std.proofs.Common.{◌==◌, ◌&&◌, not, rules, refl}
use Rattle.py_meaning.specs.Scopes.{is_free, is_inside, names_where}
use Rattle.reform_homes.specs.Gaining.{texts}
use Rattle.reform_homes.proofs.Gaining.{scope_step}
use Rattle.reform_homes.proofs.Standing.{scopes_end}
use Rattle.reform_homes.proofs.frees.gain_inner.Goals as goal

pub loop-number-init : goal.loop-number-init
loop-number-init c = λ a. refl

pub loop-number-preserved : goal.loop-number-preserved
loop-number-preserved c =
    scope_step is_free (λ a scope. is_inside c.args.scopes.now a scope && not (scope == a)) c.loop-number.number c.args.scopes.now c.index-scopes-number.result
    c.args.lists.now.items c.loop-number.lists.items c.spread.new.lists.items
    (λ a. texts (is_free a) (names_where (λ scope. is_inside c.args.scopes.now a scope && not (scope == a)) 0 c.args.scopes.now))
    (search rules) c.index-scopes-number.is c.loop-number.invariant (rw c.as_slice-names.ensures at c.in_ok-spread.ensures)

pub returns : goal.returns
returns c =
    scopes_end is_free (λ a scope. is_inside c.args.scopes.now a scope && not (scope == a)) c.loop-number.number c.args.scopes.now c.args.lists.now.items c.loop-number.lists.items
    (λ a. texts (is_free a) (names_where (λ scope. is_inside c.args.scopes.now a scope && not (scope == a)) 0 c.args.scopes.now))
    (search rules) c.loop-number.invariant
