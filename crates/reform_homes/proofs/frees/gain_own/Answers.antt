use Rattle.std.proofs.Common.{◌==◌, rules, refl, ap}
use Rattle.py_meaning.specs.Scopes.{is_free, names_at, names_where}
use Rattle.reform_homes.specs.Gaining.{texts}
use Rattle.reform_homes.proofs.Gaining.{scope_step, gain_same}
use Rattle.reform_homes.proofs.Standing.{scopes_end, own_text}
use Rattle.reform_homes.proofs.frees.gain_own.Goals as goal

pub loop-number-init : goal.loop-number-init
loop-number-init c = λ a. refl

pub loop-number-preserved : goal.loop-number-preserved
loop-number-preserved c =
    scope_step is_free (λ a scope. a == scope) c.loop-number.number c.args.scopes.now c.index-scopes-number.result
    c.args.lists.now.items c.loop-number.lists.items c.gain_free_at.new.lists.items (λ a. texts (is_free a) (names_where (λ scope. a == scope) 0 c.args.scopes.now))
    (search rules) c.index-scopes-number.is c.loop-number.invariant (rw c.as_slice-names.ensures at c.in_ok-gain_free_at.ensures)

pub returns : goal.returns
returns c =
    gain_same c.args.lists.now.items c.loop-number.lists.items (λ a. texts (is_free a) (names_where (λ scope. a == scope) 0 c.args.scopes.now)) (λ a. texts (is_free a) (names_at c.args.scopes.now a))
    (λ a. ap (texts (is_free a)) (own_text a c.args.scopes.now))
    (scopes_end is_free (λ a scope. a == scope) c.loop-number.number c.args.scopes.now c.args.lists.now.items c.loop-number.lists.items
    (λ a. texts (is_free a) (names_where (λ scope. a == scope) 0 c.args.scopes.now)) (search rules) c.loop-number.invariant)
