use Rattle.std.proofs.Common.{◌==◌, ◌&&◌, not, drop}
use Rattle.py_meaning.specs.Scopes.{is_free, is_inside, names_where}
use Rattle.reform_homes.specs.Gaining.{Rest, texts}
use Rattle.reform_homes.proofs.frees.gain_inner.Given as goal

abbrev pub invariant-loop-number : goal.invariant-loop-number
invariant-loop-number l =
    Rest l.initial.lists.items l.lists.items (λ a. texts (is_free a) (names_where (λ scope. is_inside l.scopes a scope && not (scope == a)) 0 l.scopes))
    (λ a. texts (is_free a) (names_where (λ scope. is_inside l.scopes a scope && not (scope == a)) l.number (drop l.number l.scopes)))
