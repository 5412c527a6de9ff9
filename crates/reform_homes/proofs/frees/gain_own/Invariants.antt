use Rattle.std.proofs.Common.{◌==◌, drop}
use Rattle.py_meaning.specs.Scopes.{is_free, names_where}
use Rattle.reform_homes.specs.Gaining.{Rest, texts}
use Rattle.reform_homes.proofs.frees.gain_own.Given as goal

abbrev pub invariant-loop-number : goal.invariant-loop-number
invariant-loop-number l =
    Rest l.initial.lists.items l.lists.items (λ a. texts (is_free a) (names_where (λ scope. a == scope) 0 l.scopes)) (λ a. texts (is_free a) (names_where (λ scope. a == scope) l.number (drop l.number l.scopes)))
