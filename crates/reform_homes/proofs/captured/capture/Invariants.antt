use Rattle.std.proofs.Common.{◌==◌, not, drop}
use Rattle.py_meaning.specs.Scopes.{names_where}
use Rattle.reform_homes.specs.Gaining.{Rest, texts, captured_names}
use Rattle.reform_homes.proofs.captured.capture.Given as goal

abbrev pub invariant-loop-number : goal.invariant-loop-number
invariant-loop-number l =
    Rest l.initial.lists.items l.lists.items (captured_names l.scopes) (λ a. texts (λ n. n.home == a) (names_where (λ scope. not (scope == a)) l.number (drop l.number l.scopes)))
