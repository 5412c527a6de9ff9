use Rattle.std.proofs.Common.{◌≡◌, ℕ, Option, Some, None, refl, ap}
use Rattle.py_lexer.specs.declared.runs.Class.TheVariants as class
use Rattle.py_lexer.specs.Seen.{measured}
use Rattle.py_lexer.proofs.LineEnds.{run_none}
use Rattle.py_lexer.proofs.pieces.numeral_at.Goals as goal

size : (d : Option ℕ) (v k n : ℕ) → Some (v, k) ≡ measured d n → k ≡ n
size None v k n e = cc
size (Some w) v k n e = let P : ℕ × ℕ → ℕ = λ p. p.1 in let same : (v, k) ≡ (w, n) = cc in ap P same

pub returns-in-Some-clause-lines : goal.returns-in-Some-clause-lines
returns-in-Some-clause-lines c = rw (size _ c.in-Some.value c.in-Some.length _ c.in-Some.ensures.value) (run_none class.Numeral c.args.text.now refl refl)
