use Rattle.std.proofs.Common.{◌≡◌, ℕ, ◌+◌, ◌-◌, nat_lt, true, List, take, ap, sym, ◌∙◌, arith}
use Rattle.std.proofs.lemmas.Bool.Decides.{nat_tests}
use Rattle.py_lexer.specs.PhysicalLines.{line_end, line_ends}
use Rattle.py_lexer.proofs.LineEnds.{end_front}
use Rattle.py_lexer.proofs.pieces.joint_at.Goals as goal

some : (n : ℕ) → (n ≡ 0 → ⊥) → nat_lt 0 n ≡ true
some n differ = grind (arith, nat_tests)

back : (n : ℕ) → n + 1 - 1 ≡ n
back n = omega arith

joined : (n : ℕ) (s : List ℕ) → n ≡ line_end s → (n ≡ 0 → ⊥) → 1 ≡ line_ends (take (n + 1 - 1) s)
joined n s e differ = end_front s (ap (λ m. nat_lt 0 m) (sym e) ∙ some n differ) ∙ ap (λ m. line_ends (take m s)) (sym e ∙ sym (back n))

pub returns-clause-lines : goal.returns-clause-lines
returns-clause-lines c = joined c.line_end-end.result c.args.text.now c.line_end-end.ensures.value c.if-end-eq0.false
