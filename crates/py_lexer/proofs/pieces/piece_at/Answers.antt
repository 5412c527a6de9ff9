use Rattle.std.proofs.Common.{◌≡◌, ℕ, ◌+◌, ◌-◌, ◌<◌, ◌≤◌, List, [], ◌∷◌, length, take, drop, get_or, Result, Ok, Err, IfOk, true, refl, ap, sym, ◌∙◌, arith}
use Rattle.std.proofs.lemmas.List.{take_all}
use Rattle.py_lexer.specs.declared.runs.Class.TheVariants as class
use Rattle.py_lexer.specs.declared.pieces.Found.{Found}
use Rattle.py_lexer.specs.declared.refusals.Stop.{Stop}
use Rattle.py_lexer.specs.PhysicalLines.{line_ends}
use Rattle.py_lexer.proofs.LineEnds.{run_none, all_plain, plain_front}
use Rattle.py_lexer.proofs.pieces.piece_at.Goals as goal
use Rattle.py_lexer.proofs.pieces.piece_at.Goals.{in-92-1, in_default-c+else-begins_word+in-92-1, in_default-2+else-begins_numeral+in-92-1}

-- the backslash has no line ends
joint : (r : Result Found Stop) (s : List ℕ) (c : ℕ) → 0 < length s → c ≡ get_or s 0 c → c ≡ 92 → IfOk r (λ x. (0 < x.length) × (x.length ≤ length (take (length s - 1) (drop 1 s)) + 1)) → IfOk r (λ x. x.lines ≡ line_ends (take (x.length - 1) (take (length s - 1) (drop 1 s))))
    → IfOk r (λ x. x.lines ≡ line_ends (take x.length s))
joint r [] c there here is within lines = absurd (omega arith)
joint (Err e) (d ∷ s) c there here is within lines = tt
joint (Ok x) (d ∷ s) c there here is within lines = lines ∙ ap (λ t. line_ends (take (x.length - 1) t)) (take_all (length (d ∷ s) - 1) s (omega arith)) ∙ sym (plain_front 1 (x.length - 1) (d ∷ s) plain) ∙ ap (λ n. line_ends (take n (d ∷ s))) sum
  where
    backslash : d ≡ 92
    backslash = sym here ∙ is

    plain : all_plain (d ∷ []) ≡ true
    plain = ap (λ c. all_plain (c ∷ [])) backslash

    sum : 1 + (x.length - 1) ≡ x.length
    sum = omega (arith, within.0)

pub returns-in-92-clause-lines : goal.returns-in-92-clause-lines
returns-in-92-clause-lines c = joint c.joint_at.result c.args.text.now c.c-item.result c.requires.there c.c-item.is is c.joint_at.ensures.within c.joint_at.ensures.lines
  where
    is : c.c-item.result ≡ 92
    is = elim c.in-92-1.branch [ in-92-1 w ↦ omega arith | in_default-c+else-begins_word+in-92-1 w ↦ omega arith | in_default-2+else-begins_numeral+in-92-1 w ↦ omega arith ]

pub returns-in-35-clause-lines : goal.returns-in-35-clause-lines
returns-in-35-clause-lines c = rw c.run.ensures.value (run_none class.Comment c.args.text.now refl refl)

pub returns-in-32-clause-lines : goal.returns-in-32-clause-lines
returns-in-32-clause-lines c = rw c.run-n.ensures.value (run_none class.Blank c.args.text.now refl refl)
