use Rattle.std.proofs.Common.{◌≡◌, ℕ, ◌+◌, ◌-◌, ◌<◌, ◌≤◌, List, length, take, drop, Result, Ok, Err, IfOk, ap, sym, ◌∙◌, arith}
use Rattle.py_lexer.specs.declared.runs.Class.TheVariants as class
use Rattle.py_lexer.specs.declared.pieces.Found.{Found}
use Rattle.py_lexer.specs.declared.refusals.Stop.{Stop}
use Rattle.py_lexer.specs.Characters.{run_length}
use Rattle.py_lexer.specs.PhysicalLines.{line_ends}
use Rattle.py_lexer.proofs.LineEnds.{run_none, run_front, no_end_in_word}
use Rattle.py_lexer.proofs.pieces.word_at.Goals as goal

-- the prefix has no line ends
prefixed : (r : Result Found Stop) (n : ℕ) (s rest : List ℕ) → n ≡ run_length class.Word s → rest ≡ drop n s → IfOk r (λ x. (n < x.length) × (x.length ≤ n + length rest)) → IfOk r (λ x. x.lines ≡ line_ends (take (x.length - n) rest))
    → IfOk r (λ x. x.lines ≡ line_ends (take x.length s))
prefixed (Ok x) n s rest is here within e = e ∙ ap (λ t. line_ends (take (x.length - n) t)) (here ∙ ap (λ m. drop m s) is) ∙ sym (run_front class.Word (x.length - n) s no_end_in_word.0 no_end_in_word.1) ∙ ap (λ m. line_ends (take m s)) (sum (run_length class.Word s) is)
  where
    sum : (m : ℕ) → n ≡ m → m + (x.length - n) ≡ x.length
    sum m e = omega (arith, within.0)
prefixed (Err e) n s rest is here within lines = tt

pub returns-then-is_raw-clause-lines : goal.returns-then-is_raw-clause-lines
returns-then-is_raw-clause-lines c = let size : c.len-n.result ≡ run_length class.Word c.args.text.now = omega (arith, c.len-n.ensures, c.in_ok-word.ensures.size) in prefixed c.literal_at.result c.len-n.result c.args.text.now c.split_at.result.1.now size c.split_at.ensures.back c.literal_at.ensures.within c.literal_at.ensures.lines

pub returns-in-Some-clause-lines : goal.returns-in-Some-clause-lines
returns-in-Some-clause-lines c = let size : c.len-n.result ≡ run_length class.Word c.args.text.now = omega (arith, c.len-n.ensures, c.in_ok-word.ensures.size) in rw size (run_none class.Word c.args.text.now no_end_in_word.0 no_end_in_word.1)
