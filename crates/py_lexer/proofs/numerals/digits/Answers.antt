use Rattle.std.proofs.Common.{◌≡◌, ℕ, ◌+◌, ◌∙◌, Bool, Option, Some, None, refl, ap, sym, arith, cond}
use Rattle.py_lexer.specs.declared.runs.Class.TheVariants as class
use Rattle.py_lexer.specs.Characters.{run_length}
use Rattle.py_lexer.specs.Numerals.{value}
use Rattle.py_lexer.specs.Seen.{run, measured}
use Rattle.py_lexer.proofs.Digits.{too_many, spelled_under, counted_under, spelled_digit, counted_digit, no_room, room, run_step, run_ends, wrong_under, wrong_digit, all_read}
use Rattle.py_lexer.proofs.numerals.digits.Goals as goal
use Rattle.py_lexer.proofs.numerals.digits.Goals.{then-c-eq95+else-not-behind, else-c-eq95+in_ok-to_digit+else-number-digit}

none : (d : Option ℕ) (n : ℕ) → d ≡ None → None ≡ measured d n
none d n e = rw e refl

-- the whole run was read
read : (d : Option ℕ) (b : Bool) (v m n k : ℕ) → d ≡ cond b (Some v) None → m + k ≡ n → k ≡ 0 → measured (cond b (Some v) None) m ≡ measured d n
read d b v m n k e sum last = let same : m ≡ n = omega arith in rw (e, same) refl

pub returns-then-not-behind-clause-value : goal.returns-then-not-behind-clause-value
returns-then-not-behind-clause-value c =
    let step = run_step class.Numeral c.in-Some.c c.digits.rest.now c.in-Some.after.now c.in-Some.ensures.0 c.in-Some.ensures.1 in
    none _ _ (wrong_under c.args.base c.in-Some.c c.digits.behind _ _ (run class.Numeral c.args.text.now) step.0 c.if-c-eq95.true c.if-not-behind.true c.digits.invariant.spelled)

pub returns-in_err-to_digit-clause-value : goal.returns-in_err-to_digit-clause-value
returns-in_err-to_digit-clause-value c =
    let step = run_step class.Numeral c.in-Some.c c.digits.rest.now c.in-Some.after.now c.in-Some.ensures.0 c.in-Some.ensures.1 in
    c.from_residual.ensures ∙ none _ _ (wrong_digit c.args.base c.in-Some.c c.digits.behind _ _ (run class.Numeral c.args.text.now) step.0 c.if-c-eq95.false (omega (arith, c.in_err-to_digit.ensures.value)) c.digits.invariant.spelled)

pub returns-then-number-digit-clause-value : goal.returns-then-number-digit-clause-value
returns-then-number-digit-clause-value c =
    let step = run_step class.Numeral c.in-Some.c c.digits.rest.now c.in-Some.after.now c.in-Some.ensures.0 c.in-Some.ensures.1 in
    let d = c.in_ok-to_digit.ensures.value in
    let over = no_room 0x7fffffffffffffffffffffffffffffff c.args.base c.from.result c.digits.number c.in_ok-to_digit.field-0 c.from-digit.result (omega arith) c.from.ensures c.from-digit.ensures (omega (arith, d)) c.if-number-digit.true in
    none _ _ (too_many c.args.base c.digits.number c.in_ok-to_digit.field-0 c.in-Some.c (run class.Numeral c.args.text.now) (run class.Numeral c.in-Some.after.now) (omega arith) (ap (value c.args.base c.digits.number) (sym step.0) ∙ c.digits.invariant.counted)
    c.if-c-eq95.false (sym d.1) over)

pub digits-preserved : goal.digits-preserved
digits-preserved c =
    let step = run_step class.Numeral c.in-Some.c c.digits.rest.now c.in-Some.after.now c.in-Some.ensures.0 c.in-Some.ensures.1 in
    let more : c.digits.length + 1 + run_length class.Numeral c.in-Some.after.now ≡ run_length class.Numeral c.args.text.now = omega (arith, step.1, c.digits.invariant.measured) in
    elim c.if-c-eq95.branch [
      | then-c-eq95+else-not-behind w ↦ record {
        spelled = rw w.behind-is (sym (spelled_under c.args.base c.digits.behind _ _ c.in-Some.c step.0 w.if-c-eq95.true w.if-not-behind.false) ∙ c.digits.invariant.spelled);
        counted = rw w.number-is (sym (counted_under c.args.base c.digits.number _ _ c.in-Some.c step.0 w.if-c-eq95.true) ∙ c.digits.invariant.counted);
        below = omega (arith, c.digits.invariant.below);
        measured = more;
      }
      | else-c-eq95+in_ok-to_digit+else-number-digit w ↦ record {
        spelled = rw w.behind-is (sym (spelled_digit c.args.base c.digits.behind _ _ c.in-Some.c step.0 w.if-c-eq95.false w.in_ok-to_digit.ensures.value.0) ∙ c.digits.invariant.spelled);
        counted = rw (w.number-is, w.from-else-c-eq95.ensures, w.from-digit.ensures, w.in_ok-to_digit.ensures.value.1) (sym (counted_digit c.args.base c.digits.number _ _ c.in-Some.c step.0 w.if-c-eq95.false) ∙ c.digits.invariant.counted);
        below = rw (w.number-is, w.from-else-c-eq95.ensures, w.from-digit.ensures) (omega (arith, room 0x7fffffffffffffffffffffffffffffff c.args.base w.from.result c.digits.number w.in_ok-to_digit.field-0 w.from-digit.result (omega arith) w.from.ensures w.from-digit.ensures (omega (arith, w.in_ok-to_digit.ensures.value)) w.if-number-digit.false));
        measured = more;
      }
    ]

pub returns-then-behind-clause-value : goal.returns-then-behind-clause-value
returns-then-behind-clause-value c =
    let i = c.digits.invariant in
    let end_ = all_read c.args.base c.digits.number c.digits.behind (run class.Numeral c.digits.rest.now) (run class.Numeral c.args.text.now) (run_ends class.Numeral c.digits.rest.now c.in_default.ensures) i.spelled i.counted i.below in
    ap (λ b. measured (cond b (Some c.digits.number) None) c.digits.length) (sym c.if-behind.true) ∙ read _ c.digits.behind c.digits.number c.digits.length _ (run_length class.Numeral c.digits.rest.now) end_ i.measured c.in_default.ensures

pub returns-else-behind-clause-value : goal.returns-else-behind-clause-value
returns-else-behind-clause-value c =
    let i = c.digits.invariant in
    let end_ = all_read c.args.base c.digits.number c.digits.behind (run class.Numeral c.digits.rest.now) (run class.Numeral c.args.text.now) (run_ends class.Numeral c.digits.rest.now c.in_default.ensures) i.spelled i.counted i.below in
    ap (λ b. measured (cond b (Some c.digits.number) None) c.digits.length) (sym c.if-behind.false) ∙ read _ c.digits.behind c.digits.number c.digits.length _ (run_length class.Numeral c.digits.rest.now) end_ i.measured c.in_default.ensures
