use Rattle.std.proofs.Common.{◌≡◌, ℕ, ◌∙◌, Option, refl, arith}
use Rattle.py_lexer.specs.Seen.{measured}
use Rattle.py_lexer.proofs.Digits.{prefix_run, zero_run, no_zero_first, decimal_run}
use Rattle.py_lexer.proofs.numerals.numeral.Goals as goal

as_measured : (d e : Option ℕ) (m n : ℕ) → e ≡ d → n ≡ m → measured d m ≡ measured e n
as_measured d e m n x y = rw (x, y) refl

pub returns-in_default-clause-value : goal.returns-in_default-clause-value
returns-in_default-clause-value c = c.digits.ensures.value ∙ as_measured _ _ _ _ (decimal_run c.args.text.now (λ e. omega (arith, c.in_default.len_below))) refl

pub returns-then-first-ne48-clause-value : goal.returns-then-first-ne48-clause-value
returns-then-first-ne48-clause-value c =
    c.digits-then-first-ne48.ensures.value ∙ as_measured _ _ _ _ (decimal_run c.args.text.now (no_zero_first c.first-item.result c.args.text.now c.in-len2-up.len_at_least c.first-item.is c.if-first-ne48.true)) refl

pub returns-in-Some-clause-value : goal.returns-in-Some-clause-value
returns-in-Some-clause-value c =
    let e = prefix_run c.in-Some.base c.first-item.result c.letter-item.result c.args.text.now _ c.in-len2-up.len_at_least c.first-item.is c.if-first-ne48.false c.letter-item.is refl c.in-Some.ensures.value in
    c.prefixed.ensures.value ∙ as_measured _ _ _ _ e.0 e.1

pub returns-in-None-clause-value : goal.returns-in-None-clause-value
returns-in-None-clause-value c =
    c.zeros.ensures.value
    ∙ as_measured _ _ _ _ (zero_run c.first-item.result c.letter-item.result c.args.text.now c.in-len2-up.len_at_least c.first-item.is c.if-first-ne48.false c.letter-item.is c.in-None.ensures.value) refl
