use Rattle.std.proofs.Common.{◌≡◌, ℕ, List, length, slice_index, get_or, ◌<◌, [], ◌∷◌, Some, arith, ap, sym, ◌∙◌}
use Rattle.py_lexer.specs.Seen.{read}
use Rattle.py_lexer.proofs.Bodies.{literal_read}
use Rattle.py_lexer.proofs.strings.read_literal.Goals as goal

first : (s : List ℕ) (c : ℕ) → 0 < length s → c ≡ get_or s 0 c → c ≡ slice_index s 0
first [] c there is = absurd (omega arith)
first (d ∷ s) c there is = is

pub returns-in-Some-clause-value : goal.returns-in-Some-clause-value
returns-in-Some-clause-value c = literal_read c.args.raw c.at_quotes-triple.result c.index-text-0.result c.args.text.now c.split_at.result.1.now c.quotes-quotes.result (read (Some c.in-Some.field-0)) c.requires.there (first c.args.text.now c.index-text-0.result c.requires.there c.index-text-0.is)
    c.requires.quote c.at_quotes-triple.ensures.value c.quotes-quotes.ensures c.split_at.ensures.back (ap read (sym c.in-Some.is) ∙ c.in_ok-text.ensures.value)
