use Rattle.std.proofs.Common.{◌≡◌, ap, ◌∙◌}
use Rattle.std.specs.Str.{chars}
use Rattle.py_lexer.specs.Pieces.{past_mark}
use Rattle.py_lexer.proofs.Passing.{answered}
use Rattle.py_lexer.proofs.script.lex.Goals as goal

pub returns : goal.returns
returns c =
    let utf8 = c.in-Ok.ensures.cases in
    let e : c.past_mark.result.now ≡ past_mark (chars c.args.text.now) = c.past_mark.ensures ∙ ap past_mark (c.deref.ensures.value ∙ c.in_ok-chars.ensures.value ∙ ap chars utf8.0) in
    answered (λ v. v.items) c.tokens_of.result c.args.text.now c.past_mark.result.now e utf8.1 c.tokens_of.ensures
