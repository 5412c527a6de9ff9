use Rattle.std.proofs.Common.{◌∙◌, sym, arith, string_bytes}
use Rattle.py_lexer.specs.Seen.{characters_or_none}
use Rattle.py_lexer.proofs.Bodies.{reached_next, reached_end, reached_near, lines_most, at_most_one}
use Rattle.py_lexer.proofs.strings.body.Goals as goal

pub returns-then-at_quotes-clause-value : goal.returns-then-at_quotes-clause-value
returns-then-at_quotes-clause-value c =
    reached_end c.args.literal c.args.text.now c.split_at.result.1.now c.loop-at.at c.loop-at.lines c.quotes-quotes.result (string_bytes c.loop-at.out) c.loop-at.refused c.requires.quote c.split_at.ensures.back (omega (arith, c.split_at.ensures.back_len))
    (sym c.at_quotes.ensures.value ∙ c.if-at_quotes.true) c.quotes-quotes.ensures c.loop-at.invariant.reached

pub returns-then-at_quotes-clause-near : goal.returns-then-at_quotes-clause-near
returns-then-at_quotes-clause-near c = reached_near c.args.literal c.args.text.now c.loop-at.at c.loop-at.lines (string_bytes c.loop-at.out) c.loop-at.refused c.loop-at.invariant.reached

pub overflow_add-lines : goal.overflow_add-lines
overflow_add-lines c =
    let few = lines_most c.args.literal c.args.text.now c.loop-at.at c.loop-at.lines (string_bytes c.loop-at.out) c.loop-at.refused c.loop-at.invariant.reached in
    omega (arith, few, c.in-Some.ensures.lines, at_most_one c.split_at.result.1.now, c.requires.short)

pub loop-at-preserved : goal.loop-at-preserved
loop-at-preserved c = record {
  within = omega (arith, c.in-Some.ensures.within, c.split_at.ensures.back_len);
  reached = rw (c.in_ok-push.ensures, c.first_refused-refused.ensures) (reached_next c.args.literal c.args.text.now c.split_at.result.1.now c.loop-at.at c.in-Some.item.length c.loop-at.lines c.in-Some.item.lines (string_bytes c.loop-at.out)
      (characters_or_none c.in-Some.item.stands) c.loop-at.refused c.in-Some.item.stands c.split_at.ensures.back (c.in-Some.ensures.within.0) (sym c.at_quotes.ensures.value ∙ c.if-at_quotes.false) (sym c.in-Some.ensures.value) c.in-Some.ensures.lines c.loop-at.invariant.reached);
}
