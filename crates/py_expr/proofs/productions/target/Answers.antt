use Rattle.std.proofs.Common.{arith, ◌∙◌, sym, ap, subst}
use Rattle.py_grammar.specs.Levels.{follows_target}
use Rattle.py_grammar.specs.Grammar.{Target}
use Rattle.py_grammar.specs.Parse.{read_target, Refuses}
use Rattle.py_grammar.proofs.Places.{answers_err, answers_other, is_there, from_place, shorter}
use Rattle.py_grammar.proofs.Productions.{target_read, target_spelled}
use Rattle.py_expr.proofs.productions.target.Goals as goal

pub returns-in-Err : goal.returns-in-Err
returns-in-Err c =
    let s = from_place c.args.tokens.now c.args.at c.new-cursor.result c.new-cursor.ensures in
    answers_err Target follows_target read_target target_read c.args.tokens.now c.args.at c.in-Err.end (subst (λ l. Refuses (read_target 400 l) c.in-Err.end) s c.in-Err.ensures)

pub returns-else-follows_target : goal.returns-else-follows_target
returns-else-follows_target c =
    let s = from_place c.args.tokens.now c.args.at c.new-cursor.result c.new-cursor.ensures in
    answers_other Target follows_target read_target target_read c.args.tokens.now c.args.at c.in-Ok.found c.target_to.new.tokens (ap (read_target 400) (sym s) ∙ c.in-Ok.ensures) (ap follows_target (sym c.mark.ensures) ∙ sym c.follows_target.ensures ∙ c.if-follows_target.false) c.refuse.result c.refuse.ensures

pub overflow_sub-result : goal.overflow_sub-result
overflow_sub-result c =
    let s = from_place c.args.tokens.now c.args.at c.new-cursor.result c.new-cursor.ensures in
    let short = shorter Target follows_target read_target target_spelled c.args.tokens.now c.args.at c.in-Ok.found c.target_to.new.tokens (ap (read_target 400) (sym s) ∙ c.in-Ok.ensures) in
    omega (arith, short, c.len.ensures)

pub returns-then-follows_target : goal.returns-then-follows_target
returns-then-follows_target c =
    let s = from_place c.args.tokens.now c.args.at c.new-cursor.result c.new-cursor.ensures in
    rw c.into_inner.ensures (rw c.len.ensures (is_there Target follows_target read_target target_spelled c.args.tokens.now c.args.at c.in-Ok.found c.target_to.new.tokens c.requires (ap (read_target 400) (sym s) ∙ c.in-Ok.ensures) (ap follows_target (sym c.mark.ensures) ∙ sym c.follows_target.ensures ∙ c.if-follows_target.true)))
