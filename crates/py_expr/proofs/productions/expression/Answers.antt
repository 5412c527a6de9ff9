use Rattle.std.proofs.Common.{arith, ◌∙◌, sym, ap, subst}
use Rattle.py_grammar.specs.Levels.{follows_expression}
use Rattle.py_grammar.specs.Grammar.{Expression}
use Rattle.py_grammar.specs.Parse.{read_level, Refuses}
use Rattle.py_grammar.proofs.Places.{answers_err, answers_other, is_there, from_place, shorter}
use Rattle.py_grammar.proofs.Productions.{expression_read, expression_spelled}
use Rattle.py_expr.proofs.productions.expression.Goals as goal

pub returns-in-Err : goal.returns-in-Err
returns-in-Err c =
    let s = from_place c.args.tokens.now c.args.at c.new-cursor.result c.new-cursor.ensures in
    answers_err Expression follows_expression (read_level 1) expression_read c.args.tokens.now c.args.at c.in-Err.end (subst (λ l. Refuses (read_level 1 400 l) c.in-Err.end) s c.in-Err.ensures)

pub returns-else-follows_expression : goal.returns-else-follows_expression
returns-else-follows_expression c =
    let s = from_place c.args.tokens.now c.args.at c.new-cursor.result c.new-cursor.ensures in
    answers_other Expression follows_expression (read_level 1) expression_read c.args.tokens.now c.args.at c.in-Ok.found c.expression_to.new.tokens (ap (read_level 1 400) (sym s) ∙ c.in-Ok.ensures) (ap follows_expression (sym c.mark.ensures) ∙ sym c.follows_expression.ensures ∙ c.if-follows_expression.false) c.refuse.result c.refuse.ensures

pub overflow_sub-result : goal.overflow_sub-result
overflow_sub-result c =
    let s = from_place c.args.tokens.now c.args.at c.new-cursor.result c.new-cursor.ensures in
    let short = shorter Expression follows_expression (read_level 1) expression_spelled c.args.tokens.now c.args.at c.in-Ok.found c.expression_to.new.tokens (ap (read_level 1 400) (sym s) ∙ c.in-Ok.ensures) in
    omega (arith, short, c.len.ensures)

pub returns-then-follows_expression : goal.returns-then-follows_expression
returns-then-follows_expression c =
    let s = from_place c.args.tokens.now c.args.at c.new-cursor.result c.new-cursor.ensures in
    rw c.into_inner.ensures (rw c.len.ensures (is_there Expression follows_expression (read_level 1) expression_spelled c.args.tokens.now c.args.at c.in-Ok.found c.expression_to.new.tokens c.requires (ap (read_level 1 400) (sym s) ∙ c.in-Ok.ensures) (ap follows_expression (sym c.mark.ensures) ∙ sym c.follows_expression.ensures ∙ c.if-follows_expression.true)))
