use Rattle.std.proofs.Common.{arith, ◌∙◌, sym, ap, subst}
use Rattle.py_grammar.specs.Levels.{follows_params}
use Rattle.py_grammar.specs.Grammar.{SomeParams}
use Rattle.py_grammar.specs.Parse.{read_some_params, Refuses}
use Rattle.py_grammar.proofs.Places.{answers_err, answers_other, is_there, from_place, shorter}
use Rattle.py_grammar.proofs.Productions.{some_params_read, some_params_spelled}
use Rattle.py_expr.proofs.productions.params.Goals as goal

pub returns-in-Err : goal.returns-in-Err
returns-in-Err c =
    let s = from_place c.args.tokens.now c.args.at c.new-cursor.result c.new-cursor.ensures in
    answers_err SomeParams follows_params read_some_params some_params_read c.args.tokens.now c.args.at c.in-Err.end (subst (λ l. Refuses (read_some_params 400 l) c.in-Err.end) s c.in-Err.ensures)

pub returns-else-follows_params : goal.returns-else-follows_params
returns-else-follows_params c =
    let s = from_place c.args.tokens.now c.args.at c.new-cursor.result c.new-cursor.ensures in
    answers_other SomeParams follows_params read_some_params some_params_read c.args.tokens.now c.args.at c.in-Ok.found c.some_params_to.new.tokens (ap (read_some_params 400) (sym s) ∙ c.in-Ok.ensures) (ap follows_params (sym c.mark.ensures) ∙ sym c.follows_params.ensures ∙ c.if-follows_params.false) c.refuse.result c.refuse.ensures

pub overflow_sub-result : goal.overflow_sub-result
overflow_sub-result c =
    let s = from_place c.args.tokens.now c.args.at c.new-cursor.result c.new-cursor.ensures in
    let short = shorter SomeParams follows_params read_some_params some_params_spelled c.args.tokens.now c.args.at c.in-Ok.found c.some_params_to.new.tokens (ap (read_some_params 400) (sym s) ∙ c.in-Ok.ensures) in
    omega (arith, short, c.len.ensures)

pub returns-then-follows_params : goal.returns-then-follows_params
returns-then-follows_params c =
    let s = from_place c.args.tokens.now c.args.at c.new-cursor.result c.new-cursor.ensures in
    rw c.len.ensures (is_there SomeParams follows_params read_some_params some_params_spelled c.args.tokens.now c.args.at c.in-Ok.found c.some_params_to.new.tokens c.requires (ap (read_some_params 400) (sym s) ∙ c.in-Ok.ensures) (ap follows_params (sym c.mark.ensures) ∙ sym c.follows_params.ensures ∙ c.if-follows_params.true))
