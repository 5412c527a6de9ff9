use Rattle.std.proofs.Common.{arith, ◌∙◌, sym, ap, subst}
use Rattle.py_grammar.specs.Levels.{follows_exprs}
use Rattle.py_grammar.specs.Grammar.{Exprs}
use Rattle.py_grammar.specs.Parse.{read_exprs, Refuses}
use Rattle.py_grammar.proofs.Places.{answers_err, answers_other, is_there, from_place, shorter}
use Rattle.py_grammar.proofs.Productions.{exprs_read, exprs_spelled}
use Rattle.py_expr.proofs.productions.exprs.Goals as goal

pub returns-in-Err : goal.returns-in-Err
returns-in-Err c =
    let s = from_place c.args.tokens.now c.args.at c.new-cursor.result c.new-cursor.ensures in
    answers_err Exprs follows_exprs read_exprs exprs_read c.args.tokens.now c.args.at c.in-Err.end (subst (λ l. Refuses (read_exprs 400 l) c.in-Err.end) s c.in-Err.ensures)

pub returns-else-follows_exprs : goal.returns-else-follows_exprs
returns-else-follows_exprs c =
    let s = from_place c.args.tokens.now c.args.at c.new-cursor.result c.new-cursor.ensures in
    answers_other Exprs follows_exprs read_exprs exprs_read c.args.tokens.now c.args.at c.in-Ok.found c.exprs_to.new.tokens (ap (read_exprs 400) (sym s) ∙ c.in-Ok.ensures) (ap follows_exprs (sym c.mark.ensures) ∙ sym c.follows_exprs.ensures ∙ c.if-follows_exprs.false) c.refuse.result c.refuse.ensures

pub overflow_sub-result : goal.overflow_sub-result
overflow_sub-result c =
    let s = from_place c.args.tokens.now c.args.at c.new-cursor.result c.new-cursor.ensures in
    let short = shorter Exprs follows_exprs read_exprs exprs_spelled c.args.tokens.now c.args.at c.in-Ok.found c.exprs_to.new.tokens (ap (read_exprs 400) (sym s) ∙ c.in-Ok.ensures) in
    omega (arith, short, c.len.ensures)

pub returns-then-follows_exprs : goal.returns-then-follows_exprs
returns-then-follows_exprs c =
    let s = from_place c.args.tokens.now c.args.at c.new-cursor.result c.new-cursor.ensures in
    rw c.into_inner.ensures (rw c.len.ensures (is_there Exprs follows_exprs read_exprs exprs_spelled c.args.tokens.now c.args.at c.in-Ok.found c.exprs_to.new.tokens c.requires (ap (read_exprs 400) (sym s) ∙ c.in-Ok.ensures) (ap follows_exprs (sym c.mark.ensures) ∙ sym c.follows_exprs.ensures ∙ c.if-follows_exprs.true)))
