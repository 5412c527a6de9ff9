use Rattle.std.proofs.Common.{arith, ◌∙◌, sym, ap, subst}
use Rattle.py_grammar.specs.Levels.{follows_targets}
use Rattle.py_grammar.specs.Grammar.{Targets}
use Rattle.py_grammar.specs.Parse.{read_targets, Refuses}
use Rattle.py_grammar.proofs.Places.{answers_err, answers_other, is_there, from_place, shorter}
use Rattle.py_grammar.proofs.Productions.{targets_read, targets_spelled}
use Rattle.py_expr.proofs.productions.targets.Goals as goal

pub returns-in-Err : goal.returns-in-Err
returns-in-Err c =
    let s = from_place c.args.tokens.now c.args.at c.new-cursor.result c.new-cursor.ensures in
    answers_err Targets follows_targets read_targets targets_read c.args.tokens.now c.args.at c.in-Err.end (subst (λ l. Refuses (read_targets 400 l) c.in-Err.end) s c.in-Err.ensures)

pub returns-else-follows_targets : goal.returns-else-follows_targets
returns-else-follows_targets c =
    let s = from_place c.args.tokens.now c.args.at c.new-cursor.result c.new-cursor.ensures in
    answers_other Targets follows_targets read_targets targets_read c.args.tokens.now c.args.at c.in-Ok.found c.targets_to.new.tokens (ap (read_targets 400) (sym s) ∙ c.in-Ok.ensures) (ap follows_targets (sym c.mark.ensures) ∙ sym c.follows_targets.ensures ∙ c.if-follows_targets.false) c.refuse.result c.refuse.ensures

pub overflow_sub-result : goal.overflow_sub-result
overflow_sub-result c =
    let s = from_place c.args.tokens.now c.args.at c.new-cursor.result c.new-cursor.ensures in
    let short = shorter Targets follows_targets read_targets targets_spelled c.args.tokens.now c.args.at c.in-Ok.found c.targets_to.new.tokens (ap (read_targets 400) (sym s) ∙ c.in-Ok.ensures) in
    omega (arith, short, c.len.ensures)

pub returns-then-follows_targets : goal.returns-then-follows_targets
returns-then-follows_targets c =
    let s = from_place c.args.tokens.now c.args.at c.new-cursor.result c.new-cursor.ensures in
    rw c.into_inner.ensures (rw c.len.ensures (is_there Targets follows_targets read_targets targets_spelled c.args.tokens.now c.args.at c.in-Ok.found c.targets_to.new.tokens c.requires (ap (read_targets 400) (sym s) ∙ c.in-Ok.ensures) (ap follows_targets (sym c.mark.ensures) ∙ sym c.follows_targets.ensures ∙ c.if-follows_targets.true)))
