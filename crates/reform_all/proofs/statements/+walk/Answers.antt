use Rattle.std.proofs.Common.{rules, ◌≡◌, ◌+◌, ◌≤◌, ◌∷◌, drop, Ok, Err, refl, sym, ◌∙◌, subst, arith}
use Rattle.std.proofs.lemmas.List.{drop_all}
use Rattle.py_ast.specs.declared.stmt.Stmt.TheOpen.{Stmt-F}
use Rattle.py_ast.specs.declared.stmt.Stmt.TheVariants.{rolls-Expr, rolls-Augment, rolls-Pass, rolls-Break, rolls-Continue, rolls-If, rolls-While}
use Rattle.reform_all.specs.Expressions.{Fails}
use Rattle.reform_all.specs.Statements.{Stated, Chosen, BranchesBecome}
use Rattle.reform_all.proofs.Lefts.{drop_item}
use Rattle.reform_all.proofs.Becomes.{unbuilt_in, AllBecome, Goes, Choosing, goes_next, goes_end, choosing_next, choosing_end, body_fails, branches_fail, else_fails, loop_else_fails, evaluates, passes, breaks, continues, not_empty, chooses, repeats}
use Rattle.reform_all.proofs.Quiets.{parts_quiet}
use Rattle.reform_all.proofs.Rows.{stated}
use Rattle.reform_all.proofs.statements.+walk.Goals as goal

pub statements-loop-s-preserved : goal.statements-loop-s-preserved
statements-loop-s-preserved t c = λ names holds.
    let ss = c.args.ss.now in
    let rest = drop (c.loop-s.s-index + 1) ss in
    subst (λ l. Goes names ss rest c.args.temps.now c.statement.new.temps l) (sym c.in_ok-block.ensures)
    (goes_next names ss c.s-item.result rest c.args.temps.now c.loop-s.temps c.statement.new.temps c.loop-s.block c.in_ok-next.next
    (subst (λ l. Goes names ss l c.args.temps.now c.loop-s.temps c.loop-s.block) (drop_item ss c.loop-s.s-index c.s-item.result c.loop-s-test.true c.s-item.is) (c.loop-s.invariant names holds))
    (c.in_ok-next.ensures names holds))

pub statements-returns : goal.statements-returns
statements-returns t c = λ names holds.
    let ss = c.args.ss.now in
    goes_end names ss c.args.temps.now c.loop-s.temps c.loop-s.block
    (subst (λ l. Goes names ss l c.args.temps.now c.loop-s.temps c.loop-s.block) (drop_all c.loop-s.s-index ss c.loop-s-test.false) (c.loop-s.invariant names holds))

pub choices-loop-s-preserved : goal.choices-loop-s-preserved
choices-loop-s-preserved t c = λ names holds.
    let ss = c.as_slice-s-items.result.now in
    let rest = drop (c.loop-s.s-index + 1) ss in
    subst (λ l. Goes names ss rest c.expression.new.temps c.statement.new.temps l) (sym c.in_ok-body.ensures)
    (goes_next names ss c.s-item.result rest c.expression.new.temps c.loop-s.temps c.statement.new.temps c.loop-s.body c.in_ok-next.next
    (subst (λ l. Goes names ss l c.expression.new.temps c.loop-s.temps c.loop-s.body) (drop_item ss c.loop-s.s-index c.s-item.result c.loop-s-test.true c.s-item.is) (c.loop-s.invariant names holds))
    (c.in_ok-next.ensures names holds))

pub choices-loop-branch-preserved : goal.choices-loop-branch-preserved
choices-loop-branch-preserved t c = λ names holds.
    let bs = c.args.branches.now in
    let rest = drop (c.loop-branch.branch-index + 1) bs in
    let ss = c.as_slice-s-items.result.now in
    subst (λ l. Choosing names bs rest c.args.temps.now c.loop-s.temps l) (sym c.in_ok-push.ensures.ok)
    (choosing_next names bs c.branch-item.result rest c.args.temps.now c.loop-branch.temps c.expression.new.temps c.loop-s.temps c.loop-branch.choices
    (record { test = c.in_ok-test.test; body = c.loop-s.body; line = c.branch-item.result.line }) refl
    (subst (λ l. Choosing names bs l c.args.temps.now c.loop-branch.temps c.loop-branch.choices) (drop_item bs c.loop-branch.branch-index c.branch-item.result c.loop-branch-test.true c.branch-item.is) (c.loop-branch.invariant names holds))
    (c.in_ok-test.ensures names holds)
    (subst (λ l. AllBecome names l c.expression.new.temps c.loop-s.temps c.loop-s.body) c.as_slice-s-items.ensures
    (goes_end names ss c.expression.new.temps c.loop-s.temps c.loop-s.body
    (subst (λ l. Goes names ss l c.expression.new.temps c.loop-s.temps c.loop-s.body) (drop_all c.loop-s.s-index ss c.loop-s-test.false) (c.loop-s.invariant names holds)))))

pub choices-returns : goal.choices-returns
choices-returns t c = λ names holds.
    let bs = c.args.branches.now in
    choosing_end names bs c.args.temps.now c.loop-branch.temps c.loop-branch.choices
    (subst (λ l. Choosing names bs l c.args.temps.now c.loop-branch.temps c.loop-branch.choices) (drop_all c.loop-branch.branch-index bs c.loop-branch-test.false) (c.loop-branch.invariant names holds))

pub choices-returns-in_err-next : goal.choices-returns-in_err-next
choices-returns-in_err-next t c = λ names holds.
    let bs = c.args.branches.now in
    let rest = drop (c.loop-branch.branch-index + 1) bs in
    let ss = c.as_slice-s-items.result.now in
    let left = drop (c.loop-s.s-index + 1) ss in
    let same : Err c.in_err-next.field-0.0 ≡ c.from_residual-in_err-next.result = search rules in
    subst (λ r. Chosen names bs c.args.temps.now c.statement.new.temps r) same
    (body_fails names bs c.branch-item.result rest c.s-item.result left c.args.temps.now c.loop-branch.temps c.expression.new.temps c.loop-s.temps c.loop-branch.choices c.in_ok-test.test c.loop-s.body c.in_err-next.field-0.0
    (subst (λ l. Choosing names bs l c.args.temps.now c.loop-branch.temps c.loop-branch.choices) (drop_item bs c.loop-branch.branch-index c.branch-item.result c.loop-branch-test.true c.branch-item.is) (c.loop-branch.invariant names holds))
    (c.in_ok-test.ensures names holds)
    (subst (λ l. Goes names l (c.s-item.result ∷ left) c.expression.new.temps c.loop-s.temps c.loop-s.body) c.as_slice-s-items.ensures
    (subst (λ l. Goes names ss l c.expression.new.temps c.loop-s.temps c.loop-s.body) (drop_item ss c.loop-s.s-index c.s-item.result c.loop-s-test.true c.s-item.is) (c.loop-s.invariant names holds)))
    (c.in_err-next.ensures names holds))

pub statement-returns-in_ok-part-in-Expr : goal.statement-returns-in_ok-part-in-Expr
statement-returns-in_ok-part-in-Expr t c = λ names holds.
    stated names c.args.s.now (Stmt-F.Expr c.in-Expr.field-0 c.in-Expr.x) c.args.temps.now c.expression.new.temps (Ok c.in_ok-part-in-Expr.part.block) (rolls-Expr _ _ ∙ sym c.in-Expr.is)
    (evaluates names c.in-Expr.x c.args.temps.now c.expression.new.temps c.in_ok-part-in-Expr.part (c.in_ok-part-in-Expr.ensures names holds))

pub statement-returns-in-Augment : goal.statement-returns-in-Augment
statement-returns-in-Augment t c = λ names holds.
    stated names c.args.s.now (Stmt-F.Augment c.in-Augment.line c.in-Augment.to c.in-Augment.operator c.in-Augment.x) c.args.temps.now c.augmented.new.temps c.augmented.result (rolls-Augment _ _ _ _ ∙ sym c.in-Augment.is)
    (c.augmented.ensures names holds)

pub statement-returns-in-Pass : goal.statement-returns-in-Pass
statement-returns-in-Pass t c = λ names holds.
    stated names c.args.s.now (Stmt-F.Pass c.in-Pass.field-0) c.args.temps.now c.args.temps.now (Ok c.new.result) (rolls-Pass _ ∙ sym c.in-Pass.is)
    (passes c.args.temps.now c.new.result c.new.ensures)

pub statement-returns-in_ok-one-in-Break : goal.statement-returns-in_ok-one-in-Break
statement-returns-in_ok-one-in-Break t c = λ names holds.
    stated names c.args.s.now (Stmt-F.Break c.in-Break.field-0) c.args.temps.now c.args.temps.now (Ok c.in_ok-one-in-Break.field-0) (rolls-Break _ ∙ sym c.in-Break.is)
    (breaks c.args.temps.now c.in_ok-one-in-Break.field-0 c.in_ok-one-in-Break.ensures)

pub statement-returns-in_ok-one-in-Continue : goal.statement-returns-in_ok-one-in-Continue
statement-returns-in_ok-one-in-Continue t c = λ names holds.
    stated names c.args.s.now (Stmt-F.Continue c.in-Continue.field-0) c.args.temps.now c.args.temps.now (Ok c.in_ok-one-in-Continue.field-0) (rolls-Continue _ ∙ sym c.in-Continue.is)
    (continues c.args.temps.now c.in_ok-one-in-Continue.field-0 c.in_ok-one-in-Continue.ensures)

pub statement-returns-in_err-choices-in-If : goal.statement-returns-in_err-choices-in-If
statement-returns-in_err-choices-in-If t c = λ names holds.
    let e = c.in_err-choices-in-If.field-0.0 in
    let same : Err e ≡ c.from_residual-in_err-choices-in-If.result = search rules in
    let bs = c.as_slice-in-If.result.now in
    subst (λ r. Stated names c.args.s.now c.args.temps.now c.choices.new.temps r) same
    (stated names c.args.s.now (Stmt-F.If c.in-If.line c.in-If.branches c.in-If.other) c.args.temps.now c.choices.new.temps (Err e) (rolls-If _ _ _ ∙ sym c.in-If.is)
    (branches_fail names c.in-If.line c.in-If.branches c.in-If.other e (not_empty c.is_empty.result c.in-If.branches c.is_empty.ensures c.if-is_empty.false)
    (subst (λ l. Chosen names l c.args.temps.now c.choices.new.temps (Err e)) c.as_slice-in-If.ensures (c.in_err-choices-in-If.ensures names holds))))

pub statement-returns-in_err-other-in-If : goal.statement-returns-in_err-other-in-If
statement-returns-in_err-other-in-If t c = λ names holds.
    let e = c.in_err-other-in-If.field-0.0 in
    let same : Err e ≡ c.from_residual-in_err-other-in-If.result = search rules in
    subst (λ r. Stated names c.args.s.now c.args.temps.now c.statements.new.temps r) same
    (stated names c.args.s.now (Stmt-F.If c.in-If.line c.in-If.branches c.in-If.other) c.args.temps.now c.statements.new.temps (Err e) (rolls-If _ _ _ ∙ sym c.in-If.is)
    (else_fails names c.in-If.line c.in-If.branches c.in-If.other c.args.temps.now c.choices.new.temps c.in_ok-choices-in-If.choices e (not_empty c.is_empty.result c.in-If.branches c.is_empty.ensures c.if-is_empty.false)
    (subst (λ l. Chosen names l c.args.temps.now c.choices.new.temps (Ok c.in_ok-choices-in-If.choices)) c.as_slice-in-If.ensures (c.in_ok-choices-in-If.ensures names holds))
    (subst (λ l. Fails (unbuilt_in names l) e) c.as_slice-in-If-2.ensures (c.in_err-other-in-If.ensures names holds))))

pub statement-returns-in_ok-block-in-If : goal.statement-returns-in_ok-block-in-If
statement-returns-in_ok-block-in-If t c = λ names holds.
    stated names c.args.s.now (Stmt-F.If c.in-If.line c.in-If.branches c.in-If.other) c.args.temps.now c.chained.new.temps (Ok c.in_ok-block-in-If.block) (rolls-If _ _ _ ∙ sym c.in-If.is)
    (chooses names c.in-If.line c.in-If.branches c.in-If.other c.args.temps.now c.choices.new.temps c.statements.new.temps c.chained.new.temps c.in_ok-choices-in-If.choices c.in_ok-other-in-If.other c.in_ok-block-in-If.block
    (not_empty c.is_empty.result c.in-If.branches c.is_empty.ensures c.if-is_empty.false)
    (subst (λ l. BranchesBecome names l c.args.temps.now c.choices.new.temps c.in_ok-choices-in-If.choices) c.as_slice-in-If.ensures (c.in_ok-choices-in-If.ensures names holds))
    (subst (λ l. AllBecome names l c.choices.new.temps c.statements.new.temps c.in_ok-other-in-If.other) c.as_slice-in-If-2.ensures (c.in_ok-other-in-If.ensures names holds))
    c.in_ok-block-in-If.ensures.drawn c.in_ok-block-in-If.ensures.carries c.in_ok-block-in-If.ensures.quiet)

pub statement-returns-in_err-other-in-While : goal.statement-returns-in_err-other-in-While
statement-returns-in_err-other-in-While t c = λ names holds.
    let e = c.in_err-other-in-While.field-0.0 in
    let same : Err e ≡ c.from_residual-in_err-other-in-While.result = search rules in
    let a = c.expression-in-While.new.temps in
    let b = c.statements-in-While.new.temps in
    let d = c.statements-in-While-2.new.temps in
    subst (λ r. Stated names c.args.s.now c.args.temps.now d r) same
    (stated names c.args.s.now (Stmt-F.While c.in-While.line c.in-While.test c.in-While.body c.in-While.other) c.args.temps.now d (Err e) (rolls-While _ _ _ _ ∙ sym c.in-While.is)
    (loop_else_fails names c.in-While.test c.in-While.body c.in-While.other c.args.temps.now a b c.in_ok-test-in-While.test c.in_ok-body-in-While.body e
    (c.in_ok-test-in-While.ensures names holds)
    (subst (λ l. AllBecome names l a b c.in_ok-body-in-While.body) c.as_slice-in-While.ensures (c.in_ok-body-in-While.ensures names holds))
    (subst (λ l. Fails (unbuilt_in names l) e) c.as_slice-in-While-2.ensures (c.in_err-other-in-While.ensures names holds))))

pub statement-returns-in_ok-block-in-While : goal.statement-returns-in_ok-block-in-While
statement-returns-in_ok-block-in-While t c = λ names holds.
    let a = c.expression-in-While.new.temps in
    let b = c.statements-in-While.new.temps in
    let d = c.statements-in-While-2.new.temps in
    let drawn : d ≤ c.while_loop.new.temps = omega (arith, c.in_ok-block-in-While.ensures.drawn) in
    stated names c.args.s.now (Stmt-F.While c.in-While.line c.in-While.test c.in-While.body c.in-While.other) c.args.temps.now c.while_loop.new.temps (Ok c.in_ok-block-in-While.block) (rolls-While _ _ _ _ ∙ sym c.in-While.is)
    (repeats names c.in-While.line c.in-While.test c.in-While.body c.in-While.other c.args.temps.now a b d c.while_loop.new.temps c.in_ok-test-in-While.test c.in_ok-body-in-While.body c.in_ok-other-in-While.other c.in_ok-block-in-While.block
    (c.in_ok-test-in-While.ensures names holds)
    (subst (λ l. AllBecome names l a b c.in_ok-body-in-While.body) c.as_slice-in-While.ensures (c.in_ok-body-in-While.ensures names holds))
    (subst (λ l. AllBecome names l b d c.in_ok-other-in-While.other) c.as_slice-in-While-2.ensures (c.in_ok-other-in-While.ensures names holds))
    drawn c.in_ok-block-in-While.ensures.carries
    (parts_quiet c.in_ok-test-in-While.test.value c.in_ok-test-in-While.test.block c.in_ok-body-in-While.body c.in_ok-other-in-While.other c.in_ok-block-in-While.block c.in_ok-block-in-While.ensures.operations c.in_ok-block-in-While.ensures.yields))
