use Rattle.std.proofs.Common.{◌+◌, ◌++◌, sym, ap, ◌∙◌, vec_len}
use Rattle.node_tree.specs.declared.node.Node.{If, Loop, Catch}
use Rattle.node_tree.specs.Tree.{form}
use Rattle.flow_lower.specs.Lower.{form_labels, form_lines}
use Rattle.flow_lower.proofs.Emitted.{emit_if, emit_loop, emit_catch, drawn_if, drawn_loop, drawn_catch}
use Rattle.flow_lower.proofs.lowering.+lowering.Goals as goal

pub lower_node-returns-in_ok-mark-in-If-2-clause-lines : goal.lower_node-returns-in_ok-mark-in-If-2-clause-lines
lower_node-returns-in_ok-mark-in-If-2-clause-lines t c = λ mid.
    emit_if c.in-If.test _ _ _ _ _ _ _ _ _ _ _ _ c.as_slice-in-If-2.result.now c.as_slice-in-If.result.now _ _ _ _ _ _ _
    c.in_ok-test-in-If.ensures.is
    c.in_ok-first-in-If.ensures.number c.in_ok-first-in-If.ensures.drawn c.in_ok-end-in-If.ensures.number c.in_ok-end-in-If.ensures.drawn
    c.in_ok-put-in-If.ensures
    (record { lines = c.in_ok-lower_nodes-in-If.ensures.lines; drawn = c.in_ok-lower_nodes-in-If.ensures.drawn; exits = c.in_ok-lower_nodes-in-If.ensures.exits })
    c.in_ok-put-in-If-2.ensures c.in_ok-mark-in-If.ensures
    (record { lines = c.in_ok-lower_nodes-in-If-2.ensures.lines; drawn = c.in_ok-lower_nodes-in-If-2.ensures.drawn; exits = c.in_ok-lower_nodes-in-If-2.ensures.exits })
    c.in_ok-mark-in-If-2.ensures mid
    ∙ ap (λ l. c.args.out.now.items ++ form_lines (form (If c.in-If.test l c.as_slice-in-If.result.now)) (vec_len c.args.labels.now) c.args.fail c.args.exits.now.items mid) c.as_slice-in-If-2.ensures
    ∙ ap (λ l. c.args.out.now.items ++ form_lines (form (If c.in-If.test c.in-If.yes l)) (vec_len c.args.labels.now) c.args.fail c.args.exits.now.items mid) c.as_slice-in-If.ensures
    ∙ ap (λ n. c.args.out.now.items ++ form_lines (form n) (vec_len c.args.labels.now) c.args.fail c.args.exits.now.items mid) (sym c.in-If.is)

pub lower_node-returns-in_ok-mark-in-If-2-clause-drawn : goal.lower_node-returns-in_ok-mark-in-If-2-clause-drawn
lower_node-returns-in_ok-mark-in-If-2-clause-drawn t c =
    drawn_if c.in-If.test _ _ _ _ _ c.as_slice-in-If-2.result.now c.as_slice-in-If.result.now
    c.in_ok-first-in-If.ensures.drawn c.in_ok-end-in-If.ensures.drawn c.in_ok-lower_nodes-in-If.ensures.drawn c.in_ok-lower_nodes-in-If-2.ensures.drawn
    ∙ ap (λ l. vec_len c.args.labels.now + form_labels (form (If c.in-If.test l c.as_slice-in-If.result.now))) c.as_slice-in-If-2.ensures
    ∙ ap (λ l. vec_len c.args.labels.now + form_labels (form (If c.in-If.test c.in-If.yes l))) c.as_slice-in-If.ensures
    ∙ ap (λ n. vec_len c.args.labels.now + form_labels (form n)) (sym c.in-If.is)

pub lower_node-returns-in_ok-mark-in-Loop-2-clause-lines : goal.lower_node-returns-in_ok-mark-in-Loop-2-clause-lines
lower_node-returns-in_ok-mark-in-Loop-2-clause-lines t c = λ mid.
    emit_loop _ _ _ _ _ _ _ _ _ _ c.as_slice-in-Loop.result.now _ _ _ _ _
    c.in_ok-head-in-Loop.ensures.number c.in_ok-head-in-Loop.ensures.drawn c.in_ok-end-in-Loop.ensures.number c.in_ok-end-in-Loop.ensures.drawn
    c.in_ok-mark-in-Loop.ensures
    c.in_ok-insert-in-Loop.ensures.items
    (record { lines = c.in_ok-lower_nodes-in-Loop.ensures.lines; drawn = c.in_ok-lower_nodes-in-Loop.ensures.drawn; exits = c.in_ok-lower_nodes-in-Loop.ensures.exits })
    c.in_ok-put-in-Loop.ensures c.in_ok-mark-in-Loop-2.ensures mid
    ∙ ap (λ l. c.args.out.now.items ++ form_lines (form (Loop l)) (vec_len c.args.labels.now) c.args.fail c.args.exits.now.items mid) c.as_slice-in-Loop.ensures
    ∙ ap (λ n. c.args.out.now.items ++ form_lines (form n) (vec_len c.args.labels.now) c.args.fail c.args.exits.now.items mid) (sym c.in-Loop.is)

pub lower_node-returns-in_ok-mark-in-Loop-2-clause-drawn : goal.lower_node-returns-in_ok-mark-in-Loop-2-clause-drawn
lower_node-returns-in_ok-mark-in-Loop-2-clause-drawn t c =
    drawn_loop _ _ _ _ c.as_slice-in-Loop.result.now
    c.in_ok-head-in-Loop.ensures.drawn c.in_ok-end-in-Loop.ensures.drawn c.in_ok-lower_nodes-in-Loop.ensures.drawn
    ∙ ap (λ l. vec_len c.args.labels.now + form_labels (form (Loop l))) c.as_slice-in-Loop.ensures
    ∙ ap (λ n. vec_len c.args.labels.now + form_labels (form n)) (sym c.in-Loop.is)

pub lower_node-returns-in_ok-mark-in-Catch-2-clause-lines : goal.lower_node-returns-in_ok-mark-in-Catch-2-clause-lines
lower_node-returns-in_ok-mark-in-Catch-2-clause-lines t c = λ mid.
    emit_catch c.in-Catch.to _ _ _ _ _ _ _ _ _ _ _ c.as_slice-in-Catch.result.now c.as_slice-in-Catch-2.result.now _ _ _ _ _ _ _
    c.in_ok-caught-in-Catch.ensures.number c.in_ok-caught-in-Catch.ensures.drawn c.in_ok-end-in-Catch.ensures.number c.in_ok-end-in-Catch.ensures.drawn
    (record { lines = c.in_ok-lower_nodes-in-Catch.ensures.lines; drawn = c.in_ok-lower_nodes-in-Catch.ensures.drawn; exits = c.in_ok-lower_nodes-in-Catch.ensures.exits })
    c.in_ok-put-in-Catch.ensures c.in_ok-mark-in-Catch.ensures c.in_ok-put-in-Catch-2.ensures
    (record { lines = c.in_ok-lower_nodes-in-Catch-2.ensures.lines; drawn = c.in_ok-lower_nodes-in-Catch-2.ensures.drawn; exits = c.in_ok-lower_nodes-in-Catch-2.ensures.exits })
    c.in_ok-mark-in-Catch-2.ensures mid
    ∙ ap (λ l. c.args.out.now.items ++ form_lines (form (Catch c.in-Catch.to l c.as_slice-in-Catch-2.result.now)) (vec_len c.args.labels.now) c.args.fail c.args.exits.now.items mid) c.as_slice-in-Catch.ensures
    ∙ ap (λ l. c.args.out.now.items ++ form_lines (form (Catch c.in-Catch.to c.in-Catch.body l)) (vec_len c.args.labels.now) c.args.fail c.args.exits.now.items mid) c.as_slice-in-Catch-2.ensures
    ∙ ap (λ n. c.args.out.now.items ++ form_lines (form n) (vec_len c.args.labels.now) c.args.fail c.args.exits.now.items mid) (sym c.in-Catch.is)

pub lower_node-returns-in_ok-mark-in-Catch-2-clause-drawn : goal.lower_node-returns-in_ok-mark-in-Catch-2-clause-drawn
lower_node-returns-in_ok-mark-in-Catch-2-clause-drawn t c =
    drawn_catch c.in-Catch.to _ _ _ _ _ c.as_slice-in-Catch.result.now c.as_slice-in-Catch-2.result.now
    c.in_ok-caught-in-Catch.ensures.drawn c.in_ok-end-in-Catch.ensures.drawn c.in_ok-lower_nodes-in-Catch.ensures.drawn c.in_ok-lower_nodes-in-Catch-2.ensures.drawn
    ∙ ap (λ l. vec_len c.args.labels.now + form_labels (form (Catch c.in-Catch.to l c.as_slice-in-Catch-2.result.now))) c.as_slice-in-Catch.ensures
    ∙ ap (λ l. vec_len c.args.labels.now + form_labels (form (Catch c.in-Catch.to c.in-Catch.body l))) c.as_slice-in-Catch-2.ensures
    ∙ ap (λ n. vec_len c.args.labels.now + form_labels (form n)) (sym c.in-Catch.is)
