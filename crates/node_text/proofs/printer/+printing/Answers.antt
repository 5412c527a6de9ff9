use Rattle.std.proofs.Common.{◌≡◌, rules}
use Rattle.node_text.specs.Text.{inner}
use Rattle.node_text.proofs.Printed.{printed_if, printed_loop, printed_catch}
use Rattle.node_text.proofs.printer.+printing.Goals as goal

pub push_node-returns-in_ok-push_nodes-in-If-2 : goal.push_node-returns-in_ok-push_nodes-in-If-2
push_node-returns-in_ok-push_nodes-in-If-2 t c =
    let within : c.args.within.now ≡ inner c.args.indent.now = search rules in
    printed_if c.push_closing-in-If.result _ _ _ _ _ _ _ _ c.in-If.test c.as_slice-in-If.result.now c.as_slice-in-If-2.result.now c.in-If.yes c.in-If.no _ c.in_ok-push_valued-in-If.ensures c.in_ok-push_nodes-in-If.ensures c.in_ok-push_closing-in-If.ensures
    c.in_ok-push_nodes-in-If-2.ensures c.push_closing-in-If.ensures within c.as_slice-in-If.ensures c.as_slice-in-If-2.ensures c.in-If.is

pub push_node-returns-in_ok-push_nodes-in-Loop : goal.push_node-returns-in_ok-push_nodes-in-Loop
push_node-returns-in_ok-push_nodes-in-Loop t c =
    let within : c.args.within.now ≡ inner c.args.indent.now = search rules in
    printed_loop c.push_closing-in-Loop.result _ _ _ _ _ _ c.as_slice-in-Loop.result.now c.in-Loop.body _ c.in_ok-push_form-in-Loop.ensures c.in_ok-push_nodes-in-Loop.ensures c.push_closing-in-Loop.ensures within c.as_slice-in-Loop.ensures
    c.in-Loop.is

pub push_node-returns-in_ok-push_nodes-in-Catch-2 : goal.push_node-returns-in_ok-push_nodes-in-Catch-2
push_node-returns-in_ok-push_nodes-in-Catch-2 t c =
    let within : c.args.within.now ≡ inner c.args.indent.now = search rules in
    printed_catch c.push_closing-in-Catch-2.result _ _ _ _ _ _ _ _ c.in-Catch.to c.as_slice-in-Catch.result.now c.as_slice-in-Catch-2.result.now c.in-Catch.body c.in-Catch.handler _ c.in_ok-push_numbered-in-Catch.ensures c.in_ok-push_nodes-in-Catch.ensures c.in_ok-push_closing-in-Catch.ensures
    c.in_ok-push_nodes-in-Catch-2.ensures c.push_closing-in-Catch-2.ensures within c.as_slice-in-Catch.ensures c.as_slice-in-Catch-2.ensures c.in-Catch.is
