use Rattle.std.proofs.Common.{rules, ◌∙◌, arith}
use Rattle.node_tree.specs.Tree.{block}
use Rattle.node_redirect.specs.Redirect.{redirect}
use Rattle.reform_blocks.proofs.Turns.{first_turn, next_turn, no_deeper}
use Rattle.reform_blocks.proofs.Built.{if_is, loop_is, catch_is}
use Rattle.reform_blocks.proofs.rewriting.+redirect.Goals as goal

pub redirected-loop-node-init : goal.redirected-loop-node-init
redirected-loop-node-init t c = record {
  no_deeper = search rules;
  rewritten = first_turn (redirect c.args.kept (block c.args.nodes) c.args.depth) c.new-done.result.items c.new-done.ensures.items;
}

pub redirected-loop-node-preserved : goal.redirected-loop-node-preserved
redirected-loop-node-preserved t c = record {
  no_deeper = no_deeper _ _ c.loop-node.left c.pop.new.self c.in-Some.node c.in-Some.ensures c.loop-node.invariant.no_deeper;
  rewritten =
      next_turn c.args.kept c.args.depth c.loop-node.left c.pop.new.self c.loop-node.done.items c.push.new.self.items c.in-Some.node c.in_ok-node.node c.in-Some.ensures c.in_ok-push.ensures.items c.in_ok-node.ensures
      ∙ c.loop-node.invariant.rewritten;
}

pub redirected_node-returns-in_ok-no-in-If : goal.redirected_node-returns-in_ok-no-in-If
redirected_node-returns-in_ok-no-in-If t c = if_is c.args.kept c.args.depth c.args.node c.in-If.test c.in-If.yes c.in-If.no c.in_ok-yes-in-If.yes c.in_ok-no-in-If.no c.in-If.is c.in_ok-yes-in-If.ensures c.in_ok-no-in-If.ensures

pub redirected_node-returns-in_ok-body-in-Loop : goal.redirected_node-returns-in_ok-body-in-Loop
redirected_node-returns-in_ok-body-in-Loop t c = loop_is c.args.kept c.args.depth c.in-Some.inner c.args.node c.in-Loop.body c.in_ok-body-in-Loop.body c.in-Loop.is (omega (arith, c.in-Some.ensures)) c.in_ok-body-in-Loop.ensures

pub redirected_node-returns-in_ok-handler-in-Catch : goal.redirected_node-returns-in_ok-handler-in-Catch
redirected_node-returns-in_ok-handler-in-Catch t c = catch_is c.args.kept c.args.depth c.in-Catch.to c.args.node c.in-Catch.body c.in-Catch.handler c.in_ok-body-in-Catch.body c.in_ok-handler-in-Catch.handler c.in-Catch.is c.in_ok-body-in-Catch.ensures c.in_ok-handler-in-Catch.ensures
