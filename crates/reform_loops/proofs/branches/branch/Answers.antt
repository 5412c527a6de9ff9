use Rattle.std.proofs.Common.{◌≡◌}
use Rattle.node_tree.specs.Tree.{block}
use Rattle.carries_base.specs.Laws.{if_block}
use Rattle.carries_base.proofs.Statements.{if_carried}
use Rattle.reform_loops.proofs.Kept.{if_operations, if_constants, if_yields}
use Rattle.reform_loops.proofs.branches.branch.Goals as goal

pub returns : goal.returns
returns c =
    let whole : block c.in_ok-whole.whole ≡ if_block c.args.line c.in_ok-truth.truth (block c.args.test.block) c.args.test.value (block c.args.body) (block c.args.other) = c.in_ok-whole.ensures c.args.test.value c.in_ok-args.ensures in
    record {
      carries = λ h low tl th bl bh ol oh caught x y z st wt wb wo ct cb co.
          rw (whole, c.in_ok-truth.ensures.ok, c.in_ok-truth.ensures.number) (if_carried h low _ tl th bl bh ol oh c.args.line caught x y z _ _ _ _ st wt wb wo ct cb co);
      operations = λ counts. rw whole (if_operations counts c.args.line c.in_ok-truth.truth (block c.args.test.block) c.args.test.value (block c.args.body) (block c.args.other));
      constants = λ counts. rw whole (if_constants counts c.args.line c.in_ok-truth.truth (block c.args.test.block) c.args.test.value (block c.args.body) (block c.args.other));
      yields = rw whole (if_yields c.args.line c.in_ok-truth.truth (block c.args.test.block) c.args.test.value (block c.args.body) (block c.args.other));
      drawn = c.in_ok-truth.ensures.ok;
    }
