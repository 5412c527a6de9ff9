use Rattle.std.proofs.Common.{◌≡◌, ◌∙◌, refl}
use Rattle.node_tree.specs.Tree.{block}
use Rattle.carries_base.specs.Laws.{while_block}
use Rattle.carries_base.proofs.Statements.{while_carried}
use Rattle.reform_loops.proofs.Blocks.{while_is}
use Rattle.reform_loops.proofs.Kept.{while_operations, while_constants, while_yields}
use Rattle.reform_loops.proofs.loops.while_loop.Goals as goal

pub returns : goal.returns
returns c =
    let whole : block c.in_ok-whole.whole ≡ while_block c.args.line c.in_ok-over.over c.in_ok-truth.truth (block c.args.test.block) c.args.test.value (block c.args.body) (block c.args.other) = while_is c.args.line c.in_ok-over.over c.in_ok-truth.truth c.args.test.block c.args.body c.args.other _ _ c.in_ok-turn.turn _ _ c.args.test.value c.in_ok-begins.ensures c.in_ok-looped.ensures c.new.ensures c.in_ok-whole.ensures (c.in_ok-turn.ensures c.args.test.value c.in_ok-args.ensures) in
    record {
      carries = λ h low tl th bl bh ol oh caught x y z st wt wb wo ct cb co.
          rw (whole, c.in_ok-truth.ensures.ok, c.in_ok-truth.ensures.number, c.in_ok-over.ensures.ok, c.in_ok-over.ensures.number) (while_carried h low _ tl th bl bh ol oh c.args.line caught x y z _ _ _ _ st wt wb wo ct cb co);
      operations = λ counts. rw whole (while_operations counts c.args.line c.in_ok-over.over c.in_ok-truth.truth (block c.args.test.block) c.args.test.value (block c.args.body) (block c.args.other));
      constants = λ counts. rw whole (while_constants counts c.args.line c.in_ok-over.over c.in_ok-truth.truth (block c.args.test.block) c.args.test.value (block c.args.body) (block c.args.other));
      yields = rw whole (while_yields c.args.line c.in_ok-over.over c.in_ok-truth.truth (block c.args.test.block) c.args.test.value (block c.args.body) (block c.args.other));
      drawn = rw (c.in_ok-truth.ensures.ok, c.in_ok-over.ensures.ok) refl;
    }
