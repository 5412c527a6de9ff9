use Rattle.std.proofs.Common.{arith, subst}
use Rattle.reform_all.proofs.Chains.{chains_next, chains_end, last_quiet}
use Rattle.reform_all.proofs.Quiets.{parts_quiet}
use Rattle.reform_all.specs.Quiet.{AllQuiet}
use Rattle.reform_all.proofs.choices.chained.Goals as goal

pub loop-choice-preserved : goal.loop-choice-preserved
loop-choice-preserved c = record {
  drawn = omega (arith, c.loop-choice.invariant.drawn, c.in_ok-block.ensures.drawn);
  chains = chains_next c.args.choices c.loop-choice.left c.pop.new.self c.in-Some.choice _ _ _ c.args.other c.loop-choice.block c.in_ok-block.block
      c.in-Some.ensures c.loop-choice.invariant.drawn c.in_ok-block.ensures.carries c.loop-choice.invariant.chains;
  quiet = λ x y.
      let q = c.loop-choice.invariant.quiet x y in
      let l = last_quiet c.pop.new.self c.in-Some.choice (subst (λ ps. AllQuiet ps) c.in-Some.ensures q.0) in
      (l.0, parts_quiet c.in-Some.choice.test.value c.in-Some.choice.test.block c.in-Some.choice.body c.loop-choice.block c.in_ok-block.block c.in_ok-block.ensures.operations c.in_ok-block.ensures.yields l.1.0 l.1.1 q.1);
}

pub returns-clause-carries : goal.returns-clause-carries
returns-clause-carries c = chains_end c.args.choices c.loop-choice.left _ _ c.args.other c.loop-choice.block c.in_default.ensures.0 c.loop-choice.invariant.chains

pub returns-clause-quiet : goal.returns-clause-quiet
returns-clause-quiet c = λ x y. (c.loop-choice.invariant.quiet x y).1
