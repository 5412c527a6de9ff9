use Rattle.std.proofs.Common.{sym, ◌∙◌, arith}
use Rattle.rt_text.proofs.Blanks.{blank_passed, no_blank}
use Rattle.rt_text.proofs.parts.blanks_from.Goals as goal

pub returns-then-not-is_blank-clause-place : goal.returns-then-not-is_blank-clause-place
returns-then-not-is_blank-clause-place c =
    sym (no_blank c.args.text.now c.loop-end.end (omega arith) (omega arith) (sym c.is_blank.ensures ∙ c.if-not-is_blank.true)) ∙ c.loop-end.invariant.same

pub loop-end-preserved : goal.loop-end-preserved
loop-end-preserved c = record {
  same = sym (blank_passed c.args.text.now c.loop-end.end (omega arith) (omega arith) (sym c.is_blank.ensures ∙ c.if-not-is_blank.false)) ∙ c.loop-end.invariant.same;
  within = omega arith;
}
