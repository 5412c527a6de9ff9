use Rattle.std.proofs.Common.{sym, subst}
use Rattle.std.specs.List.{AllByRecursion}
use Rattle.c_meaning.specs.Written.{IsNumber}
use Rattle.c_reader.proofs.Sequences.{all_more}
use Rattle.c_reader.proofs.Statements.{no_case, next_case}
use Rattle.c_reader.proofs.statement.cases.Goals as goal

pub returns-in_default-case_label-clause-none : goal.returns-in_default-case_label-clause-none
returns-in_default-case_label-clause-none c =
    no_case c.args.text.now c.loop-behind.rest.now c.in-Some.behind.now c.loop-behind.labels c.len.result c.loop-behind.invariant.spelled c.loop-behind.invariant.each c.in-Some.ensures.some c.len.ensures c.in_default-case_label.ensures.none

pub loop-behind-preserved : goal.loop-behind-preserved
loop-behind-preserved c =
    let label = c.in-Some-case_label.ensures.some in
    record {
      spelled = next_case c.args.text.now c.loop-behind.rest.now c.in-Some.behind.now c.in-Some-case_label.behind.now c.loop-behind.labels c.push.new.self c.len.result c.in-Some-case_label.label c.loop-behind.invariant.spelled c.in-Some.ensures.some c.len.ensures label
          c.in_ok-push.ensures.ok;
      each = subst (AllByRecursion IsNumber) (sym c.in_ok-push.ensures.ok) (all_more IsNumber c.loop-behind.labels c.in-Some-case_label.label c.loop-behind.invariant.each label.is);
    }
