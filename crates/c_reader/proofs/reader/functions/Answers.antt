use Rattle.std.proofs.Common.{arith, ℕ, List, ◌≡◌, ◌∷◌, ◌++◌, [], length, length-append, ap, sym, subst}
use Rattle.std.specs.List.{AllByRecursion}
use Rattle.c_meaning.specs.declared.program.Function.{Function}
use Rattle.c_meaning.specs.Written.{IsFunction}
use Rattle.c_reader.specs.Functions.{FunctionStands}
use Rattle.c_reader.specs.Programs.{FunctionsStand}
use Rattle.c_reader.proofs.Passed.{passed}
use Rattle.c_reader.proofs.Programs.{no_function, left_over, next_function, all_read}
use Rattle.c_reader.proofs.Sequences.{all_more}
use Rattle.c_reader.proofs.reader.functions.Goals as goal

pub returns-in_err-one-clause-not_c : goal.returns-in_err-one-clause-not_c
returns-in_err-one-clause-not_c c =
    let text = c.args.text.now in
    let left = c.loop-number.left.now in
    let n = c.loop-number.number in
    passed c.from_residual.result c.in_err-one.field-0.0 ((f : Function) (rest : List ℕ) → FunctionStands n left f rest → ⊥) ((all : List Function) → FunctionsStand c.args.count text all → ⊥) c.from_residual.ensures.1
    (λ none all s. no_function c.args.count n text left c.loop-number.found all c.loop-number.invariant.spelled c.loop-number.invariant.each c.loop-number.invariant.long c.loop-number-test.true none s) c.in_err-one.ensures.not_c

pub loop-number-preserved : goal.loop-number-preserved
loop-number-preserved c =
    let more = c.in_ok-push.ensures.ok in
    let stands = c.in_ok-one.ensures.ok in
    let sum : length c.push.new.self ≡ length (c.loop-number.found ++ c.in_ok-one.one ∷ []) = ap length more in
    let parts = length-append c.loop-number.found (c.in_ok-one.one ∷ []) in
    record {
      spelled = next_function c.args.text.now c.loop-number.left.now c.in_ok-one.behind.now c.loop-number.found c.push.new.self c.loop-number.number c.in_ok-one.one c.loop-number.invariant.spelled c.loop-number.invariant.long stands more;
      each = subst (AllByRecursion IsFunction) (sym more) (all_more IsFunction c.loop-number.found c.in_ok-one.one c.loop-number.invariant.each stands.is);
      long = omega (arith, sum, parts, c.loop-number.invariant.long);
    }

pub returns-then-not-is_empty-clause-not_c : goal.returns-then-not-is_empty-clause-not_c
returns-then-not-is_empty-clause-not_c c = λ all s.
    left_over c.args.count c.args.text.now c.loop-number.left.now c.loop-number.found all c.loop-number.invariant.spelled c.loop-number.invariant.each (omega (arith, c.loop-number.invariant.long, c.loop-number-test.false, c.loop-number.auto.number-end))
    (grind (arith, c.is_empty.ensures, c.if-not-is_empty.true)) s

pub returns-clause-ok : goal.returns-clause-ok
returns-clause-ok c =
    all_read c.args.count c.args.text.now c.loop-number.left.now c.loop-number.found c.loop-number.invariant.spelled c.loop-number.invariant.each (omega (arith, c.loop-number.invariant.long, c.loop-number-test.false, c.loop-number.auto.number-end))
    (grind (arith, c.is_empty.ensures, c.if-not-is_empty.false))
