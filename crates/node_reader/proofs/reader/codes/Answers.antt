use Rattle.std.proofs.Common.{arith, ℕ, List, ◌≡◌, ◌∷◌, ◌++◌, [], length, length-append, ap, sym, subst}
use Rattle.std.specs.List.{AllByRecursion}
use Rattle.c_reader.proofs.Sequences.{all_more}
use Rattle.node_tree.specs.declared.script.NodeCode.{NodeCode}
use Rattle.node_text.specs.Written.{IsCode}
use Rattle.node_reader.specs.Codes.{CodeStands, CodesStand}
use Rattle.node_reader.proofs.Passed.{passed}
use Rattle.node_reader.proofs.Scripts.{no_code, left_over, next_code, all_read}
use Rattle.node_reader.proofs.reader.codes.Goals as goal

pub returns-in_err-one-clause-not_nodes : goal.returns-in_err-one-clause-not_nodes
returns-in_err-one-clause-not_nodes c =
    let text = c.args.text.now in
    let left = c.loop-number.left.now in
    let n = c.loop-number.number in
    passed c.from_residual.result c.in_err-one.field-0.0 ((d : NodeCode) (rest : List ℕ) → CodeStands n left d rest → ⊥) ((all : List NodeCode) → CodesStand c.args.count text all → ⊥) c.from_residual.ensures.1
    (λ none all s. no_code c.args.count n text left c.loop-number.found all c.loop-number.invariant.spelled c.loop-number.invariant.each c.loop-number.invariant.ends c.loop-number.invariant.long c.loop-number-test.true none s) c.in_err-one.ensures.not_nodes

pub loop-number-preserved : goal.loop-number-preserved
loop-number-preserved c =
    let more = c.in_ok-push.ensures.ok in
    let stands = c.in_ok-one.ensures.ok in
    let sum : length c.push.new.self ≡ length (c.loop-number.found ++ c.in_ok-one.one ∷ []) = ap length more in
    let parts = length-append c.loop-number.found (c.in_ok-one.one ∷ []) in
    record {
      spelled = next_code c.args.text.now c.loop-number.left.now c.in_ok-one.behind.now c.loop-number.found c.push.new.self c.loop-number.number c.in_ok-one.one c.loop-number.invariant.spelled c.loop-number.invariant.long stands more;
      each = subst (AllByRecursion IsCode) (sym more) (all_more IsCode c.loop-number.found c.in_ok-one.one c.loop-number.invariant.each stands.is);
      ends = λ some. stands.all;
      long = omega (arith, sum, parts, c.loop-number.invariant.long);
    }

pub returns-then-not-is_empty-clause-not_nodes : goal.returns-then-not-is_empty-clause-not_nodes
returns-then-not-is_empty-clause-not_nodes c = λ all s.
    left_over c.args.count c.args.text.now c.loop-number.left.now c.loop-number.found all c.loop-number.invariant.spelled c.loop-number.invariant.each c.loop-number.invariant.ends
    (omega (arith, c.loop-number.invariant.long, c.loop-number-test.false, c.loop-number.auto.number-end)) (grind (arith, c.is_empty.ensures, c.if-not-is_empty.true)) s

pub returns-clause-ok : goal.returns-clause-ok
returns-clause-ok c =
    all_read c.args.count c.args.text.now c.loop-number.left.now c.loop-number.found c.loop-number.invariant.spelled c.loop-number.invariant.each (omega (arith, c.loop-number.invariant.long, c.loop-number-test.false, c.loop-number.auto.number-end))
    (grind (arith, c.is_empty.ensures, c.if-not-is_empty.false))
