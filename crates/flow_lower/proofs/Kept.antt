-- The operations, constants and pauses of a tree stand in its flat code, each as often.
use Rattle.std.proofs.Common.{◌≡◌, ℕ, zero, suc, ◌+◌, List, [], ◌∷◌, Bool, map, length, refl, sym, ap, ◌∙◌, arith}
use Rattle.op_forms.specs.declared.constant.Const.{Const}
use Rattle.op_forms.specs.declared.op.Op.{Op}
use Rattle.op_forms.specs.declared.op.Op.TheVariants as op
use Rattle.code_forms.specs.declared.operand.Argument.TheVariants as argument
use Rattle.code_forms.specs.declared.operand.Operand.{Operand}
use Rattle.code_forms.specs.declared.operand.Operand.TheVariants as operand
use Rattle.node_tree.specs.declared.script.NodeCode.{NodeCode}
use Rattle.node_tree.specs.Blocks as tree
use Rattle.node_tree.specs.Tree.{block}
use Rattle.node_tree.specs.Contents as node
use Rattle.flow_code.specs.declared.function.FlatFunction.{FlatFunction}
use Rattle.code_forms.specs.declared.operand.Argument.{Argument}
use Rattle.flow_code.specs.declared.statement.Line.{Line}
use Rattle.flow_code.specs.declared.statement.Line.TheVariants.{Label, Do}
use Rattle.flow_code.specs.declared.statement.Statement.{Statement}
use Rattle.flow_code.specs.declared.statement.Statement.TheVariants as flat
use Rattle.flow_code.specs.Contents as code
use Rattle.flow_lower.specs.Lower.{exit_of, form_labels, labels, form_lines, block_lines, copies, code_lines, last_lines}
use Rattle.flow_lower.specs.Correct.{LowersCode, LowersEach}
use Rattle.flow_lower.specs.Kept.{Keeps, KeepsEach}

none_more : (n : ℕ) → 0 + n ≡ n
none_more n = omega arith

-- a statement of flat code counts as much as the one that it is lowered from; what lowering adds counts nothing
record Agrees (w : Statement → ℕ) (v : tree.Form → ℕ) : Type 0 where
  constant : (to : ℕ) (c : Const) → w (flat.Store to (operand.Const c)) ≡ v (tree.Constant to c)
  copy : (to from : ℕ) → w (flat.Store to (operand.Temp from)) ≡ v (tree.Copy to from)
  operation : (to line : ℕ) (o : Op) (args : List Argument) (fail : ℕ) → w (flat.Do to line o args fail) ≡ v (tree.Do to line o args)
  call : (to line : ℕ) (f : Operand) (args : List Operand) (fail : ℕ) → w (flat.Do to line op.Call (argument.Value f ∷ map argument.Value args) fail) ≡ v (tree.Call to line f args)
  yield : (to line : ℕ) (a : Operand) (fail : ℕ) → w (flat.Yield to line a fail) ≡ v (tree.Yield to line a)
  branch : (a : Operand) (l : ℕ) (y n : tree.Block) → w (flat.Branch a l) ≡ v (tree.If a y n)
  loop : (b : tree.Block) → 0 ≡ v (tree.Loop b)
  leave : (n : ℕ) → 0 ≡ v (tree.Leave n)
  guard : (to : ℕ) (b h : tree.Block) → 0 ≡ v (tree.Catch to b h)
  give : (a : Operand) → w (flat.Give a) ≡ v (tree.Return a)
  again : (a : Operand) (l : ℕ) → w (flat.Again a l) ≡ v (tree.Raise a)
  unset : (to : ℕ) → w (flat.Unset to) ≡ v (tree.Unset to)
  goto : (l : ℕ) → w (flat.Goto l) ≡ 0
  caught : (to : ℕ) → w (flat.Caught to) ≡ 0
  parameter : (to i : ℕ) → w (flat.Parameter to i) ≡ 0
  free : (to i : ℕ) → w (flat.Free to i) ≡ 0
  end : w flat.End ≡ 0
  fail : w flat.Fail ≡ 0

module _ (w : Statement → ℕ) (v : tree.Form → ℕ) (same : Agrees w v) where
  one : (x y : ℕ) (mid : List Line) → x ≡ y → x + code.total w mid ≡ y + code.total w mid
  one x y mid e = ap (λ n. n + code.total w mid) e

  mutual
    total_form : (x : tree.Form) (k fail : ℕ) (out : List ℕ) (mid : List Line) → code.total w (form_lines x k fail out mid) ≡ node.form_total v x + code.total w mid
    total_form (tree.Constant to c) k fail out mid = one _ _ mid (same.constant to c)
    total_form (tree.Copy to from) k fail out mid = one _ _ mid (same.copy to from)
    total_form (tree.Do to line o args) k fail out mid = one _ _ mid (same.operation to line o args fail)
    total_form (tree.Call to line function args) k fail out mid = one _ _ mid (same.call to line function args fail)
    total_form (tree.Yield to line a) k fail out mid = one _ _ mid (same.yield to line a fail)
    total_form (tree.If a y n) k fail out mid =
        let rest = block_lines y (k + 2 + labels n) fail out (Label (k + 1) ∷ mid) in
        let jump = Do (flat.Goto (k + 1)) ∷ Label k ∷ rest in
        let e1 : code.total w (form_lines (tree.If a y n) k fail out mid) ≡ w (flat.Branch a k) + code.total w (block_lines n (k + 2) fail out jump) = refl in
        let e2 = total_block n (k + 2) fail out jump in
        let e3 : code.total w jump ≡ w (flat.Goto (k + 1)) + code.total w rest = refl in
        let e4 : code.total w rest ≡ node.total v y + code.total w mid = total_block y (k + 2 + labels n) fail out (Label (k + 1) ∷ mid) in
        omega (arith, e1, e2, e3, e4, same.branch a k y n, same.goto (k + 1))
    total_form (tree.Loop body) k fail out mid =
        let jump = Do (flat.Goto k) ∷ Label (k + 1) ∷ mid in
        let e1 : code.total w (form_lines (tree.Loop body) k fail out mid) ≡ code.total w (block_lines body (k + 2) fail ((k + 1) ∷ out) jump) = refl in
        let e2 = total_block body (k + 2) fail ((k + 1) ∷ out) jump in
        let e3 : code.total w jump ≡ w (flat.Goto k) + code.total w mid = refl in
        omega (arith, e1, e2, e3, same.loop body, same.goto k)
    total_form (tree.Leave levels) k fail out mid = one _ _ mid (same.goto (exit_of out levels) ∙ same.leave levels)
    total_form (tree.Catch to body handler) k fail out mid =
        let rest = block_lines handler (k + 2 + labels body) fail out (Label (k + 1) ∷ mid) in
        let jump = Do (flat.Goto (k + 1)) ∷ Label k ∷ Do (flat.Caught to) ∷ rest in
        let e1 : code.total w (form_lines (tree.Catch to body handler) k fail out mid) ≡ code.total w (block_lines body (k + 2) k out jump) = refl in
        let e2 = total_block body (k + 2) k out jump in
        let e3 : code.total w jump ≡ w (flat.Goto (k + 1)) + (w (flat.Caught to) + code.total w rest) = refl in
        let e4 : code.total w rest ≡ node.total v handler + code.total w mid = total_block handler (k + 2 + labels body) fail out (Label (k + 1) ∷ mid) in
        omega (arith, e1, e2, e3, e4, same.guard to body handler, same.goto (k + 1), same.caught to)
    total_form (tree.Return a) k fail out mid = one _ _ mid (same.give a)
    total_form (tree.Raise a) k fail out mid = one _ _ mid (same.again a fail)
    total_form (tree.Unset to) k fail out mid = one _ _ mid (same.unset to)

    total_block : (b : tree.Block) (k fail : ℕ) (out : List ℕ) (tail : List Line) → code.total w (block_lines b k fail out tail) ≡ node.total v b + code.total w tail
    total_block tree.Stop k fail out tail = sym (none_more _)
    total_block (tree.Follow x r) k fail out tail =
        omega (arith, total_form x k fail out (block_lines r (k + form_labels x) fail out tail), total_block r (k + form_labels x) fail out tail)

  total_copies : (x : ℕ → ℕ → Statement) → ((to i : ℕ) → w (x to i) ≡ 0) → (n to i : ℕ) (tail : List Line) → code.total w (copies x n to i tail) ≡ code.total w tail
  total_copies x h zero to i tail = refl
  total_copies x h (suc n) to i tail =
      ap (λ m. m + code.total w (copies x n (suc to) (suc i) tail)) (h to i) ∙ none_more _ ∙ total_copies x h n (suc to) (suc i) tail

  total_last : (b : tree.Block) → code.total w (last_lines b) ≡ 0
  total_last tree.Stop = omega (arith, same.end)
  total_last (tree.Follow x r) = omega (arith, same.end, same.fail)

  total_code : (c : NodeCode) → code.total w (code_lines c) ≡ node.total v (block c.body)
  total_code c =
      total_copies flat.Parameter same.parameter (length c.header.params) 0 0 _ ∙ total_copies flat.Free same.free c.free (length c.header.params) 0 _
      ∙ omega (arith, total_block (block c.body) 1 0 [] (last_lines (block c.body)), total_last (block c.body))

same_operations : (test : Op → List Argument → Bool) → Agrees (code.statement_operations test) (node.form_operations test)
same_operations test = record {
  constant = λ to c. refl;
  copy = λ to from. refl;
  operation = λ to line o args fail. refl;
  call = λ to line f args fail. refl;
  yield = λ to line a fail. refl;
  branch = λ a l y n. refl;
  loop = λ b. refl;
  leave = λ n. refl;
  guard = λ to b h. refl;
  give = λ a. refl;
  again = λ a l. refl;
  unset = λ to. refl;
  goto = λ l. refl;
  caught = λ to. refl;
  parameter = λ to i. refl;
  free = λ to i. refl;
  end = refl;
  fail = refl;
}

same_yields : Agrees code.statement_yields node.form_yields
same_yields = record {
  constant = λ to c. refl;
  copy = λ to from. refl;
  operation = λ to line o args fail. refl;
  call = λ to line f args fail. refl;
  yield = λ to line a fail. refl;
  branch = λ a l y n. refl;
  loop = λ b. refl;
  leave = λ n. refl;
  guard = λ to b h. refl;
  give = λ a. refl;
  again = λ a l. refl;
  unset = λ to. refl;
  goto = λ l. refl;
  caught = λ to. refl;
  parameter = λ to i. refl;
  free = λ to i. refl;
  end = refl;
  fail = refl;
}

module _ (test : Const → Bool) where
  same_constants : Agrees (code.statement_constants test) (node.form_constants test)
  same_constants = record {
    constant = λ to c. refl;
    copy = λ to from. refl;
    operation = λ to line o args fail. refl;
    call = λ to line f args fail. refl;
    yield = λ to line a fail. refl;
    branch = λ a l y n. refl;
    loop = λ b. refl;
    leave = λ n. refl;
    guard = λ to b h. refl;
    give = λ a. refl;
    again = λ a l. refl;
    unset = λ to. refl;
    goto = λ l. refl;
    caught = λ to. refl;
    parameter = λ to i. refl;
    free = λ to i. refl;
    end = refl;
    fail = refl;
  }

keeps : (c : NodeCode) (f : FlatFunction) → LowersCode c f → Keeps c f
keeps c f h = record {
  operations = λ test. ap (λ ls. code.operations test ls) h.body ∙ total_code _ _ (same_operations test) c;
  constants = λ test. ap (λ ls. code.constants test ls) h.body ∙ total_code _ _ (same_constants test) c;
  yields = ap (λ ls. code.yields ls) h.body ∙ total_code _ _ same_yields c;
}

pub keeps_each : (cs : List NodeCode) (fs : List FlatFunction) → LowersEach cs fs → KeepsEach cs fs
keeps_each [] [] h = tt
keeps_each [] (f ∷ fs) h = absurd h
keeps_each (c ∷ cs) [] h = absurd h
keeps_each (c ∷ cs) (f ∷ fs) h = (keeps c f h.0, keeps_each cs fs h.1)
