-- A block is rewritten, so that it returns nothing and leaves no loop around it but the nearest: what it would have done is kept in five
-- temporaries, from t on: the value that is returned, or the exception; whether an end other than a value is pending; whether it is an
-- exception; whether it is a return; and whether it leaves two loops.
use Rattle.std.specs.Prelude.{ℕ, zero, suc, ◌+◌, Bool, true, false, Option, Some, None}
use Rattle.code_forms.specs.declared.operand.Operand.{Operand}
use Rattle.node_tree.specs.Blocks.{alone, puts, flag}
use Rattle.node_tree.specs.Blocks as tree

-- a return is pending; this loop is left, so many of the block, and the nearest around
abbrev pub return_flags : ℕ → ℕ → tree.Block
return_flags t d = tree.Follow (flag (t + 1) true) (tree.Follow (flag (t + 2) false) (tree.Follow (flag (t + 3) true) (alone (tree.Leave (suc (suc d))))))

-- a return, inside so many loops of the block: one node stands for one, a loop that stores and leaves itself, these, and the nearest around
abbrev pub return_stores : ℕ → Operand → ℕ → tree.Block
return_stores t o d = tree.Follow (puts t o) (return_flags t d)

abbrev pub is_further : ℕ → Bool
is_further zero = false
is_further (suc k) = true

-- a leave of so many loops more than the nearest around the block
abbrev pub leave_stores : ℕ → ℕ → ℕ → tree.Block
leave_stores t k d = tree.Follow (flag (t + 1) true) (tree.Follow (flag (t + 2) false) (tree.Follow (flag (t + 3) false) (tree.Follow (flag (t + 4) (is_further k)) (alone (tree.Leave (suc (suc d)))))))

-- inside so many loops of the block: how many loops further than the nearest around it an end leaves, if it leaves the block
abbrev pub outward : ℕ → ℕ → Option ℕ
outward zero j = Some j
outward (suc d) zero = None
outward (suc d) (suc j) = outward d j

abbrev pub leaves_by : ℕ → ℕ → ℕ → Option ℕ → tree.Form
leaves_by t d j None = tree.Leave (suc j)
leaves_by t d j (Some k) = tree.Loop (leave_stores t k d)

abbrev pub leaves : ℕ → ℕ → ℕ → tree.Form
leaves t d zero = tree.Leave zero
leaves t d (suc j) = leaves_by t d j (outward d j)

abbrev mutual
  pub redirect_form : ℕ → tree.Form → ℕ → tree.Form
  redirect_form t (tree.Constant to c) d = tree.Constant to c
  redirect_form t (tree.Copy to from) d = tree.Copy to from
  redirect_form t (tree.Do to line o args) d = tree.Do to line o args
  redirect_form t (tree.Call to line function args) d = tree.Call to line function args
  redirect_form t (tree.Yield to line a) d = tree.Yield to line a
  redirect_form t (tree.If test y n) d = tree.If test (redirect t y d) (redirect t n d)
  redirect_form t (tree.Loop body) d = tree.Loop (redirect t body (suc d))
  redirect_form t (tree.Leave levels) d = leaves t d levels
  redirect_form t (tree.Catch to body handler) d = tree.Catch to (redirect t body d) (redirect t handler d)
  redirect_form t (tree.Return a) d = tree.Loop (return_stores t a d)
  redirect_form t (tree.Raise a) d = tree.Raise a
  redirect_form t (tree.Unset to) d = tree.Unset to

  -- inside so many loops of the block
  pub redirect : ℕ → tree.Block → ℕ → tree.Block
  redirect t tree.Stop d = tree.Stop
  redirect t (tree.Follow x r) d = tree.Follow (redirect_form t x d) (redirect t r d)
