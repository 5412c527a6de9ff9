-- What stands in a rewritten block.
use Rattle.std.proofs.Common.{◌≡◌, ℕ, zero, suc, ◌+◌, Bool, true, false, Option, Some, None, List, refl, sym, ◌∙◌, arith}
use Rattle.op_forms.specs.declared.constant.Const.{Const}
use Rattle.op_forms.specs.declared.constant.Const.TheVariants as const
use Rattle.op_forms.specs.declared.op.Op.{Op}
use Rattle.code_forms.specs.declared.operand.Argument.{Argument}
use Rattle.code_forms.specs.declared.operand.Operand.{Operand}
use Rattle.code_forms.specs.declared.operand.Operand.TheVariants as operand
use Rattle.node_tree.specs.Blocks as tree
use Rattle.node_tree.specs.Contents.{form_total, total, form_operations, operations, form_constants, constants, form_yields, yields}
use Rattle.reform_blocks.specs.Standing.{Content, form_standing, standing}
use Rattle.reform_blocks.specs.Standing as content
use Rattle.node_tree.specs.Blocks.{puts, flag}
use Rattle.node_redirect.specs.Redirect.{return_stores, leave_stores, is_further, outward, leaves_by, leaves, redirect, redirect_form}

-- a sum that sees neither loops nor leaves nor truth values
pub record Blind (count : tree.Form → ℕ) : Type 0 where
  pub test : (a : Operand) (y n y' n' : tree.Block) → count (tree.If a y n) ≡ count (tree.If a y' n')
  pub loop : (b : tree.Block) → count (tree.Loop b) ≡ 0
  pub leave : (n : ℕ) → count (tree.Leave n) ≡ 0
  pub catch : (to : ℕ) (b h b' h' : tree.Block) → count (tree.Catch to b h) ≡ count (tree.Catch to b' h')
  pub gives : (t : ℕ) (o : Operand) → form_total count (puts t o) ≡ count (tree.Return o)
  pub flags : (t : ℕ) (b : Bool) → count (flag t b) ≡ 0

module _ (count : tree.Form → ℕ) (z : Blind count) where
  return_kept : (t d : ℕ) (o : Operand) → form_total count (tree.Loop (return_stores t o d)) ≡ count (tree.Return o)
  return_kept t d o =
      let l = z.loop (return_stores t o d) in let g = z.gives t o in
      let a = z.flags (t + 1) true in let b = z.flags (t + 2) false in let c = z.flags (t + 3) true in let e = z.leave (suc (suc d)) in
      omega (arith, l, g, a, b, c, e)

  by_kept : (t d j : ℕ) (k : Option ℕ) → form_total count (leaves_by t d j k) ≡ 0
  by_kept t d j None = z.leave (suc j)
  by_kept t d j (Some k) =
      let l = z.loop (leave_stores t k d) in
      let a = z.flags (t + 1) true in let b = z.flags (t + 2) false in let c = z.flags (t + 3) false in let f = z.flags (t + 4) (is_further k) in let e = z.leave (suc (suc d)) in
      omega (arith, l, a, b, c, f, e)

  leaves_kept : (t d n : ℕ) → form_total count (leaves t d n) ≡ count (tree.Leave n)
  leaves_kept t d zero = refl
  leaves_kept t d (suc j) = by_kept t d j (outward d j) ∙ sym (z.leave (suc j))

  mutual
    form_kept : (t d : ℕ) (f : tree.Form) → form_total count (redirect_form t f d) ≡ form_total count f
    form_kept t d (tree.Constant to c) = refl
    form_kept t d (tree.Copy to from) = refl
    form_kept t d (tree.Do to line o args) = refl
    form_kept t d (tree.Call to line function args) = refl
    form_kept t d (tree.Yield to line a) = refl
    form_kept t d (tree.If a y n) =
        let e = z.test a (redirect t y d) (redirect t n d) y n in
        let f : total count (redirect t y d) ≡ total count y = block_kept t d y in
        let g : total count (redirect t n d) ≡ total count n = block_kept t d n in
        omega (arith, e, f, g)
    form_kept t d (tree.Loop b) =
        let e = z.loop (redirect t b (suc d)) in let f = z.loop b in
        let g : total count (redirect t b (suc d)) ≡ total count b = block_kept t (suc d) b in
        omega (arith, e, f, g)
    form_kept t d (tree.Leave n) = leaves_kept t d n
    form_kept t d (tree.Catch to b h) =
        let e = z.catch to (redirect t b d) (redirect t h d) b h in
        let f : total count (redirect t b d) ≡ total count b = block_kept t d b in
        let g : total count (redirect t h d) ≡ total count h = block_kept t d h in
        omega (arith, e, f, g)
    form_kept t d (tree.Return o) = return_kept t d o
    form_kept t d (tree.Raise o) = refl
    form_kept t d (tree.Unset to) = refl

    pub block_kept : (t d : ℕ) (b : tree.Block) → total count (redirect t b d) ≡ total count b
    block_kept t d tree.Stop = refl
    block_kept t d (tree.Follow f r) =
        let e : form_total count (redirect_form t f d) ≡ form_total count f = form_kept t d f in
        let g : total count (redirect t r d) ≡ total count r = block_kept t d r in
        omega (arith, e, g)

operations_blind : (counts : Op → List Argument → Bool) → Blind (form_operations counts)
operations_blind counts = record {
  test = λ a y n y' n'. refl;
  loop = λ b. refl;
  leave = λ n. refl;
  catch = λ to b h b' h'. refl;
  gives = gives;
  flags = λ t b. refl;
}
  where
    gives : (t : ℕ) (o : Operand) → form_total (form_operations counts) (puts t o) ≡ form_operations counts (tree.Return o)
    gives t (operand.Temp from) = refl
    gives t (operand.Const c) = refl

yields_blind : Blind form_yields
yields_blind = record {
  test = λ a y n y' n'. refl;
  loop = λ b. refl;
  leave = λ n. refl;
  catch = λ to b h b' h'. refl;
  gives = gives;
  flags = λ t b. refl;
}
  where
    gives : (t : ℕ) (o : Operand) → form_total form_yields (puts t o) ≡ form_yields (tree.Return o)
    gives t (operand.Temp from) = refl
    gives t (operand.Const c) = refl

constants_blind : (counts : Const → Bool) → ((b : Bool) → counts (const.Bool b) ≡ false) → Blind (form_constants counts)
constants_blind counts none = record {
  test = λ a y n y' n'. refl;
  loop = λ b. refl;
  leave = λ n. refl;
  catch = λ to b h b' h'. refl;
  gives = gives;
  flags = λ t b. rw (none b) refl;
}
  where
    gives : (t : ℕ) (o : Operand) → form_total (form_constants counts) (puts t o) ≡ form_constants counts (tree.Return o)
    gives t (operand.Temp from) = refl
    gives t (operand.Const c) = refl

pub redirect_operations : (counts : Op → List Argument → Bool) (t d : ℕ) (b : tree.Block) → operations counts (redirect t b d) ≡ operations counts b
redirect_operations counts t d b = block_kept (form_operations counts) (operations_blind counts) t d b

pub redirect_yields : (t d : ℕ) (b : tree.Block) → yields (redirect t b d) ≡ yields b
redirect_yields t d b = block_kept form_yields yields_blind t d b

pub redirect_constants : (counts : Const → Bool) → ((b : Bool) → counts (const.Bool b) ≡ false) → (t d : ℕ) (b : tree.Block) → constants counts (redirect t b d) ≡ constants counts b
redirect_constants counts none t d b = block_kept (form_constants counts) (constants_blind counts none) t d b

standing_blind : (test : Content → Bool) → ((b : Bool) → test (content.Constant (const.Bool b)) ≡ false) → Blind (form_standing test)
standing_blind counts none = record {
  test = λ a y n y' n'. refl;
  loop = λ b. refl;
  leave = λ n. refl;
  catch = λ to b h b' h'. refl;
  gives = gives;
  flags = λ t b. rw (none b) refl;
}
  where
    gives : (t : ℕ) (o : Operand) → form_total (form_standing counts) (puts t o) ≡ form_standing counts (tree.Return o)
    gives t (operand.Temp from) = refl
    gives t (operand.Const c) = refl

pub redirect_standing : (test : Content → Bool) → ((b : Bool) → test (content.Constant (const.Bool b)) ≡ false) → (t d : ℕ) (b : tree.Block) → standing test (redirect t b d) ≡ standing test b
redirect_standing test none t d b = block_kept (form_standing test) (standing_blind test none) t d b
