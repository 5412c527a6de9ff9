-- Blocks whose operations all take what they are given, put together.
use Rattle.std.proofs.Common.{◌≡◌, ℕ, zero, suc, Bool, not, List, [], ◌∷◌, Option, Some, None, refl, arith}
use Rattle.std.specs.List.{AllByRecursion}
use Rattle.op_forms.specs.declared.op.Op.{Op}
use Rattle.code_forms.specs.declared.operand.Argument.{Argument}
use Rattle.code_forms.specs.declared.operand.Operand.{Operand}
use Rattle.code_forms.specs.declared.operand.Operand.TheVariants as operand
use Rattle.code_forms.specs.Taking.{is_taken}
use Rattle.node_tree.specs.Blocks.{alone, puts}
use Rattle.node_tree.specs.Blocks as tree
use Rattle.node_tree.specs.Contents.{form_total, form_operations}
use Rattle.node_tree.proofs.Direct.{total_append}
use Rattle.node_redirect.specs.Redirect.{redirect_form, redirect, leaves, leaves_by, outward}
use Rattle.carries_base.specs.Carries.{Carrier, joined}
use Rattle.carried_contents.specs.Taking.{refused, unnumbered, is_numbered}

abbrev pub refuses : Op → List Argument → Bool
refuses o args = not (is_taken o args)

abbrev pub unnumbers : (ℕ → Bool) → Op → List Argument → Bool
unnumbers inside o args = not (is_numbered inside o args)

-- a statement, with those inside, and a block
pub record Held (inside : ℕ → Bool) (x : tree.Form) : Type 0 where
  pub taken : form_total (form_operations refuses) x ≡ 0
  pub numbered : form_total (form_operations (unnumbers inside)) x ≡ 0

pub record Taken (inside : ℕ → Bool) (b : tree.Block) : Type 0 where
  pub taken : refused b ≡ 0
  pub numbered : unnumbered inside b ≡ 0

abbrev pub AllTaken : (ℕ → Bool) → List Carrier → Type 0
AllTaken inside ps = AllByRecursion (λ (p : Carrier). Taken inside p.block) ps

pub stop : {inside : ℕ → Bool} → Taken inside tree.Stop
stop = record { taken = refl; numbered = refl }

pub follow : {inside : ℕ → Bool} {x : tree.Form} {r : tree.Block} → Held inside x → Taken inside r → Taken inside (tree.Follow x r)
follow h t =
    let a = h.taken in let b = t.taken in let c = h.numbered in let d = t.numbered in
    record { taken = omega (arith, a, b); numbered = omega (arith, c, d) }

pub one : {inside : ℕ → Bool} {x : tree.Form} → Held inside x → Taken inside (alone x)
one h = follow h stop

pub both : {inside : ℕ → Bool} {b c : tree.Block} → Taken inside b → Taken inside c → Taken inside (tree.append b c)
both {inside} {b} {c} p q =
    let e = total_append (form_operations refuses) b c in let f = total_append (form_operations (unnumbers inside)) b c in
    let x = p.taken in let y = q.taken in let z = p.numbered in let w = q.numbered in
    record { taken = omega (arith, e, x, y); numbered = omega (arith, f, z, w) }

pub choice : {inside : ℕ → Bool} {a : Operand} {y n : tree.Block} → Taken inside y → Taken inside n → Held inside (tree.If a y n)
choice p q =
    let x = p.taken in let y = q.taken in let z = p.numbered in let w = q.numbered in
    record { taken = omega (arith, x, y); numbered = omega (arith, z, w) }

pub loop : {inside : ℕ → Bool} {b : tree.Block} → Taken inside b → Held inside (tree.Loop b)
loop p = let x = p.taken in let z = p.numbered in record { taken = omega (arith, x); numbered = omega (arith, z) }

pub catch : {inside : ℕ → Bool} {to : ℕ} {b c : tree.Block} → Taken inside b → Taken inside c → Held inside (tree.Catch to b c)
catch p q =
    let x = p.taken in let y = q.taken in let z = p.numbered in let w = q.numbered in
    record { taken = omega (arith, x, y); numbered = omega (arith, z, w) }

pub stored : {inside : ℕ → Bool} (to : ℕ) (a : Operand) → Held inside (puts to a)
stored to (operand.Temp t) = record { taken = refl; numbered = refl }
stored to (operand.Const c) = record { taken = refl; numbered = refl }

-- parts one after another, and a last block
pub all_joined : {inside : ℕ → Bool} (ps : List Carrier) (b : tree.Block) → AllTaken inside ps → Taken inside b → Taken inside (joined ps b)
all_joined [] b c d = d
all_joined (p ∷ ps) b c d = both c.0 (all_joined ps b c.1 d)

-- Rewritten blocks

left_by : {inside : ℕ → Bool} (t d j : ℕ) (k : Option ℕ) → Held inside (leaves_by t d j k)
left_by t d j None = record { taken = refl; numbered = refl }
left_by t d j (Some k) = record { taken = refl; numbered = refl }

left : {inside : ℕ → Bool} (t d n : ℕ) → Held inside (leaves t d n)
left t d zero = record { taken = refl; numbered = refl }
left t d (suc j) = left_by t d j (outward d j)

returned : {inside : ℕ → Bool} (t : ℕ) (a : Operand) (d : ℕ) → Held inside (redirect_form t (tree.Return a) d)
returned t (operand.Temp s) d = record { taken = refl; numbered = refl }
returned t (operand.Const c) d = record { taken = refl; numbered = refl }

first : {inside : ℕ → Bool} {x : tree.Form} {r : tree.Block} → Taken inside (tree.Follow x r) → Held inside x
first p = let x = p.taken in let z = p.numbered in record { taken = omega (arith, x); numbered = omega (arith, z) }

rest : {inside : ℕ → Bool} {x : tree.Form} {r : tree.Block} → Taken inside (tree.Follow x r) → Taken inside r
rest p = let x = p.taken in let z = p.numbered in record { taken = omega (arith, x); numbered = omega (arith, z) }

on_true : {inside : ℕ → Bool} {a : Operand} {y n : tree.Block} → Held inside (tree.If a y n) → Taken inside y
on_true p = let x = p.taken in let z = p.numbered in record { taken = omega (arith, x); numbered = omega (arith, z) }

on_false : {inside : ℕ → Bool} {a : Operand} {y n : tree.Block} → Held inside (tree.If a y n) → Taken inside n
on_false p = let x = p.taken in let z = p.numbered in record { taken = omega (arith, x); numbered = omega (arith, z) }

looped : {inside : ℕ → Bool} {b : tree.Block} → Held inside (tree.Loop b) → Taken inside b
looped p = let x = p.taken in let z = p.numbered in record { taken = omega (arith, x); numbered = omega (arith, z) }

tried : {inside : ℕ → Bool} {to : ℕ} {b c : tree.Block} → Held inside (tree.Catch to b c) → Taken inside b
tried p = let x = p.taken in let z = p.numbered in record { taken = omega (arith, x); numbered = omega (arith, z) }

handled : {inside : ℕ → Bool} {to : ℕ} {b c : tree.Block} → Held inside (tree.Catch to b c) → Taken inside c
handled p = let x = p.taken in let z = p.numbered in record { taken = omega (arith, x); numbered = omega (arith, z) }

mutual
  form_redirected : {inside : ℕ → Bool} (t : ℕ) (x : tree.Form) (d : ℕ) → Held inside x → Held inside (redirect_form t x d)
  form_redirected t (tree.Constant to c) d h = h
  form_redirected t (tree.Copy to from) d h = h
  form_redirected t (tree.Do to line o args) d h = h
  form_redirected t (tree.Call to line function args) d h = h
  form_redirected t (tree.Yield to line a) d h = h
  form_redirected t (tree.If test y n) d h = choice (redirected t y d (on_true h)) (redirected t n d (on_false h))
  form_redirected t (tree.Loop body) d h = loop (redirected t body (suc d) (looped h))
  form_redirected t (tree.Leave levels) d h = left t d levels
  form_redirected t (tree.Catch to body handler) d h =
      catch (redirected t body d (tried h)) (redirected t handler d (handled h))
  form_redirected t (tree.Return a) d h = returned t a d
  form_redirected t (tree.Raise a) d h = h
  form_redirected t (tree.Unset to) d h = h

  pub redirected : {inside : ℕ → Bool} (t : ℕ) (b : tree.Block) (d : ℕ) → Taken inside b → Taken inside (redirect t b d)
  redirected t tree.Stop d p = stop
  redirected t (tree.Follow x r) d p = follow (form_redirected t x d (first p)) (redirected t r d (rest p))

-- where it is plain to see
pub done : {inside : ℕ → Bool} {x : tree.Form} → form_total (form_operations refuses) x ≡ 0 → form_total (form_operations (unnumbers inside)) x ≡ 0 → Held inside x
done t n = record { taken = t; numbered = n }

pub clear : {inside : ℕ → Bool} {b : tree.Block} → refused b ≡ 0 → unnumbered inside b ≡ 0 → Taken inside b
clear t n = record { taken = t; numbered = n }
