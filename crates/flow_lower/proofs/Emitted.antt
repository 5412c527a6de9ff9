-- What `lower_node` appends are the lines of its node.
use Rattle.std.proofs.lemmas.List.{length-append}
use Rattle.std.proofs.Common.{◌<◌, ◌-◌, drop, append-nil, subst, ◌≡◌, ◌≢◌, ℕ, zero, suc, ◌+◌, ◌≤◌, List, [], ◌∷◌, ◌++◌, length, get_or, refl, sym, ap, ◌∙◌, arith, append_assoc}
use Rattle.node_tree.specs.declared.node.Node.{Node, If, Loop, Catch}
use Rattle.code_forms.specs.declared.operand.Operand.{Operand}
use Rattle.node_tree.specs.Tree.{form, block}
use Rattle.node_tree.proofs.Forms.{form_loop, form_if, form_catch}
use Rattle.node_tree.specs.declared.script.NodeCode.{NodeCode}
use Rattle.flow_code.specs.declared.function.FlatFunction.{FlatFunction}
use Rattle.flow_code.specs.declared.statement.Line.{Line}
use Rattle.flow_code.specs.declared.statement.Statement.{Statement}
use Rattle.flow_code.specs.declared.statement.Line.TheVariants.{Label, Do}
use Rattle.flow_code.specs.declared.statement.Statement.TheVariants as flat
use Rattle.flow_lower.specs.Correct.{LowersCode, LowersEach}
use Rattle.flow_lower.specs.Lower.{form_labels, labels, exit, exit_of, form_lines, block_lines, copies, fail_lines, last_lines, function_lines}

exit_at : (xs : List ℕ) (k : ℕ) → get_or xs k 0 ≡ exit xs k
exit_at [] k = refl
exit_at (x ∷ xs) zero = refl
exit_at (x ∷ xs) (suc k) = exit_at xs k

exit_past : (xs : List ℕ) (k : ℕ) → length xs ≤ k → 0 ≡ exit xs k
exit_past [] k le = refl
exit_past (x ∷ xs) zero le = absurd (omega arith)
exit_past (x ∷ xs) (suc k) le = exit_past xs k (omega arith)

-- the label behind the loop that one more level than k leaves
pub exit_is : (xs : List ℕ) (l k : ℕ) → l ≡ suc k → get_or xs k 0 ≡ exit_of xs l
exit_is xs l k e = exit_at xs k ∙ ap (exit_of xs) (sym e)

pub exit_none : (xs : List ℕ) (l k : ℕ) → l ≡ suc k → length xs ≤ k → 0 ≡ exit_of xs l
exit_none xs l k e le = exit_past xs k le ∙ ap (exit_of xs) (sym e)

put_then : (o p : List Line) (x : Line) (tail : List Line) → p ≡ o ++ x ∷ [] → p ++ tail ≡ o ++ x ∷ tail
put_then o p x tail e = ap (λ l. l ++ tail) e ∙ append_assoc o (x ∷ []) tail

-- what a call of `lower_nodes` gives
pub record Emits (o p : List Line) (xs : List Node) (k k' fail : ℕ) (ex ex' : List ℕ) : Type 0 where
  pub lines : (tail : List Line) → p ++ tail ≡ o ++ block_lines (block xs) k fail ex tail
  pub drawn : k' ≡ k + labels (block xs)
  pub exits : ex' ≡ ex

pub emit_if : (t : Operand) (a : _) (fail k k1 k2 k3 k4 first end : ℕ) (ex ex1 ex2 : List ℕ) (ys zs : List Node) (o0 o1 o2 o3 o4 o5 o6 : List Line) → a ≡ t → first ≡ k → k1 ≡ k + 1 → end ≡ k1 → k2 ≡ k1 + 1 → o1 ≡ o0 ++ Do (flat.Branch a first) ∷ [] → Emits o1 o2 zs k2 k3 fail ex ex1 → o3 ≡ o2 ++ Do (flat.Goto end) ∷ [] → o4 ≡ o3 ++ Label first ∷ [] → Emits o4 o5 ys k3 k4 fail ex1 ex2 → o6 ≡ o5 ++ Label end ∷ [] → (mid : List Line) → o6 ++ mid ≡ o0 ++ form_lines (form (If t ys zs)) k fail ex mid
emit_if t a fail k k1 k2 k3 k4 first end ex ex1 ex2 ys zs o0 o1 o2 o3 o4 o5 o6 ea f1 f2 f3 f4 p1 other p2 p3 then p4 mid =
    let e2 : k2 ≡ k + 2 = omega arith in
    let e1 : end ≡ k + 1 = omega arith in
    let e3 : k3 ≡ k + 2 + labels (block zs) = omega (arith, other.drawn) in
    let y = block_lines (block ys) k3 fail ex1 (Label end ∷ mid) in
    put_then o5 o6 (Label end) mid p4
    ∙ then.lines (Label end ∷ mid)
    ∙ put_then o3 o4 (Label first) y p3
    ∙ put_then o2 o3 (Do (flat.Goto end)) (Label first ∷ y) p2
    ∙ other.lines (Do (flat.Goto end) ∷ Label first ∷ y)
    ∙ put_then o0 o1 (Do (flat.Branch a first)) (block_lines (block zs) k2 fail ex (Do (flat.Goto end) ∷ Label first ∷ y)) p1
    ∙ rw (ea, f1, e1, e2, e3, other.exits) refl
    ∙ ap (λ b. o0 ++ form_lines b k fail ex mid) (sym (form_if t ys zs))

pub emit_loop : (fail k k1 k2 k3 head end : ℕ) (ex ex1 ex2 : List ℕ) (xs : List Node) (o0 o1 o2 o3 o4 : List Line) → head ≡ k → k1 ≡ k + 1 → end ≡ k1 → k2 ≡ k1 + 1 → o1 ≡ o0 ++ Label head ∷ [] → ex1 ≡ end ∷ ex → Emits o1 o2 xs k2 k3 fail ex1 ex2 → o3 ≡ o2 ++ Do (flat.Goto head) ∷ [] → o4 ≡ o3 ++ Label end ∷ [] → (mid : List Line) → o4 ++ mid ≡ o0 ++ form_lines (form (Loop xs)) k fail ex mid
emit_loop fail k k1 k2 k3 head end ex ex1 ex2 xs o0 o1 o2 o3 o4 f1 f2 f3 f4 p1 x1 body p2 p3 mid =
    let e2 : k2 ≡ k + 2 = omega arith in
    let e1 : end ≡ k + 1 = omega arith in
    put_then o3 o4 (Label end) mid p3
    ∙ put_then o2 o3 (Do (flat.Goto head)) (Label end ∷ mid) p2
    ∙ body.lines (Do (flat.Goto head) ∷ Label end ∷ mid)
    ∙ put_then o0 o1 (Label head) (block_lines (block xs) k2 fail ex1 (Do (flat.Goto head) ∷ Label end ∷ mid)) p1
    ∙ rw (x1, f1, e1, e2) refl
    ∙ ap (λ b. o0 ++ form_lines b k fail ex mid) (sym (form_loop xs))

pub emit_catch : (t fail k k1 k2 k3 k4 caught end : ℕ) (ex ex1 ex2 : List ℕ) (xs hs : List Node) (o0 o2 o3 o4 o5 o6 o7 : List Line) → caught ≡ k → k1 ≡ k + 1 → end ≡ k1 → k2 ≡ k1 + 1 → Emits o0 o2 xs k2 k3 caught ex ex1 → o3 ≡ o2 ++ Do (flat.Goto end) ∷ [] → o4 ≡ o3 ++ Label caught ∷ [] → o5 ≡ o4 ++ Do (flat.Caught t) ∷ [] → Emits o5 o6 hs k3 k4 fail ex1 ex2 → o7 ≡ o6 ++ Label end ∷ [] → (mid : List Line) → o7 ++ mid ≡ o0 ++ form_lines (form (Catch t xs hs)) k fail ex mid
emit_catch t fail k k1 k2 k3 k4 caught end ex ex1 ex2 xs hs o0 o2 o3 o4 o5 o6 o7 f1 f2 f3 f4 body p2 p3 p4 handler p5 mid =
    let e2 : k2 ≡ k + 2 = omega arith in
    let e1 : end ≡ k + 1 = omega arith in
    let e3 : k3 ≡ k + 2 + labels (block xs) = omega (arith, body.drawn) in
    let y = block_lines (block hs) k3 fail ex1 (Label end ∷ mid) in
    put_then o6 o7 (Label end) mid p5
    ∙ handler.lines (Label end ∷ mid)
    ∙ put_then o4 o5 (Do (flat.Caught t)) y p4
    ∙ put_then o3 o4 (Label caught) (Do (flat.Caught t) ∷ y) p3
    ∙ put_then o2 o3 (Do (flat.Goto end)) (Label caught ∷ Do (flat.Caught t) ∷ y) p2
    ∙ body.lines (Do (flat.Goto end) ∷ Label caught ∷ Do (flat.Caught t) ∷ y)
    ∙ rw (f1, e1, e2, e3, body.exits) refl
    ∙ ap (λ b. o0 ++ form_lines b k fail ex mid) (sym (form_catch t xs hs))

pub drawn_if : (t : Operand) (k k1 k2 k3 k4 : ℕ) (ys zs : List Node) → k1 ≡ k + 1 → k2 ≡ k1 + 1 → k3 ≡ k2 + labels (block zs) → k4 ≡ k3 + labels (block ys) → k4 ≡ k + form_labels (form (If t ys zs))
drawn_if t k k1 k2 k3 k4 ys zs e1 e2 e3 e4 = omega (arith, ap form_labels (form_if t ys zs))

pub drawn_loop : (k k1 k2 k3 : ℕ) (xs : List Node) → k1 ≡ k + 1 → k2 ≡ k1 + 1 → k3 ≡ k2 + labels (block xs) → k3 ≡ k + form_labels (form (Loop xs))
drawn_loop k k1 k2 k3 xs e1 e2 e3 = omega (arith, ap form_labels (form_loop xs))

pub drawn_catch : (t k k1 k2 k3 k4 : ℕ) (xs hs : List Node) → k1 ≡ k + 1 → k2 ≡ k1 + 1 → k3 ≡ k2 + labels (block xs) → k4 ≡ k3 + labels (block hs) → k4 ≡ k + form_labels (form (Catch t xs hs))
drawn_catch t k k1 k2 k3 k4 xs hs e1 e2 e3 e4 = omega (arith, ap form_labels (form_catch t xs hs))

-- what `put_fail` appends where there are nodes
pub emit_fail : (fail : ℕ) (xs : List Node) (o1 o2 o3 : List Line) → fail ≡ 0 → length xs ≢ 0 → o2 ≡ o1 ++ Label fail ∷ [] → o3 ≡ o2 ++ Do flat.Fail ∷ [] → o3 ≡ o1 ++ fail_lines (block xs)
emit_fail fail [] o1 o2 o3 f h p2 p3 = absurd (h refl)
emit_fail fail (x ∷ xs) o1 o2 o3 f h p2 p3 = p3 ∙ put_then o1 o2 (Label fail) (Do flat.Fail ∷ []) p2 ∙ ap (λ l. o1 ++ Label l ∷ Do flat.Fail ∷ []) f

-- what `lower_code` puts together
pub emit_function : (params free k0 k1 fail : ℕ) (ex : List ℕ) (xs : List Node) (o1 o2 o3 o4 o5 : List Line) → k0 ≡ 0 → fail ≡ k0 → k1 ≡ k0 + 1 → ex ≡ [] → ((tail : List Line) → o1 ++ tail ≡ copies flat.Parameter params 0 0 tail) → length o1 ≡ params → ((tail : List Line) → o2 ++ tail ≡ o1 ++ copies flat.Free free (length o1) 0 tail) → ((tail : List Line) → o3 ++ tail ≡ o2 ++ block_lines (block xs) k1 fail ex tail) → o4 ≡ o3 ++ Do flat.End ∷ [] → o5 ≡ o4 ++ fail_lines (block xs) → o5 ≡ function_lines params free (block xs)
emit_function params free k0 k1 fail ex xs o1 o2 o3 o4 o5 z f e x h1 len h2 h3 p4 p5 =
    let f' : fail ≡ 0 = omega arith in
    let e' : k1 ≡ 1 = omega arith in
    let b = block_lines (block xs) k1 fail ex (last_lines (block xs)) in
    p5
    ∙ put_then o3 o4 (Do flat.End) (fail_lines (block xs)) p4
    ∙ h3 (last_lines (block xs))
    ∙ h2 b
    ∙ h1 (copies flat.Free free (length o1) 0 b)
    ∙ rw (len, x, f', e') refl

-- one more copy
pub copies_step : (x : ℕ → ℕ → Statement) (count i to : ℕ) (o p : List Line) → i < count → to ≡ length o → p ≡ o ++ Do (x to i) ∷ [] → (tail : List Line) → p ++ copies x (count - (i + 1)) (length p) (i + 1) tail ≡ o ++ copies x (count - i) (length o) i tail
copies_step x count i to o p lt et e tail =
    let m : count - i ≡ suc (count - (i + 1)) = omega arith in
    let lp : length p ≡ suc (length o) = omega (arith, ap length e, length-append o (Do (x to i) ∷ [])) in
    let i1 : i + 1 ≡ suc i = omega arith in
    put_then o p (Do (x to i)) (copies x (count - (i + 1)) (length p) (i + 1) tail) e
    ∙ ap (λ l. o ++ Do (x to i) ∷ copies x (count - (i + 1)) l (i + 1) tail) lp
    ∙ ap (λ j. o ++ Do (x to i) ∷ copies x (count - (i + 1)) (suc (length o)) j tail) i1
    ∙ ap (λ l. o ++ Do (x l i) ∷ copies x (count - (i + 1)) (suc (length o)) (suc i) tail) et
    ∙ ap (λ n. o ++ copies x n (length o) i tail) (sym m)

-- one more function
pub each_more : (cs ds : List NodeCode) (fs gs : List FlatFunction) (c : NodeCode) (f : FlatFunction) → LowersCode c f → ((rest : List FlatFunction) → LowersEach (c ∷ ds) rest → LowersEach cs (fs ++ rest)) → gs ≡ fs ++ f ∷ [] → (rest : List FlatFunction) → LowersEach ds rest → LowersEach cs (gs ++ rest)
each_more cs ds fs gs c f h k e rest r = subst (λ l. LowersEach cs l) (sym (ap (λ l. l ++ rest) e ∙ append_assoc fs (f ∷ []) rest)) (k (f ∷ rest) (h, r))

pub put_length : (o p : List Line) (x : Line) → p ≡ o ++ x ∷ [] → length p ≡ length o + 1
put_length o p x e = ap length e ∙ length-append o (x ∷ [])

drop_all : (cs : List NodeCode) (i : ℕ) → length cs ≤ i → drop i cs ≡ []
drop_all [] zero le = refl
drop_all [] (suc i) le = refl
drop_all (c ∷ cs) zero le = absurd (omega arith)
drop_all (c ∷ cs) (suc i) le = drop_all cs i (omega arith)

-- no code is left
pub each_end : (cs ds : List NodeCode) (fs gs : List FlatFunction) (i : ℕ) → ((rest : List FlatFunction) → LowersEach (drop i cs) rest → LowersEach cs (fs ++ rest)) → length cs ≤ i → cs ≡ ds → gs ≡ fs → LowersEach ds gs
each_end cs ds fs gs i h le e f =
    subst (λ l. LowersEach l gs) e (subst (λ l. LowersEach cs l) (append-nil fs ∙ sym f) (h [] (subst (λ l. LowersEach l []) (sym (drop_all cs i le)) tt)))
