-- How often labels stand in lowered code, and where its statements lead.
use Rattle.std.proofs.Common.{◌≡◌, ◌≢◌, ℕ, zero, suc, ◌+◌, ◌<◌, ◌≤◌, List, [], ◌∷◌, Bool, true, false, nat_eq, if◌then◌else◌, refl, sym, ap, ◌∙◌, subst, arith, length}
use Rattle.std.proofs.lemmas.Bool.{eq-eqb, eqb-true}
use Rattle.std.specs.List.{AllByRecursion}
use Rattle.node_tree.specs.declared.script.NodeCode.{NodeCode}
use Rattle.node_tree.specs.Blocks as tree
use Rattle.node_tree.specs.Tree.{block}
use Rattle.flow_code.specs.declared.statement.Line.{Line}
use Rattle.flow_code.specs.declared.statement.Line.TheVariants.{Label, Do}
use Rattle.flow_code.specs.declared.statement.Statement.{Statement}
use Rattle.flow_code.specs.declared.statement.Statement.TheVariants as flat
use Rattle.flow_code.specs.Labels.{stands, Lead}
use Rattle.flow_lower.specs.Lower.{form_labels, labels, exit, exit_of, form_lines, block_lines, body_lines, copies, function_lines, code_lines, last_lines}

abbrev pub one_at : ℕ → ℕ → ℕ
one_at l k = if nat_eq l k then 1 else 0

-- how many of the n numbers from k on are l
abbrev pub inside : ℕ → ℕ → ℕ → ℕ
inside l k zero = 0
inside l k (suc n) = one_at l k + inside l (suc k) n

nothing : (n : ℕ) → n ≡ 0 + n
nothing n = omega arith

inside_sum : (l k m n : ℕ) → inside l k (m + n) ≡ inside l k m + inside l (k + m) n
inside_sum l k zero n =
    let e : k ≡ k + 0 = omega arith in
    let z : 0 + n ≡ n = omega arith in
    ap (inside l k) z ∙ ap (λ i. inside l i n) e ∙ nothing (inside l (k + 0) n)
inside_sum l k (suc m) n =
    let e : suc k + m ≡ k + suc m = omega arith in
    let z : suc m + n ≡ suc (m + n) = omega arith in
    let i : inside l (suc k) (m + n) ≡ inside l (suc k) m + inside l (k + suc m) n = inside_sum l (suc k) m n ∙ ap (λ j. inside l (suc k) m + inside l j n) e in
    let s : inside l k (suc (m + n)) ≡ one_at l k + inside l (suc k) (m + n) = refl in
    let t : inside l k (suc m) ≡ one_at l k + inside l (suc k) m = refl in
    ap (inside l k) z ∙ omega (arith, s, t, i)

-- two labels of a statement, and those of its two parts
inside_parts : (l k a b : ℕ) → inside l k (2 + a + b) ≡ one_at l k + (one_at l (k + 1) + (inside l (k + 2) a + inside l (k + 2 + a) b))
inside_parts l k a b =
    let e1 : suc k ≡ k + 1 = omega arith in
    let e2 : suc (suc k) ≡ k + 2 = omega arith in
    let n : 2 + a + b ≡ suc (suc (a + b)) = omega arith in
    ap (inside l k) n
    ∙ ap (λ j. one_at l k + (one_at l j + inside l (suc (suc k)) (a + b))) e1
    ∙ ap (λ j. one_at l k + (one_at l (k + 1) + inside l j (a + b))) e2
    ∙ ap (λ x. one_at l k + (one_at l (k + 1) + x)) (inside_sum l (k + 2) a b)

one_is : (l k : ℕ) → l ≡ k → one_at l k ≡ 1
one_is l k e = ap (λ b. if b then 1 else 0) (eq-eqb l k e)

one_cases : (l k : ℕ) (b : Bool) → nat_eq l k ≡ b → (P : ℕ → Type 0) → (l ≡ k → P 1) → P 0 → P (one_at l k)
one_cases l k true e P h g = subst (λ b. P (if b then 1 else 0)) (sym e) (h (eqb-true l k e))
one_cases l k false e P h g = subst (λ b. P (if b then 1 else 0)) (sym e) g

inside_none : (l k n : ℕ) → l < k → inside l k n ≡ 0
inside_none l k zero lt = refl
inside_none l k (suc n) lt =
    let i = inside_none l (suc k) n (omega arith) in
    let o : one_at l k ≡ 0 = one_cases l k _ refl (λ x. x ≡ 0) (λ e. absurd (omega arith)) refl in
    omega (arith, o, i)

inside_most : (l k n : ℕ) → inside l k n ≤ 1
inside_most l k zero = let z : 0 ≤ 1 = omega arith in z
inside_most l k (suc n) =
    one_cases l k _ refl (λ x. x + inside l (suc k) n ≤ 1) (λ e. omega (arith, inside_none l (suc k) n (omega arith))) (omega (arith, inside_most l (suc k) n))

inside_has : (l k n : ℕ) → k ≤ l → l < k + n → inside l k n ≡ 1
inside_has l k zero le lt = absurd (omega arith)
inside_has l k (suc n) le lt = go (nat_eq l k) refl (λ h. inside_has l (suc k) n h (omega (arith, lt)))
  where
    go : (b : Bool) → nat_eq l k ≡ b → (suc k ≤ l → inside l (suc k) n ≡ 1) → one_at l k + inside l (suc k) n ≡ 1
    go true e h =
        let q : l ≡ k = eqb-true l k e in omega (arith, one_is l k q, inside_none l (suc k) n (omega (arith, q)))
    go false e h =
        let o : one_at l k ≡ 0 = ap (λ b. if b then 1 else 0) e in
        let ne : l ≢ k = λ q. let t : nat_eq l k ≡ true = eq-eqb l k q in cc in
        omega (arith, o, h (omega (arith, ne, le)))

inside_is : (l k n : ℕ) → 0 < inside l k n → l < k + n
inside_is l k zero h = absurd (omega (arith, h))
inside_is l k (suc n) h = go (nat_eq l k) refl (inside_is l (suc k) n)
  where
    go : (b : Bool) → nat_eq l k ≡ b → (0 < inside l (suc k) n → l < suc k + n) → l < k + suc n
    go true e r = let q : l ≡ k = eqb-true l k e in omega (arith, q)
    go false e r =
        let o : one_at l k ≡ 0 = ap (λ b. if b then 1 else 0) e in
        let p : 0 < one_at l k + inside l (suc k) n = h in
        let t : 0 < inside l (suc k) n = omega (arith, o, p) in
        omega (arith, r t)

-- the labels of a statement, and of a block, stand once each
mutual
  stands_form : (x : tree.Form) (l k fail : ℕ) (out : List ℕ) (mid : List Line) → stands l (form_lines x k fail out mid) ≡ inside l k (form_labels x) + stands l mid
  stands_form (tree.Constant to c) l k fail out mid = nothing (stands l mid)
  stands_form (tree.Copy to from) l k fail out mid = nothing (stands l mid)
  stands_form (tree.Do to line o args) l k fail out mid = nothing (stands l mid)
  stands_form (tree.Call to line function args) l k fail out mid = nothing (stands l mid)
  stands_form (tree.Yield to line a) l k fail out mid = nothing (stands l mid)
  stands_form (tree.If test y z) l k fail out mid =
      let b = block_lines y (k + 2 + labels z) fail out (Label (k + 1) ∷ mid) in
      let e1 : stands l (form_lines (tree.If test y z) k fail out mid) ≡ inside l (k + 2) (labels z) + (one_at l k + stands l b) = stands_block z l (k + 2) fail out _ in
      let e2 : stands l b ≡ inside l (k + 2 + labels z) (labels y) + (one_at l (k + 1) + stands l mid) = stands_block y l _ fail out _ in
      omega (arith, e1, e2, inside_parts l k (labels z) (labels y))
  stands_form (tree.Loop body) l k fail out mid =
      let b = block_lines body (k + 2) fail ((k + 1) ∷ out) (Do (flat.Goto k) ∷ Label (k + 1) ∷ mid) in
      let e1 : stands l (form_lines (tree.Loop body) k fail out mid) ≡ one_at l k + stands l b = refl in
      let e2 : stands l b ≡ inside l (k + 2) (labels body) + (one_at l (k + 1) + stands l mid) = stands_block body l (k + 2) fail _ _ in
      let n : 2 + labels body ≡ 2 + labels body + 0 = omega arith in
      let p : inside l k (2 + labels body) ≡ one_at l k + (one_at l (k + 1) + (inside l (k + 2) (labels body) + 0)) = ap (inside l k) n ∙ inside_parts l k (labels body) 0 in
      omega (arith, e1, e2, p)
  stands_form (tree.Leave levels) l k fail out mid = nothing (stands l mid)
  stands_form (tree.Catch to body handler) l k fail out mid =
      let b = block_lines handler (k + 2 + labels body) fail out (Label (k + 1) ∷ mid) in
      let e1 : stands l (form_lines (tree.Catch to body handler) k fail out mid) ≡ inside l (k + 2) (labels body) + (one_at l k + stands l b) = stands_block body l (k + 2) k out _ in
      let e2 : stands l b ≡ inside l (k + 2 + labels body) (labels handler) + (one_at l (k + 1) + stands l mid) = stands_block handler l _ fail out _ in
      omega (arith, e1, e2, inside_parts l k (labels body) (labels handler))
  stands_form (tree.Return a) l k fail out mid = nothing (stands l mid)
  stands_form (tree.Raise a) l k fail out mid = nothing (stands l mid)
  stands_form (tree.Unset to) l k fail out mid = nothing (stands l mid)

  stands_block : (b : tree.Block) (l k fail : ℕ) (out : List ℕ) (tail : List Line) → stands l (block_lines b k fail out tail) ≡ inside l k (labels b) + stands l tail
  stands_block tree.Stop l k fail out tail = nothing (stands l tail)
  stands_block (tree.Follow x r) l k fail out tail =
      let e1 = stands_form x l k fail out (block_lines r (k + form_labels x) fail out tail) in
      let e2 = stands_block r l (k + form_labels x) fail out tail in
      omega (arith, e1, e2, inside_sum l k (form_labels x) (labels r))

stands_copies : (l : ℕ) (x : ℕ → ℕ → Statement) (n to i : ℕ) (tail : List Line) → stands l (copies x n to i tail) ≡ stands l tail
stands_copies l x zero to i tail = refl
stands_copies l x (suc n) to i tail = stands_copies l x n (suc to) (suc i) tail

-- each label of a function whose block has a statement, from 0 on, stands once, and no other; of another none stands
stands_handed : (params free : ℕ) (b : tree.Block) (l : ℕ) → stands l (function_lines params free b) ≡ stands l (body_lines b)
stands_handed params free b l = stands_copies l flat.Parameter params 0 0 _ ∙ stands_copies l flat.Free free params 0 _

stands_follow : (params free : ℕ) (x : tree.Form) (r : tree.Block) (l : ℕ) → stands l (function_lines params free (tree.Follow x r)) ≡ inside l 0 (1 + labels (tree.Follow x r))
stands_follow params free x r l =
    let b = tree.Follow x r in
    let e : stands l (body_lines b) ≡ inside l 1 (labels b) + (one_at l 0 + 0) = stands_block b l 1 0 [] (last_lines b) in
    let s : inside l 0 (suc (labels b)) ≡ one_at l 0 + inside l 1 (labels b) = refl in
    let n : suc (labels b) ≡ 1 + labels b = omega arith in
    stands_handed params free b l ∙ omega (arith, e, s) ∙ ap (inside l 0) n

stands_most : (params free : ℕ) (b : tree.Block) (l : ℕ) → stands l (function_lines params free b) ≤ inside l 0 (1 + labels b)
stands_most params free tree.Stop l = omega (arith, stands_handed params free tree.Stop l)
stands_most params free (tree.Follow x r) l = omega (arith, stands_follow params free x r l)

pub stands_once : (c : NodeCode) (l : ℕ) → stands l (code_lines c) ≤ 1
stands_once c l = omega (arith, stands_most (length c.header.params) c.free (block c.body) l, inside_most l 0 (1 + labels (block c.body)))

pub stands_below : (c : NodeCode) (l : ℕ) → 0 < stands l (code_lines c) → l < 1 + labels (block c.body)
stands_below c l h =
    let r : l < 0 + (1 + labels (block c.body)) = inside_is l 0 (1 + labels (block c.body)) (omega (arith, h, stands_most (length c.header.params) c.free (block c.body) l)) in omega (arith, r)

-- where the labels of a statement or a block, its fail label, the exits around and 0 are such ones, so is each to which it
-- leads
module _ (P : ℕ → Type 0) (z : P 0) where
  exit_such : (out : List ℕ) (n : ℕ) → AllByRecursion P out → P (exit out n)
  exit_such [] n h = z
  exit_such (l ∷ ls) zero h = h.0
  exit_such (l ∷ ls) (suc n) h = exit_such ls n h.1

  exit_of_such : (out : List ℕ) (n : ℕ) → AllByRecursion P out → P (exit_of out n)
  exit_of_such out zero h = z
  exit_of_such out (suc n) h = exit_such out n h

  mutual
    lead_form : (x : tree.Form) (k fail : ℕ) (out : List ℕ) (mid : List Line) → P fail → AllByRecursion P out → ((j : ℕ) → k ≤ j → j < k + form_labels x → P j) → Lead P mid → Lead P (form_lines x k fail out mid)
    lead_form (tree.Constant to c) k fail out mid f o h m = (tt, m)
    lead_form (tree.Copy to from) k fail out mid f o h m = (tt, m)
    lead_form (tree.Do to line op args) k fail out mid f o h m = ((f, tt), m)
    lead_form (tree.Call to line function args) k fail out mid f o h m = ((f, tt), m)
    lead_form (tree.Yield to line a) k fail out mid f o h m = ((f, tt), m)
    lead_form (tree.If test y n) k fail out mid f o h m = (
      (h k (omega arith) (omega arith), tt),
      lead_block n (k + 2) fail out _ f o (λ j p q. h j (omega arith) (omega arith))
          ((h (k + 1) (omega arith) (omega arith), tt), lead_block y (k + 2 + labels n) fail out _ f o (λ j p q. h j (omega arith) (omega arith)) m),
    )
    lead_form (tree.Loop body) k fail out mid f o h m =
        lead_block body (k + 2) fail ((k + 1) ∷ out) _ f (h (k + 1) (omega arith) (omega arith), o) (λ j p q. h j (omega arith) (omega arith))
        ((h k (omega arith) (omega arith), tt), m)
    lead_form (tree.Leave levels) k fail out mid f o h m = ((exit_of_such out levels o, tt), m)
    lead_form (tree.Catch to body handler) k fail out mid f o h m =
        lead_block body (k + 2) k out _ (h k (omega arith) (omega arith)) o (λ j p q. h j (omega arith) (omega arith))
        ((h (k + 1) (omega arith) (omega arith), tt), (tt, lead_block handler (k + 2 + labels body) fail out _ f o (λ j p q. h j (omega arith) (omega arith)) m))
    lead_form (tree.Return a) k fail out mid f o h m = (tt, m)
    lead_form (tree.Raise a) k fail out mid f o h m = ((f, tt), m)
    lead_form (tree.Unset to) k fail out mid f o h m = (tt, m)

    lead_block : (b : tree.Block) (k fail : ℕ) (out : List ℕ) (tail : List Line) → P fail → AllByRecursion P out → ((j : ℕ) → k ≤ j → j < k + labels b → P j) → Lead P tail → Lead P (block_lines b k fail out tail)
    lead_block tree.Stop k fail out tail f o h m = m
    lead_block (tree.Follow x r) k fail out tail f o h m =
        lead_form x k fail out _ f o (λ j p q. h j p (omega arith)) (lead_block r (k + form_labels x) fail out tail f o (λ j p q. h j (omega arith) (omega arith)) m)

module _ (P : ℕ → Type 0) where
  lead_parameters : (n to i : ℕ) (tail : List Line) → Lead P tail → Lead P (copies flat.Parameter n to i tail)
  lead_parameters zero to i tail h = h
  lead_parameters (suc n) to i tail h = (tt, lead_parameters n (suc to) (suc i) tail h)

  lead_free : (n to i : ℕ) (tail : List Line) → Lead P tail → Lead P (copies flat.Free n to i tail)
  lead_free zero to i tail h = h
  lead_free (suc n) to i tail h = (tt, lead_free n (suc to) (suc i) tail h)

-- each label to which the code leads stands in it
there_function : (params free : ℕ) (b : tree.Block) → Lead (λ l. 0 < stands l (function_lines params free b)) (function_lines params free b)
there_function params free tree.Stop =
    lead_parameters _ params 0 0 _ (lead_free _ free params 0 _ (tt, tt))
there_function params free (tree.Follow x r) =
    let b = tree.Follow x r in
    let there : (l : ℕ) → l < 1 + labels b → 0 < stands l (function_lines params free b) = λ l h. omega (arith, stands_follow params free x r l, inside_has l 0 (1 + labels b) (omega arith) (omega (arith, h))) in
    lead_parameters _ params 0 0 _ (lead_free _ free params 0 _
    (lead_block (λ l. 0 < stands l (function_lines params free b)) (there 0 (omega arith)) b 1 0 [] (last_lines b) (there 0 (omega arith)) tt (λ j p q. there j (omega arith)) (tt, (tt, tt))))

pub there_code : (c : NodeCode) → Lead (λ l. 0 < stands l (code_lines c)) (code_lines c)
there_code c = there_function (length c.header.params) c.free (block c.body)
