-- Where the labels of a block stand.
use Rattle.std.proofs.Common.{◌≡◌, ◌≢◌, ℕ, zero, suc, ◌+◌, ◌<◌, ◌≤◌, List, [], ◌∷◌, Bool, true, false, nat_eq, if◌then◌else◌, refl, ap, ◌∙◌, arith}
use Rattle.std.proofs.lemmas.Bool.{eq-eqb, eqb-true}
use Rattle.flow_code.specs.declared.statement.Line.{Line}
use Rattle.flow_code.specs.declared.statement.Line.TheVariants.{Label, Do}
use Rattle.flow_code.specs.declared.statement.Statement.{Statement}
use Rattle.flow_code.specs.declared.statement.Statement.TheVariants as flat
use Rattle.flow_code.specs.Run.{find}
use Rattle.node_tree.specs.Blocks as tree
use Rattle.flow_lower.specs.Lower.{form_labels, labels, form_lines, block_lines, body_lines, copies, last_lines}

eq_self : (n : ℕ) → nat_eq n n ≡ true
eq_self n = eq-eqb n n refl

pub find_same : (l : ℕ) (ls : List Line) → find l (Label l ∷ ls) ≡ ls
find_same l ls = ap (λ b. if b then ls else find l ls) (eq_self l)

pub find_other : (l k : ℕ) (ls : List Line) → l ≢ k → find l (Label k ∷ ls) ≡ find l ls
find_other l k ls h = go (nat_eq l k) refl
  where
    go : (b : Bool) → nat_eq l k ≡ b → (if nat_eq l k then ls else find l ls) ≡ find l ls
    go true e = absurd (h (eqb-true l k e))
    go false e = ap (λ b. if b then ls else find l ls) e

-- a label that a statement or a block doesn't have stands behind it
mutual
  pub skip_form : (x : tree.Form) (l k fail : ℕ) (out : List ℕ) (mid : List Line) → ((j : ℕ) → k ≤ j → j < k + form_labels x → l ≢ j) → find l (form_lines x k fail out mid) ≡ find l mid
  skip_form (tree.Constant to c) l k fail out mid h = refl
  skip_form (tree.Copy to from) l k fail out mid h = refl
  skip_form (tree.Do to line o args) l k fail out mid h = refl
  skip_form (tree.Call to line function args) l k fail out mid h = refl
  skip_form (tree.Yield to line a) l k fail out mid h = refl
  skip_form (tree.If test y z) l k fail out mid h = skip z l _ fail out _ (λ j p q. h j (omega arith) (omega arith)) ∙ find_other l k _ (h k (omega arith) (omega arith)) ∙ skip y l _ fail out _ (λ j p q. h j (omega arith) (omega arith)) ∙ find_other l (k + 1) _ (h (k + 1) (omega arith) (omega arith))
  skip_form (tree.Loop b) l k fail out mid h = find_other l k _ (h k (omega arith) (omega arith)) ∙ skip b l _ fail _ _ (λ j p q. h j (omega arith) (omega arith)) ∙ find_other l (k + 1) _ (h (k + 1) (omega arith) (omega arith))
  skip_form (tree.Leave levels) l k fail out mid h = refl
  skip_form (tree.Catch to b g) l k fail out mid h = skip b l _ k out _ (λ j p q. h j (omega arith) (omega arith)) ∙ find_other l k _ (h k (omega arith) (omega arith)) ∙ skip g l _ fail out _ (λ j p q. h j (omega arith) (omega arith)) ∙ find_other l (k + 1) _ (h (k + 1) (omega arith) (omega arith))
  skip_form (tree.Return a) l k fail out mid h = refl
  skip_form (tree.Raise a) l k fail out mid h = refl
  skip_form (tree.Unset to) l k fail out mid h = refl

  pub skip : (b : tree.Block) (l k fail : ℕ) (out : List ℕ) (tail : List Line) → ((j : ℕ) → k ≤ j → j < k + labels b → l ≢ j) → find l (block_lines b k fail out tail) ≡ find l tail
  skip tree.Stop l k fail out tail h = refl
  skip (tree.Follow x r) l k fail out tail h = skip_form x l k fail out _ (λ j p q. h j p (omega arith)) ∙ skip r l _ fail out tail (λ j p q. h j (omega arith) (omega arith))

-- copies have no labels
pub skip_copies : (l : ℕ) (x : ℕ → ℕ → Statement) (n to i : ℕ) (tail : List Line) → find l (copies x n to i tail) ≡ find l tail
skip_copies l x zero to i tail = refl
skip_copies l x (suc n) to i tail = skip_copies l x n (suc to) (suc i) tail

-- behind the fail label of a block that has a statement its exception leaves
abbrev pub Fails : tree.Block → List Line → Type 0
Fails tree.Stop behind = Unit {0}
Fails (tree.Follow x r) behind = behind ≡ Do flat.Fail ∷ []

pub body_fail : (b : tree.Block) → Fails b (find 0 (body_lines b))
body_fail tree.Stop = tt
body_fail (tree.Follow x r) =
    skip (tree.Follow x r) 0 1 0 [] (last_lines (tree.Follow x r)) (λ j u v e. absurd (omega arith)) ∙ find_same 0 _
