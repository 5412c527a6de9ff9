-- Where the flat code of a block goes on, for each place of its row, and which labels the code has.
use Rattle.std.proofs.Common.{◌≡◌, ℕ, ◌+◌, ◌<◌, ◌≤◌, List, [], ◌∷◌, true, false, ◌∙◌, arith}
use Rattle.nu_value.specs.declared.value.Value.{Value}
use Rattle.nu_value.specs.declared.value.Value.TheVariants as value
use Rattle.nu_rows.specs.Rows.{Next, Raised, Step, First, Second}
use Rattle.node_tree.specs.Blocks as tree
use Rattle.flow_code.specs.declared.statement.Line.{Line}
use Rattle.flow_code.specs.declared.statement.Line.TheVariants.{Label, Do}
use Rattle.flow_code.specs.declared.statement.Statement.TheVariants as flat
use Rattle.flow_code.specs.Run.{find}
use Rattle.flow_lower.specs.Lower.{form_labels, labels, form_lines, block_lines, last_lines}
use Rattle.flow_lower.proofs.Labels.{find_same, find_other, skip_form, skip}

-- what surrounds a block's code: its fail label, the labels behind the loops around it, and the lines that follow
pub record Lay : Type 0 where
  pub fail : ℕ
  pub exits : List ℕ
  pub tail : List Line

abbrev pub lay : ℕ → List ℕ → List Line → Lay
lay fail exits tail = record { fail = fail; exits = exits; tail = tail }

abbrev pub code_of : tree.Block → ℕ → Lay → List Line
code_of b k a = block_lines b k a.fail a.exits a.tail

-- where a pause goes on
pub record Point : Type 0 where
  pub to : ℕ
  pub line : ℕ
  pub fail : ℕ
  pub next : List Line

abbrev pub Points : Type 0
Points = List Step → Point

abbrev pub lost : Point
lost = record { to = 0; line = 0; fail = 0; next = [] }

abbrev pub none : Points
none p = lost

abbrev pub then_points : Points → Points → Points
then_points f g [] = lost
then_points f g (First ∷ p) = f p
then_points f g (Second e ∷ p) = g p

abbrev pub read_points : (Value → Points) → Points
read_points f (Second (Next v) ∷ p) = f v p
read_points f p = lost

abbrev pub choose_points : Value → Points → Points → Points
choose_points (value.Bool true) f g = f
choose_points (value.Bool false) f g = g
choose_points v f g = none

abbrev pub yield_points : Point → Points
yield_points pt (First ∷ First ∷ []) = pt
yield_points pt p = lost

abbrev pub catch_points : Points → Points → Points
catch_points f g (First ∷ p) = f p
catch_points f g (Second (Raised x) ∷ Second e ∷ p) = g p
catch_points f g p = lost

-- the layouts of the parts of a statement whose own layout is m
abbrev pub if_yes : ℕ → Lay → Lay
if_yes k m = lay m.fail m.exits (Label (k + 1) ∷ m.tail)

abbrev pub if_no : ℕ → tree.Block → tree.Block → Lay → Lay
if_no k y z m = lay m.fail m.exits (Do (flat.Goto (k + 1)) ∷ Label k ∷ code_of y (k + 2 + labels z) (if_yes k m))

abbrev pub loop_body : ℕ → Lay → Lay
loop_body k m = lay m.fail ((k + 1) ∷ m.exits) (Do (flat.Goto k) ∷ Label (k + 1) ∷ m.tail)

abbrev pub catch_body : ℕ → ℕ → tree.Block → tree.Block → Lay → Lay
catch_body k to b h m =
    lay k m.exits (Do (flat.Goto (k + 1)) ∷ Label k ∷ Do (flat.Caught to) ∷ code_of h (k + 2 + labels b) (if_yes k m))

-- the layout of a statement that r follows
abbrev pub first_lay : tree.Form → tree.Block → ℕ → Lay → Lay
first_lay x r k a = lay a.fail a.exits (code_of r (k + form_labels x) a)

abbrev mutual
  pub form_points : tree.Form → ℕ → Lay → Points
  form_points (tree.Constant to c) k m = none
  form_points (tree.Copy to from) k m = none
  form_points (tree.Do to line o args) k m = none
  form_points (tree.Call to line function args) k m = none
  form_points (tree.Yield to line a) k m = read_points (λ v. yield_points (record { to = to; line = line; fail = m.fail; next = m.tail }))
  form_points (tree.If test y z) k m =
      read_points (λ v. choose_points v (points y (k + 2 + labels z) (if_yes k m)) (points z (k + 2) (if_no k y z m)))
  form_points (tree.Loop b) k m = points b (k + 2) (loop_body k m)
  form_points (tree.Leave levels) k m = none
  form_points (tree.Catch to b h) k m = catch_points (points b (k + 2) (catch_body k to b h m)) (points h (k + 2 + labels b) (if_yes k m))
  form_points (tree.Return a) k m = none
  form_points (tree.Raise a) k m = read_points (λ v. none)
  form_points (tree.Unset to) k m = none

  pub points : tree.Block → ℕ → Lay → Points
  points tree.Stop k a = none
  points (tree.Follow x r) k a = then_points (form_points x k (first_lay x r k a)) (points r (k + form_labels x) a)

-- the layout of the block of a whole body
abbrev pub top : tree.Block → Lay
top b = lay 0 [] (last_lines b)

-- where a whole body goes on
abbrev pub body_points : tree.Block → Points
body_points b = points b 1 (top b)

-- the code has a block's labels where the block's code has them
pub record Owns (code : List Line) (b : tree.Block) (k : ℕ) (a : Lay) : Type 0 where
  pub by : (l : ℕ) → k ≤ l → l < k + labels b → find l code ≡ find l (code_of b k a)

pub record OwnsForm (code : List Line) (x : tree.Form) (k : ℕ) (m : Lay) : Type 0 where
  pub by : (l : ℕ) → k ≤ l → l < k + form_labels x → find l code ≡ find l (form_lines x k m.fail m.exits m.tail)

module _ (code : List Line) where
  pub owns_first : (x : tree.Form) (r : tree.Block) (k : ℕ) (a : Lay) → Owns code (tree.Follow x r) k a → OwnsForm code x k (first_lay x r k a)
  owns_first x r k a o = record { by = λ l p q. o.by l p (omega arith) }

  pub owns_rest : (x : tree.Form) (r : tree.Block) (k : ℕ) (a : Lay) → Owns code (tree.Follow x r) k a → Owns code r (k + form_labels x) a
  owns_rest x r k a o = record { by = λ l p q. o.by l (omega arith) (omega arith) ∙ skip_form x l k a.fail a.exits _ (λ j u v e. absurd (omega arith)) }

  pub if_then : (t : _) (y z : tree.Block) (k : ℕ) (m : Lay) → OwnsForm code (tree.If t y z) k m → find k code ≡ code_of y (k + 2 + labels z) (if_yes k m)
  if_then t y z k m o = o.by k (omega arith) (omega arith) ∙ skip z k _ m.fail m.exits _ (λ j u v e. absurd (omega arith)) ∙ find_same k _

  pub if_end : (t : _) (y z : tree.Block) (k : ℕ) (m : Lay) → OwnsForm code (tree.If t y z) k m → find (k + 1) code ≡ m.tail
  if_end t y z k m o = o.by (k + 1) (omega arith) (omega arith) ∙ skip z (k + 1) _ m.fail m.exits _ (λ j u v e. absurd (omega arith)) ∙ find_other (k + 1) k _ (λ e. absurd (omega arith)) ∙ skip y (k + 1) _ m.fail m.exits _ (λ j u v e. absurd (omega arith)) ∙ find_same (k + 1) _

  pub owns_no : (t : _) (y z : tree.Block) (k : ℕ) (m : Lay) → OwnsForm code (tree.If t y z) k m → Owns code z (k + 2) (if_no k y z m)
  owns_no t y z k m o = record { by = λ l p q. o.by l (omega arith) (omega arith) }

  pub owns_yes : (t : _) (y z : tree.Block) (k : ℕ) (m : Lay) → OwnsForm code (tree.If t y z) k m → Owns code y (k + 2 + labels z) (if_yes k m)
  owns_yes t y z k m o = record { by = λ l p q. o.by l (omega arith) (omega arith) ∙ skip z l _ m.fail m.exits _ (λ j u v e. absurd (omega arith)) ∙ find_other l k _ (λ e. absurd (omega arith)) }

  pub loop_head : (b : tree.Block) (k : ℕ) (m : Lay) → OwnsForm code (tree.Loop b) k m → find k code ≡ code_of b (k + 2) (loop_body k m)
  loop_head b k m o = o.by k (omega arith) (omega arith) ∙ find_same k _

  pub loop_end : (b : tree.Block) (k : ℕ) (m : Lay) → OwnsForm code (tree.Loop b) k m → find (k + 1) code ≡ m.tail
  loop_end b k m o = o.by (k + 1) (omega arith) (omega arith) ∙ find_other (k + 1) k _ (λ e. absurd (omega arith)) ∙ skip b (k + 1) _ m.fail ((k + 1) ∷ m.exits) _ (λ j u v e. absurd (omega arith)) ∙ find_same (k + 1) _

  pub owns_body : (b : tree.Block) (k : ℕ) (m : Lay) → OwnsForm code (tree.Loop b) k m → Owns code b (k + 2) (loop_body k m)
  owns_body b k m o = record { by = λ l p q. o.by l (omega arith) (omega arith) ∙ find_other l k _ (λ e. absurd (omega arith)) }

  pub catch_head : (t : ℕ) (b h : tree.Block) (k : ℕ) (m : Lay) → OwnsForm code (tree.Catch t b h) k m → find k code ≡ Do (flat.Caught t) ∷ code_of h (k + 2 + labels b) (if_yes k m)
  catch_head t b h k m o = o.by k (omega arith) (omega arith) ∙ skip b k _ k m.exits _ (λ j u v e. absurd (omega arith)) ∙ find_same k _

  pub catch_end : (t : ℕ) (b h : tree.Block) (k : ℕ) (m : Lay) → OwnsForm code (tree.Catch t b h) k m → find (k + 1) code ≡ m.tail
  catch_end t b h k m o = o.by (k + 1) (omega arith) (omega arith) ∙ skip b (k + 1) _ k m.exits _ (λ j u v e. absurd (omega arith)) ∙ find_other (k + 1) k _ (λ e. absurd (omega arith)) ∙ skip h (k + 1) _ m.fail m.exits _ (λ j u v e. absurd (omega arith)) ∙ find_same (k + 1) _

  pub owns_guarded : (t : ℕ) (b h : tree.Block) (k : ℕ) (m : Lay) → OwnsForm code (tree.Catch t b h) k m → Owns code b (k + 2) (catch_body k t b h m)
  owns_guarded t b h k m o = record { by = λ l p q. o.by l (omega arith) (omega arith) }

  pub owns_handler : (t : ℕ) (b h : tree.Block) (k : ℕ) (m : Lay) → OwnsForm code (tree.Catch t b h) k m → Owns code h (k + 2 + labels b) (if_yes k m)
  owns_handler t b h k m o = record { by = λ l p q. o.by l (omega arith) (omega arith) ∙ skip b l _ k m.exits _ (λ j u v e. absurd (omega arith)) ∙ find_other l k _ (λ e. absurd (omega arith)) }
