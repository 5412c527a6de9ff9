-- Targets whose parts are evaluated, and the primitive statements that assign to them, delete them, and assign to them augmented
-- (reference, sections 7.2 and 7.5). The temporaries of their parts are drawn before; the others follow the value's.
use Rattle.std.specs.Prelude.{ℕ, ◌+◌, List, [], ◌∷◌}
use Rattle.op_forms.specs.declared.op.Op.{Op}
use Rattle.code_forms.specs.declared.operand.Operand.{Operand}
use Rattle.code_forms.specs.declared.operand.Operand.TheVariants as operand
use Rattle.node_tree.specs.Blocks.{alone}
use Rattle.node_tree.specs.Blocks as tree
use Rattle.carries_base.specs.Carries.{Carrier}
use Rattle.carries_targets.specs.Places.{Taker}
use Rattle.carries_targets.specs.Targets.{attribute_block, index_block, each_block, starred_block}
use Rattle.carries_targets.specs.Augments.{operated_block, attribute_augmented, index_augmented}
use Rattle.carries_targets.specs.Deletions.{attribute_deleted, index_deleted}
use Rattle.carried_codes.specs.Seats.{Seat, reads, stores, unbinds}
use Rattle.carried_codes.specs.Parts.{Several, several, Made, made}

-- each with the line of its own expression
mutual
  pub data Place : Type 0 where
    Name : (line : ℕ) (seat : Seat) → Place
    Attribute : (line : ℕ) (part : Carrier) (name : List ℕ) → Place
    Index : (line : ℕ) (part at : Carrier) → Place
    Each : (line : ℕ) (places : Places) → Place
    -- with a star before the one in the middle
    Starred : (line : ℕ) (before : Places) (star : Place) (behind : Places) → Place
    Nothing : Place

  pub data Places : Type 0 where
    NoPlace : Places
    Also : (place : Place) (places : Places) → Places

abbrev pub count : Places → ℕ
count NoPlace = 0
count (Also p ps) = count ps + 1

-- One place of each kind

unfoldable pub assign_name : ℕ → Seat → Operand → ℕ → Made
assign_name line s o t = made (alone (stores t line s o)) (t + 1)

unfoldable pub assign_attribute : ℕ → Carrier → List ℕ → Operand → ℕ → Made
assign_attribute line p name o t = made (attribute_block line t p.block p.value name o) (t + 1)

unfoldable pub assign_index : ℕ → Carrier → Carrier → Operand → ℕ → Made
assign_index line p q o t = made (index_block line t p.block p.value q.block q.value o) (t + 1)

-- the list of the items is in the temporary t
unfoldable pub assign_each : ℕ → ℕ → List Taker → Operand → ℕ → tree.Block
assign_each line n ps o t = each_block line t n o ps

unfoldable pub assign_starred : ℕ → ℕ → ℕ → List Taker → Taker → List Taker → Operand → ℕ → tree.Block
assign_starred line n m ps p qs o t = starred_block line t n m o ps p qs

abbrev mutual
  -- what an operand holds goes to a place
  pub assign : ℕ → Operand → Place → Made
  assign t o (Name line s) = assign_name line s o t
  assign t o (Attribute line p name) = assign_attribute line p name o t
  assign t o (Index line p q) = assign_index line p q o t
  assign t o (Each line ps) = let xs = takes (t + 1) ps in made (assign_each line (count ps) xs.parts o t) xs.next
  assign t o (Starred line before star behind) =
      let xs = takes (t + 1) before in let m = assign (xs.next + 1) (operand.Temp xs.next) star in let ys = takes m.next behind in
      made (assign_starred line (count before) (count behind) xs.parts (record { item = xs.next; block = m.block }) ys.parts o t) ys.next
  assign t o Nothing = made tree.Stop t

  -- the items of a list, each by a temporary of its own
  pub takes : ℕ → Places → Several Taker
  takes t NoPlace = several [] t
  takes t (Also p ps) = let m = assign (t + 1) (operand.Temp t) p in let xs = takes m.next ps in several (record { item = t; block = m.block } ∷ xs.parts) xs.next

-- to all these, from left to right
abbrev pub assign_all : ℕ → Operand → Places → Made
assign_all t o NoPlace = made tree.Stop t
assign_all t o (Also p ps) = let m = assign t o p in let n = assign_all m.next o ps in made (tree.append m.block n.block) n.next

-- Deletions

unfoldable pub delete_name : ℕ → Seat → ℕ → Made
delete_name line s t = made (unbinds t line s) (t + 1)

unfoldable pub delete_attribute : ℕ → Carrier → List ℕ → ℕ → Made
delete_attribute line p name t = made (attribute_deleted line t p.block p.value name) (t + 1)

unfoldable pub delete_index : ℕ → Carrier → Carrier → ℕ → Made
delete_index line p q t = made (index_deleted line t p.block p.value q.block q.value) (t + 1)

abbrev mutual
  pub delete : ℕ → Place → Made
  delete t (Name line s) = delete_name line s t
  delete t (Attribute line p name) = delete_attribute line p name t
  delete t (Index line p q) = delete_index line p q t
  delete t (Each line ps) = delete_all t ps
  delete t other = made tree.Stop t

  pub delete_all : ℕ → Places → Made
  delete_all t NoPlace = made tree.Stop t
  delete_all t (Also p ps) = let m = delete t p in let n = delete_all m.next ps in made (tree.append m.block n.block) n.next

-- Augmented assignments

unfoldable pub augment_name : ℕ → Op → ℕ → Seat → Carrier → ℕ → Made
augment_name line o at s q t = made (tree.Follow (reads t at s) (operated_block line t o q.block q.value (alone (stores (t + 2) at s (operand.Temp (t + 1)))))) (t + 3)

unfoldable pub augment_attribute : ℕ → Op → ℕ → Carrier → List ℕ → Carrier → ℕ → Made
augment_attribute line o at p name q t = made (attribute_augmented at line t o p.block p.value name q.block q.value) (t + 3)

unfoldable pub augment_index : ℕ → Op → ℕ → Carrier → Carrier → Carrier → ℕ → Made
augment_index line o at p i q t = made (index_augmented at line t o p.block p.value i.block i.value q.block q.value) (t + 3)

abbrev pub augment : ℕ → ℕ → Op → Place → Carrier → Made
augment t line o (Name at s) q = augment_name line o at s q t
augment t line o (Attribute at p name) q = augment_attribute line o at p name q t
augment t line o (Index at p i) q = augment_index line o at p i q t
augment t line o other q = made tree.Stop t
