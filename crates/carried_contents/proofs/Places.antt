-- The blocks of targets, of the blocks of their parts.
use Rattle.std.proofs.Common.{Bool, ℕ, ◌+◌, List, [], ◌∷◌, refl}
use Rattle.std.specs.List.{AllByRecursion}
use Rattle.op_forms.specs.declared.op.Op.{Op}
use Rattle.code_forms.specs.declared.operand.Operand.{Operand}
use Rattle.code_forms.specs.declared.operand.Operand.TheVariants as operand
use Rattle.node_tree.specs.Blocks.{alone}
use Rattle.node_tree.specs.Blocks as tree
use Rattle.py_safe.specs.Constructs.{TakesTwo}
use Rattle.carries_base.specs.Carries.{Carrier}
use Rattle.carries_targets.specs.Places.{Taker}
use Rattle.carries_targets.specs.Targets.{items_block}
use Rattle.carries_targets.specs.Augments.{operated_block}
use Rattle.carried_codes.specs.Places.{Place, Name, Attribute, Index, Each, Starred, Nothing, Places, NoPlace, Also, count, assign_name, assign_attribute, assign_index, assign_each, assign_starred, assign, takes, assign_all, delete_name, delete_attribute, delete_index, delete, delete_all, augment_name, augment_attribute, augment_index, augment}
use Rattle.carried_contents.proofs.Held.{Taken, stop, follow, one, both, done, clear}
use Rattle.carried_contents.proofs.Operations.{two_held}
use Rattle.carried_contents.proofs.Expressions.{reads_held, stores_held, unbinds_taken}

-- the parts of a place
abbrev mutual
  pub PlaceTaken : (ℕ → Bool) → Place → Type 0
  PlaceTaken inside (Name line s) = Unit {0}
  PlaceTaken inside (Attribute line p name) = Taken inside p.block
  PlaceTaken inside (Index line p q) = Taken inside p.block × Taken inside q.block
  PlaceTaken inside (Each line ps) = PlacesTaken inside ps
  PlaceTaken inside (Starred line before star behind) = PlacesTaken inside before × PlaceTaken inside star × PlacesTaken inside behind
  PlaceTaken inside Nothing = Unit {0}

  pub PlacesTaken : (ℕ → Bool) → Places → Type 0
  PlacesTaken inside NoPlace = Unit {0}
  PlacesTaken inside (Also p ps) = PlaceTaken inside p × PlacesTaken inside ps

abbrev TakersTaken : (ℕ → Bool) → List Taker → Type 0
TakersTaken inside ps = AllByRecursion (λ (p : Taker). Taken inside p.block) ps

items_taken : {inside : ℕ → Bool} (line list n : ℕ) (ps : List Taker) (last : tree.Block) → TakersTaken inside ps → Taken inside last → Taken inside (items_block line list n ps last)
items_taken line list n [] last c d = d
items_taken line list n (p ∷ ps) last c d = follow (done refl refl) (both c.0 (items_taken line list (n + 1) ps last c.1 d))

mutual
  unfolding assign_name assign_attribute assign_index assign_each assign_starred

  pub assign_taken : (inside : ℕ → Bool) (t : ℕ) (o : Operand) (p : Place) → PlaceTaken inside p → Taken inside (assign t o p).block
  assign_taken inside t o (Name line s) c = one (stores_held t line s o)
  assign_taken inside t o (Attribute line p name) c = both c (clear refl refl)
  assign_taken inside t o (Index line p q) c = both c.0 (both c.1 (clear refl refl))
  assign_taken inside t o (Each line ps) c = follow (done refl refl) (items_taken line t 0 (takes (t + 1) ps).parts tree.Stop (takes_taken inside (t + 1) ps c) stop)
  assign_taken inside t o (Starred line before star behind) c =
      let xs = takes (t + 1) before in let m = assign (xs.next + 1) (operand.Temp xs.next) star in let ys = takes m.next behind in
      follow (done refl refl)
      (items_taken line t 0 xs.parts _ (takes_taken inside (t + 1) before c.0)
      (items_taken line t (count before) (record { item = xs.next; block = m.block } ∷ []) _ (assign_taken inside (xs.next + 1) (operand.Temp xs.next) star c.1, tt)
      (items_taken line t (count before + 1) ys.parts tree.Stop (takes_taken inside m.next behind c.2) stop)))
  assign_taken inside t o Nothing c = stop

  takes_taken : (inside : ℕ → Bool) (t : ℕ) (ps : Places) → PlacesTaken inside ps → TakersTaken inside (takes t ps).parts
  takes_taken inside t NoPlace c = tt
  takes_taken inside t (Also p ps) c = (assign_taken inside (t + 1) (operand.Temp t) p c.0, takes_taken inside (assign (t + 1) (operand.Temp t) p).next ps c.1)

pub assign_all_taken : (inside : ℕ → Bool) (t : ℕ) (o : Operand) (ps : Places) → PlacesTaken inside ps → Taken inside (assign_all t o ps).block
assign_all_taken inside t o NoPlace c = stop
assign_all_taken inside t o (Also p ps) c = both (assign_taken inside t o p c.0) (assign_all_taken inside (assign t o p).next o ps c.1)

mutual
  unfolding delete_name delete_attribute delete_index

  pub delete_taken : (inside : ℕ → Bool) (t : ℕ) (p : Place) → PlaceTaken inside p → Taken inside (delete t p).block
  delete_taken inside t (Name line s) c = unbinds_taken t line s
  delete_taken inside t (Attribute line p name) c = both c (clear refl refl)
  delete_taken inside t (Index line p q) c = both c.0 (both c.1 (clear refl refl))
  delete_taken inside t (Each line ps) c = delete_all_taken inside t ps c
  delete_taken inside t other c = stop

  delete_all_taken : (inside : ℕ → Bool) (t : ℕ) (ps : Places) → PlacesTaken inside ps → Taken inside (delete_all t ps).block
  delete_all_taken inside t NoPlace c = stop
  delete_all_taken inside t (Also p ps) c = both (delete_taken inside t p c.0) (delete_all_taken inside (delete t p).next ps c.1)

operated_taken : {inside : ℕ → Bool} (line t : ℕ) (o : Op) (wb : tree.Block) (b : Operand) (last : tree.Block) → TakesTwo o → Taken inside wb → Taken inside last → Taken inside (operated_block line t o wb b last)
operated_taken line t o wb b last w c d = both c (follow (two_held (t + 1) line o (operand.Temp t) b w) d)

pub augment_taken : (inside : ℕ → Bool) (t line : ℕ) (o : Op) (p : Place) (q : Carrier) → TakesTwo o → PlaceTaken inside p → Taken inside q.block → Taken inside (augment t line o p q).block
unfolding augment_name augment_attribute augment_index
augment_taken inside t line o (Name at s) q w c d = follow (reads_held t at s) (operated_taken line t o q.block q.value _ w d (one (stores_held (t + 2) at s (operand.Temp (t + 1)))))
augment_taken inside t line o (Attribute at p name) q w c d = both c (follow (done refl refl) (operated_taken line t o q.block q.value _ w d (clear refl refl)))
augment_taken inside t line o (Index at p i) q w c d = both c.0 (both c.1 (follow (done refl refl) (operated_taken line t o q.block q.value _ w d (clear refl refl))))
augment_taken inside t line o other q w c d = stop
