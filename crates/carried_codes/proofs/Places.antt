-- What goes to places is carried as what goes to targets, where the parts of the places carry those of the targets; deletions and
-- augmented assignments too.
use Rattle.std.proofs.Common.{◌≡◌, ℕ, ◌+◌, ◌≤◌, inl, Option, refl, ap, ◌∙◌, subst, arith}
use Rattle.op_forms.specs.declared.op.Op.{Op}
use Rattle.code_forms.specs.declared.operand.Operand.{Operand}
use Rattle.code_forms.specs.declared.operand.Operand.TheVariants as operand
use Rattle.node_tree.specs.Blocks.{alone}
use Rattle.node_tree.specs.Blocks as tree
use Rattle.py_meaning.specs.Syntax as syntax
use Rattle.py_meaning.specs.Statements as python
use Rattle.carries_base.specs.Frames.{Homes, HaveRoom, behind}
use Rattle.carries_base.specs.Carries.{Carrier, CarriesExpression, CarriesStatement}
use Rattle.carries_names.specs.Names.{CarriesDeletion, CarriesDeletions}
use Rattle.carries_names.specs.Names as names
use Rattle.carries_names.proofs.Names.{no_deletion_carried}
use Rattle.carries_targets.specs.Places.{CarriesPlace, CarriesPlaces, Taker, CarriesItem, CarriesItems}
use Rattle.carries_targets.specs.Targets.{attribute_block, index_block, each_block, starred_block}
use Rattle.carries_targets.specs.Augments.{operated_block, name_augmented, attribute_augmented, index_augmented}
use Rattle.carries_targets.specs.Deletions.{attribute_deleted, index_deleted}
use Rattle.carries_targets.proofs.Stores.{bare_placed, wider_placed, attribute_placed, index_placed}
use Rattle.carries_targets.proofs.Unpacked.{each_placed, starred_placed}
use Rattle.carries_targets.proofs.Assignments.{none_carried, also_carried}
use Rattle.carries_targets.proofs.Augments as augments
use Rattle.carries_targets.proofs.Deletions as deletions
use Rattle.carried_codes.specs.Seats.{Seat, seat, reads, stores, unbinds}
use Rattle.carried_codes.specs.Places.{Place, Name, Attribute, Index, Each, Starred, Places, NoPlace, Also, count, assign_name, assign_attribute, assign_index, assign_each, assign_starred, assign, takes, assign_all, delete_name, delete_attribute, delete_index, delete, delete_all, augment_name, augment_attribute, augment_index, augment}
use Rattle.carried_codes.specs.Targets.{CarriesParts, CarryParts, MayDelete, MayDeleteAll, MayRead}
use Rattle.carried_codes.proofs.Parts.{part_off, quiet_wider}
use Rattle.carried_codes.proofs.Seats.{reads_are, stores_are, store_seat, delete_seat}

pub counted : (h : Homes) (low high : ℕ) (xs : syntax.Targets) (ps : Places) → CarryParts h low high xs ps → python.count xs ≡ count ps
counted h low high syntax.NoTarget NoPlace c = refl
counted h low high (syntax.AlsoTo x xs) (Also p ps) c = ap (λ n. n + 1) (counted h low high xs ps c.1)
counted h low high xs ps c = absurd c

abbrev seat_augmented : ℕ → Op → ℕ → Seat → Carrier → ℕ → tree.Block
seat_augmented line o at s q t = tree.Follow (reads t at s) (operated_block line t o q.block q.value (alone (stores (t + 2) at s (operand.Temp (t + 1)))))

augmented_is : (h : Homes) (line : ℕ) (o : Op) (at : ℕ) (home : syntax.Home) (q : Carrier) (t : ℕ) → name_augmented h at line t o home q.block q.value ≡ seat_augmented line o at (seat h home) q t
augmented_is h line o at home q t =
    ap (λ f. tree.Follow f (operated_block line t o q.block q.value (alone (names.stores h (t + 2) at home (operand.Temp (t + 1)))))) (reads_are h t at home)
    ∙ ap (λ f. tree.Follow (reads t at (seat h home)) (operated_block line t o q.block q.value (alone f))) (stores_are h (t + 2) at home (operand.Temp (t + 1)))

module _ (h : Homes) (room : HaveRoom h) (low high : ℕ) (st : behind h ≤ low) (le : low ≤ high) where
  mutual
    unfolding assign_name assign_attribute assign_index assign_each assign_starred

    pub assign_carried : (t : ℕ) (o : Operand) (x : syntax.Target) (p : Place) → high ≤ t → CarriesParts h low high x p → CarriesPlace h low high t (assign t o p).next o x (assign t o p).block
    assign_carried t o (syntax.ToName line home) (Name at there) lt c =
        subst (λ n. CarriesPlace h low high t (t + 1) o (syntax.ToName line home) (alone (stores t n there o))) c.0
        (subst (λ s. CarriesPlace h low high t (t + 1) o (syntax.ToName line home) (alone (stores t line s o))) c.1
        (bare_placed h low high t (t + 1) o _ (alone (stores t line (seat h home) o)) st le lt (store_seat h t line t home room c.2 (omega arith) (omega arith) o)))
    assign_carried t o (syntax.ToAttribute line x name) (Attribute at p called) lt c =
        let part = c.2 in let l₁ = part.within.0 in let l₂ = part.within.1 in
        subst (λ n. CarriesPlace h low high t (t + 1) o (syntax.ToAttribute line x name) (attribute_block n t p.block p.value called o)) c.0
        (subst (λ n. CarriesPlace h low high t (t + 1) o (syntax.ToAttribute line x name) (attribute_block line t p.block p.value n o)) c.1
        (wider_placed h low high t (t + 1) part.from part.to t (t + 1) o _ (attribute_block line t p.block p.value name o) st lt part.within (omega arith, omega arith)
        (attribute_placed h part.from part.to t line o x name p.block p.value (omega arith) part.carries)))
    assign_carried t o (syntax.ToIndex line x y) (Index at p q) lt c =
        let a = c.1 in let b = c.2.0 in
        subst (λ n. CarriesPlace h low high t (t + 1) o (syntax.ToIndex line x y) (index_block n t p.block p.value q.block q.value o)) c.0
        (index_placed h low high a.from a.to b.from b.to t line o x y p.block q.block p.value q.value st lt a.within b.within c.2.1 a.carries b.carries)
    assign_carried t o (syntax.ToEach line xs) (Each at ps) lt c =
        let ts = takes (t + 1) ps in let r = takes_carried (t + 1) xs ps (omega arith) c.1 in let l = r.0 in
        subst (λ n. CarriesPlace h low high t ts.next o (syntax.ToEach line xs) (each_block n t (count ps) o ts.parts)) c.0
        (subst (λ n. CarriesPlace h low high t ts.next o (syntax.ToEach line xs) (each_block line t n o ts.parts)) (counted h low high xs ps c.1)
        (each_placed h low high t ts.next line o xs ts.parts st le lt l (r.1 (t + 1) ts.next (omega arith) (omega arith))))
    assign_carried t o (syntax.ToStarred line xs star ys) (Starred at ps p qs) lt c =
        let ts = takes (t + 1) ps in let s = assign (ts.next + 1) (operand.Temp ts.next) p in let us = takes s.next qs in
        let r₁ = takes_carried (t + 1) xs ps (omega arith) c.1 in let l₁ = r₁.0 in
        let cs = assign_carried (ts.next + 1) (operand.Temp ts.next) star p (omega arith) c.2 in let l₂ = cs.draws in
        let r₂ = takes_carried s.next ys qs (omega arith) c.3 in let l₃ = r₂.0 in
        let taker : Taker = record { item = ts.next; block = s.block } in
        let item : CarriesItem h low high (t + 1) us.next star taker =
        record { left = low; right = high; first = ts.next + 1; last = s.next; parts = (omega arith, omega arith); draws = (omega arith, omega arith); above = l₁; below = omega arith; apart = inl (omega arith); place = cs } in
        subst (λ n. CarriesPlace h low high t us.next o (syntax.ToStarred line xs star ys) (starred_block n t (count ps) (count qs) o ts.parts taker us.parts)) c.0
        (subst (λ n. CarriesPlace h low high t us.next o (syntax.ToStarred line xs star ys) (starred_block line t n (count qs) o ts.parts taker us.parts)) (counted h low high xs ps c.1)
        (subst (λ n. CarriesPlace h low high t us.next o (syntax.ToStarred line xs star ys) (starred_block line t (python.count xs) n o ts.parts taker us.parts)) (counted h low high ys qs c.3)
        (starred_placed h low high t us.next line o xs ys star ts.parts us.parts taker st le lt (omega arith) (r₁.1 (t + 1) us.next (omega arith) (omega arith)) item (r₂.1 (t + 1) us.next (omega arith) (omega arith)))))
    assign_carried t o x p lt c = absurd c

    takes_carried : (t : ℕ) (xs : syntax.Targets) (ps : Places) → high ≤ t → CarryParts h low high xs ps
        → (t ≤ (takes t ps).next) × ((from to : ℕ) → from ≤ t → (takes t ps).next ≤ to → CarriesItems h low high from to xs (takes t ps).parts)
    takes_carried t syntax.NoTarget NoPlace lt c = (omega arith, λ from to l₁ l₂. tt)
    takes_carried t (syntax.AlsoTo x xs) (Also p ps) lt c =
        let m = assign (t + 1) (operand.Temp t) p in
        let cm = assign_carried (t + 1) (operand.Temp t) x p (omega arith) c.0 in let l = cm.draws in
        let rest = takes_carried m.next xs ps (omega arith) c.1 in let l₂ = rest.0 in (
          omega arith,
          λ from to l₃ l₄. (record { left = low; right = high; first = t + 1; last = m.next; parts = (omega arith, omega arith); draws = (omega arith, omega arith); above = l₃; below = omega arith; apart = inl (omega arith); place = cm }, rest.1 from to (omega arith) l₄),
        )
    takes_carried t xs ps lt c = absurd c

  pub assign_all_carried : (from t : ℕ) (o : Operand) (xs : syntax.Targets) (ps : Places) → high ≤ from → from ≤ t → CarryParts h low high xs ps
      → (t ≤ (assign_all t o ps).next) × ((to : ℕ) → (assign_all t o ps).next ≤ to → CarriesPlaces h low high from to o xs (assign_all t o ps).block)
  assign_all_carried from t o syntax.NoTarget NoPlace lf lt c = (omega arith, λ to l. none_carried h low high from to o st le lf (omega arith))
  assign_all_carried from t o (syntax.AlsoTo x xs) (Also p ps) lf lt c =
      let m = assign t o p in let n = assign_all m.next o ps in
      let cm = assign_carried t o x p (omega arith) c.0 in let l₁ = cm.draws in
      let rest = assign_all_carried from m.next o xs ps lf (omega arith) c.1 in let l₂ = rest.0 in (
        omega arith,
        λ to l. also_carried h low high from to o x xs m.block n.block (wider_placed h low high from to low high t m.next o _ m.block st lf (omega arith, omega arith) (omega arith, omega arith) cm) (rest.1 to l),
      )
  assign_all_carried from t o xs ps lf lt c = absurd c

  -- Deletions

  mutual
    unfolding delete_name delete_attribute delete_index

    pub delete_place_carried : (t : ℕ) (x : syntax.Target) (p : Place) → high ≤ t → MayDelete x → CarriesParts h low high x p → CarriesDeletion h low (delete t p).next x (delete t p).block
    delete_place_carried t (syntax.ToName line home) (Name at there) lt m c =
        subst (λ n. CarriesDeletion h low (t + 1) (syntax.ToName line home) (unbinds t n there)) c.0
        (subst (λ s. CarriesDeletion h low (t + 1) (syntax.ToName line home) (unbinds t line s)) c.1
        (delete_seat h t line low home room c.2 st (omega arith)))
    delete_place_carried t (syntax.ToAttribute line x name) (Attribute at p called) lt m c =
        let a = c.2 in let l₁ = a.within.0 in let l₂ = a.within.1 in
        subst (λ n. CarriesDeletion h low (t + 1) (syntax.ToAttribute line x name) (attribute_deleted n t p.block p.value called)) c.0
        (subst (λ n. CarriesDeletion h low (t + 1) (syntax.ToAttribute line x name) (attribute_deleted line t p.block p.value n)) c.1
        (deletions.attribute_carried h low t a.from a.to line x name p.block p.value st (l₁, omega arith) a.carries))
    delete_place_carried t (syntax.ToIndex line x y) (Index at p q) lt m c =
        let a = c.1 in let b = c.2.0 in let l₁ = a.within.1 in let l₂ = b.within.1 in
        subst (λ n. CarriesDeletion h low (t + 1) (syntax.ToIndex line x y) (index_deleted n t p.block p.value q.block q.value)) c.0
        (deletions.index_carried h low t a.from a.to b.from b.to line x y p.block q.block p.value q.value st (a.within.0, omega arith) (b.within.0, omega arith) c.2.1 a.carries b.carries)
    delete_place_carried t (syntax.ToEach line xs) (Each at ps) lt m c =
        let d = delete_places_carried t xs ps lt m c.1 in record { starts = d.starts; grows = d.grows; carries = d.carries }
    delete_place_carried t (syntax.ToStarred line xs star ys) (Starred at ps p qs) lt m c = absurd m
    delete_place_carried t x p lt m c = absurd c

    delete_places_carried : (t : ℕ) (xs : syntax.Targets) (ps : Places) → high ≤ t → MayDeleteAll xs → CarryParts h low high xs ps → CarriesDeletions h low (delete_all t ps).next xs (delete_all t ps).block
    delete_places_carried t syntax.NoTarget NoPlace lt m c = quiet_wider h low t low low _ tree.Stop st (omega arith, omega arith) (no_deletion_carried h low st)
    delete_places_carried t (syntax.AlsoTo x xs) (Also p ps) lt m c =
        let a = delete t p in let b = delete_all a.next ps in
        let ca = delete_place_carried t x p lt m.0 c.0 in let l₁ = delete_grows t x p lt m.0 c.0 in
        let cb = delete_places_carried a.next xs ps (omega arith) m.1 c.1 in let l₂ = deletes_grow a.next xs ps (omega arith) m.1 c.1 in
        deletions.also_carried h low b.next low a.next low b.next x xs a.block b.block st (omega arith, omega arith) (omega arith, omega arith) ca cb
    delete_places_carried t xs ps lt m c = absurd c

    delete_grows : (t : ℕ) (x : syntax.Target) (p : Place) → high ≤ t → MayDelete x → CarriesParts h low high x p → t ≤ (delete t p).next
    delete_grows t (syntax.ToName line home) (Name at there) lt m c = omega arith
    delete_grows t (syntax.ToAttribute line x name) (Attribute at p called) lt m c = omega arith
    delete_grows t (syntax.ToIndex line x y) (Index at p q) lt m c = omega arith
    delete_grows t (syntax.ToEach line xs) (Each at ps) lt m c = deletes_grow t xs ps lt m c.1
    delete_grows t (syntax.ToStarred line xs star ys) (Starred at ps p qs) lt m c = absurd m
    delete_grows t x p lt m c = absurd c

    deletes_grow : (t : ℕ) (xs : syntax.Targets) (ps : Places) → high ≤ t → MayDeleteAll xs → CarryParts h low high xs ps → t ≤ (delete_all t ps).next
    deletes_grow t syntax.NoTarget NoPlace lt m c = omega arith
    deletes_grow t (syntax.AlsoTo x xs) (Also p ps) lt m c =
        let l₁ = delete_grows t x p lt m.0 c.0 in let l₂ = deletes_grow (delete t p).next xs ps (omega arith) m.1 c.1 in omega arith
    deletes_grow t xs ps lt m c = absurd c

  -- Augmented assignments

  pub augment_carried : (l r t line : ℕ) (caught : Option ℕ) (o : Op) (x : syntax.Target) (p : Place) (y : syntax.Expression) (q : Carrier) → high ≤ l → r ≤ t → MayRead x → CarriesParts h low high x p → CarriesExpression h l r y q.block q.value
      → CarriesStatement h low (augment t line o p q).next caught (syntax.Augment line o x y) (augment t line o p q).block
  unfolding augment_name augment_attribute augment_index
  augment_carried l r t line caught o (syntax.ToName at home) (Name there called) y q lt ll s c cy =
      let g = cy.grows in
      subst (λ n. CarriesStatement h low (t + 3) caught (syntax.Augment line o (syntax.ToName at home) y) (seat_augmented line o n called q t)) c.0
      (subst (λ s. CarriesStatement h low (t + 3) caught (syntax.Augment line o (syntax.ToName at home) y) (seat_augmented line o at s q t)) c.1
      (subst (λ b. CarriesStatement h low (t + 3) caught (syntax.Augment line o (syntax.ToName at home) y) b) (augmented_is h line o at home q t)
      (augments.name_carried h low t l r at line caught o home y q.block q.value room c.2 st (omega arith, ll) cy)))
  augment_carried l r t line caught o (syntax.ToAttribute at x name) (Attribute there p called) y q lt ll s c cy =
      let g = cy.grows in let a = c.2 in let l₁ = a.within.1 in
      subst (λ n. CarriesStatement h low (t + 3) caught (syntax.Augment line o (syntax.ToAttribute at x name) y) (attribute_augmented n line t o p.block p.value called q.block q.value)) c.0
      (subst (λ n. CarriesStatement h low (t + 3) caught (syntax.Augment line o (syntax.ToAttribute at x name) y) (attribute_augmented at line t o p.block p.value n q.block q.value)) c.1
      (augments.attribute_carried h low t a.from a.to l r at line caught o x y name p.block q.block p.value q.value st (a.within.0, omega arith) (omega arith, ll) (part_off h low high l r x p a lt) a.carries cy))
  augment_carried l r t line caught o (syntax.ToIndex at x z) (Index there p i) y q lt ll s c cy =
      let g = cy.grows in let a = c.1 in let b = c.2.0 in let l₁ = a.within.1 in let l₂ = b.within.1 in
      subst (λ n. CarriesStatement h low (t + 3) caught (syntax.Augment line o (syntax.ToIndex at x z) y) (index_augmented n line t o p.block p.value i.block i.value q.block q.value)) c.0
      (augments.index_carried h low t a.from a.to b.from b.to l r at line caught o x z y p.block i.block q.block p.value i.value q.value st (a.within.0, omega arith) (b.within.0, omega arith) (omega arith, ll) c.2.1 (part_off h low high l r x p a lt) (part_off h low high l r z i b lt) a.carries b.carries cy)
  augment_carried l r t line caught o (syntax.ToEach at xs) (Each there ps) y q lt ll s c cy = absurd s
  augment_carried l r t line caught o (syntax.ToStarred at xs star ys) (Starred there ps p qs) y q lt ll s c cy = absurd s
  augment_carried l r t line caught o x p y q lt ll s c cy = absurd c
