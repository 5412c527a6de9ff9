-- The places of lawful targets carry their parts.
use Rattle.std.proofs.Common.{ℕ, ◌+◌, ◌≤◌, refl, arith}
use Rattle.code_forms.specs.declared.operand.Operand.TheVariants as operand
use Rattle.py_meaning.specs.Syntax as syntax
use Rattle.py_meaning.specs.Statements.{assign_all}
use Rattle.py_safe.specs.Rosters.{Roster}
use Rattle.py_safe.specs.Constructs.{Room, LawfulTarget, LawfulTargets, IsSingle, LawfulDeletion, LawfulDeletions}
use Rattle.carries_base.specs.Frames.{Homes, behind}
use Rattle.carries_base.specs.Carries.{CarriesTarget, CarriesGiven}
use Rattle.carries_targets.proofs.Stores.{whole_carried}
use Rattle.carried_codes.specs.Nodes.{value, place, all_places, bind, bind_all}
use Rattle.carried_codes.specs.Targets.{CarriesParts, CarryParts, MayDelete, MayDeleteAll, MayRead}
use Rattle.carried_codes.specs.Laws.{Houses}
use Rattle.carried_codes.proofs.Parts.{part_in, beside}
use Rattle.carried_codes.proofs.Expressions.{has_place, value_carried}
use Rattle.carried_codes.proofs.Places.{assign_carried, assign_all_carried}

module _ (c : Roster) (r : Room) (h : Homes) (k : Houses r h) where
  mutual
    pub parts_carried : (t : ℕ) (x : syntax.Target) → behind h ≤ t → LawfulTarget c r x
        → (t ≤ (place h t x).next) × ((low high : ℕ) → low ≤ t → (place h t x).next ≤ high → CarriesParts h low high x (place h t x).place)
    parts_carried t (syntax.ToName line home) st l = (omega arith, λ low high l₁ l₂. (refl, refl, has_place r h home k l))
    parts_carried t (syntax.ToAttribute line x name) st l =
        let p = value h t x in let cp = value_carried c r h k t x st l in let lp = cp.grows in
        (lp, λ low high l₁ l₂. (refl, refl, part_in h low high t p.next x p.part l₁ l₂ cp))
    parts_carried t (syntax.ToIndex line x y) st l =
        let p = value h t x in let q = value h p.next y in
        let cp = value_carried c r h k t x st l.0 in let lp = cp.grows in
        let cq = value_carried c r h k p.next y (omega arith) l.1 in let lq = cq.grows in (
          omega arith,
          λ low high l₁ l₂. (refl, part_in h low high t p.next x p.part l₁ (omega arith) cp, beside h low high t p.next p.next q.next p.part.value y q.part (omega arith) l₂ st (omega arith) cp.within cq),
        )
    parts_carried t (syntax.ToEach line xs) st l =
        let cl = all_parts_carried t xs st l in (cl.0, λ low high l₁ l₂. (refl, cl.1 low high l₁ l₂))
    parts_carried t (syntax.ToStarred line xs star ys) st l =
        let ps = all_places h t xs in let p = place h ps.next star in
        let a = all_parts_carried t xs st l.0 in let la = a.0 in
        let b = parts_carried ps.next star (omega arith) l.1 in let lb = b.0 in
        let d = all_parts_carried p.next ys (omega arith) l.2 in let ld = d.0 in
        (omega arith, λ low high l₁ l₂. (refl, a.1 low high l₁ (omega arith), b.1 low high (omega arith) (omega arith), d.1 low high (omega arith) l₂))
    parts_carried t syntax.ToNothing st l = absurd l

    pub all_parts_carried : (t : ℕ) (xs : syntax.Targets) → behind h ≤ t → LawfulTargets c r xs
        → (t ≤ (all_places h t xs).next) × ((low high : ℕ) → low ≤ t → (all_places h t xs).next ≤ high → CarryParts h low high xs (all_places h t xs).all)
    all_parts_carried t syntax.NoTarget st l = (omega arith, λ low high l₁ l₂. tt)
    all_parts_carried t (syntax.AlsoTo x xs) st l =
        let p = place h t x in
        let a = parts_carried t x st l.0 in let la = a.0 in
        let b = all_parts_carried p.next xs (omega arith) l.1 in let lb = b.0 in
        (omega arith, λ low high l₁ l₂. (a.1 low high l₁ (omega arith), b.1 low high (omega arith) l₂))

  -- what a temporary gets goes to a target, or to several
  pub bind_carried : (t : ℕ) (x : syntax.Target) → behind h ≤ t → LawfulTarget c r x → CarriesTarget h (t + 1) (bind h t x).next (operand.Temp t) x (bind h t x).block
  bind_carried t x st l =
      let p = place h (t + 1) x in
      let a = parts_carried (t + 1) x (omega arith) l in let la = a.0 in
      whole_carried h (t + 1) p.next p.next (bind h t x).next (operand.Temp t) _ (bind h t x).block
      (assign_carried h k.room (t + 1) p.next (omega arith) la p.next (operand.Temp t) x p.place (omega arith) (a.1 (t + 1) p.next (omega arith) (omega arith)))

  pub bind_all_carried : (t : ℕ) (xs : syntax.Targets) → behind h ≤ t → LawfulTargets c r xs → CarriesGiven h (t + 1) (bind_all h t xs).next (operand.Temp t) (λ l v. assign_all l v xs) (bind_all h t xs).block
  bind_all_carried t xs st l =
      let ps = all_places h (t + 1) xs in
      let a = all_parts_carried (t + 1) xs (omega arith) l in let la = a.0 in
      let b = assign_all_carried h k.room (t + 1) ps.next (omega arith) la ps.next ps.next (operand.Temp t) xs ps.all (omega arith) (omega arith) (a.1 (t + 1) ps.next (omega arith) (omega arith)) in
      whole_carried h (t + 1) ps.next ps.next (bind_all h t xs).next (operand.Temp t) _ (bind_all h t xs).block (b.1 (bind_all h t xs).next (omega arith))

  -- what is deleted is a target, without a star
  mutual
    pub may_delete : (x : syntax.Target) → LawfulDeletion c r x → LawfulTarget c r x × MayDelete x
    may_delete (syntax.ToName line home) l = (l.0, tt)
    may_delete (syntax.ToAttribute line x name) l = (l, tt)
    may_delete (syntax.ToIndex line x y) l = (l, tt)
    may_delete (syntax.ToEach line xs) l = may_delete_all xs l
    may_delete (syntax.ToStarred line xs star ys) l = absurd l
    may_delete syntax.ToNothing l = absurd l

    may_delete_all : (xs : syntax.Targets) → LawfulDeletions c r xs → LawfulTargets c r xs × MayDeleteAll xs
    may_delete_all syntax.NoTarget l = (tt, tt)
    may_delete_all (syntax.AlsoTo x xs) l = let a = may_delete x l.0 in let b = may_delete_all xs l.1 in ((a.0, b.0), (a.1, b.1))

  pub may_read : (x : syntax.Target) → IsSingle c x → MayRead x
  may_read (syntax.ToName line home) s = tt
  may_read (syntax.ToAttribute line x name) s = tt
  may_read (syntax.ToIndex line x y) s = tt
  may_read (syntax.ToEach line xs) s = absurd s
  may_read (syntax.ToStarred line xs star ys) s = absurd s
  may_read syntax.ToNothing s = absurd s
