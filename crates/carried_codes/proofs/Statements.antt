-- Statements and blocks are carried by their statements.
use Rattle.std.proofs.Common.{ℕ, ◌+◌, ◌≤◌, inl, Bool, true, false, IsTrue, List, [], ◌∷◌, Option, Some, None, refl, subst, arith}
use Rattle.node_tree.proofs.Direct.{append_stop}
use Rattle.py_meaning.specs.Syntax as syntax
use Rattle.py_safe.specs.Rosters.{Roster}
use Rattle.py_safe.specs.Constructs.{Room, IsFalse, in_clause, outside_clause, LawfulDecorators, LawfulCaught, LawfulStatement, LawfulBlock, LawfulHandlers}
use Rattle.carries_base.specs.Frames.{Homes, behind}
use Rattle.carries_base.specs.Carries.{CarriesStatement, CarriesBlock}
use Rattle.carries_base.proofs.Statements.{evaluate_carried, if_carried, while_carried, return_carried}
use Rattle.carries_base.proofs.Statements as sequence
use Rattle.carries_names.proofs.Names.{deleted_carried}
use Rattle.carries_control.proofs.Tries.{raise_carried, reraise_carried, assert_carried}
use Rattle.carries_control.proofs.Loops.{for_carried}
use Rattle.carries_control.proofs.Finish.{finally_carried}
use Rattle.carries_control.proofs.With.{with_carried}
use Rattle.carries_targets.proofs.Assignments.{assign_carried}
use Rattle.carries_definitions.specs.Decorated.{CarriesDecorators}
use Rattle.carried_codes.specs.Expressions.{decorate, make_class}
use Rattle.carried_codes.specs.Places.{assign_name}
use Rattle.carried_codes.specs.Places as places
use Rattle.carried_codes.specs.Statements.{return_value, raise_value, raise_again, assert_that, branch, while_loop, for_loop, try_finally, with_item}
use Rattle.carried_codes.specs.Nodes.{value, values, place, all_places, bind, bind_all, decorators, statement, block, except}
use Rattle.carried_codes.specs.Targets.{NameHasPlace, CarryClauses, SameLines}
use Rattle.carried_codes.specs.Laws.{Houses, Catches}
use Rattle.carried_codes.proofs.Parts.{part_in, off_before}
use Rattle.carried_codes.proofs.Functions.{decorating}
use Rattle.carried_codes.proofs.Definitions.{define_made, class_made}
use Rattle.carried_codes.proofs.Expressions.{has_place, has_cells, value_carried, values_carried}
use Rattle.carried_codes.proofs.Places.{assign_all_carried, delete_place_carried, augment_carried}
use Rattle.carried_codes.proofs.Targets.{parts_carried, all_parts_carried, bind_carried, bind_all_carried, may_delete, may_read}
use Rattle.carried_codes.proofs.Clauses.{try_except_carried}

outside : (r : Room) (h : Homes) → Houses r h → Houses (outside_clause r) h
outside r h k = record { room = k.room; locals = k.locals; owns = k.owns; frees = k.frees; names = k.names }

inside : (r : Room) (h : Homes) → Houses r h → Houses (in_clause r) h
inside r h k = record { room = k.room; locals = k.locals; owns = k.owns; frees = k.frees; names = k.names }

never : (b : Bool) → IsFalse b → IsTrue b → ⊥
never true f t = f
never false f t = cc

again_carried : (r : Room) (h : Homes) (caught : Option ℕ) (t : ℕ) → behind h ≤ t → Catches r caught → IsTrue r.handler → CarriesStatement h t (raise_again caught t).next caught syntax.Reraise (raise_again caught t).block
again_carried r h None t st k l = absurd (never r.handler k l)
again_carried r h (Some caught) t st k l = reraise_carried h t caught st

module _ (c : Roster) (h : Homes) where
  caught_has_place : (r : Room) (name : Option syntax.Caught) → Houses r h → LawfulCaught c r name → NameHasPlace h name
  caught_has_place r None k l = tt
  caught_has_place r (Some name) k l = has_place r h name.home k l.0

  decorators_carried : (r : Room) (t : ℕ) (ds : List syntax.Decorator) → Houses r h → behind h ≤ t → LawfulDecorators c r ds
      → (t ≤ (decorators h t ds).next) × CarriesDecorators h t (decorators h t ds).next ds (decorating (decorators h t ds).parts) × SameLines ds (decorators h t ds).parts
  decorators_carried r t [] k st l = (omega arith, (st, omega arith), tt)
  decorators_carried r t (d ∷ ds) k st l =
      let p = value h t d.is in let cp = value_carried c r h k t d.is st l.0 in let lp = cp.grows in
      let cl = decorators_carried r p.next ds k (omega arith) l.1 in let ll = cl.0 in
      (omega arith, (p.next, cp, cl.1), (refl, cl.2))

  mutual
    unfolding return_value raise_value assert_that branch while_loop for_loop try_finally with_item decorate make_class assign_name

    pub statement_carried : (r : Room) (caught : Option ℕ) (again : Bool) (t : ℕ) (s : syntax.Statement) → Houses r h → Catches r caught → behind h ≤ t → LawfulStatement c r again s
        → CarriesStatement h t (statement h caught t s).next caught s (statement h caught t s).block
    statement_carried r caught again t (syntax.Evaluate x) k q st l =
        let p = value h t x in
        subst (λ b. CarriesStatement h t p.next caught (syntax.Evaluate x) b) (append_stop p.part.block) (evaluate_carried h t p.next caught x p.part.block p.part.value (value_carried c r h k t x st l))
    statement_carried r caught again t (syntax.Assign xs x) k q st l =
        let ps = all_places h t xs in let p = value h ps.next x in let m = places.assign_all p.next p.part.value ps.all in
        let a = all_parts_carried c r h k t xs st l.0 in let la = a.0 in
        let cp = value_carried c r h k ps.next x (omega arith) l.1 in let lp = cp.grows in
        let b = assign_all_carried h k.room t ps.next st la p.next p.next p.part.value xs ps.all lp (omega arith) (a.1 t ps.next (omega arith) (omega arith)) in let lb = b.0 in
        assign_carried h t ps.next p.next t ps.next p.next m.next caught x xs p.part.block m.block p.part.value st (omega arith) (la, omega arith) (off_before h t ps.next ps.next p.next p.part.value (omega arith) (omega arith) cp.within) cp (b.1 m.next (omega arith))
    statement_carried r caught again t (syntax.Augment line o x y) k q st l =
        let p = place h t x in let n = value h p.next y in
        let a = parts_carried c r h k t x st l.2 in let la = a.0 in
        let cy = value_carried c r h k p.next y (omega arith) l.3 in let ly = cy.grows in
        augment_carried h k.room t p.next st la p.next n.next n.next line caught o x p.place y n.part (omega arith) (omega arith) (may_read c r h k x l.1) (a.1 t p.next (omega arith) (omega arith)) cy
    statement_carried r caught again t (syntax.Delete x) k q st l =
        let p = place h t x in
        let w = may_delete c r h k x l in
        let a = parts_carried c r h k t x st w.0 in let la = a.0 in
        deleted_carried h t (places.delete p.next p.place).next caught x (places.delete p.next p.place).block (delete_place_carried h k.room t p.next st la p.next x p.place (omega arith) w.1 (a.1 t p.next (omega arith) (omega arith)))
    statement_carried r caught again t syntax.Pass k q st l = sequence.pass_carried h t t caught st (omega arith)
    statement_carried r caught again t syntax.Break k q st l = sequence.leave_carried h t 1 caught syntax.Break st (omega arith) (λ l handled. refl)
    statement_carried r caught again t syntax.Continue k q st l = sequence.leave_carried h t 0 caught syntax.Continue st (omega arith) (λ l handled. refl)
    statement_carried r caught again t (syntax.Return x) k q st l =
        let p = value h t x in return_carried h t p.next caught x p.part.block p.part.value (value_carried c r h k t x st l)
    statement_carried r caught again t (syntax.Raise line x) k q st l =
        let p = value h t x in raise_carried h t p.next line caught x p.part.block p.part.value (value_carried c r h k t x st l)
    statement_carried r caught again t syntax.Reraise k q st l = again_carried r h caught t st q l
    statement_carried r caught again t (syntax.Assert line x texts) k q st l =
        let p = value h t x in let ps = values h p.next texts in
        let cp = value_carried c r h k t x st l.0 in let lp = cp.grows in
        assert_carried h t p.next ps.next line caught x texts p.part.block p.part.value ps.parts cp (values_carried c r h k p.next texts _ _ (omega arith) l.1)
    statement_carried r caught again t (syntax.If line x body other) k q st l =
        let p = value h t x in let b = block h caught p.next body in let d = block h caught b.next other in
        let cp = value_carried c r h k t x st l.0 in let lp = cp.grows in
        let cb = block_carried r caught again p.next body k q (omega arith) l.1 in let lb = cb.grows in
        let cd = block_carried r caught again b.next other k q (omega arith) l.2 in let ld = cd.grows in
        if_carried h t d.next t p.next p.next b.next b.next d.next line caught x body other p.part.block b.block d.block p.part.value st
        (omega arith, omega arith) (lp, ld) (omega arith, omega arith) cp cb cd
    statement_carried r caught again t (syntax.While line x body other) k q st l =
        let p = value h t x in let b = block h caught p.next body in let d = block h caught b.next other in
        let cp = value_carried c r h k t x st l.0 in let lp = cp.grows in
        let cb = block_carried r caught true p.next body k q (omega arith) l.1 in let lb = cb.grows in
        let cd = block_carried r caught again b.next other k q (omega arith) l.2 in let ld = cd.grows in
        while_carried h t d.next t p.next p.next b.next b.next d.next line caught x body other p.part.block b.block d.block p.part.value st
        (omega arith, omega arith) (lp, ld) (omega arith, omega arith) cp cb cd
    statement_carried r caught again t (syntax.For line x over body other) k q st l =
        let i = bind h t x in let p = value h i.next over in let b = block h caught p.next body in let d = block h caught b.next other in
        let ci = bind_carried c r h k t x st l.0 in let li = ci.grows in
        let cp = value_carried c r h k i.next over (omega arith) l.1 in let lp = cp.grows in
        let cb = block_carried r caught true p.next body k q (omega arith) l.2 in let lb = cb.grows in
        let cd = block_carried r caught again b.next other k q (omega arith) l.3 in let ld = cd.grows in
        for_carried h t d.next i.next p.next (t + 1) i.next p.next b.next b.next d.next t line caught x over body other p.part.block i.block b.block d.block p.part.value st
        (omega arith, omega arith) (omega arith, omega arith) (omega arith, omega arith) (omega arith, omega arith) (omega arith) (omega arith) (inl (omega arith)) cp ci cb cd
    statement_carried r caught again t (syntax.Try body handlers other) k q st l =
        let b = block h caught t body in let cs = except h b.next handlers in let d = block h caught cs.next other in
        let cb = block_carried r caught again t body k q st l.0 in let lb = cb.grows in
        let ch = except_carried r again b.next handlers k (omega arith) l.1 in let lh = ch.0 in
        let cd = block_carried r caught again cs.next other k q (omega arith) l.2 in let ld = cd.grows in
        try_except_carried h k.room t d.next st t b.next cs.next d.next d.next caught body other handlers b.block d.block cs.parts (omega arith) (omega arith) (omega arith, omega arith) (omega arith, omega arith)
        cb (ch.1 t d.next (omega arith) (omega arith)) cd
    statement_carried r caught again t (syntax.Finally body last) k q st l =
        let b = block h caught t body in let d = block h None b.next last in
        let cb = block_carried r caught again t body k q st l.0 in let lb = cb.grows in
        let cd = block_carried (outside_clause r) None again b.next last (outside r h k) tt (omega arith) l.1 in let ld = cd.grows in
        finally_carried h t d.next t b.next b.next d.next caught body last b.block d.block st (omega arith, ld) (lb, omega arith) cb cd
    statement_carried r caught again t (syntax.With line x xs body) k q st l =
        let p = value h t x in let i = bind_all h p.next xs in let b = block h caught i.next body in
        let cp = value_carried c r h k t x st l.0 in let lp = cp.grows in
        let ci = bind_all_carried c r h k p.next xs (omega arith) l.1 in let li = ci.grows in
        let cb = block_carried r caught again i.next body k q (omega arith) l.2 in let lb = cb.grows in
        with_carried h t b.next t p.next (p.next + 1) i.next i.next b.next p.next line caught x xs body p.part.block i.block b.block p.part.value st
        (omega arith, omega arith) (omega arith, omega arith) (omega arith, omega arith) lp (omega arith) (inl (omega arith)) cp ci cb
    statement_carried r caught again t (syntax.Define line ds function home) k q st l =
        let ps = decorators h t ds in let p = value h ps.next function in
        let cd = decorators_carried r t ds k st l.0 in let ld = cd.0 in
        let cp = value_carried c r h k ps.next function (omega arith) l.1 in let lp = cp.grows in
        define_made h k.room caught line t ps.next p.next ds ps.parts home p.part (has_place r h home k l.2) cd.1 cd.2 function cp
    statement_carried r caught again t (syntax.Class line ds name base code cells home) k q st l =
        let ps = decorators h t ds in let p = value h ps.next base in
        let cd = decorators_carried r t ds k st l.0 in let ld = cd.0 in
        let cp = value_carried c r h k ps.next base (omega arith) l.1 in let lp = cp.grows in
        class_made h k.room caught line t ps.next p.next ds ps.parts home p.part (has_place r h home k l.3) cd.1 cd.2 name base code cells (has_cells r h cells k l.2.have) cp

    pub block_carried : (r : Room) (caught : Option ℕ) (again : Bool) (t : ℕ) (b : syntax.Block) → Houses r h → Catches r caught → behind h ≤ t → LawfulBlock c r again b
        → CarriesBlock h t (block h caught t b).next caught b (block h caught t b).block
    block_carried r caught again t syntax.Done k q st l = sequence.done_carried h t t caught st (omega arith)
    block_carried r caught again t (syntax.Then s rest) k q st l =
        let m = statement h caught t s in let n = block h caught m.next rest in
        let cs = statement_carried r caught again t s k q st l.0 in let ls = cs.grows in
        sequence.block_carried h t m.next n.next caught s rest m.block n.block cs (block_carried r caught again m.next rest k q (omega arith) l.1)

    except_carried : (r : Room) (again : Bool) (t : ℕ) (hs : syntax.Handlers) → Houses r h → behind h ≤ t → LawfulHandlers c r again hs
        → (t ≤ (except h t hs).next) × ((low high : ℕ) → low ≤ t → (except h t hs).next ≤ high → CarryClauses h low high hs (except h t hs).parts)
    except_carried r again t syntax.NoHandler k st l = (omega arith, λ low high l₁ l₂. tt)
    except_carried r again t (syntax.Bare body) k st l =
        let b = block h (Some t) (t + 1) body in
        let cb = block_carried (in_clause r) (Some t) again (t + 1) body (inside r h k) tt (omega arith) l in let lb = cb.grows in
        (omega arith, λ low high l₁ l₂. record { from = t + 1; to = b.next; within = (omega arith, l₂); above = l₁; apart = omega arith; carries = cb })
    except_carried r again t (syntax.Handler line class name body hs) k st l =
        let p = value h t class in let b = block h (Some p.next) (p.next + 1) body in let cs = except h b.next hs in
        let cp = value_carried c r h k t class st l.0 in let lp = cp.grows in
        let cb = block_carried (in_clause r) (Some p.next) again (p.next + 1) body (inside r h k) tt (omega arith) l.2 in let lb = cb.grows in
        let ch = except_carried r again b.next hs k (omega arith) l.3 in let lh = ch.0 in (
          omega arith,
          λ low high l₁ l₂. (
            refl,
            refl,
            caught_has_place r name k l.1,
            part_in h low high t p.next class p.part l₁ (omega arith) cp,
            record { from = p.next + 1; to = b.next; within = (omega arith, omega arith); above = omega arith; apart = omega arith; carries = cb },
            ch.1 low high (omega arith) l₂,
          ),
        )
