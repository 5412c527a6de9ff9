-- `try` with `except` clauses, from the clauses' parts and bodies.
use Rattle.std.proofs.Common.{ℕ, ◌+◌, ◌≤◌, inl, List, [], ◌∷◌, Option, Some, None, subst, arith}
use Rattle.op_forms.specs.declared.constant.Const.TheVariants as const
use Rattle.code_forms.specs.declared.operand.Operand.TheVariants as operand
use Rattle.node_tree.specs.Blocks.{alone}
use Rattle.node_tree.specs.Blocks as tree
use Rattle.py_meaning.specs.Syntax as syntax
use Rattle.carries_base.specs.Frames.{Homes, HaveRoom, behind}
use Rattle.carries_base.specs.Carries.{CarriesStatement, CarriesBlock}
use Rattle.carries_base.specs.Laws.{Within}
use Rattle.carries_control.specs.Tries.{clause_block, CarriesHandlers, CarriesClause}
use Rattle.carries_control.proofs.Tries.{try_carried, no_clause_carried, clause_carried, unnamed_carried, copied_carried}
use Rattle.carries_control.proofs.Finish.{named_carried}
use Rattle.carried_codes.specs.Seats.{seat, stores, unbinds}
use Rattle.carried_codes.specs.Nodes.{bound}
use Rattle.carried_codes.specs.Clauses.{Clause, Bare, Class, name_clause, clause_body, guards, handles, try_block_of, try_except}
use Rattle.carried_codes.specs.Targets.{CarriesCaughtBody, NameHasPlace, CarryClauses}
use Rattle.carried_codes.proofs.Parts.{caught_wider}
use Rattle.carried_codes.proofs.Seats.{store_seat, delete_seat}

module _ (h : Homes) (room : HaveRoom h) (low high : ℕ) (st : behind h ≤ low) where
  -- the body of a clause, with its name, if it has one; the exception is copied from a temporary
  body_carried : (from t caught : ℕ) (name : Option syntax.Caught) (body : syntax.Block) (b : tree.Block) → high ≤ t → NameHasPlace h name → CarriesCaughtBody h low high caught body b
      → (t ≤ (clause_body caught (bound h name) b t).next) × CarriesClause h low (clause_body caught (bound h name) b t).next from name body (tree.Follow (tree.Copy caught from) (clause_body caught (bound h name) b t).block)
  unfolding name_clause
  body_carried from t caught None body b le has c =
      let l₁ = c.within.0 in let l₂ = c.within.1 in let l₃ = c.above in let l₄ = c.apart in let l₅ = c.carries.grows in
      (omega arith, copied_carried h low t c.from c.to from caught None body b st (l₁, omega arith) l₃ (omega arith) (inl l₄) (unnamed_carried h c.from c.to caught body b c.carries))
  body_carried from t caught (Some name) body b le has c =
      let l₁ = c.within.0 in let l₂ = c.within.1 in let l₃ = c.above in let l₄ = c.apart in let l₅ = c.carries.grows in let l₆ = c.carries.starts in
      let line = name.line in let home = name.home in let s = seat h name.home in (
        omega arith,
        copied_carried h low (t + 3 + 5) c.from (t + 3 + 5) from caught (Some name) body _ st (l₁, omega arith) l₃ (omega arith) (inl l₄)
            (named_carried h c.from (t + 3) t (t + 1) c.from c.to (t + 1) (t + 1 + 1) (t + 2) (t + 2 + 1) caught name body
            (alone (stores t line s (operand.Temp caught))) b (alone (stores (t + 1) line s (operand.Const const.None))) (unbinds (t + 2) line s)
            l₆ (omega arith, omega arith) (omega arith, omega arith) (omega arith, omega arith) (omega arith, omega arith)
            (store_seat h t line t home room has (omega arith) (omega arith) (operand.Temp caught)) c.carries
            (store_seat h (t + 1) line (t + 1) home room has (omega arith) (omega arith) (operand.Const const.None))
            (delete_seat h (t + 2) line (t + 2) home room has (omega arith) (omega arith))),
      )

  pub clauses_carried : (x t : ℕ) (hs : syntax.Handlers) (cs : List Clause) → low ≤ high → high ≤ t → CarryClauses h low high hs cs
      → (t ≤ (guards t cs).next) × CarriesHandlers h low (guards t cs).next x hs (handles x (guards t cs).parts)
  clauses_carried x t syntax.NoHandler [] lh le c =
      (omega arith, caught_wider h low t low low x _ (alone (tree.Raise (operand.Temp x))) st (omega arith, omega arith) (no_clause_carried h low x st))
  clauses_carried x t (syntax.Bare body) (Bare caught b ∷ []) lh le c =
      let l₁ = c.within.0 in let l₂ = c.within.1 in let l₃ = c.above in let l₄ = c.apart in let l₅ = c.carries.grows in
      let m = copied_carried h low t c.from c.to x caught None body b st (l₁, omega arith) l₃ (omega arith) (inl l₄) (unnamed_carried h c.from c.to caught body b c.carries) in
      (omega arith, record { starts = m.starts; grows = m.grows; carries = m.carries })
  clauses_carried x t (syntax.Handler line class name body hs) (Class at p caught called b ∷ cs) lh le c =
      let gs = guards t cs in
      let rest = clauses_carried x t hs cs lh le c.5 in let l₁ = rest.0 in
      let m = body_carried x gs.next caught name body b (omega arith) c.2 c.4 in let l₂ = m.0 in
      let top = (clause_body caught (bound h name) b gs.next).next in
      let part = c.3 in let l₃ = part.within.0 in let l₄ = part.within.1 in
      let made : CarriesHandlers h low (top + 1) x (syntax.Handler line class name body hs) (clause_block line x top p.block p.value (tree.Follow (tree.Copy caught x) (clause_body caught (bound h name) b gs.next).block) (handles x gs.parts)) =
      clause_carried h low top part.from part.to low top low gs.next x line class name body hs p.block _ (handles x gs.parts) p.value st (l₃, omega arith) (omega arith, omega arith) (omega arith, omega arith) part.carries m.1 rest.1 in
      let named : (t ≤ (guards t (Class line p caught (bound h name) b ∷ cs)).next) × CarriesHandlers h low (guards t (Class line p caught (bound h name) b ∷ cs)).next x (syntax.Handler line class name body hs) (handles x (guards t (Class line p caught (bound h name) b ∷ cs)).parts) =
      (omega arith, made) in
      subst (λ n. (t ≤ (guards t (Class n p caught called b ∷ cs)).next) × CarriesHandlers h low (guards t (Class n p caught called b ∷ cs)).next x (syntax.Handler line class name body hs) (handles x (guards t (Class n p caught called b ∷ cs)).parts)) c.0
      (subst (λ n. (t ≤ (guards t (Class line p caught n b ∷ cs)).next) × CarriesHandlers h low (guards t (Class line p caught n b ∷ cs)).next x (syntax.Handler line class name body hs) (handles x (guards t (Class line p caught n b ∷ cs)).parts)) c.1 named)
  clauses_carried x t hs cs lh le c = absurd c

  pub try_except_carried : (bl bh ol oh t : ℕ) (caught : Option ℕ) (body other : syntax.Block) (handlers : syntax.Handlers) (bb ob : tree.Block) (cs : List Clause) → low ≤ high → high ≤ t → Within low t bl bh → Within low t ol oh
      → CarriesBlock h bl bh caught body bb → CarryClauses h low high handlers cs → CarriesBlock h ol oh caught other ob
      → CarriesStatement h low (try_except t bb cs ob).next caught (syntax.Try body handlers other) (try_except t bb cs ob).block
  unfolding try_block_of
  try_except_carried bl bh ol oh t caught body other handlers bb ob cs lh le wb wo cb cc co =
      let gs = guards t cs in
      let hs = clauses_carried gs.next t handlers cs lh le cc in let l₁ = hs.0 in
      let b₁ = wb.0 in let b₂ = wb.1 in let o₁ = wo.0 in let o₂ = wo.1 in
      try_carried h low gs.next bl bh low gs.next ol oh caught body other handlers bb (handles gs.next gs.parts) ob st (b₁, omega arith) (omega arith, omega arith) (o₁, omega arith) cb hs.1 co
