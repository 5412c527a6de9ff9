-- Comprehensions are carried inside, where their clauses are.
use Rattle.std.proofs.Common.{ℕ, ◌+◌, ◌<◌, ◌≤◌, inl, Option, Some, None, arith}
use Rattle.nu_value.specs.declared.value.Value.{Value}
use Rattle.op_forms.specs.declared.constant.Const.TheVariants as const
use Rattle.op_forms.specs.declared.op.Op.{Op}
use Rattle.code_forms.specs.declared.operand.Operand.{Operand}
use Rattle.code_forms.specs.declared.operand.Operand.TheVariants as operand
use Rattle.node_tree.specs.Blocks as tree
use Rattle.py_meaning.specs.Syntax as syntax
use Rattle.py_meaning.specs.Frames as python
use Rattle.py_safe.specs.Rosters.{Roster}
use Rattle.py_safe.specs.Constructs.{Room, LawfulTarget, LawfulTurns}
use Rattle.carries_base.specs.Frames.{Homes, behind}
use Rattle.carries_base.specs.Carries.{Setting, CarriesGiven}
use Rattle.carries_base.specs.Laws.{Within}
use Rattle.carries_base.proofs.Facts.{outside_less}
use Rattle.carries_names.specs.Begun.{CarriesBody}
use Rattle.carries_definitions.specs.Collected.{CarriesTurns}
use Rattle.carries_definitions.proofs.Clauses.{push_carried, put_carried, emit_carried, filter_carried, ranging_carried}
use Rattle.carries_definitions.proofs.Collected.{generates_carried, gathers_carried}
use Rattle.carried_codes.specs.Statements.{for_loop, push, put, emit, filter, over, gather}
use Rattle.carried_codes.specs.Nodes.{value, bind, element, turns, collect}
use Rattle.carried_codes.specs.Laws.{Houses}
use Rattle.carried_codes.proofs.Expressions.{value_carried}
use Rattle.carried_codes.proofs.Targets.{bind_carried}

-- what stands in the innermost clause
abbrev innermost : syntax.Turns → syntax.Turns
innermost (syntax.Push x) = syntax.Push x
innermost (syntax.Put k x) = syntax.Put k x
innermost (syntax.Emit x) = syntax.Emit x
innermost (syntax.Ranging x over inner) = innermost inner
innermost (syntax.Filter test inner) = innermost inner

given_wider : (h : Homes) (low high l r : ℕ) (o : Operand) (row : python.L → Value → python.R) (b : tree.Block) → behind h ≤ low → Within low high l r → CarriesGiven h l r o row b → CarriesGiven h low high o row b
given_wider h low high l r o row b st w c =
    let a = w.0 in let d = w.1 in let e = c.grows in
    record { starts = st; grows = omega arith; carries = λ z fs v out knows. c.carries z fs v (outside_less h low high l r fs w.0 w.1 out) knows }

module _ (c : Roster) (r : Room) (h : Homes) (k : Houses r h) (line : ℕ) (collects : Option Op) (into : Operand) where
  element_carried : (t : ℕ) (inner : syntax.Turns) → behind h ≤ t → LawfulTurns c r collects inner → CarriesTurns h t (element h t line into inner).next line into (innermost inner) (element h t line into inner).block
  unfolding push put emit
  element_carried t (syntax.Push x) st l =
      let p = value h t x in push_carried h t p.next line into x p.part.block p.part.value (value_carried c r h k t x st l.1)
  element_carried t (syntax.Put key x) st l =
      let p = value h t key in let q = value h p.next x in
      let cp = value_carried c r h k t key st l.1 in let lp = cp.grows in
      put_carried h t p.next q.next line into key x p.part.block q.part.block p.part.value q.part.value cp (value_carried c r h k p.next x (omega arith) l.2)
  element_carried t (syntax.Emit x) st l =
      let p = value h t x in emit_carried h t p.next line into x p.part.block p.part.value (value_carried c r h k t x st l.1)
  element_carried t (syntax.Ranging x over inner) st l = element_carried t inner st l.2
  element_carried t (syntax.Filter test inner) st l = element_carried t inner st l.1

  leaf_carried : (low high t : ℕ) (leaf : syntax.Turns) (b : tree.Block) → behind h ≤ low → high ≤ t → CarriesTurns h low high line into leaf b → (t ≤ t) × CarriesTurns h low t line into leaf b
  leaf_carried low high t leaf b st le x = let g = x.grows in (omega arith, given_wider h low t low high into _ b st (omega arith, le) x)

  turns_carried : (low high t : ℕ) (b : tree.Block) (inner : syntax.Turns) → behind h ≤ low → high ≤ t → CarriesTurns h low high line into (innermost inner) b → LawfulTurns c r collects inner
      → (t ≤ (turns h t line b inner).next) × CarriesTurns h low (turns h t line b inner).next line into inner (turns h t line b inner).block
  unfolding for_loop filter
  turns_carried low high t b (syntax.Push x) st le leaf l = leaf_carried low high t (syntax.Push x) b st le leaf
  turns_carried low high t b (syntax.Put key x) st le leaf l = leaf_carried low high t (syntax.Put key x) b st le leaf
  turns_carried low high t b (syntax.Emit x) st le leaf l = leaf_carried low high t (syntax.Emit x) b st le leaf
  turns_carried low high t b (syntax.Ranging x over inner) st le leaf l =
      let g = leaf.grows in
      let i = bind h t x in let p = value h i.next over in let m = turns h p.next line b inner in
      let ci = bind_carried c r h k t x (omega arith) l.0 in let li = ci.grows in
      let cp = value_carried c r h k i.next over (omega arith) l.1 in let lp = cp.grows in
      let cm = turns_carried low high p.next b inner st (omega arith) leaf l.2 in let lm = cm.0 in (
        omega arith,
        ranging_carried h low m.next i.next p.next (t + 1) i.next low m.next t line into x over inner p.part.block i.block m.block p.part.value st (omega arith, omega arith) (omega arith, omega arith) (omega arith, omega arith) (omega arith) (omega arith) (inl (omega arith)) cp ci cm.1,
      )
  turns_carried low high t b (syntax.Filter test inner) st le leaf l =
      let g = leaf.grows in
      let p = value h t test in let m = turns h p.next line b inner in
      let cp = value_carried c r h k t test (omega arith) l.0 in let lp = cp.grows in
      let cm = turns_carried low high p.next b inner st (omega arith) leaf l.1 in let lm = cm.0 in
      (omega arith, filter_carried h low m.next t p.next low m.next line into test inner p.part.block m.block p.part.value st (omega arith, omega arith) (omega arith, omega arith) cp cm.1)

module _ (c : Roster) (r : Room) (h : Homes) (k : Houses r h) (z : Setting) (line : ℕ) (some : 0 < h.filled) where
  pub collect_carried : (t : ℕ) (into : Option Op) (x : syntax.Target) (inner : syntax.Turns) → behind h ≤ t → LawfulTarget c r x → LawfulTurns c r into inner → CarriesBody z h (syntax.Collect line into x inner) (collect h t line into x inner)
  unfolding over gather
  collect_carried t None x inner st lx l =
      let o : Operand = operand.Const const.None in
      let e = element h t line o inner in let i = bind h e.next x in let m = turns h i.next line e.block inner in
      let ce = element_carried c r h k line None o t inner st l in let le = ce.grows in
      let ci = bind_carried c r h k e.next x (omega arith) lx in let li = ci.grows in
      let cm = turns_carried c r h k line None o t e.next i.next e.block inner st (omega arith) ce l in let lm = cm.0 in
      generates_carried z h t m.next (e.next + 1) i.next t m.next e.next line x inner i.block m.block some st (omega arith, omega arith) (omega arith, omega arith) le (omega arith) (inl (omega arith)) ci cm.1
  collect_carried t (Some q) x inner st lx l =
      let o : Operand = operand.Temp t in
      let e = element h (t + 1) line o inner in let i = bind h e.next x in let m = turns h i.next line e.block inner in
      let ce = element_carried c r h k line (Some q) o (t + 1) inner (omega arith) l in let le = ce.grows in
      let ci = bind_carried c r h k e.next x (omega arith) lx in let li = ci.grows in
      let cm = turns_carried c r h k line (Some q) o (t + 1) e.next i.next e.block inner (omega arith) (omega arith) ce l in let lm = cm.0 in
      gathers_carried z h (t + 1) m.next (e.next + 1) i.next (t + 1) m.next e.next t line q x inner i.block m.block some (omega arith) (omega arith, omega arith) (omega arith, omega arith) le (omega arith) (inl (omega arith)) (st, inl (omega arith)) ci cm.1
