-- Lawful codes become statements whose operations take what they are given.
use Rattle.std.proofs.Common.{◌≡◌, Bool, true, ℕ, zero, suc, ◌+◌, ◌-◌, false, List, [], ◌∷◌, Option, Some, None, refl}
use Rattle.op_forms.specs.declared.constant.Const.TheVariants as const
use Rattle.op_forms.specs.declared.op.Op.{Op}
use Rattle.op_forms.specs.declared.op.Op.TheVariants as op
use Rattle.code_forms.specs.declared.operand.Operand.{Operand}
use Rattle.code_forms.specs.declared.operand.Operand.TheVariants as operand
use Rattle.node_tree.specs.Blocks as tree
use Rattle.py_meaning.specs.Syntax as syntax
use Rattle.py_safe.specs.Rosters.{Role, Roster, IsCode}
use Rattle.py_safe.specs.Constructs.{Room, room_of, MayCollect, LawfulTarget, LawfulTurns, LawfulBody, LawfulCode}
use Rattle.carries_base.specs.Frames.{Homes, local_at, behind}
use Rattle.carries_names.specs.Begun.{unset_block, filled_block, cells_block}
use Rattle.carried_codes.specs.Statements.{return_value, for_loop, push, put, emit, filter, over, gather}
use Rattle.carried_codes.specs.Nodes.{value, bind, element, turns, first_loop, collect, body, homes_of, code_nodes}
use Rattle.carried_contents.specs.Laws.{CodesAreTaken}
use Rattle.carried_contents.proofs.Held.{Held, Taken, stop, follow, both, done, clear}
use Rattle.carried_contents.proofs.Expressions.{if_taken}
use Rattle.carried_contents.proofs.Statements.{for_taken, over_taken}
use Rattle.carried_contents.proofs.Constructs.{value_taken, bind_taken, block_taken}

-- Comprehensions

module _ (c : Roster) (inside : ℕ → Bool) (all : (n : ℕ) (role : Role) → IsCode c n role → inside n ≡ true) (h : Homes) (r : Room) (line : ℕ) (collects : Option Op) where
  element_taken : (t : ℕ) (into : Operand) (inner : syntax.Turns) → LawfulTurns c r collects inner → Taken inside (element h t line into inner).block
  unfolding push put emit
  element_taken t into (syntax.Push x) l = both (value_taken c h inside all r t x l.1) (clear refl refl)
  element_taken t into (syntax.Put k x) l = both (value_taken c h inside all r t k l.1) (both (value_taken c h inside all r (value h t k).next x l.2) (clear refl refl))
  element_taken t into (syntax.Emit x) l = both (value_taken c h inside all r t x l.1) (clear refl refl)
  element_taken t into (syntax.Ranging x over inner) l = element_taken t into inner l.2
  element_taken t into (syntax.Filter test inner) l = element_taken t into inner l.1

  turns_taken : (t : ℕ) (b : tree.Block) (inner : syntax.Turns) → Taken inside b → LawfulTurns c r collects inner → Taken inside (turns h t line b inner).block
  unfolding for_loop filter
  turns_taken t b (syntax.Push x) p l = p
  turns_taken t b (syntax.Put k x) p l = p
  turns_taken t b (syntax.Emit x) p l = p
  turns_taken t b (syntax.Ranging x over inner) p l =
      let i = bind h t x in let q = value h i.next over in let m = turns h q.next line b inner in
      for_taken line m.next t q.part.block q.part.value i.block m.block tree.Stop (value_taken c h inside all r i.next over l.1) (bind_taken c h inside all r t x l.0) (turns_taken q.next b inner p l.2) stop
  turns_taken t b (syntax.Filter test inner) p l =
      let q = value h t test in let m = turns h q.next line b inner in
      if_taken line m.next q.part.block q.part.value m.block tree.Stop (value_taken c h inside all r t test l.0) (turns_taken q.next b inner p l.1) stop

  first_taken : (t : ℕ) (into : Operand) (x : syntax.Target) (inner : syntax.Turns) → LawfulTarget c r x → LawfulTurns c r collects inner → Taken inside (first_loop h t line into x inner)
  unfolding over
  first_taken t into x inner lx l =
      let e = element h t line into inner in let i = bind h e.next x in let m = turns h i.next line e.block inner in
      over_taken line m.next e.next (local_at h 0) i.block m.block (bind_taken c h inside all r e.next x lx) (turns_taken i.next e.block inner (element_taken t into inner l) l)

made_held : {inside : ℕ → Bool} (c : Roster) (to line : ℕ) (o : Op) → MayCollect c (Some o) → Held inside (tree.Do to line o [])
made_held c to line op.List m = done refl refl
made_held c to line op.Dict m = done refl refl
made_held c to line other m = absurd m

collect_taken : (c : Roster) (inside : ℕ → Bool) (all : (n : ℕ) (role : Role) → IsCode c n role → inside n ≡ true) (h : Homes) (r : Room) (t line : ℕ) (into : Option Op) (x : syntax.Target) (inner : syntax.Turns) → MayCollect c into → LawfulTarget c r x → LawfulTurns c r into inner → Taken inside (collect h t line into x inner)
unfolding gather
collect_taken c inside all h r t line None x inner m lx l = first_taken c inside all h r line None t (operand.Const const.None) x inner lx l
collect_taken c inside all h r t line (Some o) x inner m lx l =
    follow (made_held c t line o m) (both (first_taken c inside all h r line (Some o) (t + 1) (operand.Temp t) x inner lx l) (clear refl refl))

-- Bodies, and what stands before them

body_taken : (c : Roster) (inside : ℕ → Bool) (all : (n : ℕ) (role : Role) → IsCode c n role → inside n ≡ true) (h : Homes) (r : Room) (t : ℕ) (b : syntax.Body) → LawfulBody c r b → Taken inside (body h t b)
unfolding return_value
body_taken c inside all h r t (syntax.Statements b) l = block_taken c h inside all r None false t b l
body_taken c inside all h r t (syntax.Value' x) l = both (value_taken c h inside all r t x l) (clear refl refl)
body_taken c inside all h r t (syntax.Collect line into x inner) l = collect_taken c inside all h r t line into x inner l.0 l.2 l.3

filled_taken : {inside : ℕ → Bool} (h : Homes) (line t own : ℕ) (x : Option ℕ) (b : tree.Block) → Taken inside b → Taken inside (filled_block h line t own x b)
filled_taken h line t own None b p = p
filled_taken h line t own (Some place) b p = follow (done refl refl) p

cells_taken : {inside : ℕ → Bool} (h : Homes) (line t own : ℕ) (xs : List (Option ℕ)) (b : tree.Block) → Taken inside b → Taken inside (cells_block h line t own xs b)
cells_taken h line t own [] b p = p
cells_taken h line t own (x ∷ xs) b p = follow (done refl refl) (filled_taken h line t own x _ (cells_taken h line t (own + 1) xs b p))

unset_taken : {inside : ℕ → Bool} (h : Homes) (place n : ℕ) (b : tree.Block) → Taken inside b → Taken inside (unset_block h place n b)
unset_taken h place zero b p = p
unset_taken h place (suc n) b p = follow (done refl refl) (unset_taken h (place + 1) n b p)

pub code_taken : (c : Roster) (role : Role) (code : syntax.Code) → LawfulCode c role code → (inside : ℕ → Bool) → ((n : ℕ) (role : Role) → IsCode c n role → inside n ≡ true) → Taken inside (code_nodes code)
code_taken c role code l inside all =
    let h = homes_of code in
    unset_taken h h.params (code.locals - h.params) _ (cells_taken h code.header.line (behind h) 0 code.owns _ (body_taken c inside all h (room_of role code) (behind h) code.body l.body))

pub codes_taken : CodesAreTaken
codes_taken = record {
  taken = λ c role code l. (code_taken c role code l (λ n. true) (λ n r i. refl)).taken;
  numbered = λ c role code l inside all. (code_taken c role code l inside all).numbered;
}
