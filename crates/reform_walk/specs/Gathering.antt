-- Comprehensions, as the walk makes them.
use Rattle.std.specs.Prelude.{ℕ, ◌+◌, Bool, true, false, [], ◌∷◌, Option}
use Rattle.node_tree.specs.Blocks as tree
use Rattle.node_tree.specs.Tree.{block}
use Rattle.op_forms.specs.declared.op.Op.{Op}
use Rattle.py_ast.specs.declared.expr.Clauses.{Clauses}
use Rattle.py_ast.specs.declared.expr.Subscript.{Subscript}
use Rattle.py_ast.specs.declared.expr.Subscript.TheVariants as subscript
use Rattle.op_forms.specs.declared.op.Op.TheVariants as op
use Rattle.py_meaning.specs.Resolved.{Context}
use Rattle.py_meaning.specs.Resolved as meaning
use Rattle.carries_base.specs.Carries.{Carrier}
use Rattle.carried_codes.specs.Expressions as expressions
use Rattle.carried_codes.specs.Statements as statements
use Rattle.reform_blocks.specs.Parts.{carrier}
use Rattle.walk_laws.specs.Contexts.{cells_in}
use Rattle.walk_laws.specs.Expressions as walk
use Rattle.walk_laws.specs.States.{State, Walked, Walking, walked, and_then, at, valued}
use Rattle.reform_walk.specs.declared.comprehensions.Ranged as code

pub record Ranged : Type 0 where
  pub item : ℕ
  pub bind : tree.Block
  pub over : Carrier
  pub next : ℕ
  pub body : tree.Block

abbrev pub ranged_of : code.Ranged → Ranged
ranged_of r = record { item = r.item; bind = block r.bind; over = carrier r.over; next = r.next; body = block r.body }

-- the clauses of a comprehension in c, whose scope is d; the element is made before the state u
abbrev pub ranged : Context → Context → ℕ → ℕ → Clauses walk.Part → tree.Block → State → Walked Ranged
ranged c d line t clauses e u =
    let i = walk.bind d clauses.target u in
    let x = clauses.iterable.value c (at t i.state) in
    let f = walk.further d line e clauses.more (at i.state.temp x.state) in
    walked (record { item = u.temp; bind = i.is; over = x.is; next = x.state.temp; body = f.is }) f.state

abbrev pub closing : Context → Context → ℕ → Option Op → ℕ → State → Ranged → State → Walked Carrier
closing c d line o first s r f =
    let b = walk.gathered line o first (statements.over line r.item 0 r.bind r.body f.temp) in
    let v = expressions.comprehension line (c.first + s.scope) r.over (cells_in c s.scope) r.next in
    walked v.part (walk.ended s d meaning.handed b f v.next)

-- a comprehension behind its element, which is made before the state u
abbrev pub behind_element : Context → Context → ℕ → Option Op → ℕ → Clauses walk.Part → tree.Block → State → State → Walked Carrier
behind_element c d line o first clauses e s u =
    let r = ranged c d line s.temp clauses e u in
    closing c d line o first s r.is r.state

-- an item of what is evaluated, or a slice of it
abbrev pub item_at : Context → ℕ → Carrier → Subscript walk.Part → Walking Carrier
item_at c line o (subscript.Slice lower upper step) =
    and_then (walk.maybe c lower) (λ a. and_then (walk.maybe c upper) (λ b. and_then (walk.maybe c step) (λ s.
    valued (expressions.operate line op.Slice (o ∷ a ∷ b ∷ s ∷ [])))))
item_at c line o (subscript.One y) = and_then (walk.operand_at c line (subscript.One y)) (λ p. valued (expressions.operate line op.Index (o ∷ p ∷ [])))
item_at c line o (subscript.Several ys) = and_then (walk.operand_at c line (subscript.Several ys)) (λ p. valued (expressions.operate line op.Index (o ∷ p ∷ [])))

abbrev pub sliced : {A : Type 0} → Subscript A → Bool
sliced (subscript.Slice lower upper step) = true
sliced (subscript.One y) = false
sliced (subscript.Several ys) = false
