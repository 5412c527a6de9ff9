-- Further clauses of a comprehension, the last of them inside.
use Rattle.std.proofs.Common.{◌≡◌, ℕ, map, List, [], ◌∷◌, ◌++◌, refl, sym, ap, ◌∙◌}
use Rattle.node_tree.specs.Blocks as tree
use Rattle.reform_values.proofs.Joined.{mapped_last}
use Rattle.walk_laws.specs.States.{State, walked, done}
use Rattle.walk_laws.specs.Expressions as spec
use Rattle.reform_walk.specs.declared.parts.Turn.{Turn}
use Rattle.reform_walk.specs.Made.{turn_of}

by_last : (line : ℕ) (b : tree.Block) (xs : List spec.Turn) (x : spec.Turn) (s : State) → spec.around line b (xs ++ x ∷ []) s ≡ (let m = done (spec.turned line x b) s in spec.around line m.is xs m.state)
by_last line b [] x s = refl
by_last line b (y ∷ xs) x s = ap (λ m. done (spec.turned line y m.is) m.state) (by_last line b xs x s)

pub next_turn : (line : ℕ) (b c : tree.Block) (left less : List Turn) (x : Turn) (s u : State) → left ≡ less ++ x ∷ [] → c ≡ (done (spec.turned line (turn_of x) b) s).is → u ≡ (done (spec.turned line (turn_of x) b) s).state → spec.around line c (map turn_of less) u ≡ spec.around line b (map turn_of left) s
next_turn line b c left less x s u el ec eu =
    ap (λ d. spec.around line d (map turn_of less) u) ec
    ∙ ap (λ v. spec.around line (done (spec.turned line (turn_of x) b) s).is (map turn_of less) v) eu
    ∙ sym (ap (λ l. spec.around line b (map turn_of l) s) el ∙ ap (λ l. spec.around line b l s) (mapped_last turn_of less x) ∙ by_last line b (map turn_of less) (turn_of x) s)

pub last_turn : (line : ℕ) (b : tree.Block) (left : List Turn) (s : State) (whole : _) → left ≡ [] → spec.around line b (map turn_of left) s ≡ whole → walked b s ≡ whole
last_turn line b left s whole el e = sym (ap (λ l. spec.around line b (map turn_of l) s) el) ∙ e
