-- How the ends of a block show, once it is rewritten.
use Rattle.std.specs.Prelude.{◌≡◌, ℕ, zero, suc, ◌+◌, true, false}
use Rattle.nu_value.specs.declared.value.Value.{Value}
use Rattle.nu_value.specs.declared.value.Value.TheVariants as value
use Rattle.nu_rows.specs.Rows.{End, Next, Leave, Raised, Return, Stopped, Undefined, Start, Res, Spent, Paused, Ended, does}
use Rattle.nu_calls.specs.Calls.{State}
use Rattle.node_tree.specs.Blocks as tree
use Rattle.node_tree.specs.Nodes as nodes
use Rattle.node_redirect.specs.Redirect.{is_further}

abbrev pub T : Type 0
T = State nodes.Frame

-- what is kept of a return, and of a leave of so many loops more than the nearest around the block
abbrev pub at_return : ℕ → Value → T → T
at_return k v t = nodes.writes (nodes.writes (nodes.writes (nodes.writes t k v) (k + 1) (value.Bool true)) (k + 2) (value.Bool false)) (k + 3) (value.Bool true)

abbrev pub at_leave : ℕ → ℕ → T → T
at_leave k j t = nodes.writes (nodes.writes (nodes.writes (nodes.writes t (k + 1) (value.Bool true)) (k + 2) (value.Bool false)) (k + 3) (value.Bool false)) (k + 4) (value.Bool (is_further j))

-- inside so many loops of the block: how an end shows. Leaves inside the block stay; all others lead to the nearest loop around it
abbrev pub nearest : ℕ → ℕ → ℕ
nearest zero j = 0
nearest (suc d) zero = 0
nearest (suc d) (suc j) = suc (nearest d j)

abbrev pub shown_end : ℕ → End → End
shown_end d (Next v) = Next v
shown_end d (Leave j) = Leave (nearest d j)
shown_end d (Raised x) = Raised x
shown_end d (Return v) = Leave d
shown_end d (Stopped kind) = Stopped kind
shown_end d Undefined = Undefined

abbrev pub left_state : ℕ → ℕ → ℕ → T → T
left_state k zero j t = at_leave k j t
left_state k (suc d) zero t = t
left_state k (suc d) (suc j) t = left_state k d j t

abbrev pub shown_state : ℕ → ℕ → End → T → T
shown_state k d (Next v) t = t
shown_state k d (Leave j) t = left_state k d j t
shown_state k d (Raised x) t = t
shown_state k d (Return v) t = at_return k v t
shown_state k d (Stopped kind) t = t
shown_state k d Undefined t = t

abbrev pub shown : ℕ → ℕ → Res T → Res T
shown k d (Spent o) = Spent o
shown k d (Paused o t v p) = Paused o t v p
shown k d (Ended o t e) = Ended o (shown_state k d e t) (shown_end d e)

-- neither a value nor an exception
abbrev pub Exits : End → Type 0
Exits (Next v) = ⊥
Exits (Raised x) = ⊥
Exits e = Unit {0}

-- the second row does what the first does, from every start and within the same bound, and its ends are as they show
pub record Redirected (l : nodes.L) (blocks : ℕ → tree.Block) (k d : ℕ) (r c : nodes.R) : Type 0 where
  pub same : (start : Start) (t : T) (n : ℕ) → shown k d (does (nodes.item_row l blocks) r start t n) ≡ does (nodes.item_row l blocks) c start t n
