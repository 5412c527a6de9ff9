-- A row whose exception is kept, and what follows each of its ends.
use Rattle.std.proofs.Common.{◌≡◌, ◌≢◌, ℕ, ◌<◌, ◌≤◌, true, false, ◌∷◌, Some, refl, sym, ap, subst}
use Rattle.nu_value.specs.declared.value.Value.{Value}
use Rattle.nu_value.specs.declared.value.Value.TheVariants as value
use Rattle.op_forms.specs.declared.constant.Const.TheVariants as const
use Rattle.nu_rows.specs.Rows.{End, Next, Leave, Raised, Return, Stopped, Undefined, Then}
use Rattle.nu_rows.specs.Words.{ends_with, on_next, on_raised}
use Rattle.code_forms.specs.declared.operand.Operand.TheVariants as operand
use Rattle.node_tree.specs.Blocks.{alone}
use Rattle.node_tree.specs.Blocks as tree
use Rattle.node_tree.specs.Nodes as nodes
use Rattle.py_meaning.specs.Frames as python
use Rattle.carries_base.specs.Frames.{Homes, behind, Holds, Facts, Fits}
use Rattle.carries_base.specs.Carries.{Setting, target, S, T, Tables, Correspond, EndsAs, CarriedBy, CarriedTo}
use Rattle.carries_base.proofs.Facts.{Off, fresh}
use Rattle.carries_base.proofs.Carry.{AllEnds, Settles, none_by, act_by, then_by, tidy_by}
use Rattle.carries_base.proofs.Sequence.{Unvalued, one_by}
use Rattle.carries_base.proofs.Control.{flagged_by}
use Rattle.node_redirect.specs.Shown.{Exits}
use Rattle.carries_control.specs.Loops.{attempt}

module _ (z : Setting) (h : Homes) (n : ℕ) (k : Value → Facts) (fs : Facts) (x flag : ℕ) where
  -- on the right an exception is kept in x, and the flag is set
  abbrev pub Attempted : AllEnds
  Attempted tabs (Next v) s (Next w) t = Correspond z h tabs (k v) s t
  Attempted tabs (Raised e) s (Next w) t = Correspond z h tabs (Holds (operand.Temp flag) (value.Bool true) ∷ Holds (operand.Temp x) (value.Obj e) ∷ fs) s t
  Attempted tabs (Leave i) s (Leave j) t = (i ≡ j) × (i < n) × Correspond z h tabs fs s t
  Attempted tabs (Return v) s (Return w) t = (v ≡ w) × Correspond z h tabs fs s t
  Attempted tabs (Stopped i) s (Stopped j) t = i ≡ j
  Attempted tabs Undefined s Undefined t = Unit {0}
  Attempted tabs e s e' t = ⊥

  kept : behind h ≤ x → behind h ≤ flag → x ≢ flag → Off x fs → Off flag fs → Settles z h (EndsAs z h n k fs) Attempted (on_raised (nodes.handled x (nodes.block_row (target z) (alone (tree.Constant flag (const.Bool true))))))
  kept le₁ le₂ ne off₁ off₂ tabs (Next v) s (Next w) t y = (Next w, t, record { bound = 0; by = refl }, y)
  kept le₁ le₂ ne off₁ off₂ tabs (Leave i) s (Leave j) t y = (Leave j, t, record { bound = 0; by = refl }, y)
  kept le₁ le₂ ne off₁ off₂ tabs (Raised e) s (Raised e') t y = (
    Next value.None,
    nodes.writes (nodes.writes t x (value.Obj e')) flag (value.Bool true),
    record { bound = 0; by = refl },
    fresh z h tabs (Holds (operand.Temp x) (value.Obj e) ∷ fs) flag (value.Bool true) (value.Bool true) s (nodes.writes t x (value.Obj e')) refl le₂ (ne, off₂)
        (fresh z h tabs fs x (value.Obj e) (value.Obj e') s t (ap (λ u. value.Obj u) (sym y.0)) le₁ off₁ y.1),
  )
  kept le₁ le₂ ne off₁ off₂ tabs (Return v) s (Return w) t y = (Return w, t, record { bound = 0; by = refl }, y)
  kept le₁ le₂ ne off₁ off₂ tabs (Stopped v) s (Stopped w) t y = (Stopped w, t, record { bound = 0; by = refl }, y)
  kept le₁ le₂ ne off₁ off₂ tabs Undefined s Undefined t y = (Undefined, t, record { bound = 0; by = refl }, y)
  kept le₁ le₂ ne off₁ off₂ tabs e s e' t y = absurd y

  pub attempted : (gs : Facts) (r : python.R) (b : tree.Block) → behind h ≤ x → behind h ≤ flag → x ≢ flag → Off x fs → Off flag fs → CarriedTo z h (EndsAs z h n k fs) gs r (nodes.block_row (target z) b) → CarriedTo z h Attempted gs r (nodes.form_row (target z) (attempt x flag b))
  attempted gs r b le₁ le₂ ne off₁ off₂ c = tidy_by z h _ (EndsAs z h n k fs) Attempted r _ _ (kept le₁ le₂ ne off₁ off₂) c

  -- what follows a value, and what follows an exception, stand beside each other
  module _ (Q : AllEnds) (un : Unvalued z h n Q) (K : End → python.R) (hb ob : tree.Block) (exits : (e : End) → Exits e → K e ≡ ends_with e) (pass : (tabs : Tables) (e : End) (s : S) (e' : End) (t : T) → Exits e → Attempted tabs e s e' t → Q tabs e s e' t) (unset : (v c : Value) (g : nodes.Frame) → Fits (k v) c g → g.temps flag ≡ Some (value.Bool false)) (next : (v : Value) → CarriedTo z h Q (k v) (K (Next v)) (nodes.block_row (target z) ob)) (raised : (e : ℕ) → CarriedTo z h Q (Holds (operand.Temp flag) (value.Bool true) ∷ Holds (operand.Temp x) (value.Obj e) ∷ fs) (K (Raised e)) (nodes.block_row (target z) hb)) where
    out : (e e' : End) → Exits e → CarriedBy z h (λ tabs s t. Attempted tabs e s e' t) Q (K e) (ends_with e')
    out e e' over = subst (λ r. CarriedBy z h (λ tabs s t. Attempted tabs e s e' t) Q r (ends_with e')) (sym (exits e over)) (act_by z h _ Q _ _ (λ tabs s t y. (refl, pass tabs e s e' t over y)))

    follows : (e e' : End) → CarriedBy z h (λ tabs s t. Attempted tabs e s e' t) Q (K e) (on_next (λ w. nodes.block_row (target z) (alone (tree.If (operand.Temp flag) hb ob))) e')
    follows (Next v) (Next w) = one_by z h n _ Q _ _ un (flagged_by z h _ Q (operand.Temp flag) false _ hb ob (λ tabs s t y. unset v s.frame.carried t.frame y.frames.facts) (next v))
    follows (Raised e) (Next w) = one_by z h n _ Q _ _ un (flagged_by z h _ Q (operand.Temp flag) true _ hb ob (λ tabs s t y. y.frames.facts.0) (raised e))
    follows (Leave i) (Leave j) = out (Leave i) (Leave j) tt
    follows (Return v) (Return w) = out (Return v) (Return w) tt
    follows (Stopped v) (Stopped w) = out (Stopped v) (Stopped w) tt
    follows Undefined Undefined = out Undefined Undefined tt
    follows e e' = none_by z h _ Q _ _ (λ tabs s t y. y)

    pub attempt_then : (gs : Facts) (r : python.R) (c : nodes.R) → CarriedTo z h Attempted gs r c → CarriedTo z h Q gs (Then r K) (nodes.followed c (nodes.block_row (target z) (alone (tree.If (operand.Temp flag) hb ob))))
    attempt_then gs r c y = then_by z h _ Attempted Q r c K _ y follows
