-- Rows in which nothing pauses: from any place nothing is said.
use Rattle.std.proofs.Common.{◌≡◌, ℕ, List, [], ◌∷◌, refl, ap, ◌∙◌}
use Rattle.nu_value.specs.declared.value.Value.{Value}
use Rattle.nu_rows.specs.Rows.{End, Next, Leave, Raised, Return, Stopped, Undefined, Step, First, Second, How, Begin, Back, Ended, Effect, Act, Then, Sub, Entry, after, shift, interp, run, does}
use Rattle.nu_rows.specs.Words.{ends_with, on_next, on_raised}
use Rattle.nu_calls.specs.Calls.{State}
use Rattle.node_tree.specs.Nodes as node

module _ (rows : node.Item → node.R) where
  pub record Mute (r : node.R) : Type 0 where
    pub by : (p : List Step) (how : How) (t : State node.Frame) (n : ℕ) → (u : State node.Frame) × (does rows r (Back p how) t n ≡ Ended [] u Undefined)

  pub act_mute : (f : State node.Frame → Effect (State node.Frame)) → Mute (Act f)
  act_mute f = record { by = λ p how t n. (t, refl) }

  pub sub_mute : (f : State node.Frame → Entry (State node.Frame) node.Item) → Mute (Sub f)
  sub_mute f = record { by = λ p how t n. (t, refl) }

  pub then_mute : (r : node.R) (k : End → node.R) → Mute r → k Undefined ≡ ends_with Undefined → ((e : End) → Mute (k e)) → Mute (Then r k)
  then_mute r k h e g = record { by = back }
    where
      back : (p : List Step) (how : How) (t : State node.Frame) (n : ℕ) → (u : State node.Frame) × (does rows (Then r k) (Back p how) t n ≡ Ended [] u Undefined)
      back [] how t n = (t, refl)
      back (First ∷ p) how t n =
          let a = h.by p how t n in
          (a.0, ap (λ x. after x (λ y z. interp (run rows n) (k y) Begin z)) a.1 ∙ ap (λ row. shift [] (Second Undefined) (interp (run rows n) row Begin a.0)) e)
      back (Second y ∷ p) how t n = let a = (g y).by p how t n in (a.0, ap (λ x. shift [] (Second y) x) a.1)

  pub next_mute : (k : Value → node.R) → ((v : Value) → Mute (k v)) → (e : End) → Mute (on_next k e)
  next_mute k h (Next v) = h v
  next_mute k h (Leave n) = act_mute _
  next_mute k h (Raised x) = act_mute _
  next_mute k h (Return v) = act_mute _
  next_mute k h (Stopped kind) = act_mute _
  next_mute k h Undefined = act_mute _

  pub raised_mute : (k : ℕ → node.R) → ((x : ℕ) → Mute (k x)) → (e : End) → Mute (on_raised k e)
  raised_mute k h (Next v) = act_mute _
  raised_mute k h (Leave n) = act_mute _
  raised_mute k h (Raised x) = h x
  raised_mute k h (Return v) = act_mute _
  raised_mute k h (Stopped kind) = act_mute _
  raised_mute k h Undefined = act_mute _

  pub stored_mute : (to : ℕ) (e : End) → Mute (node.stored to e)
  stored_mute to (Next v) = act_mute _
  stored_mute to (Leave n) = act_mute _
  stored_mute to (Raised x) = act_mute _
  stored_mute to (Return v) = act_mute _
  stored_mute to (Stopped kind) = act_mute _
  stored_mute to Undefined = act_mute _
