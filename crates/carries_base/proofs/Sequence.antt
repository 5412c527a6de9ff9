-- Carrying with facts and the ends of a construct: one after another, a statement alone, operands, choices.
use Rattle.std.proofs.Common.{◌≡◌, ◌⊎◌, ⊎_elim, inl, inr, ℕ, ◌≤◌, true, false, Some, refl, sym, ap, ◌∙◌, subst, arith}
use Rattle.nu_value.specs.declared.value.Value.{Value}
use Rattle.nu_value.specs.declared.value.Value.TheVariants as value
use Rattle.nu_rows.specs.Rows.{End, Next, Leave, Raised, Return, Stopped, Undefined}
use Rattle.nu_rows.specs.Words.{ends_with, on_next, then_value, choose}
use Rattle.code_forms.specs.declared.operand.Operand.{Operand}
use Rattle.node_tree.specs.Blocks.{Block, Stop, append}
use Rattle.node_tree.specs.Nodes as nodes
use Rattle.py_meaning.specs.Frames as python
use Rattle.carries_base.specs.Frames.{Homes, Facts, Fits}
use Rattle.carries_base.specs.Carries.{Setting, target, S, T, Tables, Correspond, EndsAs, CarriedBy, CarriedTo, Carried}
use Rattle.carries_base.proofs.Facts.{refit}
use Rattle.carries_base.proofs.Carry.{States, AllEnds, IsOver, Settles, by_map, none_by, act_by, then_by, tidy_by, Midway, right_by, left_by, alike_by, append_by}

pub next_is : (v w : Value) → Next v ≡ Next w → v ≡ w
next_is v w e = cc

-- a value that is used is the same to both
pub used_same : (v : Value) → nodes.used (Some v) ≡ python.used v
used_same value.Unset = refl
used_same value.None = refl
used_same (value.Bool b) = refl
used_same (value.Int i) = refl
used_same (value.Str s) = refl
used_same (value.Obj o) = refl

-- a value is used, or it is Unset
pub used_case : (v : Value) → (python.used v ≡ Next v) ⊎ (python.used v ≡ Undefined)
used_case value.Unset = inr refl
used_case value.None = inl refl
used_case (value.Bool b) = inl refl
used_case (value.Int i) = inl refl
used_case (value.Str s) = inl refl
used_case (value.Obj o) = inl refl

module _ (z : Setting) (h : Homes) (n : ℕ) where
  pub ends_map : (tabs : Tables) (k k' : Value → Facts) (fs fs' : Facts) → ((v : Value) (s : S) (t : T) → Correspond z h tabs (k v) s t → Correspond z h tabs (k' v) s t) → ((s : S) (t : T) → Correspond z h tabs fs s t → Correspond z h tabs fs' s t) → (e : End) (s : S) (e' : End) (t : T) → EndsAs z h n k fs tabs e s e' t → EndsAs z h n k' fs' tabs e s e' t
  ends_map tabs k k' fs fs' f g (Next v) s (Next w) t x = f v s t x
  ends_map tabs k k' fs fs' f g (Leave i) s (Leave j) t x = (x.0, x.1, g s t x.2)
  ends_map tabs k k' fs fs' f g (Raised v) s (Raised w) t x = (x.0, g s t x.1)
  ends_map tabs k k' fs fs' f g (Return v) s (Return w) t x = (x.0, g s t x.1)
  ends_map tabs k k' fs fs' f g (Stopped v) s (Stopped w) t x = x
  ends_map tabs k k' fs fs' f g Undefined s Undefined t x = x
  ends_map tabs k k' fs fs' f g e s e' t x = absurd x

  -- more loops may be left
  pub more_leaves : (n' : ℕ) (k : Value → Facts) (fs : Facts) (r : python.R) (c : nodes.R) → n ≤ n' → Carried z h n k fs r c → Carried z h n' k fs r c
  more_leaves n' k fs r c le x = by_map z h _ _ (EndsAs z h n k fs) (EndsAs z h n' k fs) r c (λ tabs s t y. y) go x
    where
      go : (tabs : Tables) (e : End) (s : S) (e' : End) (t : T) → EndsAs z h n k fs tabs e s e' t → EndsAs z h n' k fs tabs e s e' t
      go tabs (Next v) s (Next w) t x = x
      go tabs (Leave i) s (Leave j) t x = let l = x.1 in (x.0, omega arith, x.2)
      go tabs (Raised i) s (Raised j) t x = x
      go tabs (Return i) s (Return j) t x = x
      go tabs (Stopped i) s (Stopped j) t x = x
      go tabs Undefined s Undefined t x = x
      go tabs e s e' t x = absurd x

  -- more is known before, less is claimed after
  pub weaken : (k k' : Value → Facts) (fs : Facts) (r : python.R) (c : nodes.R) → ((v c : Value) (g : nodes.Frame) → Fits (k v) c g → Fits (k' v) c g) → Carried z h n k fs r c → Carried z h n k' fs r c
  weaken k k' fs r c f x = by_map z h _ _ (EndsAs z h n k fs) (EndsAs z h n k' fs) r c (λ tabs s t y. y) (λ tabs. ends_map tabs k k' fs fs (λ v s t y. refit z h tabs (k v) (k' v) s t (f v s.frame.carried t.frame) y) (λ s t y. y)) x

  pub lessen : (k k' : Value → Facts) (fs gs : Facts) (r : python.R) (c : nodes.R) → ((v c : Value) (g : nodes.Frame) → Fits (k v) c g → Fits (k' v) c g) → ((c : Value) (g : nodes.Frame) → Fits gs c g → Fits fs c g) → Carried z h n k gs r c → CarriedTo z h (EndsAs z h n k' fs) gs r c
  lessen k k' fs gs r c f g x = by_map z h _ _ (EndsAs z h n k gs) (EndsAs z h n k' fs) r c (λ tabs s t y. y) (λ tabs. ends_map tabs k k' gs fs (λ v s t y. refit z h tabs (k v) (k' v) s t (f v s.frame.carried t.frame) y) (λ s t y. refit z h tabs gs fs s t (g s.frame.carried t.frame) y)) x

  pub strengthen : (fs gs : Facts) (Q : AllEnds) (r : python.R) (c : nodes.R) → ((c : Value) (g : nodes.Frame) → Fits gs c g → Fits fs c g) → CarriedTo z h Q fs r c → CarriedTo z h Q gs r c
  strengthen fs gs Q r c f x = by_map z h _ _ Q Q r c (λ tabs s t y. refit z h tabs gs fs s t (f s.frame.carried t.frame) y) (λ tabs e s e' t y. y) x

  -- what follows a value, where other ends pass
  abbrev pub Passes : (Value → Facts) → Facts → AllEnds → Type 0
  Passes m fs Q = (tabs : Tables) (e : End) (s : S) (e' : End) (t : T) → IsOver e → EndsAs z h n m fs tabs e s e' t → Q tabs e s e' t

  pub next_to : (m : Value → Facts) (fs : Facts) (Q : AllEnds) (K : Value → python.R) (D : Value → nodes.R) → Passes m fs Q → ((v w : Value) → CarriedTo z h Q (m v) (K v) (D w)) → (e e' : End) → CarriedBy z h (λ tabs s t. EndsAs z h n m fs tabs e s e' t) Q (on_next K e) (on_next D e')
  next_to m fs Q K D pass next (Next v) (Next w) = next v w
  next_to m fs Q K D pass next (Leave i) (Leave j) = act_by z h _ Q _ _ (λ tabs s t x. (refl, pass tabs (Leave i) s (Leave j) t tt x))
  next_to m fs Q K D pass next (Raised i) (Raised j) = act_by z h _ Q _ _ (λ tabs s t x. (refl, pass tabs (Raised i) s (Raised j) t tt x))
  next_to m fs Q K D pass next (Return i) (Return j) = act_by z h _ Q _ _ (λ tabs s t x. (refl, pass tabs (Return i) s (Return j) t tt x))
  next_to m fs Q K D pass next (Stopped i) (Stopped j) = act_by z h _ Q _ _ (λ tabs s t x. (refl, pass tabs (Stopped i) s (Stopped j) t tt x))
  next_to m fs Q K D pass next Undefined Undefined = act_by z h _ Q _ _ (λ tabs s t x. (refl, pass tabs Undefined s Undefined t tt x))
  next_to m fs Q K D pass next e e' = none_by z h _ Q _ _ (λ tabs s t x. x)

  pub passes : (m k : Value → Facts) (fs : Facts) → Passes m fs (EndsAs z h n k fs)
  passes m k fs tabs (Next v) s (Next w) t o x = absurd o
  passes m k fs tabs (Leave i) s (Leave j) t o x = x
  passes m k fs tabs (Raised i) s (Raised j) t o x = x
  passes m k fs tabs (Return i) s (Return j) t o x = x
  passes m k fs tabs (Stopped i) s (Stopped j) t o x = x
  passes m k fs tabs Undefined s Undefined t o x = x
  passes m k fs tabs e s e' t o x = absurd x

  -- with less known, and more loops
  pub passes_to : (n' : ℕ) (m k : Value → Facts) (fs gs : Facts) → n ≤ n' → ((c : Value) (g : nodes.Frame) → Fits fs c g → Fits gs c g) → Passes m fs (EndsAs z h n' k gs)
  passes_to n' m k fs gs le f tabs (Next v) s (Next w) t o x = absurd o
  passes_to n' m k fs gs le f tabs (Leave i) s (Leave j) t o x = let l = x.1 in (x.0, omega arith, refit z h tabs fs gs s t (f s.frame.carried t.frame) x.2)
  passes_to n' m k fs gs le f tabs (Raised i) s (Raised j) t o x = (x.0, refit z h tabs fs gs s t (f s.frame.carried t.frame) x.1)
  passes_to n' m k fs gs le f tabs (Return i) s (Return j) t o x = (x.0, refit z h tabs fs gs s t (f s.frame.carried t.frame) x.1)
  passes_to n' m k fs gs le f tabs (Stopped i) s (Stopped j) t o x = x
  passes_to n' m k fs gs le f tabs Undefined s Undefined t o x = x
  passes_to n' m k fs gs le f tabs e s e' t o x = absurd x

  -- a row, and what its value leads to, to any ends
  pub then_to : (m : Value → Facts) (fs : Facts) (Q : AllEnds) (r : python.R) (c : nodes.R) (K : Value → python.R) (d : nodes.R) → Passes m fs Q → Carried z h n m fs r c → ((v : Value) → CarriedTo z h Q (m v) (K v) d) → CarriedTo z h Q fs (then_value r K) (nodes.followed c d)
  then_to m fs Q r c K d pass x next = then_by z h _ (EndsAs z h n m fs) Q r c (on_next K) (on_next (λ w. d)) x (next_to m fs Q K (λ w. d) pass (λ v w. next v))

  pub then_carried : (m k : Value → Facts) (fs : Facts) (r : python.R) (c : nodes.R) (K : Value → python.R) (d : nodes.R) → ((v c : Value) (g : nodes.Frame) → Fits (m v) c g → Fits fs c g) → Carried z h n m fs r c → ((v : Value) → Carried z h n k (m v) (K v) d) → Carried z h n k fs (then_value r K) (nodes.followed c d)
  then_carried m k fs r c K d less x next =
      then_to m fs (EndsAs z h n k fs) r c K d (passes m k fs) x
      (λ v. by_map z h _ _ (EndsAs z h n k (m v)) (EndsAs z h n k fs) (K v) d (λ tabs s t y. y) (λ tabs. ends_map tabs k k (m v) fs (λ u s t y. y) (λ s t y. refit z h tabs (m v) fs s t (less v s.frame.carried t.frame) y)) (next v))

  -- and as blocks
  pub seq_to : (m : Value → Facts) (fs : Facts) (Q : AllEnds) (r : python.R) (K : Value → python.R) (xs ys : Block) → Passes m fs Q → Carried z h n m fs r (nodes.block_row (target z) xs) → ((v : Value) → CarriedTo z h Q (m v) (K v) (nodes.block_row (target z) ys)) → CarriedTo z h Q fs (then_value r K) (nodes.block_row (target z) (append xs ys))
  seq_to m fs Q r K xs ys pass x next = append_by z h _ Q _ xs ys (then_to m fs Q r _ K _ pass x next)

  pub seq_carried : (m k : Value → Facts) (fs : Facts) (r : python.R) (K : Value → python.R) (xs ys : Block) → ((v c : Value) (g : nodes.Frame) → Fits (m v) c g → Fits fs c g) → Carried z h n m fs r (nodes.block_row (target z) xs) → ((v : Value) → Carried z h n k (m v) (K v) (nodes.block_row (target z) ys)) → Carried z h n k fs (then_value r K) (nodes.block_row (target z) (append xs ys))
  seq_carried m k fs r K xs ys less x next = append_by z h _ (EndsAs z h n k fs) _ xs ys (then_carried m k fs r _ K _ less x next)

  -- ends that take no account of the value at the end of a block
  abbrev pub Unvalued : AllEnds → Type 0
  Unvalued Q = (tabs : Tables) (e : End) (s : S) (v w : Value) (t : T) → Q tabs e s (Next v) t → Q tabs e s (Next w) t

  one_done : (Q : AllEnds) → Unvalued Q → Settles z h Q Q (on_next (λ v. nodes.block_row (target z) Stop))
  one_done Q un tabs e s (Next w) t x = (Next value.None, t, record { bound = 0; by = refl }, un tabs e s w value.None t x)
  one_done Q un tabs e s (Leave j) t x = (Leave j, t, record { bound = 0; by = refl }, x)
  one_done Q un tabs e s (Raised w) t x = (Raised w, t, record { bound = 0; by = refl }, x)
  one_done Q un tabs e s (Return w) t x = (Return w, t, record { bound = 0; by = refl }, x)
  one_done Q un tabs e s (Stopped w) t x = (Stopped w, t, record { bound = 0; by = refl }, x)
  one_done Q un tabs e s Undefined t x = (Undefined, t, record { bound = 0; by = refl }, x)

  pub unvalued : (k : Value → Facts) (fs : Facts) → Unvalued (EndsAs z h n k fs)
  unvalued k fs tabs (Next u) s v w t x = x
  unvalued k fs tabs (Leave u) s v w t x = absurd x
  unvalued k fs tabs (Raised u) s v w t x = absurd x
  unvalued k fs tabs (Return u) s v w t x = absurd x
  unvalued k fs tabs (Stopped u) s v w t x = absurd x
  unvalued k fs tabs Undefined s v w t x = absurd x

  -- one statement is a block
  pub one_by : (Pre : States) (Q : AllEnds) (r : python.R) (c : nodes.R) → Unvalued Q → CarriedBy z h Pre Q r c → CarriedBy z h Pre Q r (nodes.followed c (nodes.block_row (target z) Stop))
  one_by Pre Q r c un x = tidy_by z h Pre Q Q r c _ (one_done Q un) x

  pub one_carried : (k : Value → Facts) (fs : Facts) (r : python.R) (c : nodes.R) → Carried z h n k fs r c → Carried z h n k fs r (nodes.followed c (nodes.block_row (target z) Stop))
  one_carried k fs r c x = one_by _ (EndsAs z h n k fs) r c (unvalued k fs) x

  -- a value is carried by no statement
  pub gives_carried : (k : Value → Facts) (fs : Facts) (v : Value) → ((c : Value) (g : nodes.Frame) → Fits fs c g → Fits (k v) c g) → Carried z h n k fs (ends_with (Next v)) (nodes.block_row (target z) Stop)
  gives_carried k fs v f = act_by z h _ (EndsAs z h n k fs) _ _ (λ tabs s t x. (refl, refit z h tabs fs (k v) s t (f s.frame.carried t.frame) x))

  -- an operand that is known, and used, is read
  pub read_by : (Pre : States) (Q : AllEnds) (a : Operand) (v : Value) (r : python.R) (D : Value → nodes.R) → python.used v ≡ Next v → ((tabs : Tables) (s : S) (t : T) → Pre tabs s t → nodes.operand_value t.frame a ≡ Some v) → CarriedBy z h Pre Q r (D v) → CarriedBy z h Pre Q r (nodes.reading a D)
  read_by Pre Q a v r D used known x =
      right_by z h Pre (λ w tabs s t. (w ≡ v) × Pre tabs s t) Q r _ D
      (λ tabs s t y. (refl, subst (λ e. Midway z h (λ w tabs s t. (w ≡ v) × Pre tabs s t) tabs e s t) (sym (ap nodes.used (known tabs s t y) ∙ used_same v ∙ used)) (refl, y)))
      (λ w. alike_by z h w v Pre Q (λ u. r) D x)

  -- what is read of the frame
  pub reads_by : (Pre : States) (Mid : Value → States) (Q : AllEnds) (f : python.Frame → Value) (K : Value → python.R) (c : nodes.R) → ((tabs : Tables) (s : S) (t : T) → Pre tabs s t → Mid (f s.frame) tabs s t) → ((v : Value) → CarriedBy z h (Mid v) Q (K v) c) → CarriedBy z h Pre Q (then_value (python.reads f) K) c
  reads_by Pre Mid Q f K c known next = left_by z h Pre Mid Q _ K c (λ tabs s t x. (refl, known tabs s t x)) next

  -- a value that is yielded
  both_undefined : (Pre : States) (Q : AllEnds) (K : Value → python.R) (D : Value → nodes.R) → ((tabs : Tables) (s : S) (t : T) → Pre tabs s t → Q tabs Undefined s Undefined t) → (e e' : End) → CarriedBy z h (λ tabs s t. (e ≡ Undefined) × (e' ≡ Undefined) × Pre tabs s t) Q (on_next K e) (on_next D e')
  both_undefined Pre Q K D u Undefined Undefined = act_by z h _ Q _ _ (λ tabs s t x. (refl, u tabs s t x.2))
  both_undefined Pre Q K D u Undefined (Next v) = none_by z h _ Q _ _ (λ tabs s t x. let e : Next v ≡ Undefined = x.1 in cc)
  both_undefined Pre Q K D u Undefined (Leave v) = none_by z h _ Q _ _ (λ tabs s t x. let e : Leave v ≡ Undefined = x.1 in cc)
  both_undefined Pre Q K D u Undefined (Raised v) = none_by z h _ Q _ _ (λ tabs s t x. let e : Raised v ≡ Undefined = x.1 in cc)
  both_undefined Pre Q K D u Undefined (Return v) = none_by z h _ Q _ _ (λ tabs s t x. let e : Return v ≡ Undefined = x.1 in cc)
  both_undefined Pre Q K D u Undefined (Stopped v) = none_by z h _ Q _ _ (λ tabs s t x. let e : Stopped v ≡ Undefined = x.1 in cc)
  both_undefined Pre Q K D u (Next v) e' = none_by z h _ Q _ _ (λ tabs s t x. let e : Next v ≡ Undefined = x.0 in cc)
  both_undefined Pre Q K D u (Leave v) e' = none_by z h _ Q _ _ (λ tabs s t x. let e : Leave v ≡ Undefined = x.0 in cc)
  both_undefined Pre Q K D u (Raised v) e' = none_by z h _ Q _ _ (λ tabs s t x. let e : Raised v ≡ Undefined = x.0 in cc)
  both_undefined Pre Q K D u (Return v) e' = none_by z h _ Q _ _ (λ tabs s t x. let e : Return v ≡ Undefined = x.0 in cc)
  both_undefined Pre Q K D u (Stopped v) e' = none_by z h _ Q _ _ (λ tabs s t x. let e : Stopped v ≡ Undefined = x.0 in cc)

  -- the source takes a value for one, where the nodes read the operand that holds it
  pub uses_by : (Pre : States) (Q : AllEnds) (a : Operand) (v : Value) (K : Value → python.R) (D : Value → nodes.R) → ((tabs : Tables) (s : S) (t : T) → Pre tabs s t → nodes.operand_value t.frame a ≡ Some v) → ((tabs : Tables) (s : S) (t : T) → Pre tabs s t → Q tabs Undefined s Undefined t) → (python.used v ≡ Next v → CarriedBy z h Pre Q (K v) (D v)) → CarriedBy z h Pre Q (python.uses v K) (nodes.reading a D)
  uses_by Pre Q a v K D known u next = ⊎_elim
      (λ (used : python.used v ≡ Next v).
      left_by z h Pre (λ w tabs s t. (w ≡ v) × Pre tabs s t) Q _ K _
      (λ tabs s t y. (refl, subst (λ e. Midway z h (λ w tabs s t. (w ≡ v) × Pre tabs s t) tabs e s t) (sym used) (refl, y)))
      (λ w. alike_by z h w v Pre Q K (λ x. nodes.reading a D) (read_by Pre Q a v (K v) D used known (next used))))
      (λ (e : python.used v ≡ Undefined).
      then_by z h Pre (λ tabs e s e' t. (e ≡ Undefined) × (e' ≡ Undefined) × Pre tabs s t) Q _ _ (on_next K) (on_next D)
      (act_by z h Pre _ _ _ (λ tabs s t x. (refl, (e, ap nodes.used (known tabs s t x) ∙ used_same v ∙ e, x))))
      (both_undefined Pre Q K D u))
      (used_case v)

  -- a choice
  pub choose_by : (v : Value) (Pre : States) (Q : AllEnds) (r₁ r₂ : python.R) (c₁ c₂ : nodes.R) → ((tabs : Tables) (s : S) (t : T) → Pre tabs s t → Q tabs Undefined s Undefined t) → CarriedBy z h Pre Q r₁ c₁ → CarriedBy z h Pre Q r₂ c₂ → CarriedBy z h Pre Q (choose v r₁ r₂) (choose v c₁ c₂)
  choose_by (value.Bool true) Pre Q r₁ r₂ c₁ c₂ u x y = x
  choose_by (value.Bool false) Pre Q r₁ r₂ c₁ c₂ u x y = y
  choose_by value.Unset Pre Q r₁ r₂ c₁ c₂ u x y = act_by z h Pre Q _ _ (λ tabs s t p. (refl, u tabs s t p))
  choose_by value.None Pre Q r₁ r₂ c₁ c₂ u x y = act_by z h Pre Q _ _ (λ tabs s t p. (refl, u tabs s t p))
  choose_by (value.Int i) Pre Q r₁ r₂ c₁ c₂ u x y = act_by z h Pre Q _ _ (λ tabs s t p. (refl, u tabs s t p))
  choose_by (value.Str i) Pre Q r₁ r₂ c₁ c₂ u x y = act_by z h Pre Q _ _ (λ tabs s t p. (refl, u tabs s t p))
  choose_by (value.Obj i) Pre Q r₁ r₂ c₁ c₂ u x y = act_by z h Pre Q _ _ (λ tabs s t p. (refl, u tabs s t p))
