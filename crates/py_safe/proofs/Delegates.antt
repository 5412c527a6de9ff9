-- `yield` and `yield from` go right: what is carried from turn to turn is there.
use Rattle.std.proofs.Common.{ℕ, List, [], ◌∷◌, refl, arith}
use Rattle.std.specs.Prelude.{IsTrue, codes}
use Rattle.nu_value.specs.declared.value.Value.{Value}
use Rattle.nu_value.specs.declared.value.Value.TheVariants as value
use Rattle.op_forms.specs.declared.op.Op.TheVariants as op
use Rattle.nu_rows.specs.Rows.{End, Next, Leave, Raised, Return, Stopped, Undefined}
use Rattle.nu_calls.specs.Calls.{operate, yields}
use Rattle.py_meaning.specs.Frames.{Frame, DelegateTurn, R as Rw, used, uses, changes, with_carried, text, reads}
use Rattle.py_meaning.specs.Expressions.{next, resumes, told, sends, closes_inner, throws, thrown, woken, delegate_turn, delegate_loop, delegate, passes_on, delegated}
use Rattle.py_safe.specs.Heaps.{View, Grows, IsThere, IsThrown}
use Rattle.py_safe.specs.Rules.{IsTruth}
use Rattle.py_safe.specs.Constructs.{Room}
use Rattle.py_safe.proofs.Right.{Program, source, FrameLaw, Kind, EndIs, Anything, RightBy}
use Rattle.py_safe.proofs.Growth.{grows_trans, there_more, thrown_more}
use Rattle.py_safe.proofs.Rows.{IsNone, reads_right, changes_right, ends_right, right_map, then_right, value_right, choose_right, loop_right}
use Rattle.py_safe.proofs.Operations.{OpGives, operate_right, yields_right}
use Rattle.py_safe.proofs.Names.{There, there_right, there_maybe, both, value_fits}
use Rattle.py_safe.proofs.Passing.{pass_right}
use Rattle.py_safe.proofs.Exceptions.{thrown_there, again_right, generator_exit, one_of_right, unless_right}

used_there : (v : View) (x : Value) → IsThere v x → EndIs 0 There v (used x)
used_there v value.Unset p = absurd p.0
used_there v value.None p = p
used_there v (value.Bool b) p = p
used_there v (value.Int i) p = p
used_there v (value.Str s) p = p
used_there v (value.Obj n) p = p

carried_frame : (r : Room) (v : View) (f : Frame) (x : Value) → IsThere v x → FrameLaw r v f → FrameLaw r v (with_carried x f)
carried_frame r v f x p a = record {
  locals = a.locals;
  count = a.count;
  bound = a.bound;
  names = a.names;
  owns = a.owns;
  made = a.made;
  frees = a.frees;
  given = a.given;
  carried = p;
}

module _ (z : Program) (r : Room) where
  -- a value that is used
  pub uses_right : (n : ℕ) (K : Kind) (v : View) (x : Value) (k : Value → Rw) → IsThere v x → ((y : Value) (g : View) → Grows v g → IsThere g y → RightBy z r r n K g (k y)) → RightBy z r r n K v (uses x k)
  uses_right n K v x k p next =
      value_right z r 0 n There K v _ k (omega arith) (ends_right z r 0 There v (used x) (λ more g. used_there more x (there_more v more g x p))) next

  pub yielded_right : (v : View) (line : ℕ) (x : Value) → IsTrue r.yields → IsThere v x → RightBy z r r 0 There v (uses x (yields (source z) line))
  yielded_right v line x y p = uses_right 0 There v x _ p (λ u g w q. yields_right z r 0 line g u y q)

  carry_right : (n : ℕ) (v : View) (x : Value) → IsThere v x → RightBy z r r n Anything v (changes (with_carried x))
  carry_right n v x p =
      right_map z r r n n IsNone Anything v _ (omega arith) (λ g y w a. tt) (changes_right z r r n v (with_carried x) (λ more f g a. carried_frame r more f x (there_more v more g x p) a))

  pub next_right : (v : View) (line : ℕ) (iterator : Value) → IsThere v iterator → RightBy z r r 0 There v (next (source z) line iterator)
  next_right v line iterator p =
      there_right z r op.Next v _ (operate_right z r line op.Next (iterator ∷ []) v (λ w marks ok g. both _ _ (value_fits v iterator w marks g p) refl) (there_maybe v iterator p, tt) tt)

  pub iter_right : (v : View) (line : ℕ) (x : Value) → IsThere v x → RightBy z r r 0 There v (operate (source z) line op.Iter (x ∷ []))
  iter_right v line x p =
      there_right z r op.Iter v _ (operate_right z r line op.Iter (x ∷ []) v (λ w marks ok g. both _ _ (value_fits v x w marks g p) refl) (there_maybe v x p, tt) tt)

  attribute_right : (v : View) (line : ℕ) (x : Value) (name : List ℕ) → IsThere v x → RightBy z r r 0 There v (operate (source z) line op.Attr (x ∷ text name ∷ []))
  attribute_right v line x name p =
      there_right z r op.Attr v _ (operate_right z r line op.Attr (x ∷ text name ∷ []) v (λ w marks ok g. both _ _ (value_fits v x w marks g p) refl) (there_maybe v x p, ((tt, tt), tt)) tt)

  find_right : (v : View) (line : ℕ) (x : Value) (name : List ℕ) → IsThere v x → RightBy z r r 0 There v (operate (source z) line op.Find (x ∷ text name ∷ []))
  find_right v line x name p =
      there_right z r op.Find v _ (operate_right z r line op.Find (x ∷ text name ∷ []) v (λ w marks ok g. both _ _ (value_fits v x w marks g p) refl) (there_maybe v x p, ((tt, tt), tt)) tt)

  -- a call of one value, and of none
  pub call_one : (v : View) (line : ℕ) (f x : Value) → IsThere v f → IsThere v x → RightBy z r r 0 There v (operate (source z) line op.Call (f ∷ x ∷ []))
  call_one v line f x p q =
      there_right z r op.Call v _ (operate_right z r line op.Call (f ∷ x ∷ []) v (λ w marks ok g. both _ _ (value_fits v f w marks g p) (both _ _ (value_fits v x w marks g q) refl)) (there_maybe v f p, (there_maybe v x q, tt)) tt)

  pub call_none : (v : View) (line : ℕ) (f : Value) → IsThere v f → RightBy z r r 0 There v (operate (source z) line op.Call (f ∷ []))
  call_none v line f p =
      there_right z r op.Call v _ (operate_right z r line op.Call (f ∷ []) v (λ w marks ok g. both _ _ (value_fits v f w marks g p) refl) (there_maybe v f p, tt) tt)

  -- the inner iterator goes on
  resumes_right : (v : View) (line : ℕ) (row : Rw) → RightBy z r r 0 There v row → RightBy z r r 1 Anything v (resumes (source z) line row)
  resumes_right v line row x =
      unless_right z r 0 1 There Anything v line row passes_on delegated (omega arith) x
      (λ y g w a. carry_right 1 g y a)
      (λ e g w a. value_right z r 1 1 Anything Anything g _ _ (omega arith) (carry_right 1 g (value.Obj e) (thrown_there g e a)) (λ u g' w' b. pass_right z r 1 g' (Leave 0) (omega arith)))

  told_right : (v : View) (line : ℕ) (x : Value) (row other : Rw) → IsThere v x → ((g : View) → Grows v g → RightBy z r r 1 Anything g row) → ((g : View) → Grows v g → RightBy z r r 1 Anything g other) → RightBy z r r 1 Anything v (told (source z) line x row other)
  told_right v line x row other p a b =
      value_right z r 0 1 (λ g t. IsTruth t) Anything v _ _ (omega arith)
      (right_map z r r 0 0 (OpGives op.Is) (λ g t. IsTruth t) v _ (omega arith) (λ g t w y. y.truth tt)
      (operate_right z r line op.Is (x ∷ value.None ∷ []) v (λ w marks ok g. both _ _ (value_fits v x w marks g p) refl) (there_maybe v x p, ((tt, tt), tt)) tt))
      (λ t g w y. choose_right z r r 1 Anything g t _ _ y (a g w) (b g w))

  sent_right : (v : View) (line : ℕ) (iterator x : Value) → IsThere v iterator → IsThere v x → RightBy z r r 1 Anything v (sends (source z) line iterator x)
  sent_right v line iterator x p q =
      told_right v line x _ _ q
      (λ g w. resumes_right g line _ (next_right g line iterator (there_more v g w iterator p)))
      (λ g w. value_right z r 0 1 There Anything g _ _ (omega arith) (attribute_right g line iterator (codes "send") (there_more v g w iterator p)) (λ f g' w' a. resumes_right g' line _ (call_one g' line f x a (there_more g g' w' x (there_more v g w x q)))))

  closed_right : (v : View) (line x : ℕ) (close : Value) → IsThrown v x → IsThere v close → RightBy z r r 1 Anything v (closes_inner (source z) line x close)
  closed_right v line x close a p =
      told_right v line close _ _ p
      (λ g w. again_right z r 1 Anything g x (thrown_more v g w x a))
      (λ g w. value_right z r 0 1 There Anything g _ _ (omega arith) (call_none g line close (there_more v g w close p)) (λ u g' w' q. again_right z r 1 Anything g' x (thrown_more g g' w' x (thrown_more v g w x a))))

  threw_right : (v : View) (line x : ℕ) (throw : Value) → IsThrown v x → IsThere v throw → RightBy z r r 1 Anything v (throws (source z) line x throw)
  threw_right v line x throw a p =
      told_right v line throw _ _ p
      (λ g w. again_right z r 1 Anything g x (thrown_more v g w x a))
      (λ g w. resumes_right g line _ (call_one g line throw (value.Obj x) (there_more v g w throw p) (thrown_there g x (thrown_more v g w x a))))

  thrown_right : (v : View) (line : ℕ) (iterator : Value) (x : ℕ) → IsThere v iterator → IsThrown v x → RightBy z r r 1 Anything v (thrown (source z) line iterator x)
  thrown_right v line iterator x p a =
      value_right z r 0 1 (λ g b. IsTruth b) Anything v _ _ (omega arith) (one_of_right z r v line (codes "GeneratorExit") x generator_exit a)
      (λ b g w t.
      let q : IsThere g iterator = there_more v g w iterator p in
      let e : IsThrown g x = thrown_more v g w x a in
      choose_right z r r 1 Anything g b _ _ t
      (value_right z r 0 1 There Anything g _ _ (omega arith) (find_right g line iterator (codes "close") q) (λ f g' w' c. closed_right g' line x f (thrown_more g g' w' x e) c))
      (value_right z r 0 1 There Anything g _ _ (omega arith) (find_right g line iterator (codes "throw") q) (λ f g' w' c. threw_right g' line x f (thrown_more g g' w' x e) c)))

  woken_right : (v : View) (line : ℕ) (iterator : Value) (e : End) → IsThere v iterator → EndIs 0 There v e → RightBy z r r 1 Anything v (woken (source z) line iterator e)
  woken_right v line iterator (Next x) p y = sent_right v line iterator x p y
  woken_right v line iterator (Raised x) p y = thrown_right v line iterator x p y
  woken_right v line iterator (Leave i) p y = absurd (omega (arith, y))
  woken_right v line iterator (Return x) p y = pass_right z r 1 v (Return x) y
  woken_right v line iterator (Stopped kind) p y = pass_right z r 1 v (Stopped kind) tt
  woken_right v line iterator Undefined p y = absurd y

  carried_right : (v : View) → RightBy z r r 0 There v (reads (λ f. f.carried))
  carried_right v = reads_right z r 0 There v _ (λ more f g a. a.carried)

  turn_right : (v : View) (line : ℕ) (iterator : Value) → IsTrue r.yields → IsThere v iterator → RightBy z r r 1 Anything v (delegate_turn (source z) line iterator)
  turn_right v line iterator y p =
      value_right z r 0 1 There Anything v _ _ (omega arith) (carried_right v)
      (λ x g w a. uses_right 1 Anything g x _ a
      (λ u g₂ w₂ b. then_right z r r 0 1 There Anything g₂ _ _ (yields_right z r 0 line g₂ u y b)
      (λ e g₃ w₃ c. woken_right g₃ line iterator e (there_more v g₃ (grows_trans v g g₃ w (grows_trans g g₂ g₃ w₂ w₃)) iterator p) c)))

  delegates_right : (v : View) (line : ℕ) (iterator : Value) → IsTrue r.yields → IsThere v iterator → RightBy z r r 0 Anything v (delegate_loop (source z) line iterator)
  delegates_right v line iterator y p =
      loop_right z r 0 Anything Anything v (DelegateTurn line iterator) (delegate_turn (source z) line iterator) refl (λ g. tt) (turn_right v line iterator y p)

  pub delegate_right : (v : View) (line : ℕ) (over : Value) → IsTrue r.yields → IsThere v over → RightBy z r r 0 There v (delegate (source z) line over)
  delegate_right v line over y p =
      value_right z r 0 0 There There v _ _ (omega arith) (iter_right v line over p)
      (λ iterator g w a. unless_right z r 0 0 There There g line _ _ _ (omega arith) (next_right g line iterator a)
      (λ x g₂ w₂ b. value_right z r 0 0 Anything There g₂ _ _ (omega arith) (carry_right 0 g₂ x b)
      (λ u g₃ w₃ c. value_right z r 0 0 Anything There g₃ _ _ (omega arith) (delegates_right g₃ line iterator y (there_more g g₃ (grows_trans g g₂ g₃ w₂ w₃) iterator a))
      (λ t g₄ w₄ d. value_right z r 0 0 There There g₄ _ _ (omega arith) (carried_right g₄) (λ s g₅ w₅ e. attribute_right g₅ line s (codes "value") e))))
      (λ x g₂ w₂ b. attribute_right g₂ line (value.Obj x) (codes "value") (thrown_there g₂ x b)))
