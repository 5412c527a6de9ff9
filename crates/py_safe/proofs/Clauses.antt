-- What stands around blocks goes right: `return`, the turns of loops and what follows them, clauses that always run, and managers.
use Rattle.std.proofs.Common.{ℕ, zero, suc, List, [], ◌∷◌, refl, arith}
use Rattle.std.specs.Prelude.{codes}
use Rattle.nu_value.specs.declared.value.Value.{Value}
use Rattle.nu_value.specs.declared.value.Value.TheVariants as value
use Rattle.op_forms.specs.declared.op.Op.TheVariants as op
use Rattle.nu_rows.specs.Rows.{End, Next, Leave, Raised, Return, Stopped, Undefined, Then}
use Rattle.nu_rows.specs.Words.{ends_with, then_value}
use Rattle.nu_calls.specs.Calls.{operate}
use Rattle.py_meaning.specs.Frames.{R as Rw, text}
use Rattle.py_meaning.specs.Statements.{returns, body_ended, exhausted, else_behind, with_else, ends_again, pending, finishing, leaves_by, leaving, with_manager}
use Rattle.py_safe.specs.Heaps.{View, Grows, IsThere, AllThere, IsThrown}
use Rattle.py_safe.specs.Rules.{IsTruth}
use Rattle.py_safe.specs.Constructs.{Room}
use Rattle.py_safe.proofs.Right.{Program, source, EndIs, Anything, RightBy}
use Rattle.py_safe.proofs.Growth.{grows_refl, grows_trans, there_more, thrown_more}
use Rattle.py_safe.proofs.Rows.{then_right, value_right, choose_right}
use Rattle.py_safe.proofs.Operations.{operate_right}
use Rattle.py_safe.proofs.Names.{There, anything, there_right, there_maybe, both, value_fits}
use Rattle.py_safe.proofs.Passing.{stays, done_right, pass_right}
use Rattle.py_safe.proofs.Exceptions.{all_maybe, exception_fits, thrown_there, again_right}
use Rattle.py_safe.proofs.Functions.{values_fit}
use Rattle.py_safe.proofs.Expressions.{truth_right}

module _ (z : Program) (r : Room) where
  pub returns_right : (n : ℕ) (v : View) (x : Value) → IsThere v x → RightBy z r r n Anything v (returns x)
  returns_right n v x p = pass_right z r n v (Return x) p

  -- Loops

  body_right : (g : View) (e : End) → EndIs 2 Anything g e → RightBy z r r 2 Anything g (body_ended e)
  body_right g (Next x) y = done_right z r 2 g
  body_right g (Leave zero) y = done_right z r 2 g
  body_right g (Leave (suc zero)) y = pass_right z r 2 g (Leave 0) (omega arith)
  body_right g (Leave (suc (suc i))) y = absurd (omega (arith, y))
  body_right g (Raised x) y = pass_right z r 2 g (Raised x) y
  body_right g (Return x) y = pass_right z r 2 g (Return x) y
  body_right g (Stopped kind) y = pass_right z r 2 g (Stopped kind) y
  body_right g Undefined y = absurd y

  pub turn_body_right : (v : View) (body : Rw) → RightBy z r r 2 Anything v body → RightBy z r r 2 Anything v (Then body body_ended)
  turn_body_right v body x = then_right z r r 2 2 Anything Anything v body body_ended x (λ e g w y. body_right g e y)

  pub exhausted_right : (v : View) → RightBy z r r 2 Anything v exhausted
  exhausted_right v = pass_right z r 2 v (Leave 1) (omega arith)

  else_right : (n : ℕ) (g : View) (other : Rw) (e : End) → RightBy z r r n Anything g other → EndIs 1 Anything g e → RightBy z r r n Anything g (else_behind other e)
  else_right n g other (Next x) o y = pass_right z r n g (Next x) tt
  else_right n g other (Leave zero) o y = o
  else_right n g other (Leave (suc i)) o y = absurd (omega (arith, y))
  else_right n g other (Raised e) o y = pass_right z r n g (Raised e) y
  else_right n g other (Return x) o y = pass_right z r n g (Return x) y
  else_right n g other (Stopped kind) o y = pass_right z r n g (Stopped kind) tt
  else_right n g other Undefined o y = absurd y

  pub with_else_right : (n : ℕ) (v : View) (loop other : Rw) → RightBy z r r 1 Anything v loop → ((g : View) → Grows v g → RightBy z r r n Anything g other) → RightBy z r r n Anything v (with_else loop other)
  with_else_right n v loop other x y = then_right z r r 1 n Anything Anything v loop (else_behind other) x (λ e g w k. else_right n g other e (y g w) k)

  -- Clauses that run whatever the end

  went_on : (n : ℕ) (g : View) (e : End) → EndIs n Anything g e → RightBy z r r n Anything g (ends_again e)
  went_on n g (Raised x) y = again_right z r n Anything g x y
  went_on n g (Next x) y = pass_right z r n g (Next x) y
  went_on n g (Leave i) y = pass_right z r n g (Leave i) y
  went_on n g (Return x) y = pass_right z r n g (Return x) y
  went_on n g (Stopped kind) y = pass_right z r n g (Stopped kind) y
  went_on n g Undefined y = absurd y

  pending_right : (n : ℕ) (g : View) (e d : End) → EndIs n Anything g e → EndIs n Anything g d → RightBy z r r n Anything g (pending e d)
  pending_right n g e (Next x) y k = went_on n g e y
  pending_right n g e (Leave i) y k = pass_right z r n g (Leave i) k
  pending_right n g e (Raised i) y k = pass_right z r n g (Raised i) k
  pending_right n g e (Return x) y k = pass_right z r n g (Return x) k
  pending_right n g e (Stopped kind) y k = pass_right z r n g (Stopped kind) k
  pending_right n g e Undefined y k = absurd k

  last_right : (n : ℕ) (g : View) (last : Rw) (e : End) → ((more : View) → Grows g more → RightBy z r r n Anything more last) → EndIs n Anything g e → RightBy z r r n Anything g (Then last (pending e))
  last_right n g last e x y =
      then_right z r r n n Anything Anything g last (pending e) (x g (grows_refl g)) (λ d g' w k. pending_right n g' e d (stays n g g' e w y) k)

  pub finishing_right : (n : ℕ) (g : View) (last : Rw) (e : End) → ((more : View) → Grows g more → RightBy z r r n Anything more last) → EndIs n Anything g e → RightBy z r r n Anything g (finishing last e)
  finishing_right n g last (Stopped kind) x y = pass_right z r n g (Stopped kind) tt
  finishing_right n g last Undefined x y = absurd y
  finishing_right n g last (Next u) x y = last_right n g last (Next u) x y
  finishing_right n g last (Leave i) x y = last_right n g last (Leave i) x y
  finishing_right n g last (Raised i) x y = last_right n g last (Raised i) x y
  finishing_right n g last (Return u) x y = last_right n g last (Return u) x y

  -- Managers

  called_right : (v : View) (line : ℕ) (f : Value) (xs : List Value) → IsThere v f → AllThere v xs → RightBy z r r 0 There v (operate (source z) line op.Call (f ∷ xs))
  called_right v line f xs p a =
      there_right z r op.Call v _ (operate_right z r line op.Call (f ∷ xs) v (λ w marks ok g. both _ _ (value_fits v f w marks g p) (values_fit v xs w marks g a)) (there_maybe v f p, all_maybe v xs a) tt)

  leaves_by_right : (v : View) (line : ℕ) (leave : Value) (x : ℕ) → IsThere v leave → IsThrown v x → RightBy z r r 0 Anything v (leaves_by (source z) line leave x)
  leaves_by_right v line leave x p a =
      let i : IsThere v (value.Obj x) = thrown_there v x a in
      value_right z r 0 0 There Anything v _ _ (omega arith)
      (there_right z r op.ClassOf v _ (operate_right z r line op.ClassOf (value.Obj x ∷ []) v (λ w marks ok f. both _ _ (value_fits v (value.Obj x) w marks f i) refl) (i, tt) tt))
      (λ class g w c.
      let a₁ : IsThrown g x = thrown_more v g w x a in
      value_right z r 0 0 There Anything g _ _ (omega arith)
      (there_right z r op.Trace g _ (operate_right z r line op.Trace (value.Obj x ∷ []) g (λ u marks ok f. both _ _ (exception_fits g x u marks f a₁) refl) (thrown_there g x a₁, tt) tt))
      (λ trace g₂ w₂ t.
      let a₂ : IsThrown g₂ x = thrown_more g g₂ w₂ x a₁ in
      value_right z r 0 0 There Anything g₂ _ _ (omega arith)
      (called_right g₂ line leave (class ∷ value.Obj x ∷ trace ∷ []) (there_more v g₂ (grows_trans v g g₂ w w₂) leave p) (there_more g g₂ w₂ class c, (thrown_there g₂ x a₂, (t, tt))))
      (λ u g₃ w₃ q. value_right z r 0 0 (λ g b. IsTruth b) Anything g₃ _ _ (omega arith) (truth_right z r g₃ line u q)
      (λ b g₄ w₄ k. choose_right z r r 0 Anything g₄ b _ _ k (done_right z r 0 g₄) (again_right z r 0 Anything g₄ x (thrown_more g₂ g₄ (grows_trans g₂ g₃ g₄ w₃ w₄) x a₂))))))

  left_right : (n : ℕ) (g : View) (line : ℕ) (leave : Value) (e : End) → IsThere g leave → EndIs n Anything g e → RightBy z r r n Anything g (then_value (operate (source z) line op.Call (leave ∷ value.None ∷ value.None ∷ value.None ∷ [])) (λ v. ends_with e))
  left_right n g line leave e p y =
      value_right z r 0 n There Anything g _ _ (omega arith) (called_right g line leave (value.None ∷ value.None ∷ value.None ∷ []) p ((tt, tt), ((tt, tt), ((tt, tt), tt))))
      (λ u g' w i. pass_right z r n g' e (stays n g g' e w y))

  leaving_right : (n : ℕ) (g : View) (line : ℕ) (leave : Value) (e : End) → IsThere g leave → EndIs n Anything g e → RightBy z r r n Anything g (leaving (source z) line leave e)
  leaving_right n g line leave (Raised x) p y = anything z r n Anything g _ (leaves_by_right g line leave x p y)
  leaving_right n g line leave (Stopped kind) p y = pass_right z r n g (Stopped kind) tt
  leaving_right n g line leave Undefined p y = absurd y
  leaving_right n g line leave (Next x) p y = left_right n g line leave (Next x) p y
  leaving_right n g line leave (Leave i) p y = left_right n g line leave (Leave i) p y
  leaving_right n g line leave (Return x) p y = left_right n g line leave (Return x) p y

  manager_right : (v : View) (line : ℕ) (manager : Value) (name : List ℕ) → IsThere v manager → RightBy z r r 0 There v (operate (source z) line op.Manager (manager ∷ text name ∷ []))
  manager_right v line manager name p =
      there_right z r op.Manager v _ (operate_right z r line op.Manager (manager ∷ text name ∷ []) v (λ w marks ok f. both _ _ (value_fits v manager w marks f p) refl) (there_maybe v manager p, ((tt, tt), tt)) tt)

  pub with_right : (n : ℕ) (v : View) (line : ℕ) (manager : Value) (inside : Value → Rw) → IsThere v manager → ((x : Value) (g : View) → Grows v g → IsThere g x → RightBy z r r n Anything g (inside x)) → RightBy z r r n Anything v (with_manager (source z) line manager inside)
  with_right n v line manager inside p x =
      value_right z r 0 n There Anything v _ _ (omega arith) (manager_right v line manager (codes "__enter__") p)
      (λ enter g w a. value_right z r 0 n There Anything g _ _ (omega arith) (manager_right g line manager (codes "__exit__") (there_more v g w manager p))
      (λ leave g₂ w₂ b. value_right z r 0 n There Anything g₂ _ _ (omega arith) (called_right g₂ line enter [] (there_more g g₂ w₂ enter a) tt)
      (λ u g₃ w₃ c. then_right z r r n n Anything Anything g₃ (inside u) _ (x u g₃ (grows_trans v g g₃ w (grows_trans g g₂ g₃ w₂ w₃)) c) (λ e g₄ w₄ y. leaving_right n g₄ line leave e (there_more g₂ g₄ (grows_trans g₂ g₃ g₄ w₃ w₄) leave b) y))))
