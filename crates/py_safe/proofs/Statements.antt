-- Lawful statements go right, and leave no more loops than stand around them.
use Rattle.std.proofs.Common.{ℕ, [], Option, Bool, true, false, refl, arith, Some, None}
use Rattle.std.specs.Prelude.{IsTrue}
use Rattle.nu_value.specs.declared.value.Value.TheVariants as value
use Rattle.op_forms.specs.declared.signature.ArgumentKind.TheVariants as kind
use Rattle.nu_rows.specs.Rows.{End, Next, Leave, Raised, Return, Stopped, Undefined}
use Rattle.nu_rows.specs.Words.{then_value, choose}
use Rattle.py_meaning.specs.Syntax as syntax
use Rattle.py_meaning.specs.Frames.{WhileTurn, ForTurn, R as Rw}
use Rattle.py_meaning.specs.Expressions.{truth, expression, each}
use Rattle.py_meaning.specs.Statements.{while_turn, for_turn, tries, caught, fails, handler, statement, block, reraise}
use Rattle.py_safe.specs.Heaps.{View, Grows, IsThrown}
use Rattle.py_safe.specs.Rules.{IsTruth}
use Rattle.py_safe.specs.Constructs.{Room, LawfulExpression, LawfulTarget, LawfulStatement, LawfulBlock, LawfulCaught, LawfulOperands, LawfulHandlers}
use Rattle.py_safe.proofs.Right.{Program, source, roster, EndIs, Anything, RightBy}
use Rattle.py_safe.proofs.Growth.{grows_refl, grows_trans, thrown_more}
use Rattle.py_safe.proofs.Rows.{then_right, value_right, loop_right, choose_right, clause_right}
use Rattle.py_safe.proofs.Names.{There, anything, store_right, unbind_right}
use Rattle.py_safe.proofs.Passing.{Handled, keeps, clause, done_right, pass_right}
use Rattle.py_safe.proofs.Exceptions.{thrown_there, again_right, match_right, unless_right, raise_right, fails_right}
use Rattle.py_safe.proofs.Delegates.{iter_right, next_right}
use Rattle.py_safe.proofs.Expressions.{truth_right, expression_right, each_right}
use Rattle.py_safe.proofs.Targets.{assign_right, assign_all_right, augment_right, delete_right}
use Rattle.py_safe.proofs.Definitions.{decorators_right, decorated_right, class_made_right, all_decorate_more}
use Rattle.py_safe.proofs.Clauses.{returns_right, turn_body_right, exhausted_right, with_else_right, finishing_right, with_right}

-- so many loops may be left
abbrev pub leaves : Bool → ℕ
leaves true = 2
leaves false = 0

module _ (z : Program) (r : Room) where
  pub tested_right : (n : ℕ) (v : View) (line : ℕ) (test : syntax.Expression) (row other : Rw) → LawfulExpression (roster z) r test → ((g : View) → Grows v g → RightBy z r r n Anything g row) → ((g : View) → Grows v g → RightBy z r r n Anything g other) → RightBy z r r n Anything v (then_value (expression (source z) test) (λ x. then_value (truth (source z) line x) (λ b. choose b row other)))
  tested_right n v line test row other p x y =
      value_right z r 0 n There Anything v _ _ (omega arith) (expression_right z r test p v)
      (λ u g w i. value_right z r 0 n (λ g b. IsTruth b) Anything g _ _ (omega arith) (truth_right z r g line u i)
      (λ b g' w' t. let up = grows_trans v g g' w w' in choose_right z r r n Anything g' b row other t (x g' up) (y g' up)))

  while_right : (n : ℕ) (v : View) (line : ℕ) (test : syntax.Expression) (body other : syntax.Block) (handled : Option ℕ) → LawfulExpression (roster z) r test → ((g : View) → Grows v g → RightBy z r r 2 Anything g (block (source z) handled body)) → ((g : View) → Grows v g → RightBy z r r n Anything g (block (source z) handled other)) → RightBy z r r n Anything v (statement (source z) handled (syntax.While line test body other))
  while_right n v line test body other handled p x y =
      with_else_right z r n v _ _
      (loop_right z r 1 Anything Anything v (WhileTurn line test body handled) (while_turn (source z) line (expression (source z) test) (block (source z) handled body)) refl (λ g. tt)
      (tested_right 2 v line test _ _ p (λ g w. turn_body_right z r g _ (x g w)) (λ g w. exhausted_right z r g))) y

  for_right : (n : ℕ) (v : View) (line : ℕ) (target : syntax.Target) (over : syntax.Expression) (body other : syntax.Block) (handled : Option ℕ) → LawfulTarget (roster z) r target → LawfulExpression (roster z) r over → ((g : View) → Grows v g → RightBy z r r 2 Anything g (block (source z) handled body)) → ((g : View) → Grows v g → RightBy z r r n Anything g (block (source z) handled other)) → RightBy z r r n Anything v (statement (source z) handled (syntax.For line target over body other))
  for_right n v line target over body other handled t p x y =
      value_right z r 0 n There Anything v _ _ (omega arith) (expression_right z r over p v)
      (λ u g w i. value_right z r 0 n There Anything g _ _ (omega arith) (iter_right z r g line u i)
      (λ iterator g₁ w₁ a. with_else_right z r n g₁ _ _
      (loop_right z r 1 Anything Anything g₁ (ForTurn line iterator target body handled) (for_turn (source z) line iterator target (block (source z) handled body)) refl (λ g. tt)
      (unless_right z r 0 2 There Anything g₁ line _ _ _ (omega arith) (next_right z r g₁ line iterator a)
      (λ s g₂ w₂ b. turn_body_right z r g₂ _ (value_right z r 0 2 Anything Anything g₂ _ _ (omega arith) (assign_right z r target t g₂ s b) (λ q g₃ w₃ c. x g₃ (grows_trans v g g₃ w (grows_trans g g₁ g₃ w₁ (grows_trans g₁ g₂ g₃ w₂ w₃))))))
      (λ e g₂ w₂ b. exhausted_right z r g₂)))
      (λ g₂ w₂. y g₂ (grows_trans v g g₂ w (grows_trans g g₁ g₂ w₁ w₂)))))

  -- Exceptions that are caught

  pub caught_right : (n : ℕ) (v : View) (x : ℕ) (name : Option syntax.Caught) (body : Rw) → LawfulCaught (roster z) r name → IsThrown v x → ((g : View) → Grows v g → RightBy z r r n Anything g body) → RightBy z r r n Anything v (caught (source z) x name body)
  caught_right n v x None body p a f = f v (grows_refl v)
  caught_right n v x (Some name) body p a f =
      value_right z r 0 n Anything Anything v _ _ (omega arith) (store_right z r v name.line name.home (value.Obj x) p.0 (thrown_there v x a))
      (λ w g g₁ y. then_right z r r n n Anything Anything g body _ (f g g₁)
      (λ e g' w' k. finishing_right z r n g' _ e (λ g₂ w₂. anything z r n Anything g₂ _
      (value_right z r 0 0 Anything Anything g₂ _ _ (omega arith) (store_right z r g₂ name.line name.home value.None p.0 (tt, tt)) (λ u g₃ w₃ y. unbind_right z r g₃ name.line name.home p.0 p.1))) k))

  tries_right : (n : ℕ) (g : View) (other : Rw) (handlers : ℕ → Rw) (e : End) → RightBy z r r n Anything g other → ((x : ℕ) → IsThrown g x → RightBy z r r n Anything g (handlers x)) → EndIs n Anything g e → RightBy z r r n Anything g (tries other handlers e)
  tries_right n g other handlers (Next x) o f y = o
  tries_right n g other handlers (Raised i) o f y = f i y
  tries_right n g other handlers (Leave i) o f y = pass_right z r n g (Leave i) y
  tries_right n g other handlers (Return x) o f y = pass_right z r n g (Return x) y
  tries_right n g other handlers (Stopped kind) o f y = pass_right z r n g (Stopped kind) y
  tries_right n g other handlers Undefined o f y = absurd y

  -- texts that are asserted
  texts_right : (n : ℕ) (v : View) (line : ℕ) (texts : syntax.Expressions) → LawfulOperands (roster z) r [] (Some kind.Value) texts → RightBy z r r n Anything v (each (source z) texts (fails (source z) line))
  texts_right n v line texts p =
      each_right z r texts [] (Some kind.Value) p v n Anything (fails (source z) line) (λ xs g w a f. anything z r n Anything g _ (fails_right z r g line xs a f))

  pub reraised_right : (n : ℕ) (v : View) (b : Bool) (handled : Option ℕ) → IsTrue b → Handled b handled v → RightBy z r r n Anything v (reraise handled)
  reraised_right n v true (Some x) t k = again_right z r n Anything v x k
  reraised_right n v true None t k = absurd k
  reraised_right n v false handled t k = absurd (cc)

module _ (z : Program) where
  mutual
    pub statement_right : (s : syntax.Statement) (r : Room) (loop : Bool) → LawfulStatement (roster z) r loop s → (handled : Option ℕ) (v : View) → Handled r.handler handled v → RightBy z r r (leaves loop) Anything v (statement (source z) handled s)
    statement_right (syntax.Evaluate x) r loop p handled v k =
        value_right z r 0 (leaves loop) There Anything v _ _ (omega arith) (expression_right z r x p v) (λ u g w y. done_right z r (leaves loop) g)
    statement_right (syntax.Assign targets x) r loop p handled v k =
        value_right z r 0 (leaves loop) There Anything v _ _ (omega arith) (expression_right z r x p.1 v)
        (λ u g w y. anything z r (leaves loop) Anything g _ (assign_all_right z r targets p.0 g u y))
    statement_right (syntax.Augment line o target x) r loop p handled v k = anything z r (leaves loop) Anything v _ (augment_right z r line o target x p.0 p.1 p.2 p.3 v)
    statement_right (syntax.Delete target) r loop p handled v k = anything z r (leaves loop) Anything v _ (delete_right z r target p v)
    statement_right syntax.Pass r loop p handled v k = done_right z r (leaves loop) v
    statement_right syntax.Break r true p handled v k = pass_right z r 2 v (Leave 1) (omega arith)
    statement_right syntax.Break r false p handled v k = absurd (cc)
    statement_right syntax.Continue r true p handled v k = pass_right z r 2 v (Leave 0) (omega arith)
    statement_right syntax.Continue r false p handled v k = absurd (cc)
    statement_right (syntax.Return x) r loop p handled v k =
        value_right z r 0 (leaves loop) There Anything v _ _ (omega arith) (expression_right z r x p v) (λ u g w y. returns_right z r (leaves loop) g u y)
    statement_right (syntax.Raise line x) r loop p handled v k =
        value_right z r 0 (leaves loop) There Anything v _ _ (omega arith) (expression_right z r x p v) (λ u g w i. anything z r (leaves loop) Anything g _ (raise_right z r g line u i))
    statement_right syntax.Reraise r loop p handled v k = reraised_right z r (leaves loop) v r.handler handled p k
    statement_right (syntax.Assert line test texts) r loop p handled v k =
        tested_right z r (leaves loop) v line test _ _ p.0 (λ g w. done_right z r (leaves loop) g) (λ g w. texts_right z r (leaves loop) g line texts p.1)
    statement_right (syntax.If line test body other) r loop p handled v k =
        tested_right z r (leaves loop) v line test _ _ p.0 (λ g w. block_right body r loop p.1 handled g (keeps r handled v g w k)) (λ g w. block_right other r loop p.2 handled g (keeps r handled v g w k))
    statement_right (syntax.While line test body other) r loop p handled v k =
        while_right z r (leaves loop) v line test body other handled p.0 (λ g w. block_right body r true p.1 handled g (keeps r handled v g w k)) (λ g w. block_right other r loop p.2 handled g (keeps r handled v g w k))
    statement_right (syntax.For line target over body other) r loop p handled v k =
        for_right z r (leaves loop) v line target over body other handled p.0 p.1 (λ g w. block_right body r true p.2 handled g (keeps r handled v g w k)) (λ g w. block_right other r loop p.3 handled g (keeps r handled v g w k))
    statement_right (syntax.Try body handlers other) r loop p handled v k =
        then_right z r r (leaves loop) (leaves loop) Anything Anything v _ _ (block_right body r loop p.0 handled v k)
        (λ e g w y. tries_right z r (leaves loop) g _ _ e (block_right other r loop p.2 handled g (keeps r handled v g w k)) (λ x a. handlers_right handlers r loop p.1 handled x g (keeps r handled v g w k) a) y)
    statement_right (syntax.Finally body last) r loop p handled v k =
        then_right z r r (leaves loop) (leaves loop) Anything Anything v _ _ (block_right body r loop p.0 handled v k)
        (λ e g w y. finishing_right z r (leaves loop) g _ e (λ g' w'. clause_right z r false (leaves loop) Anything g' _ (block_right last (clause false r) loop p.1 None g' tt)) y)
    statement_right (syntax.With line manager targets body) r loop p handled v k =
        value_right z r 0 (leaves loop) There Anything v _ _ (omega arith) (expression_right z r manager p.0 v)
        (λ m g w a. with_right z r (leaves loop) g line m _ a
        (λ u g' w' i. value_right z r 0 (leaves loop) Anything Anything g' _ _ (omega arith) (assign_all_right z r targets p.1 g' u i)
        (λ t g₂ w₂ y. block_right body r loop p.2 handled g₂ (keeps r handled v g₂ (grows_trans v g g₂ w (grows_trans g g' g₂ w' w₂)) k))))
    statement_right (syntax.Define line ds function home) r loop p handled v k =
        decorators_right z r (leaves loop) Anything ds p.0 v _
        (λ xs g w a. value_right z r 0 (leaves loop) There Anything g _ _ (omega arith) (expression_right z r function p.1 g)
        (λ f g' w' i. decorated_right z r (leaves loop) Anything xs g' f _ (all_decorate_more g g' w' xs a) i
        (λ y g₂ w₂ q. anything z r (leaves loop) Anything g₂ _ (store_right z r g₂ line home y p.2 q))))
    statement_right (syntax.Class line ds name base code cells home) r loop p handled v k =
        decorators_right z r (leaves loop) Anything ds p.0 v _
        (λ xs g w a. value_right z r 0 (leaves loop) There Anything g _ _ (omega arith) (expression_right z r base p.1 g)
        (λ b g₁ w₁ i. value_right z r 0 (leaves loop) There Anything g₁ _ _ (omega arith) (class_made_right z r g₁ line name code cells b p.2 i)
        (λ c g₂ w₂ j. decorated_right z r (leaves loop) Anything xs g₂ c _ (all_decorate_more g g₂ (grows_trans g g₁ g₂ w₁ w₂) xs a) j
        (λ y g₃ w₃ q. anything z r (leaves loop) Anything g₃ _ (store_right z r g₃ line home y p.3 q)))))

    pub block_right : (b : syntax.Block) (r : Room) (loop : Bool) → LawfulBlock (roster z) r loop b → (handled : Option ℕ) (v : View) → Handled r.handler handled v → RightBy z r r (leaves loop) Anything v (block (source z) handled b)
    block_right syntax.Done r loop p handled v k = done_right z r (leaves loop) v
    block_right (syntax.Then s rest) r loop p handled v k =
        value_right z r (leaves loop) (leaves loop) Anything Anything v _ _ (omega arith) (statement_right s r loop p.0 handled v k) (λ u g w y. block_right rest r loop p.1 handled g (keeps r handled v g w k))

    pub handlers_right : (hs : syntax.Handlers) (r : Room) (loop : Bool) → LawfulHandlers (roster z) r loop hs → (handled : Option ℕ) (x : ℕ) (v : View) → Handled r.handler handled v → IsThrown v x → RightBy z r r (leaves loop) Anything v (handler (source z) handled hs x)
    handlers_right syntax.NoHandler r loop p handled x v k a = again_right z r (leaves loop) Anything v x a
    handlers_right (syntax.Bare body) r loop p handled x v k a = clause_right z r true (leaves loop) Anything v _ (block_right body (clause true r) loop p (Some x) v a)
    handlers_right (syntax.Handler line class name body handlers) r loop p handled x v k a =
        value_right z r 0 (leaves loop) There Anything v _ _ (omega arith) (expression_right z r class p.0 v)
        (λ c g w i.
        let a₁ : IsThrown g x = thrown_more v g w x a in
        value_right z r 0 (leaves loop) (λ g b. IsTruth b) Anything g _ _ (omega arith) (match_right z r g line x c a₁ i)
        (λ b g' w' t.
        let a₂ : IsThrown g' x = thrown_more g g' w' x a₁ in
        choose_right z r r (leaves loop) Anything g' b _ _ t (caught_right z r (leaves loop) g' x name _ p.1 a₂ (λ g₂ w₂. clause_right z r true (leaves loop) Anything g₂ _ (block_right body (clause true r) loop p.2 (Some x) g₂ (thrown_more g' g₂ w₂ x a₂))))
        (handlers_right handlers r loop p.3 handled x g' (keeps r handled v g' (grows_trans v g g' w w') k) a₂)))
