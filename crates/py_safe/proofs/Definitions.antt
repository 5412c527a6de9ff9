-- Definitions go right: decorators, and classes, whose blocks run once with new names.
use Rattle.std.proofs.Common.{ℕ, List, [], ◌∷◌, refl, arith}
use Rattle.nu_value.specs.declared.value.Value.{Value}
use Rattle.op_forms.specs.declared.op.Op.TheVariants as op
use Rattle.nu_calls.specs.Calls.{operate}
use Rattle.py_meaning.specs.Syntax as syntax
use Rattle.py_meaning.specs.Frames.{R as Rw, text}
use Rattle.py_meaning.specs.Statements.{decorators, decorated, class_made}
use Rattle.py_safe.specs.Rosters.{OfClass}
use Rattle.py_safe.specs.Heaps.{Block, View, ASpace, Grows, IsThere}
use Rattle.py_safe.specs.Constructs.{Room, IsMade, LawfulDecorators}
use Rattle.py_safe.proofs.Right.{Program, source, roster, Kind, RightBy}
use Rattle.py_safe.proofs.Growth.{grows_refl, grows_trans, there_more}
use Rattle.py_safe.proofs.Rows.{right_map, value_right}
use Rattle.py_safe.proofs.Operations.{OpGives, operate_right}
use Rattle.py_safe.proofs.Handing.{IsMarked, block_right}
use Rattle.py_safe.proofs.Names.{There, AnObject, there_right, there_maybe, both, value_fits, space_fits}
use Rattle.py_safe.proofs.Collections.{an_object_more}
use Rattle.py_safe.proofs.Delegates.{call_one}
use Rattle.py_safe.proofs.Functions.{bare_function_right}
use Rattle.py_safe.proofs.Expressions.{expression_right}

-- decorators that are there, each with its line
abbrev pub AllDecorate : View → List (ℕ × Value) → Type 0
AllDecorate v [] = Unit {0}
AllDecorate v (d ∷ ds) = IsThere v d.1 × AllDecorate v ds

pub all_decorate_more : (v more : View) → Grows v more → (ds : List (ℕ × Value)) → AllDecorate v ds → AllDecorate more ds
all_decorate_more v more g [] a = tt
all_decorate_more v more g (d ∷ ds) a = (there_more v more g d.1 a.0, all_decorate_more v more g ds a.1)

module _ (z : Program) (r : Room) where
  pub decorators_right : (n : ℕ) (K : Kind) (ds : List syntax.Decorator) → LawfulDecorators (roster z) r ds → (v : View) (k : List (ℕ × Value) → Rw) → ((xs : List (ℕ × Value)) (g : View) → Grows v g → AllDecorate g xs → RightBy z r r n K g (k xs)) → RightBy z r r n K v (decorators (source z) ds k)
  decorators_right n K [] p v k next = next [] v (grows_refl v) tt
  decorators_right n K (d ∷ ds) p v k next =
      value_right z r 0 n There K v _ _ (omega arith) (expression_right z r d.is p.0 v)
      (λ x g w a. decorators_right n K ds p.1 g (λ xs. k ((d.line, x) ∷ xs))
      (λ xs g' w' b. next ((d.line, x) ∷ xs) g' (grows_trans v g g' w w') (there_more g g' w' x a, b)))

  -- the value decorated, and what follows that
  pub decorated_right : (n : ℕ) (K : Kind) (ds : List (ℕ × Value)) (v : View) (x : Value) (k : Value → Rw) → AllDecorate v ds → IsThere v x → ((y : Value) (g : View) → Grows v g → IsThere g y → RightBy z r r n K g (k y)) → RightBy z r r n K v (decorated (source z) ds x k)
  decorated_right n K [] v x k a p next = next x v (grows_refl v) p
  decorated_right n K (d ∷ ds) v x k a p next =
      decorated_right n K ds v x _ a.1 p
      (λ y g w q. value_right z r 0 n There K g _ k (omega arith) (call_one z r g d.0 d.1 y (there_more v g w d.1 a.0) q) (λ u g' w' b. next u g' (grows_trans v g g' w w') b))

  space_made : (v : View) (line : ℕ) → RightBy z r r 0 (AnObject ASpace) v (operate (source z) line op.Space [])
  space_made v line =
      right_map z r r 0 0 (OpGives op.Space) (AnObject ASpace) v _ (omega arith) (λ g x w y. (y.there, y.object)) (operate_right z r line op.Space [] v (λ w marks ok g. refl) tt tt)

  pub class_made_right : (v : View) (line : ℕ) (name : List ℕ) (code : ℕ) (cells : List syntax.CellPlace) (base : Value) → IsMade (roster z) r code OfClass cells → IsThere v base → RightBy z r r 0 There v (class_made (source z) line name code cells base)
  class_made_right v line name code cells base made p =
      value_right z r 0 0 (AnObject ASpace) There v _ _ (omega arith) (space_made v line)
      (λ names g w a. value_right z r 0 0 (IsMarked Block) There g _ _ (omega arith) (bare_function_right z r g line code OfClass Block cells tt made)
      (λ body g₂ w₂ m.
      let b : AnObject ASpace g₂ names = an_object_more ASpace tt g g₂ w₂ names a in
      value_right z r 0 0 There There g₂ _ _ (omega arith) (block_right z r line body names g₂ m b.0 b.1)
      (λ u g₃ w₃ q.
      let c : AnObject ASpace g₃ names = an_object_more ASpace tt g₂ g₃ w₃ names b in
      let i : IsThere g₃ base = there_more v g₃ (grows_trans v g g₃ w (grows_trans g g₂ g₃ w₂ w₃)) base p in
      there_right z r op.Class g₃ _ (operate_right z r line op.Class (text name ∷ base ∷ names ∷ []) g₃
      (λ w marks ok f. both _ _ (value_fits g₃ base w marks f i) (both _ _ (space_fits g₃ names w marks f c.1) refl)) ((tt, tt), (there_maybe g₃ base i, (there_maybe g₃ names c.0, tt))) tt))))
