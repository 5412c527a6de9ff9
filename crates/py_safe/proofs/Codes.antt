-- The bodies of lawful codes go right: first each makes the cells of its frame, and then it does what it says.
use Rattle.std.proofs.Common.{◌≡◌, ℕ, suc, ◌≤◌, ◌+◌, ◌++◌, List, [], ◌∷◌, Option, Some, None, false, refl, sym, subst, arith, length, length-append}
use Rattle.std.specs.Prelude.{slice_get}
use Rattle.nu_value.specs.declared.object.Object.{Object}
use Rattle.nu_value.specs.declared.value.Value.{Value}
use Rattle.nu_value.specs.declared.value.Value.TheVariants as value
use Rattle.op_forms.specs.declared.op.Op.TheVariants as op
use Rattle.op_forms.specs.Sound.{IsCell, AreCells}
use Rattle.nu_calls.specs.Calls.{operate}
use Rattle.py_meaning.specs.Syntax as syntax
use Rattle.py_meaning.specs.Frames.{Frame, R as Rw, with_own}
use Rattle.py_meaning.specs.Bodies.{body_row, cell_filled, with_cells, code_row}
use Rattle.py_safe.specs.Heaps.{View, ACell, IsOpen, AllOpen, IsThere}
use Rattle.py_safe.specs.Rules.{IsOf}
use Rattle.py_safe.specs.Constructs.{Room, room_of, LawfulBody, LawfulCode, OwnsWithin}
use Rattle.py_safe.proofs.Right.{Program, source, roster, nothing, FrameLaw, room_in, room_at, begun_room, params_in, begun_at, Anything, RightBy, BodyBy}
use Rattle.py_safe.proofs.Growth.{of_sort}
use Rattle.py_safe.proofs.Rows.{IsNone, still, changes_right, right_map, value_right, body_right, body_value, body_room}
use Rattle.py_safe.proofs.Operations.{OpGives, operate_right}
use Rattle.py_safe.proofs.Names.{There, ACellThere, anything, there_maybe, both, value_fits, cell_there, cell_more, cell_fits, bound_right}
use Rattle.py_safe.proofs.Passing.{Handled, done_right}
use Rattle.py_safe.proofs.Expressions.{expression_right}
use Rattle.py_safe.proofs.Clauses.{returns_right}
use Rattle.py_safe.proofs.Statements.{block_right}
use Rattle.py_safe.proofs.Comprehensions.{collects_right}

-- a frame with its parameters, that has made so many of its cells
abbrev making : ℕ → ℕ → Room → Room
making params cells r = record r { bound = params; owns = cells }

a_cell : (v : View) (x : Value) → IsThere v x → IsOf v.heap ACell x → ACellThere v x
a_cell v (value.Obj n) p e = (of_sort v.heap n ACell tt e, p.1)
a_cell v value.Unset p e = absurd e
a_cell v value.None p e = absurd e
a_cell v (value.Bool b) p e = absurd e
a_cell v (value.Int i) p e = absurd e
a_cell v (value.Str s) p e = absurd e

cells_behind : (h : List Object) (xs : List Value) (x : Value) → AreCells h xs → IsCell h x → AreCells h (xs ++ x ∷ [])
cells_behind h [] x p q = (q, tt)
cells_behind h (y ∷ xs) x p q = (p.0, cells_behind h xs x p.1 q)

open_behind : (v : View) (xs : List Value) (x : Value) → AllOpen v.marks xs → IsOpen v.marks x → AllOpen v.marks (xs ++ x ∷ [])
open_behind v [] x p q = (q, tt)
open_behind v (y ∷ xs) x p q = (p.0, open_behind v xs x p.1 q)

-- one cell more
own_frame : (params cells : ℕ) (r : Room) (v : View) (f : Frame) (c : Value) → ACellThere v c → FrameLaw (still (making params cells r)) v f → FrameLaw (still (making params (suc cells) r)) v (with_own c f)
own_frame params cells r v f c q p = record {
  locals = p.locals;
  count = p.count;
  bound = p.bound;
  names = p.names;
  owns = let o = p.owns in (cells_behind v.heap f.owns c o.0 q.0, open_behind v f.owns c o.1 q.1);
  made = omega (arith, length-append f.owns (c ∷ []), p.made);
  frees = p.frees;
  given = p.given;
  carried = p.carried;
}

-- once all are made, the frame is the body's
made_frame : (params : ℕ) (r : Room) (v : View) (f : Frame) → r.bound ≤ params → FrameLaw (making params r.owns r) v f → FrameLaw r v f
made_frame params r v f le p = record {
  locals = p.locals;
  count = p.count;
  bound = λ n small. p.bound n (omega (arith, small, le));
  names = p.names;
  owns = p.owns;
  made = p.made;
  frees = p.frees;
  given = p.given;
  carried = p.carried;
}

module _ (z : Program) where
  cell_made : (r : Room) (v : View) (line : ℕ) → RightBy z r r 0 ACellThere v (operate (source z) line op.Cell [])
  cell_made r v line =
      right_map z r r 0 0 (OpGives op.Cell) ACellThere v _ (omega arith) (λ g x w y. a_cell g x y.there y.object) (operate_right z r line op.Cell [] v (λ w marks ok g. refl) tt tt)

  filled_right : (r : Room) (v : View) (line : ℕ) (c : Value) (own : Option ℕ) → OwnsWithin r.bound (own ∷ []) → ACellThere v c → RightBy z r r 0 Anything v (cell_filled (source z) line c own)
  filled_right r v line c None p a = done_right z r 0 v
  filled_right r v line c (Some place) p a =
      value_right z r 0 0 There Anything v _ _ (omega arith) (bound_right z r v place p.0)
      (λ x g w i.
      let b : ACellThere g c = cell_more v g w c a in
      anything z r 0 (OpGives op.CellSet) g _ (operate_right z r line op.CellSet (c ∷ x ∷ []) g (λ u marks ok f. both _ _ (cell_fits g c u marks f b) (both _ _ (value_fits g x u marks f i) refl)) (there_maybe g c (cell_there g c b), (there_maybe g x i, tt)) tt))

  first_within : (n : ℕ) (own : Option ℕ) (owns : List (Option ℕ)) → OwnsWithin n (own ∷ owns) → OwnsWithin n (own ∷ [])
  first_within n None owns p = tt
  first_within n (Some place) owns p = (p.0, tt)

  rest_within : (n : ℕ) (own : Option ℕ) (owns : List (Option ℕ)) → OwnsWithin n (own ∷ owns) → OwnsWithin n owns
  rest_within n None owns p = p
  rest_within n (Some place) owns p = p.1

  cells_right : (params : ℕ) (r : Room) (line : ℕ) (body : Rw) → r.bound ≤ params → ((g : View) → RightBy z r r 0 Anything g body) → (owns : List (Option ℕ)) (cells : ℕ) → OwnsWithin params owns → cells + length owns ≡ r.owns → (v : View) → BodyBy z (making params cells r) r v (with_cells (source z) line owns body)
  cells_right params r line body le x [] cells p e v =
      subst (λ n. BodyBy z (making params n r) r v body) (omega (arith, e)) (body_room z r (making params r.owns r) r v body (λ g f a. made_frame params r g f le a) (body_right z r r Anything v body (x v)))
  cells_right params r line body le x (own ∷ owns) cells p e v =
      let q : Room = making params cells r in
      let s : Room = making params (suc cells) r in
      body_value z q q r ACellThere v _ _ (cell_made (still q) v line)
      (λ c g w a. body_value z q s r IsNone g _ _ (changes_right z (still q) (still s) 0 g (with_own c) (λ more f k law. own_frame params cells r more f c (cell_more g more k c a) law))
      (λ u g₂ w₂ b. body_value z s s r Anything g₂ _ _ (filled_right (still s) g₂ line c own (first_within params own owns p) (cell_more g g₂ w₂ c a))
      (λ t g₃ w₃ d. cells_right params r line body le x owns (suc cells) (rest_within params own owns p) (omega (arith, e)) g₃)))

  body_row_right : (b : syntax.Body) (r : Room) → LawfulBody (roster z) r b → (v : View) → Handled r.handler None v → RightBy z r r 0 Anything v (body_row (source z) b)
  body_row_right (syntax.Statements b) r p v k = block_right z b r false p None v k
  body_row_right (syntax.Value' x) r p v k =
      value_right z r 0 0 There Anything v _ _ (omega arith) (expression_right z r x p v) (λ y g w a. returns_right z r 0 g y a)
  body_row_right (syntax.Collect line into target t) r p v k = collects_right z r v line into target t p.0 p.1 p.2 p.3

  pub code_right : (n : ℕ) (code : syntax.Code) → slice_get z.codes n ≡ Some code → LawfulCode (roster z) (z.role n) code → BodyBy z (begun_at z n) (room_at z n) nothing (code_row (source z) (Some code))
  code_right n code e p =
      subst (λ o. BodyBy z (begun_room (params_in o) (room_in (z.role n) o)) (room_in (z.role n) o) nothing (code_row (source z) (Some code))) (sym e)
      (cells_right (length code.header.params) (room_of (z.role n) code) code.header.line (body_row (source z) code.body) p.bound (λ g. body_row_right code.body (room_of (z.role n) code) p.body g tt) code.owns 0 p.owns (omega arith) nothing)
