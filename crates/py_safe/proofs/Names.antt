-- Names go right, and what is known of arguments from a view on.
use Rattle.std.proofs.Common.{◌≡◌, ℕ, zero, suc, ◌<◌, List, [], ◌∷◌, Option, Some, Bool, true, false, refl, ap, ◌∙◌, arith, length}
use Rattle.std.specs.Prelude.{IsTrue, slice_get, slice_set, ◌&&◌}
use Rattle.nu_value.specs.declared.object.Object.{Object}
use Rattle.nu_value.specs.declared.object.Object.TheVariants as object
use Rattle.nu_value.specs.declared.value.Value.{Value}
use Rattle.nu_value.specs.declared.value.Value.TheVariants as value
use Rattle.nu_value.specs.Same.{object_of}
use Rattle.op_forms.specs.declared.op.Op.{Op}
use Rattle.op_forms.specs.declared.op.Op.TheVariants as op
use Rattle.op_forms.specs.declared.signature.ArgumentKind.TheVariants as kind
use Rattle.op_forms.specs.declared.world.World.{World}
use Rattle.op_forms.specs.Fits.{is_of, is_cell, is_list, is_space}
use Rattle.op_forms.specs.Sound.{ACell, sort_of, IsCell, AreCells}
use Rattle.nu_rows.specs.Words.{then_value}
use Rattle.nu_calls.specs.Calls.{operate}
use Rattle.py_meaning.specs.Syntax as syntax
use Rattle.py_meaning.specs.Frames.{Frame, R as Rw, at, reads, text, load, store, unbind, changes, with_local, class_names}
use Rattle.py_safe.specs.Heaps.{Mark, View, view, Nature, AList, ASpace, nature_of, Grows, IsOpen, AllOpen, IsThere}
use Rattle.py_safe.specs.Rules.{IsOf}
use Rattle.py_safe.specs.Constructs.{Room, IsFalse, HasHome, MayUnbind}
use Rattle.py_safe.proofs.Right.{Program, source, MayBeThere, AllMaybe, FrameLaw, Kind, Anything, RightBy}
use Rattle.py_safe.proofs.Growth.{in_more, there_more, cells_more, of_more, is_in_true}
use Rattle.py_safe.proofs.Rows.{IsNone, reads_right, changes_right, right_map, value_right}
use Rattle.py_safe.proofs.Operations.{FitFrom, NoFunc, OpGives, operate_right}

pub both : (a b : Bool) → a ≡ true → b ≡ true → (a && b) ≡ true
both true b e f = f
both false b e f = absurd (cc)

-- ---- kinds of values

-- a value that is there
abbrev pub There : Kind
There v x = IsThere v x

-- a cell that may be named
abbrev pub ACellThere : Kind
ACellThere v x = IsCell v.heap x × IsOpen v.marks x

-- an object of this nature, that may be named
abbrev pub AnObject : Nature → Kind
AnObject s v x = IsThere v x × IsOf v.heap s x

pub there_maybe : (v : View) (x : Value) → IsThere v x → MayBeThere v x
there_maybe v value.Unset p = tt
there_maybe v value.None p = p
there_maybe v (value.Bool b) p = p
there_maybe v (value.Int i) p = p
there_maybe v (value.Str s) p = p
there_maybe v (value.Obj n) p = p

pub cell_more : (v more : View) → Grows v more → (x : Value) → ACellThere v x → ACellThere more x
cell_more v more g x p =
    let c = cells_more v more g (x ∷ []) ((p.0, tt), (p.1, tt)) in
    let a = c.0 in let b = c.1 in
    (a.0, b.0)

-- ---- arguments, from a view on

pub value_fits : (v : View) (x : Value) (w : World) (marks : ℕ → Mark) → Grows v (view w.heap marks) → IsThere v x → is_of kind.Value w x ≡ true
value_fits v x w marks g p = is_in_true w.heap x (in_more v (view w.heap marks) g x p.0)

pub any_fits : (v : View) (x : Value) (w : World) (marks : ℕ → Mark) → Grows v (view w.heap marks) → MayBeThere v x → is_of kind.Any w x ≡ true
any_fits v value.Unset w marks g p = refl
any_fits v value.None w marks g p = refl
any_fits v (value.Bool b) w marks g p = refl
any_fits v (value.Int i) w marks g p = refl
any_fits v (value.Str s) w marks g p = refl
any_fits v (value.Obj n) w marks g p = value_fits v (value.Obj n) w marks g p

pub cell_there : (v : View) (c : Value) → ACellThere v c → IsThere v c
cell_there v (value.Obj n) p = let a = p.0 in (a.there, p.1)
cell_there v value.Unset p = absurd p.0
cell_there v value.None p = absurd p.0
cell_there v (value.Bool b) p = absurd p.0
cell_there v (value.Int i) p = absurd p.0
cell_there v (value.Str s) p = absurd p.0

cell_is : (o : Option Object) → sort_of o ≡ ACell → is_cell o ≡ true
cell_is (Some (object.Cell x)) e = refl
cell_is other e = absurd (cc)

pub is_cell_fits : (h : List Object) (c : Value) → IsCell h c → is_cell (object_of h c) ≡ true
is_cell_fits h (value.Obj n) p = cell_is (slice_get h n) p.sort
is_cell_fits h value.Unset p = absurd p
is_cell_fits h value.None p = absurd p
is_cell_fits h (value.Bool b) p = absurd p
is_cell_fits h (value.Int i) p = absurd p
is_cell_fits h (value.Str s) p = absurd p

pub cell_fits : (v : View) (c : Value) (w : World) (marks : ℕ → Mark) → Grows v (view w.heap marks) → ACellThere v c → is_of kind.Cell w c ≡ true
cell_fits v c w marks g p = let q = cell_more v (view w.heap marks) g c p in is_cell_fits w.heap c q.0

space_is : (o : Option Object) → nature_of o ≡ ASpace → is_space o ≡ true
space_is (Some (object.Space names)) e = refl
space_is other e = absurd (cc)

is_space_fits : (h : List Object) (x : Value) → IsOf h ASpace x → is_space (object_of h x) ≡ true
is_space_fits h (value.Obj n) p = space_is (slice_get h n) p
is_space_fits h value.Unset p = absurd p
is_space_fits h value.None p = absurd p
is_space_fits h (value.Bool b) p = absurd p
is_space_fits h (value.Int i) p = absurd p
is_space_fits h (value.Str s) p = absurd p

pub space_fits : (v : View) (x : Value) (w : World) (marks : ℕ → Mark) → Grows v (view w.heap marks) → IsOf v.heap ASpace x → is_of kind.Space w x ≡ true
space_fits v x w marks g p = is_space_fits w.heap x (of_more v (view w.heap marks) g ASpace x tt p)

list_is : (o : Option Object) → nature_of o ≡ AList → is_list o ≡ true
list_is (Some (object.List items)) e = refl
list_is other e = absurd (cc)

is_list_fits : (h : List Object) (x : Value) → IsOf h AList x → is_list (object_of h x) ≡ true
is_list_fits h (value.Obj n) p = list_is (slice_get h n) p
is_list_fits h value.Unset p = absurd p
is_list_fits h value.None p = absurd p
is_list_fits h (value.Bool b) p = absurd p
is_list_fits h (value.Int i) p = absurd p
is_list_fits h (value.Str s) p = absurd p

pub list_fits : (v : View) (x : Value) (w : World) (marks : ℕ → Mark) → Grows v (view w.heap marks) → IsOf v.heap AList x → is_of kind.List w x ≡ true
list_fits v x w marks g p = is_list_fits w.heap x (of_more v (view w.heap marks) g AList x tt p)

-- ---- what a frame holds

maybe_at : (v : View) (xs : List Value) (place : ℕ) → AllMaybe v xs → MayBeThere v (at xs place)
maybe_at v [] place p = tt
maybe_at v (x ∷ xs) zero p = p.0
maybe_at v (x ∷ xs) (suc place) p = maybe_at v xs place p.1

maybe_set : (v : View) (xs : List Value) (place : ℕ) (x : Value) → MayBeThere v x → AllMaybe v xs → AllMaybe v (slice_set xs place x)
maybe_set v [] place x m p = p
maybe_set v (y ∷ xs) zero x m p = (m, p.1)
maybe_set v (y ∷ xs) (suc place) x m p = (p.0, maybe_set v xs place x m p.1)

set_count : (xs : List Value) (place : ℕ) (x : Value) → length (slice_set xs place x) ≡ length xs
set_count [] place x = refl
set_count (y ∷ xs) zero x = refl
set_count (y ∷ xs) (suc place) x = ap suc (set_count xs place x)

-- a value that is there takes a place, and what is bound stays bound
there_set : (v : View) (xs : List Value) (place : ℕ) (x : Value) (n : ℕ) → IsThere v x → IsThere v (at xs n) → IsThere v (at (slice_set xs place x) n)
there_set v [] place x n p q = q
there_set v (y ∷ xs) zero x zero p q = p
there_set v (y ∷ xs) zero x (suc n) p q = q
there_set v (y ∷ xs) (suc place) x zero p q = q
there_set v (y ∷ xs) (suc place) x (suc n) p q = there_set v xs place x n p q

-- other places stay as they are
there_else : (v : View) (xs : List Value) (place : ℕ) (x : Value) (n : ℕ) → n < place → IsThere v (at xs n) → IsThere v (at (slice_set xs place x) n)
there_else v [] place x n le q = q
there_else v (y ∷ xs) zero x n le q = absurd (omega (arith, le))
there_else v (y ∷ xs) (suc place) x zero le q = q
there_else v (y ∷ xs) (suc place) x (suc n) le q = there_else v xs place x n (omega (arith, le)) q

pub cell_at : (v : View) (xs : List Value) (place : ℕ) → AreCells v.heap xs → AllOpen v.marks xs → place < length xs → ACellThere v (at xs place)
cell_at v [] place p q le = absurd (omega (arith, le))
cell_at v (x ∷ xs) zero p q le = (p.0, q.0)
cell_at v (x ∷ xs) (suc place) p q le = cell_at v xs place p.1 q.1 (omega (arith, le))

never : (b : Bool) → IsFalse b → IsTrue b → ⊥
never true p t = p
never false p t = absurd (cc)

-- a local variable is another, where the frame has no names of a class
local_frame : (r : Room) (v : View) (f : Frame) (place : ℕ) (x : Value) → IsFalse r.names → MayBeThere v x → ((n : ℕ) → n < r.bound → IsThere v (at f.locals n) → IsThere v (at (slice_set f.locals place x) n)) → FrameLaw r v f → FrameLaw r v (with_local place x f)
local_frame r v f place x unnamed m b p = record {
  locals = maybe_set v f.locals place x m p.locals;
  count = set_count f.locals place x ∙ p.count;
  bound = λ n le. b n le (p.bound n le);
  names = λ t. absurd (never r.names unnamed t);
  owns = p.owns;
  made = p.made;
  frees = p.frees;
  given = p.given;
  carried = p.carried;
}

named_there : (v : View) (x : Value) → MayBeThere v x → IsOf v.heap ASpace x → AnObject ASpace v x
named_there v (value.Obj n) m p = (m, p)
named_there v value.Unset m p = absurd p
named_there v value.None m p = absurd p
named_there v (value.Bool b) m p = absurd p
named_there v (value.Int i) m p = absurd p
named_there v (value.Str s) m p = absurd p

-- a text is there
abbrev pub named : (v : View) (name : List ℕ) → IsThere v (text name)
named v name = (tt, tt)

module _ (z : Program) (r : Room) where
  -- of what an operation gives, that it is there, or nothing, may be all that is asked
  pub there_right : (o : Op) (v : View) (row : Rw) → RightBy z r r 0 (OpGives o) v row → RightBy z r r 0 There v row
  there_right o v row x = right_map z r r 0 0 (OpGives o) There v row (omega arith) (λ g a w y. y.there) x

  pub anything : (n : ℕ) (K : Kind) (v : View) (row : Rw) → RightBy z r r 0 K v row → RightBy z r r n Anything v row
  anything n K v row x = right_map z r r 0 n K Anything v row (omega arith) (λ g a w y. tt) x

  pub own : (place : ℕ) (v : View) → place < r.owns → RightBy z r r 0 ACellThere v (reads (λ f. at f.owns place))
  own place v le = reads_right z r 0 ACellThere v _ (λ more f g p. let a = p.owns in cell_at more f.owns place a.0 a.1 (omega (arith, le, p.made)))

  pub free : (place : ℕ) (v : View) → place < r.frees → RightBy z r r 0 ACellThere v (reads (λ f. at f.frees place))
  free place v le = reads_right z r 0 ACellThere v _ (λ more f g p. let a = p.frees in cell_at more f.frees place a.0 a.1 (omega (arith, le, p.given)))

  pub names_right : (v : View) → IsTrue r.names → RightBy z r r 0 (AnObject ASpace) v class_names
  names_right v t = reads_right z r 0 (AnObject ASpace) v _ (λ more f g p. named_there more (at f.locals 0) (maybe_at more f.locals 0 p.locals) (p.names t))

  pub bound_right : (v : View) (place : ℕ) → place < r.bound → RightBy z r r 0 There v (reads (λ f. at f.locals place))
  bound_right v place le = reads_right z r 0 There v _ (λ more f g p. p.bound place le)

  -- an operation of a cell and a name
  cell_named : (line : ℕ) (o : Op) (v : View) (c : Value) (name : List ℕ) → ACellThere v c → FitFrom z v o (c ∷ text name ∷ []) → NoFunc o → RightBy z r r 0 (OpGives o) v (operate (source z) line o (c ∷ text name ∷ []))
  cell_named line o v c name x fits t = operate_right z r line o (c ∷ text name ∷ []) v fits (there_maybe v c (cell_there v c x), ((tt, tt), tt)) t

  pub load_right : (v : View) (line : ℕ) (home : syntax.Home) → HasHome r home → RightBy z r r 0 There v (load (source z) line home)
  load_right v line (syntax.Module name) p =
      there_right op.Global v _ (operate_right z r line op.Global (text name ∷ []) v (λ w marks ok g. refl) ((tt, tt), tt) tt)
  load_right v line (syntax.Local place name) p =
      value_right z r 0 0 MayBeThere There v _ _ (omega arith) (reads_right z r 0 MayBeThere v _ (λ more f g q. maybe_at more f.locals place q.locals))
      (λ x g w m. there_right op.Local g _ (operate_right z r line op.Local (x ∷ text name ∷ []) g (λ u marks ok f. both _ _ (any_fits g x u marks f m) refl) (m, ((tt, tt), tt)) tt))
  load_right v line (syntax.Own place name) p =
      value_right z r 0 0 ACellThere There v _ _ (omega arith) (own place v p) (λ c g w x. there_right op.CellGet g _ (cell_named line op.CellGet g c name x (λ u marks ok f. both _ _ (cell_fits g c u marks f x) refl) tt))
  load_right v line (syntax.Free place name) p =
      value_right z r 0 0 ACellThere There v _ _ (omega arith) (free place v p) (λ c g w x. there_right op.FreeGet g _ (cell_named line op.FreeGet g c name x (λ u marks ok f. both _ _ (cell_fits g c u marks f x) refl) tt))
  load_right v line (syntax.InClass name) p =
      value_right z r 0 0 (AnObject ASpace) There v _ _ (omega arith) (names_right v p)
      (λ names g w x. there_right op.SpaceGet g _ (operate_right z r line op.SpaceGet (names ∷ text name ∷ []) g (λ u marks ok f. both _ _ (space_fits g names u marks f x.1) refl) (there_maybe g names x.0, ((tt, tt), tt)) tt))

  -- a value goes into a cell
  pub set_right : (v : View) (line : ℕ) (row : Rw) (x : Value) → IsThere v x → RightBy z r r 0 ACellThere v row → RightBy z r r 0 Anything v (then_value row (λ c. operate (source z) line op.CellSet (c ∷ x ∷ [])))
  set_right v line row x p y =
      value_right z r 0 0 ACellThere Anything v row _ (omega arith) y
      (λ c g w a.
      let q : IsThere g x = there_more v g w x p in
      anything 0 (OpGives op.CellSet) g _ (operate_right z r line op.CellSet (c ∷ x ∷ []) g (λ u marks ok f. both _ _ (cell_fits g c u marks f a) (both _ _ (value_fits g x u marks f q) refl)) (there_maybe g c (cell_there g c a), (there_maybe g x q, tt)) tt))

  -- a local variable is another
  pub local_right : (v : View) (place : ℕ) (x : Value) → IsFalse r.names → ((g : View) → Grows v g → MayBeThere g x) → ((g : View) (xs : List Value) (n : ℕ) → Grows v g → n < r.bound → IsThere g (at xs n) → IsThere g (at (slice_set xs place x) n)) → RightBy z r r 0 Anything v (changes (with_local place x))
  local_right v place x unnamed m b =
      anything 0 IsNone v _ (changes_right z r r 0 v (with_local place x) (λ more f g p. local_frame r more f place x unnamed (m more g) (λ n le. b more f.locals n g le) p))

  pub store_right : (v : View) (line : ℕ) (home : syntax.Home) (x : Value) → HasHome r home → IsThere v x → RightBy z r r 0 Anything v (store (source z) line home x)
  store_right v line (syntax.Module name) x p i =
      anything 0 (OpGives op.SetGlobal) v _ (operate_right z r line op.SetGlobal (text name ∷ x ∷ []) v (λ w marks ok g. both _ _ (value_fits v x w marks g i) refl) ((tt, tt), (there_maybe v x i, tt)) tt)
  store_right v line (syntax.Local place name) x p i =
      local_right v place x p.1 (λ g w. there_maybe g x (there_more v g w x i)) (λ g xs n w le q. there_set g xs place x n (there_more v g w x i) q)
  store_right v line (syntax.Own place name) x p i = set_right v line _ x i (own place v p)
  store_right v line (syntax.Free place name) x p i = set_right v line _ x i (free place v p)
  store_right v line (syntax.InClass name) x p i =
      value_right z r 0 0 (AnObject ASpace) Anything v _ _ (omega arith) (names_right v p)
      (λ names g w a.
      let q : IsThere g x = there_more v g w x i in
      anything 0 (OpGives op.SpaceSet) g _ (operate_right z r line op.SpaceSet (names ∷ text name ∷ x ∷ []) g (λ u marks ok f. both _ _ (space_fits g names u marks f a.1) (both _ _ (value_fits g x u marks f q) refl)) (there_maybe g names a.0, ((tt, tt), (there_maybe g x q, tt))) tt))

  pub unbind_right : (v : View) (line : ℕ) (home : syntax.Home) → HasHome r home → MayUnbind r home → RightBy z r r 0 Anything v (unbind (source z) line home)
  unbind_right v line (syntax.Module name) p m =
      anything 0 (OpGives op.DelGlobal) v _ (operate_right z r line op.DelGlobal (text name ∷ []) v (λ w marks ok g. refl) ((tt, tt), tt) tt)
  unbind_right v line (syntax.Local place name) p m =
      value_right z r 0 0 There Anything v _ _ (omega arith) (load_right v line (syntax.Local place name) p)
      (λ x g w y. local_right g place value.Unset p.1 (λ g' w'. tt) (λ g' xs n w' le q. there_else g' xs place value.Unset n (omega (arith, le, m)) q))
  unbind_right v line (syntax.Own place name) p m =
      value_right z r 0 0 ACellThere Anything v _ _ (omega arith) (own place v p) (λ c g w x. anything 0 (OpGives op.CellDel) g _ (cell_named line op.CellDel g c name x (λ u marks ok f. both _ _ (cell_fits g c u marks f x) refl) tt))
  unbind_right v line (syntax.Free place name) p m =
      value_right z r 0 0 ACellThere Anything v _ _ (omega arith) (free place v p) (λ c g w x. anything 0 (OpGives op.FreeDel) g _ (cell_named line op.FreeDel g c name x (λ u marks ok f. both _ _ (cell_fits g c u marks f x) refl) tt))
  unbind_right v line (syntax.InClass name) p m =
      value_right z r 0 0 (AnObject ASpace) Anything v _ _ (omega arith) (names_right v p)
      (λ names g w x. anything 0 (OpGives op.SpaceDel) g _ (operate_right z r line op.SpaceDel (names ∷ text name ∷ []) g (λ u marks ok f. both _ _ (space_fits g names u marks f x.1) refl) (there_maybe g names x.0, ((tt, tt), tt)) tt))
