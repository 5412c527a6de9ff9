-- Rows about exceptions go right: raising, raising again, and telling one class from others.
use Rattle.std.proofs.Common.{◌≡◌, ℕ, ◌≤◌, List, [], ◌∷◌, Option, Some, true, refl, sym, ap, ◌∙◌, arith}
use Rattle.std.specs.Prelude.{slice_get, codes}
use Rattle.nu_text.specs.Names.{is_among, built_in_names}
use Rattle.nu_value.specs.declared.object.Object.{Object}
use Rattle.nu_value.specs.declared.object.Object.TheVariants as object
use Rattle.nu_value.specs.declared.value.Value.{Value}
use Rattle.nu_value.specs.declared.value.Value.TheVariants as value
use Rattle.nu_value.specs.Same.{object_of}
use Rattle.op_forms.specs.declared.op.Op.TheVariants as op
use Rattle.op_forms.specs.declared.signature.ArgumentKind.TheVariants as kind
use Rattle.op_forms.specs.declared.world.World.{World}
use Rattle.op_forms.specs.Fits.{is_exception, is_of, fit}
use Rattle.op_forms.specs.Sound.{AnException, sort_of, IsA}
use Rattle.nu_rows.specs.Rows.{End, Next, Leave, Raised, Return, Stopped, Undefined}
use Rattle.nu_calls.specs.Exceptions.{class_of}
use Rattle.nu_calls.specs.Calls.{operate}
use Rattle.py_meaning.specs.Frames.{R as Rw, text}
use Rattle.py_meaning.specs.Expressions.{is_one_of, again, raise_again, stopped_or, unless_stopped}
use Rattle.py_meaning.specs.Statements.{raise, fails}
use Rattle.py_safe.specs.Heaps.{Mark, View, view, AnError, nature_of, Grows, IsThere, AllThere, IsThrown}
use Rattle.py_safe.specs.Rules.{IsTruth, IsOf, WorldLaw}
use Rattle.py_safe.specs.Constructs.{Room}
use Rattle.py_safe.proofs.Right.{Program, source, roster, seen, AllMaybe, Kind, EndIs, Anything, RightBy}
use Rattle.py_safe.proofs.Growth.{grows_trans, there_more, all_there_more, thrown_more, of_more}
use Rattle.py_safe.proofs.Rows.{right_map, tells_right, ends_right, then_right, value_right, choose_right}
use Rattle.py_safe.proofs.Operations.{OpGives, operate_right}
use Rattle.py_safe.proofs.Names.{There, anything, there_right, there_maybe, both, value_fits}

raised_again : (n : ℕ) (K : Kind) (v : View) (x : ℕ) (o : Option Object) → slice_get v.heap x ≡ o → IsThrown v x → EndIs n K v (again x (class_of o))
raised_again n K v x (Some (object.Exception class args entries fields cause)) e a = a
raised_again n K v x other e a = let b : IsA v.heap x AnException = a.0 in let t : sort_of other ≡ AnException = sym (ap sort_of e) ∙ b.sort in absurd (cc)

exception_is : (o : Option Object) → sort_of o ≡ AnException → is_exception o ≡ true
exception_is (Some (object.Exception class args entries fields cause)) e = refl
exception_is other e = absurd (cc)

pub exception_fits : (v : View) (x : ℕ) (w : World) (marks : ℕ → Mark) → Grows v (view w.heap marks) → IsThrown v x → is_of kind.Exception w (value.Obj x) ≡ true
exception_fits v x w marks g a = let b : IsThrown (view w.heap marks) x = thrown_more v (view w.heap marks) g x a in let c : IsA w.heap x AnException = b.0 in exception_is (slice_get w.heap x) c.sort

error_is : (o : Option Object) → nature_of o ≡ AnError → is_exception o ≡ true
error_is (Some (object.Exception class args entries fields cause)) e = refl
error_is other e = absurd (cc)

is_error_fits : (h : List Object) (x : Value) → IsOf h AnError x → is_exception (object_of h x) ≡ true
is_error_fits h (value.Obj n) a = error_is (slice_get h n) a
is_error_fits h value.Unset a = absurd a
is_error_fits h value.None a = absurd a
is_error_fits h (value.Bool b) a = absurd a
is_error_fits h (value.Int i) a = absurd a
is_error_fits h (value.Str s) a = absurd a

error_fits : (v : View) (x : Value) (w : World) (marks : ℕ → Mark) → Grows v (view w.heap marks) → IsOf v.heap AnError x → is_of kind.Exception w x ≡ true
error_fits v x w marks g a = is_error_fits w.heap x (of_more v (view w.heap marks) g AnError x tt a)

pub thrown_there : (v : View) (x : ℕ) → IsThrown v x → IsThere v (value.Obj x)
thrown_there v x a = let b : IsA v.heap x AnException = a.0 in (b.there, a.1)

-- values that are there, as arguments
pub all_maybe : (v : View) (xs : List Value) → AllThere v xs → AllMaybe v xs
all_maybe v [] p = tt
all_maybe v (x ∷ xs) p = (there_maybe v x p.0, all_maybe v xs p.1)

-- names of built-ins that constructs look up

stop_iteration : is_among built_in_names (codes "StopIteration") ≡ true
unfolding built_in_names
stop_iteration = refl

assertion_error : is_among built_in_names (codes "AssertionError") ≡ true
unfolding built_in_names
assertion_error = refl

pub generator_exit : is_among built_in_names (codes "GeneratorExit") ≡ true
unfolding built_in_names
generator_exit = refl

pub tuple_name : is_among built_in_names (codes "tuple") ≡ true
unfolding built_in_names
tuple_name = refl

module _ (z : Program) (r : Room) where
  pub again_right : (n : ℕ) (K : Kind) (v : View) (x : ℕ) → IsThrown v x → RightBy z r r n K v (raise_again x)
  again_right n K v x a =
      tells_right z r n K v _ (λ tabs marks s ok g. raised_again n K (seen marks s) x (slice_get s.around.world.heap x) refl (thrown_more v (seen marks s) g x a))

  pub match_right : (v : View) (line x : ℕ) (c : Value) → IsThrown v x → IsThere v c → RightBy z r r 0 (λ g b. IsTruth b) v (operate (source z) line op.Match (value.Obj x ∷ c ∷ []))
  match_right v line x c a p =
      right_map z r r 0 0 (OpGives op.Match) (λ g b. IsTruth b) v _ (omega arith) (λ g b w y. y.truth tt)
      (operate_right z r line op.Match (value.Obj x ∷ c ∷ []) v (λ w marks ok g. both _ _ (exception_fits v x w marks g a) (both _ _ (value_fits v c w marks g p) refl)) (thrown_there v x a, (there_maybe v c p, tt)) tt)

  pub native_right : (v : View) (line : ℕ) (name : List ℕ) → is_among built_in_names name ≡ true → RightBy z r r 0 There v (operate (source z) line op.Native (text name ∷ []))
  native_right v line name e = there_right z r op.Native v _ (operate_right z r line op.Native (text name ∷ []) v (λ w marks ok g. both _ _ e refl) ((tt, tt), tt) tt)

  pub one_of_right : (v : View) (line : ℕ) (class : List ℕ) (x : ℕ) → is_among built_in_names class ≡ true → IsThrown v x → RightBy z r r 0 (λ g b. IsTruth b) v (is_one_of (source z) line class x)
  one_of_right v line class x e a =
      value_right z r 0 0 There (λ g b. IsTruth b) v _ _ (omega arith) (native_right v line class e) (λ c g w p. match_right g line x c (thrown_more v g w x a) p)

  -- a row and what follows its value, or the StopIteration that it raises
  stopped_right : (n m : ℕ) (K J : Kind) (g : View) (line : ℕ) (more : Value → Rw) (over : ℕ → Rw) (e : End) → n ≤ m → ((x : Value) → K g x → RightBy z r r m J g (more x)) → ((x : ℕ) (g' : View) → Grows g g' → IsThrown g' x → RightBy z r r m J g' (over x)) → EndIs n K g e → RightBy z r r m J g (stopped_or (source z) line more over e)
  stopped_right n m K J g line more over (Next x) le f o y = f x y
  stopped_right n m K J g line more over (Raised x) le f o y =
      value_right z r 0 m (λ g b. IsTruth b) J g _ _ (omega arith) (one_of_right g line (codes "StopIteration") x stop_iteration y)
      (λ b g' w t. let a = thrown_more g g' w x y in choose_right z r r m J g' b _ _ t (o x g' w a) (again_right m J g' x a))
  stopped_right n m K J g line more over (Leave i) le f o y = ends_right z r m J g (Leave i) (λ g' w. omega (arith, le, y))
  stopped_right n m K J g line more over (Return x) le f o y = ends_right z r m J g (Return x) (λ g' w. there_more g g' w x y)
  stopped_right n m K J g line more over (Stopped kind) le f o y = ends_right z r m J g (Stopped kind) (λ g' w. tt)
  stopped_right n m K J g line more over Undefined le f o y = absurd y

  pub unless_right : (n m : ℕ) (K J : Kind) (v : View) (line : ℕ) (row : Rw) (more : Value → Rw) (over : ℕ → Rw) → n ≤ m → RightBy z r r n K v row → ((x : Value) (g : View) → Grows v g → K g x → RightBy z r r m J g (more x)) → ((x : ℕ) (g : View) → Grows v g → IsThrown g x → RightBy z r r m J g (over x)) → RightBy z r r m J v (unless_stopped (source z) line row more over)
  unless_right n m K J v line row more over le y f o =
      then_right z r r n m K J v row _ y (λ e g w k. stopped_right n m K J g line more over e le (λ x a. f x g w a) (λ i g' w' a. o i g' (grows_trans v g g' w w') a) k)

  pub raise_right : (v : View) (line : ℕ) (x : Value) → IsThere v x → RightBy z r r 0 Anything v (raise (source z) line x)
  raise_right v line x p =
      value_right z r 0 0 (OpGives op.Exc) Anything v _ _ (omega arith) (operate_right z r line op.Exc (x ∷ []) v (λ w marks ok g. both _ _ (value_fits v x w marks g p) refl) (there_maybe v x p, tt) tt)
      (λ e g w y. anything z r 0 (OpGives op.Raise) g _ (operate_right z r line op.Raise (e ∷ []) g (λ u marks ok f. both _ _ (error_fits g e u marks f y.object) refl) (there_maybe g e y.there, tt) tt))

  pub fails_right : (v : View) (line : ℕ) (texts : List Value) → AllThere v texts → ((w : World) (marks : ℕ → Mark) → WorldLaw (roster z) w marks → Grows v (view w.heap marks) → fit [] (Some kind.Value) w texts ≡ true) → RightBy z r r 0 Anything v (fails (source z) line texts)
  fails_right v line texts a f =
      value_right z r 0 0 There Anything v _ _ (omega arith) (native_right v line (codes "AssertionError") assertion_error)
      (λ class g w p. value_right z r 0 0 There Anything g _ _ (omega arith)
      (there_right z r op.Call g _ (operate_right z r line op.Call (class ∷ texts) g (λ u marks ok k. both _ _ (value_fits g class u marks k p) (f u marks ok (grows_trans v g (view u.heap marks) w k))) (there_maybe g class p, all_maybe g texts (all_there_more v g w texts a)) tt))
      (λ x g' w' q. raise_right g' line x q))
