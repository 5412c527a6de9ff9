-- Functions are made right: with their defaults, which a tuple and a dict hold, and with the cells that their codes get.
use Rattle.std.proofs.Common.{◌≡◌, ℕ, List, [], ◌∷◌, true, refl, arith}
use Rattle.std.specs.List.{list_all}
use Rattle.nu_value.specs.declared.value.Value.{Value}
use Rattle.op_forms.specs.declared.op.Op.TheVariants as op
use Rattle.op_forms.specs.declared.signature.ArgumentKind.TheVariants as kind
use Rattle.op_forms.specs.declared.world.World.{World}
use Rattle.op_forms.specs.Fits.{is_of}
use Rattle.nu_rows.specs.Words.{then_value}
use Rattle.nu_calls.specs.Calls.{operate}
use Rattle.py_meaning.specs.Syntax as syntax
use Rattle.py_meaning.specs.Frames.{R as Rw}
use Rattle.py_meaning.specs.Expressions.{function, bare_function, put_all}
use Rattle.py_safe.specs.Rosters.{Role}
use Rattle.py_safe.specs.Heaps.{Mark, Keywords, View, view, ATuple, Grows, IsThere, AllThere, MarkedAs}
use Rattle.py_safe.specs.Constructs.{Room, IsMade}
use Rattle.py_safe.proofs.Right.{Program, source, roster, Kind, RightBy}
use Rattle.py_safe.proofs.Growth.{grows_refl, grows_trans, there_more}
use Rattle.py_safe.proofs.Rows.{right_map, value_right}
use Rattle.py_safe.proofs.Operations.{OpGives, operate_right}
use Rattle.py_safe.proofs.Handing.{IsMarked, marked_more, keywords_right, put_key_right, function_right}
use Rattle.py_safe.proofs.Names.{AnObject, both, value_fits}
use Rattle.py_safe.proofs.Exceptions.{all_maybe}
use Rattle.py_safe.proofs.Collections.{an_object_more}

-- each value is there, whatever its name
abbrev pub AllNamed : View → List (List ℕ × Value) → Type 0
AllNamed v [] = Unit {0}
AllNamed v (p ∷ ps) = IsThere v p.1 × AllNamed v ps

pub all_named_more : (v more : View) → Grows v more → (ps : List (List ℕ × Value)) → AllNamed v ps → AllNamed more ps
all_named_more v more g [] a = tt
all_named_more v more g (p ∷ ps) a = (there_more v more g p.1 a.0, all_named_more v more g ps a.1)

-- any number of values that are there
pub values_fit : (v : View) (xs : List Value) (w : World) (marks : ℕ → Mark) → Grows v (view w.heap marks) → AllThere v xs → list_all (is_of kind.Value w) xs ≡ true
values_fit v [] w marks g p = refl
values_fit v (x ∷ xs) w marks g p = both _ _ (value_fits v x w marks g p.0) (values_fit v xs w marks g p.1)

module _ (z : Program) (r : Room) where
  pub tuple_made : (v : View) (line : ℕ) (xs : List Value) → AllThere v xs → RightBy z r r 0 (AnObject ATuple) v (operate (source z) line op.Tuple xs)
  tuple_made v line xs p =
      right_map z r r 0 0 (OpGives op.Tuple) (AnObject ATuple) v _ (omega arith) (λ g x w y. (y.there, y.object)) (operate_right z r line op.Tuple xs v (λ w marks ok g. values_fit v xs w marks g p) (all_maybe v xs p) tt)

  -- values go into the dict of a definition's keywords
  pub put_all_right : (n : ℕ) (K : Kind) (ps : List (List ℕ × Value)) (v : View) (line : ℕ) (d : Value) (row : Rw) → IsMarked Keywords v d → AllNamed v ps → ((g : View) → Grows v g → RightBy z r r n K g row) → RightBy z r r n K v (put_all (source z) line d ps row)
  put_all_right n K [] v line d row m a next = next v (grows_refl v)
  put_all_right n K (p ∷ ps) v line d row m a next =
      value_right z r 0 n (OpGives op.Put) K v _ _ (omega arith) (put_key_right z r line d p.0 p.1 v m a.0)
      (λ u g w y. put_all_right n K ps g line d row (marked_more Keywords v g w d m) (all_named_more v g w ps a.1) (λ g' w'. next g' (grows_trans v g g' w w')))

  -- a function with these defaults
  pub defaults_right : (v : View) (line code : ℕ) (role : Role) (mark : Mark) (cells : List syntax.CellPlace) (xs : List Value) (ps : List (List ℕ × Value)) → MarkedAs mark role → IsMade (roster z) r code role cells → AllThere v xs → AllNamed v ps → RightBy z r r 0 (IsMarked mark) v (then_value (operate (source z) line op.Tuple xs) (λ tuple. then_value (operate (source z) line op.Dict []) (λ dict. put_all (source z) line dict ps (function (source z) line code tuple dict cells))))
  defaults_right v line code role mark cells xs ps as_role made p q =
      value_right z r 0 0 (AnObject ATuple) (IsMarked mark) v _ _ (omega arith) (tuple_made v line xs p)
      (λ tuple g w a. value_right z r 0 0 (IsMarked Keywords) (IsMarked mark) g _ _ (omega arith) (keywords_right z r line g)
      (λ d g₂ w₂ m. put_all_right 0 (IsMarked mark) ps g₂ line d _ m (all_named_more v g₂ (grows_trans v g g₂ w w₂) ps q)
      (λ g₃ w₃.
      let b : AnObject ATuple g₃ tuple = an_object_more ATuple tt g g₃ (grows_trans g g₂ g₃ w₂ w₃) tuple a in
      function_right z r line code role mark tuple d cells g₃ as_role made b.0 b.1 (marked_more Keywords g₂ g₃ w₃ d m))))

  -- and one without any
  pub bare_function_right : (v : View) (line code : ℕ) (role : Role) (mark : Mark) (cells : List syntax.CellPlace) → MarkedAs mark role → IsMade (roster z) r code role cells → RightBy z r r 0 (IsMarked mark) v (bare_function (source z) line code cells)
  bare_function_right v line code role mark cells as_role made = defaults_right v line code role mark cells [] [] as_role made tt tt
