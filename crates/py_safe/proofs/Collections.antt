-- Operations go right that make lists, dicts and the keywords of a call, and put values into them.
use Rattle.std.proofs.Common.{◌≡◌, ℕ, List, [], ◌∷◌, Option, Some, None, true, refl, arith}
use Rattle.std.specs.Prelude.{slice_get, codes}
use Rattle.nu_value.specs.declared.object.Object.{Object}
use Rattle.nu_value.specs.declared.object.Object.TheVariants as object
use Rattle.nu_value.specs.declared.value.Value.{Value}
use Rattle.nu_value.specs.declared.value.Value.TheVariants as value
use Rattle.nu_value.specs.Same.{object_of}
use Rattle.op_forms.specs.declared.op.Op.TheVariants as op
use Rattle.op_forms.specs.declared.signature.ArgumentKind.TheVariants as kind
use Rattle.op_forms.specs.declared.world.World.{World}
use Rattle.op_forms.specs.Fits.{is_of, is_dict}
use Rattle.nu_calls.specs.Calls.{operate}
use Rattle.py_meaning.specs.Frames.{R as Rw}
use Rattle.py_meaning.specs.Expressions.{as_tuple, keywords_begun}
use Rattle.py_safe.specs.Heaps.{Mark, Keywords, View, view, Nature, AList, ADict, nature_of, Grows, IsThere}
use Rattle.py_safe.specs.Rules.{IsOf}
use Rattle.py_safe.specs.Constructs.{Room}
use Rattle.py_safe.proofs.Right.{Program, source, Kind, Anything, RightBy}
use Rattle.py_safe.proofs.Growth.{Known, grows_refl, there_more, of_more}
use Rattle.py_safe.proofs.Rows.{right_map, value_right}
use Rattle.py_safe.proofs.Operations.{OpGives, operate_right}
use Rattle.py_safe.proofs.Names.{There, AnObject, anything, there_right, there_maybe, both, value_fits, list_fits}
use Rattle.py_safe.proofs.Handing.{IsMarked, marked_more, keywords_right}
use Rattle.py_safe.proofs.Exceptions.{tuple_name, native_right}

-- ---- kinds of arguments

dict_is : (o : Option Object) → nature_of o ≡ ADict → is_dict o ≡ true
dict_is (Some (object.Dict pairs)) e = refl
dict_is other e = absurd (cc)

is_dict_fits : (h : List Object) (x : Value) → IsOf h ADict x → is_dict (object_of h x) ≡ true
is_dict_fits h (value.Obj n) p = dict_is (slice_get h n) p
is_dict_fits h value.Unset p = absurd p
is_dict_fits h value.None p = absurd p
is_dict_fits h (value.Bool b) p = absurd p
is_dict_fits h (value.Int i) p = absurd p
is_dict_fits h (value.Str s) p = absurd p

pub dict_fits : (v : View) (x : Value) (w : World) (marks : ℕ → Mark) → Grows v (view w.heap marks) → IsOf v.heap ADict x → is_of kind.Dict w x ≡ true
dict_fits v x w marks g p = is_dict_fits w.heap x (of_more v (view w.heap marks) g ADict x tt p)

pub an_object_more : (s : Nature) → Known s → (v more : View) → Grows v more → (x : Value) → AnObject s v x → AnObject s more x
an_object_more s k v more g x p = (there_more v more g x p.0, of_more v more g s x k p.1)

-- the dict of a call's keywords, if there is one
abbrev pub Collects : View → Option Value → Type 0
Collects v None = Unit {0}
Collects v (Some d) = IsMarked Keywords v d

pub collects_more : (v more : View) → Grows v more → (d : Option Value) → Collects v d → Collects more d
collects_more v more g None p = tt
collects_more v more g (Some d) p = marked_more Keywords v more g d p

module _ (z : Program) (r : Room) where
  -- ---- lists and dicts

  pub list_made : (v : View) (line : ℕ) → RightBy z r r 0 (AnObject AList) v (operate (source z) line op.List [])
  list_made v line =
      right_map z r r 0 0 (OpGives op.List) (AnObject AList) v _ (omega arith) (λ g x w y. (y.there, y.object)) (operate_right z r line op.List [] v (λ w marks ok g. refl) tt tt)

  pub dict_made : (v : View) (line : ℕ) → RightBy z r r 0 (AnObject ADict) v (operate (source z) line op.Dict [])
  dict_made v line =
      right_map z r r 0 0 (OpGives op.Dict) (AnObject ADict) v _ (omega arith) (λ g x w y. (y.there, y.object)) (operate_right z r line op.Dict [] v (λ w marks ok g. refl) tt tt)

  pub push_right : (v : View) (line : ℕ) (list x : Value) → AnObject AList v list → IsThere v x → RightBy z r r 0 Anything v (operate (source z) line op.Push (list ∷ x ∷ []))
  push_right v line list x a p =
      anything z r 0 (OpGives op.Push) v _ (operate_right z r line op.Push (list ∷ x ∷ []) v (λ w marks ok g. both _ _ (list_fits v list w marks g a.1) (both _ _ (value_fits v x w marks g p) refl)) (there_maybe v list a.0, (there_maybe v x p, tt)) tt)

  pub extend_right : (v : View) (line : ℕ) (list x : Value) → AnObject AList v list → IsThere v x → RightBy z r r 0 Anything v (operate (source z) line op.Extend (list ∷ x ∷ []))
  extend_right v line list x a p =
      anything z r 0 (OpGives op.Extend) v _ (operate_right z r line op.Extend (list ∷ x ∷ []) v (λ w marks ok g. both _ _ (list_fits v list w marks g a.1) (both _ _ (value_fits v x w marks g p) refl)) (there_maybe v list a.0, (there_maybe v x p, tt)) tt)

  pub put_right : (v : View) (line : ℕ) (dict key x : Value) → AnObject ADict v dict → IsThere v key → IsThere v x → RightBy z r r 0 Anything v (operate (source z) line op.Put (dict ∷ key ∷ x ∷ []))
  put_right v line dict key x a k p =
      anything z r 0 (OpGives op.Put) v _ (operate_right z r line op.Put (dict ∷ key ∷ x ∷ []) v (λ w marks ok g. both _ _ (dict_fits v dict w marks g a.1) (both _ _ (value_fits v key w marks g k) (both _ _ (value_fits v x w marks g p) refl))) (there_maybe v dict a.0, (there_maybe v key k, (there_maybe v x p, tt))) tt)

  pub merge_right : (v : View) (line : ℕ) (dict x : Value) → AnObject ADict v dict → IsThere v x → RightBy z r r 0 Anything v (operate (source z) line op.Merge (dict ∷ x ∷ []))
  merge_right v line dict x a p =
      anything z r 0 (OpGives op.Merge) v _ (operate_right z r line op.Merge (dict ∷ x ∷ []) v (λ w marks ok g. both _ _ (dict_fits v dict w marks g a.1) (both _ _ (value_fits v x w marks g p) refl)) (there_maybe v dict a.0, (there_maybe v x p, tt)) tt)

  pub as_tuple_right : (v : View) (line : ℕ) (list : Value) → IsThere v list → RightBy z r r 0 There v (as_tuple (source z) line list)
  as_tuple_right v line list p =
      value_right z r 0 0 There There v _ _ (omega arith) (native_right z r v line (codes "tuple") tuple_name)
      (λ c g w a.
      let q : IsThere g list = there_more v g w list p in
      there_right z r op.Call g _ (operate_right z r line op.Call (c ∷ list ∷ []) g (λ u marks ok f. both _ _ (value_fits g c u marks f a) (both _ _ (value_fits g list u marks f q) refl)) (there_maybe g c a, (there_maybe g list q, tt)) tt))

  -- the dict of a call's keywords, and what follows it
  pub keywords_begun_right : (n : ℕ) (K : Kind) (v : View) (line : ℕ) (d : Option Value) (k : Value → Rw) → Collects v d → ((x : Value) (g : View) → Grows v g → IsMarked Keywords g x → RightBy z r r n K g (k x)) → RightBy z r r n K v (keywords_begun (source z) line d k)
  keywords_begun_right n K v line (Some d) k p next = next d v (grows_refl v) p
  keywords_begun_right n K v line None k p next = value_right z r 0 n (IsMarked Keywords) K v _ k (omega arith) (keywords_right z r line v) next
