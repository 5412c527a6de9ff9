-- The key of a value stays as a sound heap grows.
use Rattle.std.proofs.Common.{◌≡◌, ℕ, zero, suc, List, [], ◌∷◌, Option, Some, true, false, refl, ap, ◌∙◌, length}
use Rattle.std.specs.Prelude.{slice_get}
use Rattle.nu_value.specs.declared.key.Atom.TheVariants as atom
use Rattle.nu_value.specs.declared.object.Object.{Object}
use Rattle.nu_value.specs.declared.object.Object.TheVariants as object
use Rattle.nu_value.specs.declared.value.Value.{Value}
use Rattle.nu_value.specs.declared.value.Value.TheVariants as value
use Rattle.nu_value.specs.Keyed.{Keyed, behind, keys_of, Kind, Many, builtin_kind, object_kind, kind_of, kind_key, key_by, tuple_key, key}
use Rattle.nu_value.specs.Pairs.{PairList}
use Rattle.op_forms.specs.Right.{Grows}
use Rattle.op_forms.specs.Sound.{IsIn, AllIn, AreKeyed, SoundHeap}

-- the items of a tuple are there
abbrev KindIn : List Object → Kind → Type 0
KindIn h (Many xs) = AllIn h xs
KindIn h k = Unit {0}

module _ (codes : ℕ) (h more : List Object) (s : SoundHeap codes h) (g : Grows h more) where
  builtin_in : (n : ℕ) (receiver : Value) → KindIn h (builtin_kind n receiver)
  builtin_in n value.Unset = tt
  builtin_in n v = tt

  kind_at : (n : ℕ) (o : Option Object) → slice_get h n ≡ o → KindIn h (object_kind n o)
  kind_at n (Some (object.Tuple xs)) e = (s.objects n (object.Tuple xs) e).0
  kind_at n (Some (object.Builtin name receiver)) e = builtin_in n receiver
  kind_at n o e = tt

  kind_in : (v : Value) → KindIn h (kind_of h v)
  kind_in (value.Obj n) = kind_at n (slice_get h n) refl
  kind_in (value.Bool true) = tt
  kind_in (value.Bool false) = tt
  kind_in v = tt

  kind_more : (v : Value) → IsIn h v → kind_of more v ≡ kind_of h v
  kind_more (value.Obj n) p = g.kinds n p
  kind_more (value.Bool true) p = refl
  kind_more (value.Bool false) p = refl
  kind_more v p = refl

  same_kind : (one other : List Value → Keyed) → ((xs : List Value) → AllIn h xs → one xs ≡ other xs) → (k : Kind) → KindIn h k → kind_key one k ≡ kind_key other k
  same_kind one other same (Many xs) p = same xs p
  same_kind one other same k p = refl

  by_more : (one other : List Value → Keyed) → ((xs : List Value) → AllIn h xs → one xs ≡ other xs) → (v : Value) → IsIn h v → key_by one more v ≡ key_by other h v
  by_more one other same v p = ap (kind_key one) (kind_more v p) ∙ same_kind one other same (kind_of h v) (kind_in v)

  keys_more : (one other : Value → Keyed) → ((v : Value) → IsIn h v → one v ≡ other v) → (xs : List Value) → AllIn h xs → keys_of one xs ≡ keys_of other xs
  keys_more one other same [] p = refl
  keys_more one other same (x ∷ xs) p = rw (same x p.0, keys_more one other same xs p.1) refl

  tuple_more : (room : ℕ) (xs : List Value) → AllIn h xs → tuple_key room more xs ≡ tuple_key room h xs
  unfolding tuple_key
  tuple_more zero xs p = refl
  tuple_more (suc room) xs p =
      ap (behind (atom.Tuple (length xs) ∷ [])) (keys_more _ _ (by_more (tuple_key room more) (tuple_key room h) (tuple_more room)) xs p)

  key_more : (v : Value) → IsIn h v → key more v ≡ key h v
  key_more v p = by_more (tuple_key 1000 more) (tuple_key 1000 h) (tuple_more 1000) v p

  pub keyed_more : ((v : Value) → IsIn h v → IsIn more v) → (ps : PairList) → AreKeyed h ps → AreKeyed more ps
  keyed_more f [] p = tt
  keyed_more f (x ∷ ps) p = ((f x.1 p.0.0, key_more x.1 p.0.0 ∙ p.0.1), keyed_more f ps p.1)
