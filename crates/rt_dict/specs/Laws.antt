-- Laws of the rows on dicts.
use Rattle.std.specs.Prelude.{◌≡◌, ◌≢◌, ℕ, List, [], ◌∷◌, ◌++◌, Option, Some, None, Ok, true, slice_get}
use Rattle.nu_value.specs.declared.key.Atom.{Atom}
use Rattle.nu_value.specs.declared.object.Object.{Object}
use Rattle.nu_value.specs.declared.object.Object.TheVariants as object
use Rattle.nu_value.specs.declared.value.Value.{Value}
use Rattle.nu_value.specs.declared.value.Value.TheVariants as value
use Rattle.nu_value.specs.Pairs.{PairList, found_at}
use Rattle.nu_value.specs.Same.{object_of}
use Rattle.op_forms.specs.declared.end.OpEnd.{OpEnd}
use Rattle.op_forms.specs.declared.end.OpEnd.TheVariants as opend
use Rattle.op_forms.specs.Doing.{heap_after}
use Rattle.op_forms.specs.Fits.{is_dict}
use Rattle.op_forms.specs.Sound.{AreKeysDistinct}
use Rattle.op_rules.specs.Comparisons.{give_bool}
use Rattle.op_rules.specs.DictMethods.{put_all}
use Rattle.op_rules.specs.Dicts.{setindex_row}
use Rattle.op_rules.specs.Keys.{key_or_end}
use Rattle.op_rules.specs.Views.{pairs_in, index_row, in_row}

-- an operation gives a value
abbrev pub Gives : OpEnd → Type 0
Gives (opend.Give v) = Unit {0}
Gives other = ⊥

-- `x in d` is true exactly where `d[x]` gives a value
pub record MembersAreKeys : Type 0 where
  pub given : (h : List Object) (d x : Value) → is_dict (object_of h d) ≡ true → in_row h x d ≡ give_bool true → Gives (index_row h d x)
  pub there : (h : List Object) (d x : Value) → is_dict (object_of h d) ≡ true → Gives (index_row h d x) → in_row h x d ≡ give_bool true

-- the keys in their order, each with the value that was first given for it
abbrev pub first_keys : PairList → List (List Atom × Value)
first_keys [] = []
first_keys (p ∷ ps) = (p.0, p.1) ∷ first_keys ps

-- the objects after `d[i] = v`, where the dict is that of a number
abbrev pub put_heap : List Object → ℕ → Value → Value → List Object
put_heap h n i v = heap_after h (setindex_row h (value.Obj n) i v)

abbrev pub pairs_after : List Object → ℕ → Value → Value → PairList
pairs_after h n i v = pairs_in (slice_get (put_heap h n i v) n)

-- `d[i] = v` in a dict with these pairs, where i has this key
pub record Puts (h : List Object) (n : ℕ) (pairs : PairList) (i : Value) (k : List Atom) : Type 0 where
  pub dict : slice_get h n ≡ Some (object.Dict pairs)
  pub key : key_or_end h i ≡ Ok k

-- a key that is there keeps its place and the value that was first given for it, and a new key comes last; then it maps to v, and
-- every other key to what it did
pub record KeysKeepTheirPlaces : Type 0 where
  pub stays : (h : List Object) (n : ℕ) (pairs : PairList) (i v : Value) (k : List Atom) (place : ℕ) → Puts h n pairs i k → found_at pairs k ≡ Some place → first_keys (pairs_after h n i v) ≡ first_keys pairs
  pub comes : (h : List Object) (n : ℕ) (pairs : PairList) (i v : Value) (k : List Atom) → Puts h n pairs i k → found_at pairs k ≡ None → first_keys (pairs_after h n i v) ≡ first_keys pairs ++ (k, i) ∷ []
  pub maps : (h : List Object) (n : ℕ) (pairs : PairList) (i v : Value) (k : List Atom) → Puts h n pairs i k → index_row (put_heap h n i v) (value.Obj n) i ≡ opend.Give v
  pub others : (h : List Object) (n : ℕ) (pairs : PairList) (i v j : Value) (k l : List Atom) → Puts h n pairs i k → key_or_end h j ≡ Ok l → k ≢ l → index_row (put_heap h n i v) (value.Obj n) j ≡ index_row h (value.Obj n) j

-- a copy has the same pairs
abbrev pub CopiesAreTheSame : Type 0
CopiesAreTheSame = (pairs : PairList) → AreKeysDistinct pairs → put_all [] pairs ≡ pairs
