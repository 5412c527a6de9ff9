-- The rows on dicts and their views (library reference, "Mapping Types").
use Rattle.std.specs.Prelude.{ℕ, List, [], ◌∷◌, ◌++◌, Option, Some, None, Ok, Err, Bool, true, false, ◌||◌, codes, if◌then◌else◌, remove, slice_get}
use Rattle.nu_value.specs.declared.key.Atom.{Atom}
use Rattle.nu_value.specs.declared.key.Atom.TheVariants as atom
use Rattle.nu_value.specs.declared.object.Object.{Object}
use Rattle.nu_value.specs.declared.object.Object.TheVariants as object
use Rattle.nu_value.specs.declared.value.Value.{Value}
use Rattle.nu_value.specs.declared.value.Value.TheVariants as value
use Rattle.nu_value.specs.Names.{NameList}
use Rattle.nu_value.specs.Pairs.{PairList, found_at, with_pair}
use Rattle.nu_value.specs.Same.{object_of}
use Rattle.nu_value.specs.View.{is_text}
use Rattle.op_forms.specs.declared.end.After.TheVariants as behind
use Rattle.op_forms.specs.declared.end.OpEnd.{OpEnd}
use Rattle.op_forms.specs.declared.end.OpEnd.TheVariants as opend
use Rattle.op_forms.specs.declared.op.Op.{Op}
use Rattle.op_forms.specs.declared.op.Op.TheVariants as op
use Rattle.op_forms.specs.Answers.{unbuilt}
use Rattle.op_forms.specs.Doing.{Put, Fit, Doing, nothing, ends, changes, makes}
use Rattle.op_forms.specs.Fits.{is_list, is_dict}
use Rattle.op_forms.specs.Signs.{sign_of}
use Rattle.op_rules.specs.Access.{no_item_changes, no_iterator}
use Rattle.op_rules.specs.Asking.{asks}
use Rattle.op_rules.specs.DictMethods.{method_call}
use Rattle.op_rules.specs.IntRows.{of_one, of_two}
use Rattle.op_rules.specs.Keys.{KeyOr, key_or_end, key_error}
use Rattle.op_rules.specs.Kinds.{no_operand, no_operands, no_order, type_error}
use Rattle.op_rules.specs.Views.{index_row, in_row, iter_row}

-- ---- `x[i] = v`: a key that is there keeps its place and the value first given for it

abbrev pub put_keyed : ℕ → Value → Value → KeyOr → Doing
put_keyed n i v (Ok k) = changes n (Put k i v)
put_keyed n i v (Err e) = ends e

abbrev pub setindex_on : List Object → ℕ → Value → Value → Option Object → Doing
setindex_on h n i v (Some (object.Dict pairs)) = put_keyed n i v (key_or_end h i)
setindex_on h n i v other = ends (no_item_changes h (value.Obj n))

abbrev pub setindex_row : List Object → Value → Value → Value → Doing
setindex_row h (value.Obj n) i v = setindex_on h n i v (slice_get h n)
setindex_row h x i v = ends (no_item_changes h x)

-- ---- `del x[i]`: the pairs behind it close up

abbrev pub remove_at : ℕ → PairList → Value → Option ℕ → Doing
remove_at n pairs i None = ends (key_error i)
remove_at n pairs i (Some place) = changes n (Fit (remove pairs place))

abbrev pub remove_keyed : ℕ → PairList → Value → KeyOr → Doing
remove_keyed n pairs i (Ok k) = remove_at n pairs i (found_at pairs k)
remove_keyed n pairs i (Err e) = ends e

abbrev pub delindex_on : List Object → ℕ → Value → Option Object → Doing
delindex_on h n i (Some (object.Dict pairs)) = remove_keyed n pairs i (key_or_end h i)
delindex_on h n i other = ends (no_item_changes h (value.Obj n))

abbrev pub delindex_row : List Object → Value → Value → Doing
delindex_row h (value.Obj n) i = delindex_on h n i (slice_get h n)
delindex_row h x i = ends (no_item_changes h x)

-- ---- `**x` of a display asks the built-in text to put the pairs of another dict

abbrev pub no_dict : OpEnd
no_dict = type_error (codes "argument must be a dict")

abbrev pub merge_row : List Object → Value → Value → OpEnd
merge_row h d x = if is_dict (object_of h x) then asks h (codes "_nu_update") (d ∷ x ∷ []) [] behind.Plain else no_dict

-- ---- keywords of a call: texts, each once

abbrev pub given_twice : List ℕ → OpEnd
given_twice text = type_error (codes "got multiple values for keyword argument '" ++ text ++ codes "'")

abbrev pub no_keyword : OpEnd
no_keyword = type_error (codes "keywords must be strings")

abbrev pub keyword_if : List ℕ → Option ℕ → KeyOr
keyword_if text None = Ok (atom.Str text ∷ [])
keyword_if text (Some place) = Err (given_twice text)

-- the key of a further keyword, or why it is none
abbrev pub keyword : PairList → Value → KeyOr
keyword pairs (value.Str text) = keyword_if text (found_at pairs (atom.Str text ∷ []))
keyword pairs other = Err no_keyword

abbrev pub keyput_on : ℕ → Value → Value → Option Object → Doing
keyput_on n k v (Some (object.Dict pairs)) = put_keyed n k v (keyword pairs k)
keyput_on n k v other = nothing

abbrev pub keyput_row : List Object → Value → Value → Value → Doing
keyput_row h (value.Obj n) k v = keyput_on n k v (slice_get h n)
keyput_row h d k v = nothing

-- pairs with further ones, up to the first that is refused
pub record Merged : Type 0 where
  pub pairs : PairList
  pub refused : Option OpEnd

abbrev pub outcome : PairList → Option OpEnd → Merged
outcome pairs refused = record { pairs = pairs; refused = refused }

abbrev pub merge_if : PairList → KeyOr → (List Atom → Merged) → Merged
merge_if pairs (Ok k) more = more k
merge_if pairs (Err e) more = outcome pairs (Some e)

abbrev pub merge_all : PairList → List (Value × Value) → Merged
merge_all pairs [] = outcome pairs None
merge_all pairs (q ∷ qs) = merge_if pairs (keyword pairs q.0) (λ k. merge_all (with_pair pairs k q.0 q.1) qs)

-- the values that stand for keys, and those that they map to
abbrev pub couples : PairList → List (Value × Value)
couples [] = []
couples (p ∷ ps) = (p.1, p.2) ∷ couples ps

abbrev pub none_or : Option OpEnd → OpEnd
none_or None = opend.Give value.None
none_or (Some e) = e

-- of a dict, why one of further pairs is refused
abbrev pub refused_in : Option Object → List (Value × Value) → Option OpEnd
refused_in (Some (object.Dict pairs)) qs = (merge_all pairs qs).refused
refused_in other qs = None

-- those before a refused one are there afterwards
abbrev pub keymerge_to : ℕ → Merged → Doing
keymerge_to n m = record { end = none_or m.refused; set = Some (n, Fit m.pairs); made = [] }

abbrev pub keymerge_on : ℕ → Option Object → Option Object → Doing
keymerge_on n (Some (object.Dict more)) (Some (object.Dict pairs)) = keymerge_to n (merge_all pairs (couples more))
keymerge_on n (Some (object.Dict more)) other = nothing
keymerge_on n x other = ends no_dict

abbrev pub keymerge_row : List Object → Value → Value → Doing
keymerge_row h (value.Obj n) x = keymerge_on n (object_of h x) (slice_get h n)
keymerge_row h d x = nothing

-- ---- operators: none has a result; those with a view, and `|` of a dict, aren't built

abbrev pub is_view : Option Object → Bool
is_view (Some (object.View dict kind)) = true
is_view other = false

abbrev pub has_view : List Object → Value → Value → Bool
has_view h a b = is_view (object_of h a) || is_view (object_of h b)

abbrev pub plain_pair : Op → List Object → Value → Value → OpEnd
plain_pair o h a b = if has_view h a b then unbuilt else no_operands (sign_of o) h a b

abbrev pub or_pair : List Object → Value → Value → OpEnd
or_pair h a b = if is_dict (object_of h a) then unbuilt else plain_pair op.Or h a b

-- `%` with a text on the left formats it, which is left out
abbrev pub mod_pair : List Object → Value → Value → OpEnd
mod_pair h a b = if is_text a then unbuilt else plain_pair op.Mod h a b

-- a list takes the keys
abbrev pub iadd_pair : List Object → Value → Value → OpEnd
iadd_pair h a b = if is_list (object_of h a) then asks h (codes "_nu_addto") (a ∷ b ∷ []) [] behind.Plain else plain_pair op.IAdd h a b

abbrev pub dict_order : Op → List Object → Value → Value → OpEnd
dict_order o h a b = if has_view h a b then unbuilt else no_order (sign_of o) h a b

abbrev pub dict_one : Op → List Object → Value → OpEnd
dict_one o h a = if is_view (object_of h a) then unbuilt else no_operand (sign_of o) h a

abbrev pub dict_operator : Op → List Object → List Value → OpEnd
dict_operator op.Add h args = of_two (plain_pair op.Add h) args
dict_operator op.Sub h args = of_two (plain_pair op.Sub h) args
dict_operator op.Mul h args = of_two (plain_pair op.Mul h) args
dict_operator op.FloorDiv h args = of_two (plain_pair op.FloorDiv h) args
dict_operator op.Mod h args = of_two (mod_pair h) args
dict_operator op.Pow h args = of_two (plain_pair op.Pow h) args
dict_operator op.LShift h args = of_two (plain_pair op.LShift h) args
dict_operator op.RShift h args = of_two (plain_pair op.RShift h) args
dict_operator op.And h args = of_two (plain_pair op.And h) args
dict_operator op.Or h args = of_two (or_pair h) args
dict_operator op.Xor h args = of_two (plain_pair op.Xor h) args
dict_operator op.IAdd h args = of_two (iadd_pair h) args
dict_operator op.IMul h args = of_two (plain_pair op.IMul h) args
dict_operator op.Lt h args = of_two (dict_order op.Lt h) args
dict_operator op.Le h args = of_two (dict_order op.Le h) args
dict_operator op.Gt h args = of_two (dict_order op.Gt h) args
dict_operator op.Ge h args = of_two (dict_order op.Ge h) args
dict_operator op.Neg h args = of_one (dict_one op.Neg h) args
dict_operator op.Pos h args = of_one (dict_one op.Pos h) args
dict_operator op.Inv h args = of_one (dict_one op.Inv h) args
dict_operator other h args = unbuilt

-- ---- the rows

-- dicts are made and filled
abbrev pub fill_row : Op → List Object → List Value → Doing
fill_row op.Dict h [] = makes h (object.Dict [])
fill_row op.Put h (d ∷ k ∷ v ∷ []) = setindex_row h d k v
fill_row op.Merge h (d ∷ x ∷ []) = ends (merge_row h d x)
fill_row op.KeyPut h (d ∷ k ∷ v ∷ []) = keyput_row h d k v
fill_row op.KeyMerge h (d ∷ x ∷ []) = keymerge_row h d x
fill_row o h args = nothing

-- items and iteration; slices aren't built
abbrev pub access_row : Op → List Object → List Value → Doing
access_row op.Index h (x ∷ i ∷ []) = ends (index_row h x i)
access_row op.SetIndex h (x ∷ i ∷ v ∷ []) = setindex_row h x i v
access_row op.DelIndex h (x ∷ i ∷ []) = delindex_row h x i
access_row op.Iter h (x ∷ []) = iter_row h x
access_row op.Next h (x ∷ []) = ends (no_iterator h x)
access_row op.In h (v ∷ x ∷ []) = ends (in_row h v x)
access_row o h args = nothing

abbrev pub dict_row : Op → List Object → List Value → Doing
dict_row op.Dict h args = fill_row op.Dict h args
dict_row op.Put h args = fill_row op.Put h args
dict_row op.Merge h args = fill_row op.Merge h args
dict_row op.KeyPut h args = fill_row op.KeyPut h args
dict_row op.KeyMerge h args = fill_row op.KeyMerge h args
dict_row op.Index h args = access_row op.Index h args
dict_row op.SetIndex h args = access_row op.SetIndex h args
dict_row op.DelIndex h args = access_row op.DelIndex h args
dict_row op.Slice h args = nothing
dict_row op.Iter h args = access_row op.Iter h args
dict_row op.Next h args = access_row op.Next h args
dict_row op.In h args = access_row op.In h args
dict_row o h args = ends (dict_operator o h args)

-- a built-in of this name, with its receiver or none, is called with arguments and keywords
abbrev pub dict_call : List Object → List ℕ → Value → List Value → NameList → Doing
dict_call h name receiver args names = method_call h name receiver args names
