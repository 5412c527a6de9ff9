-- Laws of binding: each parameter gets one value, and each argument goes to one parameter (reference, sections 6.3.4 and 8.7).
use Rattle.std.specs.Prelude.{◌≡◌, ◌+◌, ◌<◌, ◌≤◌, ℕ, zero, suc, List, [], ◌∷◌, Some, None, Bool, true, false, length, slice_get}
use Rattle.std.proofs.Math.ListN.{drop}
use Rattle.nu_value.specs.declared.header.ParamKind.{ParamKind}
use Rattle.nu_value.specs.declared.header.ParamKind.TheVariants as param
use Rattle.nu_value.specs.declared.key.Atom.{Atom}
use Rattle.nu_value.specs.declared.key.Atom.TheVariants as atom
use Rattle.nu_value.specs.declared.object.Object.{Object}
use Rattle.nu_value.specs.declared.object.Object.TheVariants as object
use Rattle.nu_value.specs.declared.value.Value.{Value}
use Rattle.nu_value.specs.declared.value.Value.TheVariants as value
use Rattle.nu_value.specs.Names.{NameList, AreDistinct, value_at}
use Rattle.nu_value.specs.Pairs.{PairList}
use Rattle.op_rules.specs.declared.binding.Named.{Named}
use Rattle.op_rules.specs.declared.binding.Named.TheVariants.{AtPlace, ByKey, NoName}
use Rattle.op_rules.specs.declared.binding.Bound.TheVariants.{Ready}
use Rattle.op_rules.specs.Binding.{ParamList, Call, is_placed, one_if, places, has_star, has_double, named, default_of, dict_number, bound_call}

abbrev pub next_placed : Bool → (ℕ → ℕ) → ℕ → ℕ
next_placed true rest zero = zero
next_placed true rest (suc place) = suc (rest place)
next_placed false rest place = suc (rest place)

-- the number, among all, of the parameter that has this place
abbrev pub index_of : ParamList → ℕ → ℕ
index_of [] place = zero
index_of (p ∷ ps) place = next_placed (is_placed p.0) (index_of ps) place

-- the place of the parameter that has this number among all
abbrev pub place_at : ParamList → ℕ → ℕ
place_at [] i = zero
place_at (p ∷ ps) zero = zero
place_at (p ∷ ps) (suc i) = one_if (is_placed p.0) + place_at ps i

-- the keywords that name no parameter
abbrev pub unnamed_one : Named → List ℕ × Value → NameList → NameList
unnamed_one NoName q rest = q ∷ rest
unnamed_one other q rest = rest

abbrev pub unnamed : ParamList → NameList → NameList
unnamed ps [] = []
unnamed ps (q ∷ qs) = unnamed_one (named ps 0 0 q.0) q (unnamed ps qs)

-- the pairs of a dict that has these keywords
abbrev pub pair_of : List ℕ × Value → List Atom × Value × Value
pair_of q = (atom.Str q.0 ∷ [], value.Str q.0, q.1)

abbrev pub pairs_of : NameList → PairList
pairs_of [] = []
pairs_of (q ∷ qs) = pair_of q ∷ pairs_of qs

-- a keyword's value is that of the parameter that it names, to which no positional argument goes
abbrev pub GoesTo : Call → List Value → Value → Named → Type 0
GoesTo c values v (AtPlace place) = (slice_get values (index_of c.params place) ≡ Some v) × (length c.args ≤ place)
GoesTo c values v (ByKey index) = slice_get values index ≡ Some v
-- one that names none has a double star to go to
GoesTo c values v NoName = has_double c.params ≡ true

-- a call with these values for its parameters, which makes these objects
pub record Binds (c : Call) (values : List Value) (made : List Object) : Type 0 where
  pub counted : length values ≡ length c.params
  -- a positional argument goes to the parameter of its place; behind all of these there has to be a star
  pub placed : (i : ℕ) (v : Value) → slice_get c.args i ≡ Some v → i < places c.params → slice_get values (index_of c.params i) ≡ Some v
  pub starred : places c.params < length c.args → has_star c.params ≡ true
  pub keyword : (i : ℕ) (name : List ℕ) (v : Value) → slice_get c.names i ≡ Some (name, v) → GoesTo c values v (named c.params 0 0 name)
  -- a parameter to which no argument goes has its default
  pub defaulted : (i : ℕ) (p : ParamKind × List ℕ) → slice_get c.params i ≡ Some p → is_placed p.0 ≡ true → length c.args ≤ place_at c.params i → value_at c.names p.1 ≡ None
      → slice_get values i ≡ default_of c.defaults (places c.params) (place_at c.params i)
  pub key_defaulted : (i : ℕ) (name : List ℕ) → slice_get c.params i ≡ Some (param.Key, name) → value_at c.names name ≡ None → slice_get values i ≡ value_at c.keywords name
  -- a star has the tuple of the positional arguments behind all places, and a double star the dict of the keywords that name no parameter, in their order
  pub star : (i : ℕ) (name : List ℕ) → slice_get c.params i ≡ Some (param.Star, name)
      → (slice_get values i ≡ Some (value.Obj c.first)) × (slice_get made 0 ≡ Some (object.Tuple (drop (places c.params) c.args)))
  pub double : (i : ℕ) (name : List ℕ) → slice_get c.params i ≡ Some (param.Double, name)
      → (slice_get values i ≡ Some (value.Obj (dict_number c))) × (slice_get made (one_if (has_star c.params)) ≡ Some (object.Dict (pairs_of (unnamed c.params c.names))))

abbrev pub EachArgumentHasItsParameter : Type 0
EachArgumentHasItsParameter = (scope : List ℕ) (c : Call) (values : List Value) → AreDistinct c.names → (bound_call scope c).bound ≡ Ready values → Binds c values (bound_call scope c).made
