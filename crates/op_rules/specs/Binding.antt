-- Binding: the values that a function's parameters get from a call (reference, sections 6.3.4 and 8.7).
use Rattle.std.specs.Prelude.{◌≡◌, ℕ, ◌+◌, ◌-◌, List, [], ◌∷◌, ◌++◌, Option, Some, None, Bool, true, false, ◌&&◌, ◌||◌, not, codes, if◌then◌else◌, nat_eq, nat_lt, nat_le, length, slice_get}
use Rattle.std.proofs.Math.ListN.{drop}
use Rattle.std.specs.Str.{bytes_eq}
use Rattle.nu_run.specs.declared.StopKind.TheVariants as stop
use Rattle.nu_value.specs.declared.header.Header.{Header}
use Rattle.nu_value.specs.declared.header.ParamKind.{ParamKind}
use Rattle.nu_value.specs.declared.header.ParamKind.TheVariants as param
use Rattle.nu_value.specs.declared.key.Atom.TheVariants as atom
use Rattle.nu_value.specs.declared.object.GenState.TheVariants as gen
use Rattle.nu_value.specs.declared.object.Object.{Object}
use Rattle.nu_value.specs.declared.object.Object.TheVariants as object
use Rattle.nu_value.specs.declared.value.Value.{Value}
use Rattle.nu_value.specs.declared.value.Value.TheVariants as value
use Rattle.nu_value.specs.Classes.{first_of}
use Rattle.nu_value.specs.Names.{NameList, value_at}
use Rattle.nu_value.specs.Pairs.{PairList, with_pair}
use Rattle.op_forms.specs.declared.end.After.{After}
use Rattle.op_forms.specs.declared.end.OpEnd.{OpEnd}
use Rattle.op_forms.specs.declared.end.OpEnd.TheVariants as opend
use Rattle.op_forms.specs.declared.world.World.{World}
use Rattle.op_forms.specs.Answers.{Answer, after}
use Rattle.op_forms.specs.Doing.{Doing, ends, answer}
use Rattle.op_rules.specs.declared.binding.Named.{Named}
use Rattle.op_rules.specs.declared.binding.Named.TheVariants.{AtPlace, ByKey, NoName}
use Rattle.op_rules.specs.declared.binding.Bound.{Bound}
use Rattle.op_rules.specs.declared.binding.Bound.TheVariants.{Ready, Raise, Stop}
use Rattle.op_rules.specs.Finish.{value_after}
use Rattle.op_rules.specs.TextRows.{size_limit}

abbrev pub ParamList : Type 0
ParamList = List (ParamKind × List ℕ)

-- the parameters and defaults of a function, what it is called with, and the number of the next object
pub record Call : Type 0 where
  pub params : ParamList
  pub defaults : List Value
  pub keywords : NameList
  pub args : List Value
  pub names : NameList
  pub first : ℕ

-- Which parameter an argument goes to

-- a parameter that a positional argument may go to
abbrev pub is_placed : ParamKind → Bool
is_placed param.Only = true
is_placed param.Plain = true
is_placed other = false

abbrev pub is_star : ParamKind → Bool
is_star param.Star = true
is_star other = false

abbrev pub is_double : ParamKind → Bool
is_double param.Double = true
is_double other = false

abbrev pub one_if : Bool → ℕ
one_if true = 1
one_if false = 0

-- how many parameters have places
abbrev pub places : ParamList → ℕ
places [] = 0
places (p ∷ ps) = one_if (is_placed p.0) + places ps

abbrev pub has_star : ParamList → Bool
has_star [] = false
has_star (p ∷ ps) = is_star p.0 || has_star ps

abbrev pub has_double : ParamList → Bool
has_double [] = false
has_double (p ∷ ps) = is_double p.0 || has_double ps

abbrev pub named_one : ParamKind → Bool → ℕ → ℕ → Named → Named
named_one param.Plain true place index rest = AtPlace place
named_one param.Key true place index rest = ByKey index
named_one kind is place index rest = rest

-- a keyword names the first parameter of its name that isn't positional-only: so many parameters with places, and of all kinds,
-- stand before these
abbrev pub named : ParamList → ℕ → ℕ → List ℕ → Named
named [] place index name = NoName
named (p ∷ ps) place index name = named_one p.0 (bytes_eq p.1 name) place index (named ps (one_if (is_placed p.0) + place) (1 + index) name)

abbrev pub is_at : Named → ℕ → Bool
is_at (AtPlace p) place = nat_eq p place
is_at other place = false

abbrev pub is_key : Named → ℕ → Bool
is_key (ByKey i) index = nat_eq i index
is_key other index = false

-- Errors

abbrev pub refused : List ℕ → Bound
refused text = Raise 35 (value.Str text ∷ [])

abbrev pub error : List ℕ → List ℕ → List ℕ → List ℕ → Bound
error scope front name back = refused (scope ++ front ++ name ++ back)

abbrev pub too_many : List ℕ → Bound
too_many scope = refused (scope ++ codes "() takes too many positional arguments")

-- the error of a keyword, if it has one: so many arguments are positional
abbrev pub keyword_error : List ℕ → ℕ → Bool → List ℕ → Named → Option Bound
keyword_error scope count double name (AtPlace place) = if nat_lt place count then Some (error scope (codes "() got multiple values for argument '") name (codes "'")) else None
keyword_error scope count double name (ByKey index) = None
keyword_error scope count double name NoName = if double then None else Some (error scope (codes "() got an unexpected keyword argument '") name (codes "'"))

abbrev pub first_error : Option Bound → Option Bound → Option Bound
first_error None other = other
first_error (Some b) other = Some b

abbrev pub keywords_error : List ℕ → ParamList → ℕ → NameList → Option Bound
keywords_error scope ps count [] = None
keywords_error scope ps count (q ∷ qs) =
    first_error (keyword_error scope count (has_double ps) q.0 (named ps 0 0 q.0)) (keywords_error scope ps count qs)

-- Values

-- the default of a place: the last value for the last place, and so on backwards
abbrev pub default_of : List Value → ℕ → ℕ → Option Value
default_of defaults count place = if nat_le count (place + length defaults) then slice_get defaults (place + length defaults - count) else None

abbrev pub value_if : Bool → Option Value → Option Value
value_if b None = None
value_if b (Some v) = if b then Some v else None

-- The value of a parameter, before which so many with places and of all kinds stand: a positional argument, a keyword that names
-- it, or its default. `count` parameters have places; a star's tuple and a double star's dict have these numbers.
abbrev pub value_by : ℕ → ParamList → List Value → NameList → List Value → NameList → ℕ → ℕ → ℕ → ℕ → ParamKind × List ℕ → Option Value
value_by count params defaults keywords args names tuple dict place index (param.Only, name) =
    first_of (slice_get args place) (default_of defaults count place)
value_by count params defaults keywords args names tuple dict place index (param.Plain, name) =
    first_of (slice_get args place) (first_of (value_if (is_at (named params 0 0 name) place) (value_at names name)) (default_of defaults count place))
value_by count params defaults keywords args names tuple dict place index (param.Star, name) = Some (value.Obj tuple)
value_by count params defaults keywords args names tuple dict place index (param.Key, name) =
    first_of (value_if (is_key (named params 0 0 name) index) (value_at names name)) (value_at keywords name)
value_by count params defaults keywords args names tuple dict place index (param.Double, name) = Some (value.Obj dict)

-- the values of all parameters, or the first that has none
pub data Values : Type 0 where
  All : (values : List Value) → Values
  Missing : (name : List ℕ) → Values

abbrev pub and_one : Value → Values → Values
and_one v (All vs) = All (v ∷ vs)
and_one v (Missing name) = Missing name

abbrev pub with_one : List ℕ → Option Value → Values → Values
with_one name None rest = Missing name
with_one name (Some v) rest = and_one v rest

abbrev pub values_by : ℕ → ParamList → List Value → NameList → List Value → NameList → ℕ → ℕ → ℕ → ℕ → ParamList → Values
values_by count params defaults keywords args names tuple dict place index [] = All []
values_by count params defaults keywords args names tuple dict place index (p ∷ ps) =
    with_one p.1 (value_by count params defaults keywords args names tuple dict place index p)
    (values_by count params defaults keywords args names tuple dict (one_if (is_placed p.0) + place) (1 + index) ps)

-- for code: these values were put behind others, or this parameter has none
abbrev pub Filled : Values → List Value → List Value → Option (List ℕ) → Type 0
Filled (All vs) old new missing = (missing ≡ None) × (new ≡ old ++ vs)
Filled (Missing name) old new missing = missing ≡ Some name

abbrev pub dict_number : Call → ℕ
dict_number c = one_if (has_star c.params) + c.first

abbrev pub value_for : Call → ℕ → ℕ → ParamKind × List ℕ → Option Value
value_for c place index p = value_by (places c.params) c.params c.defaults c.keywords c.args c.names c.first (dict_number c) place index p

abbrev pub values_from : Call → ℕ → ℕ → ParamList → Values
values_from c place index ps = values_by (places c.params) c.params c.defaults c.keywords c.args c.names c.first (dict_number c) place index ps

-- What a star and a double star collect

abbrev pub left_one : Named → List ℕ × Value → PairList → PairList
left_one NoName q pairs = with_pair pairs (atom.Str q.0 ∷ []) (value.Str q.0) q.1
left_one other q pairs = pairs

-- the keywords that name no parameter, put into pairs
abbrev pub left_over : ParamList → NameList → PairList → PairList
left_over ps [] pairs = pairs
left_over ps (q ∷ qs) pairs = left_over ps qs (left_one (named ps 0 0 q.0) q pairs)

abbrev pub star_tuple : Call → List Object
star_tuple c = if has_star c.params then object.Tuple (drop (places c.params) c.args) ∷ [] else []

abbrev pub double_dict : Call → List Object
double_dict c = if has_double c.params then object.Dict (left_over c.params c.names []) ∷ [] else []

abbrev pub collected : Call → List Object
collected c = star_tuple c ++ double_dict c

-- the star's tuple is within the limit
abbrev pub fits_star : Call → Bool
fits_star c = not (has_star c.params) || nat_le (length c.args - places c.params) size_limit

-- The binding

abbrev pub bound_values : List ℕ → Call → Values → Bound
bound_values scope c (Missing name) = error scope (codes "() missing argument '") name (codes "'")
bound_values scope c (All values) = if fits_star c then Ready values else Stop stop.Size

abbrev pub bound_or : Option Bound → Bound → Bound
bound_or None b = b
bound_or (Some e) b = e

-- first the number of positional arguments is tested, then each keyword, then that each parameter has a value, then the size of
-- the star's tuple
abbrev pub binding : List ℕ → Call → Bound
binding scope c =
    if nat_lt (places c.params) (length c.args) && not (has_star c.params) then too_many scope
    else bound_or (keywords_error scope c.params (length c.args) c.names) (bound_values scope c (values_from c 0 0 c.params))

abbrev pub call_of : ParamList → List Value → NameList → List Value → NameList → ℕ → Call
call_of params defaults keywords args names first =
    record { params = params; defaults = defaults; keywords = keywords; args = args; names = names; first = first }

-- a binding, and the objects that it makes
pub record Binding : Type 0 where
  pub bound : Bound
  pub made : List Object

abbrev pub made_by : Bound → Call → List Object
made_by (Ready values) c = collected c
made_by other c = []

abbrev pub bound_call : List ℕ → Call → Binding
bound_call scope c = record { bound = binding scope c; made = made_by (binding scope c) c }

abbrev pub no_function : Binding
no_function = record { bound = Stop stop.Unbuilt; made = [] }

abbrev pub bound_code : ℕ → List Value → NameList → List Value → NameList → Option Header → Binding
bound_code number defaults keywords args names None = no_function
bound_code number defaults keywords args names (Some header) = bound_call header.scope (call_of header.params defaults keywords args names number)

abbrev pub bound_object : List Header → ℕ → List Value → NameList → Option Object → Binding
bound_object headers number args names (Some (object.Function code defaults keywords cells)) =
    bound_code number defaults keywords args names (slice_get headers code)
bound_object headers number args names other = no_function

-- a function is bound to positional arguments and keywords
abbrev pub bound_function : List Object → List Header → ℕ → List Value → NameList → Binding
bound_function h headers f args names = bound_object headers (length h) args names (slice_get h f)

-- Functions that are asked

-- a generator function makes a generator of its code and cells
abbrev pub generator_if : ℕ → List Value → Option Header → Option (ℕ × List Value)
generator_if code cells None = None
generator_if code cells (Some header) = if header.generator then Some (code, cells) else None

abbrev pub generator_of : List Header → Option Object → Option (ℕ × List Value)
generator_of headers (Some (object.Function code defaults keywords cells)) = generator_if code cells (slice_get headers code)
generator_of headers other = None

-- Once it is bound a function begins, behind so many objects; but a new generator is the value of the call, and what stands behind
-- the call follows at once.
abbrev pub begun : ℕ → After → ℕ → Option (ℕ × List Value) → Bound → List Object → Doing
begun f a number generator (Raise n args) made = ends (opend.Raise n args)
begun f a number generator (Stop kind) made = ends (opend.Stop kind)
begun f a number None (Ready values) made = record { end = opend.Ask f values [] a; set = None; made = made }
begun f a number (Some g) (Ready values) made =
    record {
      end = value_after a (value.Obj (length made + number));
      set = None;
      made = made ++ object.Generator g.0 gen.Fresh values g.1 ∷ [];
    }

abbrev pub begun_with : World → ℕ → After → Binding → Doing
begun_with w f a b = begun f a (length w.heap) (generator_of w.codes (slice_get w.heap f)) b.bound b.made

-- a function is asked: it is bound, and begins
abbrev pub bind : World → ℕ → List Value → NameList → After → Doing
bind w f args names a = begun_with w f a (bound_function w.heap w.codes f args names)

-- what an end of an operation becomes: a function that it asks is bound, and every other end stays as it is
abbrev pub bound_end : World → OpEnd → Doing
bound_end w (opend.Ask f args names a) = bind w f args names a
bound_end w other = ends other

-- an end that may ask, and the objects then
abbrev pub bound : World → Answer → Answer
bound w x = let w' : World = after w x in answer w' (bound_end w' x.end)
