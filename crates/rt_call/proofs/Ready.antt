-- What a binding that is ready gives to each parameter.
use Rattle.std.proofs.Common.{◌≡◌, ℕ, zero, suc, ◌+◌, ◌<◌, ◌≤◌, List, [], ◌∷◌, ◌++◌, Option, Some, None, Bool, true, false, refl, sym, ap, subst, ◌∙◌, arith, length}
use Rattle.std.specs.Prelude.{◌&&◌, ◌||◌, not, if◌then◌else◌, nat_eq, nat_lt, slice_get}
use Rattle.std.specs.Str.{bytes_eq}
use Rattle.std.proofs.Math.ListN.{drop}
use Rattle.std.proofs.lemmas.Bool.Decides.{nat_tests}
use Rattle.std.proofs.lemmas.Option.{slice_get_past}
use Rattle.std.proofs.lemmas.Slice.Eq.{bytes_eq-Decides}
use Rattle.nu_value.specs.declared.header.ParamKind.{ParamKind}
use Rattle.nu_value.specs.declared.header.ParamKind.TheVariants as param
use Rattle.nu_value.specs.declared.object.Object.{Object}
use Rattle.nu_value.specs.declared.object.Object.TheVariants as object
use Rattle.nu_value.specs.declared.value.Value.{Value}
use Rattle.nu_value.specs.Classes.{first_of}
use Rattle.nu_value.specs.Names.{NameList, AreDistinct, value_at}
use Rattle.nu_value.proofs.Distinct.{place_is}
use Rattle.op_rules.specs.declared.binding.Named.{Named}
use Rattle.op_rules.specs.declared.binding.Named.TheVariants.{AtPlace, ByKey, NoName}
use Rattle.op_rules.specs.declared.binding.Bound.{Bound}
use Rattle.op_rules.specs.declared.binding.Bound.TheVariants.{Ready, Raise, Stop}
use Rattle.op_rules.specs.Binding.{ParamList, Call, is_placed, is_star, is_double, one_if, places, has_star, has_double, named_one, named, too_many, keyword_error, first_error, keywords_error, default_of, value_for, Values, All, Missing, and_one, with_one, values_from, collected, made_by, bound_call, fits_star, bound_values, bound_or, binding}
use Rattle.op_rules.proofs.Begun.{Counts, binding_counts, IsError, keywords_err}
use Rattle.rt_call.specs.Laws.{next_placed, index_of, place_at, unnamed, pairs_of, GoesTo, Binds, EachArgumentHasItsParameter}
use Rattle.rt_call.proofs.LeftOver.{left_pairs}

-- ---- what is ready

record IsReady (scope : List ℕ) (c : Call) (values : List Value) : Type 0 where
  room : (nat_lt (places c.params) (length c.args) && not (has_star c.params)) ≡ false
  keywords : keywords_error scope c.params (length c.args) c.names ≡ None
  given : values_from c 0 0 c.params ≡ All values

fits_ready : (b : Bool) (vs values : List Value) (kind : Bound) → (if b then Ready vs else kind) ≡ Ready values → (kind ≡ Ready values → ⊥) → vs ≡ values
fits_ready true vs values kind e f = cc
fits_ready false vs values kind e f = absurd (f e)

values_ready : (scope : List ℕ) (c : Call) (x : Values) (values : List Value) → bound_values scope c x ≡ Ready values → x ≡ All values
values_ready scope c (Missing name) values e = absurd (cc)
values_ready scope c (All vs) values e = ap All (fits_ready (fits_star c) vs values (Stop _) e (λ f. absurd (cc)))

or_ready : (x : Option Bound) (b : Bound) (values : List Value) → IsError x → bound_or x b ≡ Ready values → (x ≡ None) × (b ≡ Ready values)
or_ready None b values p e = (refl, e)
or_ready (Some (Ready vs)) b values p e = absurd p
or_ready (Some (Raise n args)) b values p e = absurd (cc)
or_ready (Some (Stop kind)) b values p e = absurd (cc)

if_ready : (b : Bool) (x y : Bound) (values : List Value) → (if b then x else y) ≡ Ready values → (x ≡ Ready values → ⊥) → (b ≡ false) × (y ≡ Ready values)
if_ready true x y values e f = absurd (f e)
if_ready false x y values e f = (refl, e)

is_ready : (scope : List ℕ) (c : Call) (values : List Value) → binding scope c ≡ Ready values → IsReady scope c values
is_ready scope c values e =
    let p : ((nat_lt (places c.params) (length c.args) && not (has_star c.params)) ≡ false) × (bound_or (keywords_error scope c.params (length c.args) c.names) (bound_values scope c (values_from c 0 0 c.params)) ≡ Ready values) =
    if_ready (nat_lt (places c.params) (length c.args) && not (has_star c.params)) (too_many scope) _ values e (λ f. absurd (cc)) in
    let q : (keywords_error scope c.params (length c.args) c.names ≡ None) × (bound_values scope c (values_from c 0 0 c.params) ≡ Ready values) = or_ready _ _ values (keywords_err scope c.params (length c.args) c.names) p.1 in
    record { room = p.0; keywords = q.0; given = values_ready scope c _ values q.1 }

-- ---- values, one by one

record Splits (name : List ℕ) (x : Option Value) (rest : Values) (vs : List Value) : Type 0 where
  value : Value
  values : List Value
  first : x ≡ Some value
  others : rest ≡ All values
  all : vs ≡ value ∷ values

and_splits : (name : List ℕ) (v : Value) (rest : Values) (vs : List Value) → and_one v rest ≡ All vs → Splits name (Some v) rest vs
and_splits name v (All us) vs e = record { value = v; values = us; first = refl; others = refl; all = cc }
and_splits name v (Missing other) vs e = absurd (cc)

splits : (name : List ℕ) (x : Option Value) (rest : Values) (vs : List Value) → with_one name x rest ≡ All vs → Splits name x rest vs
splits name None rest vs e = absurd (cc)
splits name (Some v) rest vs e = and_splits name v rest vs e

at_head : (vs us : List Value) (u v : Value) → vs ≡ u ∷ us → u ≡ v → slice_get vs zero ≡ Some v
at_head vs us u v e f = ap (λ l. slice_get l zero) e ∙ ap Some f

at_tail : (vs us : List Value) (u v : Value) (i : ℕ) → vs ≡ u ∷ us → slice_get us i ≡ Some v → slice_get vs (suc i) ≡ Some v
at_tail vs us u v i e f = ap (λ l. slice_get l (suc i)) e ∙ f

the_same : (x : Option Value) (u v : Value) → x ≡ Some u → x ≡ Some v → u ≡ v
the_same x u v e f = let g : Some u ≡ Some v = sym e ∙ f in cc

first_given : (a b : Option Value) (v : Value) → a ≡ Some v → first_of a b ≡ Some v
first_given a b v e = ap (λ x. first_of x b) e

module _ (c : Call) where
  -- ---- positional arguments

  only_placed : (place index : ℕ) (name : List ℕ) (v : Value) → slice_get c.args place ≡ Some v → value_for c place index (param.Only, name) ≡ Some v
  only_placed place index name v e = first_given (slice_get c.args place) _ v e

  plain_placed : (place index : ℕ) (name : List ℕ) (v : Value) → slice_get c.args place ≡ Some v → value_for c place index (param.Plain, name) ≡ Some v
  plain_placed place index name v e = first_given (slice_get c.args place) _ v e

  value_placed : (place index : ℕ) (p : ParamKind × List ℕ) (v : Value) → is_placed p.0 ≡ true → slice_get c.args place ≡ Some v → value_for c place index p ≡ Some v
  value_placed place index (param.Only, name) v i e = only_placed place index name v e
  value_placed place index (param.Plain, name) v i e = plain_placed place index name v e
  value_placed place index (param.Star, name) v i e = absurd (cc)
  value_placed place index (param.Key, name) v i e = absurd (cc)
  value_placed place index (param.Double, name) v i e = absurd (cc)

  step_placed : (b : Bool) (place : ℕ) (f : ℕ → ℕ) (room : ℕ) (vs us : List Value) (u : Value) → vs ≡ u ∷ us → ((i : ℕ) (v : Value) → slice_get c.args (i + (one_if b + place)) ≡ Some v → i < room → slice_get us (f i) ≡ Some v) → ((v : Value) → b ≡ true → slice_get c.args place ≡ Some v → u ≡ v)
      → (i : ℕ) (v : Value) → slice_get c.args (i + place) ≡ Some v → i < one_if b + room → slice_get vs (next_placed b f i) ≡ Some v
  step_placed true place f room vs us u e rest head zero v at small =
      at_head vs us u v e (head v refl (subst (λ n. slice_get c.args n ≡ Some v) (omega arith) at))
  step_placed true place f room vs us u e rest head (suc i) v at small =
      at_tail vs us u v (f i) e (rest i v (subst (λ n. slice_get c.args n ≡ Some v) (omega arith) at) (omega (arith, small)))
  step_placed false place f room vs us u e rest head i v at small =
      at_tail vs us u v (f i) e (rest i v (subst (λ n. slice_get c.args n ≡ Some v) (omega arith) at) (omega (arith, small)))

  placed_at : (place index : ℕ) (ps : ParamList) (vs : List Value) → values_from c place index ps ≡ All vs → (i : ℕ) (v : Value) → slice_get c.args (i + place) ≡ Some v → i < places ps → slice_get vs (index_of ps i) ≡ Some v
  placed_at place index [] vs e i v at small = absurd (omega (arith, small))
  placed_at place index (p ∷ ps) vs e i v at small =
      let s : Splits p.1 (value_for c place index p) (values_from c (one_if (is_placed p.0) + place) (1 + index) ps) vs = splits p.1 (value_for c place index p) _ vs e in
      step_placed (is_placed p.0) place (index_of ps) (places ps) vs s.values s.value s.all (placed_at (one_if (is_placed p.0) + place) (1 + index) ps s.values s.others)
      (λ u b there. the_same (value_for c place index p) s.value u s.first (value_placed place index p u b there)) i v at small

  -- ---- keywords

  module _ (name : List ℕ) (v : Value) (there : value_at c.names name ≡ Some v) where
    same_name : (own : List ℕ) → bytes_eq own name ≡ true → own ≡ name
    same_name own e = (bytes_eq-Decides own name).0 e

    -- the keyword of an ordinary parameter whose place no positional argument has
    plain_keyword : (place index : ℕ) → named c.params 0 0 name ≡ AtPlace place → slice_get c.args place ≡ None → value_for c place index (param.Plain, name) ≡ Some v
    plain_keyword place index n free =
        let self : nat_eq place place ≡ true = grind (arith, nat_tests) in rw (free, n, there, self) refl

    key_keyword : (place index : ℕ) → named c.params 0 0 name ≡ ByKey index → value_for c place index (param.Key, name) ≡ Some v
    key_keyword place index n =
        let self : nat_eq index index ≡ true = grind (arith, nat_tests) in rw (n, there, self) refl

    record AtPlaceIn (place p : ℕ) (f : ℕ → ℕ) (vs : List Value) : Type 0 where
      step : ℕ
      sum : p ≡ step + place
      at : slice_get vs (f step) ≡ Some v

    later_place : (b : Bool) (place p : ℕ) (f : ℕ → ℕ) (vs us : List Value) (u : Value) → vs ≡ u ∷ us → AtPlaceIn (one_if b + place) p f us → AtPlaceIn place p (next_placed b f) vs
    later_place true place p f vs us u e r = record { step = suc r.step; sum = omega (arith, r.sum); at = at_tail vs us u v (f r.step) e r.at }
    later_place false place p f vs us u e r = record { step = r.step; sum = omega (arith, r.sum); at = at_tail vs us u v (f r.step) e r.at }

    module _ (p : ℕ) (n : named c.params 0 0 name ≡ AtPlace p) (free : slice_get c.args p ≡ None) where
      here_place : (own : List ℕ) (place index : ℕ) (f : ℕ → ℕ) (vs us : List Value) (u : Value) → bytes_eq own name ≡ true → place ≡ p → value_for c place index (param.Plain, own) ≡ Some u → vs ≡ u ∷ us → AtPlaceIn place p (next_placed true f) vs
      here_place own place index f vs us u is same first all =
          let n' : named c.params 0 0 name ≡ AtPlace place = n ∙ ap AtPlace (sym same) in
          let free' : slice_get c.args place ≡ None = ap (slice_get c.args) same ∙ free in
          let value : value_for c place index (param.Plain, name) ≡ Some u = subst (λ o. value_for c place index (param.Plain, o) ≡ Some u) (same_name own is) first in
          record { step = zero; sum = omega (arith, same); at = at_head vs us u v all (the_same _ u v value (plain_keyword place index n' free')) }

      plain_at : (b : Bool) (own : List ℕ) (place index : ℕ) (ps : ParamList) (vs us : List Value) (u : Value) → bytes_eq own name ≡ b → named_one param.Plain b place index (named ps (1 + place) (1 + index) name) ≡ AtPlace p → value_for c place index (param.Plain, own) ≡ Some u → vs ≡ u ∷ us
          → (named ps (1 + place) (1 + index) name ≡ AtPlace p → AtPlaceIn (1 + place) p (index_of ps) us) → AtPlaceIn place p (next_placed true (index_of ps)) vs
      plain_at true own place index ps vs us u is e first all rest = let same : place ≡ p = cc in here_place own place index (index_of ps) vs us u is same first all
      plain_at false own place index ps vs us u is e first all rest = later_place true place p (index_of ps) vs us u all (rest e)

      key_at : (b : Bool) (place index : ℕ) (ps : ParamList) (vs us : List Value) (u : Value) → named_one param.Key b place index (named ps (0 + place) (1 + index) name) ≡ AtPlace p → vs ≡ u ∷ us
          → (named ps (0 + place) (1 + index) name ≡ AtPlace p → AtPlaceIn (0 + place) p (index_of ps) us) → AtPlaceIn place p (next_placed false (index_of ps)) vs
      key_at true place index ps vs us u e all rest = absurd (cc)
      key_at false place index ps vs us u e all rest = later_place false place p (index_of ps) vs us u all (rest e)

      keyword_place : (place index : ℕ) (ps : ParamList) (vs : List Value) → values_from c place index ps ≡ All vs → named ps place index name ≡ AtPlace p → AtPlaceIn place p (index_of ps) vs
      keyword_place place index [] vs e is = absurd (cc)
      keyword_place place index ((param.Only, own) ∷ ps) vs e is =
          let s = splits own (value_for c place index (param.Only, own)) _ vs e in
          later_place true place p (index_of ps) vs s.values s.value s.all (keyword_place (1 + place) (1 + index) ps s.values s.others is)
      keyword_place place index ((param.Plain, own) ∷ ps) vs e is =
          let s = splits own (value_for c place index (param.Plain, own)) _ vs e in
          plain_at (bytes_eq own name) own place index ps vs s.values s.value refl is s.first s.all (keyword_place (1 + place) (1 + index) ps s.values s.others)
      keyword_place place index ((param.Star, own) ∷ ps) vs e is =
          let s = splits own (value_for c place index (param.Star, own)) _ vs e in
          later_place false place p (index_of ps) vs s.values s.value s.all (keyword_place (0 + place) (1 + index) ps s.values s.others is)
      keyword_place place index ((param.Key, own) ∷ ps) vs e is =
          let s = splits own (value_for c place index (param.Key, own)) _ vs e in
          key_at (bytes_eq own name) place index ps vs s.values s.value is s.all (keyword_place (0 + place) (1 + index) ps s.values s.others)
      keyword_place place index ((param.Double, own) ∷ ps) vs e is =
          let s = splits own (value_for c place index (param.Double, own)) _ vs e in
          later_place false place p (index_of ps) vs s.values s.value s.all (keyword_place (0 + place) (1 + index) ps s.values s.others is)

      at_its_place : (values : List Value) → values_from c 0 0 c.params ≡ All values → slice_get values (index_of c.params p) ≡ Some v
      at_its_place values e =
          let r : AtPlaceIn 0 p (index_of c.params) values = keyword_place 0 0 c.params values e n in
          subst (λ i. slice_get values (index_of c.params i) ≡ Some v) (omega (arith, r.sum)) r.at

    record AtIndexIn (index i : ℕ) (vs : List Value) : Type 0 where
      step : ℕ
      sum : i ≡ step + index
      at : slice_get vs step ≡ Some v

    later_index : (index i : ℕ) (vs us : List Value) (u : Value) → vs ≡ u ∷ us → AtIndexIn (1 + index) i us → AtIndexIn index i vs
    later_index index i vs us u e r = record { step = suc r.step; sum = omega (arith, r.sum); at = at_tail vs us u v r.step e r.at }

    module _ (i : ℕ) (n : named c.params 0 0 name ≡ ByKey i) where
      here_index : (own : List ℕ) (place index : ℕ) (vs us : List Value) (u : Value) → bytes_eq own name ≡ true → index ≡ i → value_for c place index (param.Key, own) ≡ Some u → vs ≡ u ∷ us → AtIndexIn index i vs
      here_index own place index vs us u is same first all =
          let n' : named c.params 0 0 name ≡ ByKey index = n ∙ ap ByKey (sym same) in
          let value : value_for c place index (param.Key, name) ≡ Some u = subst (λ o. value_for c place index (param.Key, o) ≡ Some u) (same_name own is) first in
          record { step = zero; sum = omega (arith, same); at = at_head vs us u v all (the_same _ u v value (key_keyword place index n')) }

      key_index : (b : Bool) (own : List ℕ) (place index : ℕ) (rest : Named) (vs us : List Value) (u : Value) → bytes_eq own name ≡ b → named_one param.Key b place index rest ≡ ByKey i → value_for c place index (param.Key, own) ≡ Some u → vs ≡ u ∷ us
          → (rest ≡ ByKey i → AtIndexIn (1 + index) i us) → AtIndexIn index i vs
      key_index true own place index rest vs us u is e first all f = let same : index ≡ i = cc in here_index own place index vs us u is same first all
      key_index false own place index rest vs us u is e first all f = later_index index i vs us u all (f e)

      plain_index : (b : Bool) (place index : ℕ) (rest : Named) (vs us : List Value) (u : Value) → named_one param.Plain b place index rest ≡ ByKey i → vs ≡ u ∷ us
          → (rest ≡ ByKey i → AtIndexIn (1 + index) i us) → AtIndexIn index i vs
      plain_index true place index rest vs us u e all f = absurd (cc)
      plain_index false place index rest vs us u e all f = later_index index i vs us u all (f e)

      keyword_index : (place index : ℕ) (ps : ParamList) (vs : List Value) → values_from c place index ps ≡ All vs → named ps place index name ≡ ByKey i → AtIndexIn index i vs
      keyword_index place index [] vs e is = absurd (cc)
      keyword_index place index ((param.Only, own) ∷ ps) vs e is =
          let s = splits own (value_for c place index (param.Only, own)) _ vs e in
          later_index index i vs s.values s.value s.all (keyword_index (1 + place) (1 + index) ps s.values s.others is)
      keyword_index place index ((param.Plain, own) ∷ ps) vs e is =
          let s = splits own (value_for c place index (param.Plain, own)) _ vs e in
          plain_index (bytes_eq own name) place index _ vs s.values s.value is s.all (keyword_index (1 + place) (1 + index) ps s.values s.others)
      keyword_index place index ((param.Star, own) ∷ ps) vs e is =
          let s = splits own (value_for c place index (param.Star, own)) _ vs e in
          later_index index i vs s.values s.value s.all (keyword_index (0 + place) (1 + index) ps s.values s.others is)
      keyword_index place index ((param.Key, own) ∷ ps) vs e is =
          let s = splits own (value_for c place index (param.Key, own)) _ vs e in
          key_index (bytes_eq own name) own place index _ vs s.values s.value refl is s.first s.all (keyword_index (0 + place) (1 + index) ps s.values s.others)
      keyword_index place index ((param.Double, own) ∷ ps) vs e is =
          let s = splits own (value_for c place index (param.Double, own)) _ vs e in
          later_index index i vs s.values s.value s.all (keyword_index (0 + place) (1 + index) ps s.values s.others is)

      at_its_index : (values : List Value) → values_from c 0 0 c.params ≡ All values → slice_get values i ≡ Some v
      at_its_index values e =
          let r : AtIndexIn 0 i values = keyword_index 0 0 c.params values e n in
          subst (λ k. slice_get values k ≡ Some v) (omega (arith, r.sum)) r.at

-- ---- a keyword without an error

first_none : (x y : Option Bound) → first_error x y ≡ None → (x ≡ None) × (y ≡ None)
first_none None y e = (refl, e)
first_none (Some b) y e = absurd (cc)

keyword_none : (scope : List ℕ) (ps : ParamList) (count : ℕ) (qs : NameList) → keywords_error scope ps count qs ≡ None → (i : ℕ) (name : List ℕ) (v : Value) → slice_get qs i ≡ Some (name, v) → keyword_error scope count (has_double ps) name (named ps 0 0 name) ≡ None
keyword_none scope ps count [] e i name v at = absurd (cc)
keyword_none scope ps count (q ∷ qs) e zero name v at =
    let is : q ≡ (name, v) = cc in
    subst (λ x. keyword_error scope count (has_double ps) x.0 (named ps 0 0 x.0) ≡ None) is (first_none _ _ e).0
keyword_none scope ps count (q ∷ qs) e (suc i) name v at = keyword_none scope ps count qs (first_none _ _ e).1 i name v at

no_error_false : (b : Bool) (x : Bound) → (if b then Some x else None) ≡ None → b ≡ false
no_error_false true x e = absurd (cc)
no_error_false false x e = refl

no_error_true : (b : Bool) (x : Bound) → (if b then None else Some x) ≡ None → b ≡ true
no_error_true true x e = refl
no_error_true false x e = absurd (cc)

not_below : (p n : ℕ) → nat_lt p n ≡ false → n ≤ p
not_below p n e = grind (arith, nat_tests)

goes : (scope : List ℕ) (c : Call) (values : List Value) → values_from c 0 0 c.params ≡ All values → (name : List ℕ) (v : Value) → value_at c.names name ≡ Some v → (n : Named) → named c.params 0 0 name ≡ n → keyword_error scope (length c.args) (has_double c.params) name n ≡ None → GoesTo c values v n
goes scope c values given name v there (AtPlace p) is none =
    let free : length c.args ≤ p = not_below p (length c.args) (no_error_false (nat_lt p (length c.args)) _ none) in
    (at_its_place c name v there p is (slice_get_past c.args p free) values given, free)
goes scope c values given name v there (ByKey i) is none = at_its_index c name v there i is values given
goes scope c values given name v there NoName is none = no_error_true (has_double c.params) _ none

-- a keyword stands once among distinct names
value_there : (qs : NameList) (i : ℕ) (name : List ℕ) (v : Value) → AreDistinct qs → slice_get qs i ≡ Some (name, v) → value_at qs name ≡ Some v
value_there qs i name v d at =
    let self : bytes_eq name name ≡ true = (bytes_eq-Decides name name).1 refl in
    rw (place_is qs i (name, v) name d at self, at) refl

both_false : (a b : Bool) → (a && not b) ≡ false → a ≡ true → b ≡ true
both_false true true e f = refl
both_false true false e f = absurd (cc)
both_false false b e f = absurd (cc)

below : (m n : ℕ) → m < n → nat_lt m n ≡ true
below m n p = grind (arith, nat_tests)

-- ---- the values of parameters, by their numbers

each_value : (c : Call) (place index : ℕ) (ps : ParamList) (vs : List Value) → values_from c place index ps ≡ All vs → (i : ℕ) (p : ParamKind × List ℕ) → slice_get ps i ≡ Some p → slice_get vs i ≡ value_for c (place_at ps i + place) (i + index) p
each_value c place index [] vs e i p at = absurd (cc)
each_value c place index (q ∷ ps) vs e zero p at =
    let s : Splits q.1 (value_for c place index q) (values_from c (one_if (is_placed q.0) + place) (1 + index) ps) vs = splits q.1 (value_for c place index q) _ vs e in
    let same : q ≡ p = cc in
    let here : place ≡ 0 + place = omega arith in
    let number : index ≡ 0 + index = omega arith in
    ap (λ l. slice_get l zero) s.all ∙ sym s.first ∙ ap (value_for c place index) same ∙ ap (λ m. value_for c m index p) here ∙ ap (λ m. value_for c (0 + place) m p) number
each_value c place index (q ∷ ps) vs e (suc i) p at =
    let s : Splits q.1 (value_for c place index q) (values_from c (one_if (is_placed q.0) + place) (1 + index) ps) vs = splits q.1 (value_for c place index q) _ vs e in
    let rest : slice_get s.values i ≡ value_for c (place_at ps i + (one_if (is_placed q.0) + place)) (i + (1 + index)) p = each_value c (one_if (is_placed q.0) + place) (1 + index) ps s.values s.others i p at in
    let here : place_at ps i + (one_if (is_placed q.0) + place) ≡ one_if (is_placed q.0) + place_at ps i + place = omega arith in
    let number : i + (1 + index) ≡ suc i + index = omega arith in
    ap (λ l. slice_get l (suc i)) s.all ∙ rest ∙ ap (λ m. value_for c m (i + (1 + index)) p) here ∙ ap (λ m. value_for c (one_if (is_placed q.0) + place_at ps i + place) m p) number

number_of : (c : Call) (values : List Value) → values_from c 0 0 c.params ≡ All values → (i : ℕ) (p : ParamKind × List ℕ) → slice_get c.params i ≡ Some p → slice_get values i ≡ value_for c (place_at c.params i) i p
number_of c values given i p at =
    let here : place_at c.params i + 0 ≡ place_at c.params i = omega arith in
    let number : i + 0 ≡ i = omega arith in
    each_value c 0 0 c.params values given i p at ∙ ap (λ m. value_for c m (i + 0) p) here ∙ ap (λ m. value_for c (place_at c.params i) m p) number

placed_default : (c : Call) (place index : ℕ) (p : ParamKind × List ℕ) → is_placed p.0 ≡ true → slice_get c.args place ≡ None → value_at c.names p.1 ≡ None → value_for c place index p ≡ default_of c.defaults (places c.params) place
placed_default c place index (param.Only, name) is free none = rw free refl
placed_default c place index (param.Plain, name) is free none = rw (free, none) refl
placed_default c place index (param.Star, name) is free none = absurd (cc)
placed_default c place index (param.Key, name) is free none = absurd (cc)
placed_default c place index (param.Double, name) is free none = absurd (cc)

key_default : (c : Call) (place index : ℕ) (name : List ℕ) → value_at c.names name ≡ None → value_for c place index (param.Key, name) ≡ value_at c.keywords name
key_default c place index name none = rw none refl

-- ---- what a star and a double star have

or_true : (a b : Bool) → b ≡ true → (a || b) ≡ true
or_true true b e = refl
or_true false b e = e

star_there : (ps : ParamList) (i : ℕ) (name : List ℕ) → slice_get ps i ≡ Some (param.Star, name) → has_star ps ≡ true
star_there [] i name at = absurd (cc)
star_there (q ∷ ps) zero name at = let same : q ≡ (param.Star, name) = cc in rw same refl
star_there (q ∷ ps) (suc i) name at = or_true (is_star q.0) (has_star ps) (star_there ps i name at)

double_there : (ps : ParamList) (i : ℕ) (name : List ℕ) → slice_get ps i ≡ Some (param.Double, name) → has_double ps ≡ true
double_there [] i name at = absurd (cc)
double_there (q ∷ ps) zero name at = let same : q ≡ (param.Double, name) = cc in rw same refl
double_there (q ∷ ps) (suc i) name at = or_true (is_double q.0) (has_double ps) (double_there ps i name at)

tuple_made : (c : Call) → has_star c.params ≡ true → slice_get (collected c) 0 ≡ Some (object.Tuple (drop (places c.params) c.args))
tuple_made c e = rw e refl

second_if : (b : Bool) (t d : Object) → slice_get ((if b then t ∷ [] else []) ++ d ∷ []) (one_if b) ≡ Some d
second_if true t d = refl
second_if false t d = refl

dict_made : (c : Call) → AreDistinct c.names → has_double c.params ≡ true → slice_get (collected c) (one_if (has_star c.params)) ≡ Some (object.Dict (pairs_of (unnamed c.params c.names)))
dict_made c d e = rw (e, left_pairs c.params c.names d) (second_if (has_star c.params) _ _)

binds : (scope : List ℕ) (c : Call) (values : List Value) → AreDistinct c.names → binding scope c ≡ Ready values → IsReady scope c values → Binds c values (collected c)
binds scope c values d e r = record {
  counted = subst (λ b. Counts (length c.params) b) e (binding_counts scope c);
  placed = λ i v at small. placed_at c 0 0 c.params values r.given i v (subst (λ n. slice_get c.args n ≡ Some v) (omega arith) at) small;
  starred = λ more. both_false (nat_lt (places c.params) (length c.args)) (has_star c.params) r.room (below (places c.params) (length c.args) more);
  keyword = λ i name v at.
      goes scope c values r.given name v (value_there c.names i name v d at) (named c.params 0 0 name) refl
      (keyword_none scope c.params (length c.args) c.names r.keywords i name v at);
  defaulted = λ i p at is free none.
      number_of c values r.given i p at ∙ placed_default c (place_at c.params i) i p is (slice_get_past c.args (place_at c.params i) free) none;
  key_defaulted = λ i name at none. number_of c values r.given i (param.Key, name) at ∙ key_default c (place_at c.params i) i name none;
  star = λ i name at. (number_of c values r.given i (param.Star, name) at, tuple_made c (star_there c.params i name at));
  double = λ i name at. (number_of c values r.given i (param.Double, name) at, dict_made c d (double_there c.params i name at));
}

pub each_argument : EachArgumentHasItsParameter
each_argument scope c values d e =
    let made : (bound_call scope c).made ≡ collected c = ap (λ b. made_by b c) e in
    subst (Binds c values) (sym made) (binds scope c values d e (is_ready scope c values e))
