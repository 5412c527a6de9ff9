-- A function that is asked is bound to what it may be, and begins with a value for each parameter.
use Rattle.std.proofs.Common.{◌≡◌, ℕ, zero, suc, ◌+◌, ◌-◌, List, [], ◌∷◌, ◌++◌, Option, Some, None, Bool, true, false, refl, subst, ◌∙◌, ap, sym, arith, length, lit<}
use Rattle.std.specs.Prelude.{◌&&◌, ◌||◌, not, ℤ, pos, if◌then◌else◌, nat_lt, nat_le, int_lt, slice_get}
use Rattle.std.specs.Ordering.{int_eq}
use Rattle.std.proofs.Math.ListN.{drop}
use Rattle.nu_value.specs.declared.header.Header.{Header}
use Rattle.nu_value.specs.declared.header.ParamKind.{ParamKind}
use Rattle.nu_value.specs.declared.header.ParamKind.TheVariants as param
use Rattle.nu_value.specs.declared.key.Atom.TheVariants as atom
use Rattle.nu_value.specs.declared.object.GenState.TheVariants as gen
use Rattle.nu_value.specs.declared.object.Object.{Object}
use Rattle.nu_value.specs.declared.object.Object.TheVariants as object
use Rattle.nu_value.specs.declared.value.Value.{Value}
use Rattle.nu_value.specs.declared.value.Value.TheVariants as value
use Rattle.nu_value.specs.Classes.{first_of}
use Rattle.nu_value.specs.Names.{NameList}
use Rattle.nu_value.specs.Pairs.{PairList}
use Rattle.nu_value.specs.Same.{number_of}
use Rattle.op_forms.specs.declared.end.After.{After}
use Rattle.op_forms.specs.declared.end.After.TheVariants as behind
use Rattle.op_forms.specs.declared.end.OpEnd.{OpEnd}
use Rattle.op_forms.specs.declared.end.OpEnd.TheVariants as opend
use Rattle.op_forms.specs.declared.world.World.{World}
use Rattle.op_forms.specs.Doing.{Doing}
use Rattle.op_forms.specs.Parts.{AllOf, NamesOf, PairsOf, ValueOf, PartsOf}
use Rattle.op_forms.specs.Right.{Claim, KnownObject, Known, Closed, AfterOf, EndOf, MadeOf, News, NewOf, Begins, Takes, Right}
use Rattle.op_forms.specs.Sound.{AreKeysDistinct, AreKeyed, LinksIn}
use Rattle.op_forms.proofs.Bindings.{value_of}
use Rattle.op_forms.proofs.Dicts.{distinct_put, keyed_put, pairs_with}
use Rattle.op_rules.specs.declared.binding.Named.{Named}
use Rattle.op_rules.specs.declared.binding.Named.TheVariants.{AtPlace, ByKey, NoName}
use Rattle.op_rules.specs.declared.binding.Bound.{Bound}
use Rattle.op_rules.specs.declared.binding.Bound.TheVariants.{Ready, Raise, Stop}
use Rattle.op_rules.specs.Binding.{ParamList, Call, is_placed, is_star, is_double, one_if, places, has_star, has_double, named, is_at, is_key, refused, keyword_error, first_error, keywords_error, default_of, value_if, value_for, Values, All, Missing, and_one, with_one, values_from, dict_number, left_one, left_over, star_tuple, double_dict, collected, fits_star, bound_values, bound_or, binding, call_of, made_by, generator_of, generator_if, begun, bound_code, bound_object, bind, bound_end}
use Rattle.op_rules.specs.Comparisons.{give_bool}
use Rattle.op_rules.specs.Finish.{truth_after, length_after, is_none, made_after, value_after}
use Rattle.op_rules.proofs.Plain.{plain_end, truth_after_plain, length_after_plain}
use Rattle.op_rules.proofs.Usual.{ended, fails, if_end}

abbrev IfTrue : Bool → Type 0 → Type 0
IfTrue true X = X
IfTrue false X = Unit {0}

or_left : (a b : Bool) (X : Type 0) → IfTrue (a || b) X → IfTrue a X
or_left true b X p = p
or_left false b X p = tt

or_right : (a b : Bool) (X : Type 0) → IfTrue (a || b) X → IfTrue b X
or_right a false X p = tt
or_right true true X p = p
or_right false true X p = p

-- a function that is asked has a value for each parameter, and is no generator's
abbrev pub Asked : World → OpEnd → Type 0
Asked w (opend.Ask f values names a) =
    (names ≡ []) × ((code : ℕ) × (defaults : List Value) × (keywords : NameList) × (cells : List Value) × (slice_get w.heap f ≡ Some (object.Function code defaults keywords cells)) × Takes w.codes code false values)
Asked w other = Unit {0}

-- ---- how many values

abbrev EachCounts : ℕ → Values → Type 0
EachCounts n (All values) = length values ≡ n
EachCounts n (Missing name) = Unit {0}

one_counts : (n : ℕ) (v : Value) (rest : Values) → EachCounts n rest → EachCounts (suc n) (and_one v rest)
one_counts n v (All vs) q = ap suc q
one_counts n v (Missing name) q = tt

with_counts : (n : ℕ) (name : List ℕ) (v : Option Value) (rest : Values) → EachCounts n rest → EachCounts (suc n) (with_one name v rest)
with_counts n name None rest q = tt
with_counts n name (Some v) rest q = one_counts n v rest q

values_count : (k : Call) (place index : ℕ) (ps : ParamList) → EachCounts (length ps) (values_from k place index ps)
values_count k place index [] = refl
values_count k place index (q ∷ ps) =
    with_counts (length ps) q.1 (value_for k place index q) _ (values_count k (one_if (is_placed q.0) + place) (1 + index) ps)

abbrev pub Counts : ℕ → Bound → Type 0
Counts n (Ready values) = length values ≡ n
Counts n other = Unit {0}

if_counts : (n : ℕ) (b : Bool) (x y : Bound) → Counts n x → Counts n y → Counts n (if b then x else y)
if_counts n true x y p q = p
if_counts n false x y p q = q

-- a keyword's error is no list of values
abbrev pub IsError : Option Bound → Type 0
IsError None = Unit {0}
IsError (Some (Ready values)) = ⊥
IsError (Some other) = Unit {0}

if_error : (b : Bool) (x y : Option Bound) → IsError x → IsError y → IsError (if b then x else y)
if_error true x y p q = p
if_error false x y p q = q

keyword_errs : (scope : List ℕ) (count : ℕ) (double : Bool) (name : List ℕ) (n : Named) → IsError (keyword_error scope count double name n)
keyword_errs scope count double name (AtPlace place) = if_error (nat_lt place count) (Some _) None tt tt
keyword_errs scope count double name (ByKey index) = tt
keyword_errs scope count double name NoName = if_error double None (Some _) tt tt

first_errs : (x y : Option Bound) → IsError x → IsError y → IsError (first_error x y)
first_errs None y p q = q
first_errs (Some e) y p q = p

pub keywords_err : (scope : List ℕ) (ps : ParamList) (count : ℕ) (qs : NameList) → IsError (keywords_error scope ps count qs)
keywords_err scope ps count [] = tt
keywords_err scope ps count (q ∷ qs) =
    first_errs _ _ (keyword_errs scope count (has_double ps) q.0 (named ps 0 0 q.0)) (keywords_err scope ps count qs)

or_counts : (n : ℕ) (x : Option Bound) (b : Bound) → IsError x → Counts n b → Counts n (bound_or x b)
or_counts n None b p q = q
or_counts n (Some (Ready values)) b p q = absurd p
or_counts n (Some (Raise m args)) b p q = tt
or_counts n (Some (Stop kind)) b p q = tt

bound_counts : (n : ℕ) (scope : List ℕ) (k : Call) (v : Values) → EachCounts n v → Counts n (bound_values scope k v)
bound_counts n scope k (Missing name) p = tt
bound_counts n scope k (All values) p = if_counts n (fits_star k) (Ready values) (Stop _) p tt

pub binding_counts : (scope : List ℕ) (k : Call) → Counts (length k.params) (binding scope k)
binding_counts scope k =
    if_counts (length k.params) (nat_lt (places k.params) (length k.args) && not (has_star k.params)) (refused _) _ tt
    (or_counts (length k.params) (keywords_error scope k.params (length k.args) k.names) _ (keywords_err scope k.params (length k.args) k.names)
    (bound_counts (length k.params) scope k _ (values_count k 0 0 k.params)))

module _ (c : Claim) (w : World) (k : Closed c w) where
  -- ---- lists of objects

  news_front : (xs ys : List Object) (n : ℕ) → News c n (xs ++ ys) → News c n xs
  news_front [] ys n p = tt
  news_front (x ∷ xs) ys n p = (p.0, news_front xs ys (1 + n) p.1)

  news_back : (xs ys : List Object) (n : ℕ) → News c n (xs ++ ys) → News c (length xs + n) ys
  news_back [] ys n p = subst (λ m. News c m ys) (omega arith) p
  news_back (x ∷ xs) ys n p = subst (λ m. News c m ys) (omega arith) (news_back xs ys (1 + n) p.1)

  made_both : (xs ys : List Object) (n : ℕ) → MadeOf c w n xs → MadeOf c w (length xs + n) ys → MadeOf c w n (xs ++ ys)
  made_both [] ys n p q = subst (λ m. MadeOf c w m ys) (omega arith) q
  made_both (x ∷ xs) ys n p q = (p.0, made_both xs ys (1 + n) p.1 (subst (λ m. MadeOf c w m ys) (omega arith) q))

  -- ---- errors

  abbrev FailsOf : Bound → Type 0
  FailsOf (Raise n args) = EndOf c w (opend.Raise n args)
  FailsOf other = Unit {0}

  abbrev ErrorOf : Option Bound → Type 0
  ErrorOf None = Unit {0}
  ErrorOf (Some b) = FailsOf b

  refused_fails : (text : List ℕ) → FailsOf (refused text)
  refused_fails text = fails c w k 35 text (lit< tt)

  if_fail : (b : Bool) (x y : Option Bound) → ErrorOf x → ErrorOf y → ErrorOf (if b then x else y)
  if_fail true x y p q = p
  if_fail false x y p q = q

  if_fails : (b : Bool) (x y : Bound) → FailsOf x → FailsOf y → FailsOf (if b then x else y)
  if_fails true x y p q = p
  if_fails false x y p q = q

  keyword_fails : (scope : List ℕ) (count : ℕ) (double : Bool) (name : List ℕ) (n : Named) → ErrorOf (keyword_error scope count double name n)
  keyword_fails scope count double name (AtPlace place) = if_fail (nat_lt place count) (Some _) None (refused_fails _) tt
  keyword_fails scope count double name (ByKey index) = tt
  keyword_fails scope count double name NoName = if_fail double None (Some _) tt (refused_fails _)

  first_fails : (x y : Option Bound) → ErrorOf x → ErrorOf y → ErrorOf (first_error x y)
  first_fails None y p q = q
  first_fails (Some e) y p q = p

  keywords_fail : (scope : List ℕ) (ps : ParamList) (count : ℕ) (qs : NameList) → ErrorOf (keywords_error scope ps count qs)
  keywords_fail scope ps count [] = tt
  keywords_fail scope ps count (q ∷ qs) =
      first_fails _ _ (keyword_fails scope count (has_double ps) q.0 (named ps 0 0 q.0)) (keywords_fail scope ps count qs)

  or_fails : (x : Option Bound) (b : Bound) → ErrorOf x → FailsOf b → FailsOf (bound_or x b)
  or_fails None b p q = q
  or_fails (Some e) b p q = p

  values_fail : (scope : List ℕ) (call : Call) (v : Values) → FailsOf (bound_values scope call v)
  values_fail scope call (Missing name) = refused_fails _
  values_fail scope call (All values) = if_fails (fits_star call) (Ready values) (Stop _) tt tt

  binding_fails : (scope : List ℕ) (call : Call) → FailsOf (binding scope call)
  binding_fails scope call =
      if_fails (nat_lt (places call.params) (length call.args) && not (has_star call.params)) (refused _) _ (refused_fails _)
      (or_fails (keywords_error scope call.params (length call.args) call.names) _ (keywords_fail scope call.params (length call.args) call.names)
      (values_fail scope call (values_from call 0 0 call.params)))

  -- ---- values

  record CallOf (call : Call) : Type 0 where
    args : AllOf c.of call.args
    names : NamesOf c.of call.names
    defaults : AllOf c.of call.defaults
    keywords : NamesOf c.of call.keywords

  abbrev ValuesOf : Bound → Type 0
  ValuesOf (Ready values) = AllOf c.of values
  ValuesOf other = Unit {0}

  abbrev EachOf : Values → Type 0
  EachOf (All values) = AllOf c.of values
  EachOf (Missing name) = Unit {0}

  get_of : (vs : List Value) (i : ℕ) → AllOf c.of vs → ValueOf c.of (slice_get vs i)
  get_of [] i p = tt
  get_of (v ∷ vs) zero p = p.0
  get_of (v ∷ vs) (suc i) p = get_of vs i p.1

  first_right : (a b : Option Value) → ValueOf c.of a → ValueOf c.of b → ValueOf c.of (first_of a b)
  first_right None b p q = q
  first_right (Some v) b p q = p

  if_value : (b : Bool) (v : Option Value) → ValueOf c.of v → ValueOf c.of (value_if b v)
  if_value b None p = tt
  if_value true (Some v) p = p
  if_value false (Some v) p = tt

  if_some : (b : Bool) (v : Option Value) → ValueOf c.of v → ValueOf c.of (if b then v else None)
  if_some true v p = p
  if_some false v p = tt

  default_right : (call : Call) → CallOf call → (place : ℕ) → ValueOf c.of (default_of call.defaults (places call.params) place)
  default_right call p place =
      if_some (nat_le (places call.params) (place + length call.defaults)) _ (get_of call.defaults (place + length call.defaults - places call.params) p.defaults)

  abbrev Star : Call → Type 0
  Star call = c.of (value.Obj call.first)

  abbrev Double : Call → Type 0
  Double call = c.of (value.Obj (dict_number call))

  for_right : (call : Call) → CallOf call → (place index : ℕ) (p : ParamKind × List ℕ) → IfTrue (is_star p.0) (Star call) → IfTrue (is_double p.0) (Double call) → ValueOf c.of (value_for call place index p)
  for_right call p place index (param.Only, name) s d = first_right _ _ (get_of call.args place p.args) (default_right call p place)
  for_right call p place index (param.Plain, name) s d =
      first_right _ _ (get_of call.args place p.args)
      (first_right _ _ (if_value (is_at (named call.params 0 0 name) place) _ (value_of c.of call.names name p.names)) (default_right call p place))
  for_right call p place index (param.Star, name) s d = s
  for_right call p place index (param.Key, name) s d =
      first_right _ _ (if_value (is_key (named call.params 0 0 name) index) _ (value_of c.of call.names name p.names)) (value_of c.of call.keywords name p.keywords)
  for_right call p place index (param.Double, name) s d = d

  one_right : (v : Value) (rest : Values) → c.of v → EachOf rest → EachOf (and_one v rest)
  one_right v (All vs) p q = (p, q)
  one_right v (Missing name) p q = tt

  with_right : (name : List ℕ) (v : Option Value) (rest : Values) → ValueOf c.of v → EachOf rest → EachOf (with_one name v rest)
  with_right name None rest p q = tt
  with_right name (Some v) rest p q = one_right v rest p q

  values_right : (call : Call) → CallOf call → (place index : ℕ) (ps : ParamList) → IfTrue (has_star ps) (Star call) → IfTrue (has_double ps) (Double call) → EachOf (values_from call place index ps)
  values_right call p place index [] s d = tt
  values_right call p place index (q ∷ ps) s d =
      with_right q.1 (value_for call place index q) _
      (for_right call p place index q (or_left (is_star q.0) (has_star ps) _ s) (or_left (is_double q.0) (has_double ps) _ d))
      (values_right call p (one_if (is_placed q.0) + place) (1 + index) ps (or_right (is_star q.0) (has_star ps) _ s) (or_right (is_double q.0) (has_double ps) _ d))

  if_values : (b : Bool) (x y : Bound) → ValuesOf x → ValuesOf y → ValuesOf (if b then x else y)
  if_values true x y p q = p
  if_values false x y p q = q

  or_values : (x : Option Bound) (b : Bound) → IsError x → ValuesOf b → ValuesOf (bound_or x b)
  or_values None b p q = q
  or_values (Some (Ready values)) b p q = absurd p
  or_values (Some (Raise n args)) b p q = tt
  or_values (Some (Stop kind)) b p q = tt

  bound_each : (scope : List ℕ) (call : Call) (v : Values) → EachOf v → ValuesOf (bound_values scope call v)
  bound_each scope call (Missing name) p = tt
  bound_each scope call (All values) p = if_values (fits_star call) (Ready values) (Stop _) p tt

  binding_values : (scope : List ℕ) (call : Call) → CallOf call → IfTrue (has_star call.params) (Star call) → IfTrue (has_double call.params) (Double call) → ValuesOf (binding scope call)
  binding_values scope call p s d =
      if_values (nat_lt (places call.params) (length call.args) && not (has_star call.params)) (refused _) _ tt
      (or_values (keywords_error scope call.params (length call.args) call.names) _ (keywords_err scope call.params (length call.args) call.names)
      (bound_each scope call _ (values_right call p 0 0 call.params s d)))

  -- ---- what a star and a double star collect

  news_both : (b e : Bool) (x y : Object) (n : ℕ) → News c n ((if b then x ∷ [] else []) ++ (if e then y ∷ [] else [])) → IfTrue b (c.of (value.Obj n)) × IfTrue e (c.of (value.Obj (one_if b + n)))
  news_both true true x y n p = (p.0, p.1.0)
  news_both true false x y n p = (p.0, tt)
  news_both false true x y n p = (tt, subst (λ m. c.of (value.Obj m)) (omega arith) p.0)
  news_both false false x y n p = (tt, tt)

  made_if : (b : Bool) (o : Object) (n : ℕ) → PartsOf c.of o × LinksIn (length w.codes) w.heap n o × NewOf c w o → MadeOf c w n (if b then o ∷ [] else [])
  made_if true o n p = (p, tt)
  made_if false o n p = tt

  drop_of : (n : ℕ) (vs : List Value) → AllOf c.of vs → AllOf c.of (drop n vs)
  drop_of zero vs p = p
  drop_of (suc n) [] p = tt
  drop_of (suc n) (v ∷ vs) p = drop_of n vs p.1

  left_right : (n : Named) (q : List ℕ × Value) (pairs : PairList) → c.of q.1 → PairsOf c.of pairs → PairsOf c.of (left_one n q pairs)
  left_right (AtPlace place) q pairs p r = r
  left_right (ByKey index) q pairs p r = r
  left_right NoName q pairs p r = pairs_with c.of pairs (atom.Str q.0 ∷ []) (value.Str q.0) q.1 r (k.plain (value.Str q.0) tt) p

  left_distinct : (n : Named) (q : List ℕ × Value) (pairs : PairList) → AreKeysDistinct pairs → AreKeysDistinct (left_one n q pairs)
  left_distinct (AtPlace place) q pairs p = p
  left_distinct (ByKey index) q pairs p = p
  left_distinct NoName q pairs p = distinct_put pairs (atom.Str q.0 ∷ []) (value.Str q.0) q.1 p

  left_keyed : (n : Named) (q : List ℕ × Value) (pairs : PairList) → AreKeyed w.heap pairs → AreKeyed w.heap (left_one n q pairs)
  left_keyed (AtPlace place) q pairs p = p
  left_keyed (ByKey index) q pairs p = p
  left_keyed NoName q pairs p = keyed_put w.heap pairs (atom.Str q.0 ∷ []) (value.Str q.0) q.1 p (tt, refl)

  over_right : (ps : ParamList) (qs : NameList) (pairs : PairList) → NamesOf c.of qs → PairsOf c.of pairs → PairsOf c.of (left_over ps qs pairs)
  over_right ps [] pairs p r = r
  over_right ps (q ∷ qs) pairs p r = over_right ps qs _ p.1 (left_right (named ps 0 0 q.0) q pairs p.0 r)

  over_distinct : (ps : ParamList) (qs : NameList) (pairs : PairList) → AreKeysDistinct pairs → AreKeysDistinct (left_over ps qs pairs)
  over_distinct ps [] pairs p = p
  over_distinct ps (q ∷ qs) pairs p = over_distinct ps qs _ (left_distinct (named ps 0 0 q.0) q pairs p)

  over_keyed : (ps : ParamList) (qs : NameList) (pairs : PairList) → AreKeyed w.heap pairs → AreKeyed w.heap (left_over ps qs pairs)
  over_keyed ps [] pairs p = p
  over_keyed ps (q ∷ qs) pairs p = over_keyed ps qs _ (left_keyed (named ps 0 0 q.0) q pairs p)

  collected_right : (call : Call) → CallOf call → (n : ℕ) → MadeOf c w n (collected call)
  collected_right call p n =
      made_both (star_tuple call) (double_dict call) n
      (made_if (has_star call.params) (object.Tuple (drop (places call.params) call.args)) n (drop_of (places call.params) call.args p.args, tt, tt))
      (made_if (has_double call.params) (object.Dict (left_over call.params call.names [])) _
      (over_right call.params call.names [] p.names tt, (over_distinct call.params call.names [] tt, over_keyed call.params call.names [] tt), tt))

  -- ---- what stands behind a call

  made_after_end : (made v : Value) → c.of made → EndOf c w (made_after made v)
  made_after_end value.None v p = p
  made_after_end made v p = if_end c w k (is_none v) (opend.Give made) _ p (fails c w k 35 _ (lit< tt))

  pub value_end : (a : After) (v : Value) → AfterOf c w a → c.of v → EndOf c w (value_after a v)
  value_end behind.Plain v p q = q
  value_end behind.Truth v p q = plain_end c w k _ (truth_after_plain v)
  value_end behind.Some v p q = plain_end c w k _ (length_after_plain (λ z. give_bool (not (int_eq z (pos 0)))) (number_of v) (λ z. tt))
  value_end behind.Length v p q = plain_end c w k _ (length_after_plain (λ z. opend.Give (value.Int z)) (number_of v) (λ z. tt))
  value_end (behind.Made made) v p q = made_after_end made v p
  value_end (behind.Join text) v p q = tt
  value_end behind.Tuple v p q = tt
  value_end (behind.Report exception) v p q = tt

  quiet_if : (b : Bool) (d e : OpEnd) → Asked w d → Asked w e → Asked w (if b then d else e)
  quiet_if true d e p q = p
  quiet_if false d e p q = q

  length_quiet : (f : ℤ → OpEnd) (n : Option ℤ) → ((z : ℤ) → Asked w (f z)) → Asked w (length_after f n)
  length_quiet f None p = tt
  length_quiet f (Some z) p = quiet_if (int_lt z (pos 0)) _ (f z) tt (p z)

  truth_quiet : (v : Value) → Asked w (truth_after v)
  truth_quiet (value.Bool b) = tt
  truth_quiet v = tt

  made_quiet : (made v : Value) → Asked w (made_after made v)
  made_quiet value.None v = tt
  made_quiet made v = quiet_if (is_none v) (opend.Give made) _ tt tt

  value_quiet : (a : After) (v : Value) → Asked w (value_after a v)
  value_quiet behind.Plain v = tt
  value_quiet behind.Truth v = truth_quiet v
  value_quiet behind.Some v = length_quiet (λ z. give_bool (not (int_eq z (pos 0)))) (number_of v) (λ z. tt)
  value_quiet behind.Length v = length_quiet (λ z. opend.Give (value.Int z)) (number_of v) (λ z. tt)
  value_quiet (behind.Made made) v = made_quiet made v
  value_quiet (behind.Join text) v = tt
  value_quiet behind.Tuple v = tt
  value_quiet (behind.Report exception) v = tt

  -- ---- an asked function

  -- what it is asked with
  record AskedWith (f : ℕ) (with : List Value) (by : NameList) (a : After) : Type 0 where
    known : c.asked f
    args : AllOf c.of with
    names : NamesOf c.of by
    after : AfterOf c w a

  abbrev pub IsBound : Doing → Type 0
  IsBound d = Right c w d × Asked w d.end

  called_right : (f code : ℕ) (defaults : List Value) (keywords : NameList) (cells args : List Value) (names : NameList) (a : After) → AskedWith f args names a → (call : Call) (header : Header) (generator : Bool) → slice_get w.codes code ≡ Some header → header.params ≡ call.params → header.generator ≡ generator → call.first ≡ length w.heap → CallOf call → KnownObject c w f (object.Function code defaults keywords cells) → (b : Bound) → FailsOf b → (IfTrue (has_star call.params) (Star call) → IfTrue (has_double call.params) (Double call) → ValuesOf b) → Counts (length call.params) b
      → IsBound (begun f a (length w.heap) (if generator then Some (code, cells) else None) b (made_by b call))
  called_right f code defaults keywords cells args names a e call header generator at params kind first p s (Raise n given) x y z =
      (λ news. record { end = x; set = tt; made = tt }, tt)
  called_right f code defaults keywords cells args names a e call header generator at params kind first p s (Stop stop) x y z =
      (λ news. record { end = tt; set = tt; made = tt }, tt)
  called_right f code defaults keywords cells args names a e call header false at params kind first p s (Ready values) x y z = (
    λ news.
        let m : News c call.first (collected call) = subst (λ n. News c n (collected call)) (sym first) news in
        let both : IfTrue (has_star call.params) (Star call) × IfTrue (has_double call.params) (Double call) = news_both (has_star call.params) (has_double call.params) _ _ call.first m in
        record {
          end = record { function = s.sort; known = e.known; args = y both.0 both.1; names = tt; distinct = tt; after = e.after };
          set = tt;
          made = collected_right call p (length w.heap);
        },
    (refl, (code, defaults, keywords, cells, s.at, record { header = header; at = at; count = z ∙ ap length (sym params); kind = kind })),
  )
  called_right f code defaults keywords cells args names a e call header true at params kind first p s (Ready values) x y z = (
    λ news.
        let g : Object = object.Generator code gen.Fresh values cells in
        let m : News c call.first (collected call) = subst (λ n. News c n (collected call)) (sym first) (news_front (collected call) (g ∷ []) (length w.heap) news) in
        let last : News c (length (collected call) + length w.heap) (g ∷ []) = news_back (collected call) (g ∷ []) (length w.heap) news in
        let both : IfTrue (has_star call.params) (Star call) × IfTrue (has_double call.params) (Double call) = news_both (has_star call.params) (has_double call.params) _ _ call.first m in
        let begins : Begins c w code values cells =
        record {
          takes = record { header = header; at = at; count = z ∙ ap length (sym params); kind = kind };
          function = f;
          defaults = defaults;
          keywords = keywords;
          is = s.at;
          known = e.known;
        } in
        record {
          end = value_end a (value.Obj (length (collected call) + length w.heap)) e.after last.0;
          set = tt;
          made = made_both (collected call) (g ∷ []) (length w.heap) (collected_right call p (length w.heap)) (((y both.0 both.1, s.parts.2), (s.links.0, s.links.2), (refl, begins)), tt);
        },
    value_quiet a (value.Obj (length (collected call) + length w.heap)),
  )

  call_right : (f code : ℕ) (defaults : List Value) (keywords : NameList) (cells args : List Value) (names : NameList) (a : After) → AskedWith f args names a → KnownObject c w f (object.Function code defaults keywords cells) → (header : Option Header) → slice_get w.codes code ≡ header
      → IsBound (begun f a (length w.heap) (generator_if code cells header) (bound_code (length w.heap) defaults keywords args names header).bound (bound_code (length w.heap) defaults keywords args names header).made)
  call_right f code defaults keywords cells args names a e s None at = (λ news. record { end = tt; set = tt; made = tt }, tt)
  call_right f code defaults keywords cells args names a e s (Some header) at =
      let call : Call = call_of header.params defaults keywords args names (length w.heap) in
      let p : CallOf call = record { args = e.args; names = e.names; defaults = s.parts.0; keywords = s.parts.1 } in
      called_right f code defaults keywords cells args names a e call header header.generator at refl refl refl p s
      (binding header.scope call) (binding_fails header.scope call) (binding_values header.scope call p) (binding_counts header.scope call)

  asked_right : (f : ℕ) (args : List Value) (names : NameList) (a : After) → AskedWith f args names a → (o : Option Object) → Known c w f o
      → IsBound (begun f a (length w.heap) (generator_of w.codes o) (bound_object w.codes (length w.heap) args names o).bound (bound_object w.codes (length w.heap) args names o).made)
  asked_right f args names a e (Some (object.Function code defaults keywords cells)) s =
      call_right f code defaults keywords cells args names a e s (slice_get w.codes code) refl
  asked_right f args names a e other s = (λ news. record { end = tt; set = tt; made = tt }, tt)

  -- any object may be asked; what is no function stops
  pub bind_right : (f : ℕ) (args : List Value) (names : NameList) (a : After) → c.asked f → AllOf c.of args → NamesOf c.of names → AfterOf c w a → IsBound (bind w f args names a)
  bind_right f args names a p q r s =
      asked_right f args names a (record { known = p; args = q; names = r; after = s }) (slice_get w.heap f) (k.objects f)

  -- an end of a row, and the binding behind it
  pub bound_right : (e : OpEnd) → EndOf c w e → IsBound (bound_end w e)
  bound_right (opend.Ask f args names a) p = bind_right f args names a p.known p.args p.names p.after
  bound_right (opend.Give v) p = (ended c w k (opend.Give v) p, tt)
  bound_right (opend.Raise n args) p = (ended c w k (opend.Raise n args) p, tt)
  bound_right (opend.Resume g how) p = (ended c w k (opend.Resume g how) p, tt)
  bound_right (opend.Put text) p = (ended c w k (opend.Put text) p, tt)
  bound_right opend.Line p = (ended c w k opend.Line p, tt)
  bound_right (opend.Stop kind) p = (ended c w k (opend.Stop kind) p, tt)
