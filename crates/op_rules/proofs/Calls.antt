-- Calls, and functions that are made, use only what they are given, what they find there and what they make.
use Rattle.std.proofs.Common.{◌≡◌, ℕ, ◌<◌, List, [], ◌∷◌, Option, Some, None, Bool, true, false, refl, subst, ap, arith, length, lit<}
use Rattle.std.specs.Prelude.{◌&&◌, not, ℤ, pos, negsuc, codes, if◌then◌else◌, nat_eq, nat_lt, slice_get}
use Rattle.std.specs.Ordering.{int_eq}
use Rattle.std.specs.Str.{bytes_eq}
use Rattle.std.proofs.lemmas.Bool.Decides.{nat_tests}
use Rattle.std.proofs.lemmas.Option.{slice_get_within}
use Rattle.nu_value.specs.declared.object.Object.{Object}
use Rattle.nu_value.specs.declared.object.Object.TheVariants as object
use Rattle.nu_value.specs.declared.value.Value.{Value}
use Rattle.nu_value.specs.declared.value.Value.TheVariants as value
use Rattle.nu_value.specs.Classes.{own_of, first_of, first_named, classes_from, found_in}
use Rattle.nu_value.specs.Names.{NameList}
use Rattle.nu_value.specs.Pairs.{PairList}
use Rattle.nu_value.specs.Same.{number_of, object_of}
use Rattle.op_forms.specs.declared.end.After.{After}
use Rattle.op_forms.specs.declared.end.After.TheVariants as behind
use Rattle.op_forms.specs.declared.world.World.{World}
use Rattle.op_forms.specs.Doing.{nothing, ends, makes}
use Rattle.op_forms.specs.Fits.{is_cell}
use Rattle.op_forms.specs.Parts.{AllOf, NamesOf, PairsOf, ValueOf, OrUnset, PartsOf}
use Rattle.op_forms.specs.Right.{Claim, Known, Closed, RestOf, AfterOf, EndOf, NewOf, Right}
use Rattle.op_forms.specs.Sound.{sort_of, AClass, ACell, AFunction, IsA, IsCell, AreCells, AreNamesDistinct, LinksIn}
use Rattle.op_forms.proofs.Bindings.{distinct_with, names_with, value_of}
use Rattle.op_rules.specs.declared.callees.Method.{Method}
use Rattle.op_rules.specs.declared.callees.Method.TheVariants as method
use Rattle.op_rules.specs.Asking.{asks}
use Rattle.op_rules.specs.Kinds.{value_error}
use Rattle.op_rules.specs.Calls.{keyword_into, keywords_of, items_at, keywords_at, call_class, call_by, call_builtin, call_object, call_value, are_cells, code_of, func_made, func_by, func_row}
use Rattle.op_rules.specs.Construction.{method_as, object_at, method_in, is_exception_class, made_of, takes_keywords, exception_made, instance_made, plainly_made, natively_made, made_with, construct, object_row, range_by, range_row, is_left_out, native_class}
use Rattle.op_rules.specs.NativeCalls.{text_of, printed, print_row, written, write_row, line_row, is_nextable, nextable_row, resume_on, resume_row, getattr_row, length_row, native_end, native_called}
use Rattle.op_rules.proofs.Asks.{asks_right}
use Rattle.op_rules.proofs.Usual.{ended, fails, failed, idle, made_right, if_right, if_end}

and_left : (a b : Bool) → (a && b) ≡ true → a ≡ true
and_left true b e = refl
and_left false b e = absurd (cc)

and_right : (a b : Bool) → (a && b) ≡ true → b ≡ true
and_right true b e = e
and_right false b e = absurd (cc)

-- ---- keywords stand once

into_distinct : (name v : Value) (names : NameList) → AreNamesDistinct names → AreNamesDistinct (keyword_into name v names)
into_distinct (value.Str name) v names p = distinct_with names name v p
into_distinct other v names p = p

pub keywords_distinct : (pairs : PairList) (names : NameList) → AreNamesDistinct names → AreNamesDistinct (keywords_of pairs names)
keywords_distinct [] names p = p
keywords_distinct (x ∷ xs) names p = keywords_distinct xs _ (into_distinct x.1 x.2 names p)

pub keywords_at_distinct : (o : Option Object) → AreNamesDistinct (keywords_at o)
keywords_at_distinct (Some (object.Dict pairs)) = keywords_distinct pairs [] tt
keywords_at_distinct o = tt

-- ---- and have values of which something is claimed

module _ (P : Value → Type 0) where
  into_all : (name v : Value) (names : NameList) → P v → NamesOf P names → NamesOf P (keyword_into name v names)
  into_all (value.Str name) v names q p = names_with P names name v p q
  into_all other v names q p = p

  pub keywords_of_all : (pairs : PairList) (names : NameList) → PairsOf P pairs → NamesOf P names → NamesOf P (keywords_of pairs names)
  keywords_of_all [] names p q = q
  keywords_of_all (x ∷ xs) names p q = keywords_of_all xs _ p.2 (into_all x.1 x.2 names p.1 q)

module _ (c : Claim) (w : World) (k : Closed c w) where
  -- ---- arguments and keywords

  keywords_right : (pairs : PairList) (names : NameList) → PairsOf c.of pairs → NamesOf c.of names → NamesOf c.of (keywords_of pairs names)
  keywords_right = keywords_of_all c.of

  pub keywords_known : (n : ℕ) (o : Option Object) → Known c w n o → NamesOf c.of (keywords_at o)
  keywords_known n (Some (object.Dict pairs)) p = keywords_right pairs [] p.parts tt
  keywords_known n o p = tt

  pub items_known : (n : ℕ) (o : Option Object) → Known c w n o → AllOf c.of (items_at o)
  items_known n (Some (object.List items)) p = p.parts
  items_known n o p = tt

  -- ---- methods of classes

  -- a function that may be asked
  abbrev MethodOf : Method → Type 0
  MethodOf (method.Function f) = IsA w.heap f AFunction × c.asked f
  MethodOf _ = Unit {0}

  if_method : (b : Bool) → MethodOf (if b then method.Native else method.Other)
  if_method true = tt
  if_method false = tt

  method_at : (f : ℕ) (o : Option Object) → Known c w f o → c.of (value.Obj f) → MethodOf (method_as (Some (value.Obj f)) o)
  method_at f (Some (object.Function code defaults keywords cells)) p q = (p.sort, k.asked f q)
  method_at f (Some (object.Builtin name value.Unset)) p q = if_method (bytes_eq name (codes "__init__"))
  method_at f o p q = tt

  method_known : (v : Option Value) → ValueOf c.of v → MethodOf (method_as v (object_at w.heap v))
  method_known None p = tt
  method_known (Some (value.Obj f)) p = method_at f (slice_get w.heap f) (k.objects f) p
  method_known (Some v) p = tt

  own_known : (n : ℕ) (o : Option Object) → Known c w n o → NamesOf c.of (own_of o)
  own_known n (Some (object.Class name base own native)) p = p.parts.1
  own_known n o p = tt

  first_right : (a b : Option Value) → ValueOf c.of a → ValueOf c.of b → ValueOf c.of (first_of a b)
  first_right None b p q = q
  first_right (Some v) b p q = p

  named_right : (cs : List ℕ) (name : List ℕ) → ValueOf c.of (first_named w.heap cs name)
  named_right [] name = tt
  named_right (n ∷ cs) name =
      first_right _ _ (value_of c.of (own_of (slice_get w.heap n)) name (own_known n (slice_get w.heap n) (k.objects n))) (named_right cs name)

  method_right : (n : ℕ) (name : List ℕ) → MethodOf (method_in w.heap n name)
  method_right n name = method_known (found_in w.heap n name) (named_right (classes_from w.heap (Some n)) name)

  -- ---- what a class makes

  -- what a call is given
  pub record Arguments (args : List Value) (names : NameList) : Type 0 where
    pub values : AllOf c.of args
    pub keywords : NamesOf c.of names
    pub distinct : AreNamesDistinct names

  abbrev Made : Object → Type 0
  Made o = PartsOf c.of o × LinksIn (length w.codes) w.heap (length w.heap) o × NewOf c w o

  if_made : (b : Bool) (o p : Object) → Made o → Made p → Made (if b then o else p)
  if_made true o p x y = x
  if_made false o p x y = y

  of_class : (n : ℕ) (args : List Value) → AllOf c.of args → IsA w.heap n AClass → Made (made_of w.heap n args)
  of_class n args a p =
      if_made (is_exception_class w.heap n) (object.Exception n args [] [] None) (object.Instance n []) ((k.classes n p, a, tt, tt), (p, tt, tt), tt) ((k.classes n p, tt), (p, tt), tt)

  made_class : (n : ℕ) (args : List Value) → AllOf c.of args → IsA w.heap n AClass → Right c w (makes w.heap (made_of w.heap n args))
  made_class n args a p = made_right c w k (made_of w.heap n args) (of_class n args a p)

  natively_right : (n : ℕ) (args : List Value) (names : NameList) → AllOf c.of args → IsA w.heap n AClass → Right c w (natively_made w.heap n args names)
  natively_right n args [] a p = if_right c w k (is_exception_class w.heap n) _ _ (made_class n args a p) (idle c w k)
  natively_right n args (q ∷ qs) a p = idle c w k

  exception_right : (n : ℕ) (args : List Value) (names : NameList) → AllOf c.of args → IsA w.heap n AClass → Right c w (exception_made w.heap n args names)
  exception_right n args [] a p = made_class n args a p
  exception_right n args (q ∷ qs) a p = if_right c w k (takes_keywords w.heap n) _ _ (idle c w k) (failed c w k 35 _ (lit< tt))

  instance_right : (n : ℕ) (args : List Value) (names : NameList) → IsA w.heap n AClass → Right c w (instance_made w.heap n args names)
  instance_right n [] [] p = made_class n [] tt p
  instance_right n [] (q ∷ qs) p = failed c w k 35 _ (lit< tt)
  instance_right n (v ∷ vs) names p = failed c w k 35 _ (lit< tt)

  plainly_right : (n : ℕ) (args : List Value) (names : NameList) → AllOf c.of args → IsA w.heap n AClass → Right c w (plainly_made w.heap n args names)
  plainly_right n args names a p =
      if_right c w k (is_exception_class w.heap n) _ _ (exception_right n args names a p) (instance_right n args names p)

  with_right : (m : Method) (n : ℕ) (args : List Value) (names : NameList) → MethodOf m → Arguments args names → IsA w.heap n AClass → Right c w (made_with w.heap m n args names)
  with_right method.Absent n args names q x p = plainly_right n args names x.values p
  with_right (method.Function f) n args names q x p = λ news.
      record {
        end = record { function = q.0; known = q.1; args = (news.0, x.values); names = x.keywords; distinct = x.distinct; after = news.0 };
        set = tt;
        made = (of_class n args x.values p, tt);
      }
  with_right method.Native n args names q x p = natively_right n args names x.values p
  with_right method.Other n args names q x p = idle c w k

  construct_right : (n : ℕ) (args : List Value) (names : NameList) → Arguments args names → IsA w.heap n AClass → Right c w (construct w.heap n args names)
  construct_right n args names x p = with_right (method_in w.heap n (codes "__init__")) n args names (method_right n (codes "__init__")) x p

  object_right : (args : List Value) (names : NameList) → Right c w (object_row w.heap args names)
  object_right [] [] =
      made_right c w k (object.Instance 0 []) ((k.classes 0 (k.natives 0 (lit< tt)), tt), (k.natives 0 (lit< tt), tt), tt)
  object_right [] (q ∷ qs) = idle c w k
  object_right (v ∷ vs) names = idle c w k

  range_if : (b : Bool) (x y step : ℤ) → int_eq step (pos 0) ≡ b → Right c w (if b then ends (value_error (codes "range() arg 3 must not be zero")) else makes w.heap (object.Range x y step))
  range_if true x y step e = failed c w k 36 _ (lit< tt)
  range_if false x y step e =
      made_right c w k (object.Range x y step) (tt, λ is. let f : int_eq step (pos 0) ≡ true = ap (λ z. int_eq z (pos 0)) is in absurd (cc), tt)

  range_by_right : (x y step : Option ℤ) → Right c w (range_by w.heap x y step)
  range_by_right (Some x) (Some y) (Some step) = range_if (int_eq step (pos 0)) x y step refl
  range_by_right None y step = failed c w k 35 _ (lit< tt)
  range_by_right (Some x) None step = failed c w k 35 _ (lit< tt)
  range_by_right (Some x) (Some y) None = failed c w k 35 _ (lit< tt)

  range_right : (args : List Value) (names : NameList) → Right c w (range_row w.heap args names)
  range_right (b ∷ []) [] = range_by_right (Some (pos 0)) (number_of b) (Some (pos 1))
  range_right (a ∷ b ∷ []) [] = range_by_right (number_of a) (number_of b) (Some (pos 1))
  range_right (a ∷ b ∷ step ∷ []) [] = range_by_right (number_of a) (number_of b) (number_of step)
  range_right args names = idle c w k

  built_in_right : (name : List ℕ) (a : After) (args : List Value) (names : NameList) → AfterOf c w a → Arguments args names → Right c w (ends (asks w.heap name args names a))
  built_in_right name a args names p x = ended c w k _ (asks_right c w k name args names a x.values x.keywords x.distinct p)

  native_right : (n : ℕ) (args : List Value) (names : NameList) → Arguments args names → Right c w (native_class w.heap n args names)
  native_right n args names x =
      if_right c w k (nat_eq n 0) _ _ (object_right args names)
      (if_right c w k (nat_eq n 4) _ _ (built_in_right _ behind.Plain args names tt x)
      (if_right c w k (nat_eq n 5) _ _ (built_in_right _ behind.Tuple args names tt x)
      (if_right c w k (nat_eq n 6) _ _ (built_in_right _ behind.Plain args names tt x)
      (if_right c w k (nat_eq n 7) _ _ (built_in_right _ behind.Plain args names tt x)
      (if_right c w k (nat_eq n 8) _ _ (range_right args names)
      (if_right c w k (is_left_out n) _ _ (idle c w k) (failed c w k 35 _ (lit< tt))))))))

  -- ---- natives

  printed_end : (t : Option (List ℕ)) → EndOf c w (printed t)
  printed_end None = tt
  printed_end (Some t) = tt

  print_end : (args : List Value) → EndOf c w (print_row args)
  print_end [] = tt
  print_end (v ∷ []) = printed_end (text_of v)
  print_end (v ∷ u ∷ vs) = tt

  written_end : (text : List ℕ) → EndOf c w (written text)
  written_end [] = k.plain value.None tt
  written_end (x ∷ xs) = tt

  write_end : (args : List Value) → EndOf c w (write_row args)
  write_end (value.Str text ∷ []) = written_end text
  write_end args = tt

  line_end : (args : List Value) → EndOf c w (line_row args)
  line_end [] = tt
  line_end (v ∷ vs) = tt

  nextable_end : (args : List Value) → EndOf c w (nextable_row w.heap args)
  nextable_end [] = tt
  nextable_end (x ∷ []) = k.plain (value.Bool (is_nextable w.heap (object_of w.heap x))) tt
  nextable_end (x ∷ y ∷ vs) = tt

  resume_at : (g : ℕ) (o : Option Object) (e : ℕ) (p : Option Object) → Known c w g o → Known c w e p → EndOf c w (resume_on g o e p)
  resume_at g (Some (object.Generator code state given cells)) e (Some (object.Exception class args entries fields cause)) x y = (x.sort, y.sort)
  resume_at g o e p x y = tt

  resume_end : (args : List Value) → EndOf c w (resume_row w.heap args)
  resume_end (value.Obj g ∷ value.Obj e ∷ []) = resume_at g (slice_get w.heap g) e (slice_get w.heap e) (k.objects g) (k.objects e)
  resume_end args = tt

  getattr_end : (args : List Value) → EndOf c w (getattr_row args)
  getattr_end (x ∷ name ∷ []) = fails c w k 35 _ (lit< tt)
  getattr_end args = tt

  length_end : (args : List Value) → EndOf c w (length_row w.heap args)
  length_end (x ∷ []) = fails c w k 35 _ (lit< tt)
  length_end args = tt

  native_end_right : (name : List ℕ) (args : List Value) → EndOf c w (native_end w.heap name args)
  native_end_right name args =
      if_end c w k (bytes_eq name (codes "print")) _ _ (print_end args)
      (if_end c w k (bytes_eq name (codes "len")) _ _ (length_end args)
      (if_end c w k (bytes_eq name (codes "_nu_write")) _ _ (write_end args)
      (if_end c w k (bytes_eq name (codes "_nu_line")) _ _ (line_end args)
      (if_end c w k (bytes_eq name (codes "_nu_getattr")) _ _ (getattr_end args)
      (if_end c w k (bytes_eq name (codes "_nu_nextable")) _ _ (nextable_end args)
      (if_end c w k (bytes_eq name (codes "_nu_resume")) _ _ (resume_end args) tt))))))

  native_called_end : (name : List ℕ) (args : List Value) (names : NameList) → EndOf c w (native_called w.heap name args names)
  native_called_end name args [] = native_end_right name args
  native_called_end name args (q ∷ qs) = tt

  -- ---- calls

  class_right : (n : ℕ) (native : Bool) (args : List Value) (names : NameList) → Arguments args names → IsA w.heap n AClass → Right c w (call_class w.heap n native args names)
  class_right n native args names x p =
      if_right c w k (native && not (is_exception_class w.heap n)) _ _ (native_right n args names x) (construct_right n args names x p)

  by_end : (m : Method) (n : ℕ) (args : List Value) (names : NameList) → MethodOf m → Arguments args names → c.of (value.Obj n) → EndOf c w (call_by w.heap m n args names)
  by_end method.Absent n args names q x p = fails c w k 35 _ (lit< tt)
  by_end (method.Function f) n args names q x p =
      record { function = q.0; known = q.1; args = (p, x.values); names = x.keywords; distinct = x.distinct; after = tt }
  by_end method.Native n args names q x p = tt
  by_end method.Other n args names q x p = tt

  builtin_end : (name : List ℕ) (receiver : Value) (args : List Value) (names : NameList) → EndOf c w (call_builtin w.heap name receiver args names)
  builtin_end name value.Unset args names = native_called_end name args names
  builtin_end name receiver args names = tt

  object_called : (n : ℕ) (o : Option Object) (args : List Value) (names : NameList) → Known c w n o → c.of (value.Obj n) → Arguments args names → Right c w (call_object w.heap n args names o)
  object_called n (Some (object.Function code defaults keywords cells)) args names p q x =
      ended c w k _ (record { function = p.sort; known = k.asked n q; args = x.values; names = x.keywords; distinct = x.distinct; after = tt })
  object_called n (Some (object.Method receiver function)) args names p q x =
      ended c w k _ (record { function = p.links; known = k.asked function p.parts.1; args = (p.parts.0, x.values); names = x.keywords; distinct = x.distinct; after = tt })
  object_called n (Some (object.Class name base own native)) args names p q x = class_right n native args names x p.sort
  object_called n (Some (object.Instance class fields)) args names p q x =
      ended c w k _ (by_end (method_in w.heap class (codes "__call__")) n args names (method_right class (codes "__call__")) x q)
  object_called n (Some (object.Builtin name receiver)) args names p q x = ended c w k _ (builtin_end name receiver args names)
  object_called n o args names p q x = failed c w k 35 _ (lit< tt)

  pub called_right : (f : Value) (args : List Value) (names : NameList) → OrUnset c.of f → Arguments args names → Right c w (call_value w.heap f args names)
  called_right (value.Obj n) args names q x = object_called n (slice_get w.heap n) args names (k.objects n) q x
  called_right f args names q x = failed c w k 35 _ (lit< tt)

  -- ---- functions that are made

  cell_at : (n : ℕ) (o : Option Object) → slice_get w.heap n ≡ o → is_cell o ≡ true → IsA w.heap n ACell
  cell_at n (Some (object.Cell v)) e t = record { there = slice_get_within w.heap n (object.Cell v) e; sort = ap sort_of e }
  cell_at n o e t = absurd (cc)

  cell_is : (v : Value) → is_cell (object_of w.heap v) ≡ true → IsCell w.heap v
  cell_is (value.Obj n) t = cell_at n (slice_get w.heap n) refl t
  cell_is v t = absurd (cc)

  pub cells_are : (vs : List Value) → are_cells w.heap vs ≡ true → AreCells w.heap vs
  cells_are [] t = tt
  cells_are (v ∷ vs) t = (cell_is v (and_left (is_cell (object_of w.heap v)) _ t), cells_are vs (and_right (is_cell (object_of w.heap v)) _ t))

  below : (n m : ℕ) → nat_lt n m ≡ true → n < m
  below n m e = grind (arith, nat_tests)

  code_if : (b : Bool) (m n : ℕ) → nat_lt m (length w.codes) ≡ b → (if b then Some m else None) ≡ Some n → n < length w.codes
  code_if true m n e is = let same : m ≡ n = cc in subst (λ i. i < length w.codes) same (below m (length w.codes) e)
  code_if false m n e is = absurd (cc)

  pub code_below : (z : ℤ) (n : ℕ) → code_of w.codes z ≡ Some n → n < length w.codes
  code_below (pos m) n is = code_if (nat_lt m (length w.codes)) m n refl is
  code_below (negsuc m) n is = absurd (cc)

  func_if : (b : Bool) (code : ℕ) (items : List Value) (pairs : PairList) (cells : List Value) → code < length w.codes → are_cells w.heap cells ≡ b → c.makes → AllOf c.of items → PairsOf c.of pairs → AllOf c.of cells
      → Right c w (if b then makes w.heap (object.Function code items (keywords_of pairs []) cells) else nothing)
  func_if true code items pairs cells there e m p q r =
      made_right c w k (object.Function code items (keywords_of pairs []) cells)
      ((p, keywords_right pairs [] q tt, r), (there, keywords_distinct pairs [] tt, cells_are cells e), m)
  func_if false code items pairs cells there e m p q r = idle c w k

  func_made_right : (code : Option ℕ) (items : List Value) (pairs : PairList) (cells : List Value) → ((n : ℕ) → code ≡ Some n → n < length w.codes) → c.makes → AllOf c.of items → PairsOf c.of pairs → AllOf c.of cells → Right c w (func_made w.heap code items pairs cells)
  func_made_right None items pairs cells f m p q r = idle c w k
  func_made_right (Some code) items pairs cells f m p q r = func_if (are_cells w.heap cells) code items pairs cells (f code refl) refl m p q r

  func_by_right : (code : Option ℤ) (d e : ℕ) (defaults keywords : Option Object) (cells : List Value) → c.makes → Known c w d defaults → Known c w e keywords → AllOf c.of cells → Right c w (func_by w.codes w.heap code defaults keywords cells)
  func_by_right (Some code) d e (Some (object.Tuple items)) (Some (object.Dict pairs)) cells m p q r =
      func_made_right (code_of w.codes code) items pairs cells (code_below code) m p.parts q.parts r
  func_by_right code d e defaults keywords cells m p q r = idle c w k

  func_of : (code : Option ℤ) (d e : Value) (cells : List Value) → c.makes → AllOf c.of cells → Right c w (func_by w.codes w.heap code (object_of w.heap d) (object_of w.heap e) cells)
  func_of code (value.Obj d) (value.Obj e) cells m r = func_by_right code d e (slice_get w.heap d) (slice_get w.heap e) cells m (k.objects d) (k.objects e) r
  func_of code d (value.Obj e) cells m r = func_by_right code 0 e (object_of w.heap d) (slice_get w.heap e) cells m tt (k.objects e) r
  func_of code (value.Obj d) e cells m r = func_by_right code d 0 (slice_get w.heap d) (object_of w.heap e) cells m (k.objects d) tt r
  func_of code d e cells m r = func_by_right code 0 0 (object_of w.heap d) (object_of w.heap e) cells m tt tt r

  pub func_right : (args : List Value) → c.makes × RestOf c.of args → Right c w (func_row w.codes w.heap args)
  func_right [] q = idle c w k
  func_right (code ∷ []) q = idle c w k
  func_right (code ∷ d ∷ []) q = idle c w k
  func_right (code ∷ d ∷ e ∷ cells) q = func_of (number_of code) d e cells q.0 q.1.1.1
