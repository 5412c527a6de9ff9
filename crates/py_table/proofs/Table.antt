-- The table of operations keeps law.
use Rattle.std.proofs.Common.{◌≡◌, ℕ, zero, suc, ◌+◌, ◌<◌, List, [], ◌∷◌, ◌++◌, Option, Some, None, Bool, true, false, refl, sym, ap, subst, ◌∙◌, arith, length, inl, inr, length-append}
use Rattle.std.specs.Prelude.{◌⊎◌, ℤ, pos, not, ◌&&◌, ◌==◌, if◌then◌else◌, int_lt, nat_lt, nat_le, Result, Ok, Err, codes, slice_get, map}
use Rattle.std.specs.List.{list_all}
use Rattle.std.specs.Ordering.{int_eq}
use Rattle.nu_run.specs.declared.StopKind.{StopKind}
use Rattle.nu_run.specs.declared.StopKind.TheVariants as stop
use Rattle.nu_text.specs.Characters.{characters}
use Rattle.nu_value.specs.declared.header.Header.{Header}
use Rattle.nu_value.specs.declared.header.ParamKind.TheVariants as param
use Rattle.nu_value.specs.declared.object.Object.{Object}
use Rattle.nu_value.specs.declared.object.Object.TheVariants as object
use Rattle.nu_value.specs.declared.value.Value.{Value}
use Rattle.nu_value.specs.declared.value.Value.TheVariants as value
use Rattle.nu_value.specs.declared.keyed.KeyEnd.{KeyEnd}
use Rattle.nu_value.specs.declared.keyed.KeyEnd.TheVariants as end
use Rattle.nu_value.specs.declared.object.ViewKind.{ViewKind}
use Rattle.nu_value.specs.declared.object.ViewKind.TheVariants as view_kind
use Rattle.nu_value.specs.declared.same.Sameness.{Sameness}
use Rattle.nu_value.specs.declared.same.Sameness.TheVariants as same
use Rattle.nu_value.specs.Keyed.{Keyed, key}
use Rattle.nu_value.specs.Classes.{is_under}
use Rattle.nu_value.specs.Names.{NameList}
use Rattle.nu_value.specs.Natives.{native_classes, baseexception_number}
use Rattle.nu_value.specs.Pairs.{PairList}
use Rattle.nu_value.specs.Same.{number_of, object_of}
use Rattle.nu_value.specs.View.{is_text}
use Rattle.op_forms.specs.declared.end.After.{After}
use Rattle.op_forms.specs.declared.end.After.TheVariants as behind
use Rattle.op_forms.specs.declared.end.How.{How}
use Rattle.op_forms.specs.declared.end.How.TheVariants as how
use Rattle.op_forms.specs.declared.end.OpEnd.{OpEnd}
use Rattle.op_forms.specs.declared.end.OpEnd.TheVariants as opend
use Rattle.op_forms.specs.declared.op.Op.{Op}
use Rattle.op_forms.specs.declared.op.Op.TheVariants as op
use Rattle.op_forms.specs.declared.signature.ArgumentKind.{ArgumentKind}
use Rattle.op_forms.specs.declared.signature.ArgumentKind.TheVariants as kind
use Rattle.op_forms.specs.declared.world.World.{World}
use Rattle.op_forms.specs.Answers.{unbuilt, keeps, after}
use Rattle.op_forms.specs.Doing.{Doing, nothing, ends, makes, heap_after, answer}
use Rattle.op_forms.specs.Fits.{is_in, fits}
use Rattle.op_forms.specs.Laws.{DoingsKeepSound}
use Rattle.op_forms.specs.Parts.{PairsOf, OrUnset, PartsOf}
use Rattle.op_forms.specs.Right.{Claim, Closed, GivenBy, Given, AfterOf, HowOf, EndOf, Uses, Right}
use Rattle.op_forms.specs.Signature.{arguments}
use Rattle.op_forms.specs.Sound.{ASpace as SpaceSort, IsIn, AllIn, IsCell, AreCells, AfterIn, HowIn, EndIn, Sound, IsA}
use Rattle.op_forms.proofs.Grown.{grown_before}
use Rattle.op_forms.proofs.Objects.{parts_by}
use Rattle.op_rules.specs.declared.binding.Bound.{Bound}
use Rattle.op_rules.specs.declared.binding.Bound.TheVariants.{Ready, Raise, Stop}
use Rattle.op_rules.specs.declared.family.Family.{Family}
use Rattle.op_rules.specs.declared.family.Family.TheVariants as family
use Rattle.op_rules.specs.declared.special.Init.{Init}
use Rattle.op_rules.specs.declared.special.Init.TheVariants as init
use Rattle.op_rules.specs.declared.special.Special.{Special}
use Rattle.op_rules.specs.declared.special.Special.TheVariants as special
use Rattle.op_rules.specs.Access.{other_row}
use Rattle.op_rules.specs.Asking.{asked, built_in}
use Rattle.op_rules.specs.Binding.{bound_end, bound, ParamList, Call, Binding, call_of, binding, made_by, bound_code, bound_object, bound_function, generator_if, generator_of, begun, bind}
use Rattle.op_rules.specs.Calls.{keywords_of, are_cells, func_made, func_by, call_object}
use Rattle.op_rules.specs.Classes.{attribute_row}
use Rattle.op_rules.specs.Comparisons.{give_bool, same_end, not_row, truth_row, object_truth, is_row}
use Rattle.op_rules.specs.Dicts.{dict_row}
use Rattle.op_rules.specs.Exceptions.{bare, exception_by, init_in, no_exception, exc_on, exc_row, no_catching, classes_in}
use Rattle.op_rules.specs.Families.{family_at_first, family_at_second}
use Rattle.op_rules.specs.Finish.{finishing, finished, truth_after, length_after, is_none, made_after, value_after, tuple_after}
use Rattle.op_rules.specs.IntRows.{of_one, of_two}
use Rattle.op_rules.specs.Keys.{no_key, key_or}
use Rattle.op_rules.specs.Laws.{FinishingKeepsSound, TheStartIsSound}
use Rattle.op_rules.specs.Routes.{object_route}
use Rattle.op_rules.specs.SequenceOperators.{in_end as place_end, other_in_range, in_range_of, in_on as in_sequence}
use Rattle.op_rules.specs.Sequences.{sequence_row}
use Rattle.op_rules.specs.Specials.{asks_special, by_special, instance_special, special_truth, truth_by_length}
use Rattle.op_rules.specs.Start.{first_objects, start_world}
use Rattle.op_rules.specs.Subclasses.{is_exception_class}
use Rattle.op_rules.specs.Table.{family_row, truth_of, group, routed, doing, row}
use Rattle.op_rules.specs.TableRules.{table_rules}
use Rattle.op_rules.specs.TextAccess.{in_text, text_doing}
use Rattle.op_rules.specs.TextMethods.{give_text, sized_text, join_after}
use Rattle.op_rules.specs.TextParts.{joined}
use Rattle.op_rules.specs.TextRows.{size_limit}
use Rattle.op_rules.specs.Views.{pairs_in, key_within, in_view, in_on}
use Rattle.op_rules.proofs.Begun.{Asked, bound_right, bind_right}
use Rattle.op_rules.proofs.Calls.{keywords_of_all, keywords_distinct, cells_are, code_below}
use Rattle.op_rules.proofs.Keeping.{asking_sound, bound_sound, bind_sound}
use Rattle.op_rules.proofs.Rows.{doing_right, finishing_right}
use Rattle.py_safe.specs.Rosters.{Role, OfModule, OfFunction, OfClass, Roster, IsBlock, HasBlocks}
use Rattle.py_safe.specs.Heaps.{Mark, Open, Block, View, view, Nature, ATuple, AList, ADict, ACell, ASpace, AnError, nature_of, IsOpen, AllOpen, BodyLaw, KeepsGenerators, AllThere, Takes, MarkedAs}
use Rattle.py_safe.specs.Rules.{GivesTruth, TruthBehind, EndIsTruth, gives_nature, EndIsOf, EndIsThis, AfterLaw, IsAtOnce, Leaves, Stops, MakesFunction, Handed, WorldLaw, KeepsLaw, GivenAs, MayBegin, IsCall}
use Rattle.py_safe.proofs.Growth.{get_end, grows_trans, grows_refl}
use Rattle.py_table.proofs.Lawful.{opens, closed_open, news_open, left, Stays, used_stays}

and_left : (a b : Bool) → (a && b) ≡ true → a ≡ true
and_left true b e = refl
and_left false b e = absurd (cc)

and_right : (a b : Bool) → (a && b) ≡ true → b ≡ true
and_right true b e = e
and_right false b e = absurd (cc)

-- ---- what is handed to operations

unset_open : (marks : ℕ → Mark) (v : Value) → IsOpen marks v → OrUnset (IsOpen marks) v
unset_open marks value.Unset p = tt
unset_open marks v p = p

by_open : (marks : ℕ → Mark) (ks : List ArgumentKind) (vs : List Value) → AllOpen marks vs → GivenBy (IsOpen marks) ks vs
by_open marks [] vs p = p
by_open marks (k ∷ ks) [] p = tt
by_open marks (kind.Any ∷ ks) (v ∷ vs) p = (unset_open marks v p.0, by_open marks ks vs p.1)
by_open marks (k ∷ ks) (v ∷ vs) p = (p.0, by_open marks ks vs p.1)

handed_given : (marks : ℕ → Mark) (o : Op) (args : List Value) → Handed marks o args → Given (opens marks) o args
handed_given marks op.KeyPut [] p = tt
handed_given marks op.KeyPut (d ∷ rest) p = p.1
handed_given marks op.KeyMerge [] p = tt
handed_given marks op.KeyMerge (d ∷ rest) p = p.1
handed_given marks op.Put (d ∷ value.Str text ∷ rest) p = (tt, p.1)
handed_given marks op.Put args p = p
handed_given marks op.CallX (f ∷ list ∷ d ∷ rest) p = (p.0, p.1, p.3)
handed_given marks op.CallX args p = tt
handed_given marks op.Func args p = absurd p
handed_given marks o args p = by_open marks (arguments o) args p

-- ---- a row, and the binding behind it

generators_trans : (h more most : List Object) → KeepsGenerators h more → KeepsGenerators more most → KeepsGenerators h most
generators_trans h more most f g =
    λ n code state given cells e. elim (g n code state given cells e) [ inl p ↦ f n code state given cells p | inr q ↦ inr q ]

-- the end of a row is one of the world after it
module _ (c : Claim) (w : World) (h : List Object) where
  after_moved : (a : After) → AfterIn h a → AfterOf c w a → AfterOf c (record w { heap = h }) a
  after_moved (behind.Made v) p q = q
  after_moved (behind.Report exception) p q = p
  after_moved a p q = tt

  how_moved : (k : How) → HowIn h k → HowOf c w k → HowOf c (record w { heap = h }) k
  how_moved (how.Send v) p q = q
  how_moved (how.Throw exception) p q = p
  how_moved how.Close p q = tt

  end_moved : (e : OpEnd) → EndIn h e → EndOf c w e → EndOf c (record w { heap = h }) e
  end_moved (opend.Give v) p q = q
  end_moved (opend.Raise n args) p q = (p.0, q.1)
  end_moved (opend.Ask f args names a) p q =
      record { function = p.0; known = q.known; args = q.args; names = q.names; distinct = q.distinct; after = after_moved a p.3 q.after }
  end_moved (opend.Resume generator k) p q = (p.0, how_moved k p.1 q.1)
  end_moved (opend.Put text) p q = tt
  end_moved opend.Line p q = tt
  end_moved (opend.Stop kind) p q = tt

row_left : DoingsKeepSound → (c : Roster) (w : World) (marks : ℕ → Mark) → WorldLaw c w marks → (o : Op) (args : List Value) → fits o w args ≡ true → Right (opens marks) w (doing o w args) → Leaves c w marks (row o w args)
row_left sound c w marks l o args e r =
    let d : Doing = doing o w args in
    let u : Uses (opens marks) w d = r (news_open marks (length w.heap) d.made l.law.ahead) in
    let s : Sound (after w (answer w d)) × EndIn (heap_after w.heap d) d.end = asking_sound sound o w args l.sound e in
    let t : Stays c w marks (heap_after w.heap d) = used_stays c w marks l d u in
    let w' : World = after w (answer w d) in
    let l' : WorldLaw c w' marks = record { sound = s.0; law = t.law; codes = l.codes } in
    let k : Closed (opens marks) w' = closed_open c w' marks l' in
    let d' : Doing = bound_end w' d.end in
    let b : Right (opens marks) w' d' × Asked w' d'.end = bound_right (opens marks) w' k d.end (end_moved (opens marks) w (heap_after w.heap d) d.end s.1 u.end) in
    let u' : Uses (opens marks) w' d' = b.0 (news_open marks (length w'.heap) d'.made l'.law.ahead) in
    let x : Leaves c w' marks (answer w' d') = left c w' marks l' d' u' (bound_sound sound w' d.end s.0 s.1) b.1 in
    record {
      sound = x.sound;
      law = x.law;
      grows = grows_trans _ _ _ t.grows x.grows;
      generators = generators_trans _ _ _ t.generators x.generators;
      end = x.end;
    }

-- ---- ends at once, of truth values, and of what was made

at_once_if : (b : Bool) (e f : OpEnd) → IsAtOnce e → IsAtOnce f → IsAtOnce (if b then e else f)
at_once_if true e f p q = p
at_once_if false e f p q = q

length_once : (f : ℤ → OpEnd) → ((z : ℤ) → IsAtOnce (f z)) → (z : Option ℤ) → IsAtOnce (length_after f z)
length_once f p None = tt
length_once f p (Some z) = at_once_if (int_lt z (pos 0)) _ (f z) tt (p z)

truth_once : (v : Value) → IsAtOnce (truth_after v)
truth_once (value.Bool b) = tt
truth_once other = tt

made_once : (made v : Value) → IsAtOnce (made_after made v)
made_once value.None v = tt
made_once made v = at_once_if (is_none v) (opend.Give made) _ tt tt

tuple_once : (h : List Object) (o : Option Object) → IsAtOnce (tuple_after h o).end
tuple_once h (Some (object.List items)) = tt
tuple_once h other = tt

join_once : (text : List ℕ) (o : Option Object) → IsAtOnce (join_after text o)
join_once text (Some (object.List items)) =
    at_once_if (list_all is_text items) (sized_text (joined text items)) _ (at_once_if (nat_le (characters (joined text items)) size_limit) (give_text (joined text items)) _ tt tt) tt
join_once text o = tt

value_once : (a : After) (v : Value) → IsAtOnce (value_after a v)
value_once behind.Plain v = tt
value_once behind.Truth v = truth_once v
value_once behind.Some v = length_once (λ z. give_bool (not (int_eq z (pos 0)))) (λ z. tt) (number_of v)
value_once behind.Length v = length_once (λ z. opend.Give (value.Int z)) (λ z. tt) (number_of v)
value_once (behind.Made made) v = made_once made v
value_once (behind.Join text) v = tt
value_once behind.Tuple v = tt
value_once (behind.Report exception) v = tt

finished_once : (a : After) (w : World) (v : Value) → IsAtOnce (finished a w v).end
finished_once (behind.Join text) w v = join_once text (object_of w.heap v)
finished_once behind.Tuple w v = tuple_once w.heap (object_of w.heap v)
finished_once behind.Plain w v = value_once behind.Plain v
finished_once behind.Truth w v = value_once behind.Truth v
finished_once behind.Some w v = value_once behind.Some v
finished_once behind.Length w v = value_once behind.Length v
finished_once (behind.Made made) w v = value_once (behind.Made made) v
finished_once (behind.Report exception) w v = tt

once_call : (e : OpEnd) → IsAtOnce e → IsCall e
once_call (opend.Give v) p = tt
once_call (opend.Raise n args) p = tt
once_call (opend.Stop kind) p = tt
once_call e p = absurd p

begun_call : (f : ℕ) (a : After) (n : ℕ) (g : Option (ℕ × List Value)) (b : Bound) (made : List Object) → IsCall (begun f a n g b made).end
begun_call f a n g (Raise m args) made = tt
begun_call f a n g (Stop kind) made = tt
begun_call f a n None (Ready values) made = tt
begun_call f a n (Some g) (Ready values) made = once_call (value_after a (value.Obj (length made + n))) (value_once a (value.Obj (length made + n)))

-- ---- truth values

true_if : (b : Bool) (e f : OpEnd) → EndIsTruth e → EndIsTruth f → EndIsTruth (if b then e else f)
true_if true e f p q = p
true_if false e f p q = q

object_true : (h : List Object) (o : Option Object) → EndIsTruth (object_truth h o)
object_true h (Some (object.Instance class fields)) = tt
object_true h other = tt

truth_true : (h : List Object) (v : Value) → EndIsTruth (truth_row h v)
truth_true h (value.Obj n) = object_true h (slice_get h n)
truth_true h other = tt

not_true : (v : Value) → EndIsTruth (not_row v)
not_true (value.Bool b) = tt
not_true other = tt

one_true : (f : Value → OpEnd) → ((v : Value) → EndIsTruth (f v)) → (args : List Value) → EndIsTruth (of_one f args)
one_true f p (v ∷ []) = p v
one_true f p other = tt

same_true : (args : List Value) → EndIsTruth (of_two is_row args)
same_true (a ∷ b ∷ []) = tt
same_true other = tt

-- the class of an instance decides

asks_true : (s : Special) (args : List Value) (a : After) (e : OpEnd) → TruthBehind a → EndIsTruth e → EndIsTruth (asks_special s args a e)
asks_true special.Absent args a e t p = p
asks_true (special.Function f) args a e t p = t
asks_true special.Other args a e t p = tt

special_true : (h : List Object) (x : Value) (name : List ℕ) (args : List Value) (a : After) (e : OpEnd) → TruthBehind a → EndIsTruth e → EndIsTruth (by_special h x name args a e)
special_true h x name args a e t p = asks_true (instance_special h (object_of h x) name) args a e t p

class_true : (h : List Object) (x : Value) → EndIsTruth (special_truth h x)
class_true h x =
    special_true h x (codes "__bool__") (x ∷ []) behind.Truth (truth_by_length h x) tt
    (special_true h x (codes "__len__") (x ∷ []) behind.Some (give_bool true) tt tt)

truth_family : (f : Family) (h : List Object) (args : List Value) → EndIsTruth (truth_of f op.Truth h args).end
truth_family family.Classes h args = one_true (special_truth h) (class_true h) args
truth_family f h args = one_true (truth_row h) (truth_true h) args

-- whether a value is among another's items

same_true_end : (s : Sameness) → EndIsTruth (same_end (λ b. b) s)
same_true_end same.Equal = tt
same_true_end same.Different = tt
same_true_end same.Depth = tt
same_true_end same.Unbuilt = tt

no_key_true : (h : List Object) (v : Value) (e : KeyEnd) → EndIsTruth (no_key h v e)
no_key_true h v end.Unhashable = tt
no_key_true h v end.Unbuilt = tt
no_key_true h v end.Depth = tt
no_key_true h v end.Memory = tt

keyed_true : (h : List Object) (v : Value) (pairs : PairList) (k : Keyed) → EndIsTruth (key_within pairs (key_or h v k))
keyed_true h v pairs (Ok k) = tt
keyed_true h v pairs (Err e) = no_key_true h v e

key_if_true : (b : Bool) (h : List Object) (v : Value) (pairs : PairList) → EndIsTruth (key_within pairs (if b then key_or h v (key h v) else Err unbuilt))
key_if_true true h v pairs = keyed_true h v pairs (key h v)
key_if_true false h v pairs = tt

view_true : (h : List Object) (v : Value) (kind : ViewKind) (pairs : PairList) → EndIsTruth (in_view h v kind pairs)
view_true h v view_kind.Keys pairs = key_if_true (is_in (length h) v) h v pairs
view_true h v view_kind.Values pairs = same_true_end _
view_true h v view_kind.Both pairs = tt

in_on_true : (h : List Object) (v : Value) (o : Option Object) → EndIsTruth (in_on h v o)
in_on_true h v (Some (object.Dict pairs)) = key_if_true (is_in (length h) v) h v pairs
in_on_true h v (Some (object.View dict kind)) = view_true h v kind (pairs_in (slice_get h dict))
in_on_true h v o = tt

dicts_true : (h : List Object) (args : List Value) → EndIsTruth (dict_row op.In h args).end
dicts_true h (v ∷ x ∷ []) = in_on_true h v (object_of h x)
dicts_true h args = tt

asked_true : (f : Option ℕ) (args : List Value) → EndIsTruth (asked f args [] behind.Truth)
asked_true None args = tt
asked_true (Some f) args = tt

others_true : (h : List Object) (args : List Value) → EndIsTruth (other_row op.In h args)
others_true h (v ∷ x ∷ []) = asked_true (built_in h (codes "_nu_in")) (v ∷ x ∷ [])
others_true h args = tt

classes_true : (h : List Object) (args : List Value) → EndIsTruth (family_row family.Classes op.In h args).end
classes_true h (v ∷ x ∷ []) = asked_true (built_in h (codes "_nu_in")) (v ∷ x ∷ [])
classes_true h args = tt

place_true : (p : Result (Option ℕ) StopKind) → EndIsTruth (place_end p)
place_true (Ok place) = tt
place_true (Err kind) = tt

range_view_true : (count : ℕ) (o : Option Object) → EndIsTruth (other_in_range count o)
range_view_true count (Some (object.View dict kind)) = true_if (count == 0) (give_bool false) unbuilt tt tt
range_view_true count o = tt

range_true : (h : List Object) (start stop step : ℤ) (v : Value) (n : Option ℤ) → EndIsTruth (in_range_of h start stop step v n)
range_true h start stop step v (Some z) = tt
range_true h start stop step v None = range_view_true _ (object_of h v)

in_sequence_true : (h : List Object) (v x : Value) (o : Option Object) → EndIsTruth (in_sequence h v x o)
in_sequence_true h v x (Some (object.List items)) = place_true _
in_sequence_true h v x (Some (object.Tuple items)) = place_true _
in_sequence_true h v x (Some (object.Range start stop step)) = range_true h start stop step v (number_of v)
in_sequence_true h v x o = asked_true (built_in h (codes "_nu_in")) (v ∷ x ∷ [])

sequences_true : (h : List Object) (args : List Value) → EndIsTruth (sequence_row op.In h args).end
sequences_true h (v ∷ x ∷ []) = in_sequence_true h v x (object_of h x)
sequences_true h args = tt

in_text_true : (v : Value) (text : List ℕ) → EndIsTruth (in_text v text)
in_text_true (value.Str part) text = tt
in_text_true v text = tt

texts_true : (h : List Object) (args : List Value) → EndIsTruth (text_doing op.In h args).end
texts_true h (v ∷ value.Str text ∷ []) = in_text_true v text
texts_true h args = tt

in_true : (f : Family) (h : List Object) (args : List Value) → EndIsTruth (family_row f op.In h args).end
in_true family.Classes h args = classes_true h args
in_true family.Dicts h args = dicts_true h args
in_true family.Sequences h args = sequences_true h args
in_true family.Texts h args = texts_true h args
in_true family.Integers h args = others_true h args

-- whether an `except` clause catches an exception
match_true : (headers : List Header) (h : List Object) (args : List Value) → EndIsTruth (attribute_row op.Match headers h args).end
match_true headers h (e ∷ x ∷ []) = true_if (list_all (is_exception_class h) (classes_in x (object_of h x))) (give_bool _) no_catching tt tt
match_true headers h args = tt

doing_true : (o : Op) (w : World) (args : List Value) → GivesTruth o → EndIsTruth (doing o w args).end
doing_true op.Truth w args g = truth_family (family_at_first w.heap args) w.heap args
doing_true op.Not w args g = one_true not_row not_true args
doing_true op.In w args g = in_true (family_at_second w.heap args) w.heap args
doing_true op.Is w args g = same_true args
doing_true op.Match w args g = match_true w.codes w.heap args
doing_true other w args g = absurd g

length_true : (f : ℤ → OpEnd) → ((z : ℤ) → EndIsTruth (f z)) → (z : Option ℤ) → EndIsTruth (length_after f z)
length_true f p None = tt
length_true f p (Some z) = true_if (int_lt z (pos 0)) _ (f z) tt (p z)

after_true : (v : Value) → EndIsTruth (truth_after v)
after_true (value.Bool b) = tt
after_true other = tt

value_true : (a : After) (v : Value) → TruthBehind a → EndIsTruth (value_after a v)
value_true behind.Truth v t = after_true v
value_true behind.Some v t = length_true (λ z. give_bool (not (int_eq z (pos 0)))) (λ z. tt) (number_of v)
value_true other v t = absurd t

finished_true : (a : After) (w : World) (v : Value) → TruthBehind a → EndIsTruth (finished a w v).end
finished_true behind.Truth w v t = value_true behind.Truth v t
finished_true behind.Some w v t = value_true behind.Some v t
finished_true other w v t = absurd t

begun_true : (f : ℕ) (a : After) (n : ℕ) (g : Option (ℕ × List Value)) (b : Bound) (made : List Object) → TruthBehind a → EndIsTruth (begun f a n g b made).end
begun_true f a n g (Raise m args) made t = tt
begun_true f a n g (Stop kind) made t = tt
begun_true f a n None (Ready values) made t = t
begun_true f a n (Some g) (Ready values) made t = value_true a (value.Obj (length made + n)) t

bound_true : (w : World) (e : OpEnd) → EndIsTruth e → EndIsTruth (bound_end w e).end
bound_true w (opend.Give v) p = p
bound_true w (opend.Raise n args) p = tt
bound_true w (opend.Ask f args names a) p = begun_true f a (length w.heap) _ _ _ p
bound_true w (opend.Stop kind) p = tt
bound_true w e p = absurd p

row_true : (o : Op) (w : World) (args : List Value) → GivesTruth o → EndIsTruth (row o w args).end
row_true o w args g = bound_true (after w (answer w (doing o w args))) (doing o w args).end (doing_true o w args g)

this_if : (made : Value) (b : Bool) (e f : OpEnd) → EndIsThis made e → EndIsThis made f → EndIsThis made (if b then e else f)
this_if made true e f p q = p
this_if made false e f p q = q

made_this : (made v : Value) → EndIsThis made (made_after made v)
made_this value.None v = refl
made_this made v = this_if made (is_none v) (opend.Give made) _ refl tt

-- ---- objects that are made

-- a row, once what it asks is bound, gives an object of this nature if anything
abbrev GivesOf : World → Nature → Doing → Type 0
GivesOf w s d = EndIsOf (bound w (answer w d)).heap (Some s) (bound w (answer w d)).end

gives_if : (b : Bool) (w : World) (s : Nature) (d e : Doing) → GivesOf w s d → GivesOf w s e → GivesOf w s (if b then d else e)
gives_if true w s d e p q = p
gives_if false w s d e p q = q

gives_new : (w : World) (o : Object) → GivesOf w (nature_of (Some o)) (makes w.heap o)
gives_new w o = ap nature_of (get_end w.heap o)

cell_made : (w : World) (args : List Value) → EndIsOf (row op.Cell w args).heap (Some ACell) (row op.Cell w args).end
cell_made w [] = gives_new w (object.Cell value.Unset)
cell_made w (a ∷ vs) = tt

space_made : (w : World) (args : List Value) → EndIsOf (row op.Space w args).heap (Some ASpace) (row op.Space w args).end
space_made w [] = gives_new w (object.Space [])
space_made w (a ∷ vs) = tt

dict_made : (w : World) (args : List Value) → EndIsOf (row op.Dict w args).heap (Some ADict) (row op.Dict w args).end
dict_made w [] = gives_new w (object.Dict [])
dict_made w (a ∷ vs) = tt

tuple_made : (w : World) (args : List Value) → EndIsOf (row op.Tuple w args).heap (Some ATuple) (row op.Tuple w args).end
tuple_made w args =
    gives_if (nat_le (length args) size_limit) w ATuple (makes w.heap (object.Tuple args)) (ends (opend.Stop stop.Size)) (gives_new w (object.Tuple args)) tt

list_made : (w : World) (args : List Value) → EndIsOf (row op.List w args).heap (Some AList) (row op.List w args).end
list_made w args =
    gives_if (nat_le (length args) size_limit) w AList (makes w.heap (object.List args)) (ends (opend.Stop stop.Size)) (gives_new w (object.List args)) tt

-- an exception, or a new one

-- what goes through Made gives what was there already, if anything
begun_of : (h : List Object) (s : Nature) (f i : ℕ) (g : Option (ℕ × List Value)) (b : Bound) (made : List Object) → i < length h → nature_of (slice_get h i) ≡ s
    → EndIsOf (heap_after h (begun f (behind.Made (value.Obj i)) (length h) g b made)) (Some s) (begun f (behind.Made (value.Obj i)) (length h) g b made).end
begun_of h s f i g (Raise m args) made small e = tt
begun_of h s f i g (Stop kind) made small e = tt
begun_of h s f i None (Ready values) made small e = ap nature_of (grown_before h made i small) ∙ e
begun_of h s f i (Some g) (Ready values) made small e = tt

exception_made : (w : World) (class : ℕ) (i : Init) → GivesOf w AnError (exception_by w.heap class i)
exception_made w class init.Plain = gives_new w (bare class)
exception_made w class (init.Function f) =
    let n : ℕ = length w.heap in
    let h : List Object = w.heap ++ bare class ∷ [] in
    let b : Binding = bound_function h w.codes f (value.Obj n ∷ []) [] in
    begun_of h AnError f n (generator_of w.codes (slice_get h f)) b.bound b.made (omega (arith, length-append w.heap (bare class ∷ []))) (ap nature_of (get_end w.heap (bare class)))
exception_made w class init.Other = tt

raised_made : (w : World) (n : ℕ) (o : Option Object) → slice_get w.heap n ≡ o → GivesOf w AnError (exc_on w.heap n o)
raised_made w n (Some (object.Exception class args entries fields cause)) e = ap nature_of e
raised_made w n (Some (object.Class name base own native)) e =
    gives_if (is_under w.heap (Some n) baseexception_number) w AnError (exception_by w.heap n (init_in w.heap n)) (ends no_exception) (exception_made w n (init_in w.heap n)) tt
raised_made w n o e = tt

value_made : (w : World) (x : Value) → GivesOf w AnError (exc_row w.heap x)
value_made w (value.Obj n) = raised_made w n (slice_get w.heap n) refl
value_made w x = tt

exc_made : (w : World) (args : List Value) → EndIsOf (row op.Exc w args).heap (Some AnError) (row op.Exc w args).end
exc_made w [] = tt
exc_made w (x ∷ []) = value_made w x
exc_made w (x ∷ y ∷ vs) = tt

row_makes : (o : Op) (w : World) (args : List Value) → EndIsOf (row o w args).heap (gives_nature o) (row o w args).end
row_makes op.Cell w args = cell_made w args
row_makes op.Space w args = space_made w args
row_makes op.Dict w args = dict_made w args
row_makes op.Tuple w args = tuple_made w args
row_makes op.List w args = list_made w args
row_makes op.Exc w args = exc_made w args
row_makes other w args = tt

-- ---- functions that are made

-- a function with cells, or a stop
abbrev MayMake : World → (ℕ → Mark) → ℕ → List Value → Doing → Type 0
MayMake w marks code cells d = MakesFunction w marks code cells (bound w (answer w d)) ⊎ Stops w.heap (bound w (answer w d))

module _ (c : Roster) (w : World) (marks : ℕ → Mark) (l : WorldLaw c w marks) where
  cell_in : (v : Value) → IsCell w.heap v → IsIn w.heap v
  cell_in (value.Obj n) p = p.there
  cell_in v p = absurd p

  cells_in : (vs : List Value) → AreCells w.heap vs → AllIn w.heap vs
  cells_in [] p = tt
  cells_in (v ∷ vs) p = (cell_in v p.0, cells_in vs p.1)

  make_if : (b : Bool) (code : ℕ) (items : List Value) (pairs : PairList) (cells : List Value) → code < length w.codes → are_cells w.heap cells ≡ b → AllIn w.heap items → AllOpen marks items → PairsOf (IsIn w.heap) pairs → PairsOf (IsOpen marks) pairs → AllOpen marks cells
      → MayMake w marks code cells (if b then makes w.heap (object.Function code items (keywords_of pairs []) cells) else nothing)
  make_if false code items pairs cells small e i j p q r = inr (stop.Unbuilt, refl, refl)
  make_if true code items pairs cells small e i j p q r =
      let are : AreCells w.heap cells = cells_are (opens marks) w (closed_open c w marks l) cells e in
      inl (record {
        defaults = items;
        keywords = keywords_of pairs [];
        is = record { end = refl; heap = refl };
        inside = ((i, keywords_of_all (IsIn w.heap) pairs [] p tt, cells_in cells are), (small, keywords_distinct pairs [] tt, are));
        opens = (j, keywords_of_all (IsOpen marks) pairs [] q tt, r);
      })

  code_if : (b : Bool) (code : ℕ) (items : List Value) (pairs : PairList) (cells : List Value) → nat_lt code (length w.codes) ≡ b → AllIn w.heap items → AllOpen marks items → PairsOf (IsIn w.heap) pairs → PairsOf (IsOpen marks) pairs → AllOpen marks cells
      → MayMake w marks code cells (func_made w.heap (if b then Some code else None) items pairs cells)
  code_if false code items pairs cells e i j p q r = inr (stop.Unbuilt, refl, refl)
  code_if true code items pairs cells e i j p q r =
      make_if (are_cells w.heap cells) code items pairs cells (code_below (opens marks) w (closed_open c w marks l) (pos code) code (rw e refl)) refl i j p q r

  abbrev PartsKnown : Option Object → Type 0
  PartsKnown None = Unit {0}
  PartsKnown (Some o) = PartsOf (IsIn w.heap) o × PartsOf (IsOpen marks) o

  known_at : (n : ℕ) (o : Option Object) → slice_get w.heap n ≡ o → PartsKnown o
  known_at n None e = tt
  known_at n (Some o) e = ((l.sound.heap.objects n o e).0, l.law.opens n o e)

  known_of : (v : Value) → PartsKnown (object_of w.heap v)
  known_of (value.Obj n) = known_at n (slice_get w.heap n) refl
  known_of v = tt

  func_objects : (code : ℕ) (defaults keywords : Option Object) (cells : List Value) → PartsKnown defaults → PartsKnown keywords → AllOpen marks cells → MayMake w marks code cells (func_by w.codes w.heap (Some (pos code)) defaults keywords cells)
  func_objects code (Some (object.Tuple items)) (Some (object.Dict pairs)) cells x y r =
      code_if (nat_lt code (length w.codes)) code items pairs cells refl x.0 x.1 y.0 y.1 r
  func_objects code defaults keywords cells x y r = inr (stop.Unbuilt, refl, refl)

  func_makes : (code : ℕ) (d e : Value) (cells : List Value) → AllOpen marks cells → MayMake w marks code cells (func_by w.codes w.heap (Some (pos code)) (object_of w.heap d) (object_of w.heap e) cells)
  func_makes code d e cells r = func_objects code (object_of w.heap d) (object_of w.heap e) cells (known_of d) (known_of e) r

-- ---- a class's block is called

block_role : (r : Role) → MarkedAs Block r → r ≡ OfClass
block_role OfClass p = refl
block_role OfFunction p = absurd p
block_role OfModule p = absurd p

one_param : (ps : ParamList) → map (λ p. p.0) ps ≡ param.Only ∷ [] → (name : List ℕ) × (ps ≡ (param.Only, name) ∷ [])
one_param [] e = absurd (cc)
one_param (p ∷ []) e = let is : p.0 ≡ param.Only = cc in (p.1, ap (λ k. (k, p.1) ∷ []) is)
one_param (p ∷ q ∷ ps) e = absurd (cc)

some_at : {A : Type 0} (xs : List A) (i : ℕ) → i < length xs → (x : A) × (slice_get xs i ≡ Some x)
some_at [] i p = absurd (omega arith)
some_at (x ∷ xs) zero p = (x, refl)
some_at (x ∷ xs) (suc i) p = some_at xs i (omega arith)

module _ (w : World) (f names code : ℕ) (defaults : List Value) (keywords : NameList) (cells : List Value) (header : Header) where
  abbrev block_names : List Value
  block_names = value.Obj names ∷ []

  abbrev by_object : Option Object → Doing
  by_object o = begun f behind.Plain (length w.heap) (generator_of w.codes o) (bound_object w.codes (length w.heap) block_names [] o).bound (bound_object w.codes (length w.heap) block_names [] o).made

  abbrev by_header : Option Header → Doing
  by_header h = begun f behind.Plain (length w.heap) (generator_if code cells h) (bound_code (length w.heap) defaults keywords block_names [] h).bound (bound_code (length w.heap) defaults keywords block_names [] h).made

  abbrev by_kind : Bool → ParamList → Doing
  by_kind generator ps =
      let call : Call = call_of ps defaults keywords block_names [] (length w.heap) in
      begun f behind.Plain (length w.heap) (if generator then Some (code, cells) else None) (binding header.scope call) (made_by (binding header.scope call) call)

  abbrev block_end : OpEnd
  block_end = opend.Ask f block_names [] behind.Plain

  block_bound : slice_get w.heap f ≡ Some (object.Function code defaults keywords cells) → slice_get w.codes code ≡ Some header → (name : List ℕ) → header.params ≡ (param.Only, name) ∷ [] → header.generator ≡ false → bind w f block_names [] behind.Plain ≡ ends block_end
  block_bound at there name params kind =
      ap by_object at ∙ ap by_header there ∙ ap (λ g. by_kind g header.params) kind ∙ ap (λ ps. by_kind false ps) params

  block_routed : slice_get w.heap f ≡ Some (object.Function code defaults keywords cells) → doing op.Call w (value.Obj f ∷ block_names) ≡ ends block_end
  block_routed at =
      ap (λ o. routed (object_route w.heap f true block_names o) op.Call w (value.Obj f ∷ block_names)) at ∙ ap (λ o. call_object w.heap f block_names [] o) at

  -- it takes the names, and makes nothing else
  block_row : slice_get w.heap f ≡ Some (object.Function code defaults keywords cells) → slice_get w.codes code ≡ Some header → IsBlock header → row op.Call w (value.Obj f ∷ block_names) ≡ keeps w.heap block_end
  block_row at there is =
      let ps : (name : List ℕ) × (header.params ≡ (param.Only, name) ∷ []) = one_param header.params is.0 in
      ap (λ d. bound w (answer w d)) (block_routed at) ∙ ap (λ d. answer w d) (block_bound at there ps.0 ps.1 is.1)

module _ (c : Roster) (w : World) (marks : ℕ → Mark) (blocks : HasBlocks c) (l : WorldLaw c w marks) where
  block_at : (f names code : ℕ) (defaults : List Value) (keywords : NameList) (cells : List Value) (header : Header) → slice_get w.heap f ≡ Some (object.Function code defaults keywords cells) → slice_get w.codes code ≡ Some header → c.role code ≡ OfClass → IsA w.heap names SpaceSort → marks names ≡ Open
      → Leaves c w marks (row op.Call w (value.Obj f ∷ value.Obj names ∷ []))
  block_at f names code defaults keywords cells header at there role a n =
      let listed : slice_get c.headers code ≡ Some header = subst (λ hs. slice_get hs code ≡ Some header) l.codes there in
      let is : IsBlock header = blocks code header role listed in
      let ps : (name : List ℕ) × (header.params ≡ (param.Only, name) ∷ []) = one_param header.params is.0 in
      let takes : Takes c code false (value.Obj names ∷ []) = record { header = header; at = listed; count = sym (ap length ps.1); kind = is.1 } in
      let may : MayBegin c (view w.heap marks) (Some (object.Function code defaults keywords cells)) (value.Obj names ∷ []) = (takes, ((a.there, n), tt), subst (λ r. GivenAs (view w.heap marks) r (value.Obj names ∷ [])) (sym role) a) in
      subst (λ r. Leaves c w marks r) (sym (block_row w f names code defaults keywords cells header at there is))
      (record {
        sound = l.sound;
        law = l.law;
        grows = grows_refl (view w.heap marks);
        generators = λ m i state given inner e. inl e;
        end = (subst (λ o. MayBegin c (view w.heap marks) o (value.Obj names ∷ [])) (sym at) may, refl, tt);
      })

  block_by : (f names : ℕ) (o : Object) → slice_get w.heap f ≡ Some o → BodyLaw c Block o → IsA w.heap names SpaceSort → marks names ≡ Open → Leaves c w marks (row op.Call w (value.Obj f ∷ value.Obj names ∷ []))
  block_by f names (object.Function code defaults keywords cells) at b a n =
      let h : (x : Header) × (slice_get w.codes code ≡ Some x) = some_at w.codes code ((l.sound.heap.objects f _ at).1.0) in
      block_at f names code defaults keywords cells h.0 at h.1 (block_role (c.role code) b.1) a n
  block_by f names (object.Generator code state given cells) at b a n = absurd b.3
  block_by f names o at b a n = absurd b

  block_left : (f names : ℕ) → marks f ≡ Block → f < length w.heap → IsA w.heap names SpaceSort → marks names ≡ Open → Leaves c w marks (row op.Call w (value.Obj f ∷ value.Obj names ∷ []))
  block_left f names m small a n =
      let o : (x : Object) × (slice_get w.heap f ≡ Some x) = some_at w.heap f small in
      block_by f names o.0 o.1 (subst (λ x. BodyLaw c x o.0) m (l.law.bodies f o.0 o.1)) a n

-- ---- the start: nothing is marked, and no function or generator is there

abbrev unmarked : ℕ → Mark
unmarked n = Open

value_unmarked : (v : Value) → IsOpen unmarked v
value_unmarked (value.Obj n) = refl
value_unmarked other = tt

abbrev has_no_body : Object → Bool
has_no_body (object.Function code defaults keywords cells) = false
has_no_body (object.Generator code state given cells) = false
has_no_body other = true

abbrev have_no_body : List Object → Bool
have_no_body [] = true
have_no_body (o ∷ os) = has_no_body o && have_no_body os

bodiless_at : (os : List Object) → have_no_body os ≡ true → (n : ℕ) (o : Object) → slice_get os n ≡ Some o → has_no_body o ≡ true
bodiless_at [] e n o at = absurd (cc)
bodiless_at (x ∷ os) e zero o at = let same : x ≡ o = cc in subst (λ y. has_no_body y ≡ true) same (and_left (has_no_body x) (have_no_body os) e)
bodiless_at (x ∷ os) e (suc n) o at = bodiless_at os (and_right (has_no_body x) (have_no_body os) e) n o at

bodiless_law : (c : Roster) (o : Object) → has_no_body o ≡ true → BodyLaw c Open o
bodiless_law c (object.Function code defaults keywords cells) e = absurd (cc)
bodiless_law c (object.Generator code state given cells) e = absurd (cc)
bodiless_law c other e = tt

start_bodiless : (n : ℕ) (o : Object) → slice_get (native_classes ++ first_objects) n ≡ Some o → has_no_body o ≡ true
start_bodiless = bodiless_at (native_classes ++ first_objects) refl

start_law : TheStartIsSound → (c : Roster) → WorldLaw c (start_world c.headers) unmarked
start_law start c =
    record {
      sound = start c.headers;
      law = record {
        opens = λ n o e. parts_by (IsIn (start_world c.headers).heap) (IsOpen unmarked) (λ v p. value_unmarked v) o ((start c.headers).heap.objects n o e).0;
        bodies = λ n o e. bodiless_law c o (start_bodiless n o e);
        keywords = λ n e. absurd (cc);
        ahead = λ n behind. refl;
      };
      codes = refl;
    }

start_idle : (headers : List Header) → KeepsGenerators [] (start_world headers).heap
start_idle headers = λ n code state given cells e.
    let f : false ≡ true = start_bodiless n (object.Generator code state given cells) e in absurd (cc)

-- ---- the law

after_in : (v : View) (a : After) → AfterLaw v a → AfterIn v.heap a
after_in v (behind.Made made) p = p.0
after_in v (behind.Report exception) p = p.0
after_in v other p = tt

after_of : (w : World) (marks : ℕ → Mark) (a : After) → AfterLaw (view w.heap marks) a → AfterOf (opens marks) w a
after_of w marks (behind.Made made) p = p.1
after_of w marks (behind.Report exception) p = p.0
after_of w marks other p = tt

once_asked : (w : World) (e : OpEnd) → IsAtOnce e → Asked w e
once_asked w (opend.Give v) p = tt
once_asked w (opend.Raise n args) p = tt
once_asked w (opend.Stop kind) p = tt
once_asked w e p = absurd p

opens_of : (w : World) (marks : ℕ → Mark) (vs : List Value) → AllThere (view w.heap marks) vs → AllOpen marks vs
opens_of w marks [] p = tt
opens_of w marks (v ∷ vs) p = (p.0.1, opens_of w marks vs p.1)

ins_of : (w : World) (marks : ℕ → Mark) (vs : List Value) → AllThere (view w.heap marks) vs → AllIn w.heap vs
ins_of w marks [] p = tt
ins_of w marks (v ∷ vs) p = (p.0.0, ins_of w marks vs p.1)

pub table_law : DoingsKeepSound → FinishingKeepsSound → TheStartIsSound → KeepsLaw table_rules
table_law sound finishing_sound start = record {
  fits = λ o w args s e. e;
  truth = λ o w args g e. row_true o w args g;
  makes = λ o w args e. row_makes o w args;
  apply = λ c o w marks args l e q.
      row_left sound c w marks l o args e (doing_right (opens marks) w (closed_open c w marks l) (group o) o args (handed_given marks o args q));
  dict = λ w. inl (record { end = refl; heap = refl });
  func = λ c w marks code tuple dict cells l e p q r. func_makes c w marks l code tuple dict cells r;
  block = λ c w marks f names b l m p a n. block_left c w marks b l f names m p a n;
  bind = λ c w marks f args a l i p q.
      let d : Doing = bind w f args [] a in
      let r : Right (opens marks) w d × Asked w d.end = bind_right (opens marks) w (closed_open c w marks l) f args [] a i.1 (opens_of w marks args p) tt (after_of w marks a q) in
      (left c w marks l d (r.0 (news_open marks (length w.heap) d.made l.law.ahead)) (bind_sound sound w f args a l.sound (ins_of w marks args p) (after_in (view w.heap marks) a q)) r.1, begun_call f a (length w.heap) _ _ _);
  finish = λ c w marks a v l p i.
      let d : Doing = finishing a w.heap v in
      let k : Closed (opens marks) w = closed_open c w marks l in
      let u : Uses (opens marks) w d = finishing_right (opens marks) w k a v (after_of w marks a p) i.1 (news_open marks (length w.heap) d.made l.law.ahead) in
      (left c w marks l d u (finishing_sound a w v l.sound (after_in (view w.heap marks) a p) i.0) (once_asked w d.end (finished_once a w v)), finished_once a w v);
  finish_truth = finished_true;
  finish_made = λ made w v. made_this made v;
  start = start_law start;
  idle = start_idle;
}
