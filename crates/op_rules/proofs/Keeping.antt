-- Every operation, and what becomes of the value of an asked function, keeps a world sound.
use Rattle.std.proofs.Common.{◌≡◌, ℕ, List, [], ◌∷◌, Option, Some, None, Bool, true, false, refl, arith, length}
use Rattle.std.specs.Prelude.{◌&&◌, slice_get}
use Rattle.std.specs.List.{list_all}
use Rattle.std.proofs.lemmas.Bool.Decides.{nat_tests}
use Rattle.std.proofs.lemmas.Option.{slice_get_within}
use Rattle.nu_value.specs.declared.object.Object.{Object}
use Rattle.nu_value.specs.declared.value.Value.{Value}
use Rattle.nu_value.specs.declared.value.Value.TheVariants as value
use Rattle.nu_value.specs.Same.{number_of, object_of}
use Rattle.nu_value.specs.View.{is_text}
use Rattle.op_forms.specs.declared.end.After.{After}
use Rattle.op_forms.specs.declared.end.After.TheVariants as behind
use Rattle.op_forms.specs.declared.end.How.{How}
use Rattle.op_forms.specs.declared.end.How.TheVariants as how
use Rattle.op_forms.specs.declared.end.OpEnd.{OpEnd}
use Rattle.op_forms.specs.declared.end.OpEnd.TheVariants as opend
use Rattle.op_forms.specs.declared.op.Op.{Op}
use Rattle.op_forms.specs.declared.op.Op.TheVariants as op
use Rattle.op_forms.specs.declared.signature.ArgumentKind.{ArgumentKind}
use Rattle.op_forms.specs.declared.signature.ArgumentKind.TheVariants as kind
use Rattle.op_forms.specs.declared.world.World.{World}
use Rattle.op_forms.specs.Answers.{after}
use Rattle.op_forms.specs.Doing.{Doing, heap_after, answer}
use Rattle.op_forms.specs.Fits.{fits, fit, further_fit, is_of, is_in, is_built_in, is_bool, is_below, is_cell, is_space, is_tuple, is_list, is_dict, are_keywords, is_exception}
use Rattle.op_forms.specs.Laws.{DoingsKeepSound}
use Rattle.op_forms.specs.Parts.{AllOf, OrUnset}
use Rattle.op_forms.specs.Right.{Grows, within, GivenBy, RestOf, PutOf, CallOf, Given, AfterOf, HowOf, EndOf}
use Rattle.op_forms.specs.Signature.{arguments, further}
use Rattle.op_forms.specs.Sound.{IsIn, AllIn, AfterIn, HowIn, EndIn, Sound}
use Rattle.op_forms.proofs.Objects.{all_by, names_by, in_more}
use Rattle.op_rules.specs.Binding.{bind, bound_end}
use Rattle.op_rules.specs.Finish.{finishing}
use Rattle.op_rules.specs.Laws.{RowsKeepSound, FinishingKeepsSound}
use Rattle.op_rules.specs.Table.{group, doing}
use Rattle.op_rules.proofs.Begun.{bind_right, bound_right}
use Rattle.op_rules.proofs.Rows.{doing_right, finishing_right}

-- ---- what fitting arguments are

and_left : (a b : Bool) → (a && b) ≡ true → a ≡ true
and_left true b e = refl
and_left false b e = absurd (cc)

and_right : (a b : Bool) → (a && b) ≡ true → b ≡ true
and_right true b e = e
and_right false b e = absurd (cc)

-- a kind of values that Unset isn't of
abbrev IsSet : ArgumentKind → Type 0
IsSet kind.Any = ⊥
IsSet k = Unit {0}

abbrev AreSet : List ArgumentKind → Type 0
AreSet [] = Unit {0}
AreSet (k ∷ ks) = IsSet k × AreSet ks

abbrev MaySet : Option ArgumentKind → Type 0
MaySet None = Unit {0}
MaySet (Some k) = IsSet k

module _ (w : World) (more : List Object) (g : Grows w.heap more) where
  object_there : (n : ℕ) (test : Option Object → Bool) (o : Option Object) → slice_get w.heap n ≡ o → test None ≡ false → test o ≡ true → IsIn w.heap (value.Obj n)
  object_there n test None e none t = absurd (cc)
  object_there n test (Some o) e none t = slice_get_within w.heap n o e

  -- a value of which a test of objects holds
  there : (v : Value) (test : Option Object → Bool) → test None ≡ false → test (object_of w.heap v) ≡ true → IsIn w.heap v
  there (value.Obj n) test none t = object_there n test (slice_get w.heap n) refl none t
  there v test none t = absurd (cc)

  in_is : (v : Value) → is_in (length w.heap) v ≡ true → IsIn w.heap v
  in_is value.Unset e = absurd (cc)
  in_is (value.Obj n) e = grind (arith, nat_tests)
  in_is v e = tt

  text_is : (v : Value) → is_text v ≡ true → IsIn w.heap v
  text_is (value.Str text) e = tt
  text_is v e = absurd (cc)

  name_is : (v : Value) → is_built_in v ≡ true → IsIn w.heap v
  name_is (value.Str text) e = tt
  name_is v e = absurd (cc)

  bool_is : (v : Value) → is_bool v ≡ true → IsIn w.heap v
  bool_is (value.Bool b) e = tt
  bool_is v e = absurd (cc)

  code_is : (v : Value) → is_below (length w.codes) (number_of v) ≡ true → IsIn w.heap v
  code_is (value.Bool b) e = tt
  code_is (value.Int z) e = tt
  code_is v e = absurd (cc)

  kind_is : (k : ArgumentKind) (v : Value) → IsSet k → is_of k w v ≡ true → IsIn w.heap v
  kind_is kind.Name v s e = text_is v e
  kind_is kind.BuiltinName v s e = name_is v e
  kind_is kind.Value v s e = in_is v e
  kind_is kind.Any v s e = absurd s
  kind_is kind.Cell v s e = there v is_cell refl e
  kind_is kind.Space v s e = there v is_space refl e
  kind_is kind.Code v s e = code_is v e
  kind_is kind.Tuple v s e = there v is_tuple refl e
  kind_is kind.List v s e = there v is_list refl e
  kind_is kind.Dict v s e = there v is_dict refl e
  kind_is kind.Keywords v s e = there v are_keywords refl e
  kind_is kind.Bool v s e = bool_is v e
  kind_is kind.Exception v s e = there v is_exception refl e

  any_is : (v : Value) → is_of kind.Any w v ≡ true → OrUnset (IsIn more) v
  any_is value.Unset e = tt
  any_is (value.Obj n) e = in_more w.heap more g (value.Obj n) (in_is (value.Obj n) e)
  any_is v e = tt

  of_kind : (k : ArgumentKind) (v : Value) → IsSet k → is_of k w v ≡ true → IsIn more v
  of_kind k v s e = in_more w.heap more g v (kind_is k v s e)

  all_of : (k : ArgumentKind) (vs : List Value) → IsSet k → list_all (is_of k w) vs ≡ true → AllOf (IsIn more) vs
  all_of k [] s e = tt
  all_of k (v ∷ vs) s e = (of_kind k v s (and_left (is_of k w v) _ e), all_of k vs s (and_right (is_of k w v) _ e))

  further_of : (k : Option ArgumentKind) (vs : List Value) → MaySet k → further_fit k w vs ≡ true → AllOf (IsIn more) vs
  further_of None [] s e = tt
  further_of None (v ∷ vs) s e = absurd (cc)
  further_of (Some k) vs s e = all_of k vs s e

  given_by : (ks : List ArgumentKind) (k : Option ArgumentKind) (vs : List Value) → MaySet k → fit ks k w vs ≡ true → GivenBy (IsIn more) ks vs
  given_by [] k vs s e = further_of k vs s e
  given_by (x ∷ ks) k [] s e = tt
  given_by (kind.Any ∷ ks) k (v ∷ vs) s e =
      (any_is v (and_left (is_of kind.Any w v) _ e), given_by ks k vs s (and_right (is_of kind.Any w v) _ e))
  given_by (x ∷ ks) k (v ∷ vs) s e = (of_kind x v tt (and_left (is_of x w v) _ e), given_by ks k vs s (and_right (is_of x w v) _ e))

  all_given : (ks : List ArgumentKind) (vs : List Value) → AreSet ks → GivenBy (IsIn more) ks vs → AllOf (IsIn more) vs
  all_given [] vs s p = p
  all_given (x ∷ ks) [] s p = tt
  all_given (kind.Any ∷ ks) (v ∷ vs) s p = absurd s.0
  all_given (x ∷ ks) (v ∷ vs) s p = (p.0, all_given ks vs s.1 p.1)

  fitting : (o : Op) (args : List Value) → AreSet (arguments o) → MaySet (further o) → fits o w args ≡ true → AllOf (IsIn more) args
  fitting o args s t e = all_given (arguments o) args s (given_by (arguments o) (further o) args t e)

  rest_of : (vs : List Value) → AllOf (IsIn more) vs → RestOf (IsIn more) vs
  rest_of [] p = tt
  rest_of (v ∷ vs) p = p.1

  put_of : (vs : List Value) → AllOf (IsIn more) vs → PutOf (IsIn more) vs
  put_of (d ∷ value.Str text ∷ vs) p = p.1
  put_of vs p = p

  call_of : (vs : List Value) → AllOf (IsIn more) vs → CallOf (IsIn more) vs
  call_of (f ∷ list ∷ d ∷ vs) p = (p.0, p.1.0, p.1.1.1)
  call_of vs p = tt

  given_of : (o : Op) (args : List Value) → fits o w args ≡ true → Given (within more) o args
  given_of op.KeyPut args e = rest_of args (fitting op.KeyPut args (tt, (tt, (tt, tt))) tt e)
  given_of op.KeyMerge args e = rest_of args (fitting op.KeyMerge args (tt, (tt, tt)) tt e)
  given_of op.Put args e = put_of args (fitting op.Put args (tt, (tt, (tt, tt))) tt e)
  given_of op.CallX args e = call_of args (fitting op.CallX args (tt, (tt, (tt, tt))) tt e)
  given_of op.Func args e = (tt, rest_of args (fitting op.Func args (tt, (tt, (tt, tt))) tt e))
  given_of o args e = given_by (arguments o) (further o) args tt e

  -- ---- an end that names what is there is one that uses what is there

  after_of : (a : After) → AfterIn w.heap a → AfterOf (within more) w a
  after_of (behind.Made v) p = in_more w.heap more g v p
  after_of (behind.Report exception) p = p
  after_of a p = tt

  how_of : (h : How) → HowIn w.heap h → HowOf (within more) w h
  how_of (how.Send v) p = in_more w.heap more g v p
  how_of (how.Throw exception) p = p
  how_of how.Close p = tt

  args_more : (vs : List Value) → AllIn w.heap vs → AllOf (IsIn more) vs
  args_more vs p = all_by (IsIn w.heap) (IsIn more) (in_more w.heap more g) vs p

  end_of : (e : OpEnd) → EndIn w.heap e → EndOf (within more) w e
  end_of (opend.Give v) p = in_more w.heap more g v p
  end_of (opend.Raise n args) p = (p.0, args_more args p.1)
  end_of (opend.Ask f args names a) p =
      record {
        function = p.0;
        known = tt;
        args = args_more args p.1;
        names = names_by (IsIn w.heap) (IsIn more) (in_more w.heap more g) names p.2.0;
        distinct = p.2.1;
        after = after_of a p.3;
      }
  end_of (opend.Resume generator h) p = (p.0, how_of h p.1)
  end_of (opend.Put text) p = tt
  end_of opend.Line p = tt
  end_of (opend.Stop kind) p = tt

-- ---- the laws

pub asking_sound : DoingsKeepSound → (o : Op) (w : World) (args : List Value) → Sound w → fits o w args ≡ true → Sound (after w (answer w (doing o w args))) × EndIn (heap_after w.heap (doing o w args)) (doing o w args).end
asking_sound sound o w args s e = sound w (doing o w args) s (λ more g k. doing_right (within more) w k (group o) o args (given_of w more g o args e))

pub bound_sound : DoingsKeepSound → (w : World) (e : OpEnd) → Sound w → EndIn w.heap e → Sound (after w (answer w (bound_end w e))) × EndIn (heap_after w.heap (bound_end w e)) (bound_end w e).end
bound_sound sound w e s p = sound w (bound_end w e) s (λ more g k. (bound_right (within more) w k e (end_of w more g e p)).0)

pub bind_sound : DoingsKeepSound → (w : World) (f : ℕ) (args : List Value) (a : After) → Sound w → AllIn w.heap args → AfterIn w.heap a → Sound (after w (answer w (bind w f args [] a))) × EndIn (heap_after w.heap (bind w f args [] a)) (bind w f args [] a).end
bind_sound sound w f args a s p q = sound w (bind w f args [] a) s (λ more g k. (bind_right (within more) w k f args [] a tt (args_more w more g args p) tt (after_of w more g a q)).0)

pub rows_sound : DoingsKeepSound → RowsKeepSound
rows_sound sound o w args s e =
    let d : Doing = doing o w args in
    let p : Sound (after w (answer w d)) × EndIn (heap_after w.heap d) d.end = asking_sound sound o w args s e in
    bound_sound sound (after w (answer w d)) d.end p.0 p.1

pub finishing_sound : DoingsKeepSound → FinishingKeepsSound
finishing_sound sound a w v s i p =
    sound w (finishing a w.heap v) s (λ more g k. finishing_right (within more) w k a v (after_of w more g a i) (in_more w.heap more g v p))
