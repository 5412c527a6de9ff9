-- Where all parameters have places, and there are as many arguments, these are the values.
use Rattle.std.proofs.Common.{◌≡◌, ℕ, zero, suc, ◌+◌, ◌<◌, List, [], ◌∷◌, Option, Some, None, Bool, true, false, refl, sym, ap, ◌∙◌, arith, drop, length}
use Rattle.std.specs.Prelude.{◌&&◌, not, if◌then◌else◌, nat_eq, nat_lt, slice_get}
use Rattle.std.proofs.lemmas.Bool.Decides.{nat_tests}
use Rattle.nu_value.specs.declared.header.Header.{Header}
use Rattle.nu_value.specs.declared.header.ParamKind.{ParamKind}
use Rattle.nu_value.specs.declared.header.ParamKind.TheVariants as param
use Rattle.nu_value.specs.declared.object.Object.{Object}
use Rattle.nu_value.specs.declared.object.Object.TheVariants as object
use Rattle.nu_value.specs.declared.value.Value.{Value}
use Rattle.nu_value.specs.declared.value.Value.TheVariants as value
use Rattle.nu_value.specs.Classes.{first_of}
use Rattle.nu_value.specs.Names.{NameList}
use Rattle.op_forms.specs.declared.end.After.TheVariants as behind
use Rattle.op_forms.specs.declared.end.OpEnd.TheVariants as opend
use Rattle.op_forms.specs.declared.op.Op.TheVariants as op
use Rattle.op_forms.specs.declared.world.World.{World}
use Rattle.op_forms.specs.Answers.{keeps}
use Rattle.op_forms.specs.Doing.{Doing, ends, answer}
use Rattle.op_rules.specs.declared.binding.Bound.{Bound}
use Rattle.op_rules.specs.declared.binding.Bound.TheVariants.{Ready}
use Rattle.op_rules.specs.Binding.{ParamList, Call, call_of, is_placed, is_star, is_double, one_if, places, has_star, has_double, value_for, All, with_one, values_from, collected, binding, made_by, bound_code, bound_object, generator_if, generator_of, begun, bind, bound}
use Rattle.op_rules.specs.Calls.{call_object}
use Rattle.op_rules.specs.Routes.{object_route}
use Rattle.op_rules.specs.Table.{routed, doing, row}
use Rattle.runtime_table.specs.Placed.{are_placed, takes_just}

and_left : (a b : Bool) → (a && b) ≡ true → a ≡ true
and_left true b e = refl
and_left false b e = absurd (cc)

and_right : (a b : Bool) → (a && b) ≡ true → b ≡ true
and_right true b e = e
and_right false b e = absurd (cc)

not_true : (b : Bool) → not b ≡ true → b ≡ false
not_true true e = absurd (cc)
not_true false e = refl

-- ---- parameters with places

placed_count : (ps : ParamList) → are_placed ps ≡ true → places ps ≡ length ps
placed_count [] e = refl
placed_count (p ∷ ps) e =
    let one : is_placed p.0 ≡ true = and_left (is_placed p.0) (are_placed ps) e in
    let rest : places ps ≡ length ps = placed_count ps (and_right (is_placed p.0) (are_placed ps) e) in
    rw one (omega (arith, rest))

not_star : (kind : ParamKind) → is_placed kind ≡ true → is_star kind ≡ false
not_star param.Only e = refl
not_star param.Plain e = refl
not_star param.Star e = absurd (cc)
not_star param.Key e = absurd (cc)
not_star param.Double e = absurd (cc)

not_double : (kind : ParamKind) → is_placed kind ≡ true → is_double kind ≡ false
not_double param.Only e = refl
not_double param.Plain e = refl
not_double param.Star e = absurd (cc)
not_double param.Key e = absurd (cc)
not_double param.Double e = absurd (cc)

no_star : (ps : ParamList) → are_placed ps ≡ true → has_star ps ≡ false
no_star [] e = refl
no_star (p ∷ ps) e =
    rw (not_star p.0 (and_left (is_placed p.0) (are_placed ps) e)) (no_star ps (and_right (is_placed p.0) (are_placed ps) e))

no_double : (ps : ParamList) → are_placed ps ≡ true → has_double ps ≡ false
no_double [] e = refl
no_double (p ∷ ps) e =
    rw (not_double p.0 (and_left (is_placed p.0) (are_placed ps) e)) (no_double ps (and_right (is_placed p.0) (are_placed ps) e))

-- ---- their values

drop_at : {A : Type 0} (xs : List A) (i : ℕ) → i < length xs → (x : A) × (slice_get xs i ≡ Some x) × (drop i xs ≡ x ∷ drop (suc i) xs)
drop_at [] i p = absurd (omega arith)
drop_at (x ∷ xs) zero p = (x, refl, refl)
drop_at (x ∷ xs) (suc i) p = drop_at xs i (omega arith)

drop_whole : {A : Type 0} (xs : List A) (i : ℕ) → i ≡ length xs → drop i xs ≡ []
drop_whole [] zero e = refl
drop_whole [] (suc i) e = absurd (omega arith)
drop_whole (x ∷ xs) zero e = absurd (omega arith)
drop_whole (x ∷ xs) (suc i) e = drop_whole xs i (omega arith)

first_some : (a b : Option Value) (v : Value) → a ≡ Some v → first_of a b ≡ Some v
first_some None b v e = absurd (cc)
first_some (Some x) b v e = e

value_placed : (c : Call) (place index : ℕ) (p : ParamKind × List ℕ) (v : Value) → is_placed p.0 ≡ true → slice_get c.args place ≡ Some v → value_for c place index p ≡ Some v
value_placed c place index (param.Only, name) v i e = first_some (slice_get c.args place) _ v e
value_placed c place index (param.Plain, name) v i e = first_some (slice_get c.args place) _ v e
value_placed c place index (param.Star, name) v i e = absurd (cc)
value_placed c place index (param.Key, name) v i e = absurd (cc)
value_placed c place index (param.Double, name) v i e = absurd (cc)

values_all : (c : Call) (place index : ℕ) (ps : ParamList) → are_placed ps ≡ true → length ps + place ≡ length c.args → values_from c place index ps ≡ All (drop place c.args)
values_all c place index [] e n = ap All (sym (drop_whole c.args place (omega (arith, n))))
values_all c place index (p ∷ ps) e n =
    let one : is_placed p.0 ≡ true = and_left (is_placed p.0) (are_placed ps) e in
    let d : (x : Value) × (slice_get c.args place ≡ Some x) × (drop place c.args ≡ x ∷ drop (suc place) c.args) = drop_at c.args place (omega (arith, n)) in
    let next : one_if (is_placed p.0) + place ≡ suc place = omega (arith, ap one_if one) in
    let rest : values_from c (one_if (is_placed p.0) + place) (1 + index) ps ≡ All (drop (suc place) c.args) =
    ap (λ k. values_from c k (1 + index) ps) next ∙ values_all c (suc place) (1 + index) ps (and_right (is_placed p.0) (are_placed ps) e) (omega (arith, n)) in
    ap (λ v. with_one p.1 v (values_from c (one_if (is_placed p.0) + place) (1 + index) ps)) (value_placed c place index p d.0 one d.1)
    ∙ ap (λ r. with_one p.1 (Some d.0) r) rest ∙ ap All (sym d.2)

not_less : (n m : ℕ) → n ≡ m → nat_lt n m ≡ false
not_less n m e = grind (arith, nat_tests)

module _ (scope : List ℕ) (ps : ParamList) (defaults : List Value) (keywords : NameList) (args : List Value) (first : ℕ) (placed : are_placed ps ≡ true) (count : length ps ≡ length args) where
  abbrev call : Call
  call = call_of ps defaults keywords args [] first

  just_values : values_from call 0 0 ps ≡ All args
  just_values = values_all call 0 0 ps placed (omega (arith, count))

  just_bound : binding scope call ≡ Ready args
  just_bound =
      let few : nat_lt (places ps) (length args) ≡ false = not_less (places ps) (length args) (placed_count ps placed ∙ count) in
      rw (few, just_values, no_star ps placed) refl

  just_collected : collected call ≡ []
  just_collected = rw (no_star ps placed, no_double ps placed) refl

-- ---- the call

module _ (w : World) (f code : ℕ) (defaults : List Value) (keywords : NameList) (cells : List Value) (header : Header) (args : List Value) where
  abbrev by_object : Option Object → Doing
  by_object o = begun f behind.Plain (length w.heap) (generator_of w.codes o) (bound_object w.codes (length w.heap) args [] o).bound (bound_object w.codes (length w.heap) args [] o).made

  abbrev by_header : Option Header → Doing
  by_header h = begun f behind.Plain (length w.heap) (generator_if code cells h) (bound_code (length w.heap) defaults keywords args [] h).bound (bound_code (length w.heap) defaults keywords args [] h).made

  abbrev by_kind : Bool → Bound → Doing
  by_kind generator b = begun f behind.Plain (length w.heap) (if generator then Some (code, cells) else None) b (made_by b (call_of header.params defaults keywords args [] (length w.heap)))

  called : slice_get w.heap f ≡ Some (object.Function code defaults keywords cells) → slice_get w.codes code ≡ Some header → takes_just header (length args) ≡ true → row op.Call w (value.Obj f ∷ args) ≡ keeps w.heap (opend.Ask f args [] behind.Plain)
  called at there just =
      let rest : (nat_eq (length header.params) (length args) && are_placed header.params) ≡ true = and_right (not header.generator) _ just in
      let kind : header.generator ≡ false = not_true header.generator (and_left (not header.generator) _ just) in
      let same : nat_eq (length header.params) (length args) ≡ true = and_left (nat_eq (length header.params) (length args)) _ rest in
      let placed : are_placed header.params ≡ true = and_right (nat_eq (length header.params) (length args)) _ rest in
      let count : length header.params ≡ length args = grind (arith, nat_tests) in
      let ready : binding header.scope (call_of header.params defaults keywords args [] (length w.heap)) ≡ Ready args = just_bound header.scope header.params defaults keywords args (length w.heap) placed count in
      let nothing : collected (call_of header.params defaults keywords args [] (length w.heap)) ≡ [] = just_collected header.scope header.params defaults keywords args (length w.heap) placed count in
      let asks : doing op.Call w (value.Obj f ∷ args) ≡ ends (opend.Ask f args [] behind.Plain) =
      ap (λ o. routed (object_route w.heap f true args o) op.Call w (value.Obj f ∷ args)) at ∙ ap (λ o. call_object w.heap f args [] o) at in
      let binds : bind w f args [] behind.Plain ≡ ends (opend.Ask f args [] behind.Plain) =
      ap by_object at ∙ ap by_header there ∙ ap (λ g. by_kind g (binding header.scope (call_of header.params defaults keywords args [] (length w.heap)))) kind ∙ ap (λ b. by_kind false b) ready ∙ ap (λ made. begun f behind.Plain (length w.heap) None (Ready args) made) nothing in
      ap (λ d. bound w (answer w d)) asks ∙ ap (λ d. answer w d) binds

pub just_called : (w : World) (f code : ℕ) (defaults : List Value) (keywords : NameList) (cells : List Value) (header : Header) (args : List Value) → slice_get w.heap f ≡ Some (object.Function code defaults keywords cells) → slice_get w.codes code ≡ Some header → takes_just header (length args) ≡ true → row op.Call w (value.Obj f ∷ args) ≡ keeps w.heap (opend.Ask f args [] behind.Plain)
just_called w f code defaults keywords cells header args at there just = called w f code defaults keywords cells header args at there just
