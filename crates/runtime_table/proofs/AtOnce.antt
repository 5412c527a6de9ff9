-- What is done at once is what the table says.
use Rattle.std.proofs.Common.{◌≡◌, ℕ, zero, suc, ◌+◌, ◌<◌, List, [], ◌∷◌, Option, Some, None, Bool, true, false, not, refl, sym, ap, ◌∙◌, length, nat_lt, add-one, arith, rules}
use Rattle.std.specs.Prelude.{ℤ, pos, IfSome, slice_get, slice_set, if◌then◌else◌, ◌&&◌}
use Rattle.std.specs.Option.{option_or}
use Rattle.std.specs.Ordering.{int_eq}
use Rattle.std.specs.Str.{bytes_eq}
use Rattle.std.proofs.lemmas.List.{set-get_or}
use Rattle.std.proofs.lemmas.Option.{get_or_from_slice_get, slice_get_within}
use Rattle.std.proofs.lemmas.Slice.Eq.{bytes_eq-Decides}
use Rattle.nu_text.specs.Names.{is_among, built_in_names}
use Rattle.nu_value.specs.declared.object.Object.{Object}
use Rattle.nu_value.specs.declared.object.Object.TheVariants as object
use Rattle.nu_value.specs.declared.value.Value.{Value}
use Rattle.nu_value.specs.declared.value.Value.TheVariants as value
use Rattle.nu_value.specs.declared.same.Sameness.TheVariants as same
use Rattle.nu_value.specs.Names.{NameList, place_of, value_at, with_name, with_value}
use Rattle.nu_value.specs.Same.{identical, is_set, object_of, verdict}
use Rattle.op_forms.specs.declared.end.OpEnd.{OpEnd}
use Rattle.op_forms.specs.declared.end.OpEnd.TheVariants as opend
use Rattle.op_forms.specs.declared.op.Op.{Op}
use Rattle.op_forms.specs.declared.op.Op.TheVariants as op
use Rattle.op_forms.specs.declared.world.World.{World}
use Rattle.op_forms.specs.declared.signature.ArgumentKind.TheVariants as kind
use Rattle.op_forms.specs.Answers.{Answer, after, names_of, unbuilt}
use Rattle.op_forms.specs.Doing.{Bind, Hold, answer, changes, ends, given, nothing, put_at}
use Rattle.op_forms.specs.Fits.{fits, is_cell, is_in}
use Rattle.op_forms.specs.Signature.{arguments, further}
use Rattle.op_rules.specs.Attributes.{may_change, may_name, set_on}
use Rattle.op_rules.specs.Binding.{bound}
use Rattle.op_rules.specs.Comparisons.{eq_row, ne_row, give_bool, is_filled, same_end}
use Rattle.op_rules.specs.Comparisons as comparisons
use Rattle.op_rules.specs.Families.{object_family}
use Rattle.op_rules.specs.IntRows.{int_row}
use Rattle.op_rules.specs.NameRows.{cellget_row, content, freeget_row, global_row, native_row, no_free, no_local, not_defined, set_or, value_or}
use Rattle.op_rules.specs.Table.{row}
use Rattle.op_rules.specs.Table as table
use Rattle.runtime_table.specs.Quick.{IsQuick, Leads, held_value, is_instance, is_number_op, is_sign_op, object_truth, plain_truth}

-- an operation that does nothing but give a value
ended : (w : World) (e : OpEnd) (v : Value) → e ≡ opend.Give v → bound w (answer w (ends e)) ≡ given w.heap v
ended w e v h = ap (λ x. bound w (answer w (ends x))) h

-- ---- two integers

-- the row of two integers goes by them alone
number_row : (o : Op) (w : World) (a b : ℤ) → is_number_op o ≡ true → (fits o w (value.Int a ∷ value.Int b ∷ []) ≡ true) × (row o w (value.Int a ∷ value.Int b ∷ []) ≡ bound w (answer w (ends (int_row o [] (value.Int a ∷ value.Int b ∷ [])))))
number_row op.Add w a b h = (refl, refl)
number_row op.Sub w a b h = (refl, refl)
number_row op.Mul w a b h = (refl, refl)
number_row op.FloorDiv w a b h = (refl, refl)
number_row op.Mod w a b h = (refl, refl)
number_row op.Pow w a b h = (refl, refl)
number_row op.LShift w a b h = (refl, refl)
number_row op.RShift w a b h = (refl, refl)
number_row op.And w a b h = (refl, refl)
number_row op.Or w a b h = (refl, refl)
number_row op.Xor w a b h = (refl, refl)
number_row op.IAdd w a b h = (refl, refl)
number_row op.IMul w a b h = (refl, refl)
number_row op.Lt w a b h = (refl, refl)
number_row op.Le w a b h = (refl, refl)
number_row op.Gt w a b h = (refl, refl)
number_row op.Ge w a b h = (refl, refl)
number_row op.Eq w a b h = (refl, refl)
number_row op.Ne w a b h = (refl, refl)
number_row op.Is w a b h = (refl, refl)
number_row op.IsNot w a b h = (refl, refl)
number_row other w a b h = absurd (cc)

number_quick : (o : Op) (w : World) (a b : ℤ) (v : Value) → is_number_op o ≡ true → int_row o [] (value.Int a ∷ value.Int b ∷ []) ≡ opend.Give v → IsQuick o w (value.Int a ∷ value.Int b ∷ []) v
number_quick o w a b v h e = let r = number_row o w a b h in (r.0, r.1 ∙ ended w (int_row o [] (value.Int a ∷ value.Int b ∷ [])) v e)

pub numbers_quick : (o : Op) (w : World) (a b : ℤ) (r : Option Value) → IfSome r (λ v. is_number_op o ≡ true) → IfSome r (λ v. int_row o [] (value.Int a ∷ value.Int b ∷ []) ≡ opend.Give v) → IfSome r (λ v. IsQuick o w (value.Int a ∷ value.Int b ∷ []) v)
numbers_quick o w a b None h e = tt
numbers_quick o w a b (Some v) h e = number_quick o w a b v h e

same_by : (f : Bool → Bool) (b : Bool) → same_end f (if b then same.Equal else verdict b) ≡ give_bool (f b)
same_by f true = refl
same_by f false = refl

-- two integers are equal where they are one
pub eq_integers : (a b : ℤ) → eq_row [] (value.Int a) (value.Int b) ≡ give_bool (int_eq a b)
eq_integers a b = same_by (λ t. t) (int_eq a b)

pub ne_integers : (a b : ℤ) → ne_row [] (value.Int a) (value.Int b) ≡ give_bool (not (int_eq a b))
ne_integers a b = same_by not (int_eq a b)

-- ---- one integer

sign_row : (o : Op) (w : World) (a : ℤ) → is_sign_op o ≡ true → (fits o w (value.Int a ∷ []) ≡ true) × (row o w (value.Int a ∷ []) ≡ bound w (answer w (ends (int_row o [] (value.Int a ∷ [])))))
sign_row op.Neg w a h = (refl, refl)
sign_row op.Pos w a h = (refl, refl)
sign_row op.Inv w a h = (refl, refl)
sign_row other w a h = absurd (cc)

pub signs_quick : (o : Op) (w : World) (a : ℤ) (r : Option Value) → IfSome r (λ v. is_sign_op o ≡ true) → IfSome r (λ v. int_row o [] (value.Int a ∷ []) ≡ opend.Give v) → IfSome r (λ v. IsQuick o w (value.Int a ∷ []) v)
signs_quick o w a None h e = tt
signs_quick o w a (Some v) h e = let r = sign_row o w a h in (r.0, r.1 ∙ ended w (int_row o [] (value.Int a ∷ [])) v e)

-- ---- truth

some_is : {A : Type 0} (x y : A) → Some x ≡ Some y → x ≡ y
some_is x y h = cc

there : (h : List Object) (n : ℕ) (o : Object) → slice_get h n ≡ Some o → nat_lt n (length h) ≡ true
there h n o s = let l : n < length h = slice_get_within h n o s in search (rules, l)

truth_fits : (w : World) (n : ℕ) (o : Object) → slice_get w.heap n ≡ Some o → fits op.Truth w (value.Obj n ∷ []) ≡ true
truth_fits w n o s = rw (there w.heap n o s) refl

-- the row of an object by its family, and then by itself
abbrev by_family : World → ℕ → Option Object → Answer
by_family w n o = bound w (answer w (table.truth_of (object_family o) op.Truth w.heap (value.Obj n ∷ [])))

abbrev by_object : World → Option Object → Answer
by_object w o = bound w (answer w (ends (comparisons.object_truth w.heap o)))

held : (w : World) (n : ℕ) (o : Option Object) (b : Bool) → slice_get w.heap n ≡ o → object_truth o ≡ Some b → IsQuick op.Truth w (value.Obj n ∷ []) (value.Bool b)
held w n (Some (object.List items)) b s h =
    (truth_fits w n (object.List items) s, ap (by_family w n) s ∙ ap (by_object w) s ∙ ap (λ t. given w.heap (value.Bool t)) (some_is (is_filled items) b h))
held w n (Some (object.Tuple items)) b s h =
    (truth_fits w n (object.Tuple items) s, ap (by_family w n) s ∙ ap (by_object w) s ∙ ap (λ t. given w.heap (value.Bool t)) (some_is (is_filled items) b h))
held w n (Some (object.Dict pairs)) b s h =
    (truth_fits w n (object.Dict pairs) s, ap (by_family w n) s ∙ ap (by_object w) s ∙ ap (λ t. given w.heap (value.Bool t)) (some_is (is_filled pairs) b h))
held w n other b s h = absurd (cc)

pub truth_quick : (w : World) (v : Value) (b : Bool) → plain_truth w.heap v ≡ Some b → IsQuick op.Truth w (v ∷ []) (value.Bool b)
truth_quick w value.Unset b h = absurd (cc)
truth_quick w value.None b h = (refl, ap (λ t. given w.heap (value.Bool t)) (some_is false b h))
truth_quick w (value.Bool c) b h = (refl, ap (λ t. given w.heap (value.Bool t)) (some_is c b h))
truth_quick w (value.Int z) b h = (refl, ap (λ t. given w.heap (value.Bool t)) (some_is (not (int_eq z (pos 0))) b h))
truth_quick w (value.Str text) b h = (refl, ap (λ t. given w.heap (value.Bool t)) (some_is (is_filled text) b h))
truth_quick w (value.Obj n) b h = held w n (slice_get w.heap n) b refl h

-- ---- two values

pub two_fit : (o : Op) (w : World) (a b : Value) → arguments o ≡ kind.Value ∷ kind.Value ∷ [] → further o ≡ None → is_in (length w.heap) a ≡ true → is_in (length w.heap) b ≡ true → fits o w (a ∷ b ∷ []) ≡ true
two_fit o w a b k l h j = rw (k, l, h, j) refl

pub is_quick : (w : World) (a b : Value) → is_in (length w.heap) a ≡ true → is_in (length w.heap) b ≡ true → IsQuick op.Is w (a ∷ b ∷ []) (value.Bool (identical a b))
is_quick w a b h k = (two_fit op.Is w a b refl refl h k, refl)

pub isnot_quick : (w : World) (a b : Value) → is_in (length w.heap) a ≡ true → is_in (length w.heap) b ≡ true → IsQuick op.IsNot w (a ∷ b ∷ []) (value.Bool (not (identical a b)))
isnot_quick w a b h k = (two_fit op.IsNot w a b refl refl h k, refl)

pub index_quick : (w : World) (a b : Value) (r : Option Value) → is_in (length w.heap) a ≡ true → is_in (length w.heap) b ≡ true → IfSome r (λ v. row op.Index w (a ∷ b ∷ []) ≡ given w.heap v) → IfSome r (λ v. IsQuick op.Index w (a ∷ b ∷ []) v)
index_quick w a b None h k e = tt
index_quick w a b (Some v) h k e = (two_fit op.Index w a b refl refl h k, e)

text_by : (f : Bool → Bool) (b : Bool) → same_end f (if b then same.Equal else same.Different) ≡ give_bool (f b)
text_by f true = refl
text_by f false = refl

-- two texts are equal where they are the same
pub eq_texts : (w : World) (x y : List ℕ) → IsQuick op.Eq w (value.Str x ∷ value.Str y ∷ []) (value.Bool (bytes_eq x y))
eq_texts w x y = (refl, ended w (eq_row w.heap (value.Str x) (value.Str y)) (value.Bool (bytes_eq x y)) (text_by (λ t. t) (bytes_eq x y)))

pub ne_texts : (w : World) (x y : List ℕ) → IsQuick op.Ne w (value.Str x ∷ value.Str y ∷ []) (value.Bool (not (bytes_eq x y)))
ne_texts w x y = (refl, ended w (ne_row w.heap (value.Str x) (value.Str y)) (value.Bool (not (bytes_eq x y))) (text_by not (bytes_eq x y)))

-- ---- attributes, locals and cells

pub attr_quick : (w : World) (a : Value) (name : List ℕ) (r : Option Value) → is_in (length w.heap) a ≡ true → IfSome r (λ v. row op.Attr w (a ∷ value.Str name ∷ []) ≡ given w.heap v) → IfSome r (λ v. IsQuick op.Attr w (a ∷ value.Str name ∷ []) v)
attr_quick w a name None h e = tt
attr_quick w a name (Some v) h e = (rw h refl, e)

pub local_quick : (w : World) (a : Value) (name : List ℕ) → is_in (length w.heap) a ≡ true → IsQuick op.Local w (a ∷ value.Str name ∷ []) a
local_quick w value.Unset name h = absurd (cc)
local_quick w value.None name h = (refl, refl)
local_quick w (value.Bool b) name h = (refl, refl)
local_quick w (value.Int z) name h = (refl, refl)
local_quick w (value.Str text) name h = (refl, refl)
local_quick w (value.Obj n) name h = (rw h refl, refl)

set_value : (v : Value) (other : OpEnd) → is_set v ≡ true → set_or other v ≡ opend.Give v
set_value value.Unset other h = absurd (cc)
set_value value.None other h = refl
set_value (value.Bool b) other h = refl
set_value (value.Int z) other h = refl
set_value (value.Str text) other h = refl
set_value (value.Obj n) other h = refl

-- a cell that holds something
held_by : (o : Option Object) (v : Value) (other : OpEnd) → held_value o ≡ Some v → (is_cell o ≡ true) × (set_or other (content o) ≡ opend.Give v)
held_by (Some (object.Cell u)) v other h = by u (is_set u) refl h
  where
    by : (u : Value) (b : Bool) → is_set u ≡ b → (if b then Some u else None) ≡ Some v → (true ≡ true) × (set_or other u ≡ opend.Give v)
    by u true s h = (refl, set_value u other s ∙ ap opend.Give (some_is u v h))
    by u false s h = absurd (cc)
held_by other v e h = absurd (cc)

pub cell_quick : (w : World) (cell : Value) (name : List ℕ) (v : Value) → held_value (object_of w.heap cell) ≡ Some v → IsQuick op.CellGet w (cell ∷ value.Str name ∷ []) v
cell_quick w cell name v h = let g = held_by (object_of w.heap cell) v (no_local name) h in (rw (g.0) refl, ended w (cellget_row w.heap cell name) v g.1)

pub free_quick : (w : World) (cell : Value) (name : List ℕ) (v : Value) → held_value (object_of w.heap cell) ≡ Some v → IsQuick op.FreeGet w (cell ∷ value.Str name ∷ []) v
free_quick w cell name v h = let g = held_by (object_of w.heap cell) v (no_free name) h in (rw (g.0) refl, ended w (freeget_row w.heap cell name) v g.1)

pub cell_leads : (w : World) (n : ℕ) (v : Value) (h : List Object) → is_cell (slice_get w.heap n) ≡ true → is_in (length w.heap) v ≡ true → h ≡ put_at w.heap n (Hold v) (slice_get w.heap n)
    → Leads op.CellSet w (value.Obj n ∷ v ∷ []) value.None (record w { heap = h })
cell_leads w n v h c i e = (rw (c, i) refl, refl, ap (λ l. record w { heap = l }) e)

-- ---- other worlds

leads_by : (o : Op) (w w' : World) (args : List Value) (v : Value) → fits o w args ≡ true → row o w args ≡ given w'.heap v → w' ≡ record w { heap = w'.heap } → Leads o w args v w'
leads_by o w w' args v f r e = (f, ap (λ a. a.end) r, e ∙ sym (ap (λ a. after w a) r))

pub next_leads : (w w' : World) (a : Value) (r : Option Value) → is_in (length w.heap) a ≡ true → IfSome r (λ v. row op.Next w (a ∷ []) ≡ given w'.heap v) → IfSome r (λ v. w' ≡ record w { heap = w'.heap }) → IfSome r (λ v. Leads op.Next w (a ∷ []) v w')
next_leads w w' a None h e g = tt
next_leads w w' a (Some v) h e g = leads_by op.Next w w' (a ∷ []) v (rw h refl) e g

pub set_index_leads : (w w' : World) (a i v : Value) (r : Bool) → is_in (length w.heap) a ≡ true → is_in (length w.heap) i ≡ true → is_in (length w.heap) v ≡ true → (r ≡ true → row op.SetIndex w (a ∷ i ∷ v ∷ []) ≡ given w'.heap value.None) → w' ≡ record w { heap = w'.heap }
    → r ≡ true → Leads op.SetIndex w (a ∷ i ∷ v ∷ []) value.None w'
set_index_leads w w' a i v r h k l e g is = leads_by op.SetIndex w w' (a ∷ i ∷ v ∷ []) value.None (rw (h, k, l) refl) (e is) g

-- ---- names

or_value : (a b : Option Value) (other : OpEnd) (v : Value) → option_or a b ≡ Some v → value_or a (value_or b other) ≡ opend.Give v
or_value None None other v h = cc
or_value None (Some x) other v h = cc
or_value (Some x) b other v h = cc

pub global_quick : (w : World) (name : List ℕ) (v : Value) → option_or (value_at (names_of (slice_get w.heap w.«module»)) name) (value_at (names_of (slice_get w.heap w.builtins)) name) ≡ Some v
    → IsQuick op.Global w (value.Str name ∷ []) v
global_quick w name v h =
    (refl, ended w (global_row w name) v (or_value (value_at (names_of (slice_get w.heap w.«module»)) name) (value_at (names_of (slice_get w.heap w.builtins)) name) (not_defined name) v h))

native_row_of : (w : World) (name : List ℕ) (v : Value) → value_at (names_of (slice_get w.heap w.builtins)) name ≡ Some v → native_row w name ≡ opend.Give v
native_row_of w name v h = ap (λ o. value_or o unbuilt) h

pub native_quick : (w : World) (name : List ℕ) (v : Value) → is_among built_in_names name ≡ true → value_at (names_of (slice_get w.heap w.builtins)) name ≡ Some v → IsQuick op.Native w (value.Str name ∷ []) v
native_quick w name v b h = (rw b refl, ended w (native_row w name) v (native_row_of w name v h))

set_fits : (w : World) (name : List ℕ) (v : Value) → is_in (length w.heap) v ≡ true → fits op.SetGlobal w (value.Str name ∷ v ∷ []) ≡ true
set_fits w name v h = rw h refl

pub set_leads : (w : World) (name : List ℕ) (v : Value) (h : List Object) → is_in (length w.heap) v ≡ true → h ≡ put_at w.heap w.«module» (Bind name v) (slice_get w.heap w.«module»)
    → Leads op.SetGlobal w (value.Str name ∷ v ∷ []) value.None (record w { heap = h })
set_leads w name v h is e = (set_fits w name v is, refl, ap (λ l. record w { heap = l }) e)

set_on_by : (w : World) (n : ℕ) (name : List ℕ) (v : Value) (o : Option Object) → is_instance o ≡ true → may_name name ≡ true → (if may_name name && may_change w.heap name o then changes n (Bind name v) else nothing) ≡ changes n (Bind name v)
set_on_by w n name v (Some (object.Instance class fields)) i m = rw m refl
set_on_by w n name v other i m = absurd (cc)

instance_fits : (w : World) (n : ℕ) (name : List ℕ) (v : Value) (o : Option Object) → slice_get w.heap n ≡ o → is_instance o ≡ true → is_in (length w.heap) v ≡ true → fits op.SetAttr w (value.Obj n ∷ value.Str name ∷ v ∷ []) ≡ true
instance_fits w n name v None s i h = absurd (cc)
instance_fits w n name v (Some o) s i h = rw (there w.heap n o s, h) refl

-- a field of an instance gets a value
pub set_attr_leads : (w : World) (n : ℕ) (name : List ℕ) (v : Value) (h : List Object) → is_instance (slice_get w.heap n) ≡ true → may_name name ≡ true → is_in (length w.heap) v ≡ true → h ≡ put_at w.heap n (Bind name v) (slice_get w.heap n)
    → Leads op.SetAttr w (value.Obj n ∷ value.Str name ∷ v ∷ []) value.None (record w { heap = h })
set_attr_leads w n name v h i m k e =
    let d : set_on w.heap n name v ≡ changes n (Bind name v) = set_on_by w n name v (slice_get w.heap n) i m in (
      instance_fits w n name v (slice_get w.heap n) refl i k,
      ap (λ x. (bound w (answer w x)).end) d,
      ap (λ l. record w { heap = l }) e ∙ sym (ap (λ x. after w (bound w (answer w x))) d),
    )

-- the name that stands at its place
stands_there : (ps : NameList) (name : List ℕ) (p : List ℕ × Value) → slice_get ps (place_of ps name) ≡ Some p → p.0 ≡ name
stands_there [] name p h = cc
stands_there (q ∷ ps) name p h = by (stands_there ps name p) (bytes_eq q.0 name) refl h
  where
    by : (slice_get ps (place_of ps name) ≡ Some p → p.0 ≡ name) → (b : Bool) → bytes_eq q.0 name ≡ b → slice_get (q ∷ ps) (if b then 0 else place_of ps name + 1) ≡ Some p → p.0 ≡ name
    by rest true e h = let same : q ≡ p = cc in ap (λ r. r.0) (sym same) ∙ (bytes_eq-Decides q.0 name).0 e
    by rest false e h = rest (rw (add-one (place_of ps name)) at h)

found : (names : NameList) (p : ℕ) → p < length names → (q : List ℕ × Value) × (slice_get names p ≡ Some q)
found [] p l = absurd (omega (arith, l))
found (q ∷ names) zero l = (q, refl)
found (q ∷ names) (suc p) l = found names p (omega (arith, l))

-- a name that is there gets a value where it stands
pub value_set : (ps : NameList) (name : List ℕ) (v : Value) (n : ℕ) → n ≡ place_of ps name → n < length ps → with_value ps n v ≡ with_name ps name v
value_set ps name v n e l =
    let q = found ps n l in
    let named : q.0.0 ≡ name = stands_there ps name q.0 (ap (slice_get ps) (sym e) ∙ q.1) in
    let less : nat_lt n (length ps) ≡ true = search (rules, l) in
    let is : place_of ps name ≡ n = sym e in
    rw (q.1, named, is, less) refl

pub set_same : {A : Type 0} (xs : List A) (n : ℕ) (x : A) → slice_get xs n ≡ Some x → slice_set xs n x ≡ xs
set_same xs n x h = ap (λ y. slice_set xs n y) (sym (get_or_from_slice_get xs n x x h)) ∙ set-get_or xs n x
