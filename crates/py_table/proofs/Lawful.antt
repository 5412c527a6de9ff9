-- What uses only values that name no marked object keeps a lawful world lawful.
use Rattle.std.proofs.Common.{◌≡◌, ℕ, zero, suc, ◌+◌, ◌<◌, ◌≤◌, List, [], ◌∷◌, ◌++◌, Option, Some, None, Bool, true, false, refl, sym, ap, subst, ◌∙◌, arith, length, inl, inr}
use Rattle.std.specs.Prelude.{◌⊎◌, ◌&&◌, slice_get, slice_set, nat_lt, if◌then◌else◌}
use Rattle.std.proofs.lemmas.Bool.{cases_lt, cases_eq}
use Rattle.std.proofs.lemmas.Option.{slice_get_within}
use Rattle.nu_value.specs.declared.key.Atom.{Atom}
use Rattle.nu_value.specs.declared.object.GenState.{GenState}
use Rattle.nu_value.specs.declared.object.GenState.TheVariants as gen
use Rattle.nu_value.specs.declared.object.Object.{Object}
use Rattle.nu_value.specs.declared.object.Object.TheVariants as object
use Rattle.nu_value.specs.declared.value.Value.{Value}
use Rattle.nu_value.specs.declared.value.Value.TheVariants as value
use Rattle.nu_value.specs.Names.{NameList}
use Rattle.nu_value.specs.Pairs.{PairList, key_place, mapped_at, with_pair}
use Rattle.nu_value.specs.View.{is_text}
use Rattle.op_forms.specs.declared.end.After.{After}
use Rattle.op_forms.specs.declared.end.After.TheVariants as behind
use Rattle.op_forms.specs.declared.end.How.{How}
use Rattle.op_forms.specs.declared.end.How.TheVariants as how
use Rattle.op_forms.specs.declared.end.OpEnd.{OpEnd}
use Rattle.op_forms.specs.declared.end.OpEnd.TheVariants as opend
use Rattle.op_forms.specs.declared.world.World.{World}
use Rattle.op_forms.specs.Answers.{after}
use Rattle.op_forms.specs.Doing.{Change, Fill, Bind, Unbind, Hold, Move, Finish, Put, Fit, Doing, changed_by, put_at, set_in, heap_after, answer}
use Rattle.op_forms.specs.Fits.{are_keywords, are_texts}
use Rattle.op_forms.specs.Parts.{PartsOf}
use Rattle.op_forms.specs.Right.{Grows as HeapGrows, Claim, IsPlainValue, Known, Closed, AfterOf, HowOf, EndOf, ChangeOf, KeepsTexts, SetOf, Takes as CodeTakes, Begins, NewOf, Uses, News}
use Rattle.op_forms.specs.Sound.{AClass as ClassSort, AGenerator as GeneratorSort, AnException, sort_of, LinksIn, AfterIn, HowIn, EndIn, Sound}
use Rattle.op_forms.proofs.Grown.{set_cases, set_other, grown_length, grown_before, grown_either}
use Rattle.op_forms.proofs.Keeping.{set_length, stays, grows, made_at, native_class}
use Rattle.op_forms.proofs.Objects.{changed_parts}
use Rattle.op_rules.proofs.Begun.{Asked}
use Rattle.py_safe.specs.Heaps.{Mark, Open, Keywords, Block, View, view, AFunction, AGenerator, nature_of, Grows, IsOpen, ObjectOpen, AllThere, Takes, MarkedAs, BodyLaw, HeapLaw, KeepsGenerators}
use Rattle.py_safe.specs.Rosters.{Role, OfFunction, Roster}
use Rattle.py_safe.specs.Rules.{AfterLaw, HowLaw, GivenAs, MayBegin, EndLaw, Leaves, WorldLaw}
use Rattle.py_safe.proofs.Growth.{set_same, all_there}
use Rattle.py_safe.proofs.Worlds.{plain_open}

-- it is claimed of values that they name no marked object, and no function may be made
abbrev pub opens : (ℕ → Mark) → Claim
opens marks = record { of = IsOpen marks; asked = λ n. marks n ≡ Open; makes = ⊥ }

-- ---- texts as keys

and_both : (a b : Bool) → a ≡ true → b ≡ true → (a && b) ≡ true
and_both true b p q = q
and_both false b p q = absurd (cc)

and_left : (a b : Bool) → (a && b) ≡ true → a ≡ true
and_left true b e = refl
and_left false b e = absurd (cc)

and_right : (a b : Bool) → (a && b) ≡ true → b ≡ true
and_right true b e = e
and_right false b e = absurd (cc)

texts_set : (ps : PairList) (i : ℕ) (v : Value) (o : Option (List Atom × Value × Value)) → slice_get ps i ≡ o → are_texts ps ≡ true → are_texts (mapped_at ps i v o) ≡ true
texts_set ps i v None e p = p
texts_set [] i v (Some r) e p = refl
texts_set (x ∷ ps) zero v (Some r) e p = let same : x ≡ r = cc in ap (λ t. is_text t.1 && are_texts ps) (sym same) ∙ p
texts_set (x ∷ ps) (suc i) v (Some r) e p =
    and_both (is_text x.1) _ (and_left (is_text x.1) (are_texts ps) p) (texts_set ps i v (Some r) e (and_right (is_text x.1) (are_texts ps) p))

texts_end : (ps : PairList) (key : List Atom) (given v : Value) → is_text given ≡ true → are_texts ps ≡ true → are_texts (ps ++ (key, given, v) ∷ []) ≡ true
texts_end [] key given v t p = and_both (is_text given) true t refl
texts_end (x ∷ ps) key given v t p =
    and_both (is_text x.1) _ (and_left (is_text x.1) (are_texts ps) p) (texts_end ps key given v t (and_right (is_text x.1) (are_texts ps) p))

texts_if : (b : Bool) (ps qs : PairList) → are_texts ps ≡ true → are_texts qs ≡ true → are_texts (if b then ps else qs) ≡ true
texts_if true ps qs p q = p
texts_if false ps qs p q = q

pub texts_with : (ps : PairList) (key : List Atom) (given v : Value) → is_text given ≡ true → are_texts ps ≡ true → are_texts (with_pair ps key given v) ≡ true
texts_with ps key given v t p =
    texts_if (nat_lt (key_place ps key) (length ps)) _ _ (texts_set ps (key_place ps key) v (slice_get ps (key_place ps key)) refl p) (texts_end ps key given v t p)

-- ---- what no change changes

changed_nature : (k : Change) (o : Object) → nature_of (Some (changed_by k o)) ≡ nature_of (Some o)
changed_nature (Fill items) (object.List old) = refl
changed_nature (Bind name v) (object.Space names) = refl
changed_nature (Bind name v) (object.Instance class fields) = refl
changed_nature (Bind name v) (object.Exception class args entries fields cause) = refl
changed_nature (Bind name v) (object.Class own base names false) = refl
changed_nature (Unbind name) (object.Space names) = refl
changed_nature (Unbind name) (object.Instance class fields) = refl
changed_nature (Unbind name) (object.Exception class args entries fields cause) = refl
changed_nature (Unbind name) (object.Class own base names false) = refl
changed_nature (Hold v) (object.Cell old) = refl
changed_nature (Move place size) (object.Iterator over old older over_now) = refl
changed_nature Finish (object.Iterator over place size over_now) = refl
changed_nature (Put key given v) (object.Dict pairs) = refl
changed_nature (Fit pairs) (object.Dict old) = refl
changed_nature k o = refl

changed_body : (c : Roster) (m : Mark) (k : Change) (o : Object) → BodyLaw c m o → BodyLaw c m (changed_by k o)
changed_body c m (Fill items) (object.List old) p = p
changed_body c m (Bind name v) (object.Space names) p = p
changed_body c m (Bind name v) (object.Instance class fields) p = p
changed_body c m (Bind name v) (object.Exception class args entries fields cause) p = p
changed_body c m (Bind name v) (object.Class own base names false) p = p
changed_body c m (Unbind name) (object.Space names) p = p
changed_body c m (Unbind name) (object.Instance class fields) p = p
changed_body c m (Unbind name) (object.Exception class args entries fields cause) p = p
changed_body c m (Unbind name) (object.Class own base names false) p = p
changed_body c m (Hold v) (object.Cell old) p = p
changed_body c m (Move place size) (object.Iterator over old older over_now) p = p
changed_body c m Finish (object.Iterator over place size over_now) p = p
changed_body c m (Put key given v) (object.Dict pairs) p = p
changed_body c m (Fit pairs) (object.Dict old) p = p
changed_body c m k o p = p

-- a generator is no change's
abbrev SameGenerator : Object → Object → Type 0
SameGenerator o (object.Generator code state given cells) = o ≡ object.Generator code state given cells
SameGenerator o other = Unit {0}

changed_generator : (k : Change) (o : Object) → SameGenerator o (changed_by k o)
changed_generator (Fill items) (object.List old) = tt
changed_generator (Bind name v) (object.Space names) = tt
changed_generator (Bind name v) (object.Instance class fields) = tt
changed_generator (Bind name v) (object.Exception class args entries fields cause) = tt
changed_generator (Bind name v) (object.Class own base names false) = tt
changed_generator (Unbind name) (object.Space names) = tt
changed_generator (Unbind name) (object.Instance class fields) = tt
changed_generator (Unbind name) (object.Exception class args entries fields cause) = tt
changed_generator (Unbind name) (object.Class own base names false) = tt
changed_generator (Hold v) (object.Cell old) = tt
changed_generator (Move place size) (object.Iterator over old older over_now) = tt
changed_generator Finish (object.Iterator over place size over_now) = tt
changed_generator (Put key given v) (object.Dict pairs) = tt
changed_generator (Fit pairs) (object.Dict old) = tt
changed_generator k (object.Generator code state given cells) = refl
changed_generator k o = tt

changed_keywords : (k : Change) (o : Object) → KeepsTexts k (Some o) → are_keywords (Some o) ≡ true → are_keywords (Some (changed_by k o)) ≡ true
changed_keywords (Fill items) (object.List old) p e = e
changed_keywords (Bind name v) (object.Space names) p e = e
changed_keywords (Bind name v) (object.Instance class fields) p e = e
changed_keywords (Bind name v) (object.Exception class args entries fields cause) p e = e
changed_keywords (Bind name v) (object.Class own base names false) p e = e
changed_keywords (Unbind name) (object.Space names) p e = e
changed_keywords (Unbind name) (object.Instance class fields) p e = e
changed_keywords (Unbind name) (object.Exception class args entries fields cause) p e = e
changed_keywords (Unbind name) (object.Class own base names false) p e = e
changed_keywords (Hold v) (object.Cell old) p e = e
changed_keywords (Move place size) (object.Iterator over old older over_now) p e = e
changed_keywords Finish (object.Iterator over place size over_now) p e = e
changed_keywords (Put key given v) (object.Dict pairs) p e = texts_with pairs key given v p e
changed_keywords (Fit pairs) (object.Dict old) p e = p e
changed_keywords k o p e = e

-- what stands where an object was changed, and by what
abbrev ChangeIn : Option (ℕ × Change) → Change → Type 0
ChangeIn None k = ⊥
ChangeIn (Some t) k = t.1 ≡ k

data WasBy (h : List Object) (t : Option (ℕ × Change)) (n : ℕ) (x : Object) : Type 0 where
  By : (k : Change) (o : Object) (in_t : ChangeIn t k) (at : slice_get h n ≡ Some o) (is : x ≡ changed_by k o) → WasBy h t n x
  Same : (at : slice_get h n ≡ Some x) → WasBy h t n x

put_by : (h : List Object) (t : ℕ × Change) (o : Option Object) → slice_get h t.0 ≡ o → (n : ℕ) (x : Object) → slice_get (put_at h t.0 t.1 o) n ≡ Some x → WasBy h (Some t) n x
put_by h t None at n x e = Same e
put_by h t (Some o) at n x e =
    elim (set_cases h t.0 (changed_by t.1 o) n x e) [
      | inl q ↦ By t.1 o refl (ap (slice_get h) q.0 ∙ at) q.1
      | inr q ↦ Same q
    ]

set_by : (h : List Object) (t : Option (ℕ × Change)) (n : ℕ) (x : Object) → slice_get (set_in h t) n ≡ Some x → WasBy h t n x
set_by h None n x e = Same e
set_by h (Some t) n x e = put_by h t (slice_get h t.0) refl n x e

grows_by : (h : List Object) (d : Doing) (marks : ℕ → Mark) → Grows (view h marks) (view (heap_after h d) marks)
grows_by h d marks =
    let g : HeapGrows h (heap_after h d) = grows h d in
    record { longer = g.longer; natures = stays nature_of changed_nature h d; kinds = g.kinds; marks = λ n there. refl }

-- ---- what is open

plain_is : (marks : ℕ → Mark) (v : Value) → IsPlainValue v → IsOpen marks v
plain_is marks (value.Obj n) p = absurd p
plain_is marks v p = tt

known_open : (c : Roster) (w : World) (marks : ℕ → Mark) → WorldLaw c w marks → (n : ℕ) (o : Option Object) → slice_get w.heap n ≡ o → Known (opens marks) w n o
known_open c w marks l n None e = tt
known_open c w marks l n (Some o) e =
    record {
      parts = l.law.opens n o e;
      links = (l.sound.heap.objects n o e).1;
      sort = record { there = slice_get_within w.heap n o e; sort = ap sort_of e };
      at = e;
    }

pub closed_open : (c : Roster) (w : World) (marks : ℕ → Mark) → WorldLaw c w marks → Closed (opens marks) w
closed_open c w marks l =
    record {
      plain = plain_is marks;
      classes = λ n a. plain_open c (view w.heap marks) l.law n ClassSort tt a;
      natives = native_class (length w.codes) w.heap l.sound.heap;
      asked = λ n p. p;
      objects = λ n. known_open c w marks l n (slice_get w.heap n) refl;
    }

pub news_open : (marks : ℕ → Mark) (n : ℕ) (made : List Object) → ((k : ℕ) → n ≤ k → marks k ≡ Open) → News (opens marks) n made
news_open marks n [] p = tt
news_open marks n (o ∷ os) p = (p n (omega arith), news_open marks (1 + n) os (λ k h. p k (omega arith)))

-- ---- the objects after it

function_role : (m : Mark) (r : Role) → m ≡ Open → MarkedAs m r → r ≡ OfFunction
function_role Open OfFunction e p = refl
function_role Block r e p = absurd (cc)
function_role m r e p = absurd p

module _ (c : Roster) (w : World) (marks : ℕ → Mark) (l : WorldLaw c w marks) (d : Doing) (u : Uses (opens marks) w d) where
  change_of : (t : Option (ℕ × Change)) (k : Change) → SetOf (opens marks) w t → ChangeIn t k → ChangeOf (opens marks) w k
  change_of None k p i = absurd i
  change_of (Some t) k p i = subst (λ x. ChangeOf (opens marks) w x) i p.0

  set_open : (n : ℕ) (x : Object) → WasBy w.heap d.set n x → ObjectOpen marks x
  set_open n x was =
      elim was [
        | By k o in_t at is ↦ subst (λ y. ObjectOpen marks y) (sym is) (changed_parts (opens marks) w k o (l.law.opens n o at) (change_of d.set k u.set in_t))
        | Same at ↦ l.law.opens n x at
      ]

  set_body : (n : ℕ) (x : Object) → WasBy w.heap d.set n x → BodyLaw c (marks n) x
  set_body n x was =
      elim was [
        | By k o in_t at is ↦ subst (λ y. BodyLaw c (marks n) y) (sym is) (changed_body c (marks n) k o (l.law.bodies n o at))
        | Same at ↦ l.law.bodies n x at
      ]

  takes_of : (code : ℕ) (generator : Bool) (given : List Value) → CodeTakes w.codes code generator given → Takes c code generator given
  takes_of code generator given t =
      record { header = t.header; at = subst (λ hs. slice_get hs code ≡ Some t.header) l.codes t.at; count = t.count; kind = t.kind }

  new_body : (o : Object) → NewOf (opens marks) w o → BodyLaw c Open o
  new_body (object.Generator code state given cells) p =
      let b : Begins (opens marks) w code given cells = p.1 in
      let f : BodyLaw c (marks b.function) (object.Function code b.defaults b.keywords cells) = l.law.bodies b.function _ b.is in
      (f.0, takes_of code true given b.takes, function_role (marks b.function) (c.role code) b.known f.1, tt)
  new_body (object.Function code defaults keywords cells) p = absurd p
  new_body o p = tt

  made_open : (n j : ℕ) (x : Object) → n ≡ j + length w.heap → slice_get d.made j ≡ Some x → ObjectOpen marks x × BodyLaw c (marks n) x
  made_open n j x is e =
      let m : PartsOf (IsOpen marks) x × LinksIn (length w.codes) w.heap (j + length w.heap) x × NewOf (opens marks) w x = made_at (opens marks) w (length w.heap) d.made u.made j x e in
      (m.0, subst (λ k. BodyLaw c k x) (sym (l.law.ahead n (omega arith))) (new_body x m.2))

  -- a marked dict is changed by what keeps its keys texts
  marked_texts : (i : ℕ) (k : Change) (o : Option Object) → marks i ≡ Keywords → IsOpen marks (value.Obj i) ⊎ KeepsTexts k o → KeepsTexts k o
  marked_texts i k o e p = elim p [ inl q ↦ let f : Open ≡ Keywords = sym q ∙ e in absurd (cc) | inr q ↦ q ]

  put_keywords : (i : ℕ) (k : Change) (o : Option Object) → slice_get w.heap i ≡ o → IsOpen marks (value.Obj i) ⊎ KeepsTexts k o → (n : ℕ) → marks n ≡ Keywords → are_keywords (slice_get (put_at w.heap i k o) n) ≡ true
  put_keywords i k None e p n m = l.law.keywords n m
  put_keywords i k (Some o) e p n m =
      elim (cases_eq n i) [
        | inl is ↦
            let m' : marks i ≡ Keywords = ap marks (sym is) ∙ m in
            let a : are_keywords (Some o) ≡ true = ap are_keywords (sym e) ∙ l.law.keywords i m' in
            subst (λ j. are_keywords (slice_get (slice_set w.heap i (changed_by k o)) j) ≡ true) (sym is)
            (ap are_keywords (set_same w.heap i (changed_by k o) (slice_get_within w.heap i o e)) ∙ changed_keywords k o (marked_texts i k (Some o) m' p) a)
        | inr apart ↦ ap are_keywords (set_other w.heap i (changed_by k o) n apart) ∙ l.law.keywords n m
      ]

  in_keywords : (t : Option (ℕ × Change)) → SetOf (opens marks) w t → (n : ℕ) → marks n ≡ Keywords → are_keywords (slice_get (set_in w.heap t) n) ≡ true
  in_keywords None p n m = l.law.keywords n m
  in_keywords (Some t) p n m = put_keywords t.0 t.1 (slice_get w.heap t.0) refl p.1 n m

  keywords_kept : (n : ℕ) → marks n ≡ Keywords → are_keywords (slice_get (heap_after w.heap d) n) ≡ true
  keywords_kept n e =
      elim (cases_lt n (length w.heap)) [
        | inl small ↦
            ap are_keywords (grown_before (set_in w.heap d.set) d.made n (omega (arith, set_length w.heap d.set))) ∙ in_keywords d.set u.set n e
        | inr over ↦ let f : Open ≡ Keywords = sym (l.law.ahead n over) ∙ e in absurd (cc)
      ]

  law_after : HeapLaw c (view (heap_after w.heap d) marks)
  law_after =
      record {
        opens = λ n x e.
            elim (grown_either (set_in w.heap d.set) d.made n x e) [
              | inl p ↦ set_open n x (set_by w.heap d.set n x p)
              | inr q ↦ (made_open n q.0 x (omega (arith, q.1, set_length w.heap d.set)) q.2).0
            ];
        bodies = λ n x e.
            elim (grown_either (set_in w.heap d.set) d.made n x e) [
              | inl p ↦ set_body n x (set_by w.heap d.set n x p)
              | inr q ↦ (made_open n q.0 x (omega (arith, q.1, set_length w.heap d.set)) q.2).1
            ];
        keywords = keywords_kept;
        ahead = λ n behind. l.law.ahead n (omega (arith, grown_length (set_in w.heap d.set) d.made, set_length w.heap d.set));
      }

  set_generator : (n code : ℕ) (state : GenState) (given cells : List Value) → WasBy w.heap d.set n (object.Generator code state given cells) → slice_get w.heap n ≡ Some (object.Generator code state given cells)
  set_generator n code state given cells was =
      elim was [
        | By k o in_t at is ↦
            at ∙ ap Some (subst (λ y. SameGenerator o y) (sym is) (changed_generator k o))
        | Same at ↦ at
      ]

  new_fresh : (code : ℕ) (state : GenState) (given cells : List Value) → NewOf (opens marks) w (object.Generator code state given cells) → state ≡ gen.Fresh
  new_fresh code state given cells p = p.0

  generators_kept : KeepsGenerators w.heap (heap_after w.heap d)
  generators_kept =
      λ n code state given cells e.
      elim (grown_either (set_in w.heap d.set) d.made n (object.Generator code state given cells) e) [
        | inl p ↦ inl (set_generator n code state given cells (set_by w.heap d.set n _ p))
        | inr q ↦ inr ((made_at (opens marks) w (length w.heap) d.made u.made q.0 _ q.2).2.0)
      ]

  -- ---- ends

  after_law : (a : After) → AfterIn (heap_after w.heap d) a → AfterOf (opens marks) w a → AfterLaw (view (heap_after w.heap d) marks) a
  after_law (behind.Made v) p q = (p, q)
  after_law (behind.Report exception) p q = (p, plain_open c (view (heap_after w.heap d) marks) law_after exception AnException tt p)
  after_law a p q = tt

  how_law : (h : How) → HowIn (heap_after w.heap d) h → HowOf (opens marks) w h → HowLaw (view (heap_after w.heap d) marks) h
  how_law (how.Send v) p q = (p, q)
  how_law (how.Throw exception) p q = (p, plain_open c (view (heap_after w.heap d) marks) law_after exception AnException tt p)
  how_law how.Close p q = tt

  function_given : (v : View) (r : Role) (given : List Value) → r ≡ OfFunction → GivenAs v r given
  function_given v OfFunction given e = tt
  function_given v r given e = absurd (cc)

  may_begin : (v : View) (o : Option Object) (code : ℕ) (given : List Value) → nature_of o ≡ AFunction code → Takes c code false given → AllThere v given → c.role code ≡ OfFunction → MayBegin c v o given
  may_begin v (Some (object.Function n defaults keywords cells)) code given e t p r =
      let is : n ≡ code = cc in
      (subst (λ k. Takes c k false given) (sym is) t, p, function_given v (c.role n) given (ap c.role is ∙ r))
  may_begin v o code given e t p r = absurd (cc)

  asked_law : (f : ℕ) (given : List Value) (names : NameList) (a : After) → EndIn (heap_after w.heap d) (opend.Ask f given names a) → EndOf (opens marks) w (opend.Ask f given names a) → Asked w (opend.Ask f given names a) → EndLaw c (view (heap_after w.heap d) marks) (opend.Ask f given names a)
  asked_law f given names a p q r =
      let b : BodyLaw c (marks f) (object.Function r.1.0 r.1.1 r.1.2 r.1.3) = l.law.bodies f _ r.1.4 in
      let there : f < length w.heap = slice_get_within w.heap f _ r.1.4 in
      let g : Grows (view w.heap marks) (view (heap_after w.heap d) marks) = grows_by w.heap d marks in (
        may_begin (view (heap_after w.heap d) marks) (slice_get (heap_after w.heap d) f) r.1.0 given (g.natures f there ∙ ap nature_of r.1.4)
            (takes_of r.1.0 false given r.1.5) (all_there (view (heap_after w.heap d) marks) given p.1 q.args) (function_role (marks f) (c.role r.1.0) q.known b.1),
        r.0,
        after_law a p.3 q.after,
      )

  generator_nature : (o : Option Object) → sort_of o ≡ GeneratorSort → (code : ℕ) × (nature_of o ≡ AGenerator code)
  generator_nature (Some (object.Generator code state given cells)) e = (code, refl)
  generator_nature o e = absurd (cc)

  end_law : (e : OpEnd) → EndIn (heap_after w.heap d) e → EndOf (opens marks) w e → Asked w e → EndLaw c (view (heap_after w.heap d) marks) e
  end_law (opend.Give v) p q r = (p, q)
  end_law (opend.Raise n args) p q r = (
    (
      p.0,
      elim p.0 [
        | inl a ↦ plain_open c (view (heap_after w.heap d) marks) law_after n ClassSort tt a
        | inr a ↦ plain_open c (view (heap_after w.heap d) marks) law_after n AnException tt a
      ],
    ),
    all_there (view (heap_after w.heap d) marks) args p.1 q.1,
  )
  end_law (opend.Ask f given names a) p q r = asked_law f given names a p q r
  end_law (opend.Resume g h) p q r = (generator_nature (slice_get (heap_after w.heap d) g) p.0.sort, how_law h p.1 q.1)
  end_law (opend.Put text) p q r = tt
  end_law opend.Line p q r = tt
  end_law (opend.Stop kind) p q r = tt

  pub left : Sound (after w (answer w d)) × EndIn (heap_after w.heap d) d.end → Asked w d.end → Leaves c w marks (answer w d)
  left p r =
      record {
        sound = p.0;
        law = law_after;
        grows = grows_by w.heap d marks;
        generators = generators_kept;
        end = end_law d.end p.1 u.end r;
      }

-- what it leaves before a function that it asks is bound
pub record Stays (c : Roster) (w : World) (marks : ℕ → Mark) (h : List Object) : Type 0 where
  pub law : HeapLaw c (view h marks)
  pub grows : Grows (view w.heap marks) (view h marks)
  pub generators : KeepsGenerators w.heap h

pub used_stays : (c : Roster) (w : World) (marks : ℕ → Mark) (l : WorldLaw c w marks) (d : Doing) → Uses (opens marks) w d → Stays c w marks (heap_after w.heap d)
used_stays c w marks l d u =
    record { law = law_after c w marks l d u; grows = grows_by w.heap d marks; generators = generators_kept c w marks l d u }
