-- What uses only values that are there keeps a sound world sound.
use Rattle.std.proofs.Common.{◌≡◌, ℕ, zero, suc, ◌+◌, ◌<◌, ◌≤◌, List, [], ◌∷◌, Option, Some, None, refl, sym, ap, subst, ◌∙◌, arith, length, lit<, map, inl, inr}
use Rattle.std.specs.Prelude.{slice_get, slice_set}
use Rattle.std.proofs.Math.ListN.{length-set}
use Rattle.std.proofs.lemmas.Bool.{cases_lt}
use Rattle.std.proofs.lemmas.Option.{slice_get_within}
use Rattle.nu_value.specs.declared.natives.Native.{Native}
use Rattle.nu_value.specs.declared.value.Value.{Value}
use Rattle.nu_value.specs.declared.value.Value.TheVariants as value
use Rattle.nu_value.specs.declared.object.Object.{Object}
use Rattle.nu_value.specs.Keyed.{object_kind}
use Rattle.nu_value.specs.Natives.{native_classes, natives, class_of}
use Rattle.op_forms.specs.declared.end.After.{After}
use Rattle.op_forms.specs.declared.end.After.TheVariants as behind
use Rattle.op_forms.specs.declared.end.How.{How}
use Rattle.op_forms.specs.declared.end.How.TheVariants as how
use Rattle.op_forms.specs.declared.end.OpEnd.{OpEnd}
use Rattle.op_forms.specs.declared.end.OpEnd.TheVariants as opend
use Rattle.op_forms.specs.declared.world.World.{World}
use Rattle.op_forms.specs.Answers.{after}
use Rattle.op_forms.specs.Doing.{Change, Fill, Bind, Unbind, Hold, Move, Finish, Put, Fit, Doing, changed_by, put_at, set_in, heap_after, answer}
use Rattle.op_forms.specs.Laws.{DoingsKeepSound}
use Rattle.op_forms.specs.Parts.{PartsOf}
use Rattle.op_forms.specs.Right.{Grows, Claim, within, IsPlainValue, Known, Closed, AfterOf, HowOf, EndOf, ChangeOf, SetOf, NewOf, MadeOf, Uses, News}
use Rattle.op_forms.specs.Sound.{AClass, sort_of, IsA, IsIn, LinksIn, ObjectIn, SoundHeap, Sound, AfterIn, HowIn, EndIn}
use Rattle.op_forms.proofs.Grown.{set_cases, set_other, set_same, grown_length, grown_before, grown_either}
use Rattle.op_forms.proofs.Objects.{parts_by, changed_parts, changed_links, changed_sort, changed_kind, is_a_more, in_more, links_more, object_more}

-- ---- what stays of a heap

-- what no change of an object changes
module _ {A : Type 0} (f : Option Object → A) (same : (k : Change) (o : Object) → f (Some (changed_by k o)) ≡ f (Some o)) where
  set_stays : (h : List Object) (i : ℕ) (k : Change) (o : Object) → slice_get h i ≡ Some o → (n : ℕ) → f (slice_get (slice_set h i (changed_by k o)) n) ≡ f (slice_get h n)
  set_stays [] i k o e n = refl
  set_stays (y ∷ h) zero k o e zero = same k o ∙ sym (ap f e)
  set_stays (y ∷ h) zero k o e (suc n) = refl
  set_stays (y ∷ h) (suc i) k o e zero = refl
  set_stays (y ∷ h) (suc i) k o e (suc n) = set_stays h i k o e n

  put_stays : (h : List Object) (i : ℕ) (k : Change) (o : Option Object) → slice_get h i ≡ o → (n : ℕ) → f (slice_get (put_at h i k o) n) ≡ f (slice_get h n)
  put_stays h i k None e n = refl
  put_stays h i k (Some o) e n = set_stays h i k o e n

  in_stays : (h : List Object) (t : Option (ℕ × Change)) (n : ℕ) → f (slice_get (set_in h t) n) ≡ f (slice_get h n)
  in_stays h None n = refl
  in_stays h (Some t) n = put_stays h t.0 t.1 (slice_get h t.0) refl n

put_length : (h : List Object) (i : ℕ) (k : Change) (o : Option Object) → length (put_at h i k o) ≡ length h
put_length h i k None = refl
put_length h i k (Some o) = length-set h i (changed_by k o)

pub set_length : (h : List Object) (t : Option (ℕ × Change)) → length (set_in h t) ≡ length h
set_length h None = refl
set_length h (Some t) = put_length h t.0 t.1 (slice_get h t.0)

pub stays : {A : Type 0} (f : Option Object → A) → ((k : Change) (o : Object) → f (Some (changed_by k o)) ≡ f (Some o)) → (h : List Object) (d : Doing) (n : ℕ) → n < length h → f (slice_get (heap_after h d) n) ≡ f (slice_get h n)
stays f same h d n there = ap f (grown_before (set_in h d.set) d.made n (omega (arith, set_length h d.set))) ∙ in_stays f same h d.set n

pub grows : (h : List Object) (d : Doing) → Grows h (heap_after h d)
grows h d =
    record {
      longer = omega (arith, grown_length (set_in h d.set) d.made, set_length h d.set);
      sorts = stays sort_of changed_sort h d;
      kinds = λ n. stays (object_kind n) (changed_kind n) h d n;
    }

-- ---- the objects after it

pub made_at : (c : Claim) (w : World) (n : ℕ) (made : List Object) → MadeOf c w n made → (j : ℕ) (x : Object) → slice_get made j ≡ Some x → PartsOf c.of x × LinksIn (length w.codes) w.heap (j + n) x × NewOf c w x
made_at c w n [] m j x e = absurd (cc)
made_at c w n (o ∷ os) m zero x e =
    let is : o ≡ x = cc in
    subst (λ k. PartsOf c.of x × LinksIn (length w.codes) w.heap k x × NewOf c w x) (omega arith)
    (subst (λ y. PartsOf c.of y × LinksIn (length w.codes) w.heap n y × NewOf c w y) is m.0)
made_at c w n (o ∷ os) m (suc j) x e =
    subst (λ k. PartsOf c.of x × LinksIn (length w.codes) w.heap k x × NewOf c w x) (omega arith) (made_at c w (1 + n) os m.1 j x e)

-- what stands where one object is changed is an object that was there, or is changed
changed_at : (codes : ℕ) (w : World) (more : List Object) → Grows w.heap more → SoundHeap codes w.heap → (i : ℕ) (k : Change) → ChangeOf (within more) w k → (o : Option Object) → slice_get w.heap i ≡ o → (n : ℕ) (x : Object) → slice_get (put_at w.heap i k o) n ≡ Some x → ObjectIn codes more n x
changed_at codes w more g s i k p None at n x e = object_more codes w.heap more s g n x (s.objects n x e)
changed_at codes w more g s i k p (Some o) at n x e =
    elim (set_cases w.heap i (changed_by k o) n x e) [
      | inl q ↦
          let parts : PartsOf (IsIn more) (changed_by k o) = changed_parts (within more) w k o (object_more codes w.heap more s g i o (s.objects i o at)).0 p in
          let links : LinksIn codes more i (changed_by k o) = links_more codes w.heap more s g i (changed_by k o) (changed_links (within more) w codes i k o (s.objects i o at).1 p) in
          subst (λ j. ObjectIn codes more j x) (sym q.0) (subst (λ y. ObjectIn codes more i y) (sym q.1) (parts, links))
      | inr q ↦ object_more codes w.heap more s g n x (s.objects n x q)
    ]

set_at : (codes : ℕ) (w : World) (more : List Object) → Grows w.heap more → SoundHeap codes w.heap → (t : Option (ℕ × Change)) → SetOf (within more) w t → (n : ℕ) (x : Object) → slice_get (set_in w.heap t) n ≡ Some x → ObjectIn codes more n x
set_at codes w more g s None p n x e = object_more codes w.heap more s g n x (s.objects n x e)
set_at codes w more g s (Some t) p n x e = changed_at codes w more g s t.0 t.1 p.0 (slice_get w.heap t.0) refl n x e

-- ---- the classes that no script makes

class_same : (k : Change) (n : Native) → changed_by k (class_of n) ≡ class_of n
class_same (Fill items) n = refl
class_same (Bind name v) n = refl
class_same (Unbind name) n = refl
class_same (Hold v) n = refl
class_same (Move place size) n = refl
class_same Finish n = refl
class_same (Put key given v) n = refl
class_same (Fit pairs) n = refl

natives_same : (ns : List Native) (k : Change) (n : ℕ) (o : Object) → slice_get (map class_of ns) n ≡ Some o → changed_by k o ≡ o
natives_same [] k n o e = absurd (cc)
natives_same (x ∷ ns) k zero o e = let is : class_of x ≡ o = cc in subst (λ y. changed_by k y ≡ y) is (class_same k x)
natives_same (x ∷ ns) k (suc n) o e = natives_same ns k n o e

put_natives : (codes : ℕ) (h : List Object) → SoundHeap codes h → (i : ℕ) (k : Change) (o : Option Object) → slice_get h i ≡ o → (n : ℕ) → n < length native_classes → slice_get (put_at h i k o) n ≡ slice_get native_classes n
put_natives codes h s i k None e n small = s.natives n small
put_natives codes h s i k (Some o) e n small =
    elim (cases_lt i (length native_classes)) [
      | inl below ↦
          let same : changed_by k o ≡ o = natives_same natives k i o (sym (s.natives i below) ∙ e) in
          set_same h i (changed_by k o) (e ∙ ap Some (sym same)) n ∙ s.natives n small
      | inr above ↦ set_other h i (changed_by k o) n (λ is. omega arith) ∙ s.natives n small
    ]

set_natives : (codes : ℕ) (h : List Object) → SoundHeap codes h → (t : Option (ℕ × Change)) (n : ℕ) → n < length native_classes → slice_get (set_in h t) n ≡ slice_get native_classes n
set_natives codes h s None n small = s.natives n small
set_natives codes h s (Some t) n small = put_natives codes h s t.0 t.1 (slice_get h t.0) refl n small

pub many : (codes : ℕ) (h : List Object) → SoundHeap codes h → 36 < length h
many codes h s = slice_get_within h 36 _ (s.natives 36 (lit< tt))

native_sort : (xs : List Native) (n : ℕ) → n < length (map class_of xs) → sort_of (slice_get (map class_of xs) n) ≡ AClass
native_sort [] n p = absurd (omega arith)
native_sort (x ∷ xs) zero p = refl
native_sort (x ∷ xs) (suc n) p = native_sort xs n (omega arith)

pub native_class : (codes : ℕ) (h : List Object) → SoundHeap codes h → (n : ℕ) → n < length native_classes → IsA h n AClass
native_class codes h s n small =
    record { there = omega (arith, many codes h s); sort = ap sort_of (s.natives n small) ∙ native_sort natives n small }

-- ---- ends

module _ (w : World) (more : List Object) (g : Grows w.heap more) where
  after_in : (a : After) → AfterOf (within more) w a → AfterIn more a
  after_in (behind.Made v) p = p
  after_in (behind.Report exception) p = is_a_more w.heap more g exception _ p
  after_in a p = tt

  how_in : (h : How) → HowOf (within more) w h → HowIn more h
  how_in (how.Send v) p = p
  how_in (how.Throw exception) p = is_a_more w.heap more g exception _ p
  how_in how.Close p = tt

  end_in : (e : OpEnd) → EndOf (within more) w e → EndIn more e
  end_in (opend.Give v) p = p
  end_in (opend.Raise n args) p =
      (elim p.0 [ inl a ↦ inl (is_a_more w.heap more g n _ a) | inr a ↦ inr (is_a_more w.heap more g n _ a) ], p.1)
  end_in (opend.Ask f args names a) p =
      (is_a_more w.heap more g f _ p.function, p.args, (p.names, p.distinct), after_in a p.after)
  end_in (opend.Resume generator how) p = (is_a_more w.heap more g generator _ p.0, how_in how p.1)
  end_in (opend.Put text) p = tt
  end_in opend.Line p = tt
  end_in (opend.Stop kind) p = tt

-- ---- worlds

pub grown_world : (w : World) (h : List Object) → Sound w → Grows w.heap h → SoundHeap (length w.codes) h → Sound (record w { heap = h })
grown_world w h s g sound =
    record {
      heap = sound;
      first = s.first;
      builtins = is_a_more w.heap h g w.builtins _ s.builtins;
      names = is_a_more w.heap h g w.«module» _ s.names;
    }

used_sound : (w : World) (d : Doing) → Sound w → Uses (within (heap_after w.heap d)) w d → Sound (after w (answer w d)) × EndIn (heap_after w.heap d) d.end
used_sound w d s u =
    let more : List Object = heap_after w.heap d in
    let g : Grows w.heap more = grows w.heap d in
    let codes : ℕ = length w.codes in (
      grown_world w more s g
          (record {
            objects = λ n x e.
                elim (grown_either (set_in w.heap d.set) d.made n x e) [
                  | inl p ↦ set_at codes w more g s.heap d.set u.set n x p
                  | inr q ↦
                      let at : n ≡ q.0 + length w.heap = omega (arith, q.1, set_length w.heap d.set) in
                      let m : PartsOf (IsIn more) x × LinksIn codes w.heap (q.0 + length w.heap) x × NewOf (within more) w x = made_at (within more) w (length w.heap) d.made u.made q.0 x q.2 in
                      subst (λ k. ObjectIn codes more k x) (sym at) (m.0, links_more codes w.heap more s.heap g _ x m.1)
                ];
            natives = λ n small.
                grown_before (set_in w.heap d.set) d.made n (omega (arith, set_length w.heap d.set, many codes w.heap s.heap)) ∙ set_natives codes w.heap s.heap d.set n small;
          }),
      end_in w more g d.end u.end,
    )

-- what is in a heap that a sound one has grown to
plain_in : (more : List Object) (v : Value) → IsPlainValue v → IsIn more v
plain_in more value.Unset p = p
plain_in more (value.Obj n) p = absurd p
plain_in more v p = tt

known_at : (w : World) (more : List Object) → Sound w → Grows w.heap more → (n : ℕ) (o : Option Object) → slice_get w.heap n ≡ o → Known (within more) w n o
known_at w more s g n None e = tt
known_at w more s g n (Some o) e =
    let p : ObjectIn (length w.codes) w.heap n o = s.heap.objects n o e in
    record {
      parts = parts_by (IsIn w.heap) (IsIn more) (in_more w.heap more g) o p.0;
      links = p.1;
      sort = record { there = slice_get_within w.heap n o e; sort = ap sort_of e };
      at = e;
    }

pub closed_in : (w : World) (more : List Object) → Sound w → Grows w.heap more → Closed (within more) w
closed_in w more s g =
    record {
      plain = plain_in more;
      classes = λ n a. omega (arith, a.there, g.longer);
      natives = native_class (length w.codes) w.heap s.heap;
      asked = λ n p. tt;
      objects = λ n. known_at w more s g n (slice_get w.heap n) refl;
    }

news_in : (more : List Object) (n : ℕ) (made : List Object) → length made + n ≤ length more → News (within more) n made
news_in more n [] e = tt
news_in more n (o ∷ os) e = (omega arith, news_in more (1 + n) os (omega arith))

pub doings_sound : DoingsKeepSound
doings_sound w d s r =
    let more : List Object = heap_after w.heap d in
    let g : Grows w.heap more = grows w.heap d in
    used_sound w d s
    (r more g (closed_in w more s g) (news_in more (length w.heap) d.made (omega (arith, grown_length (set_in w.heap d.set) d.made, set_length w.heap d.set))))
