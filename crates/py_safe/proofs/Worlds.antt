-- Lawful worlds stay lawful where an object is made, and where one is put in place of another of its nature.
use Rattle.std.proofs.Common.{◌≡◌, ℕ, zero, suc, ◌<◌, ◌≤◌, List, [], ◌∷◌, ◌++◌, Option, Some, None, true, false, refl, sym, ap, subst, ◌∙◌, arith, length, length-append, lit<, map, inl, inr}
use Rattle.std.specs.Prelude.{slice_get, slice_set}
use Rattle.std.proofs.Math.ListN.{length-set}
use Rattle.std.proofs.Math.Nat.{eq-or-lt_of_le}
use Rattle.std.proofs.lemmas.Bool.{cases_lt}
use Rattle.std.proofs.lemmas.Option.{slice_get_within}
use Rattle.nu_value.specs.declared.object.GenState.{GenState}
use Rattle.nu_value.specs.declared.object.GenState.TheVariants as gen
use Rattle.nu_value.specs.declared.object.Object.{Object}
use Rattle.nu_value.specs.declared.object.Object.TheVariants as object
use Rattle.nu_value.specs.declared.natives.Native.{Native}
use Rattle.nu_value.specs.declared.value.Value.{Value}
use Rattle.nu_value.specs.Keyed.{object_kind}
use Rattle.nu_value.specs.Natives.{native_classes, natives, class_of}
use Rattle.op_forms.specs.declared.world.World.{World}
use Rattle.op_forms.specs.Fits.{are_keywords}
use Rattle.op_forms.specs.Answers.{after}
use Rattle.op_forms.specs.Answers.{Answer}
use Rattle.op_forms.specs.Sound.{Sort, ADict as DictSort, AFunction as FunctionSort, AClass as ClassSort, AGenerator as GeneratorSort, ASpace as SpaceSort, Another as OtherSort, sort_of, IsA, ObjectIn, SoundHeap, Sound}
use Rattle.nu_calls.specs.Ends.{state_set}
use Rattle.nu_calls.specs.Surroundings.{world_with}
use Rattle.py_safe.specs.Rosters.{Roster}
use Rattle.py_safe.specs.Heaps.{Mark, Open, Keywords, Block, NoBlock, View, view, nature_of, Grows, ObjectOpen, BodyLaw, HeapLaw, KeepsGenerators}
use Rattle.py_safe.specs.Rules.{Leaves, WorldLaw}
use Rattle.py_safe.proofs.Growth.{set_cases, set_other, set_same, end_cases, before_end, get_end, marked, marked_other, marked_same, grows_refl, is_a_more, object_more, object_open_more}

-- ---- growth

grows_by : (h : List Object) (marks more : ℕ → Mark) (o : Object) → ((n : ℕ) → n < length h → more n ≡ marks n) → Grows (view h marks) (view (h ++ o ∷ []) more)
grows_by h marks more o agree =
    record {
      longer = omega (arith, length-append h (o ∷ []));
      natures = λ n there. ap nature_of (before_end h (o ∷ []) n there);
      kinds = λ n there. ap (object_kind n) (before_end h (o ∷ []) n there);
      marks = agree;
    }

-- a new object
pub grows_end : (h : List Object) (marks : ℕ → Mark) (o : Object) → Grows (view h marks) (view (h ++ o ∷ []) marks)
grows_end h marks o = grows_by h marks marks o (λ n there. refl)

below_marked : (marks : ℕ → Mark) (k : ℕ) (m : Mark) (n : ℕ) → n < k → marked marks k m n ≡ marks n
below_marked marks k m n small = marked_other marks k m n (λ e. omega arith)

-- a new object with a mark
pub grows_marked : (h : List Object) (marks : ℕ → Mark) (o : Object) (m : Mark) → Grows (view h marks) (view (h ++ o ∷ []) (marked marks (length h) m))
grows_marked h marks o m = grows_by h marks (marked marks (length h) m) o (below_marked marks (length h) m)

set_stays : {A : Type 0} (f : Option Object → A) (h : List Object) (i : ℕ) (o : Object) → f (Some o) ≡ f (slice_get h i) → (n : ℕ) → f (slice_get (slice_set h i o) n) ≡ f (slice_get h n)
set_stays f [] i o e n = refl
set_stays f (x ∷ h) zero o e zero = e
set_stays f (x ∷ h) zero o e (suc n) = refl
set_stays f (x ∷ h) (suc i) o e zero = refl
set_stays f (x ∷ h) (suc i) o e (suc n) = set_stays f h i o e n

-- an object that may stand in place of another
pub record IsLike (h : List Object) (i : ℕ) (o : Object) : Type 0 where
  pub nature : nature_of (Some o) ≡ nature_of (slice_get h i)
  pub kind : (n : ℕ) → object_kind n (Some o) ≡ object_kind n (slice_get h i)

-- an object in place of one of its nature
pub grows_set : (h : List Object) (marks : ℕ → Mark) (i : ℕ) (o : Object) → IsLike h i o → Grows (view h marks) (view (slice_set h i o) marks)
grows_set h marks i o e =
    record {
      longer = omega (arith, length-set h i o);
      natures = λ n there. set_stays nature_of h i o e.nature n;
      kinds = λ n there. set_stays (object_kind n) h i o (e.kind n) n;
      marks = λ n there. refl;
    }

-- ---- sound heaps

pub many : (codes : ℕ) (h : List Object) → SoundHeap codes h → 36 < length h
many codes h s = slice_get_within h 36 _ (s.natives 36 (lit< tt))

native_sort : (xs : List Native) (n : ℕ) → n < length (map class_of xs) → sort_of (slice_get (map class_of xs) n) ≡ ClassSort
native_sort [] n p = absurd (omega arith)
native_sort (x ∷ xs) zero p = refl
native_sort (x ∷ xs) (suc n) p = native_sort xs n (omega arith)

pub native_class : (codes : ℕ) (h : List Object) → SoundHeap codes h → (n : ℕ) → n < length native_classes → IsA h n ClassSort
native_class codes h s n small =
    record { there = omega (arith, many codes h s); sort = ap sort_of (s.natives n small) ∙ native_sort natives n small }

-- only classes are among those that no script makes
pub no_native : (codes : ℕ) (h : List Object) → SoundHeap codes h → (n : ℕ) (s : Sort) → IsA h n s → (s ≡ ClassSort → ⊥) → length native_classes ≤ n
no_native codes h sound n s a other =
    elim (cases_lt n (length native_classes)) [
      | inl small ↦ absurd (other (sym a.sort ∙ ap sort_of (sound.natives n small) ∙ native_sort natives n small))
      | inr behind ↦ behind
    ]

end_sound : (codes : ℕ) (h : List Object) (o : Object) → SoundHeap codes h → ObjectIn codes h (length h) o → SoundHeap codes (h ++ o ∷ [])
end_sound codes h o s new =
    let v : View = view h (λ n. Open) in
    let more : View = view (h ++ o ∷ []) (λ n. Open) in
    let g : Grows v more = grows_end h (λ n. Open) o in
    record {
      objects = λ n x e.
          elim (end_cases h o n x e) [
            | inl p ↦ subst (λ i. ObjectIn codes (h ++ o ∷ []) i x) (sym p.0) (subst (λ y. ObjectIn codes (h ++ o ∷ []) (length h) y) (sym p.1) (object_more codes v more s g (length h) o new))
            | inr q ↦ object_more codes v more s g n x (s.objects n x q)
          ];
      natives = λ n small. before_end h (o ∷ []) n (omega (arith, many codes h s)) ∙ s.natives n small;
    }

set_sound : (codes : ℕ) (h : List Object) (i : ℕ) (o : Object) → SoundHeap codes h → length native_classes ≤ i → IsLike h i o → ObjectIn codes h i o → SoundHeap codes (slice_set h i o)
set_sound codes h i o s behind e new =
    let v : View = view h (λ n. Open) in
    let more : View = view (slice_set h i o) (λ n. Open) in
    let g : Grows v more = grows_set h (λ n. Open) i o e in
    record {
      objects = λ n x at.
          elim (set_cases h i o n x at) [
            | inl p ↦ subst (λ j. ObjectIn codes (slice_set h i o) j x) (sym p.0) (subst (λ y. ObjectIn codes (slice_set h i o) i y) (sym p.1) (object_more codes v more s g i o new))
            | inr q ↦ object_more codes v more s g n x (s.objects n x q)
          ];
      natives = λ n small. set_other h i o n (λ is. omega arith) ∙ s.natives n small;
    }

pub grown_sound : (w : World) (h : List Object) (marks more : ℕ → Mark) → Sound w → Grows (view w.heap marks) (view h more) → SoundHeap (length w.codes) h → Sound (world_with w h)
grown_sound w h marks more s g sound =
    record {
      heap = sound;
      first = s.first;
      builtins = is_a_more (view w.heap marks) (view h more) g w.builtins _ s.builtins;
      names = is_a_more (view w.heap marks) (view h more) g w.«module» _ s.names;
    }

-- ---- lawful heaps

at_end : (h : List Object) (o : Object) (m : Mark) (more : ℕ → Mark) (n : ℕ) → length h ≡ n → more (length h) ≡ m → (m ≡ Keywords → are_keywords (Some o) ≡ true) → more n ≡ Keywords → are_keywords (slice_get (h ++ o ∷ []) n) ≡ true
at_end h o m more n is at keywords e =
    subst (λ k. are_keywords (slice_get (h ++ o ∷ []) k) ≡ true) is
    (ap are_keywords (get_end h o) ∙ keywords (sym at ∙ ap more is ∙ e))

keywords_end : (c : Roster) (h : List Object) (marks more : ℕ → Mark) (o : Object) (m : Mark) → HeapLaw c (view h marks) → ((n : ℕ) → n < length h → more n ≡ marks n) → more (length h) ≡ m → ((n : ℕ) → length h < n → more n ≡ Open) → (m ≡ Keywords → are_keywords (Some o) ≡ true) → (n : ℕ) → more n ≡ Keywords → are_keywords (slice_get (h ++ o ∷ []) n) ≡ true
keywords_end c h marks more o m l agree at ahead keywords n e =
    elim (cases_lt n (length h)) [
      | inl small ↦ ap are_keywords (before_end h (o ∷ []) n small) ∙ l.keywords n (sym (agree n small) ∙ e)
      | inr behind ↦
          elim (eq-or-lt_of_le behind) [
            | inl is ↦ at_end h o m more n is at keywords e
            | inr over ↦ let f : Open ≡ Keywords = sym (ahead n over) ∙ e in absurd (cc)
          ]
    ]

law_by : (c : Roster) (codes : ℕ) (h : List Object) (marks more : ℕ → Mark) (o : Object) (m : Mark) → SoundHeap codes h → HeapLaw c (view h marks) → ((n : ℕ) → n < length h → more n ≡ marks n) → more (length h) ≡ m → ((n : ℕ) → length h < n → more n ≡ Open) → ObjectIn codes h (length h) o → ObjectOpen marks o → BodyLaw c m o → (m ≡ Keywords → are_keywords (Some o) ≡ true) → HeapLaw c (view (h ++ o ∷ []) more)
law_by c codes h marks more o m s l agree at ahead new opens body keywords =
    let v : View = view h marks in
    let v' : View = view (h ++ o ∷ []) more in
    let g : Grows v v' = grows_by h marks more o agree in
    record {
      opens = λ n x e.
          elim (end_cases h o n x e) [
            | inl p ↦ subst (λ y. ObjectOpen more y) (sym p.1) (object_open_more codes v v' g (length h) o new opens)
            | inr q ↦ object_open_more codes v v' g n x (s.objects n x q) (l.opens n x q)
          ];
      bodies = λ n x e.
          elim (end_cases h o n x e) [
            | inl p ↦ subst (λ y. BodyLaw c (more n) y) (sym p.1) (subst (λ k. BodyLaw c k o) (sym (ap more p.0 ∙ at)) body)
            | inr q ↦ subst (λ k. BodyLaw c k x) (sym (agree n (slice_get_within h n x q))) (l.bodies n x q)
          ];
      keywords = keywords_end c h marks more o m l agree at ahead keywords;
      ahead = λ n behind. ahead n (omega (arith, length-append h (o ∷ [])));
    }

ahead_marked : (marks : ℕ → Mark) (k : ℕ) (m : Mark) → ((n : ℕ) → k ≤ n → marks n ≡ Open) → (n : ℕ) → k < n → marked marks k m n ≡ Open
ahead_marked marks k m p n over = marked_other marks k m n (λ e. omega arith) ∙ p n (omega arith)

keywords_set : (c : Roster) (h : List Object) (marks : ℕ → Mark) (i : ℕ) (o : Object) → HeapLaw c (view h marks) → i < length h → (marks i ≡ Keywords → are_keywords (Some o) ≡ true) → (n : ℕ) → marks n ≡ Keywords → are_keywords (slice_get (slice_set h i o) n) ≡ true
keywords_set c h marks i o l there keywords n e =
    elim (cases_lt n i) [
      | inl small ↦ ap are_keywords (set_other h i o n (λ is. omega arith)) ∙ l.keywords n e
      | inr behind ↦
          elim (eq-or-lt_of_le behind) [
            | inl is ↦ subst (λ k. are_keywords (slice_get (slice_set h i o) k) ≡ true) is (ap are_keywords (set_same h i o there) ∙ keywords (ap marks is ∙ e))
            | inr over ↦ ap are_keywords (set_other h i o n (λ is. omega arith)) ∙ l.keywords n e
          ]
    ]

pub law_set : (c : Roster) (h : List Object) (marks : ℕ → Mark) (i : ℕ) (o : Object) → HeapLaw c (view h marks) → i < length h → nature_of (Some o) ≡ nature_of (slice_get h i) → ObjectOpen marks o → BodyLaw c (marks i) o → (marks i ≡ Keywords → are_keywords (Some o) ≡ true) → HeapLaw c (view (slice_set h i o) marks)
law_set c h marks i o l there e opens body keywords =
    record {
      opens = λ n x at.
          elim (set_cases h i o n x at) [
            | inl p ↦ subst (λ y. ObjectOpen marks y) (sym p.1) opens
            | inr q ↦ l.opens n x q
          ];
      bodies = λ n x at.
          elim (set_cases h i o n x at) [
            | inl p ↦ subst (λ y. BodyLaw c (marks n) y) (sym p.1) (subst (λ k. BodyLaw c (marks k) o) (sym p.0) body)
            | inr q ↦ l.bodies n x q
          ];
      keywords = keywords_set c h marks i o l there keywords;
      ahead = λ n behind. l.ahead n (omega (arith, length-set h i o));
    }

-- ---- which objects have a mark

mark_open : (m : Mark) → NoBlock m → (m ≡ Keywords → ⊥) → m ≡ Open
mark_open Open p q = refl
mark_open Keywords p q = absurd (q refl)
mark_open Block p q = absurd p

no_keywords : (c : Roster) (v : View) → HeapLaw c v → (n : ℕ) (o : Option Object) → slice_get v.heap n ≡ o → are_keywords o ≡ false → v.marks n ≡ Keywords → ⊥
no_keywords c v l n o e f k = let g : false ≡ true = sym f ∙ sym (ap are_keywords e) ∙ l.keywords n k in absurd (cc)

-- the kinds of which no object has a mark
abbrev pub IsPlain : Sort → Type 0
IsPlain DictSort = ⊥
IsPlain FunctionSort = ⊥
IsPlain OtherSort = ⊥
IsPlain other = Unit {0}

plain_by : (c : Roster) (v : View) → HeapLaw c v → (n : ℕ) (s : Sort) → IsPlain s → (o : Option Object) → slice_get v.heap n ≡ o → sort_of o ≡ s → v.marks n ≡ Open
plain_by c v l n s p None e f = absurd (subst IsPlain (sym f) p)
plain_by c v l n s p (Some (object.Dict pairs)) e f = absurd (subst IsPlain (sym f) p)
plain_by c v l n s p (Some (object.Function code defaults keywords cells)) e f = absurd (subst IsPlain (sym f) p)
plain_by c v l n s p (Some (object.Generator code state given cells)) e f =
    mark_open (v.marks n) (l.bodies n (object.Generator code state given cells) e).3 (no_keywords c v l n (Some (object.Generator code state given cells)) e refl)
plain_by c v l n s p (Some o) e f = mark_open (v.marks n) (l.bodies n o e) (no_keywords c v l n (Some o) e refl)

pub plain_open : (c : Roster) (v : View) → HeapLaw c v → (n : ℕ) (s : Sort) → IsPlain s → IsA v.heap n s → v.marks n ≡ Open
plain_open c v l n s p a = plain_by c v l n s p (slice_get v.heap n) refl a.sort

pub open_keywords : (marks : ℕ → Mark) (n : ℕ) (o : Object) → marks n ≡ Open → marks n ≡ Keywords → are_keywords (Some o) ≡ true
open_keywords marks n o e k = let f : Open ≡ Keywords = sym e ∙ k in absurd (cc)

-- ---- worlds

-- one object more
pub world_end : (c : Roster) (w : World) (marks : ℕ → Mark) → WorldLaw c w marks → (o : Object) → ObjectIn (length w.codes) w.heap (length w.heap) o → ObjectOpen marks o → BodyLaw c Open o → WorldLaw c (world_with w (w.heap ++ o ∷ [])) marks
world_end c w marks l o new opens body =
    let g : Grows (view w.heap marks) (view (w.heap ++ o ∷ []) marks) = grows_end w.heap marks o in
    record {
      sound = grown_sound w (w.heap ++ o ∷ []) marks marks l.sound g (end_sound (length w.codes) w.heap o l.sound.heap new);
      law = law_by c (length w.codes) w.heap marks marks o Open l.sound.heap l.law (λ n there. refl) (l.law.ahead (length w.heap) (omega arith)) (λ n over. l.law.ahead n (omega arith)) new opens body (λ e. absurd (cc));
      codes = l.codes;
    }

-- one object more, with a mark
pub world_marked : (c : Roster) (w : World) (marks : ℕ → Mark) → WorldLaw c w marks → (o : Object) (m : Mark) → ObjectIn (length w.codes) w.heap (length w.heap) o → ObjectOpen marks o → BodyLaw c m o → (m ≡ Keywords → are_keywords (Some o) ≡ true) → WorldLaw c (world_with w (w.heap ++ o ∷ [])) (marked marks (length w.heap) m)
world_marked c w marks l o m new opens body keywords =
    let more : ℕ → Mark = marked marks (length w.heap) m in
    let g : Grows (view w.heap marks) (view (w.heap ++ o ∷ []) more) = grows_marked w.heap marks o m in
    record {
      sound = grown_sound w (w.heap ++ o ∷ []) marks more l.sound g (end_sound (length w.codes) w.heap o l.sound.heap new);
      law = law_by c (length w.codes) w.heap marks more o m l.sound.heap l.law (below_marked marks (length w.heap) m) (marked_same marks (length w.heap) m) (ahead_marked marks (length w.heap) m l.law.ahead) new opens body keywords;
      codes = l.codes;
    }

-- one object in place of another
pub world_set : (c : Roster) (w : World) (marks : ℕ → Mark) → WorldLaw c w marks → (i : ℕ) (o : Object) → i < length w.heap → length native_classes ≤ i → IsLike w.heap i o → ObjectIn (length w.codes) w.heap i o → ObjectOpen marks o → BodyLaw c (marks i) o → (marks i ≡ Keywords → are_keywords (Some o) ≡ true) → WorldLaw c (world_with w (slice_set w.heap i o)) marks
world_set c w marks l i o there behind e new opens body keywords =
    let g : Grows (view w.heap marks) (view (slice_set w.heap i o) marks) = grows_set w.heap marks i o e in
    record {
      sound = grown_sound w (slice_set w.heap i o) marks marks l.sound g (set_sound (length w.codes) w.heap i o l.sound.heap behind e new);
      law = law_set c w.heap marks i o l.law there e.nature opens body keywords;
      codes = l.codes;
    }

-- the names of another module
pub world_module : (c : Roster) (w : World) (marks : ℕ → Mark) → WorldLaw c w marks → (m : ℕ) → IsA w.heap m SpaceSort → WorldLaw c (record w { «module» = m }) marks
world_module c w marks l m a =
    record {
      sound = record { heap = l.sound.heap; first = l.sound.first; builtins = l.sound.builtins; names = a };
      law = l.law;
      codes = l.codes;
    }

-- what an operation leaves
pub world_left : (c : Roster) (w : World) (marks : ℕ → Mark) (x : Answer) → WorldLaw c w marks → Leaves c w marks x → WorldLaw c (after w x) marks
world_left c w marks x l p = record { sound = p.sound; law = p.law; codes = l.codes }

-- ---- generators

-- no generator has begun by it
abbrev pub IsIdle : Object → Type 0
IsIdle (object.Generator code gen.Fresh given cells) = Unit {0}
IsIdle (object.Generator code state given cells) = ⊥
IsIdle other = Unit {0}

idle_fresh : (code : ℕ) (state : GenState) (given cells : List Value) → IsIdle (object.Generator code state given cells) → state ≡ gen.Fresh
idle_fresh code gen.Fresh given cells p = refl
idle_fresh code state given cells p = absurd p

pub keeps_refl : (h : List Object) → KeepsGenerators h h
keeps_refl h = λ n code state given cells e. inl e

pub keeps_end : (h : List Object) (o : Object) → IsIdle o → KeepsGenerators h (h ++ o ∷ [])
keeps_end h o idle =
    λ n code state given cells e.
    elim (end_cases h o n (object.Generator code state given cells) e) [
      | inl p ↦ inr (idle_fresh code state given cells (subst IsIdle (sym p.1) idle))
      | inr q ↦ inl q
    ]

pub keeps_set : (h : List Object) (i : ℕ) (o : Object) → IsIdle o → KeepsGenerators h (slice_set h i o)
keeps_set h i o idle =
    λ n code state given cells e.
    elim (set_cases h i o n (object.Generator code state given cells) e) [
      | inl p ↦ inr (idle_fresh code state given cells (subst IsIdle (sym p.1) idle))
      | inr q ↦ inl q
    ]

-- a generator's state is another
pub record StateSet (c : Roster) (w : World) (marks : ℕ → Mark) (h : List Object) : Type 0 where
  pub law : WorldLaw c (world_with w h) marks
  pub grows : Grows (view w.heap marks) (view h marks)

state_by : (c : Roster) (w : World) (marks : ℕ → Mark) → WorldLaw c w marks → (g : ℕ) (state : GenState) (o : Option Object) → slice_get w.heap g ≡ o → StateSet c w marks (state_set w.heap g state o)
state_by c w marks l g state (Some (object.Generator code old given cells)) e =
    let x : Object = object.Generator code state given cells in
    let y : Object = object.Generator code old given cells in
    let there : g < length w.heap = slice_get_within w.heap g y e in
    let a : IsA w.heap g GeneratorSort = record { there = there; sort = ap sort_of e } in
    let behind : length native_classes ≤ g = no_native (length w.codes) w.heap l.sound.heap g GeneratorSort a (λ f. absurd (cc)) in
    let n : IsLike w.heap g x = record { nature = sym (ap nature_of e); kind = λ n. sym (ap (object_kind n) e) } in
    record {
      law = world_set c w marks l g x there behind n (l.sound.heap.objects g y e) (l.law.opens g y e) (l.law.bodies g y e) (open_keywords marks g x (plain_open c (view w.heap marks) l.law g GeneratorSort tt a));
      grows = grows_set w.heap marks g x n;
    }
state_by c w marks l g state other e = record { law = l; grows = grows_refl (view w.heap marks) }

pub state_law : (c : Roster) (w : World) (marks : ℕ → Mark) → WorldLaw c w marks → (g : ℕ) (state : GenState) → StateSet c w marks (state_set w.heap g state (slice_get w.heap g))
state_law c w marks l g state = state_by c w marks l g state (slice_get w.heap g) refl
