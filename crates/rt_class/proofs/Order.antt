-- In a sound heap the way from a class outward ends, so that classes are ordered.
use Rattle.std.proofs.Common.{◌≡◌, ℕ, zero, suc, ◌<◌, ◌≤◌, List, [], ◌∷◌, Option, Some, None, Bool, true, false, refl, sym, ap, subst, ◌∙◌, inl, inr, arith, length}
use Rattle.std.specs.Prelude.{◌⊎◌, ◌||◌, ◌&&◌, nat_eq, nat_lt, slice_get}
use Rattle.std.specs.List.{list_all}
use Rattle.std.proofs.lemmas.Bool.{cases_lt}
use Rattle.std.proofs.lemmas.Bool.Decides.{Decides-eqb, nat_tests}
use Rattle.std.proofs.lemmas.Option.{slice_get_within, slice_get_past}
use Rattle.nu_value.specs.declared.object.Object.{Object}
use Rattle.nu_value.specs.declared.object.Object.TheVariants as object
use Rattle.nu_value.specs.Classes.{base_of, outward, classes_from, is_among, is_under}
use Rattle.nu_value.specs.Natives.{native_classes}
use Rattle.op_forms.specs.Sound.{SoundHeap}
use Rattle.rt_class.specs.Laws.{ClassesAreOrdered}

-- whether the way ends within so many classes
abbrev is_ended : ℕ → List Object → Option ℕ → Bool
is_ended zero h None = true
is_ended zero h (Some c) = false
is_ended (suc room) h None = true
is_ended (suc room) h (Some c) = is_ended room h (base_of (slice_get h c))

none_ended : (room : ℕ) (h : List Object) → is_ended room h None ≡ true
none_ended zero h = refl
none_ended (suc room) h = refl

longer : (m n : ℕ) (h : List Object) (c : Option ℕ) → m ≤ n → is_ended m h c ≡ true → is_ended n h c ≡ true
longer m n h None l p = none_ended n h
longer zero n h (Some c) l p = absurd (cc)
longer (suc m) zero h (Some c) l p = absurd (omega (arith, l))
longer (suc m) (suc n) h (Some c) l p = longer m n h (base_of (slice_get h c)) (omega (arith, l)) p

-- within any such number it is the same
same : (m n : ℕ) (h : List Object) (c : Option ℕ) → is_ended m h c ≡ true → is_ended n h c ≡ true → outward m h c ≡ outward n h c
same zero zero h None p q = refl
same zero (suc n) h None p q = refl
same (suc m) zero h None p q = refl
same (suc m) (suc n) h None p q = refl
same zero n h (Some c) p q = absurd (cc)
same (suc m) zero h (Some c) p q = absurd (cc)
same (suc m) (suc n) h (Some c) p q = ap (λ t. c ∷ t) (same m n h (base_of (slice_get h c)) p q)

-- ---- the classes that no script makes

and_left : (a b : Bool) → (a && b) ≡ true → a ≡ true
and_left true b e = refl
and_left false b e = absurd (cc)

and_right : (a b : Bool) → (a && b) ≡ true → b ≡ true
and_right true b e = e
and_right false b e = absurd (cc)

each : (f : Option ℕ → Bool) → f None ≡ true → (os : List Object) → list_all (λ o. f (base_of (Some o))) os ≡ true → (n : ℕ) → f (base_of (slice_get os n)) ≡ true
each f none [] p n = none
each f none (o ∷ os) p zero = and_left (f (base_of (Some o))) _ p
each f none (o ∷ os) p (suc n) = each f none os (and_right (f (base_of (Some o))) _ p) n

abbrev is_small : Option ℕ → Bool
is_small None = true
is_small (Some n) = nat_lt n 37

small_base : (n : ℕ) → is_small (base_of (slice_get native_classes n)) ≡ true
small_base n = each is_small refl native_classes refl n

ended_base : (n : ℕ) → is_ended 4 native_classes (base_of (slice_get native_classes n)) ≡ true
ended_base n = each (is_ended 4 native_classes) refl native_classes refl n

module _ (codes : ℕ) (h : List Object) (s : SoundHeap codes h) where
  native : (n : ℕ) → n < 37 → slice_get h n ≡ slice_get native_classes n
  native n l = s.natives n l

  among_natives : (room : ℕ) (c : Option ℕ) → is_small c ≡ true → is_ended room native_classes c ≡ true → is_ended room h c ≡ true
  among_natives room None t p = none_ended room h
  among_natives zero (Some n) t p = absurd (cc)
  among_natives (suc room) (Some n) t p =
      let e : slice_get h n ≡ slice_get native_classes n = native n (grind (arith, nat_tests)) in
      rw e (among_natives room (base_of (slice_get native_classes n)) (small_base n) p)

  native_ended : (n : ℕ) → n < 37 → is_ended 5 h (Some n) ≡ true
  native_ended n l = among_natives 5 (Some n) (grind (arith, nat_tests)) (ended_base n)

  -- ---- the others

  lower : (n b : ℕ) (o : Option Object) → slice_get h n ≡ o → base_of o ≡ Some b → 37 ≤ n → b < n
  lower n b None e f l = absurd (cc)
  lower n b (Some (object.Class name (Some base) own native)) e f l =
      let at : base < n = (s.objects n (object.Class name (Some base) own native) e).1.0.1 l in
      let is : base ≡ b = cc in
      subst (λ k. k < n) is at
  lower n b (Some (object.Class name None own native)) e f l = absurd (cc)
  lower n b (Some o) e f l = absurd (cc)

  made_ended : (fuel n : ℕ) → n < fuel → 37 ≤ n → is_ended (suc n) h (Some n) ≡ true
  made_ended zero n l g = absurd (omega (arith, l))
  made_ended (suc fuel) n l g = by (λ b k m. made_ended fuel b k m) (base_of (slice_get h n)) refl
    where
      by : ((b : ℕ) → b < fuel → 37 ≤ b → is_ended (suc b) h (Some b) ≡ true) → (c : Option ℕ) → base_of (slice_get h n) ≡ c → is_ended n h c ≡ true
      by again None e = none_ended n h
      by again (Some b) e =
          let less : b < n = lower n b (slice_get h n) refl e g in
          elim (cases_lt b 37) [
            | inl k ↦ longer 5 n h (Some b) (omega (arith, g)) (native_ended b k)
            | inr k ↦ longer (suc b) n h (Some b) (omega (arith, less)) (again b (omega (arith, less, l)) k)
          ]

  enough : 37 ≤ length h
  enough = omega (arith, slice_get_within h 36 _ (native 36 (omega arith)))

  past : (room n : ℕ) → slice_get h n ≡ None → is_ended (suc room) h (Some n) ≡ true
  past room n e = rw e (none_ended room h)

  pub ended : (n : ℕ) → is_ended (length h) h (Some n) ≡ true
  ended n =
      elim (cases_lt n 37) [
        | inl k ↦ longer 5 (length h) h (Some n) (omega (arith, enough)) (native_ended n k)
        | inr k ↦ elim (cases_lt n (length h)) [
          | inl l ↦ longer (suc n) (length h) h (Some n) l (made_ended (suc n) n (omega arith) k)
          | inr l ↦ longer 5 (length h) h (Some n) (omega (arith, enough)) (past 4 n (slice_get_past h n l))
        ]
      ]

  -- ---- the order

  step : (c b d : ℕ) → base_of (slice_get h c) ≡ Some b → is_under h (Some c) d ≡ (nat_eq c d || is_under h (Some b) d)
  step c b d e =
      let back : outward (length h) h (Some b) ≡ outward (suc (length h)) h (Some b) = same (length h) (suc (length h)) h (Some b) (ended b) (longer (length h) (suc (length h)) h (Some b) (omega arith) (ended b)) in
      rw e (ap (λ t. nat_eq c d || is_among t d) back)

  or_either : (a b : Bool) → (a || b) ≡ true → (a ≡ true) ⊎ (b ≡ true)
  or_either true b e = inl refl
  or_either false b e = inr e

  or_right : (a b : Bool) → b ≡ true → (a || b) ≡ true
  or_right true b e = refl
  or_right false b e = e

  here : (b d n room : ℕ) → is_under h (Some b) d ≡ true → n ≡ b → is_ended (suc room) h (Some n) ≡ true → is_among (outward (suc room) h (Some n)) d ≡ true
  here b d n room u e p =
      let own : is_among (outward (suc (length h)) h (Some n)) d ≡ true = subst (λ k. is_under h (Some k) d ≡ true) (sym e) u in
      let way : outward (suc (length h)) h (Some n) ≡ outward (suc room) h (Some n) = same (suc (length h)) (suc room) h (Some n) (longer (length h) (suc (length h)) h (Some n) (omega arith) (ended n)) p in
      subst (λ t. is_among t d ≡ true) way own

  through : (b d : ℕ) → is_under h (Some b) d ≡ true → (room : ℕ) (c : Option ℕ) → is_ended room h c ≡ true → is_among (outward room h c) b ≡ true → is_among (outward room h c) d ≡ true
  through b d u zero c p q = absurd (cc)
  through b d u (suc room) None p q = absurd (cc)
  through b d u (suc room) (Some n) p q =
      elim (or_either (nat_eq n b) (is_among (outward room h (base_of (slice_get h n))) b) q) [
        | inl e ↦ here b d n room u ((Decides-eqb n b).0 e) p
        | inr e ↦ or_right (nat_eq n d) _ (through b d u room (base_of (slice_get h n)) p e)
      ]

  transitive : (a b d : ℕ) → is_under h (Some a) b ≡ true → is_under h (Some b) d ≡ true → is_under h (Some a) d ≡ true
  transitive a b d p q = through b d q (suc (length h)) (Some a) (longer (length h) (suc (length h)) h (Some a) (omega arith) (ended a)) p

reflexive : (h : List Object) (c : ℕ) → is_under h (Some c) c ≡ true
reflexive h c = ap (λ t. t || is_among (outward (length h) h (base_of (slice_get h c))) c) ((Decides-eqb c c).1 refl)

pub ordered : ClassesAreOrdered
ordered =
    record {
      reflexive = λ codes h c s. reflexive h c;
      step = λ codes h c b d s e. step codes h s c b d e;
      transitive = λ codes h a b d s p q. transitive codes h s a b d p q;
    }
