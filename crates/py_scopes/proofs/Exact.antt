-- A pass that looks for the first place at fault finds it exactly where there is one.
use Rattle.std.proofs.Common.{◌≡◌, ℕ, Bool, true, false, cond, List, [], ◌∷◌, ◌++◌, Option, Some, None, ◌⊎◌, inl, inr, refl, ap, ◌∙◌, sym, append_assoc, append-nil}
use Rattle.py_scopes.specs.declared.survey.Site.{Site}
use Rattle.py_scopes.specs.Passes.{first_at_fault}

pub record AtFault (test : List Site → Site → Bool) (front sites : List Site) (line : ℕ) : Type 0 where
  pub before : List Site
  pub site : Site
  pub after : List Site
  pub cut : sites ≡ before ++ site ∷ after
  pub here : test (front ++ before) site ≡ true
  pub there : site.line ≡ line
  pub first : (b : List Site) (s : Site) (a : List Site) → sites ≡ b ++ s ∷ a → test (front ++ b) s ≡ true → (more : List Site) × (b ≡ before ++ more)

chosen : {A : Type 0} (b : Bool) (u v w : A) → cond b u v ≡ w → ((b ≡ true) × (u ≡ w)) ⊎ ((b ≡ false) × (v ≡ w))
chosen true u v w h = inl (refl, h)
chosen false u v w h = inr (refl, h)

some_inj : {A : Type 0} (x y : A) → Some x ≡ Some y → x ≡ y
some_inj x y h = cc h

none_some : (n : ℕ) → ◌≡◌ {A = Option ℕ} None (Some n) → ⊥
none_some n h = cc h

some_none : (n : ℕ) → ◌≡◌ {A = Option ℕ} (Some n) None → ⊥
some_none n h = cc h

nil_cons : (x : Site) (xs : List Site) → ◌≡◌ {A = List Site} [] (x ∷ xs) → ⊥
nil_cons x xs h = cc h

head_eq : (x y : Site) (xs ys : List Site) → x ∷ xs ≡ y ∷ ys → x ≡ y
head_eq x y xs ys h = cc h

tail_eq : (x y : Site) (xs ys : List Site) → x ∷ xs ≡ y ∷ ys → xs ≡ ys
tail_eq x y xs ys h = cc h

pub true_false : (b : Bool) → b ≡ true → b ≡ false → ⊥
true_false b h j = cc (h, j)

-- what stands behind one more place
moved : (test : List Site → Site → Bool) (front : List Site) (x y : Site) (b : List Site) (s : Site) → x ≡ y → test (front ++ y ∷ b) s ≡ test ((front ++ x ∷ []) ++ b) s
moved test front x y b s e = ap (λ z. test (front ++ z ∷ b) s) (sym e) ∙ ap (λ z. test z s) (sym (append_assoc front (x ∷ []) b))

later_first : (test : List Site → Site → Bool) (front : List Site) (x : Site) (xs : List Site) (line : ℕ) → test front x ≡ false → (f : AtFault test (front ++ x ∷ []) xs line)
    → (b : List Site) (s : Site) (a : List Site) → x ∷ xs ≡ b ++ s ∷ a → test (front ++ b) s ≡ true → (more : List Site) × (b ≡ (x ∷ f.before) ++ more)
later_first test front x xs line miss f [] s a cut h =
    absurd (true_false (test front x) (ap (test front) (head_eq x s xs a cut) ∙ ap (λ z. test z s) (sym (append-nil front)) ∙ h) miss)
later_first test front x xs line miss f (y ∷ b) s a cut h =
    let e = head_eq x y xs (b ++ s ∷ a) cut in
    let r = f.first b s a (tail_eq x y xs (b ++ s ∷ a) cut) (sym (moved test front x y b s e) ∙ h) in
    (r.0, ap (λ z. z ∷ b) (sym e) ∙ ap (λ z. x ∷ z) r.1)

later : (test : List Site → Site → Bool) (front : List Site) (x : Site) (xs : List Site) (line : ℕ) → test front x ≡ false → AtFault test (front ++ x ∷ []) xs line → AtFault test front (x ∷ xs) line
later test front x xs line miss f = record {
  before = x ∷ f.before;
  site = f.site;
  after = f.after;
  cut = ap (λ s. x ∷ s) f.cut;
  here = ap (λ s. test s f.site) (sym (append_assoc front (x ∷ []) f.before)) ∙ f.here;
  there = f.there;
  first = later_first test front x xs line miss f;
}

now_here : (test : List Site → Site → Bool) (front : List Site) (x : Site) (xs : List Site) (line : ℕ) → test front x ≡ true → x.line ≡ line → AtFault test front (x ∷ xs) line
now_here test front x xs line h l = record {
  before = [];
  site = x;
  after = xs;
  cut = refl;
  here = ap (λ s. test s x) (append-nil front) ∙ h;
  there = l;
  first = λ b s a cut h. (b, refl);
}

pub found : (test : List Site → Site → Bool) (front sites : List Site) (line : ℕ) → first_at_fault test front sites ≡ Some line → AtFault test front sites line
found test front [] line h = absurd (none_some line h)
found test front (x ∷ xs) line h = elim (chosen (test front x) _ _ _ h) [
  | inl a ↦ now_here test front x xs line a.0 (some_inj _ _ a.1)
  | inr b ↦ later test front x xs line b.0 (found test (front ++ x ∷ []) xs line b.1)
]

pub none : (test : List Site → Site → Bool) (front sites before : List Site) (site : Site) (after : List Site) → first_at_fault test front sites ≡ None → sites ≡ before ++ site ∷ after → test (front ++ before) site ≡ false
none test front [] [] site after h cut = absurd (nil_cons site after cut)
none test front [] (y ∷ before) site after h cut = absurd (nil_cons y (before ++ site ∷ after) cut)
none test front (x ∷ xs) [] site after h cut = elim (chosen (test front x) _ _ _ h) [
  | inl a ↦ absurd (some_none _ a.1)
  | inr b ↦ ap (λ s. test s site) (append-nil front) ∙ ap (test front) (sym (head_eq x site xs after cut)) ∙ b.0
]
none test front (x ∷ xs) (y ∷ before) site after h cut = elim (chosen (test front x) _ _ _ h) [
  | inl a ↦ absurd (some_none _ a.1)
  | inr b ↦ moved test front x y before site (head_eq x y xs (before ++ site ∷ after) cut) ∙ none test (front ++ x ∷ []) xs before site after b.1 (tail_eq x y xs (before ++ site ∷ after) cut)
]
