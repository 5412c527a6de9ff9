-- Targets with a star among them, one after another.
use Rattle.std.proofs.Common.{◌≡◌, ℕ, Vec, Global, map, Bool, true, false, Option, Some, None, List, [], ◌∷◌, ◌++◌, refl, sym, ap, ◌∙◌}
use Rattle.std.specs.Prelude.{is_some}
use Rattle.std.specs.declared.boxed.Box.{Box}
use Rattle.carried_codes.specs.Places as places
use Rattle.reform_targets.specs.declared.place.Place.{Place, Each, Starred}
use Rattle.reform_targets.proofs.Rows.{place_each, place_starred}
use Rattle.reform_targets.specs.Places.{place_of, places_of}
use Rattle.walk_laws.specs.Expressions as spec
use Rattle.reform_walk.specs.declared.parts.Aim.{Aim}
use Rattle.reform_walk.specs.Made.{aim_of}

abbrev pub then : places.Places → places.Places → places.Places
then places.NoPlace qs = qs
then (places.Also p ps) qs = places.Also p (then ps qs)

pub then_none : (ps : places.Places) → then ps places.NoPlace ≡ ps
then_none places.NoPlace = refl
then_none (places.Also p ps) = ap (places.Also p) (then_none ps)

then_more : (ps : List Place) (p : Place) (qs : places.Places) → then (places_of (ps ++ p ∷ [])) qs ≡ then (places_of ps) (places.Also (place_of p) qs)
then_more [] p qs = refl
then_more (x ∷ ps) p qs = ap (places.Also (place_of x)) (then_more ps p qs)

-- what comes of those that are left, where no star was seen, and behind one
abbrev pub unstarred : ℕ → List Place → List spec.Aim → places.Place
unstarred line before xs = spec.from_star line (then (places_of before) (spec.before_star xs)) xs

abbrev pub starred : ℕ → List Place → places.Place → List Place → List spec.Aim → places.Place
starred line before star behind xs = places.Starred line (places_of before) star (then (places_of behind) (spec.all_of xs))

pub before_more : (line : ℕ) (before : List Place) (p : Place) (xs : List spec.Aim) → unstarred line before (spec.aim false (place_of p) ∷ xs) ≡ unstarred line (before ++ p ∷ []) xs
before_more line before p xs = ap (λ ps. spec.from_star line ps xs) (sym (then_more before p (spec.before_star xs)))

pub star_next : (line : ℕ) (before : List Place) (p : Place) (xs : List spec.Aim) → unstarred line before (spec.aim true (place_of p) ∷ xs) ≡ starred line before (place_of p) [] xs
star_next line before p xs = ap (λ ps. places.Starred line ps (place_of p) (spec.all_of xs)) (then_none (places_of before))

pub behind_more : (line : ℕ) (before : List Place) (star : places.Place) (behind : List Place) (p : Place) (b : Bool) (xs : List spec.Aim) → starred line before star behind (spec.aim b (place_of p) ∷ xs) ≡ starred line before star (behind ++ p ∷ []) xs
behind_more line before star behind p b xs = ap (places.Starred line (places_of before) star) (sym (then_more behind p (spec.all_of xs)))

abbrev pub from : ℕ → List Place → Option (Box Place Global) → List Place → List spec.Aim → places.Place
from line before None behind xs = unstarred line before xs
from line before (Some star) behind xs = starred line before (place_of star.value) behind xs

one_more : (ys : List Aim) (a : Aim) (xs : List spec.Aim) → map aim_of (ys ++ a ∷ []) ++ xs ≡ map aim_of ys ++ aim_of a ∷ xs
one_more [] a xs = refl
one_more (y ∷ ys) a xs = ap (λ l. aim_of y ∷ l) (one_more ys a xs)

pub next_aim : (line : ℕ) (ys : List Aim) (a : Aim) (xs : List spec.Aim) → spec.assembled line (map aim_of (ys ++ a ∷ []) ++ xs) ≡ spec.assembled line (map aim_of ys ++ aim_of a ∷ xs)
next_aim line ys a xs = ap (spec.assembled line) (one_more ys a xs)

is_true : false ≡ true → ⊥
is_true e = cc

pub none_now : (star : Option (Box Place Global)) (ps : List Place) → is_some star ≡ true → star ≡ None → ps ≡ []
none_now None ps s e = absurd (is_true s)
none_now (Some x) ps s e = absurd (some e)
  where
    some : Some x ≡ None → ⊥
    some h = is_true (sym (ap is_some h))

pub behind_next : (line : ℕ) (before behind more : List Place) (star : Option (Box Place Global)) (a : Aim) (xs : List spec.Aim) → is_some star ≡ true → more ≡ behind ++ a.place ∷ [] → from line before star behind (aim_of a ∷ xs) ≡ from line before star more xs
behind_next line before behind more None a xs s e = absurd (is_true s)
behind_next line before behind more (Some x) a xs s e = behind_more line before (place_of x.value) behind a.place a.starred xs ∙ ap (λ m. starred line before (place_of x.value) m xs) (sym e)

pub star_now : (line : ℕ) (before behind : List Place) (star : Option (Box Place Global)) (new : Box Place Global) (a : Aim) (xs : List spec.Aim) → is_some star ≡ false → a.starred ≡ true → new.value ≡ a.place → (star ≡ None → behind ≡ []) → from line before star behind (aim_of a ∷ xs) ≡ starred line before (place_of new.value) behind xs
star_now line before behind (Some x) new a xs s t v n = absurd (is_true (sym s))
star_now line before behind None new a xs s t v n =
    ap (λ b. unstarred line before (spec.aim b (place_of a.place) ∷ xs)) t ∙ star_next line before a.place xs
    ∙ ap (λ p. starred line before (place_of p) [] xs) (sym v) ∙ ap (λ m. starred line before (place_of new.value) m xs) (sym (n refl))

pub before_next : (line : ℕ) (before behind more : List Place) (star : Option (Box Place Global)) (a : Aim) (xs : List spec.Aim) → is_some star ≡ false → a.starred ≡ false → more ≡ before ++ a.place ∷ [] → from line before star behind (aim_of a ∷ xs) ≡ from line more star behind xs
before_next line before behind more (Some x) a xs s t e = absurd (is_true (sym s))
before_next line before behind more None a xs s t e =
    ap (λ b. unstarred line before (spec.aim b (place_of a.place) ∷ xs)) t ∙ before_more line before a.place xs ∙ ap (λ m. unstarred line m xs) (sym e)

nothing_else : (xs : List spec.Aim) → xs ++ [] ≡ xs
nothing_else [] = refl
nothing_else (x ∷ xs) = ap (λ l. x ∷ l) (nothing_else xs)

-- all of them
whole : (line : ℕ) (ys all : List Aim) (before behind : List Place) (star : Option (Box Place Global)) → ys ≡ all → spec.assembled line (map aim_of ys ++ []) ≡ from line before star behind [] → spec.assembled line (map aim_of all) ≡ from line before star behind []
whole line ys all before behind star e i = sym (ap (λ l. spec.assembled line (map aim_of l)) e) ∙ sym (ap (spec.assembled line) (nothing_else (map aim_of ys))) ∙ i

pub last_each : (line : ℕ) (ys all : List Aim) (before : Vec Place Global) (behind : List Place) (star : Option (Box Place Global)) → ys ≡ all → star ≡ None → spec.assembled line (map aim_of ys ++ []) ≡ from line before.items star behind [] → place_of (Each line before) ≡ spec.assembled line (map aim_of all)
last_each line ys all before behind star e s i =
    place_each line before ∙ ap (places.Each line) (sym (then_none (places_of before.items)))
    ∙ sym (whole line ys all before.items behind star e i ∙ ap (λ m. from line before.items m behind []) s)

pub last_starred : (line : ℕ) (ys all : List Aim) (before behind : Vec Place Global) (star : Option (Box Place Global)) (x : Box Place Global) → ys ≡ all → star ≡ Some x → spec.assembled line (map aim_of ys ++ []) ≡ from line before.items star behind.items [] → place_of (Starred line before x behind) ≡ spec.assembled line (map aim_of all)
last_starred line ys all before behind star x e s i =
    place_starred line before x behind ∙ ap (places.Starred line (places_of before.items) (place_of x.value)) (sym (then_none (places_of behind.items)))
    ∙ sym (whole line ys all before.items behind.items star e i ∙ ap (λ m. from line before.items m behind.items []) s)

pub same_aims : (ys : List Aim) → map (λ y. y) ys ≡ ys
same_aims [] = refl
same_aims (y ∷ ys) = ap (λ l. y ∷ l) (same_aims ys)
