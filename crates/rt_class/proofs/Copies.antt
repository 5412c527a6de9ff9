-- Names that are copied one after another.
use Rattle.std.proofs.Common.{◌≡◌, ℕ, zero, suc, ◌+◌, ◌<◌, ◌≤◌, List, [], ◌∷◌, ◌++◌, Bool, true, false, Option, Some, None, length, take, get_or, refl, sym, ap, ◌∙◌, arith, add-one}
use Rattle.std.specs.Prelude.{if◌then◌else◌, nat_lt, slice_get}
use Rattle.std.proofs.lemmas.Bool.Decides.{nat_tests}
use Rattle.std.proofs.lemmas.List.{take_more}
use Rattle.std.proofs.lemmas.Option.{slice_get_read}
use Rattle.std.proofs.lemmas.Slice.Eq.{bytes_eq-Decides}
use Rattle.std.specs.Str.{bytes_eq}
use Rattle.nu_value.specs.declared.value.Value.{Value}
use Rattle.nu_value.specs.Names.{NameList, AreDistinct, place_of, with_name}
use Rattle.nu_value.proofs.Distinct.{place_is}

-- before its place a name doesn't stand
before : (ps : NameList) (name : List ℕ) (i : ℕ) → place_of ps name ≡ i → place_of (take i ps) name ≡ length (take i ps)
before ps name zero e = refl
before [] name (suc i) e = refl
before (p ∷ ps) name (suc i) e = by (λ f. before ps name i f) (bytes_eq p.0 name) e
  where
    by : (place_of ps name ≡ i → place_of (take i ps) name ≡ length (take i ps)) → (b : Bool) → (if b then 0 else place_of ps name + 1) ≡ suc i → (if b then 0 else place_of (take i ps) name + 1) ≡ suc (length (take i ps))
    by again true f = absurd (omega (arith, f))
    by again false f = let g : place_of ps name ≡ i = omega (arith, f) in omega (arith, again g)

next_name : (ps : NameList) (i : ℕ) (name : List ℕ) (v : Value) → AreDistinct ps → i < length ps → (name, v) ≡ get_or ps i (name, v) → with_name (take i ps) name v ≡ take (i + 1) ps
next_name ps i name v d l is =
    let it : slice_get ps i ≡ Some (name, v) = slice_get_read ps (length ps) i (name, v) refl l is in
    let here : place_of ps name ≡ i = place_is ps i (name, v) name d it ((bytes_eq-Decides name name).1 refl) in
    let at : place_of (take i ps) name ≡ length (take i ps) = before ps name i here in
    let no : nat_lt (place_of (take i ps) name) (length (take i ps)) ≡ false = grind (arith, nat_tests) in
    let more : take i ps ++ get_or ps i (name, v) ∷ [] ≡ take (i + 1) ps = sym (take_more ps i (name, v) l) in
    rw no (ap (λ t. take i ps ++ t ∷ []) is ∙ more)

-- the next pair is set behind those that were copied
pub copied_pair : (ps qs rs : NameList) (i : ℕ) (p : List ℕ × Value) (name : List ℕ) (v : Value) → AreDistinct ps → i < length ps → p ≡ get_or ps i p → qs ≡ take i ps → name ≡ p.0 → v ≡ p.1 → rs ≡ with_name qs name v → rs ≡ take (i + 1) ps
copied_pair ps qs rs i p name v d l is same n w e =
    e ∙ ap (λ t. with_name t name v) same ∙ ap (λ t. with_name (take i ps) t v) n ∙ ap (λ t. with_name (take i ps) p.0 t) w ∙ next_name ps i p.0 p.1 d l is
