-- What is taken off the end of a list that was turned round, one after another.
use denote.Param.Weighed.{most, most-append}
use Rattle.std.proofs.Common.{◌≡◌, ◌≤◌, ℕ, ◌+◌, map, length, List, [], ◌∷◌, ◌++◌, reverse, refl, sym, ap, ◌∙◌, arith}
use Rattle.std.proofs.lemmas.List.{reverse-append, reverse-reverse, append-nil}
use Rattle.code_forms.specs.declared.operand.Operand.TheVariants as operand
use Rattle.node_tree.specs.Blocks as tree
use Rattle.node_tree.proofs.Direct.{append_stop}
use Rattle.carries_targets.specs.Places as targets
use Rattle.carries_definitions.proofs.Decorated.{append_again}
use Rattle.carried_codes.specs.Parts.{Several, several, Made, made}
use Rattle.carried_codes.specs.Places as places
use Rattle.reform_targets.specs.declared.place.Place.{Place}
use Rattle.reform_targets.specs.declared.unpacking.Taker.{Taker}
use Rattle.reform_targets.specs.Places.{place_of, places_of}
use Rattle.reform_targets.specs.Takers.{taker_of, taking}

reversed : {X : Type 0} (depth : X → ℕ) (xs : List X) → most depth (reverse xs) ≤ most depth xs
reversed depth [] = omega arith
reversed depth (x ∷ xs) =
    let whole : most depth (reverse (x ∷ xs)) ≡ most depth (reverse xs ++ x ∷ []) = ap (most depth) (reverse-append (x ∷ []) xs) in
    let parts = most-append depth (reverse xs) (x ∷ []) in
    let rest : most depth (reverse xs) ≤ most depth xs = reversed depth xs in
    omega (arith, whole, parts, rest)

-- a list that is turned round is no deeper
pub turned_depth : {X : Type 0} (depth : X → ℕ) (xs ys : List X) → ys ≡ reverse xs → most depth ys ≤ most depth xs
turned_depth depth xs ys e =
    let same : most depth ys ≡ most depth (reverse xs) = ap (most depth) e in
    let less = reversed depth xs in
    omega (arith, same, less)

pub none_left : (left : List Place) → length left ≡ 0 → left ≡ []
none_left [] e = refl
none_left (x ∷ left) e = absurd (some e)
  where
    some : length (x ∷ left) ≡ 0 → ⊥
    some h = omega (arith, h)

next_off : (left rest : List Place) (x : Place) → left ≡ rest ++ x ∷ [] → reverse left ≡ x ∷ reverse rest
next_off left rest x e = ap reverse e ∙ reverse-append rest (x ∷ [])

-- Items

-- those that are done, and those that are left
abbrev pub taken_from : ℕ → List Taker → List Place → Several targets.Taker
taken_from t done left = let r = places.takes t (places_of (reverse left)) in several (map taker_of done ++ r.parts) r.next

pub first_taken : (t : ℕ) (all left : List Place) (done : List Taker) → done ≡ [] → left ≡ reverse all → taken_from t done left ≡ places.takes t (places_of all)
first_taken t all left done ed el = ap (λ l. taken_from t l left) ed ∙ ap (λ l. places.takes t (places_of l)) (ap reverse el ∙ reverse-reverse all)

one_more : (done : List Taker) (k : Taker) (rest : List targets.Taker) → map taker_of (done ++ k ∷ []) ++ rest ≡ map taker_of done ++ taker_of k ∷ rest
one_more [] k rest = refl
one_more (j ∷ done) k rest = ap (λ l. taker_of j ∷ l) (one_more done k rest)

pub next_taken : (t u : ℕ) (left rest : List Place) (done more : List Taker) (x : Place) (k : Taker) → left ≡ rest ++ x ∷ [] → more ≡ done ++ k ∷ [] → taker_of k ≡ taking t (place_of x) → u ≡ (places.assign (t + 1) (operand.Temp t) (place_of x)).next → taken_from u more rest ≡ taken_from t done left
next_taken t u left rest done more x k el em ek eu =
    let v = (places.assign (t + 1) (operand.Temp t) (place_of x)).next in
    let r = places.takes v (places_of (reverse rest)) in
    ap (λ n. taken_from n more rest) eu
    ∙ ap (λ l. several l r.next) (ap (λ l. map taker_of l ++ r.parts) em ∙ one_more done k r.parts ∙ ap (λ z. map taker_of done ++ z ∷ r.parts) ek)
    ∙ sym (ap (λ l. let s = places.takes t (places_of l) in several (map taker_of done ++ s.parts) s.next) (next_off left rest x el))

pub last_taken : (t : ℕ) (left : List Place) (done : List Taker) (whole : Several targets.Taker) → left ≡ [] → taken_from t done left ≡ whole → (map taker_of done ≡ whole.parts) × (t ≡ whole.next)
last_taken t left done whole el e =
    let same : several (map taker_of done ++ []) t ≡ whole = sym (ap (taken_from t done) el) ∙ e in
    (sym (append-nil (map taker_of done)) ∙ ap (λ s. s.parts) same, ap (λ s. s.next) same)

-- Blocks of targets one after another

-- the block of those that are done, and those that are left
abbrev pub made_from : (ℕ → places.Places → Made) → ℕ → tree.Block → List Place → Made
made_from all t whole left = let n = all t (places_of (reverse left)) in made (tree.append whole n.block) n.next

pub first_made : (all : ℕ → places.Places → Made) (t : ℕ) (ps left : List Place) (whole : tree.Block) → whole ≡ tree.Stop → left ≡ reverse ps → made_from all t whole left ≡ all t (places_of ps)
first_made all t ps left whole ew el = ap (λ b. made_from all t b left) ew ∙ ap (λ l. all t (places_of l)) (ap reverse el ∙ reverse-reverse ps)

pub next_made : (one_of : ℕ → places.Place → Made) (all : ℕ → places.Places → Made) → ((t : ℕ) (p : places.Place) (ps : places.Places) → all t (places.Also p ps) ≡ made (tree.append (one_of t p).block (all (one_of t p).next ps).block) (all (one_of t p).next ps).next) → (t u : ℕ) (left rest : List Place) (x : Place) (whole one more : tree.Block) → left ≡ rest ++ x ∷ [] → one ≡ (one_of t (place_of x)).block → u ≡ (one_of t (place_of x)).next → more ≡ tree.append whole one → made_from all u more rest ≡ made_from all t whole left
next_made one_of all also t u left rest x whole one more el eo eu em =
    let m = one_of t (place_of x) in
    let n = all m.next (places_of (reverse rest)) in
    ap (λ v. made_from all v more rest) eu
    ∙ ap (λ b. made b n.next) (ap (λ b. tree.append b n.block) (em ∙ ap (tree.append whole) eo) ∙ append_again whole m.block n.block)
    ∙ sym (ap (λ r. made (tree.append whole r.block) r.next) (ap (λ l. all t (places_of l)) (next_off left rest x el) ∙ also t (place_of x) (places_of (reverse rest))))

pub last_made : (all : ℕ → places.Places → Made) → ((t : ℕ) → all t places.NoPlace ≡ made tree.Stop t) → (t : ℕ) (left : List Place) (b : tree.Block) (whole : Made) → left ≡ [] → made_from all t b left ≡ whole → (b ≡ whole.block) × (t ≡ whole.next)
last_made all none t left b whole el e =
    let same : made (tree.append b tree.Stop) t ≡ whole = sym (ap (made_from all t b) el ∙ ap (λ r. made (tree.append b r.block) r.next) (none t)) ∙ e in
    (sym (append_stop b) ∙ ap (λ m. m.block) same, ap (λ m. m.next) same)
