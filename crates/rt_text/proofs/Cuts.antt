-- Texts cut at the places of a part.
use Rattle.std.proofs.Common.{◌≡◌, ℕ, zero, suc, ◌+◌, ◌-◌, ◌<◌, ◌≤◌, Bool, true, false, cond, List, [], ◌∷◌, ◌++◌, length, take, drop, refl, sym, ap, ◌∙◌, subst, arith, append_assoc}
use Rattle.std.specs.Prelude.{Option, Some, None, MatchOption, IfSome, nat_eq, ◌==◌, encode_utf8}
use Rattle.std.specs.List.{starts_with}
use Rattle.std.specs.Str.{chars}
use Rattle.std.specs.Str.Pattern.{FindsText, LacksTextAt, SplitsAroundMatch}
use Rattle.std.specs.Cmp.Lexicographic.{bytes_decides}
use Rattle.std.proofs.lemmas.List.{append-nil, take-append-drop}
use Rattle.std.proofs.Math.Seq.{take-append_seam, drop-append_seam}
use Rattle.op_rules.specs.TextParts.{pieces_from, single_pieces, pieces}
use denote.Ref.{Bor}

-- ---- whether a text begins with a part

no_start : (b : Bool) → (b ≡ true → ⊥) → b ≡ false
no_start true h = absurd (h refl)
no_start false h = refl

pub start_of : (part text : List ℕ) → starts_with nat_eq text part ≡ true → text ≡ part ++ drop (length part) text
start_of part text e =
    sym (take-append-drop (length part) text) ∙ ap (λ l. l ++ drop (length part) text) (sym ((bytes_decides part (take (length part) text)).0 e))

begins_not : (part text : List ℕ) → LacksTextAt part text 0 → starts_with nat_eq text part ≡ false
begins_not part text lacks = no_start (starts_with nat_eq text part) (λ e. lacks (drop (length part) text) (start_of part text e))

pub starts : (part rest : List ℕ) → starts_with nat_eq (part ++ rest) part ≡ true
starts part rest = (bytes_decides part (take (length part) (part ++ rest))).1 (sym (take-append_seam part rest))

-- ---- one step

passed : (part : List ℕ) (k : ℕ) (piece text : List ℕ) → pieces_from part k piece text ≡ pieces_from part 0 piece (drop k text)
passed part zero piece text = refl
passed part (suc k) piece [] = refl
passed part (suc k) piece (b ∷ bs) = passed part k piece bs

pub at_start : (part piece rest : List ℕ) → 0 < length part → pieces_from part 0 piece (part ++ rest) ≡ piece ∷ pieces_from part 0 [] rest
at_start [] piece rest h = absurd (omega (arith, h))
at_start (p ∷ ps) piece rest h =
    let back : suc (length ps) - 1 ≡ length ps = omega arith in
    ap (λ x. cond x (piece ∷ pieces_from (p ∷ ps) (suc (length ps) - 1) [] (ps ++ rest)) (pieces_from (p ∷ ps) 0 (piece ++ p ∷ []) (ps ++ rest))) (starts (p ∷ ps) rest)
    ∙ ap (λ k. piece ∷ pieces_from (p ∷ ps) k [] (ps ++ rest)) back
    ∙ ap (λ l. piece ∷ l) (passed (p ∷ ps) (length ps) [] (ps ++ rest) ∙ ap (λ l. pieces_from (p ∷ ps) 0 [] l) (drop-append_seam ps rest))

not_here : (part piece : List ℕ) (b : ℕ) (bs : List ℕ) → LacksTextAt part (b ∷ bs) 0 → pieces_from part 0 piece (b ∷ bs) ≡ pieces_from part 0 (piece ++ b ∷ []) bs
not_here part piece b bs lacks =
    ap (λ x. cond x (piece ∷ pieces_from part (length part - 1) [] bs) (pieces_from part 0 (piece ++ b ∷ []) bs)) (begins_not part (b ∷ bs) lacks)

-- ---- the first place

no_place : (part piece text : List ℕ) → ((i : ℕ) → i ≤ length text → LacksTextAt part text i) → pieces_from part 0 piece text ≡ (piece ++ text) ∷ []
no_place part piece [] lacks = ap (λ l. l ∷ []) (sym (append-nil piece))
no_place part piece (b ∷ bs) lacks =
    not_here part piece b bs (lacks 0 (omega arith)) ∙ no_place part (piece ++ b ∷ []) bs (λ i h. lacks (suc i) (omega (arith, h))) ∙ ap (λ l. l ∷ []) (append_assoc piece (b ∷ []) bs)

no_start_of_none : (xs ys : List ℕ) → 0 < length xs → [] ≡ xs ++ ys → ⊥
no_start_of_none [] ys h e = omega (arith, h)
no_start_of_none (x ∷ xs) ys h e = cc

at_place : (part piece text : List ℕ) (i : ℕ) → 0 < length part → ((k : ℕ) → k < i → LacksTextAt part text k) → drop i text ≡ part ++ drop (i + length part) text
    → pieces_from part 0 piece text ≡ (piece ++ take i text) ∷ pieces_from part 0 [] (drop (i + length part) text)
at_place part piece text zero h lacks e =
    ap (pieces_from part 0 piece) e ∙ at_start part piece (drop (0 + length part) text) h ∙ ap (λ l. l ∷ pieces_from part 0 [] (drop (0 + length part) text)) (sym (append-nil piece))
at_place part piece [] (suc i) h lacks e = absurd (no_start_of_none part (drop (suc i + length part) []) h e)
at_place part piece (b ∷ bs) (suc i) h lacks e =
    let next : suc i + length part ≡ suc (i + length part) = omega arith in
    let shifted : drop i bs ≡ part ++ drop (i + length part) bs = subst (λ n. drop i bs ≡ part ++ drop n (b ∷ bs)) next e in
    not_here part piece b bs (lacks 0 (omega arith))
    ∙ at_place part (piece ++ b ∷ []) bs i h (λ k g. lacks (suc k) (omega (arith, g))) shifted
    ∙ ap (λ l. l ∷ pieces_from part 0 [] (drop (i + length part) bs)) (append_assoc piece (b ∷ []) (take i bs))
    ∙ ap (λ n. (piece ++ b ∷ take i bs) ∷ pieces_from part 0 [] (drop n (b ∷ bs))) (sym next)

-- what `split_once` gives
abbrev pub CutAt : List ℕ → List ℕ → Option (Bor (List ℕ) × Bor (List ℕ)) → Type 0
CutAt part text r =
    MatchOption r (pieces_from part 0 [] text ≡ text ∷ []) (λ cut. pieces_from part 0 [] text ≡ cut.0.now ∷ pieces_from part 0 [] cut.1.now)

pub cut_is : (part text : List ℕ) (r : Option (Bor (List ℕ) × Bor (List ℕ))) → 0 < length part → MatchOption r (FindsText part text None) (λ x. SplitsAroundMatch (FindsText part) text x.0.now x.1.now) → CutAt part text r
cut_is part text None h f = no_place part [] text f
cut_is part text (Some x) h f =
    let i : ℕ = f.0 in
    let j : ℕ = f.1 in
    let finds : FindsText part text (Some (i, j)) = f.2 in
    let ends : j ≡ i + length part = finds.1.ends in
    let split : drop i text ≡ part ++ drop (i + length part) text = subst (λ n. drop i text ≡ part ++ drop n text) ends finds.1.split in
    at_place part [] text i h finds.0 split
    ∙ ap (λ l. take i text ∷ pieces_from part 0 [] l) (ap (λ n. drop n text) (sym ends) ∙ sym f.4) ∙ ap (λ l. l ∷ pieces_from part 0 [] x.1.now) (sym f.3)

pub cut_shorter : (part text : List ℕ) (r : Option (Bor (List ℕ) × Bor (List ℕ))) → 0 < length part → MatchOption r (FindsText part text None) (λ x. SplitsAroundMatch (FindsText part) text x.0.now x.1.now)
    → IfSome r (λ cut. length cut.1.now < length text)
cut_shorter part text None h f = tt
cut_shorter part text (Some x) h f =
    let finds : FindsText part text (Some (f.0, f.1)) = f.2 in
    let ends : f.1 ≡ f.0 + length part = finds.1.ends in
    let sizes : length x.1.now + f.1 ≡ length text = f.7 in
    omega (arith, h, ends, sizes)

-- ---- there is always a piece

abbrev pub IsCons : List (List ℕ) → Type 0
IsCons l = (first : List ℕ) × (more : List (List ℕ)) × (l ≡ first ∷ more)

either : (x : Bool) (l m : List (List ℕ)) → IsCons l → IsCons m → IsCons (cond x l m)
either true l m p q = p
either false l m p q = q

pub cons_of : (part : List ℕ) (k : ℕ) (piece text : List ℕ) → IsCons (pieces_from part k piece text)
cons_of part zero piece [] = (piece, [], refl)
cons_of part (suc k) piece [] = (piece, [], refl)
cons_of part (suc k) piece (b ∷ bs) = cons_of part k piece bs
cons_of part zero piece (b ∷ bs) =
    either (starts_with nat_eq (b ∷ bs) part) (piece ∷ pieces_from part (length part - 1) [] bs) (pieces_from part 0 (piece ++ b ∷ []) bs)
    (piece, pieces_from part (length part - 1) [] bs, refl) (cons_of part zero (piece ++ b ∷ []) bs)

pub single_cons : (cs : List ℕ) → (second : List ℕ) × (more : List (List ℕ)) × (single_pieces cs ≡ [] ∷ second ∷ more)
single_cons [] = ([], [], refl)
single_cons (c ∷ cs) = (encode_utf8 c, _, refl)

pub pieces_empty : (part text : List ℕ) → (length part == 0) ≡ true → pieces part text ≡ single_pieces (chars text)
pieces_empty part text e = ap (λ x. cond x (single_pieces (chars text)) (pieces_from part 0 [] text)) e

pub pieces_other : (part text : List ℕ) → (length part == 0) ≡ false → pieces part text ≡ pieces_from part 0 [] text
pieces_other part text e = ap (λ x. cond x (single_pieces (chars text)) (pieces_from part 0 [] text)) e
