-- The pieces of a text, joined again, and its first place of a part.
use Rattle.std.proofs.Common.{◌≡◌, ℕ, zero, suc, ◌-◌, ◌<◌, ◌≤◌, Bool, true, false, cond, List, [], ◌∷◌, ◌++◌, length, drop, true≢false, refl, sym, ap, ◌∙◌, arith, append_assoc, map}
use Rattle.std.specs.Prelude.{pos, negsuc, ◌≢◌, nat_eq, ◌==◌, encode_utf8, encode_utf8_all, IsUtf8}
use Rattle.std.specs.List.{starts_with, flat_map}
use Rattle.std.specs.Str.{chars}
use Rattle.std.proofs.lemmas.Bool.Decides.{nat_tests}
use Rattle.std.proofs.lemmas.List.{append-nil}
use Rattle.std.proofs.lemmas.Str.{encodes-chars}
use Rattle.nu_text.specs.Characters.{characters}
use Rattle.op_rules.specs.TextMethods.{found_at, replaced}
use Rattle.op_rules.specs.TextParts.{pieces_from, pieces, text_values, text_in, joined}
use Rattle.rt_text.specs.Laws.{IsFirstPlace}
use Rattle.rt_text.proofs.Cuts.{IsCons, cons_of, start_of, starts, at_start, pieces_other}

-- a text in front of others, joined
joined_cons : (part first : List ℕ) (more : List (List ℕ)) → IsCons more → joined part (text_values (first ∷ more)) ≡ first ++ (part ++ joined part (text_values more))
joined_cons part first more p =
    ap (λ l. joined part (text_values (first ∷ l))) p.2 ∙ ap (λ l. first ++ l) (append_assoc part p.0 (flat_map (λ v. part ++ text_in v) (text_values p.1)))
    ∙ ap (λ l. first ++ (part ++ joined part (text_values l))) (sym p.2)

behind : (part : List ℕ) (b : ℕ) (bs : List ℕ) → 0 < length part → drop (length part - 1) bs ≡ drop (length part) (b ∷ bs)
behind [] b bs h = absurd (omega (arith, h))
behind (p ∷ ps) b bs h = let back : suc (length ps) - 1 ≡ length ps = omega arith in ap (λ n. drop n bs) back

joins_step : (part piece : List ℕ) (b : ℕ) (bs : List ℕ) → 0 < length part → (x : Bool) → starts_with nat_eq (b ∷ bs) part ≡ x
    → joined part (text_values (pieces_from part (length part - 1) [] bs)) ≡ drop (length part - 1) bs
    → joined part (text_values (pieces_from part 0 (piece ++ b ∷ []) bs)) ≡ (piece ++ b ∷ []) ++ bs
    → joined part (text_values (cond x (piece ∷ pieces_from part (length part - 1) [] bs) (pieces_from part 0 (piece ++ b ∷ []) bs))) ≡ piece ++ b ∷ bs
joins_step part piece b bs h true e there more =
    joined_cons part piece (pieces_from part (length part - 1) [] bs) (cons_of part (length part - 1) [] bs)
    ∙ ap (λ l. piece ++ (part ++ l)) (there ∙ behind part b bs h)
    ∙ ap (λ l. piece ++ l) (sym (start_of part (b ∷ bs) e))
joins_step part piece b bs h false e there more = more ∙ append_assoc piece (b ∷ []) bs

joins_from : (part : List ℕ) (k : ℕ) (piece text : List ℕ) → 0 < length part → joined part (text_values (pieces_from part k piece text)) ≡ piece ++ drop k text
joins_from part zero piece [] h = refl
joins_from part (suc k) piece [] h = refl
joins_from part (suc k) piece (b ∷ bs) h = joins_from part k piece bs h
joins_from part zero piece (b ∷ bs) h =
    joins_step part piece b bs h (starts_with nat_eq (b ∷ bs) part) refl (joins_from part (length part - 1) [] bs h) (joins_from part zero (piece ++ b ∷ []) bs h)

filled : (part : List ℕ) → 0 < length part → (length part == 0) ≡ false
filled part h = grind (arith, nat_tests)

pub joins_again : (part text : List ℕ) → 0 < length part → joined part (text_values (pieces part text)) ≡ text
joins_again part text h = ap (λ l. joined part (text_values l)) (pieces_other part text (filled part h)) ∙ joins_from part 0 [] text h

-- ---- an empty part

all_characters : (cs : List ℕ) → flat_map (λ v. [] ++ text_in v) (text_values (map encode_utf8 cs ++ [] ∷ [])) ≡ encode_utf8_all cs
all_characters [] = refl
all_characters (c ∷ cs) = ap (λ l. encode_utf8 c ++ l) (all_characters cs)

pub replaced_by_itself : (part text : List ℕ) → IsUtf8 text → replaced part part text ≡ text
replaced_by_itself [] text u = all_characters (chars text) ∙ encodes-chars text u
replaced_by_itself (p ∷ ps) text u = joins_again (p ∷ ps) text (omega arith)

-- ---- the first place

data Found (part piece text : List ℕ) : Type 0 where
  There : (front back : List ℕ) → IsFirstPlace part text front back → pieces_from part 0 piece text ≡ (piece ++ front) ∷ pieces_from part 0 [] back → Found part piece text
  Nowhere : ((f b : List ℕ) → text ≢ f ++ part ++ b) → pieces_from part 0 piece text ≡ (piece ++ text) ∷ [] → Found part piece text

not_empty : (f part b : List ℕ) → 0 < length part → [] ≢ f ++ part ++ b
not_empty [] [] b h e = omega (arith, h)
not_empty [] (p ∷ ps) b h e = cc
not_empty (x ∷ f) part b h e = cc

not_at_once : (part c : List ℕ) (b : ℕ) (bs : List ℕ) → starts_with nat_eq (b ∷ bs) part ≡ false → b ∷ bs ≢ part ++ c
not_at_once part c b bs e g = true≢false (sym (ap (λ l. starts_with nat_eq l part) g ∙ starts part c) ∙ e)

further : (part : List ℕ) (b : ℕ) (bs front back f c : List ℕ) → IsFirstPlace part bs front back → starts_with nat_eq (b ∷ bs) part ≡ false → b ∷ bs ≡ f ++ part ++ c
    → length (b ∷ front) ≤ length f
further part b bs front back [] c p e g = absurd (not_at_once part c b bs e g)
further part b bs front back (x ∷ f) c p e g = let less = p.first f c (ap (drop 1) g) in omega (arith, less)

nowhere : (part : List ℕ) (b : ℕ) (bs f c : List ℕ) → ((f c : List ℕ) → bs ≢ f ++ part ++ c) → starts_with nat_eq (b ∷ bs) part ≡ false → b ∷ bs ≢ f ++ part ++ c
nowhere part b bs [] c none e g = not_at_once part c b bs e g
nowhere part b bs (x ∷ f) c none e g = none f c (ap (drop 1) g)

passes_on : (part piece : List ℕ) (b : ℕ) (bs : List ℕ) → starts_with nat_eq (b ∷ bs) part ≡ false → pieces_from part 0 piece (b ∷ bs) ≡ pieces_from part 0 (piece ++ b ∷ []) bs
passes_on part piece b bs e = ap (λ x. cond x (piece ∷ pieces_from part (length part - 1) [] bs) (pieces_from part 0 (piece ++ b ∷ []) bs)) e

later : (part piece : List ℕ) (b : ℕ) (bs : List ℕ) → starts_with nat_eq (b ∷ bs) part ≡ false → Found part (piece ++ b ∷ []) bs → Found part piece (b ∷ bs)
later part piece b bs e (There front back p cut) =
    There (b ∷ front) back (record { split = ap (λ l. b ∷ l) p.split; first = λ f c g. further part b bs front back f c p e g })
    (passes_on part piece b bs e ∙ cut ∙ ap (λ l. l ∷ pieces_from part 0 [] back) (append_assoc piece (b ∷ []) front))
later part piece b bs e (Nowhere none cut) =
    Nowhere (λ f c g. nowhere part b bs f c none e g) (passes_on part piece b bs e ∙ cut ∙ ap (λ l. l ∷ []) (append_assoc piece (b ∷ []) bs))

found_step : (part piece : List ℕ) (b : ℕ) (bs : List ℕ) → 0 < length part → (x : Bool) → starts_with nat_eq (b ∷ bs) part ≡ x → Found part (piece ++ b ∷ []) bs → Found part piece (b ∷ bs)
found_step part piece b bs h true e more =
    There [] (drop (length part) (b ∷ bs)) (record { split = start_of part (b ∷ bs) e; first = λ f c g. omega arith })
    (ap (pieces_from part 0 piece) (start_of part (b ∷ bs) e) ∙ at_start part piece (drop (length part) (b ∷ bs)) h
    ∙ ap (λ l. l ∷ pieces_from part 0 [] (drop (length part) (b ∷ bs))) (sym (append-nil piece)))
found_step part piece b bs h false e more = later part piece b bs e more

found : (part piece text : List ℕ) → 0 < length part → Found part piece text
found part piece [] h = Nowhere (λ f b. not_empty f part b h) (ap (λ l. l ∷ []) (sym (append-nil piece)))
found part piece (b ∷ bs) h = found_step part piece b bs h (starts_with nat_eq (b ∷ bs) part) refl (found part (piece ++ b ∷ []) bs h)

number_of_first : (part text front back : List ℕ) → 0 < length part → pieces_from part 0 [] text ≡ front ∷ pieces_from part 0 [] back → found_at (pieces part text) ≡ pos (characters front)
number_of_first part text front back h cut =
    ap found_at (pieces_other part text (filled part h) ∙ cut ∙ ap (λ l. front ∷ l) (cons_of part 0 [] back).2)

number_of_none : (part text : List ℕ) → 0 < length part → pieces_from part 0 [] text ≡ text ∷ [] → found_at (pieces part text) ≡ negsuc 0
number_of_none part text h cut = ap found_at (pieces_other part text (filled part h) ∙ cut)

first_of : (part text : List ℕ) (n : ℕ) → 0 < length part → found_at (pieces part text) ≡ pos n → Found part [] text
    → (front : List ℕ) × (back : List ℕ) × IsFirstPlace part text front back × (n ≡ characters front)
first_of part text n h e (There front back p cut) = let g = number_of_first part text front back h cut in (front, back, p, (cc))
first_of part text n h e (Nowhere none cut) = let g = number_of_none part text h cut in absurd (cc)

pub finds_first : (part text : List ℕ) (n : ℕ) → 0 < length part → found_at (pieces part text) ≡ pos n
    → (front : List ℕ) × (back : List ℕ) × IsFirstPlace part text front back × (n ≡ characters front)
finds_first part text n h e = first_of part text n h e (found part [] text h)

none_of : (part text : List ℕ) (n : ℕ) → 0 < length part → found_at (pieces part text) ≡ negsuc n → Found part [] text → (f b : List ℕ) → text ≢ f ++ part ++ b
none_of part text n h e (There front back p cut) f b g = let q = number_of_first part text front back h cut in absurd (cc)
none_of part text n h e (Nowhere none cut) f b g = none f b g

pub finds_none : (part text : List ℕ) (n : ℕ) → 0 < length part → found_at (pieces part text) ≡ negsuc n → (f b : List ℕ) → text ≢ f ++ part ++ b
finds_none part text n h e = none_of part text n h e (found part [] text h)
