-- What stands in a text, how often and where, from its first cut.
use Rattle.std.proofs.Common.{◌≡◌, ℕ, suc, ◌+◌, ◌-◌, true, false, List, [], ◌∷◌, ◌++◌, length, refl, sym, ap, ◌∙◌, arith, map}
use Rattle.std.specs.Prelude.{pos, negsuc, ◌==◌, encode_utf8, IsUtf8, Option, Some, None}
use Rattle.std.specs.Option.{is_some}
use Rattle.std.specs.Str.{chars}
use Rattle.std.proofs.lemmas.Str.{encodes-chars}
use Rattle.nu_text.specs.Characters.{characters}
use Rattle.op_rules.specs.TextParts.{pieces_from, pieces}
use Rattle.op_rules.specs.TextAccess.{has_cut, stands_in}
use Rattle.op_rules.specs.TextMethods.{found_at}
use Rattle.rt_text.proofs.Cuts.{CutAt, cons_of, single_cons, pieces_empty, pieces_other}
use Rattle.rt_text.proofs.Encoded.{all_counted}
use denote.Ref.{Bor}

-- ---- an empty part

pub stands_empty : (part text : List ℕ) → (length part == 0) ≡ true → stands_in part text ≡ true
stands_empty part text e = ap has_cut (pieces_empty part text e ∙ (single_cons (chars text)).2)

pub found_empty : (part text : List ℕ) → (length part == 0) ≡ true → found_at (pieces part text) ≡ pos 0
found_empty part text e = ap found_at (pieces_empty part text e ∙ (single_cons (chars text)).2)

pub chars_counted : (text : List ℕ) → IsUtf8 text → length (chars text) ≡ characters text
chars_counted text u = sym (all_counted (chars text)) ∙ ap characters (encodes-chars text u)

mapped : (cs : List ℕ) → length (map encode_utf8 cs ++ [] ∷ []) ≡ suc (length cs)
mapped [] = refl
mapped (c ∷ cs) = ap suc (mapped cs)

pub count_empty : (part text : List ℕ) → IsUtf8 text → (length part == 0) ≡ true → length (pieces part text) - 1 ≡ characters text + 1
count_empty part text u e =
    let single : length (pieces part text) ≡ suc (length (map encode_utf8 (chars text) ++ [] ∷ [])) = ap length (pieces_empty part text e) in
    let all = mapped (chars text) in
    let counted = chars_counted text u in
    omega (arith, single, all, counted)

-- ---- another part

pub stands_by : (part text : List ℕ) (r : Option (Bor (List ℕ) × Bor (List ℕ))) → (length part == 0) ≡ false → CutAt part text r → is_some r ≡ stands_in part text
stands_by part text None e cut = sym (ap has_cut (pieces_other part text e ∙ cut))
stands_by part text (Some x) e cut = sym (ap has_cut (pieces_other part text e ∙ cut ∙ ap (λ l. x.0.now ∷ l) (cons_of part 0 [] x.1.now).2))

pub stands_not : (part text : List ℕ) → (length part == 0) ≡ false → pieces_from part 0 [] text ≡ text ∷ [] → stands_in part text ≡ false
stands_not part text e none = ap has_cut (pieces_other part text e ∙ none)

pub stands_there : (part text front back : List ℕ) → (length part == 0) ≡ false → pieces_from part 0 [] text ≡ front ∷ pieces_from part 0 [] back → stands_in part text ≡ true
stands_there part text front back e cut = ap has_cut (pieces_other part text e ∙ cut ∙ ap (λ l. front ∷ l) (cons_of part 0 [] back).2)

pub found_not : (part text : List ℕ) → (length part == 0) ≡ false → pieces_from part 0 [] text ≡ text ∷ [] → found_at (pieces part text) ≡ negsuc 0
found_not part text e none = ap found_at (pieces_other part text e ∙ none)

pub found_there : (part text front back : List ℕ) → (length part == 0) ≡ false → pieces_from part 0 [] text ≡ front ∷ pieces_from part 0 [] back
    → found_at (pieces part text) ≡ pos (characters front)
found_there part text front back e cut = ap found_at (pieces_other part text e ∙ cut ∙ ap (λ l. front ∷ l) (cons_of part 0 [] back).2)

pub count_other : (part text : List ℕ) → (length part == 0) ≡ false → length (pieces part text) - 1 ≡ length (pieces_from part 0 [] text) - 1
count_other part text e = ap (λ l. length l - 1) (pieces_other part text e)
