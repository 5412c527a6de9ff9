-- Blanks at the ends of texts, and words.
use Rattle.std.proofs.Common.{◌≡◌, ℕ, ◌+◌, ◌-◌, ◌<◌, ◌≤◌, Bool, true, false, cond, List, [], ◌∷◌, ◌++◌, length, get_or, take, drop, refl, sym, ap, ◌∙◌, arith}
use Rattle.std.proofs.lemmas.List.{take_more, at_drop_more}
use Rattle.std.specs.Prelude.{◌&&◌}
use Rattle.op_rules.specs.TextParts.{text_values, is_blank, is_nothing, without_end, word_before, words_from}

-- ---- the end

end_blank : (xs : List ℕ) (b : ℕ) → is_blank b ≡ true → without_end (xs ++ b ∷ []) ≡ without_end xs
end_blank [] b e = ap (λ x. cond (x && true) [] (b ∷ [])) e
end_blank (x ∷ xs) b e = ap (λ l. cond (is_blank x && is_nothing l) [] (x ∷ l)) (end_blank xs b e)

something : (xs : List ℕ) (b : ℕ) → is_nothing (xs ++ b ∷ []) ≡ false
something [] b = refl
something (x ∷ xs) b = refl

and_false : (b : Bool) → (b && false) ≡ false
and_false true = refl
and_false false = refl

end_other : (xs : List ℕ) (b : ℕ) → is_blank b ≡ false → without_end (xs ++ b ∷ []) ≡ xs ++ b ∷ []
end_other [] b e = ap (λ x. cond (x && true) [] (b ∷ [])) e
end_other (x ∷ xs) b e =
    ap (λ l. cond (is_blank x && is_nothing l) [] (x ∷ l)) (end_other xs b e)
    ∙ ap (λ y. cond y [] (x ∷ (xs ++ b ∷ []))) (ap (λ y. is_blank x && y) (something xs b) ∙ and_false (is_blank x))

-- the last byte before a place
last_of : (text : List ℕ) (end : ℕ) → 0 < end → end ≤ length text → take end text ≡ take (end - 1) text ++ get_or text (end - 1) 0 ∷ []
last_of text end h g =
    let back : end - 1 + 1 ≡ end = omega arith in
    ap (λ n. take n text) (sym back) ∙ take_more text (end - 1) 0 (omega arith)

pub blank_passed : (text : List ℕ) (end : ℕ) → 0 < end → end ≤ length text → is_blank (get_or text (end - 1) 0) ≡ true → without_end (take end text) ≡ without_end (take (end - 1) text)
blank_passed text end h g e = ap without_end (last_of text end h g) ∙ end_blank (take (end - 1) text) (get_or text (end - 1) 0) e

pub no_blank : (text : List ℕ) (end : ℕ) → 0 < end → end ≤ length text → is_blank (get_or text (end - 1) 0) ≡ false → without_end (take end text) ≡ take end text
no_blank text end h g e =
    ap without_end (last_of text end h g) ∙ end_other (take (end - 1) text) (get_or text (end - 1) 0) e ∙ sym (last_of text end h g)

-- ---- words

word_split : (word : List ℕ) (more : List (List ℕ)) → text_values (word_before word more) ≡ text_values (word_before word []) ++ text_values more
word_split [] more = refl
word_split (b ∷ word) more = refl

pub word_ends : (text : List ℕ) (i : ℕ) (word : List ℕ) → i < length text → is_blank (get_or text i 0) ≡ true
    → text_values (words_from word (drop i text)) ≡ text_values (word_before word []) ++ text_values (words_from [] (drop (i + 1) text))
word_ends text i word h e =
    at_drop_more (λ l. text_values (words_from word l)) text i 0 h
    ∙ ap (λ x. text_values (cond x (word_before word (words_from [] (drop (i + 1) text))) (words_from (word ++ get_or text i 0 ∷ []) (drop (i + 1) text)))) e
    ∙ word_split word (words_from [] (drop (i + 1) text))

pub word_goes : (text : List ℕ) (i : ℕ) (word : List ℕ) → i < length text → is_blank (get_or text i 0) ≡ false
    → text_values (words_from word (drop i text)) ≡ text_values (words_from (word ++ get_or text i 0 ∷ []) (drop (i + 1) text))
word_goes text i word h e =
    at_drop_more (λ l. text_values (words_from word l)) text i 0 h
    ∙ ap (λ x. text_values (cond x (word_before word (words_from [] (drop (i + 1) text))) (words_from (word ++ get_or text i 0 ∷ []) (drop (i + 1) text)))) e
