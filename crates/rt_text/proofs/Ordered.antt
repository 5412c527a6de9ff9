-- UTF-8 keeps the order of characters.
use Rattle.std.proofs.Common.{◌≡◌, ℕ, ◌+◌, ◌/◌, ◌<◌, List, [], ◌∷◌, ◌++◌, refl, sym, ap, ◌∙◌, ◌⊎◌, inl, inr, arith}
use Rattle.std.proofs.lemmas.Bool.{cases_lt}
use Rattle.std.proofs.Math.Nat.{div-div-eq-div-mul}
use Rattle.std.proofs.lemmas.Cmp.{nat_list_cmp_total}
use Rattle.std.specs.Cmp.{nat_cmp_is}
use Rattle.std.specs.Str.{encode_utf8_all}
use Rattle.std.specs.Char.{encode_utf8}
use Rattle.std.specs.declared.cmp.Ordering.TheVariants.{Less, Equal, Greater}
use Rattle.std.specs.Ordering.{nat_cmp, ordering_reverse}
use Rattle.std.specs.Cmp.Lexicographic.{slice_cmp}
use Rattle.rt_text.proofs.Encoded.{next, Size, One, Two, Three, Four, size_of, one_byte, two_bytes, three_bytes, four_bytes}

first_less : (a b : ℕ) (xs ys : List ℕ) → a < b → slice_cmp nat_cmp (a ∷ xs) (b ∷ ys) ≡ Less
first_less a b xs ys h = let e : Less ≡ nat_cmp a b = nat_cmp_is a b Less h in rw (← e) refl

first_same : (a b : ℕ) (xs ys : List ℕ) → a ≡ b → slice_cmp nat_cmp (a ∷ xs) (b ∷ ys) ≡ slice_cmp nat_cmp xs ys
first_same a b xs ys h = let e : Equal ≡ nat_cmp a b = nat_cmp_is a b Equal h in rw (← e) refl

-- two digits of base 64, and three, and four
two_less : (c d : ℕ) (lead : ℕ) (xs ys : List ℕ) → c < d → slice_cmp nat_cmp ((lead + c / 64) ∷ next c ∷ xs) ((lead + d / 64) ∷ next d ∷ ys) ≡ Less
two_less c d lead xs ys h =
    elim (cases_lt (c / 64) (d / 64)) [
      | inl l ↦ first_less (lead + c / 64) (lead + d / 64) (next c ∷ xs) (next d ∷ ys) (omega arith)
      | inr g ↦
          (let same : c / 64 ≡ d / 64 = omega arith in
          let less : next c < next d = omega arith in
          first_same (lead + c / 64) (lead + d / 64) (next c ∷ xs) (next d ∷ ys) (omega arith) ∙ first_less (next c) (next d) xs ys less)
    ]

same_next : (c d : ℕ) → c ≡ d → next c ≡ next d
same_next c d e = ap next e

three_less : (c d : ℕ) (lead : ℕ) (xs ys : List ℕ) → c < d → slice_cmp nat_cmp ((lead + c / 64 / 64) ∷ next (c / 64) ∷ next c ∷ xs) ((lead + d / 64 / 64) ∷ next (d / 64) ∷ next d ∷ ys) ≡ Less
three_less c d lead xs ys h =
    elim (cases_lt (c / 64) (d / 64)) [
      | inl l ↦ two_less (c / 64) (d / 64) lead (next c ∷ xs) (next d ∷ ys) l
      | inr g ↦
          (let same : c / 64 ≡ d / 64 = omega arith in
          let less : next c < next d = omega arith in
          first_same (lead + c / 64 / 64) (lead + d / 64 / 64) (next (c / 64) ∷ next c ∷ xs) (next (d / 64) ∷ next d ∷ ys) (ap (λ x. lead + x / 64) same)
          ∙ first_same (next (c / 64)) (next (d / 64)) (next c ∷ xs) (next d ∷ ys) (same_next (c / 64) (d / 64) same) ∙ first_less (next c) (next d) xs ys less)
    ]

four_less : (c d : ℕ) (lead : ℕ) (xs ys : List ℕ) → c < d → slice_cmp nat_cmp ((lead + c / 64 / 64 / 64) ∷ next (c / 64 / 64) ∷ next (c / 64) ∷ next c ∷ xs) ((lead + d / 64 / 64 / 64) ∷ next (d / 64 / 64) ∷ next (d / 64) ∷ next d ∷ ys) ≡ Less
four_less c d lead xs ys h =
    elim (cases_lt (c / 64) (d / 64)) [
      | inl l ↦ three_less (c / 64) (d / 64) lead (next c ∷ xs) (next d ∷ ys) l
      | inr g ↦
          (let same : c / 64 ≡ d / 64 = omega arith in
          let less : next c < next d = omega arith in
          first_same (lead + c / 64 / 64 / 64) (lead + d / 64 / 64 / 64) (next (c / 64 / 64) ∷ next (c / 64) ∷ next c ∷ xs) (next (d / 64 / 64) ∷ next (d / 64) ∷ next d ∷ ys) (ap (λ x. lead + x / 64 / 64) same)
          ∙ first_same (next (c / 64 / 64)) (next (d / 64 / 64)) (next (c / 64) ∷ next c ∷ xs) (next (d / 64) ∷ next d ∷ ys) (ap (λ x. next (x / 64)) same)
          ∙ first_same (next (c / 64)) (next (d / 64)) (next c ∷ xs) (next d ∷ ys) (same_next (c / 64) (d / 64) same) ∙ first_less (next c) (next d) xs ys less)
    ]

by_two : (c : ℕ) → c / 4096 ≡ c / 64 / 64
by_two c = sym (div-div-eq-div-mul c 64 64)

by_three : (c : ℕ) → c / 262144 ≡ c / 64 / 64 / 64
by_three c = sym (ap (λ x. x / 64) (div-div-eq-div-mul c 64 64) ∙ div-div-eq-div-mul c 4096 64)

char_less : (c d : ℕ) (xs ys : List ℕ) → Size c → Size d → c < d → slice_cmp nat_cmp (encode_utf8 c ++ xs) (encode_utf8 d ++ ys) ≡ Less
char_less c d xs ys (One a) (One b) h = rw (one_byte c a, one_byte d b) (first_less c d xs ys h)
char_less c d xs ys (One a) (Two b g) h = rw (one_byte c a, two_bytes d b g) (first_less c (192 + d / 64) xs (next d ∷ ys) (omega arith))
char_less c d xs ys (One a) (Three b g) h = rw (one_byte c a, three_bytes d b g) (first_less c (224 + d / 4096) xs (next (d / 64) ∷ next d ∷ ys) (omega arith))
char_less c d xs ys (One a) (Four b) h = rw (one_byte c a, four_bytes d b) (first_less c (240 + d / 262144) xs (next (d / 4096) ∷ next (d / 64) ∷ next d ∷ ys) (omega arith))
char_less c d xs ys (Two a e) (One b) h = absurd (omega arith)
char_less c d xs ys (Two a e) (Two b g) h = rw (two_bytes c a e, two_bytes d b g) (two_less c d 192 xs ys h)
char_less c d xs ys (Two a e) (Three b g) h =
    rw (two_bytes c a e, three_bytes d b g) (first_less (192 + c / 64) (224 + d / 4096) (next c ∷ xs) (next (d / 64) ∷ next d ∷ ys) (omega arith))
char_less c d xs ys (Two a e) (Four b) h =
    rw (two_bytes c a e, four_bytes d b) (first_less (192 + c / 64) (240 + d / 262144) (next c ∷ xs) (next (d / 4096) ∷ next (d / 64) ∷ next d ∷ ys) (omega arith))
char_less c d xs ys (Three a e) (One b) h = absurd (omega arith)
char_less c d xs ys (Three a e) (Two b g) h = absurd (omega arith)
char_less c d xs ys (Three a e) (Three b g) h = rw (three_bytes c a e, three_bytes d b g, by_two c, by_two d) (three_less c d 224 xs ys h)
char_less c d xs ys (Three a e) (Four b) h =
    rw (three_bytes c a e, four_bytes d b) (first_less (224 + c / 4096) (240 + d / 262144) (next (c / 64) ∷ next c ∷ xs) (next (d / 4096) ∷ next (d / 64) ∷ next d ∷ ys) (omega arith))
char_less c d xs ys (Four a) (One b) h = absurd (omega arith)
char_less c d xs ys (Four a) (Two b g) h = absurd (omega arith)
char_less c d xs ys (Four a) (Three b g) h = absurd (omega arith)
char_less c d xs ys (Four a) (Four b) h = rw (four_bytes c a, four_bytes d b, by_three c, by_three d, by_two c, by_two d) (four_less c d 240 xs ys h)

chars_less : (c d : ℕ) (xs ys : List ℕ) → c < d → slice_cmp nat_cmp (encode_utf8 c ++ xs) (encode_utf8 d ++ ys) ≡ Less
chars_less c d xs ys h = char_less c d xs ys (size_of c) (size_of d) h

same_front : (front xs ys : List ℕ) → slice_cmp nat_cmp (front ++ xs) (front ++ ys) ≡ slice_cmp nat_cmp xs ys
same_front [] xs ys = refl
same_front (x ∷ front) xs ys = first_same x x (front ++ xs) (front ++ ys) refl ∙ same_front front xs ys

order_of : (c d : ℕ) → (c < d) ⊎ ((c ≡ d) ⊎ (d < c))
order_of c d = elim (cases_lt c d) [ inl l ↦ inl l | inr g ↦ inr (elim (cases_lt d c) [ inl m ↦ inr m | inr k ↦ inl (omega arith) ]) ]

empty_less : (c : ℕ) (cs : List ℕ) → Size c → slice_cmp nat_cmp [] (encode_utf8 c ++ cs) ≡ Less
empty_less c cs (One a) = rw (one_byte c a) refl
empty_less c cs (Two a b) = rw (two_bytes c a b) refl
empty_less c cs (Three a b) = rw (three_bytes c a b) refl
empty_less c cs (Four a) = rw (four_bytes c a) refl

empty_greater : (c : ℕ) (cs : List ℕ) → Size c → slice_cmp nat_cmp (encode_utf8 c ++ cs) [] ≡ Greater
empty_greater c cs (One a) = rw (one_byte c a) refl
empty_greater c cs (Two a b) = rw (two_bytes c a b) refl
empty_greater c cs (Three a b) = rw (three_bytes c a b) refl
empty_greater c cs (Four a) = rw (four_bytes c a) refl

pub all_ordered : (cs ds : List ℕ) → slice_cmp nat_cmp (encode_utf8_all cs) (encode_utf8_all ds) ≡ slice_cmp nat_cmp cs ds
all_ordered [] [] = refl
all_ordered [] (d ∷ ds) = empty_less d (encode_utf8_all ds) (size_of d)
all_ordered (c ∷ cs) [] = empty_greater c (encode_utf8_all cs) (size_of c)
all_ordered (c ∷ cs) (d ∷ ds) =
    elim (order_of c d) [
      | inl l ↦ chars_less c d (encode_utf8_all cs) (encode_utf8_all ds) l ∙ sym (first_less c d cs ds l)
      | inr r ↦
          (elim r [
            | inl e ↦
                (let fronts : encode_utf8 d ++ encode_utf8_all ds ≡ encode_utf8 c ++ encode_utf8_all ds = ap (λ x. encode_utf8 x ++ encode_utf8_all ds) (sym e) in
                ap (λ ys. slice_cmp nat_cmp (encode_utf8 c ++ encode_utf8_all cs) ys) fronts ∙ same_front (encode_utf8 c) (encode_utf8_all cs) (encode_utf8_all ds)
                ∙ all_ordered cs ds ∙ sym (first_same c d cs ds e))
            | inr g ↦
                turned c d cs ds g
          ])
    ]
  where
    turned : (c d : ℕ) (cs ds : List ℕ) → d < c → slice_cmp nat_cmp (encode_utf8 c ++ encode_utf8_all cs) (encode_utf8 d ++ encode_utf8_all ds) ≡ slice_cmp nat_cmp (c ∷ cs) (d ∷ ds)
    turned c d cs ds g =
        nat_list_cmp_total.antisymm (encode_utf8 c ++ encode_utf8_all cs) (encode_utf8 d ++ encode_utf8_all ds)
        ∙ ap ordering_reverse (chars_less d c (encode_utf8_all ds) (encode_utf8_all cs) g ∙ sym (first_less d c ds cs g))
        ∙ sym (nat_list_cmp_total.antisymm (c ∷ cs) (d ∷ ds))
