-- How long the sample script is at most.
use Rattle.std.proofs.Common.{◌≡◌, ℕ, zero, suc, ◌+◌, ◌-◌, ◌*◌, ◌<◌, ◌≤◌, List, [], ◌∷◌, length, refl, ◌∙◌, ap, append_assoc, arith, decimal, lit<}
use Rattle.std.proofs.lemmas.List.{length-append}
use Rattle.std.proofs.lemmas.Fmt.{length-decimal-le}
use Rattle.std.proofs.Math.Nat.{mul-suc}
use Rattle.std.specs.Prelude.{codes}
use Rattle.std.specs.List.{flat_map, range_with_len}
use Rattle.nu_text.specs.Pieces.{joined}
use Rattle.sample_script.specs.Sample.{first_total, heading_text, generator_loop, generator_text, names_text, driver_loop, driver_text, sample}
use Rattle.sample_script.proofs.Writing.{next_name, names_next}

-- the lengths of the texts, together
abbrev lengths : List (List ℕ) → ℕ
lengths [] = 0
lengths (text ∷ texts) = length text + lengths texts

length_joined : (texts : List (List ℕ)) → length (joined texts) ≡ lengths texts
length_joined [] = refl
length_joined (text ∷ texts) = length-append text (joined texts) ∙ ap (λ n. length text + n) (length_joined texts)

-- texts of numbers below m, each of at most k bytes
texts_short : (text : ℕ → List ℕ) (k a m : ℕ) → ((i : ℕ) → i < a + m → length (text i) ≤ k) → length (flat_map text (range_with_len a m)) ≤ k * m
texts_short text k a zero each = omega arith
texts_short text k a (suc m) each =
    let rest : length (flat_map text (range_with_len (a + 1) m)) ≤ k * m = texts_short text k (a + 1) m (λ i h. each i (omega (arith, h))) in
    let one : length (text a) ≤ k = each a (omega arith) in
    omega (arith, length-append (text a) (flat_map text (range_with_len (a + 1) m)), rest, one, mul-suc k m)

number_short : (n : ℕ) → n < 1000 → length (decimal n) ≤ 3
number_short n h = length-decimal-le 3 n (lit< tt) h (omega (arith, h))

generator_short : (i : ℕ) → i < 1000 → length (generator_text i) ≤ 150
generator_short i h =
    let sum : length (heading_text i) ≡ 5 + (length (decimal i) + (5 + (8 + (length (decimal (first_total i)) + (1 + 0)))))
    = length_joined (codes "def g" ∷ decimal i ∷ codes "(n):\n" ∷ codes "    t = " ∷ decimal (first_total i) ∷ codes "\n" ∷ []) in
    let total : first_total i < 1000 = omega arith in
    omega (arith, length-append (heading_text i) generator_loop, sum, number_short i h, number_short (first_total i) total)

name_short : (i : ℕ) → i < 1000 → length (next_name i) ≤ 6
name_short i h = omega (arith, length-append (codes ", g") (decimal i), number_short i h)

names_short : (n : ℕ) → 1 ≤ n → n ≤ 1000 → length (names_text n) ≤ 6 * n
names_short n low high =
    let more : length (flat_map next_name (range_with_len 1 (n - 1))) ≤ 6 * (n - 1) = texts_short next_name 6 1 (n - 1) (λ i h. name_short i (omega (arith, h))) in
    omega (arith, ap length (names_next n low), length-append (codes "g0") (flat_map next_name (range_with_len 1 (n - 1))), more)

driver_short : (n : ℕ) → 1 ≤ n → n ≤ 1000 → length (driver_text n) ≤ 6 * n + 300
driver_short n low high =
    let sum : length (driver_text n) ≡ 6 + (10 + (length (names_text n) + (3 + (190 + 0))))
    = length_joined (codes "s = 0\n" ∷ codes "for f in [" ∷ names_text n ∷ codes "]:\n" ∷ driver_loop ∷ []) in
    omega (arith, sum, names_short n low high)

-- the sample script is no longer than a script may be
pub sample_short : (n : ℕ) → 1 ≤ n → n ≤ 1000 → length (sample n) ≤ 262144
unfolding sample
sample_short n low high =
    let generators : length (flat_map generator_text (range_with_len 0 n)) ≤ 150 * n = texts_short generator_text 150 0 n (λ i h. generator_short i (omega (arith, h))) in
    omega (arith, length-append (flat_map generator_text (range_with_len 0 n)) (driver_text n), generators, driver_short n low high)

pub ruleset short = (sample_short, append_assoc)
