-- Texts that are written one after another.
use Rattle.std.proofs.Common.{◌≡◌, ℕ, zero, suc, ◌+◌, ◌-◌, ◌<◌, ◌≤◌, List, [], ◌++◌, map, sym, ◌∙◌, ap, append_assoc, append-nil, arith, decimal, lit<}
use Rattle.std.proofs.lemmas.Fmt.{decimal_digit}
use Rattle.std.specs.Prelude.{codes}
use Rattle.std.specs.List.{flat_map, range_with_len}
use Rattle.sample_script.specs.Sample.{listed, name_text, names_text}

-- the texts from a number on are its own and those from the next number on
pub texts_step : (text : ℕ → List ℕ) (n i : ℕ) → i < n → flat_map text (range_with_len i (n - i)) ≡ text i ++ flat_map text (range_with_len (i + 1) (n - (i + 1)))
texts_step text n i h =
    let next : n - i ≡ suc (n - (i + 1)) = omega arith in
    ap (λ m. flat_map text (range_with_len i m)) next

pub texts_end : (text : ℕ → List ℕ) (n i : ℕ) → n ≤ i → flat_map text (range_with_len i (n - i)) ≡ []
texts_end text n i h =
    let none : n - i ≡ 0 = omega arith in
    ap (λ m. flat_map text (range_with_len i m)) none

-- a name behind another
abbrev pub next_name : ℕ → List ℕ
next_name i = codes ", g" ++ decimal i

listed_next : (i m : ℕ) → listed (map name_text (range_with_len i (suc m))) ≡ name_text i ++ flat_map next_name (range_with_len (i + 1) m)
listed_next i zero = sym (append-nil (name_text i))
listed_next i (suc m) = ap (λ l. name_text i ++ codes ", " ++ l) (listed_next (i + 1) m) ∙ append_assoc (name_text i) (codes ", ") _

pub names_next : (n : ℕ) → 1 ≤ n → names_text n ≡ codes "g0" ++ flat_map next_name (range_with_len 1 (n - 1))
names_next n h =
    let next : n ≡ suc (n - 1) = omega arith in
    ap names_text next ∙ listed_next 0 (n - 1)
    ∙ ap (λ l. codes "g" ++ l ++ flat_map next_name (range_with_len 1 (n - 1))) (decimal_digit 0 (lit< tt))

pub ruleset writing = (texts_step, texts_end, names_next, append_assoc, append-nil)
