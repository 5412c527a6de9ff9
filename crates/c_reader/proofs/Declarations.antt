-- The declaration of a function's registers.
use Rattle.std.proofs.Common.{◌≡◌, ℕ, zero, suc, ◌+◌, ◌<◌, ◌≤◌, ◌^◌, List, [], ◌∷◌, ◌++◌, drop, get_or, refl, sym, ◌∙◌, ap, append_assoc, arith, decimal, false, lit<}
use Rattle.std.specs.Prelude.{codes}
use Rattle.nu_text.specs.Pieces.{before}
use Rattle.nu_text.specs.Decimals.{starts_digit, DecimalStands}
use Rattle.nu_text.proofs.Decimals.{decimal_both}
use Rattle.c_meaning.specs.Text.{more_registers, declaration_text}
use Rattle.c_reader.specs.Statements.{IsNotFront}
use Rattle.c_reader.specs.Functions.{DeclarationStands}
use Rattle.c_reader.proofs.Numbers.{decimal_cut}

-- the rest of a declaration: some registers more, and its end
abbrev pub Goes : ℕ → List ℕ → ℕ → List ℕ → Type 0
Goes next rest left y = rest ≡ before (more_registers left next ∷ codes ";\n" ∷ []) y

more_ends : (left next : ℕ) (y : List ℕ) → starts_digit (before (more_registers left next ∷ codes ";\n" ∷ []) y) ≡ false
more_ends zero next y = refl
more_ends (suc left) next y = refl

more_step : (left next : ℕ) (y : List ℕ) → before (more_registers (suc left) next ∷ codes ";\n" ∷ []) y ≡ codes ", r" ++ (decimal next ++ before (more_registers left (next + 1) ∷ codes ";\n" ∷ []) y)
more_step left next y = ap (λ l. codes ", r" ++ l) (append_assoc (decimal next) (more_registers left (next + 1)) (codes ";\n" ++ y))

small : (n : ℕ) → n < 2 ^ 64 → n < 10 ^ 64
small n h = omega (arith, h)

-- two rests of declarations
more_both : (m n next : ℕ) (x y : List ℕ) → next + m ≤ 2 ^ 64 → next + n ≤ 2 ^ 64 → before (more_registers m next ∷ codes ";\n" ∷ []) x ≡ before (more_registers n next ∷ codes ";\n" ∷ []) y → (m ≡ n) × (x ≡ y)
more_both zero zero next x y h k e = (refl, ap (drop 2) e)
more_both zero (suc n) next x y h k e = let bad : 59 ≡ 44 = ap (λ l. get_or l 0 0) e in absurd (omega (arith, bad))
more_both (suc m) zero next x y h k e = let bad : 44 ≡ 59 = ap (λ l. get_or l 0 0) e in absurd (omega (arith, bad))
more_both (suc m) (suc n) next x y h k e =
    let same = decimal_both next next (before (more_registers m (next + 1) ∷ codes ";\n" ∷ []) x) (before (more_registers n (next + 1) ∷ codes ";\n" ∷ []) y) (omega (arith, h)) (omega (arith, h)) (more_ends m (next + 1) x) (more_ends n (next + 1) y)
    (ap (drop 3) (sym (more_step m next x) ∙ e ∙ more_step n next y)) in
    let rest = more_both m n (next + 1) x y (omega (arith, h)) (omega (arith, k)) same.1 in
    (ap suc rest.0, rest.1)

declaration_before : (more : ℕ) (y : List ℕ) → declaration_text (suc more) ++ y ≡ codes "  nu r0" ++ before (more_registers more 1 ∷ codes ";\n" ∷ []) y
declaration_before more y = ap (λ l. codes "  nu r0" ++ l) (append_assoc (more_registers more 1) (codes ";\n") y)

-- two declarations, behind which no other follows
pub declaration_both : (text : List ℕ) (m n : ℕ) (x y : List ℕ) → DeclarationStands text m x → DeclarationStands text n y → (m ≡ n) × (x ≡ y)
declaration_both text m n x y s t = go m n s.fits t.fits (sym s.spelled ∙ t.spelled)
  where
    go : (m n : ℕ) → m < 2 ^ 64 → n < 2 ^ 64 → declaration_text m ++ x ≡ declaration_text n ++ y → (m ≡ n) × (x ≡ y)
    go zero zero h k e = (refl, e)
    go zero (suc n) h k e = absurd (s.all (before (more_registers n 1 ∷ codes ";\n" ∷ []) y) (e ∙ declaration_before n y))
    go (suc m) zero h k e = absurd (t.all (before (more_registers m 1 ∷ codes ";\n" ∷ []) x) (sym e ∙ declaration_before m x))
    go (suc m) (suc n) h k e =
        let both = more_both m n 1 x y (omega (arith, h)) (omega (arith, k)) (ap (drop 7) (sym (declaration_before m x) ∙ e ∙ declaration_before n y)) in
        (ap suc both.0, both.1)

-- so many registers were read: each end of the rest ends the declaration, and each declaration goes on there
pub record Declared (text : List ℕ) (registers : ℕ) (rest : List ℕ) : Type 0 where
  pub fits : registers < 2 ^ 64
  pub forth : (left : ℕ) (y : List ℕ) → Goes registers rest left y → text ≡ declaration_text (registers + left) ++ y
  pub back : (all : ℕ) (y : List ℕ) → DeclarationStands text all y → (left : ℕ) × (all ≡ registers + left) × Goes registers rest left y

pub declared_first : (text rest : List ℕ) → text ≡ codes "  nu r0" ++ rest → Declared text 1 rest
declared_first text rest e = record { fits = lit< tt; forth = forth; back = λ all y s. back all y s.all s.spelled }
  where
    forth : (left : ℕ) (y : List ℕ) → Goes 1 rest left y → text ≡ declaration_text (1 + left) ++ y
    forth left y g =
        let next : 1 + left ≡ suc left = omega arith in
        e ∙ ap (λ l. codes "  nu r0" ++ l) g ∙ sym (declaration_before left y) ∙ ap (λ n. declaration_text n ++ y) (sym next)

    back : (all : ℕ) (y : List ℕ) → IsNotFront (codes "  nu r0") y → text ≡ declaration_text all ++ y → (left : ℕ) × (all ≡ 1 + left) × Goes 1 rest left y
    back zero y none d = absurd (none rest (sym d ∙ e))
    back (suc more) y none d = (more, omega arith, ap (drop 7) (sym e ∙ d ∙ declaration_before more y))

pub declared_more : (text rest next behind : List ℕ) (registers found more : ℕ) → Declared text registers rest → rest ≡ codes ", r" ++ next → DecimalStands next found behind → found ≡ registers → more ≡ registers + 1 → registers + 1 < 2 ^ 64 → Declared text more behind
declared_more text rest next behind registers found more d e s same plus room = record { fits = omega (arith, plus, room); forth = forth; back = back }
  where
    spelled : rest ≡ codes ", r" ++ (decimal registers ++ behind)
    spelled = e ∙ ap (λ l. codes ", r" ++ l) (s.spelled ∙ ap (λ n. decimal n ++ behind) same)

    forth : (left : ℕ) (y : List ℕ) → Goes more behind left y → text ≡ declaration_text (more + left) ++ y
    forth left y g =
        let g' : Goes (registers + 1) behind left y = g ∙ ap (λ n. before (more_registers left n ∷ codes ";\n" ∷ []) y) plus in
        let sum : registers + suc left ≡ more + left = omega (arith, plus) in
        d.forth (suc left) y (spelled ∙ ap (λ l. codes ", r" ++ (decimal registers ++ l)) g' ∙ sym (more_step left registers y)) ∙ ap (λ n. declaration_text n ++ y) sum

    back : (all : ℕ) (y : List ℕ) → DeclarationStands text all y → (left : ℕ) × (all ≡ more + left) × Goes more behind left y
    back all y t = let b = d.back all y t in go b.0 t.fits b.1 b.2
      where
        go : (left : ℕ) → all < 2 ^ 64 → all ≡ registers + left → Goes registers rest left y → (left : ℕ) × (all ≡ more + left) × Goes more behind left y
        go zero h sum g = let bad : 44 ≡ 59 = ap (λ l. get_or l 0 0) (sym spelled ∙ g) in absurd (omega (arith, bad))
        go (suc left) h sum g =
            let both = decimal_both registers registers behind (before (more_registers left (registers + 1) ∷ codes ";\n" ∷ []) y) (small registers (omega (arith, sum, h))) (small registers (omega (arith, sum, h))) s.ends
            (more_ends left (registers + 1) y) (ap (drop 3) (sym spelled ∙ g ∙ more_step left registers y)) in
            (left, omega (arith, sum, plus), both.1 ∙ ap (λ n. before (more_registers left n ∷ codes ";\n" ∷ []) y) (sym plus))

-- the declaration is at its end
pub declared_all : (text rest behind : List ℕ) (registers : ℕ) → Declared text registers rest → rest ≡ codes ";\n" ++ behind → IsNotFront (codes "  nu r0") behind → DeclarationStands text registers behind
declared_all text rest behind registers d e all = record {
  fits = d.fits;
  spelled = let none : registers + 0 ≡ registers = omega arith in d.forth 0 behind e ∙ ap (λ n. declaration_text n ++ behind) none;
  all = all;
}

-- a second declaration follows
pub declared_twice : (text rest behind after : List ℕ) (registers : ℕ) → Declared text registers rest → rest ≡ codes ";\n" ++ behind → behind ≡ codes "  nu r0" ++ after → (all : ℕ) (y : List ℕ) → DeclarationStands text all y → ⊥
declared_twice text rest behind after registers d e two all y t = let b = d.back all y t in go b.0 b.2
  where
    go : (left : ℕ) → Goes registers rest left y → ⊥
    go zero g = t.all after (sym (ap (drop 2) (sym e ∙ g)) ∙ two)
    go (suc left) g = let bad : 59 ≡ 44 = ap (λ l. get_or l 0 0) (sym e ∙ g) in omega (arith, bad)

-- where the declaration goes on wrongly
pub no_number : (text rest next : List ℕ) (registers : ℕ) → Declared text registers rest → rest ≡ codes ", r" ++ next → ((n : ℕ) (behind : List ℕ) → DecimalStands next n behind → ⊥) → (all : ℕ) (y : List ℕ) → DeclarationStands text all y → ⊥
no_number text rest next registers d e none all y t = let b = d.back all y t in go b.0 t.fits b.1 b.2
  where
    go : (left : ℕ) → all < 2 ^ 64 → all ≡ registers + left → Goes registers rest left y → ⊥
    go zero h sum g = let bad : 44 ≡ 59 = ap (λ l. get_or l 0 0) (sym e ∙ g) in omega (arith, bad)
    go (suc left) h sum g =
        none registers (before (more_registers left (registers + 1) ∷ codes ";\n" ∷ []) y)
        (record { fits = omega (arith, sum, h); spelled = ap (drop 3) (sym e ∙ g ∙ more_step left registers y); ends = more_ends left (registers + 1) y })

pub other_number : (text rest next behind : List ℕ) (registers found : ℕ) → Declared text registers rest → rest ≡ codes ", r" ++ next → DecimalStands next found behind → (found ≡ registers → ⊥) → (all : ℕ) (y : List ℕ) → DeclarationStands text all y → ⊥
other_number text rest next behind registers found d e s other all y t = let b = d.back all y t in go b.0 t.fits b.1 b.2
  where
    go : (left : ℕ) → all < 2 ^ 64 → all ≡ registers + left → Goes registers rest left y → ⊥
    go zero h sum g = let bad : 44 ≡ 59 = ap (λ l. get_or l 0 0) (sym e ∙ g) in omega (arith, bad)
    go (suc left) h sum g =
        other (decimal_cut next (before (more_registers left (registers + 1) ∷ codes ";\n" ∷ []) y) behind registers found s (omega (arith, sum, h)) (more_ends left (registers + 1) y)
        (ap (drop 3) (sym e ∙ g ∙ more_step left registers y))).0

pub too_many : (text rest next : List ℕ) (registers : ℕ) → Declared text registers rest → rest ≡ codes ", r" ++ next → 2 ^ 64 ≤ registers + 1 → (all : ℕ) (y : List ℕ) → DeclarationStands text all y → ⊥
too_many text rest next registers d e large all y t = let b = d.back all y t in go b.0 t.fits b.1 b.2
  where
    go : (left : ℕ) → all < 2 ^ 64 → all ≡ registers + left → Goes registers rest left y → ⊥
    go zero h sum g = let bad : 44 ≡ 59 = ap (λ l. get_or l 0 0) (sym e ∙ g) in omega (arith, bad)
    go (suc left) h sum g = omega (arith, sum, h, large)

pub no_end : (text rest : List ℕ) (registers : ℕ) → Declared text registers rest → ((next : List ℕ) → rest ≡ codes ", r" ++ next → ⊥) → ((behind : List ℕ) → rest ≡ codes ";\n" ++ behind → ⊥) → (all : ℕ) (y : List ℕ) → DeclarationStands text all y → ⊥
no_end text rest registers d more last all y t = let b = d.back all y t in go b.0 b.2
  where
    go : (left : ℕ) → Goes registers rest left y → ⊥
    go zero g = last y g
    go (suc left) g = more (decimal registers ++ before (more_registers left (registers + 1) ∷ codes ";\n" ∷ []) y) (g ∙ more_step left registers y)
