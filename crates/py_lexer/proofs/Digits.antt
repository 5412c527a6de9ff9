-- Numbers in digits, from the front.
use Rattle.std.proofs.Common.{◌≡◌, ℕ, suc, ◌+◌, ◌*◌, ◌<◌, ◌≤◌, ◌^◌, ◌-◌, ◌/◌, ◌==◌, ◌&&◌, ◌||◌, nat_lt, Bool, true, false, cond, List, [], ◌∷◌, length, take, drop, get_or, Option, Some, None, refl, ap, sym, ◌∙◌, arith, inl, inr}
use Rattle.std.specs.Char.{digit_value}
use Rattle.std.proofs.lemmas.Bool.Decides.{nat_tests}
use lib.Utf8.{scalar, scalar_cases}
use Rattle.std.proofs.lemmas.List.{take_all}
use Rattle.std.proofs.Math.Nat.{div-lt_iff_lt-mul, div-mul-le_self, mul-le-mul_right}
use Rattle.py_lexer.specs.Strings.{all_digits, number, scalar_of}
use Rattle.py_lexer.specs.declared.runs.Class.{Class}
use Rattle.py_lexer.specs.declared.runs.Class.TheVariants as class
use Rattle.py_lexer.specs.Characters.{belongs, run_length}
use Rattle.py_lexer.specs.Numerals.{is_digit, are_digits, value, digits, past_underscore, unless_positive, numeral}
use Rattle.py_lexer.specs.Seen.{run, base_of}
use Rattle.py_lexer.proofs.LineEnds.{is_equal}

-- n is differ more than the number that it begins
pub number_grows : (base n : ℕ) (s : List ℕ) → 1 ≤ base → n ≤ number base n s
number_grows base n [] h = omega arith
number_grows base n (c ∷ s) h = less n base (digit_value c) (number base (n * base + digit_value c) s) h (number_grows base (n * base + digit_value c) s h)
  where
    less : (n base d m : ℕ) → 1 ≤ base → n * base + d ≤ m → n ≤ m
    less n base d m h more = grind arith

grows_by : (b : Bool) (n base d under digit : ℕ) → 1 ≤ base → n ≤ under → n * base + d ≤ digit → n ≤ cond b under digit
grows_by true n base d under digit h u g = u
grows_by false n base d under digit h u g = grown n base d digit h g
  where
    grown : (n base d m : ℕ) → 1 ≤ base → n * base + d ≤ m → n ≤ m
    grown n base d m h more = grind arith

pub value_grows : (base n : ℕ) (s : List ℕ) → 1 ≤ base → n ≤ value base n s
value_grows base n [] h = omega arith
value_grows base n (c ∷ s) h = grows_by (c == 95) n base (digit_value c) _ _ h (value_grows base n s h) (value_grows base (n * base + digit_value c) s h)

no_number : (a : Bool) (n m : ℕ) → m ≤ n → cond (a && nat_lt n m) (Some n) None ≡ None
no_number true n m h = grind (arith, nat_tests)
no_number false n m h = refl

pub too_large : (base : ℕ) (s : List ℕ) → 2 ^ 127 ≤ value base 0 s → digits base s ≡ None
unfolding digits
too_large base s h = no_number (are_digits base false s) (value base 0 s) (2 ^ 127) h

not_scalar : (n : ℕ) → 0x110000 ≤ n → (b : Bool) → (scalar n ≡ b) → b ≡ false
not_scalar n h true e = absurd (elim (scalar_cases n e) [ inl l ↦ omega arith | inr r ↦ omega (arith, r.1) ])
not_scalar n h false e = refl

pub no_scalar : (base : ℕ) (s : List ℕ) → 0x110000 ≤ number base 0 s → scalar_of base s ≡ None
unfolding scalar_of
no_scalar base s h = rw (not_scalar (number base 0 s) h (scalar (number base 0 s)) refl) (neither (all_digits base s) (number base 0 s))
  where
    neither : (a : Bool) (n : ℕ) → cond (a && false) (Some n) None ≡ None
    neither true n = refl
    neither false n = refl

-- one step over an underscore, or over a digit
pub spelled_under : (base : ℕ) (b : Bool) (s t : List ℕ) (x : ℕ) → s ≡ x ∷ t → x ≡ 95 → b ≡ true → are_digits base b s ≡ are_digits base false t
spelled_under base b s t x e is is_behind = rw (e, is, is_behind) refl

pub counted_under : (base n : ℕ) (s t : List ℕ) (x : ℕ) → s ≡ x ∷ t → x ≡ 95 → value base n s ≡ value base n t
counted_under base n s t x e is = rw (e, is) refl

other : (x : ℕ) → (x ≡ 95 → ⊥) → (x == 95) ≡ false
other x differ = grind (arith, nat_tests)

pub digit_is : (base x : ℕ) → digit_value x < base → is_digit base x ≡ true
digit_is base x h = grind (arith, nat_tests)

pub spelled_digit : (base : ℕ) (b : Bool) (s t : List ℕ) (x : ℕ) → s ≡ x ∷ t → (x ≡ 95 → ⊥) → digit_value x < base → are_digits base b s ≡ are_digits base true t
spelled_digit base b s t x e differ d = rw (e, other x differ, digit_is base x d) refl

pub counted_digit : (base n : ℕ) (s t : List ℕ) (x : ℕ) → s ≡ x ∷ t → (x ≡ 95 → ⊥) → value base n s ≡ value base (n * base + digit_value x) t
counted_digit base n s t x e differ = rw (e, other x differ) refl

-- no room for a further digit
pub no_room : (m base k n d e : ℕ) → 0 < base → k ≡ base → e ≡ d → d ≤ m → (m - e) / k < n → m < n * base + d
no_room m base k n d e h same is small over =
    let over' : (m - d) / base < n = rw (← same, ← is) over in
    let more : m - d < n * base = (div-lt_iff_lt-mul h).0 over' in
    omega arith

pub room : (m base k n d e : ℕ) → 0 < base → k ≡ base → e ≡ d → d ≤ m → n ≤ (m - e) / k → n * base + d ≤ m
room m base k n d e h same is small under =
    let under' : n ≤ (m - d) / base = rw (← same, ← is) under in
    let more : n * base ≤ (m - d) / base * base = mul-le-mul_right base under' in
    let most : (m - d) / base * base ≤ m - d = div-mul-le_self (m - d) base in
    omega arith

pub too_many : (base n d x : ℕ) (s rest : List ℕ) → 1 ≤ base → value base n (x ∷ rest) ≡ value base 0 s → (x ≡ 95 → ⊥) → digit_value x ≡ d → 2 ^ 127 ≤ n * base + d → digits base s ≡ None
too_many base n d x s rest h counted differ is over =
    too_large base s (bound n base d (digit_value x) (value base (n * base + digit_value x) rest) (value base 0 s) is over (value_grows base (n * base + digit_value x) rest h) (sym (counted_digit base n (x ∷ rest) rest x refl differ) ∙ counted))
  where
    bound : (n base d v w z : ℕ) → v ≡ d → 2 ^ 127 ≤ n * base + d → n * base + v ≤ w → w ≡ z → 2 ^ 127 ≤ z
    bound n base d v w z is over more e = omega arith

-- ---- a numeral that is read from the front

pub run_step : (class : Class) (c : ℕ) (s t : List ℕ) → s ≡ c ∷ t → belongs class c ≡ true → (run class s ≡ c ∷ run class t) × (run_length class s ≡ 1 + run_length class t)
run_step class c s t e is = rw e (go (belongs class c) is)
  where
    one : (n : ℕ) → 1 + n ≡ suc n
    one n = omega arith

    go : (b : Bool) → b ≡ true → (take (cond b (1 + run_length class t) 0) (c ∷ t) ≡ c ∷ take (run_length class t) t) × (cond b (1 + run_length class t) 0 ≡ 1 + run_length class t)
    go true e = (rw (one (run_length class t)) refl, refl)
    go false e = cc

pub run_stops : (class : Class) (c : ℕ) (t : List ℕ) → belongs class c ≡ false → (run class (c ∷ t) ≡ []) × (run_length class (c ∷ t) ≡ 0)
run_stops class c t is = go (belongs class c) is
  where
    go : (b : Bool) → b ≡ false → (take (cond b (1 + run_length class t) 0) (c ∷ t) ≡ []) × (cond b (1 + run_length class t) 0 ≡ 0)
    go false e = (refl, refl)
    go true e = cc

pub run_ends : (class : Class) (s : List ℕ) → run_length class s ≡ 0 → run class s ≡ []
run_ends class s e = ap (λ n. take n s) e

pub not_digits : (base : ℕ) (s : List ℕ) → are_digits base false s ≡ false → digits base s ≡ None
unfolding digits
not_digits base s e = rw e refl

pub wrong_under : (base x : ℕ) (b : Bool) (s t all : List ℕ) → s ≡ x ∷ t → x ≡ 95 → b ≡ false → are_digits base b s ≡ are_digits base false all → digits base all ≡ None
wrong_under base x b s t all e is first inv = not_digits base all (sym inv ∙ rw (e, is, first) refl)

pub wrong_digit : (base x : ℕ) (b : Bool) (s t all : List ℕ) → s ≡ x ∷ t → (x ≡ 95 → ⊥) → base ≤ digit_value x → are_digits base b s ≡ are_digits base false all → digits base all ≡ None
wrong_digit base x b s t all e differ high inv = not_digits base all (sym inv ∙ rw (e, other x differ, no_digit base x high) refl)
  where
    no_digit : (base x : ℕ) → base ≤ digit_value x → is_digit base x ≡ false
    no_digit base x h = grind (arith, nat_tests)

pub all_read : (base n : ℕ) (b : Bool) (s all : List ℕ) → s ≡ [] → are_digits base b s ≡ are_digits base false all → value base n s ≡ value base 0 all → n < 2 ^ 127 → digits base all ≡ cond b (Some n) None
unfolding digits
all_read base n b s all e spelled counted below =
    let x : are_digits base false all ≡ b = sym spelled ∙ ap (are_digits base b) e in
    let y : value base 0 all ≡ n = sym counted ∙ ap (value base n) e in
    rw (x, y) (go b (nat_lt n (2 ^ 127)) (fits n below))
  where
    fits : (n : ℕ) → n < 2 ^ 127 → nat_lt n (2 ^ 127) ≡ true
    fits n h = grind (arith, nat_tests)

    go : (b d : Bool) → d ≡ true → cond (b && d) (Some n) None ≡ cond b (Some n) None
    go true true e = refl
    go false d e = refl
    go b false e = cc

-- ---- prefixes

letter : (c n : ℕ) → (c == n) ≡ true → belongs class.Numeral n ≡ true → belongs class.Numeral c ≡ true
letter c n e is = ap (belongs class.Numeral) (is_equal c n e) ∙ is

base_letter : (c base : ℕ) → base_of c ≡ Some base → belongs class.Numeral c ≡ true
base_letter c base h = go (c == 120) refl (c == 88) refl (c == 111) refl (c == 79) refl (c == 98) refl (c == 66) refl h
  where
    go : (a : Bool) → (c == 120) ≡ a → (b : Bool) → (c == 88) ≡ b → (d : Bool) → (c == 111) ≡ d → (e : Bool) → (c == 79) ≡ e → (f : Bool) → (c == 98) ≡ f → (g : Bool) → (c == 66) ≡ g
        → cond (a || b) (Some 16) (cond (d || e) (Some 8) (cond (f || g) (Some 2) None)) ≡ Some base → belongs class.Numeral c ≡ true
    go true i b j d k e l f m g n h = letter c 120 i refl
    go false i true j d k e l f m g n h = letter c 88 j refl
    go false i false j true k e l f m g n h = letter c 111 k refl
    go false i false j false k true l f m g n h = letter c 79 l refl
    go false i false j false k false l true m g n h = letter c 98 m refl
    go false i false j false k false l false m true n h = letter c 66 n refl
    go false i false j false k false l false m false n h = cc

-- a zero and a character that goes on
two_run : (c : ℕ) (t : List ℕ) → belongs class.Numeral c ≡ true → (run class.Numeral (48 ∷ c ∷ t) ≡ 48 ∷ c ∷ run class.Numeral t) × (run_length class.Numeral (48 ∷ c ∷ t) ≡ run_length class.Numeral t + 2)
two_run c t is =
    let x = run_step class.Numeral 48 (48 ∷ c ∷ t) (c ∷ t) refl refl in
    let y = run_step class.Numeral c (c ∷ t) t refl is in
    (x.0 ∙ ap (λ s. 48 ∷ s) y.0, sum (run_length class.Numeral (48 ∷ c ∷ t)) (run_length class.Numeral (c ∷ t)) (run_length class.Numeral t) x.1 y.1)
  where
    sum : (m n k : ℕ) → m ≡ 1 + n → n ≡ 1 + k → m ≡ k + 2
    sum m n k x y = omega arith

some_base : (base c : ℕ) (s : List ℕ) → base_of c ≡ Some base → numeral (48 ∷ c ∷ s) ≡ digits base (past_underscore s)
unfolding numeral
some_base base c s e = go (c == 120 || c == 88) (c == 111 || c == 79) (c == 98 || c == 66) e
  where
    same : (n : ℕ) → Some n ≡ Some base → digits n (past_underscore s) ≡ digits base (past_underscore s)
    same n e = let is : n ≡ base = cc in ap (λ b. digits b (past_underscore s)) is

    go : (a b d : Bool) → cond a (Some 16) (cond b (Some 8) (cond d (Some 2) None)) ≡ Some base
        → cond a (digits 16 (past_underscore s)) (cond b (digits 8 (past_underscore s)) (cond d (digits 2 (past_underscore s)) (unless_positive (digits 10 (48 ∷ c ∷ s))))) ≡ digits base (past_underscore s)
    go true b d e = same 16 e
    go false true d e = same 8 e
    go false false true e = same 2 e
    go false false false e = cc

no_base : (c : ℕ) (s : List ℕ) → base_of c ≡ None → numeral (48 ∷ c ∷ s) ≡ unless_positive (digits 10 (48 ∷ c ∷ s))
unfolding numeral
no_base c s e = go (c == 120 || c == 88) (c == 111 || c == 79) (c == 98 || c == 66) e
  where
    go : (a b d : Bool) → cond {A = Option ℕ} a (Some 16) (cond b (Some 8) (cond d (Some 2) None)) ≡ None
        → cond a (digits 16 (past_underscore s)) (cond b (digits 8 (past_underscore s)) (cond d (digits 2 (past_underscore s)) (unless_positive (digits 10 (48 ∷ c ∷ s))))) ≡ unless_positive (digits 10 (48 ∷ c ∷ s))
    go true b d e = cc
    go false true d e = cc
    go false false true e = cc
    go false false false e = refl

lone : (z : ℕ) → numeral (z ∷ []) ≡ digits 10 (z ∷ [])
unfolding numeral
lone z = refl

lone_zero : numeral (48 ∷ []) ≡ unless_positive (digits 10 (48 ∷ []))
unfolding numeral digits
lone_zero = refl

nothing_read : numeral [] ≡ digits 10 []
unfolding numeral digits
nothing_read = refl

no_zero : (z x : ℕ) (s : List ℕ) → (z ≡ 48 → ⊥) → numeral (z ∷ x ∷ s) ≡ digits 10 (z ∷ x ∷ s)
unfolding numeral
no_zero z x s h = rw (differs z h) refl
  where
    differs : (z : ℕ) → (z ≡ 48 → ⊥) → (z == 48) ≡ false
    differs z h = grind (arith, nat_tests)

pub prefix_run : (base z c : ℕ) (s rest : List ℕ) → 2 ≤ length s → z ≡ get_or s 0 z → z ≡ 48 → c ≡ get_or s 1 c → rest ≡ take (length s - 2) (drop 2 s) → Some base ≡ base_of c
    → (numeral (run class.Numeral s) ≡ digits base (past_underscore (run class.Numeral rest))) × (run_length class.Numeral s ≡ run_length class.Numeral rest + 2)
prefix_run base f c [] rest there first zero here behind e = absurd (omega arith)
prefix_run base f c (z ∷ []) rest there first zero here behind e = absurd (omega arith)
prefix_run base f c (z ∷ x ∷ t) rest there first zero here behind e = let is : z ≡ 48 = sym first ∙ zero in rw (is, ← here, behind, take_all (length (z ∷ x ∷ t) - 2) t (omega arith)) (ap numeral two.0 ∙ some_base base c (run class.Numeral t) (sym e), two.1)
  where
    two : (run class.Numeral (48 ∷ c ∷ t) ≡ 48 ∷ c ∷ run class.Numeral t) × (run_length class.Numeral (48 ∷ c ∷ t) ≡ run_length class.Numeral t + 2)
    two = two_run c t (base_letter c base (sym e))

pub zero_run : (z c : ℕ) (s : List ℕ) → 2 ≤ length s → z ≡ get_or s 0 z → z ≡ 48 → c ≡ get_or s 1 c → None ≡ base_of c → numeral (run class.Numeral s) ≡ unless_positive (digits 10 (run class.Numeral s))
zero_run f c [] there first zero here e = absurd (omega arith)
zero_run f c (z ∷ []) there first zero here e = absurd (omega arith)
zero_run f c (z ∷ x ∷ t) there first zero here e = let is : z ≡ 48 = sym first ∙ zero in rw (is, ← here) (go (belongs class.Numeral c) refl)
  where
    go : (b : Bool) → belongs class.Numeral c ≡ b → numeral (run class.Numeral (48 ∷ c ∷ t)) ≡ unless_positive (digits 10 (run class.Numeral (48 ∷ c ∷ t)))
    go true is = let r = (two_run c t is).0 in ap numeral r ∙ no_base c (run class.Numeral t) (sym e) ∙ ap (λ s. unless_positive (digits 10 s)) (sym r)
    go false is =
        let r = (run_step class.Numeral 48 (48 ∷ c ∷ t) (c ∷ t) refl refl).0 ∙ ap (λ s. 48 ∷ s) (run_stops class.Numeral c t is).0 in
        ap numeral r ∙ lone_zero ∙ ap (λ s. unless_positive (digits 10 s)) (sym r)

pub no_zero_first : (z : ℕ) (s : List ℕ) → 2 ≤ length s → z ≡ get_or s 0 z → (z ≡ 48 → ⊥) → get_or s 0 0 ≡ 48 → length s ≤ 1
no_zero_first z [] there is h e = absurd (omega arith)
no_zero_first z (y ∷ s) there is h e = absurd (h (is ∙ e))

pub decimal_run : (s : List ℕ) → (get_or s 0 0 ≡ 48 → length s ≤ 1) → numeral (run class.Numeral s) ≡ digits 10 (run class.Numeral s)
decimal_run [] h = nothing_read
decimal_run (z ∷ t) h = go (belongs class.Numeral z) refl
  where
    read : (z : ℕ) (t u : List ℕ) → (z ≡ 48 → length (z ∷ t) ≤ 1) → (length t ≡ 0 → length u ≡ 0) → numeral (z ∷ u) ≡ digits 10 (z ∷ u)
    read z t [] h short = lone z
    read z [] (x ∷ u) h short = absurd (let e = short refl in omega arith)
    read z (y ∷ t) (x ∷ u) h short = no_zero z x u (λ e. let f = h e in absurd (omega arith))

    none : (t : List ℕ) → length t ≡ 0 → length (run class.Numeral t) ≡ 0
    none [] e = refl
    none (y ∷ t) e = absurd (omega arith)

    go : (b : Bool) → belongs class.Numeral z ≡ b → numeral (run class.Numeral (z ∷ t)) ≡ digits 10 (run class.Numeral (z ∷ t))
    go true is = let r = (run_step class.Numeral z (z ∷ t) t refl is).0 in ap numeral r ∙ read z t (run class.Numeral t) h (none t) ∙ ap (digits 10) (sym r)
    go false is = let r = (run_stops class.Numeral z t is).0 in ap numeral r ∙ nothing_read ∙ ap (digits 10) (sym r)
