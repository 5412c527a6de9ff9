-- A slice's items are those at its places, since each place is one of the list.
use Rattle.std.proofs.Common.{◌≡◌, ℕ, zero, suc, ◌-◌, ◌*◌, ◌<◌, ◌≤◌, inl, inr, ℤ, pos, negsuc, ◌+ℤ◌, ◌-ℤ◌, ◌*ℤ◌, Bool, true, false, true≢false, List, [], ◌∷◌, ◌++◌, Option, Some, None, length, refl, sym, ap, subst, ◌∙◌, arith}
use Rattle.std.specs.Prelude.{int_lt, unsigned_abs, slice_get, if◌then◌else◌}
use Rattle.std.specs.Option.{option_to_list}
use Rattle.std.proofs.lemmas.Int.{ints}
use Rattle.std.proofs.Math.IntN.{suc_ℤ-*ℤ, *ℤ_comm, *ℤ-zero, +ℤ_assoc, +ℤ_comm, +ℤ_idr}
use Rattle.nu_value.specs.declared.value.Value.{Value}
use Rattle.nu_value.specs.Ranges.{range_count}
use Rattle.op_rules.specs.Items.{number_at}
use Rattle.op_rules.specs.Slices.{from_end, bound, first_place, end_place, item_from, picked}
use Rattle.rt_seq.specs.Laws.{slice_count, SlicesAreItems}
use Rattle.rt_seq.proofs.Numbers.{offset_short, up_is, down_is, goes_up, goes_down}
use Rattle.rt_seq.proofs.Picking.{either}

-- ---- items that are there are picked one by one

-- an item stands at a place
abbrev IsThere : List Value → ℤ → Type 0
IsThere items place = (v : Value) × (item_from items place ≡ Some v)

times_next : (step : ℤ) (k : ℕ) → step *ℤ pos (suc k) ≡ step +ℤ step *ℤ pos k
times_next step k = *ℤ_comm step (pos (suc k)) ∙ suc_ℤ-*ℤ (pos k) step ∙ ap (λ z. z +ℤ step) (*ℤ_comm (pos k) step) ∙ +ℤ_comm (step *ℤ pos k) step

-- one step more
next_place : (place step : ℤ) (k : ℕ) → (place +ℤ step) +ℤ step *ℤ pos k ≡ place +ℤ step *ℤ pos (suc k)
next_place place step k = +ℤ_assoc place step (step *ℤ pos k) ∙ ap (λ z. place +ℤ z) (sym (times_next step k))

same_place : (place step : ℤ) → place +ℤ step *ℤ pos 0 ≡ place
same_place place step = ap (λ z. place +ℤ z) (*ℤ-zero step) ∙ +ℤ_idr place

abbrev AllThere : List Value → ℤ → ℤ → ℕ → Type 0
AllThere items place step n = (k : ℕ) → k < n → IsThere items (number_at place step k)

first_there : (items : List Value) (place step : ℤ) (n : ℕ) → AllThere items place step (suc n) → IsThere items place
first_there items place step n t = subst (IsThere items) (same_place place step) (t 0 (omega arith))

rest_there : (items : List Value) (place step : ℤ) (n : ℕ) → AllThere items place step (suc n) → AllThere items (place +ℤ step) step n
rest_there items place step n t k h = subst (IsThere items) (sym (next_place place step k)) (t (suc k) (omega arith))

picked_length : (items : List Value) (place step : ℤ) (n : ℕ) → AllThere items place step n → length (picked items place step n) ≡ n
picked_length items place step zero t = refl
picked_length items place step (suc n) t =
    let v = first_there items place step n t in
    ap (λ o. length (option_to_list o ++ picked items (place +ℤ step) step n)) v.1 ∙ ap suc (picked_length items (place +ℤ step) step n (rest_there items place step n t))

picked_get : (items : List Value) (place step : ℤ) (n k : ℕ) → AllThere items place step n → k < n → slice_get (picked items place step n) k ≡ item_from items (number_at place step k)
picked_get items place step zero k t h = absurd (omega arith)
picked_get items place step (suc n) zero t h =
    let v = first_there items place step n t in
    ap (λ o. slice_get (option_to_list o ++ picked items (place +ℤ step) step n) 0) v.1 ∙ sym v.1 ∙ ap (item_from items) (sym (same_place place step))
picked_get items place step (suc n) (suc k) t h =
    let v = first_there items place step n t in
    ap (λ o. slice_get (option_to_list o ++ picked items (place +ℤ step) step n) (suc k)) v.1
    ∙ picked_get items (place +ℤ step) step n k (rest_there items place step n t) (omega arith)
    ∙ ap (item_from items) (next_place place step k)

-- ---- places lie in the list

there_at : (items : List Value) (m : ℕ) → m < length items → IsThere items (pos m)
there_at [] m h = absurd (omega arith)
there_at (x ∷ items) zero h = (x, refl)
there_at (x ∷ items) (suc m) h = let t = there_at items m (omega arith) in (t.0, t.1)

there : (items : List Value) (place : ℤ) → int_lt place (pos 0) ≡ false → int_lt place (pos (length items)) ≡ true → IsThere items place
there items (pos m) g h = there_at items m (below m (length items) h)
  where
    below : (m n : ℕ) → int_lt (pos m) (pos n) ≡ true → m < n
    below m n h = grind (arith, ints)
there items (negsuc m) g h = absurd (never m g)
  where
    never : (m : ℕ) → int_lt (negsuc m) (pos 0) ≡ false → ⊥
    never m g = grind (arith, ints)

-- a number from the first on, and before the end
after_first : (first end : ℤ) (m : ℕ) → int_lt (first +ℤ pos m) first ≡ false
after_first first end m = grind (arith, ints)

before_end : (first end : ℤ) (m : ℕ) → int_lt first end ≡ true → m ≤ unsigned_abs (first -ℤ end) - 1 → int_lt (first +ℤ pos m) end ≡ true
before_end first end m h l = grind (arith, ints)

before_first : (first : ℤ) (m : ℕ) → int_lt first (first -ℤ pos m) ≡ false
before_first first m = grind (arith, ints)

after_end : (first end : ℤ) (m : ℕ) → int_lt end first ≡ true → m ≤ unsigned_abs (first -ℤ end) - 1 → int_lt end (first -ℤ pos m) ≡ true
after_end first end m h l = grind (arith, ints)

not_below : (a b : ℤ) → int_lt a b ≡ false → int_lt b (pos 0) ≡ false → int_lt a (pos 0) ≡ false
not_below a b h g = grind (arith, ints)

below_length : (a b : ℤ) (len : ℕ) → int_lt a b ≡ true → int_lt (pos len) b ≡ false → int_lt a (pos len) ≡ true
below_length a b len h g = grind (arith, ints)

not_negative : (a b : ℤ) → int_lt b a ≡ true → int_lt b (negsuc 0) ≡ false → int_lt a (pos 0) ≡ false
not_negative a b h g = grind (arith, ints)

at_most_last : (a b : ℤ) (len : ℕ) → int_lt b a ≡ false → int_lt (pos len -ℤ pos 1) b ≡ false → int_lt a (pos len) ≡ true
at_most_last a b len h g = grind (arith, ints)

up_there : (items : List Value) (first end step : ℤ) (k : ℕ) → int_lt first (pos 0) ≡ false → int_lt (pos (length items)) end ≡ false → k < range_count first end step → int_lt (pos 0) step ≡ true → IsThere items (number_at first step k)
up_there items first end step k f e h s =
    subst (IsThere items) (up_is first step k s)
    (there items (first +ℤ pos (k * unsigned_abs step)) (not_below _ first (after_first first end (k * unsigned_abs step)) f)
    (below_length _ end (length items) (before_end first end (k * unsigned_abs step) (goes_up first end step k h s) (offset_short first end step k h)) e))

down_there : (items : List Value) (first end step : ℤ) (k : ℕ) → int_lt (pos (length items) -ℤ pos 1) first ≡ false → int_lt end (negsuc 0) ≡ false → k < range_count first end step → int_lt (pos 0) step ≡ false → IsThere items (number_at first step k)
down_there items first end step k f e h s =
    subst (IsThere items) (down_is first step k s)
    (there items (first -ℤ pos (k * unsigned_abs step))
    (not_negative _ end (after_end first end (k * unsigned_abs step) (goes_down first end step k h s) (offset_short first end step k h)) e)
    (at_most_last _ first (length items) (before_first first (k * unsigned_abs step)) f))

-- ---- bounds are cut

not_less : (a : ℤ) → int_lt a a ≡ false
not_less a = grind (arith, ints)

low_by : (b d : Bool) (low high z : ℤ) → int_lt z low ≡ b → int_lt high low ≡ false → int_lt (if b then low else if d then high else z) low ≡ false
low_by true d low high z e h = not_less low
low_by false true low high z e h = h
low_by false false low high z e h = e

high_by : (b d : Bool) (low high z : ℤ) → int_lt high z ≡ d → int_lt high low ≡ false → int_lt high (if b then low else if d then high else z) ≡ false
high_by true d low high z e h = h
high_by false true low high z e h = not_less high
high_by false false low high z e h = e

bound_low : (count : ℕ) (missing low high : ℤ) (z : Option ℤ) → int_lt missing low ≡ false → int_lt high low ≡ false → int_lt (bound count missing low high z) low ≡ false
bound_low count missing low high None m h = m
bound_low count missing low high (Some z) m h = low_by (int_lt (from_end count z) low) (int_lt high (from_end count z)) low high (from_end count z) refl h

bound_high : (count : ℕ) (missing low high : ℤ) (z : Option ℤ) → int_lt high missing ≡ false → int_lt high low ≡ false → int_lt high (bound count missing low high z) ≡ false
bound_high count missing low high None m h = m
bound_high count missing low high (Some z) m h = high_by (int_lt (from_end count z) low) (int_lt high (from_end count z)) low high (from_end count z) refl h

length_low : (count : ℕ) → int_lt (pos count) (pos 0) ≡ false
length_low count = grind (arith, ints)

last_low : (count : ℕ) → int_lt (pos count -ℤ pos 1) (negsuc 0) ≡ false
last_low count = grind (arith, ints)

chosen : (P : ℤ → Type 0) (b : Bool) (x y : ℤ) → b ≡ true → P x → P (if b then x else y)
chosen P true x y e p = p
chosen P false x y e p = absurd (true≢false (sym e))

other : (P : ℤ → Type 0) (b : Bool) (x y : ℤ) → b ≡ false → P y → P (if b then x else y)
other P true x y e p = absurd (true≢false e)
other P false x y e p = p

all_there : (items : List Value) (start stop : Option ℤ) (step : ℤ) → AllThere items (first_place (length items) step start) step (slice_count (length items) start stop step)
all_there items start stop step k h =
    elim (either (int_lt (pos 0) step)) [
      | inl s ↦
          up_there items (first_place (length items) step start) (end_place (length items) step stop) step k
          (chosen (λ z. int_lt z (pos 0) ≡ false) (int_lt (pos 0) step) (bound (length items) (pos 0) (pos 0) (pos (length items)) start) (bound (length items) (pos (length items) -ℤ pos 1) (negsuc 0) (pos (length items) -ℤ pos 1) start) s (bound_low (length items) (pos 0) (pos 0) (pos (length items)) start (not_less (pos 0)) (length_low (length items))))
          (chosen (λ z. int_lt (pos (length items)) z ≡ false) (int_lt (pos 0) step) (bound (length items) (pos (length items)) (pos 0) (pos (length items)) stop) (bound (length items) (negsuc 0) (negsuc 0) (pos (length items) -ℤ pos 1) stop) s
          (bound_high (length items) (pos (length items)) (pos 0) (pos (length items)) stop (not_less (pos (length items))) (length_low (length items))))
          h s
      | inr s ↦
          down_there items (first_place (length items) step start) (end_place (length items) step stop) step k
          (other (λ z. int_lt (pos (length items) -ℤ pos 1) z ≡ false) (int_lt (pos 0) step) (bound (length items) (pos 0) (pos 0) (pos (length items)) start) (bound (length items) (pos (length items) -ℤ pos 1) (negsuc 0) (pos (length items) -ℤ pos 1) start) s
          (bound_high (length items) (pos (length items) -ℤ pos 1) (negsuc 0) (pos (length items) -ℤ pos 1) start (not_less (pos (length items) -ℤ pos 1)) (last_low (length items))))
          (other (λ z. int_lt z (negsuc 0) ≡ false) (int_lt (pos 0) step) (bound (length items) (pos (length items)) (pos 0) (pos (length items)) stop) (bound (length items) (negsuc 0) (negsuc 0) (pos (length items) -ℤ pos 1) stop) s
          (bound_low (length items) (negsuc 0) (negsuc 0) (pos (length items) -ℤ pos 1) stop (not_less (negsuc 0)) (last_low (length items))))
          h s
    ]

pub slices : SlicesAreItems
slices =
    record {
      lengths = λ items start stop step. picked_length items (first_place (length items) step start) step (slice_count (length items) start stop step) (all_there items start stop step);
      places =
          λ items start stop step k h.
          picked_get items (first_place (length items) step start) step (slice_count (length items) start stop step) k (all_there items start stop step) h;
    }
