-- What saves and loads do to lists of values that may be missing.
use Rattle.std.proofs.Common.{◌≡◌, ◌≢◌, ◌⊎◌, ℕ, zero, suc, ◌+◌, ◌<◌, ◌≤◌, List, [], ◌∷◌, Bool, true, false, nat_eq, if◌then◌else◌, Option, Some, None, slice_get, slice_set, length, replicate, refl, sym, ap, ◌∙◌, subst, arith, inl, inr}
use Rattle.std.proofs.lemmas.Bool.Decides.{nat_tests}
use Rattle.std.proofs.lemmas.List.{length-set}
use Rattle.std.specs.List.{AllByRecursion}
use Rattle.std.specs.Option.{option_flatten}
use Rattle.nu_value.specs.declared.value.Value.{Value}
use Rattle.nu_value.specs.declared.value.Value.TheVariants as value
use Rattle.flow_code.specs.Machine.{put}
use Rattle.generator_cut.specs.Plan.{Has}

-- what stands at a number, if it is there and has a value
abbrev pub item : List (Option Value) → ℕ → Option Value
item xs n = option_flatten (slice_get xs n)

-- what the C program has, where flat code has so much
abbrev pub Fine : Option Value → Option Value → Type 0
Fine (Some v) c = c ≡ Some v
Fine None c = Unit {0}

pub record HasValue (c : Option Value) : Type 0 where
  pub value : Value
  pub is : c ≡ Some value

choose_is : {A : Type 0} {b : Bool} (x y : A) → b ≡ false → y ≡ (if b then x else y)
choose_is x y e = ap (λ b. if b then x else y) (sym e)

past_zero : (r : ℕ) → nat_eq (suc r) 0 ≡ false
past_zero r = grind (arith, nat_tests)

zero_past : (r : ℕ) → nat_eq 0 (suc r) ≡ false
zero_past r = grind (arith, nat_tests)

both_past : (r to : ℕ) → nat_eq (suc r) (suc to) ≡ nat_eq r to
both_past r to = go (nat_eq r to) refl
  where
    go : (b : Bool) → nat_eq r to ≡ b → nat_eq (suc r) (suc to) ≡ nat_eq r to
    go true e = grind (arith, nat_tests, e)
    go false e = grind (arith, nat_tests, e)

-- one item set
pub item_set : (xs : List (Option Value)) (to : ℕ) (v : Option Value) (r : ℕ) → to < length xs → item (slice_set xs to v) r ≡ (if nat_eq r to then v else item xs r)
item_set [] to v r h = absurd (omega (arith, h))
item_set (x ∷ xs) zero v zero h = refl
item_set (x ∷ xs) zero v (suc r) h = choose_is _ _ (past_zero r)
item_set (x ∷ xs) (suc to) v zero h = choose_is _ _ (zero_past to)
item_set (x ∷ xs) (suc to) v (suc r) h = item_set xs to v r (omega (arith, h)) ∙ ap (λ b. if b then v else item xs r) (sym (both_past r to))

equal_is : (r to : ℕ) → nat_eq r to ≡ true → r ≡ to
equal_is r to e = grind (arith, nat_tests, e)

unequal_is : (r to : ℕ) → nat_eq r to ≡ false → r ≢ to
unequal_is r to e = λ s. (let c : true ≡ false = sym (let t : nat_eq r to ≡ true = grind (arith, nat_tests, s) in t) ∙ e in cc)

pub item_self : (xs : List (Option Value)) (to : ℕ) (v : Option Value) → to < length xs → item (slice_set xs to v) to ≡ v
item_self xs to v h = let t : nat_eq to to ≡ true = grind (arith, nat_tests) in item_set xs to v to h ∙ ap (λ b. if b then v else item xs to) t

pub item_other : (xs : List (Option Value)) (to : ℕ) (v : Option Value) (r : ℕ) → to < length xs → r ≢ to → item (slice_set xs to v) r ≡ item xs r
item_other xs to v r h ne = item_set xs to v r h ∙ go (nat_eq r to) refl
  where
    go : (b : Bool) → nat_eq r to ≡ b → (if b then v else item xs r) ≡ item xs r
    go true e = absurd (ne (equal_is r to e))
    go false e = refl

pub item_blank : (n r : ℕ) → item (replicate n None) r ≡ None
item_blank zero r = refl
item_blank (suc n) zero = refl
item_blank (suc n) (suc r) = item_blank n r

-- a register written on both sides
pub fine_written : (xs : List (Option Value)) (registers : ℕ → Option Value) (to : ℕ) (v : Value) (r : ℕ) → to < length xs → (r ≢ to → Fine (registers r) (item xs r)) → Fine (put registers to v r) (item (slice_set xs to (Some v)) r)
fine_written xs registers to v r h f = go (nat_eq r to) refl (item_set xs to (Some v) r h)
  where
    go : (b : Bool) → nat_eq r to ≡ b → item (slice_set xs to (Some v)) r ≡ (if b then Some v else item xs r) → Fine (if b then Some v else registers r) (item (slice_set xs to (Some v)) r)
    go true e s = s
    go false e s = subst (Fine (registers r)) (sym s) (f (unequal_is r to e))

pub value_written : (xs : List (Option Value)) (to : ℕ) (v : Value) (r : ℕ) → to < length xs → (r ≢ to → HasValue (item xs r)) → HasValue (item (slice_set xs to (Some v)) r)
value_written xs to v r h f = go (nat_eq r to) refl (item_set xs to (Some v) r h)
  where
    go : (b : Bool) → nat_eq r to ≡ b → item (slice_set xs to (Some v)) r ≡ (if b then Some v else item xs r) → HasValue (item (slice_set xs to (Some v)) r)
    go true e s = record { value = v; is = s }
    go false e s = let g = f (unequal_is r to e) in record { value = g.value; is = s ∙ g.is }

-- SAVES AND LOADS

-- slots after saves, from slot n on
abbrev pub stored : ℕ → List ℕ → List (Option Value) → List (Option Value) → List (Option Value)
stored n [] registers slots = slots
stored n (r ∷ rs) registers slots = stored (n + 1) rs registers (slice_set slots n (item registers r))

-- registers after loads
abbrev pub loaded : ℕ → List ℕ → List (Option Value) → List (Option Value) → List (Option Value)
loaded n [] slots registers = registers
loaded n (r ∷ rs) slots registers = loaded (n + 1) rs slots (slice_set registers r (item slots n))

abbrev pub cleared : List ℕ → List (Option Value) → List (Option Value)
cleared [] registers = registers
cleared (r ∷ rs) registers = cleared rs (slice_set registers r (Some value.Unset))

-- slots hold what registers hold
abbrev pub Holds : ℕ → List ℕ → List (Option Value) → List (Option Value) → Type 0
Holds n [] registers slots = Unit {0}
Holds n (r ∷ rs) registers slots = (item slots n ≡ item registers r) × Holds (n + 1) rs registers slots

pub stored_length : (n : ℕ) (rs : List ℕ) (registers slots : List (Option Value)) → length (stored n rs registers slots) ≡ length slots
stored_length n [] registers slots = refl
stored_length n (r ∷ rs) registers slots = stored_length (n + 1) rs registers (slice_set slots n (item registers r)) ∙ length-set slots n (item registers r)

pub loaded_length : (n : ℕ) (rs : List ℕ) (slots registers : List (Option Value)) → length (loaded n rs slots registers) ≡ length registers
loaded_length n [] slots registers = refl
loaded_length n (r ∷ rs) slots registers = loaded_length (n + 1) rs slots (slice_set registers r (item slots n)) ∙ length-set registers r (item slots n)

pub cleared_length : (rs : List ℕ) (registers : List (Option Value)) → length (cleared rs registers) ≡ length registers
cleared_length [] registers = refl
cleared_length (r ∷ rs) registers = cleared_length rs (slice_set registers r (Some value.Unset)) ∙ length-set registers r (Some value.Unset)

-- saves from slot n on leave the slots below
stored_below : (n m : ℕ) (rs : List ℕ) (registers slots : List (Option Value)) → m < n → n + length rs ≤ length slots → item (stored n rs registers slots) m ≡ item slots m
stored_below n m [] registers slots h le = refl
stored_below n m (r ∷ rs) registers slots h le =
    stored_below (n + 1) m rs registers (slice_set slots n (item registers r)) (omega (arith, h)) (omega (arith, le, length-set slots n (item registers r)))
    ∙ item_other slots n (item registers r) m (omega (arith, le)) (λ e. omega (arith, e, h))

pub stored_holds : (n : ℕ) (rs : List ℕ) (registers slots : List (Option Value)) → n + length rs ≤ length slots → Holds n rs registers (stored n rs registers slots)
stored_holds n [] registers slots le = tt
stored_holds n (r ∷ rs) registers slots le =
    let same = length-set slots n (item registers r) in (
      stored_below (n + 1) n rs registers (slice_set slots n (item registers r)) (omega arith) (omega (arith, le, same)) ∙ item_self slots n (item registers r) (omega (arith, le)),
      stored_holds (n + 1) rs registers (slice_set slots n (item registers r)) (omega (arith, le, same)),
    )

-- a register that is loaded, or that has its value already, has what it had when slots were saved
pub loaded_right : (n : ℕ) (rs : List ℕ) (old slots new : List (Option Value)) (r : ℕ) → Holds n rs old slots → AllByRecursion (λ x. x < length new) rs → Has r rs ⊎ (item new r ≡ item old r) → item (loaded n rs slots new) r ≡ item old r
loaded_right n [] old slots new r h all (inl has) = absurd has
loaded_right n [] old slots new r h all (inr e) = e
loaded_right n (x ∷ rs) old slots new r h all has =
    let same = length-set new x (item slots n) in
    loaded_right (n + 1) rs old slots (slice_set new x (item slots n)) r h.1 (small rs all.1 same) (go (nat_eq r x) refl has)
  where
    small : (ys : List ℕ) → AllByRecursion (λ y. y < length new) ys → length (slice_set new x (item slots n)) ≡ length new → AllByRecursion (λ y. y < length (slice_set new x (item slots n))) ys
    small ys a same = subst (λ k. AllByRecursion (λ y. y < k) ys) (sym same) a

    go : (b : Bool) → nat_eq r x ≡ b → Has r (x ∷ rs) ⊎ (item new r ≡ item old r) → Has r rs ⊎ (item (slice_set new x (item slots n)) r ≡ item old r)
    go true e has = let s = equal_is r x e in inr (subst (λ y. item (slice_set new x (item slots n)) y ≡ item old y) (sym s) (item_self new x (item slots n) all.0 ∙ h.0))
    go false e (inl (inl s)) = absurd (unequal_is r x e s)
    go false e (inl (inr has)) = inl has
    go false e (inr s) = inr (item_other new x (item slots n) r all.0 (unequal_is r x e) ∙ s)

pub cleared_has : (rs : List ℕ) (new : List (Option Value)) (r : ℕ) → AllByRecursion (λ x. x < length new) rs → Has r rs ⊎ HasValue (item new r) → HasValue (item (cleared rs new) r)
cleared_has [] new r all (inl has) = absurd has
cleared_has [] new r all (inr h) = h
cleared_has (x ∷ rs) new r all has =
    cleared_has rs (slice_set new x (Some value.Unset)) r (subst (λ k. AllByRecursion (λ y. y < k) rs) (sym (length-set new x (Some value.Unset))) all.1) (go (nat_eq r x) refl has)
  where
    go : (b : Bool) → nat_eq r x ≡ b → Has r (x ∷ rs) ⊎ HasValue (item new r) → Has r rs ⊎ HasValue (item (slice_set new x (Some value.Unset)) r)
    go true e has = let s = equal_is r x e in inr (subst (λ y. HasValue (item (slice_set new x (Some value.Unset)) y)) (sym s) (record { value = value.Unset; is = item_self new x (Some value.Unset) all.0 }))
    go false e (inl (inl s)) = absurd (unequal_is r x e s)
    go false e (inl (inr has)) = inl has
    go false e (inr h) = inr (record { value = h.value; is = item_other new x (Some value.Unset) r all.0 (unequal_is r x e) ∙ h.is })
