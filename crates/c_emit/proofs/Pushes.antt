-- Lists that are written one after another.
use Rattle.std.proofs.Common.{◌≡◌, ℕ, zero, suc, ◌+◌, ◌-◌, ◌<◌, ◌≤◌, List, ◌∷◌, ◌++◌, length, get_or, take, drop, refl, sym, ◌∙◌, ap, subst, append_assoc, append-nil, arith, decimal, [], OnOk, Result, Option, Some, None, unwrap_or}
use Rattle.std.proofs.Math.Seq.{drop-cons}
use Rattle.std.specs.Prelude.{codes, slice_get}
use Rattle.std.specs.List.{flat_map}
use Rattle.nu_value.specs.declared.header.ParamKind.{ParamKind}
use Rattle.c_meaning.specs.Text.{numbered, more_registers, declaration_text, param_text, spaced_text, params_text}

pub more_registers_step : (n i : ℕ) → i < n → more_registers (n - i) i ≡ codes ", r" ++ decimal i ++ more_registers (n - (i + 1)) (i + 1)
more_registers_step n i h =
    let next : n - i ≡ suc (n - (i + 1)) = omega arith in
    ap (λ m. more_registers m i) next

pub declaration_some : (n : ℕ) → 0 < n → declaration_text n ≡ codes "  nu r0" ++ more_registers (n - 1) 1 ++ codes ";\n"
declaration_some n h =
    let next : n ≡ suc (n - 1) = omega arith in
    ap declaration_text next

-- the items from a number on are its own and those from the next number on
pub numbered_drop : {A : Type 0} (text : ℕ → A → List ℕ) (items : List A) (k : ℕ) (item : A) → k < length items → item ≡ get_or items k item → numbered text k (drop k items) ≡ text k item ++ numbered text (k + 1) (drop (k + 1) items)
numbered_drop text items k item h e =
    let next : k + 1 ≡ suc k = omega arith in
    let tail : drop (k + 1) items ≡ drop (suc k) items = ap (λ n. drop n items) next in
    rw tail (ap (λ l. numbered text k l) (drop-cons items k item h ∙ ap (λ g. g ∷ drop (suc k) items) (sym e)))

pub ruleset declaration = (more_registers_step, declaration_some, append_assoc)

pub ruleset sequences = (numbered_drop, append_assoc)

-- a text to which three parts were added
pub three_parts : {E A : Type 0} (r : Result A E) (t one two all a b c : List ℕ) → one ≡ t ++ a → two ≡ one ++ b → OnOk r (all ≡ two ++ c) → OnOk r (all ≡ t ++ (a ++ (b ++ (c ++ []))))
three_parts r t one two all a b c p q h =
    let e : two ++ c ≡ t ++ (a ++ (b ++ (c ++ []))) = ap (λ l. l ++ c) (q ∙ ap (λ l. l ++ b) p) ∙ append_assoc (t ++ a) b c ∙ append_assoc t a (b ++ c) ∙ ap (λ l. t ++ (a ++ (b ++ l))) (sym (append-nil c)) in
    subst (λ l. OnOk r (all ≡ l)) e h

pub three_pieces : {E A : Type 0} (r : Result A E) (t one two all a b c : List ℕ) → one ≡ t ++ a → two ≡ one ++ b → OnOk r (all ≡ two ++ c) → OnOk r (all ≡ t ++ (a ++ (b ++ c)))
three_pieces r t one two all a b c p q h =
    let e : two ++ c ≡ t ++ (a ++ (b ++ c)) = ap (λ l. l ++ c) (q ∙ ap (λ l. l ++ b) p) ∙ append_assoc (t ++ a) b c ∙ append_assoc t a (b ++ c) in
    subst (λ l. OnOk r (all ≡ l)) e h

-- the first parameter
pub first_param : (params : List (ParamKind × List ℕ)) (p : ParamKind × List ℕ) → Some p ≡ slice_get params 0 → param_text p ≡ params_text (take 1 params)
first_param [] p e = absurd (some_none e)
  where
    some_none : Some p ≡ None → ⊥
    some_none e = grind (arith, e)
first_param (q ∷ params) p e = ap param_text (ap (λ o. unwrap_or o p) e) ∙ sym (append-nil (param_text q))

-- one parameter more
flat_next : (params : List (ParamKind × List ℕ)) (i : ℕ) (p : ParamKind × List ℕ) → Some p ≡ slice_get params i → flat_map spaced_text (take (suc i) params) ≡ flat_map spaced_text (take i params) ++ (32 ∷ param_text p)
flat_next [] i p e = absurd (some_none e)
  where
    some_none : Some p ≡ None → ⊥
    some_none e = grind (arith, e)
flat_next (q ∷ params) zero p e = append-nil (spaced_text q) ∙ sym (ap spaced_text (ap (λ o. unwrap_or o p) e))
flat_next (q ∷ params) (suc i) p e = ap (λ l. spaced_text q ++ l) (flat_next params i p e) ∙ sym (append_assoc (spaced_text q) (flat_map spaced_text (take i params)) (32 ∷ param_text p))

params_next : (params : List (ParamKind × List ℕ)) (i : ℕ) (p : ParamKind × List ℕ) → Some p ≡ slice_get params (suc i) → params_text (take (suc (suc i)) params) ≡ params_text (take (suc i) params) ++ (32 ∷ param_text p)
params_next [] i p e = absurd (some_none e)
  where
    some_none : Some p ≡ None → ⊥
    some_none e = grind (arith, e)
params_next (q ∷ params) i p e = ap (λ l. param_text q ++ l) (flat_next params i p e) ∙ sym (append_assoc (param_text q) (flat_map spaced_text (take i params)) (32 ∷ param_text p))

pub next_param : (params : List (ParamKind × List ℕ)) (i : ℕ) (p : ParamKind × List ℕ) (old one new : List ℕ) → 1 ≤ i → Some p ≡ slice_get params i → old ≡ params_text (take i params) → one ≡ old ++ 32 ∷ [] → new ≡ one ++ param_text p → new ≡ params_text (take (i + 1) params)
next_param params i p old one new h e a b c =
    let m = i - 1 in
    let is : i ≡ suc m = omega (arith, h) in
    let next : i + 1 ≡ suc (suc m) = omega (arith, h) in
    c ∙ ap (λ l. l ++ param_text p) (b ∙ ap (λ l. l ++ 32 ∷ []) (a ∙ ap (λ n. params_text (take n params)) is)) ∙ append_assoc (params_text (take (suc m) params)) (32 ∷ []) (param_text p)
    ∙ sym (params_next params m p (e ∙ ap (slice_get params) is)) ∙ ap (λ n. params_text (take n params)) (sym next)

-- no parameter
pub no_param : (params : List (ParamKind × List ℕ)) → None ≡ slice_get params 0 → [] ≡ params_text params
no_param [] e = refl
no_param (p ∷ params) e = absurd (none_some e)
  where
    none_some : None ≡ Some p → ⊥
    none_some e = grind (arith, e)
