-- A larger bound prints an extension, and an end stays.
use Rattle.std.proofs.Common.{◌≡◌, ℕ, zero, suc, ◌≤◌, List, [], ◌∷◌, ◌++◌, refl, sym, ap, ◌∙◌, subst, ⊎_elim, arith, append_assoc}
use Rattle.std.proofs.lemmas.Bool.{cases_lt}
use Rattle.nu_rows.specs.Rows.{End, Next, Leave, Raised, Return, Stopped, Undefined, Step, First, Second, Start, Begin, Back, Res, Spent, Paused, Ended, Effect, Row, Act, Yld, Part, Then, Loop, Sub, Left, AtPause, AtEnd, Entry, Into, Instead, left_by, entered, shift, after, before, turned, interp, run, does}
use Rattle.nu_run.specs.Runs.{IsPrefix}
use Rattle.nu_run.proofs.Runs.{prefix_refl, prefix_more, prefix_trans}
use Rattle.nu_rows.specs.Sim.{printed, Grow, Growing, Places, Ends, Below}

pub prefix_nil : (xs : List ℕ) → IsPrefix [] xs
prefix_nil xs = record { rest = xs; is = refl }

-- the same in front of both
pub prefix_behind : (o xs ys : List ℕ) → IsPrefix xs ys → IsPrefix (o ++ xs) (o ++ ys)
prefix_behind o xs ys a = record { rest = a.rest; is = ap (λ u. o ++ u) a.is ∙ sym (append_assoc o xs a.rest) }

pub grow_refl : {S : Type 0} (r : Res S) → Grow r r
grow_refl (Spent o) = prefix_refl o
grow_refl (Paused o s v p) = refl
grow_refl (Ended o s e) = refl

pub grow_printed : {S : Type 0} (r r' : Res S) → Grow r r' → IsPrefix (printed r) (printed r')
grow_printed (Spent o) r' h = h
grow_printed (Paused o s v p) r' h = subst (λ x. IsPrefix o (printed x)) (sym h) (prefix_refl o)
grow_printed (Ended o s e) r' h = subst (λ x. IsPrefix o (printed x)) (sym h) (prefix_refl o)

pub grow_trans : {S : Type 0} (r r' r'' : Res S) → Grow r r' → Grow r' r'' → Grow r r''
grow_trans (Spent o) r' r'' h k = prefix_trans o (printed r') (printed r'') h (grow_printed r' r'' k)
grow_trans (Paused o s v p) r' r'' h k = subst (λ x. Grow x r'') h k
grow_trans (Ended o s e) r' r'' h k = subst (λ x. Grow x r'') h k

pub shift_printed : {S : Type 0} (o : List ℕ) (x : Step) (r : Res S) → printed (shift o x r) ≡ o ++ printed r
shift_printed o x (Spent p) = refl
shift_printed o x (Paused p s v q) = refl
shift_printed o x (Ended p s e) = refl

pub before_printed : {S : Type 0} (o : List ℕ) (r : Res S) → printed (before o r) ≡ o ++ printed r
before_printed o (Spent p) = refl
before_printed o (Paused p s v q) = refl
before_printed o (Ended p s e) = refl

pub after_printed : {S : Type 0} (r : Res S) (g : End → S → Res S) → IsPrefix (printed r) (printed (after r g))
after_printed (Spent o) g = prefix_refl o
after_printed (Paused o s v p) g = prefix_refl o
after_printed (Ended o s e) g = subst (λ u. IsPrefix o u) (sym (shift_printed o (Second e) (g e s))) (prefix_more o (printed (g e s)))

pub turned_printed : {S : Type 0} (r : Res S) (g : S → Res S) → IsPrefix (printed r) (printed (turned r g))
turned_printed (Spent o) g = prefix_refl o
turned_printed (Paused o s v p) g = prefix_refl o
turned_printed (Ended o s (Next v)) g = subst (λ u. IsPrefix o u) (sym (before_printed o (g s))) (prefix_more o (printed (g s)))
turned_printed (Ended o s (Leave zero)) g = prefix_refl o
turned_printed (Ended o s (Leave (suc n))) g = prefix_refl o
turned_printed (Ended o s (Raised v)) g = prefix_refl o
turned_printed (Ended o s (Return v)) g = prefix_refl o
turned_printed (Ended o s (Stopped k)) g = prefix_refl o
turned_printed (Ended o s Undefined) g = prefix_refl o

pub shift_grow : {S : Type 0} (o : List ℕ) (x : Step) (r r' : Res S) → Grow r r' → Grow (shift o x r) (shift o x r')
shift_grow o x (Spent p) r' h = subst (λ u. IsPrefix (o ++ p) u) (sym (shift_printed o x r')) (prefix_behind o p (printed r') h)
shift_grow o x (Paused p s v q) r' h = ap (λ u. shift o x u) h
shift_grow o x (Ended p s e) r' h = ap (λ u. shift o x u) h

pub before_grow : {S : Type 0} (o : List ℕ) (r r' : Res S) → Grow r r' → Grow (before o r) (before o r')
before_grow o (Spent p) r' h = subst (λ u. IsPrefix (o ++ p) u) (sym (before_printed o r')) (prefix_behind o p (printed r') h)
before_grow o (Paused p s v q) r' h = ap (λ u. before o u) h
before_grow o (Ended p s e) r' h = ap (λ u. before o u) h

pub after_grow : {S : Type 0} (r r' : Res S) (g g' : End → S → Res S) → Grow r r' → ((e : End) (s : S) → Grow (g e s) (g' e s)) → Grow (after r g) (after r' g')
after_grow (Spent o) r' g g' h k = prefix_trans o (printed r') (printed (after r' g')) h (after_printed r' g')
after_grow (Paused o s v p) r' g g' h k = ap (λ u. after u g') h
after_grow (Ended o s e) r' g g' h k =
    subst (λ u. Grow (shift o (Second e) (g e s)) (after u g')) (sym h) (shift_grow o (Second e) (g e s) (g' e s) (k e s))

pub turned_grow : {S : Type 0} (r r' : Res S) (g g' : S → Res S) → Grow r r' → ((s : S) → Grow (g s) (g' s)) → Grow (turned r g) (turned r' g')
turned_grow (Spent o) r' g g' h k = prefix_trans o (printed r') (printed (turned r' g')) h (turned_printed r' g')
turned_grow (Paused o s v p) r' g g' h k = ap (λ u. turned u g') h
turned_grow (Ended o s (Next v)) r' g g' h k =
    subst (λ u. Grow (before o (g s)) (turned u g')) (sym h) (before_grow o (g s) (g' s) (k s))
turned_grow (Ended o s (Leave zero)) r' g g' h k = ap (λ u. turned u g') h
turned_grow (Ended o s (Leave (suc n))) r' g g' h k = ap (λ u. turned u g') h
turned_grow (Ended o s (Raised v)) r' g g' h k = ap (λ u. turned u g') h
turned_grow (Ended o s (Return v)) r' g g' h k = ap (λ u. turned u g') h
turned_grow (Ended o s (Stopped kind)) r' g g' h k = ap (λ u. turned u g') h
turned_grow (Ended o s Undefined) r' g g' h k = ap (λ u. turned u g') h

pub left_printed : {S : Type 0} (r : Res S) (leave : Left S → Effect S) → IsPrefix (printed r) (printed (left_by r leave))
left_printed (Spent o) leave = prefix_refl o
left_printed (Paused o s v p) leave = prefix_more o (leave (AtPause s v p)).out
left_printed (Ended o s e) leave = prefix_more o (leave (AtEnd s e)).out

left_grow : {S : Type 0} (r r' : Res S) (leave : Left S → Effect S) → Grow r r' → Grow (left_by r leave) (left_by r' leave)
left_grow (Spent o) r' leave h = prefix_trans o (printed r') (printed (left_by r' leave)) h (left_printed r' leave)
left_grow (Paused o s v p) r' leave h = ap (λ u. left_by u leave) h
left_grow (Ended o s e) r' leave h = ap (λ u. left_by u leave) h

entered_grow : {S I : Type 0} (rec rec' : I → Start → S → Res S) → ((i : I) (start : Start) (s : S) → Grow (rec i start s) (rec' i start s)) → (e : Entry S I) → Grow (entered rec e) (entered rec' e)
entered_grow rec rec' h (Into i start s leave) = left_grow (rec i start s) (rec' i start s) leave (h i start s)
entered_grow rec rec' h (Instead f) = refl

pub interp_grow : {S I : Type 0} (rec rec' : I → Start → S → Res S) → ((i : I) (start : Start) (s : S) → Grow (rec i start s) (rec' i start s)) → (r : Row S I) (start : Start) (s : S) → Grow (interp rec r start s) (interp rec' r start s)
interp_grow rec rec' h (Act f) Begin s = refl
interp_grow rec rec' h (Act f) (Back place how) s = refl
interp_grow rec rec' h (Yld v) Begin s = refl
interp_grow rec rec' h (Yld v) (Back [] how) s = refl
interp_grow rec rec' h (Yld v) (Back (x ∷ place) how) s = refl
interp_grow rec rec' h (Part i) start s = h i start s
interp_grow rec rec' h (Then r k) Begin s =
    after_grow (interp rec r Begin s) (interp rec' r Begin s) (λ e t. interp rec (k e) Begin t) (λ e t. interp rec' (k e) Begin t) (interp_grow rec rec' h r Begin s) (λ e t. interp_grow rec rec' h (k e) Begin t)
interp_grow rec rec' h (Then r k) (Back [] how) s = refl
interp_grow rec rec' h (Then r k) (Back (First ∷ place) how) s =
    after_grow (interp rec r (Back place how) s) (interp rec' r (Back place how) s) (λ e t. interp rec (k e) Begin t) (λ e t. interp rec' (k e) Begin t) (interp_grow rec rec' h r (Back place how) s) (λ e t. interp_grow rec rec' h (k e) Begin t)
interp_grow rec rec' h (Then r k) (Back (Second e ∷ place) how) s =
    shift_grow [] (Second e) (interp rec (k e) (Back place how) s) (interp rec' (k e) (Back place how) s) (interp_grow rec rec' h (k e) (Back place how) s)
interp_grow rec rec' h (Loop r i) start s =
    turned_grow (interp rec r start s) (interp rec' r start s) (λ t. rec i Begin t) (λ t. rec' i Begin t) (interp_grow rec rec' h r start s) (λ t. h i Begin t)
interp_grow rec rec' h (Sub enter) Begin s = entered_grow rec rec' h (enter s)
interp_grow rec rec' h (Sub enter) (Back place how) s = refl

pub run_grow : {S I : Type 0} (rows : I → Row S I) (n : ℕ) (i : I) (start : Start) (s : S) → Grow (run rows n i start s) (run rows (suc n) i start s)
run_grow rows zero i start s = prefix_nil (printed (run rows (suc zero) i start s))
run_grow rows (suc n) i start s =
    interp_grow (run rows n) (run rows (suc n)) (λ j a u. run_grow rows n j a u) (rows i) start s

pub does_grow : {S I : Type 0} (rows : I → Row S I) (r : Row S I) (start : Start) (s : S) → Growing (does rows r start s)
does_grow rows r start s n = interp_grow (run rows n) (run rows (suc n)) (λ j a u. run_grow rows n j a u) r start s

pub grows_to : {S : Type 0} (X : ℕ → Res S) → Growing X → (n m : ℕ) → n ≤ m → Grow (X n) (X m)
grows_to X g n zero le = let e : n ≡ zero = omega arith in subst (λ k. Grow (X n) (X k)) e (grow_refl (X n))
grows_to X g n (suc m) le =
    ⊎_elim
    (λ lt. let e : n ≡ suc m = omega arith in subst (λ k. Grow (X n) (X k)) e (grow_refl (X n)))
    (λ h. grow_trans (X n) (X m) (X (suc m)) (grows_to X g n m h) (g m))
    (cases_lt m n)

pub below_grow : {S T : Type 0} (P : Places S T) (Q : Ends S T) (r : Res S) (c c' : Res T) → Below P Q r c → Grow c c' → Below P Q r c'
below_grow P Q (Spent o) c c' h g = prefix_trans o (printed c) (printed c') h (grow_printed c c' g)
below_grow P Q (Paused o s v p) (Spent o') c' h g = absurd h
below_grow P Q (Paused o s v p) (Paused o' t v' q) c' h g = subst (λ u. Below P Q (Paused o s v p) u) (sym g) h
below_grow P Q (Paused o s v p) (Ended o' t e') c' h g = absurd h
below_grow P Q (Ended o s e) (Spent o') c' h g = absurd h
below_grow P Q (Ended o s e) (Paused o' t v' q) c' h g = absurd h
below_grow P Q (Ended o s e) (Ended o' t e') c' h g = subst (λ u. Below P Q (Ended o s e) u) (sym g) h
