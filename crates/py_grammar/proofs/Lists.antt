-- Lists that grow at their end.
use Rattle.std.proofs.Common.{◌≡◌, ℕ, ◌+◌, max, List, [], ◌∷◌, ◌++◌, refl, ap, ◌∙◌, sym, arith, append_assoc, append-nil}
use Rattle.py_grammar.specs.declared.found.Found.{Found}
use Rattle.py_grammar.specs.Parse.{found, with_part}

abbrev pub joined : {A : Type 0} → Found (List A) → List A → ℕ → Found (List A)
joined acc xs h = found (acc.tree ++ xs) (max acc.height h)

pub joined-nothing : {A : Type 0} (acc : Found (List A)) → acc ≡ joined acc [] 0
joined-nothing {A} acc =
    let f : List A → ℕ → Found (List A) = λ i h. found i h in
    let same : acc.height ≡ max acc.height 0 = omega arith in
    ap (λ i. f i acc.height) (sym (append-nil acc.tree)) ∙ ap (f (acc.tree ++ [])) same

pub joined-more : {A : Type 0} (acc : Found (List A)) (x : A) (g h : ℕ) (xs : List A) → joined (with_part acc (found x g)) xs h ≡ joined acc (x ∷ xs) (max g h)
joined-more {A} acc x g h xs =
    let f : List A → ℕ → Found (List A) = λ i h. found i h in
    let same : max (max acc.height g) h ≡ max acc.height (max g h) = omega arith in
    ap (λ i. f i (max (max acc.height g) h)) (append_assoc acc.tree (x ∷ []) xs) ∙ ap (f (acc.tree ++ (x ∷ xs))) same
