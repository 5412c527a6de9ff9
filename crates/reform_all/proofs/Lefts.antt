-- What is left of a list, in front of an item and behind it.
use Rattle.std.proofs.Common.{◌≡◌, ℕ, suc, ◌+◌, ◌<◌, List, ◌∷◌, length, get_or, drop, sym, ap, ◌∙◌, arith}
use Rattle.std.proofs.Math.Seq.{drop-cons}

pub drop_item : {A : Type 0} (items : List A) (i : ℕ) (x : A) → i < length items → x ≡ get_or items i x → drop i items ≡ x ∷ drop (i + 1) items
drop_item items i x l e =
    let s : i + 1 ≡ suc i = omega arith in
    drop-cons items i x l ∙ ap (λ y. y ∷ drop (suc i) items) (sym e) ∙ ap (λ n. x ∷ drop n items) (sym s)
