-- A list from one place on.
use Rattle.std.proofs.Common.{◌≡◌, ℕ, suc, ◌+◌, ◌<◌, List, ◌∷◌, length, drop, get_or, sym, ap, ◌∙◌, add-one}
use Rattle.std.proofs.Math.Seq.{drop-cons}
use Rattle.nu_value.specs.declared.value.Value.{Value}

pub there : (ys : List Value) (i : ℕ) (y : Value) → i < length ys → y ≡ get_or ys i y → drop i ys ≡ y ∷ drop (i + 1) ys
there ys i y h e = rw (add-one i) (drop-cons ys i y h ∙ ap (λ z. z ∷ drop (suc i) ys) (sym e))
