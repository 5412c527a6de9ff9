-- What stands behind the front of a list.
use Rattle.std.proofs.Common.{◌≡◌, ◌∙◌, ◌+◌, ◌≤◌, ◌++◌, ℕ, List, Vec, Global, vec_len, length, take, drop, ap, sym, arith}
use Rattle.std.proofs.lemmas.List.{take-append-drop, length-drop}

-- a vector that begins with the elements of another one, and has at most so many more
pub behind_front : (old new : Vec ℕ Global) (n limit : ℕ) → take (vec_len old) new.items ≡ old.items → vec_len new ≡ vec_len old + n → n ≤ limit → (bytes : List ℕ) × (new.items ≡ old.items ++ bytes) × (length bytes ≤ limit) × Unit {0}
behind_front old new n limit front len fits =
    let rest : List ℕ = drop (vec_len old) new.items in
    let whole : new.items ≡ old.items ++ rest = sym (take-append-drop (vec_len old) new.items) ∙ ap (λ l. l ++ rest) front in
    (rest, whole, rw (length-drop (vec_len old) new.items, sym new.ok.0) (omega (arith, len, fits)), tt)
