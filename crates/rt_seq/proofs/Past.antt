-- Changes behind the end of a list.
use Rattle.std.proofs.Common.{◌≡◌, ℕ, suc, ◌≤◌, List, [], ◌∷◌, ◌++◌, length, drop, ap, ◌∙◌, arith}
use Rattle.std.specs.Prelude.{slice_set, insert, remove}
use Rattle.std.proofs.lemmas.List.{append-nil, drop_all, take_all, set_past}
use Rattle.nu_value.specs.declared.value.Value.{Value}

pub nothing_set : (xs : List Value) (i : ℕ) (v : Value) → length xs ≤ i → slice_set xs i v ≡ xs
nothing_set xs i v h = set_past xs i v h

pub insert_behind : (xs : List Value) (i : ℕ) (v : Value) → length xs ≤ i → insert xs i v ≡ xs ++ v ∷ []
insert_behind xs i v h = ap (λ t. t ++ v ∷ drop i xs) (take_all i xs h) ∙ ap (λ d. xs ++ v ∷ d) (drop_all i xs h)

pub nothing_removed : (xs : List Value) (i : ℕ) → length xs ≤ i → remove xs i ≡ xs
nothing_removed xs i h =
    ap (λ t. t ++ drop (suc i) xs) (take_all i xs h) ∙ ap (λ d. xs ++ d) (drop_all (suc i) xs (omega arith)) ∙ append-nil xs
