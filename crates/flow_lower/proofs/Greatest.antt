-- The greatest register of lines.
use Rattle.std.proofs.Common.{◌≡◌, ℕ, suc, max, ◌<◌, ◌≤◌, List, [], ◌∷◌, ◌++◌, refl, ap, arith}
use Rattle.std.specs.List.{AllByRecursion}
use Rattle.flow_code.specs.declared.statement.Line.{Line}
use Rattle.flow_code.specs.Registers.{line_registers, registers, above}

pub below : (ns : List ℕ) (n : ℕ) → above ns ≤ n → AllByRecursion (λ r. r < n) ns
below [] n h = tt
below (r ∷ ns) n h = (omega (arith, h), below ns n (omega (arith, h)))

above_append : (ns ms : List ℕ) → above (ns ++ ms) ≡ max (above ns) (above ms)
above_append [] ms = let e : above ms ≡ max 0 (above ms) = omega arith in e
above_append (n ∷ ns) ms =
    let e : above (ns ++ ms) ≡ max (above ns) (above ms) = above_append ns ms in
    let l : above ((n ∷ ns) ++ ms) ≡ max (suc n) (above (ns ++ ms)) = refl in
    let r : above (n ∷ ns) ≡ max (suc n) (above ns) = refl in
    omega (arith, e, l, r)

-- one more line
pub registers_more : (count n m : ℕ) (x : Line) (lines rest : List Line) → m ≡ max count n → n ≡ above (line_registers x) → rest ≡ x ∷ lines → max m (above (registers lines)) ≡ max count (above (registers rest))
registers_more count n m x lines rest em en er =
    let e = above_append (line_registers x) (registers lines) in
    let f : above (registers rest) ≡ above (line_registers x ++ registers lines) = ap (λ l. above (registers l)) er in
    omega (arith, em, en, e, f)
