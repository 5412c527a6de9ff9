-- Lists that are written item by item.
use Rattle.std.proofs.Common.{◌≡◌, ℕ, suc, ◌+◌, ◌-◌, ◌<◌, List, [], ◌∷◌, ◌++◌, refl, sym, ap, ◌∙◌, append_assoc, arith}
use Rattle.flow_code.specs.declared.statement.Line.{Line as FlatLine}
use Rattle.flow_code.specs.declared.statement.Line.TheVariants as flat_line
use Rattle.flow_code.specs.declared.statement.Statement.{Statement as FlatStatement}
use Rattle.flow_code.specs.declared.statement.Statement.TheVariants as flat
use Rattle.flow_code.specs.Contents.{yields}
use Rattle.generator_cut.specs.Cut.{counted, behind, behind_line}

pub counted_step : (count i first : ℕ) (old new : List ℕ) → i < count → new ≡ old ++ (first + i) ∷ [] → new ++ counted (count - (i + 1)) (first + (i + 1)) ≡ old ++ counted (count - i) (first + i)
counted_step count i first old new h e =
    let next : count - i ≡ suc (count - (i + 1)) = omega arith in
    let s : first + i + 1 ≡ first + (i + 1) = omega arith in
    ap (λ l. l ++ counted (count - (i + 1)) (first + (i + 1))) e ∙ append_assoc old ((first + i) ∷ []) (counted (count - (i + 1)) (first + (i + 1)))
    ∙ ap (λ k. old ++ (first + i) ∷ counted (count - (i + 1)) k) (sym s) ∙ ap (λ k. old ++ counted k (first + i)) (sym next)

-- the pauses of a line and of those behind it
yields_do : (i : ℕ) (x : FlatStatement) (left : List FlatLine) → behind i x + yields left ≡ i + yields (flat_line.Do x ∷ left)
yields_do i (flat.Store to a) left = omega arith
yields_do i (flat.Unset to) left = omega arith
yields_do i (flat.Parameter to n) left = omega arith
yields_do i (flat.Free to n) left = omega arith
yields_do i (flat.Do to at o args fail) left = omega arith
yields_do i (flat.Goto l) left = omega arith
yields_do i (flat.Branch test l) left = omega arith
yields_do i (flat.Caught to) left = omega arith
yields_do i (flat.Again a l) left = omega arith
yields_do i (flat.Give a) left = omega arith
yields_do i flat.End left = omega arith
yields_do i flat.Fail left = omega arith
yields_do i (flat.Yield to at a fail) left = omega arith

pub yields_more : (i : ℕ) (one : FlatLine) (left : List FlatLine) → behind_line i one + yields left ≡ i + yields (one ∷ left)
yields_more i (flat_line.Label l) left = refl
yields_more i (flat_line.Do x) left = yields_do i x left
