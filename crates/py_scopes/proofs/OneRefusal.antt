-- A script is refused by one rule at most.
use Rattle.std.proofs.Common.{◌≡◌, ℕ, zero, suc, refl, sym, ◌∙◌, ap, arith}
use Rattle.py_scopes.specs.declared.survey.Survey.{Survey}
use Rattle.py_scopes.specs.Rules.{Kind, rank, Refuses, Target, Loop, Function, Declare, Name, Raise, Repeat}

abbrev of_rank : ℕ → Kind
of_rank zero = Target
of_rank (suc zero) = Loop
of_rank (suc (suc zero)) = Function
of_rank (suc (suc (suc zero))) = Declare
of_rank (suc (suc (suc (suc zero)))) = Name
of_rank (suc (suc (suc (suc (suc zero))))) = Raise
of_rank n = Repeat

rank_is : (k : Kind) → of_rank (rank k) ≡ k
rank_is Target = refl
rank_is Loop = refl
rank_is Function = refl
rank_is Declare = refl
rank_is Name = refl
rank_is Raise = refl
rank_is Repeat = refl

pub one_rule : (survey : Survey) (a b : Kind) (m n : ℕ) → Refuses survey a m → Refuses survey b n → a ≡ b
one_rule survey a b m n p q =
    let ab = p.1 b q.0.place in
    let ba = q.1 a p.0.place in
    let same : rank a ≡ rank b = omega (arith, ab, ba) in
    sym (rank_is a) ∙ ap of_rank same ∙ rank_is b
