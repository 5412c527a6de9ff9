-- Clauses are guarded from the last to the first.
use Rattle.std.proofs.Common.{◌≡◌, ℕ, map, List, [], ◌∷◌, ◌++◌, reverse, refl, sym, ap, ◌∙◌}
use Rattle.std.proofs.lemmas.List.{reverse-append}
use Rattle.carried_codes.specs.Parts.{Several, several}
use Rattle.carried_codes.specs.Clauses as clauses
use Rattle.reform_try.specs.declared.clauses.Clause.{Clause}
use Rattle.reform_try.specs.declared.clauses.Guard.{Guard}
use Rattle.reform_try.specs.Guards.{clause_of, guard_of, guards_onto}

-- in front of none
pub none_there : (t : ℕ) (cs : List clauses.Clause) → guards_onto t [] cs ≡ clauses.guards t cs
none_there t [] = refl
none_there t (c ∷ cs) = ap (λ (r : Several clauses.Guard). let g = clauses.guard r.next c in several (g.guard ∷ r.parts) g.next) (none_there t cs)

-- the last clause goes over to those that are there
last_guarded : (t : ℕ) (gs : List clauses.Guard) (cs : List Clause) (c : Clause)
    → guards_onto t gs (map clause_of (cs ++ c ∷ [])) ≡ guards_onto (clauses.guard t (clause_of c)).next ((clauses.guard t (clause_of c)).guard ∷ gs) (map clause_of cs)
last_guarded t gs [] c = refl
last_guarded t gs (d ∷ cs) c = ap (λ (r : Several clauses.Guard). let g = clauses.guard r.next (clause_of d) in several (g.guard ∷ r.parts) g.next) (last_guarded t gs cs c)

pub first_guards : (t : ℕ) (cs : List Clause) (done : List Guard) → done ≡ [] → guards_onto t (map guard_of (reverse done)) (map clause_of cs) ≡ clauses.guards t (map clause_of cs)
first_guards t cs done e = ap (λ l. guards_onto t (map guard_of (reverse l)) (map clause_of cs)) e ∙ none_there t (map clause_of cs)

pub next_guards : (t u : ℕ) (left rest : List Clause) (done more : List Guard) (c : Clause) (g : Guard) → left ≡ rest ++ c ∷ [] → more ≡ done ++ g ∷ [] → guard_of g ≡ (clauses.guard t (clause_of c)).guard → u ≡ (clauses.guard t (clause_of c)).next
    → guards_onto u (map guard_of (reverse more)) (map clause_of rest) ≡ guards_onto t (map guard_of (reverse done)) (map clause_of left)
next_guards t u left rest done more c g el em eg eu =
    ap (λ n. guards_onto n (map guard_of (reverse more)) (map clause_of rest)) eu
    ∙ ap (λ l. guards_onto (clauses.guard t (clause_of c)).next (map guard_of l) (map clause_of rest)) (ap reverse em ∙ reverse-append done (g ∷ []))
    ∙ ap (λ x. guards_onto (clauses.guard t (clause_of c)).next (x ∷ map guard_of (reverse done)) (map clause_of rest)) eg
    ∙ sym (ap (λ l. guards_onto t (map guard_of (reverse done)) (map clause_of l)) el ∙ last_guarded t (map guard_of (reverse done)) rest c)

pub next_handles : (x : ℕ) (done : List Guard) (g : Guard) → clauses.handles x (map guard_of (reverse (done ++ g ∷ []))) ≡ clauses.handle x (guard_of g) (clauses.handles x (map guard_of (reverse done)))
next_handles x done g = ap (λ l. clauses.handles x (map guard_of l)) (reverse-append done (g ∷ []))
