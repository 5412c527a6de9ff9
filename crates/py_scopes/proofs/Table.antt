-- The table: what the passes find against what the script breaks.
use Rattle.std.proofs.Common.{◌≡◌, ℕ, ◌≤◌, ◌<◌, [], ◌∷◌, Option, Some, None, ◌⊎◌, inl, inr, refl, subst, arith}
use Rattle.std.specs.Prelude.{Err}
use Rattle.std.proofs.lemmas.Bool.Decides.{leb_tells}
use Rattle.py_scopes.specs.declared.end.ScopeEnd.{ScopeEnd}
use Rattle.py_scopes.specs.declared.survey.Survey.{Survey}
use Rattle.py_scopes.specs.Passes.{first_fault}
use Rattle.py_scopes.specs.Resolve.{Resolves}
use Rattle.py_scopes.specs.Passes.{end_of, first_end, first_of, refusal}
use Rattle.py_scopes.specs.Rules.{Kind, Target, Loop, Function, Declare, Name, Raise, Repeat, rank, fault, Breaks, BreaksFirst, Refuses, KeepsAll}
use Rattle.py_scopes.proofs.Exact.{found, none, true_false}

abbrev Clear : Survey → Kind → Type 0
Clear survey kind = first_fault kind survey ≡ None

breaks_first : (survey : Survey) (kind : Kind) (line : ℕ) → first_fault kind survey ≡ Some line → BreaksFirst kind survey line
breaks_first survey kind line h =
    let f = found (fault kind survey) [] survey.sites line h in
    record {
      place = record { before = f.before; site = f.site; after = f.after; cut = f.cut; here = f.here };
      there = f.there;
      first = λ other. f.first other.before other.site other.after other.cut other.here;
    }

keeps : (survey : Survey) (kind : Kind) → Clear survey kind → Breaks kind survey → ⊥
keeps survey kind h b = true_false _ b.here (none (fault kind survey) [] survey.sites b.before b.site b.after h b.cut)

-- kinds before this rank are clear
clear_below : (survey : Survey) (n : ℕ) → (0 < n → Clear survey Target) → (1 < n → Clear survey Loop) → (2 < n → Clear survey Function) → (3 < n → Clear survey Declare) → (4 < n → Clear survey Name) → (5 < n → Clear survey Raise) → (6 < n → Clear survey Repeat)
    → (kind : Kind) → rank kind < n → Clear survey kind
clear_below survey n a b c d e f g Target h = a h
clear_below survey n a b c d e f g Loop h = b h
clear_below survey n a b c d e f g Function h = c h
clear_below survey n a b c d e f g Declare h = d h
clear_below survey n a b c d e f g Name h = e h
clear_below survey n a b c d e f g Raise h = f h
clear_below survey n a b c d e f g Repeat h = g h

refuses : (survey : Survey) (kind : Kind) (line : ℕ) → first_fault kind survey ≡ Some line → ((other : Kind) → rank other < rank kind → Clear survey other) → Refuses survey kind line
refuses survey kind line h clear = (
  breaks_first survey kind line h,
  λ other b. elim (leb_tells (rank kind) (rank other)) [
    | inl more ↦ more.1
    | inr less ↦ absurd (keeps survey other (clear other less.1) b)
  ],
)

-- what the first of the table says
abbrev pub Says : Survey → Option ScopeEnd → Type 0
Says survey (Some end) = Resolves survey (Err end)
Says survey None = KeepsAll survey

split : (kind : Kind) (o : Option ℕ) (later r : Option ScopeEnd) → first_end kind o later ≡ r
    → ((line : ℕ) × (o ≡ Some line) × (Some (end_of kind line) ≡ r)) ⊎ ((o ≡ None) × (later ≡ r))
split kind (Some line) later r h = inl (line, refl, h)
split kind None later r h = inr (refl, h)

never : {A : Type 0} (m n : ℕ) → n ≤ m → m < n → A
never m n h j = absurd (omega (arith, h, j))

below_seven : (kind : Kind) → rank kind < 7
below_seven Target = omega arith
below_seven Loop = omega arith
below_seven Function = omega arith
below_seven Declare = omega arith
below_seven Name = omega arith
below_seven Raise = omega arith
below_seven Repeat = omega arith

pub says : (survey : Survey) (r : Option ScopeEnd) → refusal survey ≡ r → Says survey r
unfolding refusal
says survey r h = elim (split Target (first_fault Target survey) (first_of survey (Loop ∷ Function ∷ Declare ∷ Name ∷ Raise ∷ Repeat ∷ [])) r h) [
  | inl p ↦ subst (Says survey) p.2 (refuses survey Target p.0 p.1 (clear_below survey 0 (never 0 0 (omega arith)) (never 1 0 (omega arith)) (never 2 0 (omega arith)) (never 3 0 (omega arith)) (never 4 0 (omega arith)) (never 5 0 (omega arith)) (never 6 0 (omega arith))))
  | inr a ↦ elim (split Loop (first_fault Loop survey) (first_of survey (Function ∷ Declare ∷ Name ∷ Raise ∷ Repeat ∷ [])) r a.1) [
    | inl p ↦ subst (Says survey) p.2 (refuses survey Loop p.0 p.1 (clear_below survey 1 (λ _. a.0) (never 1 1 (omega arith)) (never 2 1 (omega arith)) (never 3 1 (omega arith)) (never 4 1 (omega arith)) (never 5 1 (omega arith)) (never 6 1 (omega arith))))
    | inr b ↦ elim (split Function (first_fault Function survey) (first_of survey (Declare ∷ Name ∷ Raise ∷ Repeat ∷ [])) r b.1) [
      | inl p ↦ subst (Says survey) p.2 (refuses survey Function p.0 p.1 (clear_below survey 2 (λ _. a.0) (λ _. b.0) (never 2 2 (omega arith)) (never 3 2 (omega arith)) (never 4 2 (omega arith)) (never 5 2 (omega arith)) (never 6 2 (omega arith))))
      | inr c ↦ elim (split Declare (first_fault Declare survey) (first_of survey (Name ∷ Raise ∷ Repeat ∷ [])) r c.1) [
        | inl p ↦ subst (Says survey) p.2 (refuses survey Declare p.0 p.1 (clear_below survey 3 (λ _. a.0) (λ _. b.0) (λ _. c.0) (never 3 3 (omega arith)) (never 4 3 (omega arith)) (never 5 3 (omega arith)) (never 6 3 (omega arith))))
        | inr d ↦ elim (split Name (first_fault Name survey) (first_of survey (Raise ∷ Repeat ∷ [])) r d.1) [
          | inl p ↦ subst (Says survey) p.2 (refuses survey Name p.0 p.1 (clear_below survey 4 (λ _. a.0) (λ _. b.0) (λ _. c.0) (λ _. d.0) (never 4 4 (omega arith)) (never 5 4 (omega arith)) (never 6 4 (omega arith))))
          | inr e ↦ elim (split Raise (first_fault Raise survey) (first_of survey (Repeat ∷ [])) r e.1) [
            | inl p ↦ subst (Says survey) p.2 (refuses survey Raise p.0 p.1 (clear_below survey 5 (λ _. a.0) (λ _. b.0) (λ _. c.0) (λ _. d.0) (λ _. e.0) (never 5 5 (omega arith)) (never 6 5 (omega arith))))
            | inr f ↦ elim (split Repeat (first_fault Repeat survey) (first_of survey ([])) r f.1) [
              | inl p ↦ subst (Says survey) p.2 (refuses survey Repeat p.0 p.1 (clear_below survey 6 (λ _. a.0) (λ _. b.0) (λ _. c.0) (λ _. d.0) (λ _. e.0) (λ _. f.0) (never 6 6 (omega arith))))
              | inr g ↦ subst (Says survey) g.1 (λ kind broken. keeps survey kind (clear_below survey 7 (λ _. a.0) (λ _. b.0) (λ _. c.0) (λ _. d.0) (λ _. e.0) (λ _. f.0) (λ _. g.0) kind (below_seven kind)) broken)
            ]
          ]
        ]
      ]
    ]
  ]
]
