-- The plan that saves all registers saves enough.
use Rattle.std.proofs.Common.{◌≡◌, inl, inr, ⊎_elim, ℕ, zero, suc, ◌+◌, ◌<◌, ◌≤◌, List, [], ◌∷◌, true, Some, slice_get, length, refl, ap, subst, arith}
use Rattle.std.proofs.lemmas.Bool.{cases_lt}
use Rattle.std.specs.List.{AllByRecursion}
use Rattle.flow_code.specs.declared.function.FlatFunction.{FlatFunction}
use Rattle.flow_code.specs.declared.statement.Line.{Line}
use Rattle.flow_code.specs.WellFormed.{WellFormed}
use Rattle.generator_cut.specs.Cut.{counted, all_saved}
use Rattle.generator_cut.specs.Plan.{Has, Works}
use Rattle.generator_cut.specs.Correct.{ProgramsDoTheSame}
use Rattle.generator_cut.proofs.Places.{some_is, read_at}
use Rattle.generator_cut.proofs.Machines.{runs_same}

abbrev Live : FlatFunction → List Line → ℕ → Type 0
Live f left r = r < f.registers

abbrev Held : FlatFunction → List Line → ℕ → Type 0
Held f left r = (f.header.generator ≡ true) × (r < f.registers)

counted_has : (k n r : ℕ) → n ≤ r → r < n + k → Has r (counted k n)
counted_has zero n r le lt = absurd (omega (arith, le, lt))
counted_has (suc k) n r le lt = ⊎_elim (λ l. inr (counted_has k (n + 1) r (omega (arith, l)) (omega (arith, lt)))) (λ g. inl (omega (arith, g, le))) (cases_lt n r)

pub counted_all : (P : ℕ → Type 0) (k n : ℕ) → ((r : ℕ) → r < n + k → P r) → AllByRecursion P (counted k n)
counted_all P zero n h = tt
counted_all P (suc k) n h = (h n (omega arith), counted_all P k (n + 1) (λ r lt. h r (omega (arith, lt))))

pub counted_length : (k n : ℕ) → length (counted k n) ≡ k
counted_length zero n = refl
counted_length (suc k) n = ap suc (counted_length k (n + 1))

all_same : (P : Type 0) (ls : List ℕ) → AllByRecursion (λ l. P → P) ls
all_same P [] = tt
all_same P (l ∷ ls) = (λ p. p, all_same P ls)

is_below : (n r : ℕ) → r < n → r < 0 + n
is_below n r h = omega (arith, h)

below_is : (n r : ℕ) → r < 0 + n → r < n
below_is n r h = omega (arith, h)

pub all_works : (f : FlatFunction) → WellFormed f → Works (all_saved f) (Live f) (Held f) f
all_works f formed = record {
  declared = formed.declared;
  numbered = formed.numbered;
  live = record { next = λ left x more p e on r free q. q; jump = λ left x more p e r free. all_same (r < f.registers) _ };
  held = record { next = λ left x more p e on r free q. q; jump = λ left x more p e r free. all_same ((f.header.generator ≡ true) × (r < f.registers)) _ };
  reads = λ left x more p e. read_at f.registers f.body left x more e p formed.declared;
  begins = λ r q. (q.0, counted_has f.registers 0 r (omega arith) (is_below f.registers r q.1));
  cleared = counted_all (λ r. r < f.registers) f.registers 0 (λ r lt. below_is f.registers r lt);
  next = λ g left to at a fail more p e r ne q. counted_has f.registers 0 r (omega arith) (is_below f.registers r (⊎_elim (λ l. l) (λ h. h.1) q));
  thrown = λ g left to at a fail more p e r ne q. counted_has f.registers 0 r (omega arith) (is_below f.registers r (⊎_elim (λ l. l) (λ h. h.1) q));
  saved = λ g left x more p e. counted_all (λ r. (r < f.registers) × ((f.header.generator ≡ true) × (r < f.registers))) f.registers 0 (λ r lt. (below_is f.registers r lt, (g, below_is f.registers r lt)));
  room = λ x more. omega (arith, counted_length f.registers 0);
}

pub all_at : {A : Type 0} (P : A → Type 0) (xs : List A) (k : ℕ) (x : A) → AllByRecursion P xs → slice_get xs k ≡ Some x → P x
all_at P [] k x h e = cc
all_at P (y ∷ xs) zero x h e = subst P (some_is e) h.0
all_at P (y ∷ xs) (suc k) x h e = all_at P xs k x h.1 e

pub programs_same : ProgramsDoTheSame
programs_same script formed rules input d = runs_same rules script all_saved Live Held (λ k f is. all_works f (all_at WellFormed script.functions k f formed is)) input d
