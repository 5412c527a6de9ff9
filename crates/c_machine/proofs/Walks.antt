-- Stretches of steps, put together.
use Rattle.std.proofs.Common.{◌≡◌, ℕ, zero, suc, ◌+◌, ◌-◌, ◌<◌, ◌≤◌, List, refl, sym, ◌∙◌, ap, subst, arith, zero-add}
use Rattle.nu_run.specs.declared.End.{End}
use Rattle.nu_run.specs.Runs.{Run, Going, Ended, printed_by, IsPrefix, Below}
use Rattle.nu_run.specs.Steps.{Stepped, More, Halt, on_step, run, Grew}
use Rattle.nu_run.proofs.Runs.{prefix_refl, longer}
use Rattle.c_machine.specs.Walks.{taken, gone, Leads}

module _ {S : Type 0} (step : S → Stepped S) (printed : S → List ℕ) where
  gone_end : (k : ℕ) (out : List ℕ) (e : End) → gone step k (Halt out e) ≡ Halt out e
  gone_end zero out e = refl
  gone_end (suc k) out e = refl

  pub gone_on : (n m : ℕ) (x : Stepped S) → gone step (n + m) x ≡ gone step m (gone step n x)
  gone_on zero m x = ap (λ i. gone step i x) (zero-add m)
  gone_on (suc n) m (More s) = ap (λ i. gone step i (More s)) (more n m) ∙ gone_on n m (step s)
    where
      more : (a b : ℕ) → suc a + b ≡ suc (a + b)
      more a b = omega arith
  gone_on (suc n) m (Halt out e) = gone_end (suc n + m) out e ∙ sym (gone_end m out e)

  pub leads_none : (x : Stepped S) → Leads step printed 0 0 x x
  leads_none x = record {
    exact = refl;
    runs = λ k. ap (λ n. on_step x (run step printed n)) (zero-add k);
    steps = λ k. ap (λ n. taken step n x) (zero-add k) ∙ sym (zero-add (taken step k x));
  }

  one_more : (k : ℕ) → 1 + k ≡ suc k
  one_more k = omega arith

  pub leads_step : (s : S) → Leads step printed 1 1 (More s) (step s)
  leads_step s = record {
    exact = refl;
    runs = λ k. ap (λ n. run step printed n s) (one_more k);
    steps = λ k. ap (λ n. taken step n (More s)) (one_more k) ∙ sym (one_more (taken step k (step s)));
  }

  pub leads_on : (n m t u : ℕ) (x y z : Stepped S) → Leads step printed n t x y → Leads step printed m u y z → Leads step printed (n + m) (t + u) x z
  leads_on n m t u x y z h j = record {
    exact = gone_on n m x ∙ ap (gone step m) h.exact ∙ j.exact;
    runs = λ k. ap (λ i. on_step x (run step printed i)) (sum n m k) ∙ h.runs (m + k) ∙ j.runs k;
    steps = λ k. ap (λ i. taken step i x) (sum n m k) ∙ h.steps (m + k) ∙ ap (λ i. t + i) (j.steps k) ∙ sym (sum t u (taken step k z));
  }
    where
      sum : (a b c : ℕ) → a + b + c ≡ a + (b + c)
      sum a b c = omega arith

  taken_end : (k : ℕ) (out : List ℕ) (e : End) → taken step k (Halt out e) ≡ 0
  taken_end zero out e = refl
  taken_end (suc k) out e = refl

  -- after the end, more steps change nothing
  pub leads_end : (n m t : ℕ) (x : Stepped S) (out : List ℕ) (e : End) → n ≤ m → Leads step printed n t x (Halt out e) → Leads step printed m t x (Halt out e)
  leads_end n m t x out e le h = record {
    exact = ap (λ i. gone step i x) (whole n m le) ∙ gone_on n (m - n) x ∙ ap (gone step (m - n)) h.exact ∙ gone_end (m - n) out e;
    runs = λ k. ap (λ i. on_step x (run step printed i)) (rest k) ∙ h.runs (m - n + k);
    steps = λ k. ap (λ i. taken step i x) (rest k) ∙ h.steps (m - n + k) ∙ ap (λ i. t + i) (taken_end (m - n + k) out e ∙ sym (taken_end k out e));
  }
    where
      rest : (k : ℕ) → m + k ≡ n + (m - n + k)
      rest k = omega (arith, le)

      whole : (a b : ℕ) → a ≤ b → b ≡ a + (b - a)
      whole a b h = omega (arith, h)

  -- the run of exactly these steps
  pub leads_exactly : (n t : ℕ) (x y : Stepped S) → Leads step printed n t x y → on_step x (run step printed n) ≡ on_step y (run step printed 0)
  leads_exactly n t x y h = let e : n ≡ n + 0 = omega arith in ap (λ i. on_step x (run step printed i)) e ∙ h.runs 0

  below_prefix : (a b : Run) → Below a b → IsPrefix (printed_by a) (printed_by b)
  below_prefix (Going out) b h = h
  below_prefix (Ended out e) b h = subst (λ r. IsPrefix out (printed_by r)) (sym h) (prefix_refl out)

  -- what the next step prints is printed within every larger bound
  pub printed_within : ((s : S) → Grew printed (printed s) (step s)) → (n t u : ℕ) (s r : S) → t < n → Leads step printed t u (More s) (More r)
      → IsPrefix (printed_by (on_step (step r) (run step printed 0))) (printed_by (run step printed n s))
  printed_within grows n t u s r less h =
      let e : run step printed (t + 1) s ≡ on_step (step r) (run step printed 0) = h.runs 1 in
      subst (λ x. IsPrefix (printed_by x) (printed_by (run step printed n s))) e (below_prefix _ _ (longer step printed grows (t + 1) n (omega (arith, less)) s))
