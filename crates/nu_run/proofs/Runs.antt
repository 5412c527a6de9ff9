-- Meanings that go in steps: longer runs, what follows from a stretch of steps, and when two runs are the same.
use Rattle.std.proofs.Common.{◌≡◌, ℕ, zero, suc, ◌<◌, ◌≤◌, List, [], ◌++◌, refl, sym, ap, ◌∙◌, subst, ⊎_elim, arith, append_assoc, append-nil}
use Rattle.std.proofs.lemmas.Bool.{cases_lt}
use Rattle.nu_run.specs.declared.End.{End}
use Rattle.nu_run.specs.Runs.{Run, IsMonotone, Going, Ended, printed_by, IsPrefix, Below, Same, IsDefinedEnd, IsDefined}
use Rattle.nu_run.specs.Steps.{Stepped, More, Halt, on_step, run, Grew}

pub prefix_refl : (xs : List ℕ) → IsPrefix xs xs
prefix_refl xs = record { rest = []; is = sym (append-nil xs) }

pub prefix_more : (xs ys : List ℕ) → IsPrefix xs (xs ++ ys)
prefix_more xs ys = record { rest = ys; is = refl }

pub prefix_trans : (xs ys zs : List ℕ) → IsPrefix xs ys → IsPrefix ys zs → IsPrefix xs zs
prefix_trans xs ys zs p q = record { rest = p.rest ++ q.rest; is = q.is ∙ ap (λ l. l ++ q.rest) p.is ∙ append_assoc xs p.rest q.rest }

pub below_refl : (r : Run) → Below r r
below_refl (Going o) = prefix_refl o
below_refl (Ended o e) = refl

pub below_trans : (a b c : Run) → Below a b → Below b c → Below a c
below_trans (Going o) (Going p) c h k = prefix_trans _ _ _ h k
below_trans (Going o) (Ended p e) c h k = subst (λ r. IsPrefix o (printed_by r)) (sym k) h
below_trans (Ended o e) b c h k = subst (λ r. Below r c) h k

-- a run of a bound is followed by a run
pub record Tracks (n : ℕ) (o : Run) (C : ℕ → Run) : Type 0 where
  pub goes_on : (out : List ℕ) → o ≡ Going out → (j : ℕ) × (n ≤ j) × (C j ≡ Going out)
  pub ends : (out : List ℕ) (e : End) → o ≡ Ended out e → IsDefinedEnd e → (j : ℕ) × (C j ≡ Ended out e)

module _ {S : Type 0} (step : S → Stepped S) (printed : S → List ℕ) where
  -- in k steps or more, one or more where k is 0
  pub record Comes (s t : S) : Type 0 where
    pub by : (k : ℕ) → (j : ℕ) × (k ≤ j) × (run step printed j s ≡ run step printed k t)

  pub record Goes (s t : S) : Type 0 where
    pub by : (k : ℕ) → (j : ℕ) × (k < j) × (run step printed j s ≡ run step printed k t)

  pub comes_refl : (s : S) → Comes s s
  comes_refl s = record { by = λ k. (k, omega arith, refl) }

  pub comes_trans : (s t u : S) → Comes s t → Comes t u → Comes s u
  comes_trans s t u p q = record { by = λ k. let b = q.by k in let a = p.by b.0 in (a.0, omega (arith, a.1, b.1), a.2 ∙ b.2) }

  pub one_step : (s t : S) → step s ≡ More t → Goes s t
  one_step s t e = record { by = λ k. (suc k, omega arith, ap (λ x. on_step x (run step printed k)) e) }

  pub goes_comes : (s t u : S) → Goes s t → Comes t u → Goes s u
  goes_comes s t u p q = record { by = λ k. let b = q.by k in let a = p.by b.0 in (a.0, omega (arith, a.1, b.1), a.2 ∙ b.2) }

  pub comes_goes : (s t u : S) → Comes s t → Goes t u → Goes s u
  comes_goes s t u p q = record { by = λ k. let b = q.by k in let a = p.by b.0 in (a.0, omega (arith, a.1, b.1), a.2 ∙ b.2) }

  pub goes_some : (s t : S) → Goes s t → Comes s t
  goes_some s t p = record { by = λ k. let a = p.by k in (a.0, omega (arith, a.1), a.2) }

  pub tracks_after : (n : ℕ) (s t : S) (o : Run) → Comes s t → Tracks n o (λ j. run step printed j t) → Tracks n o (λ j. run step printed j s)
  tracks_after n s t o p r = record {
    goes_on = λ out e. let c = r.goes_on out e in let d = p.by c.0 in (d.0, omega (arith, d.1, c.1), d.2 ∙ c.2);
    ends = λ out y e ne. let c = r.ends out y e ne in let d = p.by c.0 in (d.0, d.2 ∙ c.1);
  }

  module _ (grows : (s : S) → Grew printed (printed s) (step s)) where
    grew : (out : List ℕ) (x : Stepped S) (go : S → Run) → Grew printed out x → ((t : S) → IsPrefix (printed t) (printed_by (go t))) → IsPrefix out (printed_by (on_step x go))
    grew out (More t) go h f = prefix_trans _ _ _ h (f t)
    grew out (Halt out' e) go h f = h

    run_grows : (n : ℕ) (s : S) → IsPrefix (printed s) (printed_by (run step printed n s))
    run_grows zero s = prefix_refl (printed s)
    run_grows (suc n) s = grew _ (step s) _ (grows s) (run_grows n)

    on_both : (x : Stepped S) (f g : S → Run) → ((t : S) → Below (f t) (g t)) → Below (on_step x f) (on_step x g)
    on_both (More t) f g h = h t
    on_both (Halt out e) f g h = refl

    pub longer : (m n : ℕ) → m ≤ n → (s : S) → Below (run step printed m s) (run step printed n s)
    longer zero n le s = run_grows n s
    longer (suc m) zero le s = absurd (omega arith)
    longer (suc m) (suc n) le s = on_both (step s) _ _ (longer m n (omega arith))

    -- a machine that follows each run of P is the same as P
    pub same_from : (P : ℕ → Run) (s : S) → IsDefined P → ((n : ℕ) → Tracks n (P n) (λ m. run step printed m s)) → Same P (λ m. run step printed m s)
    same_from P s defined tracks = record { there = λ n. there n (P n) refl; back = λ m. back m (P m) refl }
      where
        there : (n : ℕ) (o : Run) → P n ≡ o → (m : ℕ) × Below o (run step printed m s)
        there n (Going o) e = let a = (tracks n).goes_on o e in (a.0, subst (λ r. IsPrefix o (printed_by r)) (sym a.2) (prefix_refl o))
        there n (Ended o x) e = let a = (tracks n).ends o x e (defined n o x e) in (a.0, a.1)

        over : (m : ℕ) (o : List ℕ) (x : End) (r : Run) (j : ℕ) → run step printed j s ≡ Ended o x → run step printed m s ≡ r → Below r (Ended o x)
        over m o x r j e f = ⊎_elim
            (λ lt. subst (λ y. Below y (Ended o x)) f (subst (Below (run step printed m s)) e (longer m j (omega arith) s)))
            (λ le. let h = subst (λ y. Below y (run step printed m s)) e (longer j m le s) in subst (λ y. Below y (Ended o x)) (sym h ∙ f) refl)
            (cases_lt m j)

        back : (m : ℕ) (o : Run) → P m ≡ o → (n : ℕ) × Below (run step printed m s) (P n)
        back m (Going o) e =
            let a = (tracks m).goes_on o e in
            (m, subst (Below (run step printed m s)) (a.2 ∙ sym e) (longer m a.0 a.1 s))
        back m (Ended o x) e =
            let a = (tracks m).ends o x e (defined m o x e) in
            (m, subst (Below (run step printed m s)) (sym e) (over m o x (run step printed m s) a.0 a.1 refl))

-- one machine follows another, by states of both that belong together
module _ {S T J : Type 0} (step1 : S → Stepped S) (printed1 : S → List ℕ) (step2 : T → Stepped T) (printed2 : T → List ℕ) (left : J → S) (right : J → T) where
  -- a step of the first is one or more of the second
  abbrev pub Simulates : Stepped S → T → Type 0
  Simulates (More s) t = (j : J) × (s ≡ left j) × Goes step2 printed2 t (right j)
  Simulates (Halt out e) t = IsDefinedEnd e → (j : ℕ) × (run step2 printed2 j t ≡ Ended out e)

  module _ (same : (j : J) → printed1 (left j) ≡ printed2 (right j)) (sim : (j : J) → Simulates (step1 (left j)) (right j)) where
    pub follows : (n : ℕ) (j : J) → Tracks n (run step1 printed1 n (left j)) (λ k. run step2 printed2 k (right j))
    follows zero j = record { goes_on = λ out e. (0, omega arith, ap Going (sym (same j)) ∙ e); ends = λ out x e ne. cc }
    follows (suc n) j = go (step1 (left j)) (sim j) (follows n)
      where
        go : (x : Stepped S) → Simulates x (right j) → ((i : J) → Tracks n (run step1 printed1 n (left i)) (λ k. run step2 printed2 k (right i))) → Tracks (suc n) (on_step x (run step1 printed1 n)) (λ k. run step2 printed2 k (right j))
        go (More s) h ih =
            let e = ap (run step1 printed1 n) h.1 in
            let r = ih h.0 in
            record {
              goes_on = λ out f. let b = r.goes_on out (sym e ∙ f) in let d = h.2.by b.0 in (d.0, omega (arith, d.1, b.1), d.2 ∙ b.2);
              ends = λ out x f ne. let b = r.ends out x (sym e ∙ f) ne in let d = h.2.by b.0 in (d.0, d.2 ∙ b.1);
            }
        go (Halt out x) h ih = record {
          goes_on = λ out' f. cc;
          ends = λ out' x' f ne. let sx : x ≡ x' = cc in let b = h (subst IsDefinedEnd (sym sx) ne) in (b.0, b.1 ∙ f);
        }

pub same_refl : (P : ℕ → Run) → Same P P
same_refl P = record { there = λ n. (n, below_refl (P n)); back = λ n. (n, below_refl (P n)) }

pub same_sym : (P Q : ℕ → Run) → Same P Q → Same Q P
same_sym P Q s = record { there = s.back; back = s.there }

pub same_trans : (P Q R : ℕ → Run) → Same P Q → Same Q R → Same P R
same_trans P Q R s t = record {
  there = λ n. let a = s.there n in let b = t.there a.0 in (b.0, below_trans (P n) (Q a.0) (R b.0) a.1 b.1);
  back = λ n. let a = t.back n in let b = s.back a.0 in (b.0, below_trans (R n) (Q a.0) (P b.0) a.1 b.1);
}

-- the same as a run that never ends Undefined
pub defined_along : (P Q : ℕ → Run) → Same P Q → IsDefined P → IsDefined Q
defined_along P Q s d = λ n out x e. let a = s.back n in d a.0 out x (subst (λ r. Below r (P a.0)) e a.1)

-- two runs that both lie below an end and reach it
pub same_at_end : (P Q : ℕ → Run) (out : List ℕ) (e : End) → ((n : ℕ) → Below (P n) (Ended out e)) → (n : ℕ) → P n ≡ Ended out e → ((m : ℕ) → Below (Q m) (Ended out e)) → (m : ℕ) → Q m ≡ Ended out e → Same P Q
same_at_end P Q out e f n p g m q = record { there = λ k. (m, subst (Below (P k)) (sym q) (f k)); back = λ k. (n, subst (Below (Q k)) (sym p) (g k)) }

-- a monotone run lies below the end that it reaches
pub below_end : (P : ℕ → Run) (out : List ℕ) (e : End) → IsMonotone P → (n : ℕ) → P n ≡ Ended out e → (m : ℕ) → Below (P m) (Ended out e)
below_end P out e mono n p m = ⊎_elim
    (λ lt. subst (Below (P m)) p (mono m n (omega arith)))
    (λ le. let h : P m ≡ Ended out e = subst (λ r. Below r (P m)) p (mono n m le) in subst (λ r. Below r (Ended out e)) (sym h) refl)
    (cases_lt m n)
