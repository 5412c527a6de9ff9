-- What a function was handed comes to its first registers.
use Rattle.std.proofs.Common.{◌≡◌, ℕ, zero, suc, ◌≤◌, List, [], ◌∷◌, ◌++◌, length, take, Option, Some, None, slice_get, if◌then◌else◌, refl, sym, ap, ◌∙◌, subst, arith, append_assoc, append-nil}
use Rattle.std.proofs.Math.Dec.{eqb-suc-zero, eqb-zero-suc, eqb-suc-suc}
use Rattle.std.proofs.Math.Path.{fun_ext}
use Rattle.std.proofs.lemmas.List.{length-append}
use Rattle.nu_run.specs.Steps.{More}
use Rattle.nu_run.proofs.Runs.{comes_refl, comes_trans}
use Rattle.nu_value.specs.declared.value.Value.{Value}
use Rattle.nu_calls.specs.Surroundings.{Surroundings}
use Rattle.flow_code.specs.declared.statement.Line.{Line}
use Rattle.flow_code.specs.declared.statement.Line.TheVariants.{Do}
use Rattle.flow_code.specs.declared.statement.Statement.{Statement}
use Rattle.flow_code.specs.declared.statement.Statement.TheVariants as flat
use Rattle.flow_code.specs.Machine as machine
use Rattle.flow_lower.specs.Lower.{copies}
use Rattle.flow_lower.proofs.Ran.{Machine, Stack, Waiting, Code, mstep, C, one}

put_end : (done : List Value) (v : Value) (t : ℕ) → machine.put (slice_get done) (length done) v t ≡ slice_get (done ++ v ∷ []) t
put_end [] v zero = refl
put_end [] v (suc t) = ap (λ b. if b then Some v else None) (eqb-suc-zero t)
put_end (x ∷ done) v zero = ap (λ b. if b then Some v else Some x) (eqb-zero-suc (length done))
put_end (x ∷ done) v (suc t) = ap (λ b. if b then Some v else slice_get done t) (eqb-suc-suc t (length done)) ∙ put_end done v t

at_end : (pre : List Value) (v : Value) (rest : List Value) → slice_get (pre ++ v ∷ rest) (length pre) ≡ Some v
at_end [] v rest = refl
at_end (x ∷ pre) v rest = at_end pre v rest

module _ (q : Code) (c : ℕ) (stack : Stack) (a : Surroundings Waiting) (out : List ℕ) (given cells : List Value) where
  abbrev frame : (ℕ → Option Value) → machine.Frame
  frame registers = record { code = c; given = given; cells = cells; registers = registers }

  abbrev state : List Line → (ℕ → Option Value) → Machine
  state ls registers = machine.at c ls (frame registers) None stack a out

  -- copies of what stands in a list from one place on, to the registers behind those that have a value
  module _ (x : ℕ → ℕ → Statement) (src : List Value) (reads : (to i : ℕ) (ls : List Line) (registers : ℕ → Option Value) → mstep q (state (Do (x to i) ∷ ls) registers) ≡ machine.having (slice_get src i) (machine.undefined out) (λ v. More (state ls (machine.put registers to v)))) where
    copies_run : (n : ℕ) (done pre rest : List Value) (to i : ℕ) (tail : List Line) → src ≡ pre ++ rest → n ≤ length rest → to ≡ length done → i ≡ length pre → C q (state (copies x n to i tail) (slice_get done)) (state tail (slice_get (done ++ take n rest)))
    copies_run zero done pre rest to i tail es le et ei =
        subst (λ l. C q (state tail (slice_get done)) (state tail (slice_get l))) (sym (append-nil done)) (comes_refl _ _ _)
    copies_run (suc n) done pre [] to i tail es le et ei = absurd (omega arith)
    copies_run (suc n) done pre (v ∷ rest) to i tail es le et ei =
        let here : slice_get src i ≡ Some v = ap (λ l. slice_get l i) es ∙ ap (λ k. slice_get (pre ++ v ∷ rest) k) ei ∙ at_end pre v rest in
        let regs : machine.put (slice_get done) to v ≡ slice_get (done ++ v ∷ []) = ap (λ k. machine.put (slice_get done) k v) et ∙ fun_ext (put_end done v) in
        let lt : suc to ≡ length (done ++ v ∷ []) = omega (arith, length-append done (v ∷ [])) in
        let li : suc i ≡ length (pre ++ v ∷ []) = omega (arith, length-append pre (v ∷ [])) in
        comes_trans _ _ _ _ _
        (one q _ _ (reads to i (copies x n (suc to) (suc i) tail) (slice_get done) ∙ ap (λ y. machine.having y (machine.undefined out) (λ v. More (state (copies x n (suc to) (suc i) tail) (machine.put (slice_get done) to v)))) here ∙ ap (λ r. More (state (copies x n (suc to) (suc i) tail) r)) regs))
        (subst (λ l. C q (state (copies x n (suc to) (suc i) tail) (slice_get (done ++ v ∷ []))) (state tail (slice_get l))) (append_assoc done (v ∷ []) (take n rest))
        (copies_run n (done ++ v ∷ []) (pre ++ v ∷ []) rest (suc to) (suc i) tail (es ∙ sym (append_assoc pre (v ∷ []) rest)) (omega arith) lt li))

  take_length : (n : ℕ) (xs : List Value) → n ≤ length xs → n ≡ length (take n xs)
  take_length zero xs le = refl
  take_length (suc n) [] le = absurd (omega arith)
  take_length (suc n) (x ∷ xs) le = ap suc (take_length n xs (omega arith))

  -- the parameters and the free cells of a function
  pub opening : (params free : ℕ) (tail : List Line) → params ≤ length given → free ≤ length cells → C q (state (copies flat.Parameter params 0 0 (copies flat.Free free params 0 tail)) (λ r. None)) (state tail (slice_get (take params given ++ take free cells)))
  opening params free tail lp lf =
      comes_trans _ _ _ _ _
      (copies_run flat.Parameter given (λ to i ls registers. refl) params [] [] given 0 0 (copies flat.Free free params 0 tail) refl lp refl refl)
      (copies_run flat.Free cells (λ to i ls registers. refl) free (take params given) [] cells params 0 tail refl lf (take_length params given lp) refl)
