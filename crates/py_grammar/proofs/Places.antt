-- A production at a place of a list of tokens, by its two laws.
use Rattle.std.proofs.Common.{◌≡◌, ℕ, zero, suc, ◌+◌, ◌-◌, ◌<◌, ◌≤◌, Bool, true, false, List, [], ◌∷◌, ◌++◌, length, take, drop, Option, Some, None, Ok, Err, refl, ap, ◌∙◌, sym, subst, arith, append_assoc, length-append, length-drop, length-take, take_all}
use Rattle.std.proofs.lemmas.List.{take-append-drop}
use Rattle.py_ast.specs.declared.token.Token.{Token}
use Rattle.py_grammar.specs.declared.found.Found.{Found}
use Rattle.py_grammar.specs.declared.found.ParseEnd.{ParseEnd}
use Rattle.py_grammar.specs.declared.found.ParseEnd.TheVariants as ends
use Rattle.py_grammar.specs.declared.role.Mark.{Mark}
use Rattle.py_grammar.specs.Levels.{mark}
use Rattle.py_grammar.specs.Grammar.{IsAt, OneTree, Answers, max_depth}
use Rattle.py_grammar.specs.Parse.{Parser, found, Refuses}
use Rattle.py_grammar.specs.Laws.{IsRead, IsSpelled}
use Rattle.py_grammar.proofs.Apart.{some_inj}

drop_front : (before i : List Token) → drop (length before) (before ++ i) ≡ i
drop_front [] i = refl
drop_front (t ∷ before) i = drop_front before i

-- the tokens from a place on
pub from_place : (tokens : List Token) (at : ℕ) (s : List Token) → s ≡ take (length tokens - at) (drop at tokens) → s ≡ drop at tokens
from_place tokens at s e = e ∙ take_all (length tokens - at) (drop at tokens) (omega (arith, length-drop at tokens))

module _ {A : Type 0} (Spelled : ℕ → A → List Token → Type 0) (follows : Mark → Bool) (read : ℕ → Parser (Found A)) where
  -- what stands at a place is what is read there
  pub reads_there : IsRead Spelled follows read → (tokens : List Token) (at : ℕ) (x : A) (to : ℕ) (is : IsAt Spelled follows tokens at x to)
      → (read max_depth (drop at tokens) ≡ Some (found x is.height, is.rest)) × (to ≡ length tokens - length is.rest)
  reads_there reads tokens at x to is =
      let size = ap length is.cut in
      let size1 = length-append (is.before ++ is.used) is.rest in
      let size2 = length-append is.before is.used in
      let here : drop at tokens ≡ is.used ++ is.rest =
      ap (λ n. drop n tokens) (sym is.from) ∙ ap (drop (length is.before)) (is.cut ∙ append_assoc is.before is.used is.rest) ∙ drop_front is.before (is.used ++ is.rest) in
      let u = is.until in
      (ap (read max_depth) here ∙ reads is.height x is.used is.tree max_depth is.low is.rest is.behind, omega arith)

  pub one_tree : IsRead Spelled follows read → OneTree Spelled follows
  one_tree reads tokens at x y to end a b =
      let p = reads_there reads tokens at x to a in
      let q = reads_there reads tokens at y end b in
      let same = some_inj (sym p.0 ∙ q.0) in
      (ap (λ f. f.0.tree) same, p.1 ∙ ap (λ f. length tokens - length f.1) same ∙ sym q.1)

  -- what is read stands there
  pub is_there : IsSpelled Spelled read → (tokens : List Token) (at : ℕ) (f : Found A) (rest : List Token) → at ≤ length tokens → read max_depth (drop at tokens) ≡ Some (f, rest) → follows (mark rest) ≡ true
      → IsAt Spelled follows tokens at f.tree (length tokens - length rest)
  is_there spells tokens at f rest within e behind =
      let t = spells max_depth (drop at tokens) (f, rest) e in
      let size = ap length t.cut in
      let size1 = length-append t.used rest in
      let size2 = length-drop at tokens in
      let front : length (take at tokens) ≡ at = simp length-take (omega arith) in
      record {
        height = f.height;
        low = t.low;
        before = take at tokens;
        used = t.used;
        rest = rest;
        cut = sym (take-append-drop at tokens) ∙ ap (λ s. take at tokens ++ s) t.cut ∙ sym (append_assoc (take at tokens) t.used rest);
        from = front;
        until = omega arith;
        tree = t.tree;
        behind = behind;
      }

  pub shorter : IsSpelled Spelled read → (tokens : List Token) (at : ℕ) (f : Found A) (rest : List Token) → read max_depth (drop at tokens) ≡ Some (f, rest) → length rest ≤ length tokens
  shorter spells tokens at f rest e =
      let t = spells max_depth (drop at tokens) (f, rest) e in
      omega (arith, ap length t.cut, length-append t.used rest, length-drop at tokens)

  -- where nothing is read, or something that is not followed as it must be, nothing stands there
  pub nothing_there : IsRead Spelled follows read → (tokens : List Token) (at : ℕ) → read max_depth (drop at tokens) ≡ None → (x : A) (to : ℕ) → IsAt Spelled follows tokens at x to → ⊥
  nothing_there reads tokens at h x to is = let e : ◌≡◌ {A = Option (Found A × List Token)} None (Some (found x is.height, is.rest)) = sym h ∙ (reads_there reads tokens at x to is).0 in cc

  pub not_followed : IsRead Spelled follows read → (tokens : List Token) (at : ℕ) (f : Found A) (rest : List Token) → read max_depth (drop at tokens) ≡ Some (f, rest) → follows (mark rest) ≡ false
      → (x : A) (to : ℕ) → IsAt Spelled follows tokens at x to → ⊥
  not_followed reads tokens at f rest h other x to is =
      let same = some_inj (sym h ∙ (reads_there reads tokens at x to is).0) in
      let e : false ≡ true = sym other ∙ ap (λ p. follows (mark p.1)) same ∙ is.behind in
      cc

  pub answers_err : IsRead Spelled follows read → (tokens : List Token) (at : ℕ) (end : ParseEnd) → Refuses (read max_depth (drop at tokens)) end → Answers Spelled follows tokens at (Err end)
  answers_err reads tokens at (ends.Grammar line) h = nothing_there reads tokens at h
  answers_err reads tokens at (ends.Depth line) h = absurd h
  answers_err reads tokens at ends.Memory h = tt

  -- a reader that refuses at the token behind
  pub answers_other : IsRead Spelled follows read → (tokens : List Token) (at : ℕ) (f : Found A) (rest : List Token) → read max_depth (drop at tokens) ≡ Some (f, rest) → follows (mark rest) ≡ false → (end : ParseEnd)
      → Refuses {A = Unit {0}} None end → Answers Spelled follows tokens at (Err end)
  answers_other reads tokens at f rest h other (ends.Grammar line) k = not_followed reads tokens at f rest h other
  answers_other reads tokens at f rest h other (ends.Depth line) k = absurd k
  answers_other reads tokens at f rest h other ends.Memory k = tt
