-- The first token with too many brackets and indentation levels open, as a function and as a relation.
use Rattle.std.proofs.Common.{◌≡◌, ℕ, zero, suc, ◌<◌, ◌≤◌, nat_lt, List, [], ◌∷◌, ◌++◌, take, fold, Some, None, refl, ap, ◌∙◌, sym, arith, inl, inr}
use Rattle.std.proofs.lemmas.Bool.{ltb-true, ltb-false, lt-ltb, le-ltb}
use Rattle.py_ast.specs.declared.token.Token.{Token}
use Rattle.py_grammar.proofs.Apart.{chosen, some_inj}
use Rattle.py_statements.specs.Words.{opened}
use Rattle.py_statements.specs.Nesting.{max_nesting, Shallow, Deep, too_deep}

-- how many are open behind tokens, where n were open before them
abbrev nesting_from : ℕ → List Token → ℕ
nesting_from n tokens = fold (λ n t. opened n t.kind) n tokens

abbrev ShallowFrom : ℕ → List Token → Type 0
ShallowFrom n ts = (l : ℕ) → nesting_from n (take l ts) ≤ max_nesting

take_none : (ts : List Token) → take 0 ts ≡ []
take_none [] = refl
take_none (t ∷ ts) = refl

shallow_nothing : (n : ℕ) → n ≤ max_nesting → ShallowFrom n []
shallow_nothing n low zero = low
shallow_nothing n low (suc l) = low

first_low : (n : ℕ) (t : Token) (ts : List Token) → ShallowFrom n (t ∷ ts) → opened n t.kind ≤ max_nesting
first_low n t ts f = omega (arith, f 1, ap (nesting_from (opened n t.kind)) (take_none ts))

shallow_more : (n : ℕ) (t : Token) (ts : List Token) → n ≤ max_nesting → ShallowFrom (opened n t.kind) ts → ShallowFrom n (t ∷ ts)
shallow_more n t ts low f zero = low
shallow_more n t ts low f (suc l) = f l

record DeepFrom (n : ℕ) (tokens : List Token) (line : ℕ) : Type 0 where
  pub before : List Token
  pub token : Token
  pub rest : List Token
  pub cut : tokens ≡ before ++ token ∷ rest
  pub shallow : ShallowFrom n before
  pub many : max_nesting < nesting_from n (before ++ token ∷ [])
  pub on : line ≡ token.line

is_shallow : (n : ℕ) (ts : List Token) → n ≤ max_nesting → too_deep n ts ≡ None → ShallowFrom n ts
is_shallow n [] low h = shallow_nothing n low
is_shallow n (t ∷ ts) low h = elim (chosen (nat_lt max_nesting (opened n t.kind)) (Some t.line) (too_deep (opened n t.kind) ts) None h) [
  | inl deep ↦ let e = deep.1 in cc
  | inr other ↦ let small = ltb-false max_nesting (opened n t.kind) other.0 in shallow_more n t ts low (is_shallow (opened n t.kind) ts small other.1)
]

is_deep : (n : ℕ) (ts : List Token) (line : ℕ) → n ≤ max_nesting → too_deep n ts ≡ Some line → DeepFrom n ts line
is_deep n [] line low h = cc
is_deep n (t ∷ ts) line low h = elim (chosen (nat_lt max_nesting (opened n t.kind)) (Some t.line) (too_deep (opened n t.kind) ts) (Some line) h) [
  | inl deep ↦ record { before = []; token = t; rest = ts; cut = refl; shallow = shallow_nothing n low; many = ltb-true max_nesting (opened n t.kind) deep.0; on = sym (some_inj deep.1) }
  | inr other ↦
      let small = ltb-false max_nesting (opened n t.kind) other.0 in
      let d = is_deep (opened n t.kind) ts line small other.1 in
      record { before = t ∷ d.before; token = d.token; rest = d.rest; cut = ap (λ l. t ∷ l) d.cut; shallow = shallow_more n t d.before low d.shallow; many = d.many; on = d.on }
]

shallow_is : (n : ℕ) (ts : List Token) → ShallowFrom n ts → too_deep n ts ≡ None
shallow_is n [] f = refl
shallow_is n (t ∷ ts) f = rw (le-ltb max_nesting (opened n t.kind) (first_low n t ts f)) (shallow_is (opened n t.kind) ts (λ l. f (suc l)))

deep_is : (n : ℕ) (before : List Token) (t : Token) (rest : List Token) → ShallowFrom n before → max_nesting < nesting_from n (before ++ t ∷ []) → too_deep n (before ++ t ∷ rest) ≡ Some t.line
deep_is n [] t rest f many = rw (lt-ltb max_nesting (opened n t.kind) many) refl
deep_is n (b ∷ before) t rest f many = rw (le-ltb max_nesting (opened n b.kind) (first_low n b before f)) (deep_is (opened n b.kind) before t rest (λ l. f (suc l)) many)

pub not_deep : (ts : List Token) → too_deep 0 ts ≡ None → Shallow ts
not_deep ts h = is_shallow 0 ts (omega arith) h

pub deep_first : (ts : List Token) (line : ℕ) → too_deep 0 ts ≡ Some line → Deep ts line
deep_first ts line h =
    let d = is_deep 0 ts line (omega arith) h in
    record { before = d.before; token = d.token; rest = d.rest; cut = d.cut; shallow = d.shallow; many = d.many; on = d.on }

pub shallow_none : (ts : List Token) → Shallow ts → too_deep 0 ts ≡ None
shallow_none ts f = shallow_is 0 ts f

pub deep_some : (ts : List Token) (line : ℕ) → Deep ts line → too_deep 0 ts ≡ Some line
deep_some ts line d = ap (too_deep 0) d.cut ∙ deep_is 0 d.before d.token d.rest d.shallow d.many ∙ ap Some (sym d.on)
