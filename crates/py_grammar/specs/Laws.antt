-- What ties the grammar to the parser: what is spelled is read, and what is read is spelled.
use Rattle.std.specs.Prelude.{◌≡◌, ℕ, ◌≤◌, Bool, true, List, ◌++◌, Some}
use Rattle.py_ast.specs.declared.token.Token.{Token}
use Rattle.py_grammar.specs.declared.found.Found.{Found}
use Rattle.py_grammar.specs.declared.role.Mark.{Mark}
use Rattle.py_grammar.specs.Levels.{mark}
use Rattle.py_grammar.specs.Parse.{Parser, found}

-- tokens that spell a tree of height at most d are read as that tree, where what follows them may follow
abbrev pub IsRead : {A : Type 0} → (ℕ → A → List Token → Type 0) → (Mark → Bool) → (ℕ → Parser (Found A)) → Type 0
IsRead {A} Spelled follows read = (h : ℕ) (x : A) (used : List Token) → Spelled h x used → (d : ℕ) → h ≤ d → (rest : List Token) → follows (mark rest) ≡ true → read d (used ++ rest) ≡ Some (found x h, rest)

-- the front of the tokens spells what was read, and the rest is left
pub record Took {A : Type 0} (Spelled : ℕ → A → List Token → Type 0) (d : ℕ) (i : List Token) (p : Found A × List Token) : Type 0 where
  pub used : List Token
  pub cut : i ≡ used ++ p.1
  pub tree : Spelled p.0.height p.0.tree used
  pub low : p.0.height ≤ d

abbrev pub IsSpelled : {A : Type 0} → (ℕ → A → List Token → Type 0) → (ℕ → Parser (Found A)) → Type 0
IsSpelled {A} Spelled read = (d : ℕ) (i : List Token) (p : Found A × List Token) → read d i ≡ Some p → Took Spelled d i p
