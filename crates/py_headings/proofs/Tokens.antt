-- Tokens with lines, and with names where they are names.
use Rattle.std.proofs.Common.{◌≡◌, ℕ, ◌<◌, List, [], ◌∷◌, ◌++◌, sym, subst}
use Rattle.std.specs.List.{AllByRecursion}
use Rattle.py_ast.specs.declared.token.Token.{Token}
use Rattle.py_ast.specs.declared.token.TokenKind.TheVariants as k
use Rattle.py_grammar.specs.Levels.{line}
use Rattle.py_grammar.proofs.Starts.{Begins}
use Rattle.py_headings.specs.Laws.{IsName}

pub record IsSound (t : Token) : Type 0 where
  pub from_one : 0 < t.line
  pub named : (name : List ℕ) → t.kind ≡ k.Name name → IsName name

abbrev pub Sound : List Token → Type 0
Sound ts = AllByRecursion IsSound ts

pub left : (xs ys : List Token) → Sound (xs ++ ys) → Sound xs
left [] ys v = tt
left (x ∷ xs) ys v = (v.0, left xs ys v.1)

pub right : (xs ys : List Token) → Sound (xs ++ ys) → Sound ys
right [] ys v = v
right (x ∷ xs) ys v = right xs ys v.1

pub first_line : (l : ℕ) (ts : List Token) → Begins l ts → Sound ts → 0 < line ts
first_line l ts b v = let w = subst Sound b.cut v in subst (λ us. 0 < line us) (sym b.cut) w.0.from_one
