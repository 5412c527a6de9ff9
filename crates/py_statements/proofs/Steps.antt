-- What the steps of the parser do on tokens that are known.
use Rattle.std.proofs.Common.{◌≡◌, ℕ, ◌+◌, max, ◌<◌, ◌≤◌, Bool, true, cond, List, [], ◌∷◌, ◌++◌, Some, None, ap, ◌∙◌, arith, append_assoc}
use Rattle.std.proofs.lemmas.Bool.{lt-ltb}
use Rattle.py_ast.specs.declared.token.Token.{Token}
use Rattle.py_ast.specs.declared.stmt.Stmt.{Stmt}
use Rattle.py_grammar.specs.declared.found.Found.{Found}
use Rattle.py_grammar.specs.declared.role.Mark.{Mark}
use Rattle.py_grammar.specs.Levels.{mark_of}
use Rattle.py_grammar.specs.Parse.{found}
use Rattle.py_grammar.proofs.Lists.{joined}
use Rattle.py_statements.specs.Parse.{made, pass}

pub made_enough : (d h : ℕ) (x : Stmt) (i : List Token) → h + 1 ≤ d → made d h x i ≡ Some (found x (h + 1), i)
unfolding made
made_enough d h x i low = let b : h < d = omega arith in ap (λ b. cond b (Some (found x (h + 1), i)) None) (lt-ltb h d b)

pub passes : (is : Mark → Bool) (t : Token) (i : List Token) → is (mark_of t.kind) ≡ true → pass is (t ∷ i) ≡ Some (tt, i)
unfolding pass
passes is t i h = ap (λ b. cond b (Some (tt, i)) None) h

-- a list behind another one, with its height
pub joined-append : {A : Type 0} (acc : Found (List A)) (xs ys : List A) (g h : ℕ) → joined (joined acc xs g) ys h ≡ joined acc (xs ++ ys) (max g h)
joined-append {A} acc xs ys g h =
    let f : List A → ℕ → Found (List A) = λ i h. found i h in
    let same : max (max acc.height g) h ≡ max acc.height (max g h) = omega arith in
    ap (λ i. f i (max (max acc.height g) h)) (append_assoc acc.tree xs ys) ∙ ap (f (acc.tree ++ (xs ++ ys))) same

pub joined-empty : {A : Type 0} (xs : List A) (h : ℕ) → joined (found [] 0) xs h ≡ found xs h
joined-empty {A} xs h =
    let f : List A → ℕ → Found (List A) = λ i h. found i h in
    let same : max 0 h ≡ h = omega arith in
    ap (f xs) same
