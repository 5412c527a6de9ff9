-- The whole script.
use Rattle.std.proofs.Common.{◌≡◌, ℕ, ◌+◌, ◌≤◌, true, false, List, [], ◌∷◌, ◌++◌, length, Option, Some, None, Result, Ok, Err, refl, ap, ◌∙◌, sym, subst, arith, append-nil}
use Rattle.py_ast.specs.declared.token.Token.{Token}
use Rattle.py_ast.specs.declared.stmt.Stmt.{Stmt}
use Rattle.py_ast.specs.declared.stmt.Script.{Script}
use Rattle.py_grammar.specs.declared.found.Found.{Found}
use Rattle.py_grammar.specs.declared.found.ParseEnd.{ParseEnd}
use Rattle.py_grammar.specs.declared.found.ParseEnd.TheVariants as ends
use Rattle.py_ast.specs.declared.token.TokenKind.{TokenKind}
use Rattle.py_ast.specs.declared.token.TokenKind.TheVariants as k
use Rattle.py_grammar.specs.Levels.{mark, mark_of}
use Rattle.py_grammar.specs.Grammar.{max_depth}
use Rattle.py_grammar.specs.Parse.{found, Refuses}
use Rattle.py_grammar.proofs.Apart.{some_inj}
use Rattle.py_statements.specs.Words.{closes}
use Rattle.py_statements.specs.Grammar.{Statements}
use Rattle.py_statements.specs.Nesting.{too_deep}
use Rattle.py_statements.specs.Script.{Tree, Answers, Agree}
use Rattle.py_statements.specs.Parse.{parse, statements_from, statements, script}
use Rattle.py_statements.proofs.Steps.{joined-empty}
use Rattle.py_statements.proofs.Apart.{whole}
use Rattle.py_statements.proofs.Complete.{statements_read}
use Rattle.py_statements.proofs.BlocksSpelled.{statements_spelled, statements_closed, parse_spelled}
use Rattle.py_statements.proofs.Nesting.{not_deep, shallow_none, deep_some}

abbrev Outcome : Type 0
Outcome = Option (Found (List Stmt) × List Token)

pub script_reads : (h : ℕ) (xs : List Stmt) (tokens : List Token) → h ≤ max_depth → Statements h xs tokens → script tokens ≡ Some (found xs h, [])
unfolding script statements
script_reads h xs tokens low a =
    let n = length tokens in
    ap (λ i. statements_from (parse n) max_depth false (n + 1) (found [] 0) i) (sym (append-nil tokens))
    ∙ statements_read a n (omega arith) max_depth low false (n + 1) (omega arith) (found [] 0) [] refl ∙ ap (λ l. Some (l, [])) (joined-empty xs h)

at_end : (i : List Token) → closes false (mark i) ≡ true → i ≡ []
at_end [] h = refl
at_end (t ∷ i) h = absurd (no_end t.kind h)
  where
    no_end : (q : TokenKind) → closes false (mark_of q) ≡ true → ⊥
    no_end (k.Name x) h = cc
    no_end (k.Keyword x) h = cc
    no_end (k.Number x) h = cc
    no_end (k.Text x) h = cc
    no_end (k.Sign x) h = cc
    no_end k.Newline h = cc
    no_end k.Indent h = cc
    no_end k.Dedent h = cc

-- what is read is a tree
pub is_tree : (tokens : List Token) (f : Found (List Stmt)) (rest : List Token) (x : Script) → x.statements ≡ f.tree → script tokens ≡ Some (f, rest) → Tree tokens x
unfolding script statements
is_tree tokens f rest x same h =
    let n = length tokens in
    let t = whole (statements_spelled (parse n) (parse_spelled n) max_depth false (n + 1) (found [] 0) tokens (f, rest) h) in
    let end = at_end rest (statements_closed (parse n) (parse_spelled n) max_depth false (n + 1) (found [] 0) tokens (f, rest) h) in
    let all : t.used ≡ tokens = sym (append-nil t.used) ∙ ap (λ l. t.used ++ l) (sym end) ∙ sym t.cut in
    record { height = f.height; low = t.low; spelled = subst (λ l. Statements f.height l tokens) (sym same) (subst (λ l. Statements f.height f.tree l) all t.tree) }

tree_reads : (tokens : List Token) (x : Script) (t : Tree tokens x) → script tokens ≡ Some (found x.statements t.height, [])
tree_reads tokens x t = script_reads t.height x.statements tokens t.low t.spelled

pub one_tree : (tokens : List Token) (x y : Script) → Tree tokens x → Tree tokens y → x ≡ y
one_tree tokens x y s t =
    let make : List Stmt → Script = λ l. record { statements = l } in
    ap (λ p. make p.0.tree) (some_inj (sym (tree_reads tokens x s) ∙ tree_reads tokens y t))

-- where nothing is read there is no tree
pub no_tree : (tokens : List Token) → script tokens ≡ None → (x : Script) → Tree tokens x → ⊥
no_tree tokens h x t = let e : ◌≡◌ {A = Outcome} None (Some (found x.statements t.height, [])) = sym h ∙ tree_reads tokens x t in cc

pub answers_err : (tokens : List Token) (end : ParseEnd) → too_deep 0 tokens ≡ None → Refuses (script tokens) end → Answers tokens (Err end)
answers_err tokens (ends.Grammar line) shallow h = (not_deep tokens shallow, no_tree tokens h)
answers_err tokens (ends.Depth line) shallow h = absurd h
answers_err tokens ends.Memory shallow h = tt

deep_and_shallow : (tokens : List Token) (line : ℕ) → too_deep 0 tokens ≡ Some line → too_deep 0 tokens ≡ None → ⊥
deep_and_shallow tokens line d s = let e : ◌≡◌ {A = Option ℕ} (Some line) None = sym d ∙ s in cc

pub one_answer : (tokens : List Token) (r q : Result Script ParseEnd) → Answers tokens r → Answers tokens q → Agree r q
one_answer tokens (Ok x) (Ok y) a b = one_tree tokens x y a.1 b.1
one_answer tokens (Ok x) (Err (ends.Grammar line)) a b = b.1 x a.1
one_answer tokens (Ok x) (Err (ends.Depth line)) a b = deep_and_shallow tokens line (deep_some tokens line b) (shallow_none tokens a.0)
one_answer tokens (Ok x) (Err ends.Memory) a b = tt
one_answer tokens (Err (ends.Grammar line)) (Ok y) a b = a.1 y b.1
one_answer tokens (Err (ends.Grammar line)) (Err (ends.Grammar other)) a b = tt
one_answer tokens (Err (ends.Grammar line)) (Err (ends.Depth other)) a b = deep_and_shallow tokens other (deep_some tokens other b) (shallow_none tokens a.0)
one_answer tokens (Err (ends.Grammar line)) (Err ends.Memory) a b = tt
one_answer tokens (Err (ends.Depth line)) (Ok y) a b = deep_and_shallow tokens line (deep_some tokens line a) (shallow_none tokens b.0)
one_answer tokens (Err (ends.Depth line)) (Err (ends.Grammar other)) a b = deep_and_shallow tokens line (deep_some tokens line a) (shallow_none tokens b.0)
one_answer tokens (Err (ends.Depth line)) (Err (ends.Depth other)) a b = some_inj (sym (deep_some tokens line a) ∙ deep_some tokens other b)
one_answer tokens (Err (ends.Depth line)) (Err ends.Memory) a b = tt
one_answer tokens (Err ends.Memory) q a b = tt
