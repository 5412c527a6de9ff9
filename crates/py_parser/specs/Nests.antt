-- A function value that parses blocks at a smaller fuel.
use Rattle.std.specs.Prelude.{ℕ, List, Result}
use Rattle.std.specs.declared.alloc.Global.{Global}
use denote.Ref.{MutBor}
use Rattle.py_ast.specs.declared.token.Token.{Token}
use Rattle.py_ast.specs.declared.stmt.Stmt.{Stmt}
use Rattle.py_grammar.specs.declared.found.Found.{Found}
use Rattle.py_grammar.specs.declared.found.ParseEnd.{ParseEnd}
use Rattle.py_grammar.specs.Parse.{Reads}
use Rattle.py_statements.specs.Parse.{parse}

pub record Nests (fuel : ℕ) (pre : Global → MutBor (List Token) → ℕ → ℕ → Type 0)
    (post : Global → MutBor (List Token) → ℕ → ℕ → Result (Found (List Stmt)) ParseEnd → MutBor (List Token) → Type 0) : Type 0 where
  pub callable : (alloc : Global) (old : MutBor (List Token)) (depth : ℕ) → pre alloc old fuel depth
  pub reads : (alloc : Global) (old new : MutBor (List Token)) (depth : ℕ) (r : Result (Found (List Stmt)) ParseEnd) → post alloc old fuel depth r new
      → Reads (parse fuel depth old.now) r new.now
