-- A function value that parses expressions at a smaller fuel.
use Rattle.std.specs.Prelude.{ℕ, List, Result}
use Rattle.std.specs.declared.alloc.Global.{Global}
use denote.Ref.{MutBor}
use Rattle.py_ast.specs.declared.token.Token.{Token}
use Rattle.py_ast.specs.declared.expr.Expr.{Expr}
use Rattle.py_grammar.specs.declared.found.Found.{Found}
use Rattle.py_grammar.specs.declared.found.ParseEnd.{ParseEnd}
use Rattle.py_grammar.specs.Parse.{Reads, parse}

pub record Nests (fuel : ℕ) (pre : Global → MutBor (List Token) → ℕ → ℕ → ℕ → Type 0)
    (post : Global → MutBor (List Token) → ℕ → ℕ → ℕ → Result (Found Expr) ParseEnd → MutBor (List Token) → Type 0) : Type 0 where
  pub callable : (alloc : Global) (old : MutBor (List Token)) (least depth : ℕ) → pre alloc old fuel least depth
  pub reads : (alloc : Global) (old new : MutBor (List Token)) (least depth : ℕ) (r : Result (Found Expr) ParseEnd) → post alloc old fuel least depth r new
      → Reads (parse fuel least depth old.now) r new.now
