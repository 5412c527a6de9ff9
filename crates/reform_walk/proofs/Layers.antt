-- Expressions with lists in them, as they are walked.
use Rattle.std.proofs.Common.{◌≡◌, refl, ap, ◌∙◌, sym, List, [], ◌∷◌, ℕ, map, Some, None, ◌⊎◌, inl, inr}
use Rattle.py_ast.specs.declared.expr.Item.{Item}
use Rattle.py_ast.specs.declared.expr.Item.TheVariants as item
use Rattle.py_ast.specs.declared.expr.Entry.{Entry}
use Rattle.py_ast.specs.declared.expr.Entry.TheVariants as entry
use Rattle.py_ast.specs.declared.expr.Argument.{Argument}
use Rattle.py_ast.specs.declared.expr.Argument.TheVariants as argument
use Rattle.py_ast.specs.declared.expr.Param.{Param}
use Rattle.py_ast.specs.declared.expr.Param.TheVariants as param
use Rattle.py_ast.specs.declared.expr.Clause.{Clause}
use Rattle.py_ast.specs.declared.expr.Clause.TheVariants as clause
use Rattle.py_ast.specs.declared.expr.Clauses.{Clauses}
use Rattle.py_ast.specs.declared.expr.Expr.{Expr, fold-roll-Expr, map-Expr}
use Rattle.py_ast.specs.declared.expr.Expr.TheOpen.{Expr-F}
use Rattle.py_ast.specs.declared.expr.Expr.TheVariants as e
use Rattle.py_ast.specs.declared.expr.Expr.TheVariants.{rolls-Tuple, rolls-List, rolls-Dict, rolls-ListComprehension, rolls-DictComprehension, rolls-Generator, rolls-Call, rolls-Lambda}
use Rattle.py_scopes.specs.Parts.{item_of, entry_of, argument_of, param_of, clauses_of}
use Rattle.carried_codes.specs.Places as places
use Rattle.py_meaning.specs.Resolved.{Context}
use Rattle.walk_laws.specs.Expressions.{Part, expr, expr_part, aimed}
use Rattle.walk_laws.specs.States.{State, Walked}

abbrev with_item : Item Part → Expr-F Part → Expr-F Part
with_item x (Expr-F.Tuple line xs) = Expr-F.Tuple line (x ∷ xs)
with_item x (Expr-F.List line xs) = Expr-F.List line (x ∷ xs)
with_item x y = y

tuple_layer : (line : ℕ) (xs : List (Item Expr)) → map-Expr Expr Part expr (Expr-F.Tuple line xs) ≡ Expr-F.Tuple line (map (item_of expr) xs)
tuple_layer line [] = refl
tuple_layer line (item.One x ∷ xs) = ap (with_item (item.One (expr x))) (tuple_layer line xs)
tuple_layer line (item.Star l x ∷ xs) = ap (with_item (item.Star l (expr x))) (tuple_layer line xs)

list_layer : (line : ℕ) (xs : List (Item Expr)) → map-Expr Expr Part expr (Expr-F.List line xs) ≡ Expr-F.List line (map (item_of expr) xs)
list_layer line [] = refl
list_layer line (item.One x ∷ xs) = ap (with_item (item.One (expr x))) (list_layer line xs)
list_layer line (item.Star l x ∷ xs) = ap (with_item (item.Star l (expr x))) (list_layer line xs)

abbrev with_entry : Entry Part → Expr-F Part → Expr-F Part
with_entry x (Expr-F.Dict line xs) = Expr-F.Dict line (x ∷ xs)
with_entry x y = y

dict_layer : (line : ℕ) (xs : List (Entry Expr)) → map-Expr Expr Part expr (Expr-F.Dict line xs) ≡ Expr-F.Dict line (map (entry_of expr) xs)
dict_layer line [] = refl
dict_layer line (entry.Pair k x ∷ xs) = ap (with_entry (entry.Pair (expr k) (expr x))) (dict_layer line xs)
dict_layer line (entry.Merge x ∷ xs) = ap (with_entry (entry.Merge (expr x))) (dict_layer line xs)

abbrev with_argument : Argument Part → Expr-F Part → Expr-F Part
with_argument a (Expr-F.Call line f xs) = Expr-F.Call line f (a ∷ xs)
with_argument a y = y

call_layer : (line : ℕ) (f : Expr) (xs : List (Argument Expr)) → map-Expr Expr Part expr (Expr-F.Call line f xs) ≡ Expr-F.Call line (expr f) (map (argument_of expr) xs)
call_layer line f [] = refl
call_layer line f (argument.Plain x ∷ xs) = ap (with_argument (argument.Plain (expr x))) (call_layer line f xs)
call_layer line f (argument.Star x ∷ xs) = ap (with_argument (argument.Star (expr x))) (call_layer line f xs)
call_layer line f (argument.Keyword l name x ∷ xs) = ap (with_argument (argument.Keyword l name (expr x))) (call_layer line f xs)
call_layer line f (argument.Merge x ∷ xs) = ap (with_argument (argument.Merge (expr x))) (call_layer line f xs)

abbrev with_param : Param Part → Expr-F Part → Expr-F Part
with_param p (Expr-F.Lambda line ps body) = Expr-F.Lambda line (p ∷ ps) body
with_param p y = y

lambda_layer : (line : ℕ) (ps : List (Param Expr)) (body : Expr) → map-Expr Expr Part expr (Expr-F.Lambda line ps body) ≡ Expr-F.Lambda line (map (param_of expr) ps) (expr body)
lambda_layer line [] body = refl
lambda_layer line (param.Named l x None ∷ ps) body = ap (with_param (param.Named l x None)) (lambda_layer line ps body)
lambda_layer line (param.Named l x (Some d) ∷ ps) body = ap (with_param (param.Named l x (Some (expr d)))) (lambda_layer line ps body)
lambda_layer line (param.Slash l ∷ ps) body = ap (with_param (param.Slash l)) (lambda_layer line ps body)
lambda_layer line (param.Star l x ∷ ps) body = ap (with_param (param.Star l x)) (lambda_layer line ps body)
lambda_layer line (param.DoubleStar l x ∷ ps) body = ap (with_param (param.DoubleStar l x)) (lambda_layer line ps body)

abbrev behind_clause : Clause Part → Clauses Part → Clauses Part
behind_clause c cs = record { target = cs.target; iterable = cs.iterable; more = c ∷ cs.more }

abbrev with_clause : Clause Part → Expr-F Part → Expr-F Part
with_clause c (Expr-F.ListComprehension line x cs) = Expr-F.ListComprehension line x (behind_clause c cs)
with_clause c (Expr-F.DictComprehension line x y cs) = Expr-F.DictComprehension line x y (behind_clause c cs)
with_clause c (Expr-F.Generator line x cs) = Expr-F.Generator line x (behind_clause c cs)
with_clause c y = y

abbrev clauses_from : Expr → Expr → List (Clause Expr) → Clauses Expr
clauses_from to over more = record { target = to; iterable = over; more = more }

list_comprehension_layer : (line : ℕ) (x to over : Expr) (more : List (Clause Expr)) → map-Expr Expr Part expr (Expr-F.ListComprehension line x (clauses_from to over more)) ≡ Expr-F.ListComprehension line (expr x) (clauses_of expr (clauses_from to over more))
list_comprehension_layer line x to over [] = refl
list_comprehension_layer line x to over (clause.For l a b ∷ more) = ap (with_clause (clause.For l (expr a) (expr b))) (list_comprehension_layer line x to over more)
list_comprehension_layer line x to over (clause.If l a ∷ more) = ap (with_clause (clause.If l (expr a))) (list_comprehension_layer line x to over more)

dict_comprehension_layer : (line : ℕ) (x y to over : Expr) (more : List (Clause Expr)) → map-Expr Expr Part expr (Expr-F.DictComprehension line x y (clauses_from to over more)) ≡ Expr-F.DictComprehension line (expr x) (expr y) (clauses_of expr (clauses_from to over more))
dict_comprehension_layer line x y to over [] = refl
dict_comprehension_layer line x y to over (clause.For l a b ∷ more) = ap (with_clause (clause.For l (expr a) (expr b))) (dict_comprehension_layer line x y to over more)
dict_comprehension_layer line x y to over (clause.If l a ∷ more) = ap (with_clause (clause.If l (expr a))) (dict_comprehension_layer line x y to over more)

generator_layer : (line : ℕ) (x to over : Expr) (more : List (Clause Expr)) → map-Expr Expr Part expr (Expr-F.Generator line x (clauses_from to over more)) ≡ Expr-F.Generator line (expr x) (clauses_of expr (clauses_from to over more))
generator_layer line x to over [] = refl
generator_layer line x to over (clause.For l a b ∷ more) = ap (with_clause (clause.For l (expr a) (expr b))) (generator_layer line x to over more)
generator_layer line x to over (clause.If l a ∷ more) = ap (with_clause (clause.If l (expr a))) (generator_layer line x to over more)

module _ (x : Expr) (line : ℕ) where
  pub tuple_is : (xs : List (Item Expr)) → x ≡ e.Tuple line xs → expr x ≡ expr_part (Expr-F.Tuple line (map (item_of expr) xs))
  tuple_is xs is = ap expr (is ∙ sym (rolls-Tuple line xs)) ∙ fold-roll-Expr Part expr_part (Expr-F.Tuple line xs) ∙ ap expr_part (tuple_layer line xs)

  pub list_is : (xs : List (Item Expr)) → x ≡ e.List line xs → expr x ≡ expr_part (Expr-F.List line (map (item_of expr) xs))
  list_is xs is = ap expr (is ∙ sym (rolls-List line xs)) ∙ fold-roll-Expr Part expr_part (Expr-F.List line xs) ∙ ap expr_part (list_layer line xs)

  pub dict_is : (xs : List (Entry Expr)) → x ≡ e.Dict line xs → expr x ≡ expr_part (Expr-F.Dict line (map (entry_of expr) xs))
  dict_is xs is = ap expr (is ∙ sym (rolls-Dict line xs)) ∙ fold-roll-Expr Part expr_part (Expr-F.Dict line xs) ∙ ap expr_part (dict_layer line xs)

  pub call_is : (f : Expr) (xs : List (Argument Expr)) → x ≡ e.Call line f xs → expr x ≡ expr_part (Expr-F.Call line (expr f) (map (argument_of expr) xs))
  call_is f xs is = ap expr (is ∙ sym (rolls-Call line f xs)) ∙ fold-roll-Expr Part expr_part (Expr-F.Call line f xs) ∙ ap expr_part (call_layer line f xs)

  pub lambda_is : (ps : List (Param Expr)) (body : Expr) → x ≡ e.Lambda line ps body → expr x ≡ expr_part (Expr-F.Lambda line (map (param_of expr) ps) (expr body))
  lambda_is ps body is = ap expr (is ∙ sym (rolls-Lambda line ps body)) ∙ fold-roll-Expr Part expr_part (Expr-F.Lambda line ps body) ∙ ap expr_part (lambda_layer line ps body)

  pub list_comprehension_is : (y : Expr) (cs : Clauses Expr) → x ≡ e.ListComprehension line y cs → expr x ≡ expr_part (Expr-F.ListComprehension line (expr y) (clauses_of expr cs))
  list_comprehension_is y cs is =
      ap expr (is ∙ sym (rolls-ListComprehension line y cs)) ∙ fold-roll-Expr Part expr_part (Expr-F.ListComprehension line y cs)
      ∙ ap expr_part (list_comprehension_layer line y cs.target cs.iterable cs.more)

  pub dict_comprehension_is : (y z : Expr) (cs : Clauses Expr) → x ≡ e.DictComprehension line y z cs → expr x ≡ expr_part (Expr-F.DictComprehension line (expr y) (expr z) (clauses_of expr cs))
  dict_comprehension_is y z cs is =
      ap expr (is ∙ sym (rolls-DictComprehension line y z cs)) ∙ fold-roll-Expr Part expr_part (Expr-F.DictComprehension line y z cs)
      ∙ ap expr_part (dict_comprehension_layer line y z cs.target cs.iterable cs.more)

  pub generator_is : (y : Expr) (cs : Clauses Expr) → x ≡ e.Generator line y cs → expr x ≡ expr_part (Expr-F.Generator line (expr y) (clauses_of expr cs))
  generator_is y cs is =
      ap expr (is ∙ sym (rolls-Generator line y cs)) ∙ fold-roll-Expr Part expr_part (Expr-F.Generator line y cs)
      ∙ ap expr_part (generator_layer line y cs.target cs.iterable cs.more)

  pub aimed_is : (xs : List (Item Expr)) (c : Context) (s : State) → (x ≡ e.Tuple line xs) ⊎ (x ≡ e.List line xs) → (expr x).target c s ≡ aimed c line (map (item_of expr) xs) s
  aimed_is xs c s (inl is) = ap (λ q. q.target c s) (tuple_is xs is)
  aimed_is xs c s (inr is) = ap (λ q. q.target c s) (list_is xs is)
